-- Records in their chains, and marks of modules.
use Prim.Native.Nat.{ℕ, zero, suc, ◌+◌, ◌-◌, ◌*◌, ◌≤◌, ◌<◌}
use mathlib.Core.Path.{◌≡◌, refl, sym, ◌∙◌, ap, subst}
use mathlib.Core.List.{List}
use mathlib.Core.Bool.{Bool, true, false, ◌&&◌, ◌||◌, not, and-true}
use native.Mathlib.Omega.{arith}
use lib.Dec.{eqb, ltb, lit<}
use lib.ListN.{length, get_or, set}
use lib.Seq.{get_or-set_other}
use borrow.Author.Tests.{eqb-true, eqb-false, eq-eqb, ne_eqb, ltb-true}
use Rattle.snapshot.specs.Lists.{rows, any}
use Rattle.snapshot.specs.Limits.{word_limit, module_limit, name_limit, area_limit}
use Rattle.snapshot.specs.Words.{pay_of}
use Rattle.snapshot.specs.Sizes.{child_size, definition_size, scope_size, extern_size}
use Rattle.snapshot.specs.Records.{Map, Definition, name_at, child_at, definition_at}
use Rattle.snapshot.specs.Layouts.{child_base, definition_base, scope_base, extern_base, name_head, row_words}
use Rattle.snapshot.specs.declared.layout.Layout.{Layout}
use Rattle.check_records.specs.chains.Chains.{name_key, record_key, slot_of, Marked, Last, Chained, linked, keys, name_heads, scope_heads}
use Rattle.check_records.specs.chains.Chains.{extern_heads}
use Rattle.check_records.specs.chains.Chains.{child_marks}
use Rattle.check_records.specs.chains.Chains.{module_marks, marks_end, name_links, scope_links, extern_links}
use Rattle.check_records.proofs.chains.Laws.{marked_kept, marked_more, chained_kept, chained_linked, linked_other, first_of, next_of, Walking}
use Rattle.check_records.proofs.chains.Laws.{walk_start, walk_hit}
use Rattle.check_records.proofs.chains.Laws.{walk_miss, walk_end_lem}
use Rattle.check_rules.specs.Tests.{Counts, child_defined, definition_defined}
use Rattle.check_records.specs.record_rules.Stands.{number_of, same_by, counts_in, Indexes, Stands}
use Rattle.check_records.proofs.record_rules.Laws.{step_le}
use Rattle.check_records.proofs.record_rules.Judged.{passes, any_same, and_left, and_right}
use Rattle.check_records.proofs.record_rules.Indexed.{Kept, key_small}
use Rattle.check_records.proofs.record_rules.Grows.{one_more}

-- one record more in its chain: the tables stay, and the chains are those of the layout
pub record Linked (W A B : List ℕ) (l : Layout) : Type 0 where
  pub kept : Kept A B 0 row_words
  pub index : Indexes W B l

module _ (W A : List ℕ) (l : Layout) (ix : Indexes W A l) {base : ℕ} where
  pub scope_chain : base ≡ scope_base l → Chained A scope_heads scope_links (λ i. record_key W 2 (base + scope_size * i)) l.scopes
  scope_chain e = subst (λ b. Chained A scope_heads scope_links (λ i. record_key W 2 (b + scope_size * i)) l.scopes) (sym e) ix.scopes

  pub extern_chain : base ≡ extern_base l → Chained A extern_heads extern_links (λ i. record_key W 1 (base + extern_size * i)) l.externs
  extern_chain e = subst (λ b. Chained A extern_heads extern_links (λ i. record_key W 1 (b + extern_size * i)) l.externs) (sym e) ix.externs

module _ (W A : List ℕ) (at : ℕ) (l : Layout) (ms : List Map) {key : ℕ} {B : List ℕ} (short : length W ≤ word_limit)
    (large : area_limit ≤ length A) where
  pub scope_linked : Stands W A 9 at l ms → at + scope_size ≤ length W → key ≡ record_key W 2 at → B ≡ linked A scope_heads scope_links key l.scopes
      → Linked W A B (one_more 9 l)
  scope_linked st fits ek eb = subst (λ C. Linked W A C (one_more 9 l)) (sym eb)
      (record { kept = λ i p q. other i (omega arith) (omega arith); index = grown })
    where
      small : key < keys
      small = key_small _ ek

      ze : l.externs ≡ 0
      ze = st.upto.externs (lit< tt)

      here : scope_base l + scope_size * l.scopes ≡ at
      here = let zi : l.imports ≡ 0 = st.upto.imports (lit< tt) in let zb : l.members ≡ 0 = st.upto.members (lit< tt) in let q =
          ze in let p = st.place in omega arith

      other : (i : ℕ) → (scope_heads ≤ i → i < scope_heads + keys → ⊥) → (scope_links ≤ i → ⊥)
          → get_or (linked A scope_heads scope_links key l.scopes) i 0 ≡ get_or A i 0
      other i p q = let h = small in linked_other A scope_heads scope_links key l.scopes i (λ e. p (omega arith) (omega arith))
          (λ e. q (omega arith))

      grown : Indexes W (linked A scope_heads scope_links key l.scopes) (one_more 9 l)
      grown =
          let ix = st.index in
          let few = st.limited.names in
          let e = here in
          record {
            names =
                chained_kept A _ name_heads name_links _ _ l.names ix.names (λ b h. other _ (omega arith) (omega arith))
                (λ i h. other _ (omega arith) (omega arith))
                (λ i h. ap (λ x. name_key (name_at W x)) (other i (omega arith) (omega arith)));
            children = marked_kept A _ child_marks _ _ l.children ix.children (λ m h. other _ (omega arith) (omega arith)) (λ i h. refl);
            definitions = marked_kept A _ module_marks _ _ l.definitions ix.definitions (λ m h. other _ (omega arith) (omega arith))
                (λ i h. refl);
            scopes = chained_linked A scope_heads scope_links key l.scopes (λ i. record_key W 2 (scope_base l + scope_size * i))
                ix.scopes (omega arith) (omega arith) small (ap (record_key W 2) here ∙ sym ek);
            externs =
                chained_kept A _ extern_heads extern_links _ _ l.externs ix.externs (λ b h. other _ (omega arith) (omega arith))
                (λ i h. (let z = ze in absurd (omega arith)))
                (λ i h. (let z = ze in absurd (omega arith)));
          }

  pub extern_linked : Stands W A 11 at l ms → at + extern_size ≤ length W → key ≡ record_key W 1 at
      → B ≡ linked A extern_heads extern_links key l.externs → Linked W A B (one_more 11 l)
  extern_linked st fits ek eb = subst (λ C. Linked W A C (one_more 11 l)) (sym eb)
      (record { kept = λ i p q. other i (omega arith) (omega arith); index = grown })
    where
      small : key < keys
      small = key_small _ ek

      here : extern_base l + extern_size * l.externs ≡ at
      here = let zb : l.members ≡ 0 = st.upto.members (lit< tt) in let p = st.place in omega arith

      other : (i : ℕ) → (extern_heads ≤ i → i < extern_heads + keys → ⊥) → (extern_links ≤ i → ⊥)
          → get_or (linked A extern_heads extern_links key l.externs) i 0 ≡ get_or A i 0
      other i p q = let h = small in linked_other A extern_heads extern_links key l.externs i (λ e. p (omega arith) (omega arith))
          (λ e. q (omega arith))

      grown : Indexes W (linked A extern_heads extern_links key l.externs) (one_more 11 l)
      grown =
          let ix = st.index in
          let few = st.limited.names in
          let e = here in
          record {
            names =
                chained_kept A _ name_heads name_links _ _ l.names ix.names (λ b h. other _ (omega arith) (omega arith))
                (λ i h. other _ (omega arith) (omega arith))
                (λ i h. ap (λ x. name_key (name_at W x)) (other i (omega arith) (omega arith)));
            children = marked_kept A _ child_marks _ _ l.children ix.children (λ m h. other _ (omega arith) (omega arith)) (λ i h. refl);
            definitions = marked_kept A _ module_marks _ _ l.definitions ix.definitions (λ m h. other _ (omega arith) (omega arith))
                (λ i h. refl);
            scopes =
                chained_kept A _ scope_heads scope_links _ _ l.scopes ix.scopes (λ b h. other _ (omega arith) (omega arith))
                (λ i h. other _ (omega arith) (omega arith))
                (λ i h. refl);
            externs = chained_linked A extern_heads extern_links key l.externs (λ i. record_key W 1 (extern_base l + extern_size * i))
                ix.externs (omega arith) (omega arith) small (ap (record_key W 1) here ∙ sym ek);
          }

-- one word of the marks set: the rest stays
module _ (W A : List ℕ) (l : Layout) (few : l.names ≤ name_limit) (i : ℕ) (low : child_marks ≤ i) (high : i ≤ marks_end) (ix : Indexes W A l) where
  mark_other : (j : ℕ) → (j ≡ i → ⊥) → get_or (set A i 1) j 0 ≡ get_or A j 0
  mark_other j h = get_or-set_other A i j 1 0 h

  names_stay : Chained (set A i 1) name_heads name_links (λ j. name_key (name_at W (name_head (set A i 1) j))) l.names
  names_stay =
      chained_kept A _ name_heads name_links _ _ l.names ix.names (λ b h. mark_other _ (omega arith)) (λ j h. mark_other _ (omega arith))
      (λ j h. ap (λ x. name_key (name_at W x)) (mark_other j (omega arith)))

  scopes_stay : (m : Layout) → l.scopes ≡ 0 → Chained (set A i 1) scope_heads scope_links (λ j. record_key W 2 (scope_base m + scope_size * j))
      l.scopes
  scopes_stay m z = chained_kept A _ scope_heads scope_links _ _ l.scopes ix.scopes (λ b h. mark_other _ (omega arith))
      (λ j h. absurd (omega arith)) (λ j h. absurd (omega arith))

  externs_stay : (m : Layout) → l.externs ≡ 0 → Chained (set A i 1) extern_heads extern_links (λ j. record_key W 1 (extern_base m + extern_size * j))
      l.externs
  externs_stay m z = chained_kept A _ extern_heads extern_links _ _ l.externs ix.externs (λ b h. mark_other _ (omega arith))
      (λ j h. absurd (omega arith)) (λ j h. absurd (omega arith))

module _ (W A : List ℕ) (at : ℕ) (l : Layout) (ms : List Map) {s : ℕ} (large : area_limit ≤ length A) where
  pub child_linked : Stands W A 6 at l ms → s ≡ (child_at W at).child → s < module_limit → Linked W A (set A (child_marks + s) 1) (one_more 6 l)
  child_linked st es small =
      let few = st.limited.names in
      let ix = st.index in
      let zd : l.definitions ≡ 0 = st.upto.definitions (lit< tt) in
      let zp : l.preludes ≡ 0 = st.upto.preludes (lit< tt) in
      let zs : l.scopes ≡ 0 = st.upto.scopes (lit< tt) in
      let zi : l.imports ≡ 0 = st.upto.imports (lit< tt) in
      let ze : l.externs ≡ 0 = st.upto.externs (lit< tt) in
      let zb : l.members ≡ 0 = st.upto.members (lit< tt) in
      let here : child_base l + child_size * l.children ≡ at = (let p = st.place in omega arith) in
      record {
        kept = λ i p q. get_or-set_other A (child_marks + s) i 1 0 (omega arith);
        index = record {
          names = names_stay W A l few (child_marks + s) (omega arith) (omega arith) ix;
          children = marked_more A child_marks (λ j. get_or W (child_base l + child_size * j + 1) 0) l.children s ix.children
              (omega arith) (ap (λ x. get_or W (x + 1) 0) here ∙ sym es);
          definitions = marked_kept A _ module_marks _ _ l.definitions ix.definitions
              (λ m h. get_or-set_other A (child_marks + s) (module_marks + m) 1 0 (omega arith)) (λ i h. absurd (omega arith));
          scopes = scopes_stay W A l few (child_marks + s) (omega arith) (omega arith) ix (one_more 6 l) zs;
          externs = externs_stay W A l few (child_marks + s) (omega arith) (omega arith) ix (one_more 6 l) ze;
        };
      }

  pub definition_linked : Stands W A 8 at l ms → s ≡ slot_of W at → s ≤ module_limit → Linked W A (set A (module_marks + s) 1) (one_more 8 l)
  definition_linked st es small =
      let few = st.limited.names in
      let ix = st.index in
      let zs : l.scopes ≡ 0 = st.upto.scopes (lit< tt) in
      let zi : l.imports ≡ 0 = st.upto.imports (lit< tt) in
      let ze : l.externs ≡ 0 = st.upto.externs (lit< tt) in
      let zb : l.members ≡ 0 = st.upto.members (lit< tt) in
      let here : definition_base l + definition_size * l.definitions ≡ at = (let p = st.place in omega arith) in
      record {
        kept = λ i p q. get_or-set_other A (module_marks + s) i 1 0 (omega arith);
        index = record {
          names = names_stay W A l few (module_marks + s) (omega arith) (omega arith) ix;
          children = marked_kept A _ child_marks _ _ l.children ix.children (λ m h. get_or-set_other A (module_marks + s)
              (child_marks + m) 1 0 (omega arith)) (λ i h. refl);
          definitions = marked_more A module_marks (λ j. slot_of W (definition_base l + definition_size * j)) l.definitions s
              ix.definitions (omega arith) (ap (slot_of W) here ∙ sym es);
          scopes = scopes_stay W A l few (module_marks + s) (omega arith) (omega arith) ix (one_more 8 l) zs;
          externs = externs_stay W A l few (module_marks + s) (omega arith) (omega arith) ix (one_more 8 l) ze;
        };
      }

-- a child whose tests pass is a module, and so is what a definition of kind 1 has
pub child_small : (W : List ℕ) (at : ℕ) (l : Layout) {n : ℕ} (b c d : Bool) → n ≡ number_of true b c d true
    → n ≡ 0 → b ≡ child_defined (counts_in l) (child_at W at)
    → (child_at W at).child < l.modules
child_small W at l b c d j z eb =
    let x = child_at W at in
    ltb-true _ _ (and_right (ltb x.owner l.modules) (ltb x.child l.modules) (sym eb ∙ (passes true b c d true (sym z ∙ j)).defined))

pub module_small : (n : Counts) (x : Definition) → definition_defined n x ≡ true → x.kind ≡ 1 → x.first < n.modules
module_small n x h e =
    let p = not (eqb x.kind 2) || ltb x.first n.definitions && ltb x.second n.names in
    let q = not (eqb x.kind 3) || ltb x.first n.names in
    let r = eqb x.kind 2 || eqb x.kind 3 || ltb x.first n.modules in
    let t : (eqb x.kind 2 || eqb x.kind 3 || ltb x.first n.modules) ≡ true = and_right (p && q) r h in
    ltb-true _ _ (ap (λ k. eqb k 2 || eqb k 3 || ltb x.first n.modules) (sym e) ∙ t)

pub slot_small : (W : List ℕ) (at : ℕ) (l : Layout) {n s : ℕ} (a b c d e : Bool) → n ≡ number_of a b c d e
    → n ≡ 0 → b ≡ definition_defined (counts_in l) (definition_at W at)
    → l.modules ≤ module_limit → s ≡ slot_of W at → s ≤ module_limit
unfolding slot_of
slot_small W at l a b c d e j z eb few es = rw es (by (eqb (pay_of (get_or W at 0)) 1) refl)
  where
    by : (t : Bool) → eqb (pay_of (get_or W at 0)) 1 ≡ t → ◌≤◌ (elim t [ true ↦ get_or W (at + 1) 0 | false ↦ module_limit ]) module_limit
    by true q = (let h = module_small (counts_in l) (definition_at W at) (sym eb ∙ (passes a b c d e (sym z ∙ j)).defined)
        (eqb-true _ _ q) in omega arith)
    by false q = omega arith

slot_same : (W : List ℕ) (at b : ℕ) → pay_of (get_or W at 0) ≡ 1 → get_or W (at + 1) 0 < module_limit → (t : Bool) → eqb (pay_of (get_or W b 0)) 1 ≡ t
    → eqb (get_or W (at + 1) 0) (slot_of W b) ≡ same_by W true 1 at b
unfolding slot_of
slot_same W at b ek small true q =
    let e : eqb (pay_of (get_or W at 0)) (pay_of (get_or W b 0)) ≡ true = eq-eqb _ _ (ek ∙ sym (eqb-true _ _ q)) in
    rw (slot_of, q, e) (sym (and-true _))
slot_same W at b ek small false q =
    let e : eqb (pay_of (get_or W at 0)) (pay_of (get_or W b 0)) ≡ false = ne_eqb _ _ (λ x. eqb-false _ _ q (sym x ∙ ek)) in
    rw (slot_of, q, e) (ne_eqb (get_or W (at + 1) 0) module_limit (λ x. omega arith))

-- a module's definition repeats an earlier one where its mark says so
pub module_again : (W A : List ℕ) (at base n : ℕ) → pay_of (get_or W at 0) ≡ 1 → get_or W (at + 1) 0 < module_limit
    → Marked A module_marks (λ j. slot_of W (base + definition_size * j)) n
    → not (eqb (get_or A (module_marks + get_or W (at + 1) 0) 0) 0) ≡ any (same_by W true 1 at) (rows (λ k. base + definition_size * k) 0 n)
module_again W A at base n ek small mk =
    mk.same (get_or W (at + 1) 0) small ∙ any_same _ _ _ _ 0 n (λ i. slot_same W at (base + definition_size * i) ek small
    (eqb (pay_of (get_or W (base + definition_size * i) 0)) 1) refl)

-- records that are the same have the same key
key_same : (W : List ℕ) (fields a b : ℕ) → 1 ≤ fields → fields ≤ 2 → same_by W true fields a b ≡ true → record_key W fields b ≡ record_key W fields a
key_same W zero a b p q e = absurd (omega arith)
key_same W (suc zero) a b p q e =
    let o = eqb (pay_of (get_or W a 0)) (pay_of (get_or W b 0)) in
    let f = eqb (get_or W (a + 1) 0) (get_or W (b + 1) 0) in
    let x : pay_of (get_or W a 0) ≡ pay_of (get_or W b 0) = eqb-true _ _ (and_left o f (and_left (o && f) true e)) in
    let y : get_or W (a + 1) 0 ≡ get_or W (b + 1) 0 = eqb-true _ _ (and_right o f (and_left (o && f) true e)) in
    cc
key_same W (suc (suc zero)) a b p q e =
    let o = eqb (pay_of (get_or W a 0)) (pay_of (get_or W b 0)) in
    let f = eqb (get_or W (a + 1) 0) (get_or W (b + 1) 0) in
    let g = eqb (get_or W (a + 2) 0) (get_or W (b + 2) 0) in
    let x : pay_of (get_or W a 0) ≡ pay_of (get_or W b 0) = eqb-true _ _ (and_left o f (and_left (o && f) g e)) in
    let y : get_or W (a + 1) 0 ≡ get_or W (b + 1) 0 = eqb-true _ _ (and_right o f (and_left (o && f) g e)) in
    let z : get_or W (a + 2) 0 ≡ get_or W (b + 2) 0 = eqb-true _ _ (and_right (o && f) g e) in
    cc
key_same W (suc (suc (suc n))) a b p q e = absurd (omega arith)

-- a walk along the records with the key of the one at a place
module _ (W A : List ℕ) (fields at base size n heads links : ℕ) {key : ℕ} (ch : Chained A heads links (λ i. record_key W fields (base + size * i)) n)
    (ek : key ≡ record_key W fields at) (some : 1 ≤ fields) (few : fields ≤ 2)
  where
    only : (j : ℕ) → same_by W true fields at (base + size * j) ≡ true → record_key W fields (base + size * j) ≡ key
    only j h = key_same W fields at (base + size * j) some few h ∙ sym ek

    pub records_start : {k : ℕ} → k ≡ get_or A (heads + key) 0 → Walking (same_by W true fields at) (λ j. base + size * j)
        (λ i. record_key W fields (base + size * i)) key n k
    records_start e = walk_start _ _ _ _ _ only (first_of A heads links _ n ch (key_small _ ek) e)

    module _ (k : ℕ) (w : Walking (same_by W true fields at) (λ j. base + size * j) (λ i. record_key W fields (base + size * i)) key n k)
        (go : k ≡ 0 → ⊥)
        {r : Bool} (er : r ≡ same_by W true fields at (base + size * (k - 1)))
      where
        pub records_hit : r ≡ true → true ≡ any (same_by W true fields at) (rows (λ j. base + size * j) 0 n)
        records_hit h = walk_hit _ _ _ _ _ only k w (omega arith) (sym er ∙ h)

        module _ {d : ℕ} (ed : d ≡ get_or A (links + (k - 1)) 0) where
          further : Last (λ i. record_key W fields (base + size * i)) (record_key W fields (base + size * (k - 1))) (k - 1) d
          further = let u = w.within in next_of A heads links _ n ch (omega arith) ed

          pub records_less : d < k
          records_less = let u = further.within in omega arith

          pub records_miss : r ≡ false
              → Walking (same_by W true fields at) (λ j. base + size * j) (λ i. record_key W fields (base + size * i)) key n d
          records_miss h = walk_miss _ _ _ _ _ only k w (omega arith) (sym er ∙ h) further

    pub records_end : (k : ℕ) → Walking (same_by W true fields at) (λ j. base + size * j) (λ i. record_key W fields (base + size * i)) key n k → k ≡ 0
        → false ≡ any (same_by W true fields at) (rows (λ j. base + size * j) 0 n)
    records_end k w e = walk_end_lem _ _ _ _ _ only k w e

-- of the record of the number that is met, the last field that counts lies within the words
pub row_met : (base size : ℕ) {k n len fields : ℕ} → k ≤ n → (k ≡ 0 → ⊥) → base + size * n ≤ len → fields < size
    → base + size * (k - 1) + fields < len
row_met base size {k} {n} u h p q = let e = step_le size (k - 1) n (omega arith) in omega arith
