-- The steps of the kinds that have a table: names, crates, maps and modules.
use Prim.Native.Nat.{ℕ, ◌+◌, ◌*◌, ◌≤◌, ◌<◌}
use mathlib.Core.Path.{◌≡◌, refl, sym, ◌∙◌, ap, subst}
use mathlib.Core.List.{List, [], ◌∷◌}
use mathlib.Core.Bool.{Bool, true}
use native.Mathlib.Omega.{arith}
use lib.Dec.{ltb, lit<}
use lib.ListN.{length, get_or, set}
use lib.Seq.{get_or-set_same, get_or-set_other}
use borrow.Author.Count.{below_more}
use borrow.Author.Tests.{ltb-true}
use Rattle.snapshot.specs.Lists.{any}
use Rattle.snapshot.specs.Limits.{crate_limit, name_limit, area_limit}
use Rattle.snapshot.specs.Words.{pay_of, words_of}
use Rattle.snapshot.specs.Sizes.{crate_size}
use Rattle.snapshot.specs.Records.{Map, name_at, crate_at}
use Rattle.snapshot.specs.Layouts.{crate_base, name_head, own_map, names_of, snap_with, crate_table}
use Rattle.snapshot.specs.declared.layout.Layout.{Layout}
use Rattle.snapshot.proofs.Laws.{rows_zero, rows_put, length_rows}
use Rattle.check_records.specs.chains.Chains.{name_key, linked, name_heads, name_links}
use Rattle.check_rules.specs.Tests.{name_range, same_name, crate_range, is_edition}
use Rattle.check_rules.specs.Steps.{no, on, name_step, crate_step, add_name, add_crate}
use Rattle.check_records.specs.record_rules.Stands.{number_of, crate_number_of, own_from, own_of, Indexes, Stands, Answered}
use Rattle.std.specs.Prelude.{Ok}
use Rattle.check_records.proofs.record_rules.Judged.{Judged, judged, judged_no, judged_on, judged_passes, passes, crate_judge_no, crate_judge_on}
use Rattle.check_records.proofs.record_rules.Judged.{CratePassed, crate_passes}
use Rattle.check_records.proofs.record_rules.Indexed.{Early, early, set_above, name_stays, names_linked}
use Rattle.check_records.proofs.record_rules.Grows.{grown, one_more, lists_grown, stands_grown, indexes_grown, text_end}
pub use Rattle.check_records.proofs.record_rules.Indexed.{Kept, set_kept}
pub use Rattle.check_records.proofs.record_rules.Grows.{names_kept, modules_kept, heads_kept}

none_yet : (c : ℕ) (ms : List Map) → length ms ≡ 0 → own_of c ms ≡ 0
unfolding own_from
none_yet c [] e = refl
none_yet c (x ∷ xs) e = absurd (omega arith)

-- names

-- a name whose tests pass has room
pub names_room : (names : ℕ) (a c : Bool) {n : ℕ} → n ≡ number_of a true c true (ltb names name_limit) → n ≡ 0 → names < name_limit
names_room names a c j z = ltb-true names name_limit (passes a true c true (ltb names name_limit) (sym z ∙ j)).room

abbrev pub name_on : Layout → ℕ → Layout
name_on l next = grown 1 next l.latest l

module _ (W A B : List ℕ) (at next : ℕ) (l : Layout) (ms : List Map) (st : Stands W A 1 at l ms) (room : l.names < name_limit)
    (name-old : (k : ℕ) → k < l.names → get_or B k 0 ≡ get_or A k 0) (name_new : get_or B l.names 0 ≡ at)
  where
    name_added : snap_with W B (name_on l next) ms ≡ add_name (snap_with W A l ms) (name_at W at)
    name_added =
        lists_grown W A B 1 at next l.latest l ms st (λ h. absurd (omega arith))
        (rows_put (λ k. name_at W (get_or A k 0)) _ l.names (name_at W at) (λ k h. ap (name_at W) (name-old k h)) (ap (name_at W) name_new)) refl
        (rows_zero _ _ _ (st.upto.modules (lit< tt)))

    name_stands : next ≡ at + 1 + words_of (pay_of (get_or W at 0)) → next ≤ length W → Indexes W B (name_on l next)
        → Stands W B 1 next (name_on l next) ms
    name_stands e fits ix =
        let z_crates : l.crates ≡ 0 = st.upto.crates (lit< tt) in
        let z_maps : l.maps ≡ 0 = st.upto.maps (lit< tt) in
        let z_modules : l.modules ≡ 0 = st.upto.modules (lit< tt) in
        stands_grown W A B 1 at next l.latest l ms st (λ h. absurd (omega arith))
        (let p = st.place in let q = text_end W A B 1 at next l.latest l ms st (λ h. absurd (omega arith)) (lit< tt) in omega arith) fits
        (record { names = omega arith; crates = st.limited.crates; modules = st.limited.modules; definitions = st.limited.definitions })
        (record {
          heads =
              below_more (λ k. name_head B k + 1 + words_of (pay_of (get_or W (name_head B k) 0)) ≤ length W) l.names
              (λ k h. rw (name-old k h) (st.heads k h)) (rw name_new (rw e at fits));
          count = st.count;
          last = λ h. absurd (omega arith);
          below = λ m h. absurd (omega arith);
          rising = λ i j h k. absurd (omega arith);
          inside = λ m h. absurd (omega arith);
          own = λ c h. absurd (omega arith);
        }) ix

module _ (W A : List ℕ) (at : ℕ) (l : Layout) (ms : List Map) (st : Stands W A 1 at l ms)
    {n : ℕ} {a c e : Bool}
    (j : n ≡ number_of a true c true e)
    (ea : a ≡ name_range (name_at W at))
    (ec : c ≡ any (same_name (name_at W at)) (names_of W A l.names))
    (ee : e ≡ ltb l.names name_limit)
  where
    name_number_lem : Judged n (name_range (name_at W at)) true (any (same_name (name_at W at)) (names_of W A l.names)) true
        (ltb (length (names_of W A l.names)) name_limit)
    name_number_lem = judged j ea refl (λ h. ec) (λ h. refl) (ee ∙ ap (λ m. ltb m name_limit) (sym (length_rows _ l.names)))

    pub name_no : (n ≡ 0 → ⊥) → name_step (snap_with W A l ms) (name_at W at) ≡ no n
    unfolding name_step
    name_no z = judged_no name_number_lem _ z

    pub name_on_lem : n ≡ 0 → area_limit ≤ length A → {text key : ℕ} {B : List ℕ} → text ≡ at + 1 + words_of (pay_of (get_or W at 0))
        → at + 1 + words_of (pay_of (get_or W at 0)) ≤ length W
        → key ≡ name_key (name_at W at) → B ≡ linked (set A l.names at) name_heads name_links key l.names
        → Answered W B 1 (at + 1 + words_of (pay_of (get_or W at 0))) (name_step (snap_with W A l ms) (name_at W at)) (Ok (name_on l text))
    unfolding name_step
    name_on_lem z large {text} {key} e fits ek eb =
        let next : ℕ = at + 1 + words_of (pay_of (get_or W at 0)) in
        let B : List ℕ = linked (set A l.names at) name_heads name_links key l.names in
        let room = ltb-true l.names name_limit (ap (λ m. ltb m name_limit) (sym (length_rows (λ k. name_at W (name_head A k)) l.names))
        ∙ (judged_passes name_number_lem z).room) in
        let stays = name_stays W A l at key st.index room large ek in
        let old : (k : ℕ) → k < l.names → get_or (linked (set A l.names at) name_heads name_links key l.names) k 0
        ≡ get_or A k 0 = λ k h. stays k (omega arith) ∙ get_or-set_other A l.names k at 0 (omega arith) in
        let new : get_or (linked (set A l.names at) name_heads name_links key l.names) l.names 0 ≡ at = stays l.names (omega arith)
        ∙ get_or-set_same A l.names at 0 (omega arith) in
        let zl = early 1 l st.upto (lit< tt) in
        let y : Early 1 (name_on l next) = record {
          children = zl.children;
          definitions = zl.definitions;
          scopes = zl.scopes;
          externs = zl.externs;
        } in
        let ix = names_linked W A l at key st.index room large ek (name_on l next) zl y refl in
        subst (λ b. Answered W b 1 next (name_step (snap_with W A l ms) (name_at W at)) (Ok (name_on l text))) (sym eb)
        (subst (λ t. Answered W (linked (set A l.names at) name_heads name_links key l.names) 1 next
        (name_step (snap_with W A l ms) (name_at W at)) (Ok (name_on l t))) (sym e)
        (judged_on name_number_lem z (name_added W A B at next l ms st room old new) (name_stands W A B at next l ms st room old new refl fits ix)))

-- crates

module _ (W A : List ℕ) (at : ℕ) (l : Layout) (ms : List Map) (st : Stands W A 2 at l ms) (room : l.crates < crate_limit)
    (large : area_limit ≤ length A) where
  crate_kept : Kept A (set A (crate_table + l.crates) 0) 0 crate_table
  crate_kept = set_kept A (crate_table + l.crates) 0 0 crate_table (λ j p q. omega arith)

  crate_added : snap_with W (set A (crate_table + l.crates) 0) (one_more 2 l) ms ≡ add_crate (snap_with W A l ms) (crate_at W at)
  crate_added =
      lists_grown W A (set A (crate_table + l.crates) 0) 2 at l.text l.latest l ms st (λ h. refl)
      (names_kept W A (set A (crate_table + l.crates) 0) l.names st.limited.names (λ i u v. crate_kept i u (omega arith))) refl
      (rows_zero _ _ _ (st.upto.modules (lit< tt)))

  crate_stands : at + crate_size ≤ length W → Stands W (set A (crate_table + l.crates) 0) 2 (at + crate_size) (one_more 2 l) ms
  crate_stands fits =
      let z_maps : l.maps ≡ 0 = st.upto.maps (lit< tt) in
      let z_modules : l.modules ≡ 0 = st.upto.modules (lit< tt) in
      let q-count = st.count in
      stands_grown W A (set A (crate_table + l.crates) 0) 2 at l.text l.latest l ms st (λ h. refl) (let q = st.place in omega arith) fits
      (record { names = st.limited.names; crates = omega arith; modules = st.limited.modules; definitions = st.limited.definitions })
      (record {
        heads = heads_kept W A (set A (crate_table + l.crates) 0) l.names st.limited.names (λ i u v. crate_kept i u (omega arith)) st.heads;
        count = st.count;
        last = λ h. absurd (omega arith);
        below = λ m h. absurd (omega arith);
        rising = λ i j h k. absurd (omega arith);
        inside = λ m h. absurd (omega arith);
        own =
            below_more (λ c. own_map (set A (crate_table + l.crates) 0) c ≡ own_of c ms) l.crates
            (λ c h. get_or-set_other A (crate_table + l.crates) (crate_table + c) 0 0 (omega arith) ∙ st.own c h)
            (get_or-set_same A (crate_table + l.crates) 0 0 (omega arith) ∙ sym (none_yet l.crates ms (omega arith)));
      })
      (indexes_grown W A (set A (crate_table + l.crates) 0) 2 at l.text l.latest l ms st (λ h. refl) (λ i u v. crate_kept i u (omega arith))
      (set_above A (crate_table + l.crates) 0 (omega arith)) refl refl refl refl refl)

module _ (W A : List ℕ) (at : ℕ) (l : Layout) (ms : List Map) (st : Stands W A 2 at l ms)
    {n : ℕ} {a b e : Bool}
    (j : n ≡ crate_number_of a b e)
    (ea : a ≡ crate_range (crate_at W at))
    (eb : b ≡ is_edition (crate_at W at).edition)
    (ee : e ≡ ltb l.crates crate_limit)
  where
    abbrev room : Bool
    room = ltb (length (snap_with W A l ms).crates) crate_limit

    crate_number : n ≡ crate_number_of (crate_range (crate_at W at)) (is_edition (crate_at W at).edition) room
    crate_number = let er : e ≡ room = ee ∙ ap (λ m. ltb m crate_limit) (sym (length_rows _ l.crates)) in cc

    pub crate_no : (n ≡ 0 → ⊥) → crate_step (snap_with W A l ms) (crate_at W at) ≡ no n
    unfolding crate_step
    crate_no z = crate_judge_no (crate_range (crate_at W at)) (is_edition (crate_at W at).edition) room
        (add_crate (snap_with W A l ms) (crate_at W at)) crate_number z

    crate_passed : n ≡ 0 → CratePassed (crate_range (crate_at W at)) (is_edition (crate_at W at).edition) room
    crate_passed z = crate_passes (crate_range (crate_at W at)) (is_edition (crate_at W at).edition) room (sym z ∙ crate_number)

    crate_room : n ≡ 0 → l.crates < crate_limit
    crate_room z = ltb-true l.crates crate_limit
        (ap (λ m. ltb m crate_limit) (sym (length_rows (λ k. crate_at W (crate_base l + crate_size * k)) l.crates)) ∙ (crate_passed z).room)

    pub crate_on : n ≡ 0 → area_limit ≤ length A → at + crate_size ≤ length W
        → Answered W (set A (crate_table + l.crates) 0) 2 (at + crate_size) (crate_step (snap_with W A l ms) (crate_at W at)) (Ok (one_more 2 l))
    unfolding crate_step
    crate_on z large fits = (
      ms,
      crate_judge_on (crate_range (crate_at W at)) (is_edition (crate_at W at).edition) room (add_crate (snap_with W A l ms) (crate_at W at))
          (crate_passed z) ∙ ap on (sym (crate_added W A at l ms st (crate_room z) large)),
      crate_stands W A at l ms st (crate_room z) large fits,
    )
