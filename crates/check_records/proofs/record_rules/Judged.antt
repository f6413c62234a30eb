-- From the code's tests of a record to the step's definition.
use Prim.Native.Nat.{ℕ, zero, suc, ◌+◌, ◌*◌, ◌≤◌, ◌<◌}
use mathlib.Core.Path.{◌≡◌, refl, sym, ◌∙◌, ap, ap₂}
use mathlib.Core.List.{List}
use mathlib.Core.Bool.{Bool, true, false, ◌&&◌, ◌||◌, not, and-true, and-false, false≢true}
use native.Mathlib.Omega.{arith}
use native.Mathlib.Nat.{add-zero}
use lib.ListN.{get_or}
use lib.Dec.{eqb, leb, ltb}
use borrow.Author.Tests.{ltb-true, ne_eqb}
use Rattle.snapshot.specs.Lists.{rows, any}
use Rattle.snapshot.specs.Words.{pay_of}
use Rattle.snapshot.specs.Sizes.{crate_size, prelude_size, definition_size, scope_size, extern_size}
use Rattle.snapshot.specs.Records.{Map, Snapshot, Child, Definition, Scope, Import, Member, name_at, crate_at, prelude_at, definition_at, scope_at}
use Rattle.snapshot.specs.Records.{extern_at}
use Rattle.snapshot.specs.Layouts.{records_of, snap_with, crate_base, definition_base, name_head, module_map, module_parent, module_row}
use Rattle.snapshot.specs.declared.layout.Layout.{Layout}
use Rattle.snapshot.proofs.Laws.{length_rows, get_d_rows}
use Rattle.check_rules.specs.Tests.{Counts, counts_of, no_module, no_definition, kind_of_definition, ns_placed, same_prelude, same_definition}
use Rattle.check_rules.specs.Tests.{same_entry}
use Rattle.check_rules.specs.Tests.{same_extern, scope_defined, import_defined, child_defined, child_placed, definition_defined, definition_placed}
use Rattle.check_rules.specs.Tests.{member_defined, is_member, member_placed}
use Rattle.check_rules.specs.Steps.{no, on, judge, judge_crate}
use Rattle.check_records.specs.record_rules.Stands.{number_of, crate_number_of, same_by, counts_in, Stands, Answered}
use Rattle.std.specs.Prelude.{Ok}

-- the tests that follow a failed 33 do not matter
number_same : (a b c d e c' d' : Bool) → (b ≡ true → c ≡ c') → (b ≡ true → d ≡ d') → number_of a b c d e ≡ number_of a b c' d' e
unfolding number_of
number_same false b c d e c' d' h i = refl
number_same true false c d e c' d' h i = refl
number_same true true c d e c' d' h i = rw (h refl, i refl)

judge_no : (a b c d e : Bool) (s : Snapshot) {n : ℕ} → n ≡ number_of a b c d e → (n ≡ 0 → ⊥) → judge a b c d e s ≡ no n
unfolding number_of
judge_no false b c d e s h z = ap no (sym h)
judge_no true false c d e s h z = ap no (sym h)
judge_no true true true d e s h z = ap no (sym h)
judge_no true true false false e s h z = ap no (sym h)
judge_no true true false true false s h z = ap no (sym h)
judge_no true true false true true s h z = absurd (z h)

-- no number: every test passed
pub record Passed (a b c d e : Bool) : Type 0 where
  pub range : a ≡ true
  pub defined : b ≡ true
  pub fresh : c ≡ false
  pub placed : d ≡ true
  pub room : e ≡ true

pub passes : (a b c d e : Bool) → 0 ≡ number_of a b c d e → Passed a b c d e
unfolding number_of
passes false b c d e h = absurd (omega arith)
passes true false c d e h = absurd (omega arith)
passes true true true d e h = absurd (omega arith)
passes true true false false e h = absurd (omega arith)
passes true true false true false h = absurd (omega arith)
passes true true false true true h = record { range = refl; defined = refl; fresh = refl; placed = refl; room = refl }

judge_on : (a b c d e : Bool) (s : Snapshot) → Passed a b c d e → judge a b c d e s ≡ on s
judge_on a b c d e s p = rw (p.range, p.defined, p.fresh, p.placed, p.room)

-- the code's number is the definition's; a test with a prime is the definition's, and those after a failed 33 do not matter
pub number_of_lem : {n : ℕ} (a b c d e a' b' c' d' e' : Bool) → n ≡ number_of a b c d e → a ≡ a' → b ≡ b' → (b ≡ true → c ≡ c') → (b ≡ true → d ≡ d')
    → e ≡ e' → n ≡ number_of a' b' c' d' e'
number_of_lem a b c d e a' b' c' d' e' j ea eb ec ed ee = j ∙ number_same a b c d e c' d' ec ed ∙ cc

-- the same, with the tests read off the type
pub record Judged (n : ℕ) (a b c d e : Bool) : Type 0 where
  pub is : n ≡ number_of a b c d e

pub judged : {n : ℕ} {a b c d e a' b' c' d' e' : Bool} → n ≡ number_of a b c d e → a ≡ a' → b ≡ b' → (b ≡ true → c ≡ c') → (b ≡ true → d ≡ d')
    → e ≡ e' → Judged n a' b' c' d' e'
judged j ea eb ec ed ee = record { is = number_of_lem _ _ _ _ _ _ _ _ _ _ j ea eb ec ed ee }

module _ {n : ℕ} {a b c d e : Bool} (j : Judged n a b c d e) where
  pub judged_passes : n ≡ 0 → Passed a b c d e
  judged_passes z = passes a b c d e (sym z ∙ j.is)

  pub judged_no : (s : Snapshot) → (n ≡ 0 → ⊥) → judge a b c d e s ≡ no n
  judged_no s z = judge_no a b c d e s j.is z

  pub judged_on : {W B : List ℕ} {k next : ℕ} {m : Layout} {ns : List Map} {t : Snapshot} → n ≡ 0 → snap_with W B m ns ≡ t → Stands W B k next m ns
      → Answered W B k next (judge a b c d e t) (Ok m)
  judged_on {ns = ns} {t = t} z q st = (ns, judge_on a b c d e t (judged_passes z) ∙ ap on (sym q), st)

-- the same for a crate

pub crate_judge_no : (a b e : Bool) (s : Snapshot) {n : ℕ} → n ≡ crate_number_of a b e → (n ≡ 0 → ⊥) → judge_crate a b e s ≡ no n
unfolding crate_number_of
crate_judge_no false b e s h z = ap no (sym h)
crate_judge_no true false e s h z = ap no (sym h)
crate_judge_no true true false s h z = ap no (sym h)
crate_judge_no true true true s h z = absurd (z h)

pub record CratePassed (a b e : Bool) : Type 0 where
  pub range : a ≡ true
  pub edition : b ≡ true
  pub room : e ≡ true

pub crate_passes : (a b e : Bool) → 0 ≡ crate_number_of a b e → CratePassed a b e
unfolding crate_number_of
crate_passes false b e h = absurd (omega arith)
crate_passes true false e h = absurd (omega arith)
crate_passes true true false h = absurd (omega arith)
crate_passes true true true h = record { range = refl; edition = refl; room = refl }

pub crate_judge_on : (a b e : Bool) (s : Snapshot) → CratePassed a b e → judge_crate a b e s ≡ on s
crate_judge_on a b e s p = rw (p.range, p.edition, p.room)

pub and_left : (a b : Bool) → (a && b) ≡ true → a ≡ true
and_left true b h = refl
and_left false b h = h

pub and_right : (a b : Bool) → (a && b) ≡ true → b ≡ true
and_right true b h = h
and_right false b h = absurd (false≢true h)

-- the counts of a layout are those of its lists
pub counts_same : (W A : List ℕ) (k at : ℕ) (l : Layout) (ms : List Map) → Stands W A k at l ms → counts_in l ≡ counts_of (snap_with W A l ms)
counts_same W A k at l ms st =
    λ i. record {
      names = sym (length_rows (λ j. name_at W (name_head A j)) l.names) i;
      crates = sym (length_rows (λ j. crate_at W (crate_base l + crate_size * j)) l.crates) i;
      maps = sym st.count i;
      modules = sym (length_rows (module_row A) l.modules) i;
      definitions = sym (length_rows (λ j. definition_at W (definition_base l + definition_size * j)) l.definitions) i;
    }

pub any_same : {A B : Type 0} (p : A → Bool) (q : B → Bool) (f : ℕ → A) (g : ℕ → B) (k n : ℕ) → ((i : ℕ) → p (f i) ≡ q (g i))
    → any p (rows f k n) ≡ any q (rows g k n)
unfolding rows any
any_same p q f g k zero h = refl
any_same p q f g k (suc n) h = rw (h k, any_same p q f g (k + 1) n h)

-- records that differ in the last word that counts are not the same
pub unlike : (W : List ℕ) (owner : Bool) (fields a b : ℕ) → fields ≤ 2 → (leb 1 fields || owner) ≡ true
    → (pay_of (get_or W (b + fields) 0) ≡ pay_of (get_or W (a + fields) 0) → ⊥) → false ≡ same_by W owner fields a b
unlike W owner zero a b h o d =
    let e : eqb (pay_of (get_or W a 0)) (pay_of (get_or W b 0)) ≡ false = ne_eqb _ _ (λ q. d (rw (add-zero, add-zero) (sym q))) in
    rw (o, e)
unlike W owner (suc zero) a b h o d = rw (ne_eqb (get_or W (a + 1) 0) (get_or W (b + 1) 0) (λ e. d (ap pay_of (sym e))), and-false)
unlike W owner (suc (suc zero)) a b h o d = rw (ne_eqb (get_or W (a + 2) 0) (get_or W (b + 2) 0) (λ e. d (ap pay_of (sym e))), and-false)
unlike W owner (suc (suc (suc n))) a b h o d = absurd (omega arith)

-- a record that repeats an earlier one
module _ (W : List ℕ) (at base n : ℕ) where
  pub prelude_again : any (same_by W true 0 at) (rows (λ k. base + prelude_size * k) 0 n) ≡ any (same_prelude (prelude_at W at))
      (records_of prelude_at prelude_size W base n)
  prelude_again = any_same _ _ _ _ 0 n (λ i. and-true _ ∙ and-true _)

  pub definition_again : any (same_by W true 1 at) (rows (λ k. base + definition_size * k) 0 n) ≡ any (same_definition (definition_at W at))
      (records_of definition_at definition_size W base n)
  definition_again = any_same _ _ _ _ 0 n (λ i. and-true _)

  pub scope_again : any (same_by W true 2 at) (rows (λ k. base + scope_size * k) 0 n) ≡ any (same_entry (scope_at W at))
      (records_of scope_at scope_size W base n)
  scope_again = any_same _ _ _ _ 0 n (λ i. refl)

  pub extern_again : any (same_by W true 1 at) (rows (λ k. base + extern_size * k) 0 n) ≡ any (same_extern (extern_at W at))
      (records_of extern_at extern_size W base n)
  extern_again = any_same _ _ _ _ 0 n (λ i. and-true _)

-- what a record's numbers may be relied on for, once 33 is passed

pub scope_definition : (n : Counts) (x : Scope) → scope_defined n x ≡ true → x.definition < n.definitions
scope_definition n x h =
    let p = ltb x.owner n.modules && ltb x.name n.names in
    let q = ltb x.definition n.definitions in
    let r = not (eqb x.visibility 1) || ltb x.number n.crates in
    let t = leb x.visibility 1 || ltb x.number n.modules in
    ltb-true _ _ (and_right p q (and_left (p && q) r (and_left (p && q && r) t h)))

pub member_numbers : (n : Counts) (x : Member) → member_defined n x ≡ true → (x.parent < n.definitions) × (x.definition < n.definitions)
member_numbers n x h =
    let p = ltb x.parent n.definitions in
    let q = ltb x.name n.names in
    let r = ltb x.definition n.definitions in
    (ltb-true _ _ (and_left p q (and_left (p && q) r h)), ltb-true _ _ (and_right (p && q) r h))

pub import_definition : (n : Counts) (x : Import) → import_defined n x ≡ true → x.definition < n.definitions
import_definition n x h =
    let p = ltb x.owner n.crates in
    let q = ltb x.definition n.definitions in
    let r = ltb x.name n.names in
    let t = ltb x.container n.modules in
    ltb-true _ _ (and_right p q (and_left (p && q) r (and_left (p && q && r) t h)))

-- the kind of a definition that is there
pub kind_same : (W A : List ℕ) (l : Layout) (ms : List Map) (d : ℕ) → d < l.definitions
    → (definition_at W (definition_base l + definition_size * d)).kind ≡ kind_of_definition (snap_with W A l ms) d
kind_same W A l ms d h = ap (λ x. x.kind) (sym (get_d_rows (λ k. definition_at W (definition_base l + definition_size * k)) no_definition
    l.definitions d h))

pub ns_same : (W A : List ℕ) (l : Layout) (ms : List Map) (ns d : ℕ) → d < l.definitions
    → (not (eqb ns 2) || eqb (definition_at W (definition_base l + definition_size * d)).kind 5) ≡ ns_placed (snap_with W A l ms) ns d
ns_same W A l ms ns d h = ap (λ k. not (eqb ns 2) || eqb k 5) (kind_same W A l ms d h)

pub child_same : (W A : List ℕ) (l : Layout) (ms : List Map) (x : Child) → child_defined (counts_in l) x ≡ true
    → (eqb (module_map A x.child) (module_map A x.owner) && eqb (module_parent A x.child) (x.owner + 1)) ≡ child_placed (snap_with W A l ms) x
child_same W A l ms x h =
    let p = get_d_rows (module_row A) no_module l.modules x.owner
    (ltb-true _ _ (and_left (ltb x.owner l.modules) (ltb x.child l.modules) h)) in
    let q = get_d_rows (module_row A) no_module l.modules x.child
    (ltb-true _ _ (and_right (ltb x.owner l.modules) (ltb x.child l.modules) h)) in
    ap₂ (λ u v. eqb u.map v.map && eqb u.parent (x.owner + 1)) (sym q) (sym p)

pub parent_same : (W A : List ℕ) (l : Layout) (ms : List Map) (x : Definition) → definition_defined (counts_in l) x ≡ true
    → (not (eqb x.kind 2) || eqb (definition_at W (definition_base l + definition_size * x.first)).kind 4) ≡ definition_placed (snap_with W A l ms) x
parent_same W A l ms x h =
    let p = not (eqb x.kind 2) || ltb x.first l.definitions && ltb x.second l.names in
    let q = not (eqb x.kind 3) || ltb x.first l.names in
    let r = eqb x.kind 2 || eqb x.kind 3 || ltb x.first l.modules in
    variant_same (eqb x.kind 2) x.first (and_left p q (and_left (p && q) r h))
  where
    variant_same : (v : Bool) (d : ℕ) → (not v || ltb d l.definitions && ltb x.second l.names) ≡ true
        → (not v || eqb (definition_at W (definition_base l + definition_size * d)).kind 4)
        ≡ (not v || eqb (kind_of_definition (snap_with W A l ms) d) 4)
    variant_same true d g = ap (λ k. eqb k 4) (kind_same W A l ms d (ltb-true _ _ (and_left (ltb d l.definitions) (ltb x.second l.names) g)))
    variant_same false d g = refl

pub member_same : (W A : List ℕ) (l : Layout) (ms : List Map) (x : Member) → member_defined (counts_in l) x ≡ true
    → (eqb (definition_at W (definition_base l + definition_size * x.parent)).kind 4 && is_member x.kind x.parent x.name
    (definition_at W (definition_base l + definition_size * x.definition))) ≡ member_placed (snap_with W A l ms) x
member_same W A l ms x h =
    let n = member_numbers (counts_in l) x h in
    ap₂ (λ k d. eqb k 4 && is_member x.kind x.parent x.name d) (kind_same W A l ms x.parent n.0)
    (sym (get_d_rows (λ k. definition_at W (definition_base l + definition_size * k)) no_definition l.definitions x.definition n.1))
