-- Each record of the second, put with its numbers moved, has the words of the moved record.
use Prim.Native.Nat.{ℕ, ◌+◌, ◌*◌, ◌≤◌, ◌<◌}
use mathlib.Core.Path.{◌≡◌, refl, sym, ◌∙◌, ap, ap₂, subst}
use mathlib.Core.List.{List, [], ◌∷◌}
use mathlib.Core.Bool.{Bool, true, false, not}
use native.Mathlib.Omega.{arith}
use borrow.Author.Tests.{eqb-true, le-leb, lt-leb, ltb-true, ltb-false}
use lib.Dec.{eqb, leb, ltb}
use lib.ListN.{length, get_or}
use Rattle.snapshot.specs.Words.{arguments_of, words_of}
use Rattle.snapshot.specs.Records.{Name, Crate, Dependency, Child, Prelude, Definition, Scope, Import, Extern, Member, Snapshot}
use Rattle.snapshot.specs.declared.layout.Layout.{Layout}
use Rattle.check_rules.specs.Tests.{counts_of, no_name, no_definition, same_name}
use Rattle.accept.specs.Valid.{Limits, NameFits, CrateFits, DependencyFits, ChildFits, PreludeFits, DefinitionFits, ScopeFits, ImportFits, ExternFits}
use Rattle.accept.specs.Valid.{MemberFits}
use Rattle.accept.proofs.Accepted.{by_test}
use Rattle.edit_rules.specs.Entries.{scope_words}
use Rattle.edit_rules.specs.Written.{head_of, name_words, crate_words, dependency_words, child_words, prelude_words, definition_words, import_words}
use Rattle.edit_rules.specs.Written.{extern_words, member_words}
use Rattle.join_rules.specs.Joined.{is_new, name_number, same_builtin, definition_number, Numbers, second_numbers, dependency_to, child_to}
use Rattle.join_rules.specs.Joined.{prelude_to}
use Rattle.join_rules.specs.Joined.{definition_to, first_to, second_to, visible_to, scope_to, import_to, extern_to, member_to}
use Rattle.join_rules.proofs.Runs.{At, kind_is, Small}
use Rattle.join.specs.numbers.Parts.{Counted}
use Rattle.join.specs.numbers.Numbered.{name_table, definition_table, NumbersIn}
use Rattle.join.proofs.numbers.News.{name_test, definition_test}
use Rattle.join.specs.records.Moves.{numbers_of, role_of, field_to, moved_at, kept_at, kept_words}
use Rattle.join.proofs.records.Laws.{kept_name, kept_definition}
use Rattle.join.proofs.records.Passes.{fields_to, record_to, arguments_is, record_moved, Step}
use Rattle.join.proofs.records.Trees.{kept_plain}

-- the numbers of the second but for names and definitions, which are read from the tables
abbrev pub partly : Snapshot → List ℕ → Numbers
partly s A =
    record {
      crates = λ n. length s.crates + n;
      maps = λ n. length s.maps + n;
      modules = λ n. length s.modules + n;
      names = λ n. get_or A (name_table + n) 0;
      definitions = λ n. get_or A (definition_table + n) 0;
    }

pub partly_same : (s : Snapshot) (A : List ℕ) (l : Layout) → Counted l s → numbers_of A l ≡ partly s A
partly_same s A l c =
    let p = sym c.crates in
    let q = sym c.maps in
    let r = sym c.modules in
    λ i. record {
      crates = λ n. p i + n;
      maps = λ n. q i + n;
      modules = λ n. r i + n;
      names = λ n. get_or A (name_table + n) 0;
      definitions = λ n. get_or A (definition_table + n) 0;
    }

fields_plain : (e : Numbers) (p v i : ℕ) (ws : List ℕ) → fields_to e 1 p v i ws ≡ ws
unfolding fields_to role_of field_to
fields_plain e p v i [] = refl
fields_plain e p v i (w ∷ ws) = ap (λ l. w ∷ l) (fields_plain e p v (i + 1) ws)

flip : (a b : ℕ) → leb b a ≡ not (ltb a b)
flip a b = by_test (ltb a b) (λ r. lt-leb b a (ltb-true a b r) ∙ sym (ap not r)) (λ r. le-leb b a (ltb-false a b r) ∙ sym (ap not r))

module _ (s t : Snapshot) (A : List ℕ) (l : Layout) (X : List ℕ) (c : Counted l s) (h : NumbersIn s t A) where
  abbrev e : Numbers
  e = second_numbers s t

  kept_by : (q n : ℕ) {b : Bool} {out : List ℕ} → kept_at A l X q n ≡ b → moved_at (numbers_of A l) X q ≡ out → kept_words A l X q n
      ≡ elim b [ true ↦ out | false ↦ [] ]
  unfolding kept_words
  kept_by q n x y = ap₂ (λ b w. elim b [ true ↦ w | false ↦ [] ]) x y

  -- a name of the second
  pub name_step_lem : (x : Name) (q n : ℕ) → NameFits x → length x.text ≡ words_of x.bytes → n < length t.names → x ≡ get_or t.names n no_name
      → At X q (name_words x) → Step A l X name_words name_words (is_new same_name s.names) x q n
  unfolding role_of field_to arguments_of
  name_step_lem x q n f size b z at =
      let g = f.bytes in
      let low : x.bytes < 268435456 = omega arith in
      let a = arguments_is (numbers_of A l) 1 x.bytes at low (sym size) in
      let m = record_moved (numbers_of A l) 1 x.bytes at low (sym size)
      ∙ ap (λ w. head_of 1 x.bytes ∷ w) (fields_plain (numbers_of A l) x.bytes (get_or X (q + 4) 0) 1 x.text) in
      let k = kept_name A l X q n (sym (kind_is 1 x.bytes at low)) refl (sym (h.names n b)) in
      let u : leb l.names (name_number s t n) ≡ is_new same_name s.names x =
      ap (λ j. leb j (name_number s t n)) (sym c.names) ∙ flip (name_number s t n) (length s.names) ∙ sym (name_test s t n)
      ∙ ap (is_new same_name s.names) (sym z) in
      record { some = omega arith; size = omega arith; words = kept_by q n (sym k ∙ u) m }

  -- a record of a kind that is never left out
  plain : {R : Type 0} (f g : R → List ℕ) (x : R) (k pay : ℕ) {ws : List ℕ} (q n : ℕ) → f x ≡ head_of k pay ∷ ws → At X q (f x) → Small pay
      → arguments_of k pay ≡ length ws → (k ≡ 1 → ⊥) → (k ≡ 8 → ⊥) → record_to (numbers_of A l) k pay (get_or X (q + 4) 0) ws ≡ g x
      → Step A l X f g (λ y. true) x q n
  plain f g x k pay {ws} q n z at low size a b m =
      let w = subst (At X q) z at in
      let o = ap length z in
      let r = arguments_is (numbers_of A l) k pay w low size in
      record { some = omega arith; size = omega arith; words = kept_plain A l k pay w low size a b n ∙ m }

  module _ (limits : Limits (counts_of t)) (q n : ℕ) where
    pub crate_step_lem : (x : Crate) → CrateFits x → At X q (crate_words x) → Step A l X crate_words crate_words (λ y. true) x q n
    unfolding fields_to role_of field_to arguments_of
    crate_step_lem x f at =
        let o = f.origin in
        let p = f.no_std in
        plain crate_words crate_words x 2 (x.origin + 8 * x.no_std) q n refl at (omega arith) refl (λ z. omega arith) (λ z. omega arith) refl

    pub dependency_step_lem : (x : Dependency) → DependencyFits (counts_of t) x → At X q (dependency_words x)
        → Step A l X dependency_words (λ y. dependency_words (dependency_to e y)) (λ y. true) x q n
    unfolding fields_to role_of field_to arguments_of
    dependency_step_lem x f at =
        let o = f.owner in
        let b = limits.crates in
        plain dependency_words (λ y. dependency_words (dependency_to e y)) x 3 x.owner q n refl at (omega arith) refl (λ z. omega arith)
        (λ z. omega arith)
        (ap (λ u. dependency_words (dependency_to u x)) (partly_same s A l c))

    pub child_step_lem : (x : Child) → ChildFits (counts_of t) x → At X q (child_words x)
        → Step A l X child_words (λ y. child_words (child_to e y)) (λ y. true) x q n
    unfolding fields_to role_of field_to arguments_of
    child_step_lem x f at =
        let o = f.owner in
        let b = limits.modules in
        plain child_words (λ y. child_words (child_to e y)) x 6 x.owner q n refl at (omega arith) refl (λ z. omega arith) (λ z. omega arith)
        (ap (λ u. child_words (child_to u x)) (partly_same s A l c))

    pub prelude_step_lem : (x : Prelude) → length t.maps ≤ 512 → PreludeFits (counts_of t) x → At X q (prelude_words x)
        → Step A l X prelude_words (λ y. prelude_words (prelude_to e y)) (λ y. true) x q n
    unfolding fields_to role_of field_to arguments_of
    prelude_step_lem x b f at =
        let o = f.map in
        plain prelude_words (λ y. prelude_words (prelude_to e y)) x 7 x.map q n refl at (omega arith) refl (λ z. omega arith) (λ z. omega arith)
        (ap (λ u. prelude_words (prelude_to u x)) (partly_same s A l c))

    pub scope_step_lem : (x : Scope) → ScopeFits (counts_of t) x → At X q (scope_words x)
        → Step A l X scope_words (λ y. scope_words (scope_to e y)) (λ y. true) x q n
    unfolding fields_to role_of field_to arguments_of scope_words
    scope_step_lem x f at =
        let o = f.owner in
        let b = limits.modules in
        let v : get_or X (q + 4) 0 ≡ x.visibility = at.same 4 (omega arith) in
        let name = h.names x.name f.name in
        let definition = h.definitions x.definition f.definition in
        plain scope_words (λ y. scope_words (scope_to e y)) x 9 x.owner q n refl at (omega arith) refl (λ z. omega arith) (λ z. omega arith)
        (ap (λ u. record_to (numbers_of A l) 9 x.owner u
        (x.ns ∷ x.name ∷ x.definition ∷ x.visibility ∷ x.number ∷ x.declared ∷ x.bits ∷ [])) v
        ∙ ap (λ u. scope_words (scope_to u x)) (partly_same s A l c)
        ∙ (λ i. head_of 9 (length s.modules + x.owner) ∷ x.ns ∷ name i ∷ definition i ∷ x.visibility ∷ visible_to e x.visibility
        x.number ∷ x.declared ∷ x.bits ∷ []))

    pub import_step_lem : (x : Import) → ImportFits (counts_of t) x → At X q (import_words x)
        → Step A l X import_words (λ y. import_words (import_to e y)) (λ y. true) x q n
    unfolding fields_to role_of field_to arguments_of
    import_step_lem x f at =
        let o = f.owner in
        let b = limits.crates in
        let name = h.names x.name f.name in
        let definition = h.definitions x.definition f.definition in
        plain import_words (λ y. import_words (import_to e y)) x 10 x.owner q n refl at (omega arith) refl (λ z. omega arith) (λ z. omega arith)
        (ap (λ u. import_words (import_to u x)) (partly_same s A l c)
        ∙ (λ i. head_of 10 (length s.crates + x.owner) ∷ x.ns ∷ definition i ∷ name i ∷ (length s.modules + x.container) ∷ x.bits ∷ []))

    pub extern_step_lem : (x : Extern) → ExternFits (counts_of t) x → At X q (extern_words x)
        → Step A l X extern_words (λ y. extern_words (extern_to e y)) (λ y. true) x q n
    unfolding fields_to role_of field_to arguments_of
    extern_step_lem x f at =
        let o = f.owner in
        let b = limits.crates in
        let name = h.names x.name f.name in
        plain extern_words (λ y. extern_words (extern_to e y)) x 11 x.owner q n refl at (omega arith) refl (λ z. omega arith) (λ z. omega arith)
        (ap (λ u. extern_words (extern_to u x)) (partly_same s A l c)
        ∙ (λ i. head_of 11 (length s.crates + x.owner) ∷ name i ∷ (length s.modules + x.target) ∷ []))

    pub member_step_lem : (x : Member) → MemberFits (counts_of t) x → At X q (member_words x)
        → Step A l X member_words (λ y. member_words (member_to e y)) (λ y. true) x q n
    unfolding fields_to role_of field_to arguments_of
    member_step_lem x f at =
        let o = f.parent in
        let b = limits.definitions in
        let parent = h.definitions x.parent f.parent in
        let name = h.names x.name f.name in
        let definition = h.definitions x.definition f.definition in
        plain member_words (λ y. member_words (member_to e y)) x 13 x.parent q n refl at (omega arith) refl (λ z. omega arith) (λ z. omega arith)
        (λ i. head_of 13 (parent i) ∷ name i ∷ definition i ∷ x.kind ∷ x.bits ∷ [])

    first_same : (x : Definition) → DefinitionFits (counts_of t) x → first_to (partly s A) x ≡ first_to e x
    first_same x f =
        by (eqb x.kind 2) (eqb x.kind 3) (length s.modules + x.first)
        (λ a. h.definitions x.first (f.variant (eqb-true x.kind 2 a)).0) (λ a. h.names x.first (f.builtin (eqb-true x.kind 3 a)))
      where
        by : (b d : Bool) (r : ℕ) {p p' u u' : ℕ} → (b ≡ true → p ≡ p') → (d ≡ true → u ≡ u')
            → ◌≡◌ {A = ℕ} (elim b [ true ↦ p | false ↦ elim d [ true ↦ u | false ↦ r ] ])
            (elim b [ true ↦ p' | false ↦ elim d [ true ↦ u' | false ↦ r ] ])
        by true d r x y = x refl
        by false true r x y = y refl
        by false false r x y = refl

    second_same : (x : Definition) → DefinitionFits (counts_of t) x → second_to (partly s A) x ≡ second_to e x
    second_same x f = by (eqb x.kind 2) x.second (λ a. h.names x.second (f.variant (eqb-true x.kind 2 a)).1)
      where
        by : (b : Bool) (r : ℕ) {p p' : ℕ} → (b ≡ true → p ≡ p') → ◌≡◌ {A = ℕ} (elim b [ true ↦ p | false ↦ r ]) (elim b [ true ↦ p' | false ↦ r ])
        by true r x = x refl
        by false r x = refl

    pub definition_step_lem : (x : Definition) → DefinitionFits (counts_of t) x → n < length t.definitions → x ≡ get_or t.definitions n no_definition
        → At X q (definition_words x)
        → Step A l X definition_words (λ y. definition_words (definition_to e y)) (is_new (same_builtin s t) s.definitions) x q n
    unfolding fields_to role_of field_to arguments_of
    definition_step_lem x f b z at =
        let g = f.kind in
        let low : x.kind < 268435456 = omega arith in
        let a = arguments_is (numbers_of A l) 8 x.kind at low refl in
        let first = first_same x f in
        let second = second_same x f in
        let m = record_moved (numbers_of A l) 8 x.kind at low refl
        ∙ ap (λ u. definition_words (definition_to u x)) (partly_same s A l c) ∙ (λ i. head_of 8 x.kind ∷ first i ∷ second i ∷ []) in
        let k = kept_definition A l X q n (sym (kind_is 8 x.kind at low)) refl (sym (h.definitions n b)) in
        let u : leb l.definitions (definition_number s t n) ≡ is_new (same_builtin s t) s.definitions x =
        ap (λ j. leb j (definition_number s t n)) (sym c.definitions) ∙ flip (definition_number s t n) (length s.definitions)
        ∙ sym (definition_test s t n) ∙ ap (is_new (same_builtin s t) s.definitions) (sym z) in
        record { some = omega arith; size = omega arith; words = kept_by q n (sym k ∙ u) m }
