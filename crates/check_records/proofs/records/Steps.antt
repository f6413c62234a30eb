-- The steps of the kinds that have no table.
use Prim.Native.Nat.{ℕ, ◌+◌, ◌*◌, ◌≤◌, ◌<◌}
use mathlib.Core.Path.{◌≡◌, refl, sym, ◌∙◌, ap, ap₂}
use mathlib.Core.List.{List}
use mathlib.Core.Bool.{Bool, true, false, ◌&&◌, ◌||◌, not}
use native.Mathlib.Omega.{arith}
use lib.ListN.{length, get_or}
use lib.Dec.{eqb, leb, ltb}
use borrow.Author.Tests.{ltb-true, leb-false}
use Rattle.check_records.specs.chains.Chains.{child_marks}
use Rattle.snapshot.specs.Lists.{rows, any}
use Rattle.snapshot.specs.Limits.{module_limit, definition_limit}
use Rattle.snapshot.specs.Sizes.{dependency_size, child_size, prelude_size, definition_size, scope_size, import_size, extern_size, member_size}
use Rattle.snapshot.specs.Records.{Map, name_at, dependency_at, child_at, prelude_at, definition_at, scope_at, import_at, extern_at, member_at}
use Rattle.snapshot.specs.Layouts.{prelude_base, definition_base, scope_base, extern_base, module_map, module_parent, name_head, snap_with}
use Rattle.snapshot.specs.declared.layout.Layout.{Layout}
use Rattle.snapshot.proofs.Laws.{length_rows, get_d_rows}
use Rattle.check_rules.specs.Tests.{counts_of, no_name, is_builtin, dependency_range, dependency_defined, child_defined, same_child, child_placed}
use Rattle.check_rules.specs.Tests.{prelude_defined, same_prelude, definition_range, definition_defined, definition_repeated, definition_placed}
use Rattle.check_rules.specs.Tests.{scope_range}
use Rattle.check_rules.specs.Tests.{scope_defined, same_entry, ns_placed, import_range, import_defined, extern_defined, same_extern, member_range}
use Rattle.check_rules.specs.Tests.{member_defined, is_member, member_placed}
use Rattle.check_rules.specs.Steps.{no, dependency_step, child_step, prelude_step, definition_step, scope_step, import_step, extern_step, member_step}
use Rattle.check_records.specs.record_rules.Stands.{number_of, same_by, counts_in, Stands, Answered}
use Rattle.std.specs.Prelude.{Ok}
use Rattle.check_records.proofs.record_rules.Grows.{one_more, plain_on, quiet_on}
use Rattle.check_records.proofs.records.Linked.{Linked, module_small}
use Rattle.check_records.proofs.record_rules.Judged.{Judged, judged, judged_no, judged_passes, counts_same, any_same, and_right, prelude_again}
use Rattle.check_records.proofs.record_rules.Judged.{definition_again}
use Rattle.check_records.proofs.record_rules.Judged.{scope_again, extern_again, scope_definition, import_definition, ns_same, child_same}
use Rattle.check_records.proofs.record_rules.Judged.{parent_same, member_same}

-- the names of a builtin definition that is in range
builtin_same : (W A : List ℕ) (names first : ℕ) → (leb names first || is_builtin (name_at W (name_head A first)))
    ≡ (leb names first || is_builtin (get_or (rows (λ k. name_at W (name_head A k)) 0 names) first no_name))
builtin_same W A names first = by (leb names first) refl
  where
    by : (b : Bool) → leb names first ≡ b → (leb names first || is_builtin (name_at W (name_head A first)))
        ≡ (leb names first || is_builtin (get_or (rows (λ k. name_at W (name_head A k)) 0 names) first no_name))
    by true e = rw e
    by false e = ap (λ x. leb names first || is_builtin x) (sym (get_d_rows (λ k. name_at W (name_head A k)) no_name names first (leb-false _ _ e)))

module _ (W A : List ℕ) (at : ℕ) (l : Layout) (ms : List Map) (st : Stands W A 3 at l ms)
    {n : ℕ} {a b : Bool}
    (j : n ≡ number_of a b false true true)
    (ea : a ≡ dependency_range (dependency_at W at))
    (eb : b ≡ dependency_defined (counts_in l) (dependency_at W at))
  where
    dependency_number : Judged n (dependency_range (dependency_at W at)) (dependency_defined (counts_of (snap_with W A l ms)) (dependency_at W at))
        false true true
    dependency_number =
        judged j ea
        (eb ∙ ap (λ m. dependency_defined m (dependency_at W at)) (counts_same W A 3 at l ms st))
        (λ h. refl)
        (λ h. refl)
        refl

    pub dependency_no : (n ≡ 0 → ⊥) → dependency_step (snap_with W A l ms) (dependency_at W at) ≡ no n
    unfolding dependency_step
    dependency_no z = judged_no dependency_number _ z

    pub dependency_on : n ≡ 0 → at + dependency_size ≤ length W
        → Answered W A 3 (at + dependency_size) (dependency_step (snap_with W A l ms) (dependency_at W at)) (Ok (one_more 3 l))
    unfolding dependency_step any
    dependency_on z fits = quiet_on W A 3 at l ms st refl dependency_number z (let q = st.place in omega arith) fits

module _ (W A : List ℕ) (at : ℕ) (l : Layout) (ms : List Map) (st : Stands W A 6 at l ms)
    {n : ℕ} {b c d : Bool}
    {child : ℕ}
    (j : n ≡ number_of true b c d true)
    (eb : b ≡ child_defined (counts_in l) (child_at W at))
    (es : child ≡ (child_at W at).child)
    (ec : c ≡ not (eqb (get_or A (child_marks + child) 0) 0))
    (ed : d ≡ (eqb (module_map A (child_at W at).child) (module_map A (child_at W at).owner) && eqb (module_parent A (child_at W at).child)
    ((child_at W at).owner + 1)))
  where
    child_in : child_defined (counts_in l) (child_at W at) ≡ true → (child_at W at).child < module_limit
    child_in h =
        let p : (child_at W at).child < l.modules = ltb-true _ _ (and_right (ltb (child_at W at).owner l.modules)
        (ltb (child_at W at).child l.modules) h) in
        let q = st.limited.modules in
        omega arith

    child_number : Judged n true (child_defined (counts_of (snap_with W A l ms)) (child_at W at))
        (any (same_child (child_at W at)) (snap_with W A l ms).children) (child_placed (snap_with W A l ms) (child_at W at)) true
    child_number =
        judged j refl
        (eb ∙ ap (λ m. child_defined m (child_at W at)) (counts_same W A 6 at l ms st))
        (λ h. ec ∙ ap (λ m. not (eqb (get_or A (child_marks + m) 0) 0)) es ∙ st.index.children.same (child_at W at).child (child_in (sym eb ∙ h))
        ∙ any_same _ _ _ _ 0 l.children (λ i. refl))
        (λ h. ed ∙ child_same W A l ms (child_at W at) (sym eb ∙ h))
        refl

    pub child_no : (n ≡ 0 → ⊥) → child_step (snap_with W A l ms) (child_at W at) ≡ no n
    unfolding child_step
    child_no z = judged_no child_number _ z

    pub child_on : (B : List ℕ) → n ≡ 0 → at + child_size ≤ length W → Linked W A B (one_more 6 l)
        → Answered W B 6 (at + child_size) (child_step (snap_with W A l ms) (child_at W at)) (Ok (one_more 6 l))
    unfolding child_step
    child_on B z fits x = plain_on W A B 6 at l ms st x.kept refl refl refl refl child_number z (let q = st.place in omega arith)
        fits (λ h. absurd (omega arith)) x.index

module _ (W A : List ℕ) (at : ℕ) (l : Layout) (ms : List Map) (st : Stands W A 7 at l ms)
    {n : ℕ} {b c : Bool}
    {base : ℕ}
    (j : n ≡ number_of true b c true true)
    (eb : b ≡ prelude_defined (counts_in l) (prelude_at W at))
    (es : base ≡ prelude_base l)
    (ec : c ≡ any (same_by W true 0 at) (rows (λ k. base + prelude_size * k) 0 l.preludes))
  where
    prelude_number : Judged n true (prelude_defined (counts_of (snap_with W A l ms)) (prelude_at W at))
        (any (same_prelude (prelude_at W at)) (snap_with W A l ms).preludes) true true
    prelude_number =
        judged j refl
        (eb ∙ ap (λ m. prelude_defined m (prelude_at W at)) (counts_same W A 7 at l ms st))
        (λ h. ec ∙ ap (λ m. any (same_by W true 0 at) (rows (λ k. m + prelude_size * k) 0 l.preludes)) es
        ∙ prelude_again W at (prelude_base l) l.preludes)
        (λ h. refl)
        refl

    pub prelude_no : (n ≡ 0 → ⊥) → prelude_step (snap_with W A l ms) (prelude_at W at) ≡ no n
    unfolding prelude_step
    prelude_no z = judged_no prelude_number _ z

    pub prelude_on : n ≡ 0 → at + prelude_size ≤ length W
        → Answered W A 7 (at + prelude_size) (prelude_step (snap_with W A l ms) (prelude_at W at)) (Ok (one_more 7 l))
    unfolding prelude_step any
    prelude_on z fits = quiet_on W A 7 at l ms st refl prelude_number z (let q = st.place in omega arith) fits

module _ (W A : List ℕ) (at : ℕ) (l : Layout) (ms : List Map) (st : Stands W A 8 at l ms)
    {n : ℕ} {a b c d : Bool}
    {e : Bool}
    (j : n ≡ number_of a b c d e)
    (ea : a ≡ (leb 1 (definition_at W at).kind && leb (definition_at W at).kind 5 &&
    (eqb (definition_at W at).kind 2 || eqb (definition_at W at).second 0) && (not (eqb (definition_at W at).kind 3) || leb
    l.names (definition_at W at).first || is_builtin (name_at W (name_head A (definition_at W at).first)))))
    (eb : b ≡ definition_defined (counts_in l) (definition_at W at))
    (ec : ((definition_at W at).kind ≡ 1 → (definition_at W at).first < module_limit)
    → c ≡ ((eqb (definition_at W at).kind 1 || eqb (definition_at W at).kind 3) && any (same_by W true 1 at)
    (rows (λ k. definition_base l + definition_size * k) 0 l.definitions)))
    (ed : d ≡ (not (eqb (definition_at W at).kind 2) || eqb (definition_at W (definition_base l + definition_size * (definition_at W at).first)).kind
    4))
    (ee : e ≡ ltb l.definitions definition_limit)
  where
    range_same : (v : Bool) → (not v || leb l.names (definition_at W at).first || is_builtin (name_at W (name_head A (definition_at W at).first)))
        ≡ (not v || leb l.names (definition_at W at).first || is_builtin (get_or (snap_with W A l ms).names (definition_at W at).first no_name))
    range_same true = builtin_same W A l.names (definition_at W at).first
    range_same false = refl

    definition_number_lem : Judged n (definition_range (snap_with W A l ms) (definition_at W at))
        (definition_defined (counts_of (snap_with W A l ms)) (definition_at W at)) (definition_repeated (snap_with W A l ms) (definition_at W at))
        (definition_placed (snap_with W A l ms) (definition_at W at)) (ltb (length (snap_with W A l ms).definitions) definition_limit)
    definition_number_lem =
        judged j (ea ∙ ap (λ x. leb 1 (definition_at W at).kind && leb (definition_at W at).kind 5 &&
        (eqb (definition_at W at).kind 2 || eqb (definition_at W at).second 0) && x) (range_same (eqb (definition_at W at).kind 3))
        ∙ ap (λ m. leb 1 (definition_at W at).kind && leb (definition_at W at).kind 5 &&
        (eqb (definition_at W at).kind 2 || eqb (definition_at W at).second 0) &&
        (not (eqb (definition_at W at).kind 3) || leb m (definition_at W at).first || is_builtin
        (get_or (snap_with W A l ms).names (definition_at W at).first no_name))) (sym (length_rows _ l.names)))
        (eb ∙ ap (λ m. definition_defined m (definition_at W at)) (counts_same W A 8 at l ms st))
        (λ h. ec (λ e. (let p = module_small (counts_in l) (definition_at W at) (sym eb ∙ h) e in let q = st.limited.modules in omega arith))
        ∙ ap (λ x. (eqb (definition_at W at).kind 1 || eqb (definition_at W at).kind 3) && x)
        (definition_again W at (definition_base l) l.definitions))
        (λ h. ed ∙ parent_same W A l ms (definition_at W at) (sym eb ∙ h))
        (ee ∙ ap (λ m. ltb m definition_limit) (sym (length_rows _ l.definitions)))

    pub definition_no : (n ≡ 0 → ⊥) → definition_step (snap_with W A l ms) (definition_at W at) ≡ no n
    unfolding definition_step
    definition_no z = judged_no definition_number_lem _ z

    pub definition_on : (B : List ℕ) → n ≡ 0 → at + definition_size ≤ length W → Linked W A B (one_more 8 l)
        → Answered W B 8 (at + definition_size) (definition_step (snap_with W A l ms) (definition_at W at)) (Ok (one_more 8 l))
    unfolding definition_step
    definition_on B z fits x =
        let room = ltb-true l.definitions definition_limit
        (ap (λ m. ltb m definition_limit) (sym (length_rows (λ j. definition_at W (definition_base l + definition_size * j)) l.definitions))
        ∙ (judged_passes definition_number_lem z).room) in
        plain_on W A B 8 at l ms st x.kept refl refl refl refl definition_number_lem z (let q = st.place in omega arith) fits (λ h. room) x.index

module _ (W A : List ℕ) (at : ℕ) (l : Layout) (ms : List Map) (st : Stands W A 9 at l ms)
    {n : ℕ} {a b c d : Bool}
    {base : ℕ}
    {ns def : ℕ}
    (j : n ≡ number_of a b c d true)
    (ea : a ≡ scope_range (scope_at W at))
    (eb : b ≡ scope_defined (counts_in l) (scope_at W at))
    (es : base ≡ scope_base l)
    (ec : c ≡ any (same_by W true 2 at) (rows (λ k. base + scope_size * k) 0 l.scopes))
    (en : ns ≡ (scope_at W at).ns) (ef : def ≡ (scope_at W at).definition)
    (ed : d ≡ (not (eqb ns 2) || eqb (definition_at W (definition_base l + definition_size * def)).kind 5))
  where
    scope_number : Judged n (scope_range (scope_at W at)) (scope_defined (counts_of (snap_with W A l ms)) (scope_at W at))
        (any (same_entry (scope_at W at)) (snap_with W A l ms).scopes) (ns_placed (snap_with W A l ms) (scope_at W at).ns (scope_at W at).definition)
        true
    scope_number =
        judged j ea
        (eb ∙ ap (λ m. scope_defined m (scope_at W at)) (counts_same W A 9 at l ms st))
        (λ h. ec ∙ ap (λ m. any (same_by W true 2 at) (rows (λ k. m + scope_size * k) 0 l.scopes)) es ∙ scope_again W at (scope_base l) l.scopes)
        (λ h. ed ∙ ap₂ (λ m f. not (eqb m 2) || eqb (definition_at W (definition_base l + definition_size * f)).kind 5) en ef
        ∙ ns_same W A l ms (scope_at W at).ns (scope_at W at).definition (scope_definition (counts_in l) (scope_at W at) (sym eb ∙ h)))
        refl

    pub scope_no : (n ≡ 0 → ⊥) → scope_step (snap_with W A l ms) (scope_at W at) ≡ no n
    unfolding scope_step
    scope_no z = judged_no scope_number _ z

    pub scope_on : (B : List ℕ) → n ≡ 0 → at + scope_size ≤ length W → Linked W A B (one_more 9 l)
        → Answered W B 9 (at + scope_size) (scope_step (snap_with W A l ms) (scope_at W at)) (Ok (one_more 9 l))
    unfolding scope_step
    scope_on B z fits x = plain_on W A B 9 at l ms st x.kept refl refl refl refl scope_number z (let q = st.place in omega arith)
        fits (λ h. absurd (omega arith)) x.index

module _ (W A : List ℕ) (at : ℕ) (l : Layout) (ms : List Map) (st : Stands W A 10 at l ms)
    {n : ℕ} {a b d : Bool}
    {ns def : ℕ}
    (j : n ≡ number_of a b false d true)
    (ea : a ≡ import_range (import_at W at))
    (eb : b ≡ import_defined (counts_in l) (import_at W at))
    (en : ns ≡ (import_at W at).ns) (ef : def ≡ (import_at W at).definition)
    (ed : d ≡ (not (eqb ns 2) || eqb (definition_at W (definition_base l + definition_size * def)).kind 5))
  where
    import_number : Judged n (import_range (import_at W at)) (import_defined (counts_of (snap_with W A l ms)) (import_at W at)) false
        (ns_placed (snap_with W A l ms) (import_at W at).ns (import_at W at).definition) true
    import_number =
        judged j ea
        (eb ∙ ap (λ m. import_defined m (import_at W at)) (counts_same W A 10 at l ms st))
        (λ h. refl)
        (λ h. ed ∙ ap₂ (λ m f. not (eqb m 2) || eqb (definition_at W (definition_base l + definition_size * f)).kind 5) en ef
        ∙ ns_same W A l ms (import_at W at).ns (import_at W at).definition (import_definition (counts_in l) (import_at W at) (sym eb ∙ h)))
        refl

    pub import_no : (n ≡ 0 → ⊥) → import_step (snap_with W A l ms) (import_at W at) ≡ no n
    unfolding import_step
    import_no z = judged_no import_number _ z

    pub import_on : n ≡ 0 → at + import_size ≤ length W → Answered W A 10 (at + import_size) (import_step (snap_with W A l ms) (import_at W at))
        (Ok (one_more 10 l))
    unfolding import_step any
    import_on z fits = quiet_on W A 10 at l ms st refl import_number z (let q = st.place in omega arith) fits

module _ (W A : List ℕ) (at : ℕ) (l : Layout) (ms : List Map) (st : Stands W A 11 at l ms)
    {n : ℕ} {b c : Bool}
    {base : ℕ}
    (j : n ≡ number_of true b c true true)
    (eb : b ≡ extern_defined (counts_in l) (extern_at W at))
    (es : base ≡ extern_base l)
    (ec : c ≡ any (same_by W true 1 at) (rows (λ k. base + extern_size * k) 0 l.externs))
  where
    extern_number : Judged n true (extern_defined (counts_of (snap_with W A l ms)) (extern_at W at))
        (any (same_extern (extern_at W at)) (snap_with W A l ms).externs) true true
    extern_number =
        judged j refl
        (eb ∙ ap (λ m. extern_defined m (extern_at W at)) (counts_same W A 11 at l ms st))
        (λ h. ec ∙ ap (λ m. any (same_by W true 1 at) (rows (λ k. m + extern_size * k) 0 l.externs)) es
        ∙ extern_again W at (extern_base l) l.externs)
        (λ h. refl)
        refl

    pub extern_no : (n ≡ 0 → ⊥) → extern_step (snap_with W A l ms) (extern_at W at) ≡ no n
    unfolding extern_step
    extern_no z = judged_no extern_number _ z

    pub extern_on : (B : List ℕ) → n ≡ 0 → at + extern_size ≤ length W → Linked W A B (one_more 11 l)
        → Answered W B 11 (at + extern_size) (extern_step (snap_with W A l ms) (extern_at W at)) (Ok (one_more 11 l))
    unfolding extern_step
    extern_on B z fits x = plain_on W A B 11 at l ms st x.kept refl refl refl refl extern_number z (let q = st.place in omega arith)
        fits (λ h. absurd (omega arith)) x.index

module _ (W A : List ℕ) (at : ℕ) (l : Layout) (ms : List Map) (st : Stands W A 13 at l ms)
    {n : ℕ} {a b d : Bool}
    (j : n ≡ number_of a b false d true)
    (ea : a ≡ member_range (member_at W at))
    (eb : b ≡ member_defined (counts_in l) (member_at W at))
    (ed : d ≡ (eqb (definition_at W (definition_base l + definition_size * (member_at W at).parent)).kind 4 && is_member (member_at W at).kind
    (member_at W at).parent (member_at W at).name (definition_at W (definition_base l + definition_size * (member_at W at).definition))))
  where
    member_number : Judged n (member_range (member_at W at)) (member_defined (counts_of (snap_with W A l ms)) (member_at W at)) false
        (member_placed (snap_with W A l ms) (member_at W at)) true
    member_number =
        judged j ea
        (eb ∙ ap (λ m. member_defined m (member_at W at)) (counts_same W A 13 at l ms st))
        (λ h. refl)
        (λ h. ed ∙ member_same W A l ms (member_at W at) (sym eb ∙ h))
        refl

    pub member_no : (n ≡ 0 → ⊥) → member_step (snap_with W A l ms) (member_at W at) ≡ no n
    unfolding member_step
    member_no z = judged_no member_number _ z

    pub member_on : n ≡ 0 → at + member_size ≤ length W → Answered W A 13 (at + member_size) (member_step (snap_with W A l ms) (member_at W at))
        (Ok (one_more 13 l))
    unfolding member_step any
    member_on z fits = quiet_on W A 13 at l ms st refl member_number z (let q = st.place in omega arith) fits
