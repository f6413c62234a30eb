-- A record at another place, after other scopes: its step is the same.
use Prim.Native.Nat.{ℕ, suc, ◌+◌, ◌-◌, ◌/◌, ◌%◌, ◌≤◌}
use mathlib.Core.Path.{◌≡◌, refl, sym, ◌∙◌, ap, ap₂, subst}
use mathlib.Core.List.{List, [], ◌∷◌, ◌++◌, map, map-append}
use mathlib.Core.Bool.{Bool, true, false}
use native.Mathlib.Omega.{arith}
use native.Mathlib.Nat.{le_antisymm}
use native.Mathlib.Nat.{add-zero}
use lib.Dec.{eqb, leb, ltb}
use lib.ListN.{length, get_or}
use borrow.Author.Tests.{eqb-true, eqb-false, eq-eqb, leb-true}
use Rattle.snapshot.specs.Lists.{any, rows}
use Rattle.snapshot.specs.Limits.{crate_limit, module_limit, name_limit, definition_limit}
use Rattle.snapshot.specs.Words.{kind_of, pay_of, words_of, arguments_of, arguments_at}
use Rattle.snapshot.specs.Sizes.{crate_size, dependency_size, map_size, module_size, child_size, prelude_size, definition_size, scope_size}
use Rattle.snapshot.specs.Sizes.{import_size}
use Rattle.snapshot.specs.Sizes.{extern_size, member_size}
use Rattle.snapshot.specs.Records.{Snapshot, Name, Crate, Dependency, Map, Module, Child, Prelude, Definition, Scope, Import, Extern, Member, name_at}
use Rattle.snapshot.specs.Records.{crate_at, dependency_at, map_at, module_at, child_at, prelude_at, definition_at, scope_at, import_at, extern_at}
use Rattle.snapshot.specs.Records.{member_at}
use Rattle.snapshot.proofs.Laws.{rows_ext, after_head}
use Rattle.check_rules.specs.Tests.{child_defined, child_placed, counts_of, crate_range, is_edition, definition_defined, definition_placed}
use Rattle.check_rules.specs.Tests.{definition_range}
use Rattle.check_rules.specs.Tests.{definition_repeated, dependency_defined, dependency_range, extern_defined, import_defined, import_range}
use Rattle.check_rules.specs.Tests.{map_defined}
use Rattle.check_rules.specs.Tests.{map_placed, map_range, map_repeated, member_defined, member_placed, member_range, module_defined, module_placed}
use Rattle.check_rules.specs.Tests.{name_range, ns_placed, prelude_defined, same_child, same_extern, same_name, same_prelude}
use Rattle.check_rules.specs.Steps.{Next, on, judge, add_name, add_crate, add_dependency, add_map, add_module, add_child, add_prelude, add_definition}
use Rattle.check_rules.specs.Steps.{add_import, add_extern, add_member, name_step, crate_step, dependency_step, map_step, module_step, child_step}
use Rattle.check_rules.specs.Steps.{prelude_step}
use Rattle.check_rules.specs.Steps.{definition_step, import_step, extern_step, member_step}
use Rattle.check_rules.specs.Verdict.{record_step}
use Rattle.accept.proofs.Accepted.{by_test, judge_on, judge_crate_on}
use Rattle.edit_rules.specs.Entries.{moved_scope, moved_import, moved_extern, with_lists, with_scopes}
use Rattle.edit_rules.proofs.scope_edits.Lists.{any_map}

-- n words after the word at a and at b, and these, are the same
abbrev pub Same : List ℕ → List ℕ → ℕ → ℕ → ℕ → Type 0
Same W X a b n = (i : ℕ) → i ≤ n → get_or X (b + i) 0 ≡ get_or W (a + i) 0

pub same_head : (W X : List ℕ) (a b n : ℕ) → Same W X a b n → get_or X b 0 ≡ get_or W a 0
same_head W X a b n h = let e : get_or X (b + 0) 0 ≡ get_or W (a + 0) 0 = h 0 (omega arith) in rw (add-zero b, add-zero a) at e

-- the records at both places

module _ (W X : List ℕ) (a b : ℕ) where
  name_same : Same W X a b (words_of (pay_of (get_or W a 0))) → name_at X b ≡ name_at W a
  name_same h =
      let e = same_head W X a b _ h in
      let n = ap pay_of e in
      let t : rows (λ i. get_or X (b + 1 + i) 0) 0 (words_of (pay_of (get_or W a 0)))
      ≡ rows (λ i. get_or W (a + 1 + i) 0) 0 (words_of (pay_of (get_or W a 0))) =
      rows_ext _ _ _ (λ i k. sym (after_head X b i) ∙ h (1 + i) (omega arith) ∙ after_head W a i) in
      let u = ap (λ m. rows (λ i. get_or X (b + 1 + i) 0) 0 (words_of m)) n ∙ t in
      λ i. record { bytes = n i; text = u i }

  crate_same : Same W X a b (crate_size - 1) → crate_at X b ≡ crate_at W a
  crate_same h =
      let e = ap pay_of (same_head W X a b _ h) in
      λ i. record { origin = e i % 8; no_std = e i / 8; edition = h 1 (omega arith) i }

  dependency_same : Same W X a b (dependency_size - 1) → dependency_at X b ≡ dependency_at W a
  dependency_same h =
      let e = ap pay_of (same_head W X a b _ h) in
      λ i. record { owner = e i; crate = h 1 (omega arith) i; sysroot = h 2 (omega arith) i }

  map_same : Same W X a b (map_size - 1) → map_at X b ≡ map_at W a
  map_same h =
      let e = ap pay_of (same_head W X a b _ h) in
      λ i. record { crate = e i; block = h 1 (omega arith) i; no_std = h 2 (omega arith) i }

  module_same : Same W X a b (module_size - 1) → module_at X b ≡ module_at W a
  module_same h = let e = ap pay_of (same_head W X a b _ h) in λ i. record { map = e i; parent = h 1 (omega arith) i }

  child_same : Same W X a b (child_size - 1) → child_at X b ≡ child_at W a
  child_same h = let e = ap pay_of (same_head W X a b _ h) in λ i. record { owner = e i; child = h 1 (omega arith) i }

  prelude_same : Same W X a b (prelude_size - 1) → prelude_at X b ≡ prelude_at W a
  prelude_same h = let e = ap pay_of (same_head W X a b _ h) in λ i. record { map = e i; target = h 1 (omega arith) i }

  definition_same : b ≡ a → Same W X a b (definition_size - 1) → definition_at X b ≡ definition_at W a
  definition_same to h =
      let e = ap pay_of (same_head W X a b _ h) in
      λ i. record { kind = e i; first = h 1 (omega arith) i; second = h 2 (omega arith) i; place = to i }

  -- a record's place goes by m
  pub scope_same : (m : ℕ → ℕ) → b ≡ m a → Same W X a b (scope_size - 1) → scope_at X b ≡ moved_scope m (scope_at W a)
  scope_same m to h =
      let e = ap pay_of (same_head W X a b _ h) in
      let f = h 1 (omega arith) in
      let g = h 2 (omega arith) in
      let k = h 3 (omega arith) in
      let l = h 4 (omega arith) in
      let n = h 5 (omega arith) in
      let o = h 6 (omega arith) in
      let p = h 7 (omega arith) in
      λ i. record { owner = e i; ns = f i; name = g i; definition = k i; visibility = l i; number = n i; declared = o i; bits = p i; place = to i }

  import_same : (m : ℕ → ℕ) → b ≡ m a → Same W X a b (import_size - 1) → import_at X b ≡ moved_import m (import_at W a)
  import_same m to h =
      let e = ap pay_of (same_head W X a b _ h) in
      let f = h 1 (omega arith) in
      let g = h 2 (omega arith) in
      let k = h 3 (omega arith) in
      let l = h 4 (omega arith) in
      let n = h 5 (omega arith) in
      λ i. record { owner = e i; ns = f i; definition = g i; name = k i; container = l i; bits = n i; place = to i }

  extern_same : (m : ℕ → ℕ) → b ≡ m a → Same W X a b (extern_size - 1) → extern_at X b ≡ moved_extern m (extern_at W a)
  extern_same m to h =
      let e = ap pay_of (same_head W X a b _ h) in
      λ i. record { owner = e i; name = h 1 (omega arith) i; target = h 2 (omega arith) i; place = to i }

  member_same : Same W X a b (member_size - 1) → member_at X b ≡ member_at W a
  member_same h =
      let e = ap pay_of (same_head W X a b _ h) in
      let f = h 1 (omega arith) in
      let g = h 2 (omega arith) in
      let k = h 3 (omega arith) in
      let l = h 4 (omega arith) in
      λ i. record { parent = e i; name = f i; definition = g i; kind = k i; bits = l i }

-- a step that takes the record asks nothing of the scopes, and of no place

-- without imports and externs
abbrev pub Bare : Snapshot → Type 0
Bare s = (s.imports ≡ []) × (s.externs ≡ [])

pub bare_moved : (m : ℕ → ℕ) (s : Snapshot) → Bare s → (xs : List Scope) → with_scopes m s xs ≡ with_lists s xs s.imports s.externs
bare_moved m s b xs =
    ap₂ (with_lists s xs) (ap (map (moved_import m)) b.0 ∙ sym b.0) (ap (map (moved_extern m)) b.1 ∙ sym b.1)

-- a record of kind k that is no scope leaves the scopes, and one of a lower kind the imports and the externs
abbrev pub Stays : ℕ → Snapshot → Snapshot → Type 0
Stays k s t = (t.scopes ≡ s.scopes) × (k ≤ 9 → Bare s → Bare t)

module _ (m : ℕ → ℕ) (k : ℕ) (s t : Snapshot) (ys : List Scope) where
  abbrev Kept : (Snapshot → Next) → Type 0
  Kept step = Stays k s t × (step (with_scopes m s ys) ≡ on (with_scopes m t ys))

  judged_moved : (a b c d e : Bool) (r : Snapshot) → judge a b c d e r ≡ on t → Stays k s r
      → Stays k s t × (judge a b c d e (with_scopes m r ys) ≡ on (with_scopes m t ys))
  judged_moved a b c d e r h l =
      let q = judge_on a b c d e r t h in
      let p = q.passed in (
        subst (Stays k s) q.same l,
        rw (p.ranged, p.known, p.new, p.right, p.roomy) (ap (λ x. on (with_scopes m x ys)) q.same),
      )

  name_moved : (x : Name) → name_step s x ≡ on t → Kept (λ s. name_step s x)
  unfolding name_step
  name_moved x e =
      judged_moved (name_range x) true (any (same_name x) s.names) true (ltb (length s.names) name_limit) (add_name s x) e (refl, λ h b. b)

  crate_moved : (x : Crate) → crate_step s x ≡ on t → Kept (λ s. crate_step s x)
  unfolding crate_step
  crate_moved x e =
      let q = judge_crate_on (crate_range x) (is_edition x.edition) (ltb (length s.crates) crate_limit) (add_crate s x) t e in
      let p = q.passed in
      let l : Stays k s (add_crate s x) = (refl, λ h b. b) in (
        subst (Stays k s) q.same l,
        rw (p.range, p.edition, p.room) (ap (λ y. on (with_scopes m y ys)) q.same),
      )

  dependency_moved : (x : Dependency) → dependency_step s x ≡ on t → Kept (λ s. dependency_step s x)
  unfolding dependency_step
  dependency_moved x e =
      judged_moved (dependency_range x) (dependency_defined (counts_of s) x) false true true (add_dependency s x) e (refl, λ h b. b)

  map_moved : (x : Map) → map_step s x ≡ on t → Kept (λ s. map_step s x)
  unfolding map_step
  map_moved x e =
      judged_moved (map_range x) (map_defined (counts_of s) x) (map_repeated s x) (map_placed s x) true (add_map s x) e (refl, λ h b. b)

  module_moved : (x : Module) → module_step s x ≡ on t → Kept (λ s. module_step s x)
  unfolding module_step
  module_moved x e =
      judged_moved true (module_defined (counts_of s) x) false (module_placed s x) (ltb (length s.modules) module_limit)
      (add_module s x) e (refl, λ h b. b)

  child_moved : (x : Child) → child_step s x ≡ on t → Kept (λ s. child_step s x)
  unfolding child_step
  child_moved x e =
      judged_moved true (child_defined (counts_of s) x) (any (same_child x) s.children) (child_placed s x) true (add_child s x) e (refl, λ h b. b)

  prelude_moved : (x : Prelude) → prelude_step s x ≡ on t → Kept (λ s. prelude_step s x)
  unfolding prelude_step
  prelude_moved x e =
      judged_moved true (prelude_defined (counts_of s) x) (any (same_prelude x) s.preludes) true true (add_prelude s x) e (refl, λ h b. b)

  definition_moved : (x : Definition) → definition_step s x ≡ on t → Kept (λ s. definition_step s x)
  unfolding definition_step
  definition_moved x e =
      judged_moved (definition_range s x) (definition_defined (counts_of s) x) (definition_repeated s x) (definition_placed s x)
      (ltb (length s.definitions) definition_limit) (add_definition s x) e (refl, λ h b. b)

  import_moved : (x : Import) → 10 ≤ k → import_step s x ≡ on t → Kept (λ s. import_step s (moved_import m x))
  unfolding import_step
  import_moved x h e =
      let q =
      judged_moved (import_range x) (import_defined (counts_of s) x) false (ns_placed s x.ns x.definition) true (add_import s x) e
      (refl, λ l b. absurd (omega arith)) in
      let f : map (moved_import m) s.imports ++ (moved_import m x ∷ []) ≡ map (moved_import m) (s.imports ++ (x ∷ [])) =
      sym (map-append (moved_import m) s.imports (x ∷ [])) in (
        q.0,
        ap (λ l. judge (import_range x) (import_defined (counts_of s) x) false (ns_placed s x.ns x.definition) true
            (with_lists s ys l (map (moved_extern m) s.externs))) f ∙ q.1,
      )

  extern_moved : (x : Extern) → 10 ≤ k → extern_step s x ≡ on t → Kept (λ s. extern_step s (moved_extern m x))
  unfolding extern_step
  extern_moved x h e =
      let q =
      judged_moved true (extern_defined (counts_of s) x) (any (same_extern x) s.externs) true true (add_extern s x) e
      (refl, λ l b. absurd (omega arith)) in
      let f : map (moved_extern m) s.externs ++ (moved_extern m x ∷ []) ≡ map (moved_extern m) (s.externs ++ (x ∷ [])) =
      sym (map-append (moved_extern m) s.externs (x ∷ [])) in
      let g : any (same_extern x) (map (moved_extern m) s.externs) ≡ any (same_extern x) s.externs =
      any_map (same_extern x) (moved_extern m) (λ y. refl) s.externs in (
        q.0,
        ap₂ (λ b l. judge true (extern_defined (counts_of s) x) b true true
            (with_lists s ys (map (moved_import m) s.imports) l)) g f ∙ q.1,
      )

  member_moved : (x : Member) → member_step s x ≡ on t → Kept (λ s. member_step s x)
  unfolding member_step
  member_moved x e =
      judged_moved (member_range x) (member_defined (counts_of s) x) false (member_placed s x) true (add_member s x) e (refl, λ h b. b)

-- the arguments of a record of a known kind
pub arguments_are : (W : List ℕ) (a k : ℕ) → kind_of (get_or W a 0) ≡ k → arguments_at W a ≡ arguments_of k (pay_of (get_or W a 0))
arguments_are W a k e = ap (λ x. arguments_of x (pay_of (get_or W a 0))) e

pub above : (m k : ℕ) → m ≤ k → eqb k m ≡ false → suc m ≤ k
above m k h e = let n = eqb-false k m e in omega arith

-- A record that is no scope: its step keeps the scopes, and is taken as well at another place, after other scopes.
module _ (W X : List ℕ) (m : ℕ → ℕ) (a b k : ℕ) (to : b ≡ m a) (still : k ≡ 8 → b ≡ a) (here : kind_of (get_or W a 0) ≡ k)
    (h : Same W X a b (arguments_at W a)) (s t : Snapshot) (ys : List Scope)
  where
    moved_to : {A : Type 0} (step : Snapshot → A → Next) (x y : A) → y ≡ x → Kept m k s t ys (λ s. step s x) → Kept m k s t ys (λ s. step s y)
    moved_to step x y e q = (q.0, ap (step (with_scopes m s ys)) e ∙ q.1)

    sized : (n : ℕ) → eqb k n ≡ true → Same W X a b (arguments_of n (pay_of (get_or W a 0)))
    sized n e =
        let q = arguments_are W a k here ∙ ap (λ x. arguments_of x (pay_of (get_or W a 0))) (eqb-true k n e) in subst (λ m. Same W X a b m) q h

    pub other_moved : eqb k 9 ≡ false → leb k 13 ≡ true → eqb k 12 ≡ false → leb 1 k ≡ true → record_step k W a s ≡ on t
        → Kept m k s t ys (record_step k X b)
    unfolding record_step arguments_of
    other_moved n9 most n12 least e =
        by_test (eqb k 1)
        (λ c. rw (record_step, c) (moved_to name_step (name_at W a) (name_at X b) (name_same W X a b (sized 1 c))
        (name_moved m k s t ys (name_at W a) (rw (record_step, c) at e)))) (λ n1.
        by_test (eqb k 2)
        (λ c. rw (record_step, n1, c) (moved_to crate_step (crate_at W a) (crate_at X b) (crate_same W X a b (sized 2 c))
        (crate_moved m k s t ys (crate_at W a) (rw (record_step, n1, c) at e)))) (λ n2.
        by_test (eqb k 3)
        (λ c. rw (record_step, n1, n2, c) (moved_to dependency_step (dependency_at W a) (dependency_at X b) (dependency_same W X a b (sized 3 c))
        (dependency_moved m k s t ys (dependency_at W a) (rw (record_step, n1, n2, c) at e)))) (λ n3.
        by_test (eqb k 4)
        (λ c. rw (record_step, n1, n2, n3, c) (moved_to map_step (map_at W a) (map_at X b) (map_same W X a b (sized 4 c))
        (map_moved m k s t ys (map_at W a) (rw (record_step, n1, n2, n3, c) at e)))) (λ n4.
        by_test (eqb k 5)
        (λ c. rw (record_step, n1, n2, n3, n4, c) (moved_to module_step (module_at W a) (module_at X b) (module_same W X a b (sized 5 c))
        (module_moved m k s t ys (module_at W a) (rw (record_step, n1, n2, n3, n4, c) at e)))) (λ n5.
        by_test (eqb k 6)
        (λ c. rw (record_step, n1, n2, n3, n4, n5, c) (moved_to child_step (child_at W a) (child_at X b) (child_same W X a b (sized 6 c))
        (child_moved m k s t ys (child_at W a) (rw (record_step, n1, n2, n3, n4, n5, c) at e)))) (λ n6.
        by_test (eqb k 7)
        (λ c. rw (record_step, n1, n2, n3, n4, n5, n6, c) (moved_to prelude_step (prelude_at W a) (prelude_at X b)
        (prelude_same W X a b (sized 7 c)) (prelude_moved m k s t ys (prelude_at W a) (rw (record_step, n1, n2, n3, n4, n5, n6, c) at e)))) (λ n7.
        by_test (eqb k 8)
        (λ c. rw (record_step, n1, n2, n3, n4, n5, n6, n7, c) (moved_to definition_step (definition_at W a) (definition_at X b)
        (definition_same W X a b (still (eqb-true k 8 c)) (sized 8 c)) (definition_moved m k s t ys (definition_at W a)
        (rw (record_step, n1, n2, n3, n4, n5, n6, n7, c) at e)))) (λ n8.
        by_test (eqb k 10)
        (λ c. rw (record_step, n1, n2, n3, n4, n5, n6, n7, n8, n9, c) (moved_to import_step (moved_import m (import_at W a))
        (import_at X b) (import_same W X a b m to (sized 10 c))
        (import_moved m k s t ys (import_at W a) (let x = eqb-true k 10 c in omega arith)
        (rw (record_step, n1, n2, n3, n4, n5, n6, n7, n8, n9, c) at e)))) (λ n10.
        by_test (eqb k 11)
        (λ c. rw (record_step, n1, n2, n3, n4, n5, n6, n7, n8, n9, n10, c) (moved_to extern_step (moved_extern m (extern_at W a))
        (extern_at X b) (extern_same W X a b m to (sized 11 c))
        (extern_moved m k s t ys (extern_at W a) (let x = eqb-true k 11 c in omega arith)
        (rw (record_step, n1, n2, n3, n4, n5, n6, n7, n8, n9, n10, c) at e)))) (λ n11.
        let r4 = above 4 k (above 3 k (above 2 k (above 1 k (leb-true 1 k least) n1) n2) n3) n4 in
        let r8 = above 8 k (above 7 k (above 6 k (above 5 k r4 n5) n6) n7) n8 in
        let r12 = above 12 k (above 11 k (above 10 k (above 9 k r8 n9) n10) n11) n12 in
        let c : eqb k 13 ≡ true = eq-eqb k 13 (le_antisymm (leb-true k 13 most) r12) in
        rw (record_step, n1, n2, n3, n4, n5, n6, n7, n8, n9, n10, n11) (moved_to member_step (member_at W a) (member_at X b)
        (member_same W X a b (sized 13 c))
        (member_moved m k s t ys (member_at W a) (rw (record_step, n1, n2, n3, n4, n5, n6, n7, n8, n9, n10, n11) at e)))))))))))))
