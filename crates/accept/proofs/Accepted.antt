-- What each record that is taken keeps, an accepted snapshot has.
use mathlib.Core.Path.{◌≡◌, refl, subst}
use Prim.Native.Nat.{ℕ, zero, suc, ◌+◌, ◌≤◌, ◌<◌}
use native.Mathlib.Omega.{arith}
use mathlib.Core.List.{List, [], ◌∷◌, ◌++◌}
use mathlib.Core.Bool.{Bool, true, false, ◌&&◌}
use lib.Dec.{eqb, ltb, leb}
use lib.ListN.{length, get_or}
use borrow.Author.Tests.{eqb-true, ltb-true, leb-true}
use Rattle.snapshot.specs.Lists.{any}
use Rattle.snapshot.specs.Limits.{word_limit, crate_limit, module_limit, name_limit, definition_limit}
use Rattle.snapshot.specs.Refusals.{words_refusal, form_refusal, place_refusal}
use Rattle.snapshot.specs.Words.{kind_of, arguments_at}
use Rattle.snapshot.specs.Records.{Snapshot, Name, Crate, Dependency, Map, Module, Child, Prelude, Definition, Scope}
use Rattle.snapshot.specs.Records.{Import, Extern, Member, name_at, crate_at, dependency_at, map_at, module_at}
use Rattle.snapshot.specs.Records.{child_at, prelude_at, definition_at, scope_at, import_at, extern_at, member_at}
use Rattle.check_rules.specs.Tests.{child_defined, child_placed, counts_of, crate_range, is_edition, crates_own, definition_defined}
use Rattle.check_rules.specs.Tests.{definition_placed, definition_range, definition_repeated, dependency_defined, dependency_range}
use Rattle.check_rules.specs.Tests.{extern_defined, import_defined, import_range, map_defined, map_placed, map_range, map_repeated, maps_filled}
use Rattle.check_rules.specs.Tests.{member_defined, member_placed, member_range, module_defined, module_placed, name_range, ns_placed}
use Rattle.check_rules.specs.Tests.{prelude_defined, same_child, same_entry, same_extern, same_name, same_prelude, scope_defined, scope_range}
use Rattle.check_rules.specs.Steps.{Next, no, on, need, judge, judge_crate, add_name, add_crate, add_dependency, add_map}
use Rattle.check_rules.specs.Steps.{add_module, add_child, add_prelude, add_definition, add_scope, add_import, add_extern}
use Rattle.check_rules.specs.Steps.{add_member, name_step, crate_step, dependency_step, map_step, module_step, child_step}
use Rattle.check_rules.specs.Steps.{prelude_step, definition_step, scope_step, import_step, extern_step, member_step}
use Rattle.check_records.proofs.record_rules.Judged.{CratePassed}
use Rattle.accept.specs.Valid.{Stands}
use Rattle.check_rules.specs.Verdict.{follows, arguments_from, record_step, step_at, refuse, accept, finish, records, empty, verdict}

pub by_test : {C : Type 0} (b : Bool) → (b ≡ true → C) → (b ≡ false → C) → C
by_test true y n = y refl
by_test false y n = n refl

pub by_next : {C : Type 0} (r : Next) → ((n : ℕ) → r ≡ no n → C) → ((t : Snapshot) → r ≡ on t → C) → C
by_next (no n) f g = f n refl
by_next (on t) f g = g t refl

-- the tests of a record that was taken
pub record Passed (range defined repeated placed room : Bool) : Type 0 where
  pub ranged : range ≡ true
  pub known : defined ≡ true
  pub new : repeated ≡ false
  pub right : placed ≡ true
  pub roomy : room ≡ true

-- Each record of the words that passed its tests keeps P.
pub record Keeps (W : List ℕ) (P : Snapshot → Type 0) : Type 0 where
  pub names : (s : Snapshot) (y : Name)
      → Passed (name_range y) true (any (same_name y) s.names) true (ltb (length s.names) name_limit) → P s → P (add_name s y)
  pub crates : (s : Snapshot) (y : Crate)
      → CratePassed (crate_range y) (is_edition y.edition) (ltb (length s.crates) crate_limit) → P s → P (add_crate s y)
  pub dependencies : (s : Snapshot) (y : Dependency)
      → Passed (dependency_range y) (dependency_defined (counts_of s) y) false true true → P s → P (add_dependency s y)
  pub maps : (s : Snapshot) (y : Map)
      → Passed (map_range y) (map_defined (counts_of s) y) (map_repeated s y) (map_placed s y) true → P s → P (add_map s y)
  pub modules : (s : Snapshot) (y : Module)
      → Passed true (module_defined (counts_of s) y) false (module_placed s y) (ltb (length s.modules) module_limit)
      → P s → P (add_module s y)
  pub children : (s : Snapshot) (y : Child)
      → Passed true (child_defined (counts_of s) y) (any (same_child y) s.children) (child_placed s y) true
      → P s → P (add_child s y)
  pub preludes : (s : Snapshot) (y : Prelude)
      → Passed true (prelude_defined (counts_of s) y) (any (same_prelude y) s.preludes) true true
      → P s → P (add_prelude s y)
  pub definitions : (s : Snapshot) (y : Definition) → Stands W definition_at 8 y.place y
      → Passed (definition_range s y) (definition_defined (counts_of s) y) (definition_repeated s y) (definition_placed s y)
      (ltb (length s.definitions) definition_limit)
      → P s → P (add_definition s y)
  pub scopes : (s : Snapshot) (y : Scope) → Stands W scope_at 9 y.place y
      → Passed (scope_range y) (scope_defined (counts_of s) y) (any (same_entry y) s.scopes) (ns_placed s y.ns y.definition) true
      → P s → P (add_scope s y)
  pub imports : (s : Snapshot) (y : Import) → Stands W import_at 10 y.place y
      → Passed (import_range y) (import_defined (counts_of s) y) false (ns_placed s y.ns y.definition) true
      → P s → P (add_import s y)
  pub externs : (s : Snapshot) (y : Extern) → Stands W extern_at 11 y.place y
      → Passed true (extern_defined (counts_of s) y) (any (same_extern y) s.externs) true true → P s → P (add_extern s y)
  pub members : (s : Snapshot) (y : Member)
      → Passed (member_range y) (member_defined (counts_of s) y) false (member_placed s y) true → P s → P (add_member s y)

-- A property of maps, modules and definitions alone.
pub keeps_of : {W : List ℕ} (P : List Map → List Module → List Definition → Type 0)
    → ((s : Snapshot) (y : Map)
    → Passed (map_range y) (map_defined (counts_of s) y) (map_repeated s y) (map_placed s y) true
    → P s.maps s.modules s.definitions → P (s.maps ++ (y ∷ [])) s.modules s.definitions)
    → ((s : Snapshot) (y : Module)
    → Passed true (module_defined (counts_of s) y) false (module_placed s y) (ltb (length s.modules) module_limit)
    → P s.maps s.modules s.definitions → P s.maps (s.modules ++ (y ∷ [])) s.definitions)
    → ((s : Snapshot) (y : Definition)
    → Passed (definition_range s y) (definition_defined (counts_of s) y) (definition_repeated s y) (definition_placed s y)
    (ltb (length s.definitions) definition_limit)
    → P s.maps s.modules s.definitions → P s.maps s.modules (s.definitions ++ (y ∷ [])))
    → Keeps W (λ s. P s.maps s.modules s.definitions)
keeps_of P f g k =
    record {
      names = λ s y p h. h;
      crates = λ s y p h. h;
      dependencies = λ s y p h. h;
      maps = f;
      modules = g;
      children = λ s y p h. h;
      preludes = λ s y p h. h;
      definitions = λ s y o. k s y;
      scopes = λ s y o p h. h;
      imports = λ s y o p h. h;
      externs = λ s y o p h. h;
      members = λ s y p h. h;
    }

pub record Taken (range defined repeated placed room : Bool) (t u : Snapshot) : Type 0 where
  pub passed : Passed range defined repeated placed room
  pub same : t ≡ u

pub judge_on : (a b c d e : Bool) (t u : Snapshot) → judge a b c d e t ≡ on u → Taken a b c d e t u
judge_on false b c d e t u h = let z : ◌≡◌ {A = ℕ} 0 1 = cc in absurd (omega arith)
judge_on true false c d e t u h = let z : ◌≡◌ {A = ℕ} 0 1 = cc in absurd (omega arith)
judge_on true true true d e t u h = let z : ◌≡◌ {A = ℕ} 0 1 = cc in absurd (omega arith)
judge_on true true false false e t u h = let z : ◌≡◌ {A = ℕ} 0 1 = cc in absurd (omega arith)
judge_on true true false true false t u h = let z : ◌≡◌ {A = ℕ} 0 1 = cc in absurd (omega arith)
judge_on true true false true true t u h =
    record { passed = record { ranged = refl; known = refl; new = refl; right = refl; roomy = refl }; same = cc }

pub record CrateTaken (range edition room : Bool) (t u : Snapshot) : Type 0 where
  pub passed : CratePassed range edition room
  pub same : t ≡ u

pub judge_crate_on : (a b e : Bool) (t u : Snapshot) → judge_crate a b e t ≡ on u → CrateTaken a b e t u
judge_crate_on false b e t u h = let z : ◌≡◌ {A = ℕ} 0 1 = cc in absurd (omega arith)
judge_crate_on true false e t u h = let z : ◌≡◌ {A = ℕ} 0 1 = cc in absurd (omega arith)
judge_crate_on true true false t u h = let z : ◌≡◌ {A = ℕ} 0 1 = cc in absurd (omega arith)
judge_crate_on true true true t u h = record { passed = record { range = refl; edition = refl; room = refl }; same = cc }

need_on : (b : Bool) (n : ℕ) (r : Next) (u : Snapshot) → need b n r ≡ on u → r ≡ on u
need_on true n r u h = h
need_on false n r u h = let z : ◌≡◌ {A = ℕ} 0 1 = cc in absurd (omega arith)

-- what holds at the end, the last tests too
pub record Ends (P : Snapshot → Type 0) (s : Snapshot) : Type 0 where
  pub kept : P s
  pub whole : maps_filled s && crates_own s ≡ true

module _ (W : List ℕ) (P : Snapshot → Type 0) (keeps : Keeps W P) where
  taken_keeps : {a b c d e : Bool} {s t u : Snapshot} → (Passed a b c d e → P s → P t) → judge a b c d e t ≡ on u → P s → P u
  taken_keeps {a} {b} {c} {d} {e} {s} {t} {u} f g h = let q = judge_on a b c d e t u g in subst P q.same (f q.passed h)

  crate_keeps : {a b e : Bool} {s t u : Snapshot} → (CratePassed a b e → P s → P t) → judge_crate a b e t ≡ on u → P s → P u
  crate_keeps {a} {b} {e} {s} {t} {u} f g h = let q = judge_crate_on a b e t u g in subst P q.same (f q.passed h)

  -- one of two steps, by a test
  either : {C : Type 0} (b : Bool) (x y : Next) (u : Snapshot) → elim b [ true ↦ x | false ↦ y ] ≡ on u → (b ≡ true → x ≡ on u → C)
      → (y ≡ on u → C) → C
  either true x y u e f g = f refl e
  either false x y u e f g = g e

  -- a record of the words, with its head at a place
  stands : {R : Type 0} (read : List ℕ → ℕ → R) (k at : ℕ) → at < word_limit → kind_of (get_or W at 0) ≡ k → Stands W read k at (read W at)
  stands read k at l e = record { head = e; same = refl; inside = l }

  record_keeps : (at : ℕ) (s u : Snapshot) → at < word_limit → record_step (kind_of (get_or W at 0)) W at s ≡ on u → P s → P u
  unfolding record_step name_step crate_step dependency_step map_step module_step child_step prelude_step definition_step scope_step import_step
      extern_step member_step
  record_keeps at s u l e h =
      let k = kind_of (get_or W at 0) in
      either (eqb k 1) _ _ u e (λ a g. taken_keeps (keeps.names s (name_at W at)) g h) (λ e1.
      either (eqb k 2) _ _ u e1 (λ a g. crate_keeps (keeps.crates s (crate_at W at)) g h) (λ e2.
      either (eqb k 3) _ _ u e2 (λ a g. taken_keeps (keeps.dependencies s (dependency_at W at)) g h) (λ e3.
      either (eqb k 4) _ _ u e3 (λ a g. taken_keeps (keeps.maps s (map_at W at)) g h) (λ e4.
      either (eqb k 5) _ _ u e4 (λ a g. taken_keeps (keeps.modules s (module_at W at)) g h) (λ e5.
      either (eqb k 6) _ _ u e5 (λ a g. taken_keeps (keeps.children s (child_at W at)) g h) (λ e6.
      either (eqb k 7) _ _ u e6 (λ a g. taken_keeps (keeps.preludes s (prelude_at W at)) g h) (λ e7.
      either (eqb k 8) _ _ u e7 (λ a g. taken_keeps (keeps.definitions s (definition_at W at) (stands definition_at 8 at l (eqb-true k 8 a))) g h)
      (λ e8.
      either (eqb k 9) _ _ u e8 (λ a g. taken_keeps (keeps.scopes s (scope_at W at) (stands scope_at 9 at l (eqb-true k 9 a))) g h) (λ e9.
      either (eqb k 10) _ _ u e9 (λ a g. taken_keeps (keeps.imports s (import_at W at) (stands import_at 10 at l (eqb-true k 10 a))) g h) (λ e10.
      either (eqb k 11) _ _ u e10 (λ a g. taken_keeps (keeps.externs s (extern_at W at) (stands extern_at 11 at l (eqb-true k 11 a))) g h) (λ e11.
      taken_keeps (keeps.members s (member_at W at)) e11 h)))))))))))

  step_keeps : (at last : ℕ) (s u : Snapshot) → at < word_limit → step_at W at last s ≡ on u → P s → P u
  unfolding step_at
  step_keeps at last s u l e h =
      let k = kind_of (get_or W at 0) in
      let a = need_on (follows last k) form_refusal _ u e in
      let b = need_on (arguments_from W (at + 1) (arguments_at W at)) form_refusal _ u a in
      record_keeps at s u l b h

  finish_keeps : (at : ℕ) (s u : Snapshot) → finish at s ≡ accept u → P s → Ends P u
  unfolding finish
  finish_keeps at s u e h =
      by_test (maps_filled s && crates_own s)
      (λ a. let f : accept s ≡ accept u = rw (finish, a) at e in let q : s ≡ u = cc in subst (Ends P) q (record { kept = h; whole = a }))
      (λ a. let f : refuse place_refusal at ≡ accept u = rw (finish, a) at e in let z : ◌≡◌ {A = ℕ} 0 1 = cc in absurd (omega arith))

  records_keep : length W ≤ word_limit → (n at last : ℕ) (s u : Snapshot) → records n W at last s ≡ accept u → P s → Ends P u
  unfolding records
  records_keep l zero at last s u e h = finish_keeps (length W) s u e h
  records_keep l (suc n) at last s u e h =
      by_test (ltb at (length W))
      (λ a.
      let b : at < word_limit = omega (arith, ltb-true at (length W) a, l) in
      by_next (step_at W at last s)
      (λ m q. let f : refuse m at ≡ accept u = rw (records, a, q) at e in let z : ◌≡◌ {A = ℕ} 0 1 = cc in absurd (omega arith))
      (λ t q. records_keep l n (at + 1 + arguments_at W at) (kind_of (get_or W at 0)) t u (rw (records, a, q) at e) (step_keeps at last s t b q h)))
      (λ a. finish_keeps (length W) s u (rw (records, a) at e) h)

  -- What holds of no records, and is kept, holds of an accepted snapshot; so do the last tests.
  pub verdict_keeps : P empty → (s : Snapshot) → verdict W ≡ accept s → Ends P s
  unfolding verdict
  verdict_keeps start s e =
      by_test (leb (length W) word_limit)
      (λ a. records_keep (leb-true (length W) word_limit a) (length W) 0 0 empty s (rw (verdict, a) at e) start)
      (λ a. let f : refuse words_refusal word_limit ≡ accept s = rw (verdict, a) at e in let z : ◌≡◌ {A = ℕ} 0 1 = cc in absurd (omega arith))
