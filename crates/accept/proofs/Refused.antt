-- Words that are refused are refused by a number of the check.
use Prim.Native.Nat.{ℕ, zero, suc, ◌+◌, ◌≤◌}
use mathlib.Core.Path.{◌≡◌, subst}
use mathlib.Core.List.{List}
use mathlib.Core.Bool.{Bool, true, false, ◌&&◌, not}
use native.Mathlib.Omega.{arith}
use lib.Dec.{eqb, leb, ltb}
use lib.ListN.{length, get_or}
use Rattle.snapshot.specs.Lists.{any}
use Rattle.snapshot.specs.Limits.{word_limit, crate_limit, module_limit, name_limit, definition_limit}
use Rattle.snapshot.specs.Refusals.{words_refusal, form_refusal, range_refusal, undefined_refusal, repeated_refusal, place_refusal, count_refusal}
use Rattle.snapshot.specs.Refusals.{edition_refusal}
use Rattle.snapshot.specs.Words.{kind_of, arguments_at}
use Rattle.snapshot.specs.Records.{Snapshot, name_at, crate_at, dependency_at, map_at, module_at, child_at}
use Rattle.snapshot.specs.Records.{prelude_at, definition_at, scope_at, import_at, extern_at, member_at}
use Rattle.check_rules.specs.Tests.{child_defined, child_placed, counts_of, crate_range, is_edition, crates_own, definition_defined}
use Rattle.check_rules.specs.Tests.{definition_placed, definition_range, definition_repeated, dependency_defined, dependency_range}
use Rattle.check_rules.specs.Tests.{extern_defined, import_defined, import_range, map_defined, map_placed, map_range, map_repeated, maps_filled}
use Rattle.check_rules.specs.Tests.{member_defined, member_placed, member_range, module_defined, module_placed, name_range, ns_placed}
use Rattle.check_rules.specs.Tests.{prelude_defined, same_child, same_entry, same_extern, same_name, same_prelude, scope_defined, scope_range}
use Rattle.check_rules.specs.Steps.{Next, no, on, need, judge, judge_crate, add_name, add_crate, add_dependency, add_map}
use Rattle.check_rules.specs.Steps.{add_module, add_child, add_prelude, add_definition, add_scope, add_import, add_extern}
use Rattle.check_rules.specs.Steps.{add_member, name_step, crate_step, dependency_step, map_step, module_step, child_step}
use Rattle.check_rules.specs.Steps.{prelude_step, definition_step, scope_step, import_step, extern_step, member_step}
use Rattle.check_rules.specs.Verdict.{follows, arguments_from, record_step, step_at, Verdict, refuse, accept, finish, records, empty, verdict}

-- the numbers of the check
abbrev Number : ℕ → Type 0
Number n = (words_refusal ≤ n) × (n ≤ edition_refusal)

abbrev NextRefuses : Next → Type 0
NextRefuses (no n) = Number n
NextRefuses (on s) = Unit {0}

abbrev Refuses : Verdict → Type 0
Refuses (refuse n place) = Number n
Refuses (accept s) = Unit {0}

-- one of two, by a test
either : {A : Type 0} (P : A → Type 0) (b : Bool) (x y : A) → P x → P y → P (elim b [ true ↦ x | false ↦ y ])
either P true x y h k = h
either P false x y h k = k

need_refuses : (b : Bool) (n : ℕ) (r : Next) → Number n → NextRefuses r → NextRefuses (need b n r)
need_refuses true n r h k = k
need_refuses false n r h k = h

judge_refuses : (range defined repeated placed room : Bool) (s : Snapshot) → NextRefuses (judge range defined repeated placed room s)
judge_refuses range defined repeated placed room s =
    need_refuses range range_refusal _ (omega arith, omega arith) (need_refuses defined undefined_refusal _ (omega arith, omega arith)
    (need_refuses (not repeated) repeated_refusal _ (omega arith, omega arith)
    (need_refuses placed place_refusal _ (omega arith, omega arith) (need_refuses room count_refusal (on s) (omega arith, omega arith) tt))))

judge_crate_refuses : (range edition room : Bool) (s : Snapshot) → NextRefuses (judge_crate range edition room s)
judge_crate_refuses range edition room s =
    need_refuses range range_refusal _ (omega arith, omega arith) (need_refuses edition edition_refusal _ (omega arith, omega arith)
    (need_refuses room count_refusal (on s) (omega arith, omega arith) tt))

record_refuses : (k : ℕ) (W : List ℕ) (at : ℕ) (s : Snapshot) → NextRefuses (record_step k W at s)
unfolding record_step name_step crate_step dependency_step map_step module_step child_step prelude_step definition_step scope_step import_step
    extern_step member_step
record_refuses k W at s =
    let x1 = name_at W at in
    let x2 = crate_at W at in
    let x3 = dependency_at W at in
    let x4 = map_at W at in
    let x5 = module_at W at in
    let x6 = child_at W at in
    let x7 = prelude_at W at in
    let x8 = definition_at W at in
    let x9 = scope_at W at in
    let x10 = import_at W at in
    let x11 = extern_at W at in
    let x13 = member_at W at in
    let n = counts_of s in
    either NextRefuses (eqb k 1) _ _ (judge_refuses (name_range x1) true (any (same_name x1) s.names) true
    (ltb (length s.names) name_limit) (add_name s x1))
    (either NextRefuses (eqb k 2) _ _ (judge_crate_refuses (crate_range x2) (is_edition x2.edition) (ltb (length s.crates) crate_limit)
    (add_crate s x2))
    (either NextRefuses (eqb k 3) _ _ (judge_refuses (dependency_range x3) (dependency_defined n x3) false true true (add_dependency s x3))
    (either NextRefuses (eqb k 4) _ _ (judge_refuses (map_range x4) (map_defined n x4) (map_repeated s x4) (map_placed s x4) true (add_map s x4))
    (either NextRefuses (eqb k 5) _ _ (judge_refuses true (module_defined n x5) false (module_placed s x5)
    (ltb (length s.modules) module_limit) (add_module s x5))
    (either NextRefuses (eqb k 6) _ _ (judge_refuses true (child_defined n x6) (any (same_child x6) s.children) (child_placed s x6)
    true (add_child s x6))
    (either NextRefuses (eqb k 7) _ _ (judge_refuses true (prelude_defined n x7) (any (same_prelude x7) s.preludes) true true (add_prelude s x7))
    (either NextRefuses (eqb k 8) _ _ (judge_refuses (definition_range s x8) (definition_defined n x8) (definition_repeated s x8)
    (definition_placed s x8) (ltb (length s.definitions) definition_limit) (add_definition s x8))
    (either NextRefuses (eqb k 9) _ _ (judge_refuses (scope_range x9) (scope_defined n x9) (any (same_entry x9) s.scopes)
    (ns_placed s x9.ns x9.definition) true (add_scope s x9))
    (either NextRefuses (eqb k 10) _ _ (judge_refuses (import_range x10) (import_defined n x10) false (ns_placed s x10.ns x10.definition)
    true (add_import s x10))
    (either NextRefuses (eqb k 11) _ _ (judge_refuses true (extern_defined n x11) (any (same_extern x11) s.externs) true true (add_extern s x11))
    (judge_refuses (member_range x13) (member_defined n x13) false (member_placed s x13) true (add_member s x13))))))))))))

step_refuses : (W : List ℕ) (at last : ℕ) (s : Snapshot) → NextRefuses (step_at W at last s)
unfolding step_at
step_refuses W at last s =
    need_refuses (follows last (kind_of (get_or W at 0))) form_refusal _ (omega arith, omega arith)
    (need_refuses (arguments_from W (at + 1) (arguments_at W at)) form_refusal _ (omega arith, omega arith) (record_refuses _ W at s))

finish_refuses : (at : ℕ) (s : Snapshot) → Refuses (finish at s)
unfolding finish
finish_refuses at s = either Refuses (maps_filled s && crates_own s) (accept s) (refuse place_refusal at) tt (omega arith, omega arith)

after_refuses : (x : Next) (at : ℕ) (f : Snapshot → Verdict) → NextRefuses x → ((t : Snapshot) → Refuses (f t))
    → Refuses (elim x [ no r ↦ refuse r at | on t ↦ f t ])
after_refuses (no n) at f h k = h
after_refuses (on t) at f h k = k t

records_refuses : (n : ℕ) (W : List ℕ) (at last : ℕ) (s : Snapshot) → Refuses (records n W at last s)
unfolding records
records_refuses zero W at last s = finish_refuses (length W) s
records_refuses (suc n) W at last s =
    either Refuses (ltb at (length W)) _ _
    (after_refuses (step_at W at last s) at _ (step_refuses W at last s) (λ t. records_refuses n W _ _ t)) (finish_refuses (length W) s)

verdict_refuses : (W : List ℕ) → Refuses (verdict W)
unfolding verdict
verdict_refuses W =
    either Refuses (leb (length W) word_limit) _ (refuse words_refusal word_limit) (records_refuses (length W) W 0 0 empty) (omega arith, omega arith)

pub verdict_number : (W : List ℕ) (n at : ℕ) → verdict W ≡ refuse n at → (words_refusal ≤ n) × (n ≤ edition_refusal)
verdict_number W n at e = subst Refuses e (verdict_refuses W)
