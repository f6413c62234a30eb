-- No number of a refusal is above 46.
use mathlib.Core.Path.{◌≡◌, refl}
use Prim.Native.Nat.{ℕ, ◌≤◌, ◌<◌}
use native.Mathlib.Omega.{arith}
use mathlib.Core.List.{List}
use mathlib.Core.Bool.{Bool, true, false, ◌&&◌, ◌||◌, not}
use lib.Dec.{eqb, ltb}
use lib.ListN.{length}
use borrow.Author.Tests.{eqb-false, ltb-false}
use Rattle.snapshot.specs.Limits.{area_limit, fuel_limit, path_limit, namespace_limit, prefix_limit, options_limit}
use Rattle.snapshot.specs.Refusals.{area_refusal, fuel_refusal, field_refusal, unknown_refusal, macro_refusal, limit_refusal, largest_refusal}
use Rattle.snapshot.specs.Records.{Snapshot}
use Rattle.check_rules.specs.Verdict.{Verdict, refuse, accept, verdict}
use Rattle.accept.proofs.Accepted.{by_test}
use Rattle.accept.proofs.Refused.{verdict_number}
use Rattle.accept.proofs.Bools.{or_none_lem}
use Rattle.hir_def.specs.Items.{macros, macro_kind, definition_of}
use Rattle.find_path_spec.specs.declared.Query.{Query}
use Rattle.find_path_spec.specs.Report.{call_fault, question_fault}

-- of words

abbrev pub NumberSmall : Verdict → Type 0
NumberSmall (refuse n place) = n ≤ largest_refusal
NumberSmall (accept s) = Unit {0}

pub verdict_small : (W : List ℕ) → NumberSmall (verdict W)
verdict_small W = by (verdict W) refl
  where
    by : (v : Verdict) → verdict W ≡ v → NumberSmall v
    by (refuse n place) e = let q = verdict_number W n place e in omega arith
    by (accept s) e = tt

-- of a call

either_number : (b : Bool) (m n : ℕ) → m ≤ largest_refusal → n ≤ largest_refusal → elim b [ true ↦ m | false ↦ n ] ≤ largest_refusal
either_number true m n h k = h
either_number false m n h k = k

pub call_small : (area : ℕ) (q : Query) (fuel : ℕ) → call_fault area q fuel ≤ largest_refusal
unfolding call_fault
call_small area q fuel =
    either_number (ltb area area_limit) area_refusal _ (omega arith)
    (either_number (ltb fuel_limit fuel) fuel_refusal _ (omega arith)
    (either_number (ltb namespace_limit q.ns || (ltb prefix_limit q.prefix || ltb options_limit q.options)) field_refusal _ (omega arith)
    (either_number (eqb q.limit 0 || ltb path_limit q.limit) limit_refusal 0 (omega arith) (omega arith))))

pub question_small : (s : Snapshot) (q : Query) → question_fault s q ≤ largest_refusal
unfolding question_fault
question_small s q =
    either_number (ltb q.definition.0 (length s.definitions) && ltb q.from.0 (length s.modules)) _ unknown_refusal
    (either_number (eqb q.ns macros && not (eqb (definition_of s q.definition.0).kind macro_kind)) macro_refusal 0 (omega arith) (omega arith))
    (omega arith)

-- what a call without a fault has
pub record Allowed (q : Query) (F : ℕ) : Type 0 where
  pub fuel : F ≤ fuel_limit
  pub some : 0 < q.limit
  pub limit : q.limit ≤ path_limit

pub call_allowed : (area : ℕ) (q : Query) (fuel : ℕ) → call_fault area q fuel ≡ 0 → Allowed q fuel
unfolding call_fault
call_allowed area q fuel e =
    by_test (ltb area area_limit) (λ t. let z : area_refusal ≡ 0 = rw (call_fault, t) at e in absurd (omega arith)) (λ t.
    by_test (ltb fuel_limit fuel) (λ u. let z : fuel_refusal ≡ 0 = rw (call_fault, t, u) at e in absurd (omega arith)) (λ u.
    by_test (ltb namespace_limit q.ns || (ltb prefix_limit q.prefix || ltb options_limit q.options))
    (λ v. let z : field_refusal ≡ 0 = rw (call_fault, t, u, v) at e in absurd (omega arith)) (λ v.
    by_test (eqb q.limit 0 || ltb path_limit q.limit) (λ w. let z : limit_refusal ≡ 0 = rw (call_fault, t, u, v, w) at e in absurd (omega arith))
    (λ w.
    let n = or_none_lem (eqb q.limit 0) (ltb path_limit q.limit) w in
    let z = eqb-false q.limit 0 n.0 in
    record { fuel = ltb-false fuel_limit fuel u; some = omega (arith, z); limit = ltb-false path_limit q.limit n.1 }))))
