use Prim.Native.Nat.{ℕ}
use mathlib.Core.Path.{◌≡◌, ap}
use native.Mathlib.Omega.{arith}
use Rattle.std.specs.Prelude.{Option}
use Rattle.snapshot.specs.Records.{Snapshot}
use Rattle.nameable.specs.Paths.{Path, reads}
use Rattle.told_paths.specs.declared.told_routes.Meaning.{Meaning}
use Rattle.told_paths.specs.told_routes.Routes.{Answers, first_path}
use Rattle.told_paths.proofs.told_routes.Laws.{answers_as, next_later, next_first, next_keyword}
use Rattle.told_paths.proofs.told_routes.names.read_name.Goals as goal

-- what a path means is told of the one that it is
read_as : (s : Snapshot) (from ns : ℕ) {p q : Path} {x : Option Meaning} → p ≡ q → Answers (reads s from ns p) x → Answers (reads s from ns q) x
read_as s from ns e a = answers_as (ap (reads s from ns) e) a

pub returns-then-k-gt0 : goal.returns-then-k-gt0
unfolding reads
returns-then-k-gt0 c = λ p h. read_as _ _ _ (next_later _ _ p _ c.if-k-gt0.true) (c.read_after.ensures _ h)

pub returns-in-Plain : goal.returns-in-Plain
unfolding first_path
returns-in-Plain c = λ p h. read_as _ _ _ (next_first _ _ p _ (omega (arith, c.if-k-gt0.false)) c.in-Plain.is) c.read_alone.ensures

pub returns-in-Absolute : goal.returns-in-Absolute
unfolding first_path
returns-in-Absolute c = λ p h. read_as _ _ _ (next_first _ _ p _ (omega (arith, c.if-k-gt0.false)) c.in-Absolute.is) c.read_absolute.ensures

pub returns-in-SelfModule : goal.returns-in-SelfModule
unfolding reads
returns-in-SelfModule c =
    λ p h. read_as _ _ _ (next_keyword _ _ p _ (omega (arith, c.if-k-gt0.false)) c.in-SelfModule.is) (c.read_after-in-SelfModule.ensures _ h)
