-- Which dependencies of a crate are meant.
use Rattle.std.specs.Prelude.{ℕ, Bool, true, false}
use Rattle.snapshot.specs.Records.{Dependency}
use Rattle.hir_def.specs.Nameres.{is_dependency, by_sysroot}
use Rattle.hir_def.specs.declared.crate_graph.Which.{Which}
use Rattle.hir_def.specs.declared.crate_graph.Which.TheVariants.{All, Sysroot, Others}

abbrev pub among : ℕ → Which → Dependency → Bool
among c All d = is_dependency c d
among c Sysroot d = by_sysroot c true d
among c Others d = by_sysroot c false d
