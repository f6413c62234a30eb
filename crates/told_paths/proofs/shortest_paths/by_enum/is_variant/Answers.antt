use mathlib.Core.Path.{sym, ap, ◌∙◌}
use native.Mathlib.Omega.{arith}
use Prim.Native.Nat.{ℕ}
use mathlib.Core.List.{List}
use Rattle.snapshot.specs.Records.{member_at}
use Rattle.hir_def.specs.Entries.{entry_of}
use Rattle.told_paths.proofs.shortest_paths.Laws.{variant_macro, variant_none, variant_some}
use Rattle.snapshot.specs.Laid.{snap_by}
use Rattle.told_paths.proofs.shortest_paths.by_enum.is_variant.Goals as goal

pub returns-then-ns-ge-MACROS : goal.returns-then-ns-ge-MACROS
returns-then-ns-ge-MACROS c =
    λ (A : List ℕ). variant_macro (snap_by c.args.records.now A) c.args.ns c.args.d.0 c.args.e.0
    c.args.name.0 c.if-ns-ge-MACROS.true

pub returns-in_default : goal.returns-in_default
returns-in_default c =
    λ (A : List ℕ). variant_none (snap_by c.args.records.now A) c.args.ns c.args.d.0 c.args.e.0
    c.args.name.0 (omega (arith, c.if-ns-ge-MACROS.false))
    (sym (ap (entry_of member_at c.args.records.now.words.now) c.in_default.is) ∙ c.variant_named.ensures A)

pub returns : goal.returns
returns c =
    λ (A : List ℕ). c.eq.ensures ∙ variant_some (snap_by c.args.records.now A) c.args.ns c.args.d.0 c.args.e.0
    c.args.name.0 (omega (arith, c.if-ns-ge-MACROS.false))
    (sym (ap (entry_of member_at c.args.records.now.words.now) c.in-Some.is) ∙ c.variant_named.ensures A) c.member_definition.ensures
