use mathlib.Core.Path.{sym, ◌∙◌}
use native.Mathlib.Omega.{arith}
use lib.ListN.{length-set}
use Rattle.any_path.proofs.Written.{run_small, offer_old, row_space, offer_new}
use Rattle.any_path.proofs.rows.offer.Goals as goal

pub is_met-requires : goal.is_met-requires
is_met-requires c =
    run_small _ _ _ c.requires.0 c.requires.1

pub returns-then-is_met : goal.returns-then-is_met
returns-then-is_met c =
    offer_old c.args.modules c.args.area.now c.args.n c.args.row.target c.args.row.link c.args.row.name c.requires.0
    (sym c.is_met.ensures ∙ c.if-is_met.true)

pub bounds-area-at : goal.bounds-area-at
bounds-area-at c = omega (arith, row_space c.requires.0 c.requires.1 c.requires.2 (sym c.is_met.ensures ∙ c.if-is_met.false))

pub bounds-area-at-2 : goal.bounds-area-at-2
bounds-area-at-2 c =
    simp length-set (omega (arith, row_space c.requires.0 c.requires.1 c.requires.2 (sym c.is_met.ensures ∙ c.if-is_met.false)))

pub bounds-area-at-3 : goal.bounds-area-at-3
bounds-area-at-3 c =
    simp length-set (omega (arith, row_space c.requires.0 c.requires.1 c.requires.2 (sym c.is_met.ensures ∙ c.if-is_met.false)))

pub bounds-area-at-4 : goal.bounds-area-at-4
bounds-area-at-4 c =
    simp length-set (omega (arith, row_space c.requires.0 c.requires.1 c.requires.2 (sym c.is_met.ensures ∙ c.if-is_met.false)))

pub returns : goal.returns
returns c =
    offer_new _ _ _ c.args.row.target c.args.row.link c.args.row.name c.requires.0 c.requires.1 c.requires.2 c.requires.3
    (sym c.is_met.ensures ∙ c.if-is_met.false) c.args.row.place
