use mathlib.Core.Path.{sym, ◌∙◌}
use Rattle.hir_def.proofs.ItemTests.{item_eq}
use Rattle.read_back.proofs.Cases.{back_none, back_some}
use Rattle.accept.specs.Opened.{snap_in}
use Rattle.read_back.proofs.paths.reads_back.Goals as goal

pub returns-in_default : goal.returns-in_default
returns-in_default c =
    back_none (snap_in c.args.db.now) c.args.from.0 c.args.item c.args.kind
    c.args.names.now c.ns_of.ensures
    (sym c.reads_to.ensures ∙ c.in_default.is)

pub returns : goal.returns
returns c =
    back_some (snap_in c.args.db.now) c.args.from.0 c.args.item c.args.kind
    c.args.names.now c.ns_of.ensures
    (sym c.reads_to.ensures ∙ c.in-Some.is) (c.eq.ensures ∙ item_eq _ _)
