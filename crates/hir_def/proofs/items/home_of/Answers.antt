use mathlib.Core.Path.{sym, ap, ap₂, ◌∙◌}
use Rattle.snapshot.specs.Ids.{plus_one}
use Rattle.snapshot.specs.Layouts.{snap_of}
use Rattle.hir_def.specs.Items.{home_by, home_of}
use Rattle.hir_def.proofs.items.home_of.Goals as goal

pub returns-in-Mod : goal.returns-in-Mod
unfolding plus_one home_of
returns-in-Mod c = λ A. ap (home_of _) (sym c.in-Mod.is)

pub returns-in-Def : goal.returns-in-Def
unfolding home_of
returns-in-Def c =
    λ A.
    let x = c.definition_head.ensures A in
    c.home_at.ensures A ∙ ap₂ (home_by (snap_of c.args.records.now.words.now A c.args.records.now.layout)) x.kind x.first
    ∙ sym (ap (home_of _) c.in-Def.is)
