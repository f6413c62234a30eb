use mathlib.Core.Path.{sym, ap, ◌∙◌}
use Rattle.snapshot.specs.Records.{prelude_at}
use Rattle.snapshot.specs.Laid.{snap_by}
use Rattle.hir_def.specs.Entries.{entry_of}
use Rattle.hir_def.specs.Nameres.{prelude_of}
use Rattle.any_path.proofs.Plains.{prelude_passed, prelude_offered}
use Rattle.any_path.proofs.firsts.offer_prelude.Goals as goal

pub returns-in_default : goal.returns-in_default
returns-in_default c =
    let A = c.args.area.now in
    let S = snap_by c.args.records.now A in
    prelude_passed _ _ _ c.requires.0 _ _ c.requires.2
    (ap (prelude_of S) (sym c.map.ensures) ∙ (sym (c.prelude_of.ensures A) ∙ ap (entry_of prelude_at _) c.in_default.is))

pub returns : goal.returns
returns c =
    let A = c.args.area.now in
    let S = snap_by c.args.records.now A in
    prelude_offered _ _ _ c.requires.0 _ _ _
    (ap (prelude_of S) (sym c.map.ensures) ∙ (sym (c.prelude_of.ensures A) ∙ ap (entry_of prelude_at _) c.in-Some.is))
    c.prelude_target.ensures c.offer_scope.ensures
