use mathlib.Core.Path.{sym, ap, ◌∙◌}
use Rattle.snapshot.specs.Records.{scope_at, prelude_at}
use Rattle.snapshot.specs.Layouts.{snap_of}
use Rattle.hir_def.specs.Entries.{entry_of}
use Rattle.any_path.proofs.Plains.{prelude_there, prelude_gone}
use Rattle.any_path.proofs.plain.prelude_named.Goals as goal

pub returns-in_err-p : goal.returns-in_err-p
returns-in_err-p c =
    let W = c.args.view.now.db.records.words.now in
    let A = c.args.view.now.db.area.now in
    let from = c.args.view.now.from.0 in
    let L = c.args.view.now.db.records.layout in
    let S = snap_of W A L in
    (ap (entry_of scope_at c.args.view.now.db.records.words.now) c.from_residual.ensures)
    ∙ prelude_gone S from c.args.ns c.args.name.0 c.map.ensures
    (sym (c.prelude_of.ensures A) ∙ ap (entry_of prelude_at W) c.in_err-p.was)

pub returns : goal.returns
returns c =
    let W = c.args.view.now.db.records.words.now in
    let A = c.args.view.now.db.area.now in
    let from = c.args.view.now.from.0 in
    let L = c.args.view.now.db.records.layout in
    let S = snap_of W A L in
    c.entry_named.ensures
    ∙ prelude_there S from c.args.ns c.args.name.0 c.map.ensures _
    (sym (c.prelude_of.ensures A) ∙ ap (entry_of prelude_at W) c.in_ok-p.was) c.prelude_target.ensures
