use mathlib.Core.Path.{ap, ◌∙◌}
use Rattle.std.specs.Prelude.{Some}
use Rattle.hir_def.specs.Items.{module_item}
use Rattle.read_back.proofs.Cases.{all_later, reads_by}
use Rattle.read_back.specs.readings.Reads.{follow}
use Rattle.accept.specs.Opened.{snap_in}
use Rattle.read_back.proofs.paths.reads_to.Goals as goal

pub returns-in-Some-SelfModule : goal.returns-in-Some-SelfModule
returns-in-Some-SelfModule c =
    let S = snap_in c.args.view.now.db in
    let N = c.args.names.now in
    reads_by S c.args.view.now.from.0 c.args.ns N c.args.kind c.of.ensures (c.in-Some-SelfModule.is ∙ ap Some c.in-Some-SelfModule.field-0-is)
    (all_later S c.args.view.now.from.0 c.args.ns N _ c.follow.ensures
    ∙ ap (λ x. follow S c.args.view.now.from.0 c.args.ns x N) (c.means_module-here.ensures ∙ ap (λ m. Some (module_item m)) c.stands_for.ensures.0))

pub returns-in-Some-Super : goal.returns-in-Some-Super
returns-in-Some-Super c =
    let S = snap_in c.args.view.now.db in
    let N = c.args.names.now in
    reads_by S c.args.view.now.from.0 c.args.ns N c.args.kind c.of.ensures (c.in-Some-Super.is ∙ ap Some c.in-Some-Super.field-0-is)
    (all_later S c.args.view.now.from.0 c.args.ns N _ c.follow-in-Some-Super.ensures
    ∙ ap (λ x. follow S c.args.view.now.from.0 c.args.ns x N) c.super_of.ensures)

pub returns-in-Some-Crate : goal.returns-in-Some-Crate
returns-in-Some-Crate c =
    let S = snap_in c.args.view.now.db in
    let N = c.args.names.now in
    reads_by S c.args.view.now.from.0 c.args.ns N c.args.kind c.of.ensures (c.in-Some-Crate.is ∙ ap Some c.in-Some-Crate.field-0-is)
    (all_later S c.args.view.now.from.0 c.args.ns N _ c.follow-in-Some-Crate.ensures
    ∙ ap (λ x. follow S c.args.view.now.from.0 c.args.ns x N) (c.means_module-root.ensures ∙ ap (λ m. Some (module_item m)) c.crate_root.ensures))

pub returns-in-Some-Absolute : goal.returns-in-Some-Absolute
returns-in-Some-Absolute c =
    reads_by (snap_in c.args.view.now.db) c.args.view.now.from.0 c.args.ns c.args.names.now c.args.kind c.of.ensures
    (c.in-Some-Absolute.is ∙ ap Some c.in-Some-Absolute.field-0-is) c.absolutely.ensures

pub returns-in-Some-Plain : goal.returns-in-Some-Plain
returns-in-Some-Plain c =
    reads_by (snap_in c.args.view.now.db) c.args.view.now.from.0 c.args.ns c.args.names.now c.args.kind c.of.ensures
    (c.in-Some-Plain.is ∙ ap Some c.in-Some-Plain.field-0-is) c.plainly.ensures

pub returns-in-None : goal.returns-in-None
returns-in-None c =
    reads_by (snap_in c.args.view.now.db) c.args.view.now.from.0 c.args.ns c.args.names.now c.args.kind c.of.ensures
    c.in-None.is c.plainly-in-None.ensures
