use mathlib.Core.Path.{◌∙◌}
use native.Mathlib.Omega.{arith}
use Rattle.accept.proofs.Trees.{accepted_tree}
use Rattle.hir_def.proofs.Reading.{length_modules}
use Rattle.hir_def.proofs.Chains.{parent_fits}
use Rattle.hir_def.proofs.Climbs.{some_number, none_number}
use Rattle.read_back.proofs.Cases.{super_none, super_some}
use Rattle.accept.specs.Opened.{snap_in}
use Rattle.read_back.proofs.paths.super_of.Goals as goal

pub returns-in_err-p : goal.returns-in_err-p
returns-in_err-p c =
    c.from_residual.ensures
    ∙ super_none (snap_in c.args.view.now.db) c.args.view.now.from.0
    c.stands_for-m.ensures.0 (none_number _ c.parent.ensures c.in_err-p.was)

pub stands_for-requires : goal.stands_for-requires
stands_for-requires c =
    let n = snap_in c.args.view.now.db in
    let m = c.stands_for-m.ensures.1 in
    (let f = (parent_fits n (accepted_tree c.args.view.now.db.records.words.now n c.args.view.now.db.reads.same) _ _
    (rw (length_modules c.args.view.now.db.records.words.now c.args.view.now.db.area.now c.args.view.now.db.records.layout) m)
    (some_number _ c.parent.ensures c.in_ok-p.was)).0 in omega (arith, f, m))

pub returns : goal.returns
returns c =
    super_some (snap_in c.args.view.now.db) c.args.view.now.from.0
    c.stands_for-m.ensures.0
    (some_number _ c.parent.ensures c.in_ok-p.was)
    c.stands_for.ensures.0 c.means_module.ensures
