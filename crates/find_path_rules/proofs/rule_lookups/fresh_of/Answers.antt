use mathlib.Core.Path.{refl}
use mathlib.Core.Bool.{◌&&◌}
use Rattle.std.proofs.Common.{rules}
use Rattle.std.proofs.iter.Serving.{serving}
use Rattle.snapshot.specs.Records.{Scope}
use Rattle.hir_def.specs.ItemScope.{is_for, is_fresh, name_of, names_of, names_reads, preferred, preferred_reads}
use Rattle.hir_def.proofs.Fits.{scope_fits}
use Rattle.hir_def.proofs.Along.{item_keyed}
use Rattle.find_path_rules.specs.rule_lookups.Tests.{test_of}
use Rattle.find_path_rules.proofs.rule_lookups.Laws.{less_fresh}
use Rattle.accept.specs.Opened.{snap_in}
use Rattle.find_path_rules.proofs.rule_lookups.fresh_of.Goals as goal

pub preferred-requires-clause-fresh : goal.preferred-requires-clause-fresh
preferred-requires-clause-fresh c =
    λ i b.
    let f = scope_fits c.args.db.now.records.words.now c.args.db.now.area.now c.args.db.now.records.layout c.args.db.now.reads {j = i} b refl refl in
    let v = f.inside in
    let u = c.requires in
    grind serving

pub returns : goal.returns
unfolding name_of names_of names_reads preferred preferred_reads
returns c =
    let S = snap_in c.args.db.now in
    let p = test_of S c.args.x c.args.item c.args.rule in
    let its = is_for S c.args.m.0 c.args.item in
    let x =
    c.preferred.ensures its (λ (e : Scope). its e && is_fresh p e) (λ h t p. search rules) (λ h t p. search rules) (less_fresh its (is_fresh p))
    (item_keyed c.args.db.now.records.words.now c.args.db.now.area.now c.args.db.now.records.layout c.args.m.0 c.args.item refl)
    in
    (x.0, λ n. x.1)
