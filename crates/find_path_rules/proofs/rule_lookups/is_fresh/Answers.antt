use Rattle.snapshot.specs.Records.{scope_at}
use Rattle.hir_def.proofs.Fresh.{for_test}
use Rattle.find_path_rules.specs.rule_lookups.Tests.{test_of}
use Rattle.find_path_rules.proofs.rule_lookups.Laws.{fresh_no, fresh_yes}
use Rattle.accept.specs.Opened.{snap_in}
use Rattle.find_path_rules.proofs.rule_lookups.is_fresh.Goals as goal

pub returns-then-its-is_deprecated : goal.returns-then-its-is_deprecated
returns-then-its-is_deprecated c =
    let S = snap_in c.args.db.now in
    let p = test_of S c.args.x c.args.item c.args.rule in
    for_test S c.args.m.0 c.args.item p (scope_at c.args.db.now.records.words.now c.args.h)
    (fresh_no p _ c.is_for-its.result c.is_deprecated.ensures c.if-its-is_deprecated.true) (c.is_for-its.ensures c.args.db.now.area.now)

pub returns : goal.returns
returns c =
    let S = snap_in c.args.db.now in
    let p = test_of S c.args.x c.args.item c.args.rule in
    for_test S c.args.m.0 c.args.item p (scope_at c.args.db.now.records.words.now c.args.h)
    (fresh_yes p _ c.is_for-its.result c.is_deprecated.ensures c.passes.ensures c.if-its-is_deprecated.false)
    (c.is_for-its.ensures c.args.db.now.area.now)
