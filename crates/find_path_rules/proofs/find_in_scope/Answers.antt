use Rattle.find_path_spec.specs.Rules.{find_in_scope}
use Rattle.find_path_rules.proofs.RuleLaws.{scope_below}
use Rattle.find_path_rules.proofs.find_in_scope.Goals as goal

pub returns : goal.returns
unfolding find_in_scope
returns c =
    let e = c.scope_entry.ensures in
    let db = c.args.db.now in
    (e, scope_below db.records.words.now db.area.now db.records.layout db.reads c.args.x c.args.item c.scope_entry.result e)
