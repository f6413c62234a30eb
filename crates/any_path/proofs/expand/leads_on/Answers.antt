use mathlib.Core.Path.{sym, ◌∙◌}
use Rattle.snapshot.specs.Records.{scope_at}
use Rattle.hir_def.specs.ItemScope.{is_module_entry}
use Rattle.nameable.specs.Seen.{seen}
use Rattle.any_path.proofs.seen_entries.Laws.{and_so, and_no}
use Rattle.accept.specs.Opened.{snap_in}
use Rattle.any_path.proofs.expand.leads_on.Goals as goal

pub returns-then-is_module_entry : goal.returns-then-is_module_entry
returns-then-is_module_entry c =
    let S = snap_in c.args.view.now.db in
    c.seen.ensures
    ∙ and_so (is_module_entry S c.args.m.0 (scope_at c.args.view.now.db.records.words.now c.args.h)) _
    (sym (c.is_module_entry.ensures c.args.view.now.db.area.now) ∙ c.if-is_module_entry.true)

pub returns : goal.returns
returns c =
    let S = snap_in c.args.view.now.db in
    let x = scope_at c.args.view.now.db.records.words.now c.args.h in
    and_no (is_module_entry S c.args.m.0 x) (seen S c.args.view.now.from.0 x)
    (sym (c.is_module_entry.ensures c.args.view.now.db.area.now) ∙ c.if-is_module_entry.false)
