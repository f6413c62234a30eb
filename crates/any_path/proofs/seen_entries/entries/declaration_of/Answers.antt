use Rattle.hir_def.specs.Entries.{entry_of}
use mathlib.Core.Path.{sym, ap, ap₂, ◌∙◌}
use Rattle.snapshot.specs.Records.{scope_at}
use Rattle.module_tree.proofs.Climbs.{some_number, none_number}
use Rattle.nameable.specs.Seen.{declared_ns, declared_as, declared_in}
use Rattle.any_path.proofs.seen_entries.Laws.{declared_nowhere, declared_there}
use Rattle.accept.specs.Opened.{snap_in}
use Rattle.any_path.proofs.seen_entries.entries.declaration_of.Goals as goal

pub returns-in_err-m : goal.returns-in_err-m
returns-in_err-m c =
    let n = (snap_in c.args.db.now) in
    (ap (entry_of scope_at c.args.db.now.records.words.now) c.from_residual.ensures)
    ∙ declared_nowhere n (scope_at c.args.db.now.records.words.now c.args.h) (ap (declared_in n) (sym c.scope_definition-d.ensures)
    ∙ none_number _ c.declared_in.ensures c.in_err-m.was)

pub returns : goal.returns
returns c =
    let n = (snap_in c.args.db.now) in
    let A = c.args.db.now.area.now in
    let q = c.scope_definition-d.ensures in
    c.declaration_in.ensures A
    ∙ declared_there n (scope_at c.args.db.now.records.words.now c.args.h) _ _ _ (ap (declared_in n) (sym q)
    ∙ some_number _ c.declared_in.ensures
    c.in_ok-m.was)
    (c.declared_ns-ns.ensures A ∙ ap₂ (declared_ns n) c.scope_ns.ensures q)
    (c.declared_as.ensures A ∙ ap (declared_as n) q)
