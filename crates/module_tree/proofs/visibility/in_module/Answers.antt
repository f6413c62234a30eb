use mathlib.Core.Path.{sym, ap, ◌∙◌}
use borrow.Author.Tests.{eqb-true, eqb-false, not-true, not-false}
use Rattle.snapshot.specs.Layouts.{snap_of}
use Rattle.module_tree.specs.rules.Modules.{containing}
use Rattle.module_tree.specs.rules.Visibility.{met, climb}
use Rattle.module_tree.proofs.Climbs.{in_same, in_other, in_walk}
use Rattle.module_tree.proofs.visibility.in_module.Goals as goal

pub returns-then-eq : goal.returns-then-eq
returns-then-eq c =
    in_same (snap_of c.args.db.now.records.words.now c.args.db.now.area.now c.args.db.now.records.layout) c.args.viewer.0 c.args.target.0
    (eqb-true _ _ (sym c.eq.ensures ∙ c.if-eq.true))

pub returns-then-ne : goal.returns-then-ne
returns-then-ne c =
    in_other (snap_of c.args.db.now.records.words.now c.args.db.now.area.now c.args.db.now.records.layout) c.args.viewer.0 c.args.target.0
    (eqb-false _ _ (sym c.eq.ensures ∙ c.if-eq.false))
    (λ e. eqb-false _ _ (not-true _ (sym c.ne.ensures ∙ c.if-ne.true)) (c.krate.ensures ∙ e ∙ sym c.krate-2.ensures))

pub returns : goal.returns
returns c =
    let m = c.map-m.ensures in
    c.meets.ensures ∙ ap (met (containing (snap_of c.args.db.now.records.words.now c.args.db.now.area.now c.args.db.now.records.layout))
    c.args.viewer.0)
    (c.climb-top.ensures.0
    ∙ ap (λ k. climb (snap_of c.args.db.now.records.words.now c.args.db.now.area.now c.args.db.now.records.layout) k c.args.target.0) m)
    ∙ in_walk (snap_of c.args.db.now.records.words.now c.args.db.now.area.now c.args.db.now.records.layout) c.args.viewer.0 c.args.target.0
    (eqb-false _ _ (sym c.eq.ensures ∙ c.if-eq.false))
    (sym c.krate.ensures ∙ eqb-true _ _ (not-false _ (sym c.ne.ensures ∙ c.if-ne.false)) ∙ c.krate-2.ensures)
