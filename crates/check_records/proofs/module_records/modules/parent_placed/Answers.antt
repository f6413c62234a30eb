use mathlib.Core.Path.{sym, ◌∙◌}
use borrow.Author.Tests.{eq-eqb, ne_eqb}
use Rattle.check_records.proofs.record_rules.Laws.{or_yes, or_no}
use Rattle.check_records.proofs.module_records.modules.parent_placed.Goals as goal

pub returns-then-parent-eq0 : goal.returns-then-parent-eq0
returns-then-parent-eq0 c = or_yes _ (eq-eqb _ _ (sym c.module_parent-parent.ensures ∙ c.if-parent-eq0.true))

pub returns : goal.returns
returns c = or_no (ne_eqb _ _ (λ e. c.if-parent-eq0.false (c.module_parent-parent.ensures ∙ e)))
    (rw (c.module_map-2.ensures, c.module_map.ensures, c.module_parent-parent.ensures))
