use mathlib.Core.Path.{sym, ◌∙◌}
use borrow.Author.Tests.{eq-eqb, ne_eqb}
use Rattle.check_records.proofs.record_rules.Laws.{or_yes, or_no}
use Rattle.check_records.proofs.module_records.maps.placed.Goals as goal

pub returns-then-block-eq0 : goal.returns-then-block-eq0
returns-then-block-eq0 c = or_yes _ (eq-eqb _ _ (sym c.map_block-block.ensures ∙ c.if-block-eq0.true))

pub returns : goal.returns
returns c =
    or_no (ne_eqb _ _ (λ e. c.if-block-eq0.false (c.map_block-block.ensures ∙ e)))
    (c.eq.ensures ∙ rw (
      c.map_crate-krate.ensures,
      c.map_crate-here.ensures,
      c.module_head.ensures,
      c.map_block-block.ensures,
    ))
