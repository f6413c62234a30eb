use mathlib.Core.Path.{sym, ◌∙◌}
use Rattle.find_path_local.proofs.distances.Marking.{ready_cleared, ready_roots, ready_keywords, ready_prelude, marked_none, marked_scopes}
use Rattle.find_path_local.proofs.distances.mark_rules.Goals as goal

pub clear_numbers-requires : goal.clear_numbers-requires
clear_numbers-requires c = c.requires.0.reads.tables.limited.modules

pub mark_roots-requires : goal.mark_roots-requires
mark_roots-requires c =
    ready_cleared c.args.records.now.words.now c.args.area.now c.args.records.now.layout c.args.x c.requires.0 _ c.clear_numbers.ensures
    (c.clear_numbers.array_long ∙ sym c.told-area)

pub mark_keywords-requires : goal.mark_keywords-requires
mark_keywords-requires c = (
  ready_roots c.args.records.now.words.now c.args.area.now c.args.records.now.layout c.args.x c.requires.0 _ c.clear_numbers.ensures
      (c.clear_numbers.array_long ∙ sym c.told-area) _
      c.mark_roots.ensures (c.mark_roots.array_long ∙ sym c.clear_numbers.array_long),
  c.requires.1,
)

pub mark_prelude-requires : goal.mark_prelude-requires
mark_prelude-requires c = (
  ready_keywords c.args.records.now.words.now c.args.area.now c.args.records.now.layout c.args.x c.requires.0 _ c.clear_numbers.ensures
      (c.clear_numbers.array_long ∙ sym c.told-area) _
      c.mark_roots.ensures (c.mark_roots.array_long ∙ sym c.clear_numbers.array_long) _ c.mark_keywords.ensures
      (c.mark_keywords.array_long ∙ sym c.mark_roots.array_long),
  c.requires.1,
)

pub returns-then-not-may_be_in_scope : goal.returns-then-not-may_be_in_scope
returns-then-not-may_be_in_scope c =
    marked_none c.args.records.now.words.now c.args.area.now c.args.records.now.layout c.args.x c.requires.0 _ c.clear_numbers.ensures
    (c.clear_numbers.array_long ∙ sym c.told-area) _
    c.mark_roots.ensures (c.mark_roots.array_long ∙ sym c.clear_numbers.array_long) _ c.mark_keywords.ensures
    (c.mark_keywords.array_long ∙ sym c.mark_roots.array_long) _ c.mark_prelude.ensures
    (c.mark_prelude.array_long ∙ sym c.mark_keywords.array_long) (c.may_be_in_scope.ensures _) c.if-not-may_be_in_scope.true

pub mark_scopes-requires : goal.mark_scopes-requires
mark_scopes-requires c = (
  ready_prelude c.args.records.now.words.now c.args.area.now c.args.records.now.layout c.args.x c.requires.0 _ c.clear_numbers.ensures
      (c.clear_numbers.array_long ∙ sym c.told-area) _
      c.mark_roots.ensures (c.mark_roots.array_long ∙ sym c.clear_numbers.array_long) _ c.mark_keywords.ensures
      (c.mark_keywords.array_long ∙ sym c.mark_roots.array_long) _ c.mark_prelude.ensures
      (c.mark_prelude.array_long ∙ sym c.mark_keywords.array_long),
  c.requires.1,
)

pub returns : goal.returns
returns c =
    marked_scopes c.args.records.now.words.now c.args.area.now c.args.records.now.layout c.args.x c.requires.0 _ c.clear_numbers.ensures
    (c.clear_numbers.array_long ∙ sym c.told-area) _
    c.mark_roots.ensures (c.mark_roots.array_long ∙ sym c.clear_numbers.array_long) _ c.mark_keywords.ensures
    (c.mark_keywords.array_long ∙ sym c.mark_roots.array_long) _ c.mark_prelude.ensures
    (c.mark_prelude.array_long ∙ sym c.mark_keywords.array_long) _ c.mark_scopes.ensures
