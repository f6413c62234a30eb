use mathlib.Core.Path.{ap, ap₂, ◌∙◌}
use Rattle.std.specs.Ordering.{is_gt, ordering_then}
use Rattle.find_path_choice.proofs.ChoiceLaws.{prelude_first, prelude_last, better_same}
use Rattle.find_path_choice.specs.Given.{chosen}
use Rattle.accept.specs.Opened.{snap_in}
use Rattle.find_path_choice.proofs.choices.better.Goals.{then-prefer, else-prefer}
use Rattle.find_path_choice.proofs.choices.better.Goals as goal

pub returns : goal.returns
returns c =
    let x = c.args.current.has_prelude_segment in
    let y = c.args.other.has_prelude_segment in
    let one = ap (λ o. ordering_then o c.if-prefer.by_prelude) c.cmp.ensures in
    let two = ap₂ ordering_then (c.then.ensures ∙ one) c.cmp-by_length.ensures in
    c.is_gt.ensures ∙ ap is_gt (c.then-3.ensures ∙ ap₂ ordering_then (c.then-2.ensures ∙ two) c.cmp-by_text.ensures)
    ∙ better_same (snap_in c.args.db.now) c.args.prefer (chosen c.args.current) (chosen c.args.other) c.args.n.0 c.if-prefer.by_prelude
    c.path_len.ensures.0 c.path_len-2.ensures.0 c.name_len.ensures.0
    (elim c.if-prefer.branch [
      | then-prefer w ↦ prelude_first x y w.if-prefer.true (w.by_prelude-is ∙ w.cmp-by_prelude.ensures)
      | else-prefer w ↦ prelude_last x y w.if-prefer.false (w.by_prelude-is ∙ w.cmp-by_prelude-else-prefer.ensures)
    ])
