use Rattle.printing.specs.wording.Text.{meaning}
use Rattle.printing.proofs.wording.Laws.{choose_on}
use Rattle.printing.proofs.wording.meaning.Goals as goal

pub returns : goal.returns
unfolding meaning
returns c =
    choose_on _ _ _ c.chosen.ensures
    (choose_on _ _ _ c.chosen-t-9.ensures
    (choose_on _ _ _ c.chosen-t-8.ensures
    (choose_on _ _ _ c.chosen-t-7.ensures
    (choose_on _ _ _ c.chosen-t-6.ensures
    (choose_on _ _ _ c.chosen-t-5.ensures
    (choose_on _ _ _ c.chosen-t-4.ensures
    (choose_on _ _ _ c.chosen-t-3.ensures
    (choose_on _ _ _ c.chosen-t-2.ensures c.chosen-t.ensures))))))))
