use mathlib.Core.Path.{◌≡◌}
use lib.Dec.{eqb}
use lib.ListN.{get_or}
use Rattle.std.proofs.Common.{rules}
use Rattle.snapshot.specs.Words.{kind_of}
use Rattle.printer.proofs.Laws.{not_reach, reach_same}
use Rattle.printer.proofs.questions.is_reach.Goals as goal

pub returns-then-words-at : goal.returns-then-words-at
returns-then-words-at c = not_reach c.args.words.now c.args.at c.if-words-at.true

pub returns : goal.returns
returns c =
    let s = c.args in
    let v : c.eq-head.result ≡ eqb (kind_of (get_or s.words.now s.at 0)) 15 = search rules in
    reach_same s.words.now s.at _ _ _ _ _ v
    c.is_argument.ensures c.is_argument-2.ensures c.is_argument-3.ensures
    c.is_argument-4.ensures
