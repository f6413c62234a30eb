use Prim.Native.Nat.{◌<◌}
use native.Mathlib.Omega.{arith}
use lib.ListN.{length}
use Rattle.snapshot.specs.Words.{words_of}
use Rattle.exports.proofs.Texts.{held_all, held_cut}
use Rattle.exports.proofs.text.held.Goals as goal

pub returns-then-text_words-text : goal.returns-then-text_words-text
returns-then-text_words-text c = held_all _ _ (omega (arith, c.text_words.ensures, c.if-text_words-text.true))

pub returns : goal.returns
returns c =
    let a = c.args in
    let h : length a.text.now < words_of a.bytes = omega (arith, c.text_words.ensures, c.if-text_words-text.false) in
    held_cut a.text.now a.bytes h
