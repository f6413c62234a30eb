use Rattle.std.proofs.Common.{◌≡◌, length, drop}
use Rattle.streams.specs.case_text.Words.{under_way, read_to, read_from, words_read}
use Rattle.streams.proofs.case_text.words.read_words.Given as goal

abbrev pub invariant-loop-b : goal.invariant-loop-b
invariant-loop-b l =
    (length l.words ≡ length l.initial.words)
    × (read_from (drop l.b-index l.text) (under_way l.word) (read_to l.words l.n) ≡ words_read l.text l.initial.words)
