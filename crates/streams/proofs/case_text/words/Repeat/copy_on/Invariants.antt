use Rattle.std.proofs.Common.{◌≡◌, ◌-◌, length}
use Rattle.streams.specs.case_text.Words.{read_to, copied}
use Rattle.streams.proofs.case_text.words.Repeat.copy_on.Given as goal

abbrev pub invariant-loop-i : goal.invariant-loop-i
invariant-loop-i l =
    (length l.words ≡ length l.initial.words)
    × (copied (l.end - l.i) l.self.back l.self.heads l.self.arguments (read_to l.words l.i)
    ≡ copied l.self.count l.self.back l.self.heads l.self.arguments (read_to l.initial.words l.from))
