-- What the turns write, from the first question to the end of the words, are the lines that are defined for the bytes of the input.
use Prim.Native.Nat.{ℕ, zero, suc, ◌+◌, ◌/◌, ◌≤◌}
use mathlib.Core.Path.{◌≡◌, refl, sym, ◌∙◌, ap, ap₂}
use mathlib.Core.List.{List, [], ◌∷◌, map}
use mathlib.Core.Bool.{true}
use native.Mathlib.Omega.{arith}
use borrow.Author.Tests.{lt-ltb, le-ltb}
use lib.ListN.{length, take}
use Rattle.accept.specs.Post.{Checked}
use Rattle.snapshot.specs.Lists.{rows, all}
use Rattle.accept.proofs.Bools.{and_left}
use Rattle.printing.specs.Input.{words_in}
use Rattle.find_path_spec.specs.Line.{bytes_of, line_of}
use Rattle.find_path_spec.proofs.Worked.{Row, passes}
use Rattle.check_rules.specs.Worked.{worked}
use Rattle.check_rules.proofs.Names.{eq_lists}
use Rattle.printer.specs.Printed.{first_from, questions_at, whole_at, question_at, reach_at, refusal_line, line_at, next_at, lines_from, lines_of}
use Rattle.printer.specs.Printed.{lines_unless, input_fault, printed, Turns, end, turn, ended}
use Rattle.printer.proofs.Laws.{next_more}

turns_lines : (W S : List ℕ) (c : Checked) (n i : ℕ) (ls : List (List ℕ)) → length W ≤ n + i → Turns W S c i ls → ls ≡ map ended (lines_from n W S i)
unfolding lines_from
turns_lines W S c zero i [] h (end g) = refl
turns_lines W S c (suc n) i [] h (end g) = sym (rw (lines_from, le-ltb i (length W) g))
turns_lines W S c zero i ls h (turn A old out r g p t) = absurd (omega arith)
turns_lines W S c (suc n) i ls h (turn {later = ks} A old out r g p t) =
    let m = next_more W i r.next g p.next in
    let q = turns_lines W S c n r.next ks (omega arith) t in
    ap₂ (λ x xs. x ∷ xs) p.line (q ∙ ap (λ j. map ended (lines_from n W S j)) p.next)
    ∙ sym (rw (lines_from, lt-ltb i (length W) g))

-- The words of the bytes, the snapshot before the first question, and turns from there on: each line of `printed`, with its end, in order.
pub turns_printed : (B : List ℕ) (c : Checked) (ls : List (List ℕ)) → input_fault B ≡ 0
    → Turns (words_in B (length B / 4)) (take (questions_at (words_in B (length B / 4))) (words_in B (length B / 4))) c
    (questions_at (words_in B (length B / 4))) ls
    → ls ≡ map ended (printed B)
unfolding printed lines_unless lines_of
turns_printed B c ls e t =
    let W = words_in B (length B / 4) in
    turns_lines W (take (questions_at W) W) c (length W) (questions_at W) ls (omega arith) t ∙ ap (λ n. map ended (lines_unless B n)) (sym e)

-- An input that is refused has the line of its number alone.
pub fault_printed : (B : List ℕ) (n : ℕ) → input_fault B ≡ suc n → printed B ≡ refusal_line (suc n) ∷ []
unfolding printed lines_unless
fault_printed B n e = ap (lines_unless B) e

-- The worked input, byte for byte: the worked snapshot, and a question.
pub listing : List ℕ
listing =
    0x01 ∷ 0x00 ∷ 0x00 ∷ 0x10 ∷ 0x61 ∷ 0x00 ∷ 0x00 ∷ 0x00 ∷ 0x01 ∷ 0x00 ∷ 0x00 ∷ 0x10 ∷ 0x66 ∷ 0x00 ∷ 0x00 ∷ 0x00
    ∷ 0x00 ∷ 0x00 ∷ 0x00 ∷ 0x20 ∷ 0xE5 ∷ 0x07 ∷ 0x00 ∷ 0x00 ∷ 0x00 ∷ 0x00 ∷ 0x00 ∷ 0x40 ∷ 0x00 ∷ 0x00 ∷ 0x00 ∷ 0x00
    ∷ 0x00 ∷ 0x00 ∷ 0x00 ∷ 0x00 ∷ 0x00 ∷ 0x00 ∷ 0x00 ∷ 0x50 ∷ 0x00 ∷ 0x00 ∷ 0x00 ∷ 0x00 ∷ 0x00 ∷ 0x00 ∷ 0x00 ∷ 0x50
    ∷ 0x01 ∷ 0x00 ∷ 0x00 ∷ 0x00 ∷ 0x00 ∷ 0x00 ∷ 0x00 ∷ 0x60 ∷ 0x01 ∷ 0x00 ∷ 0x00 ∷ 0x00 ∷ 0x01 ∷ 0x00 ∷ 0x00 ∷ 0x80
    ∷ 0x01 ∷ 0x00 ∷ 0x00 ∷ 0x00 ∷ 0x00 ∷ 0x00 ∷ 0x00 ∷ 0x00 ∷ 0x04 ∷ 0x00 ∷ 0x00 ∷ 0x80 ∷ 0x01 ∷ 0x00 ∷ 0x00 ∷ 0x00
    ∷ 0x00 ∷ 0x00 ∷ 0x00 ∷ 0x00 ∷ 0x00 ∷ 0x00 ∷ 0x00 ∷ 0x90 ∷ 0x00 ∷ 0x00 ∷ 0x00 ∷ 0x00 ∷ 0x00 ∷ 0x00 ∷ 0x00 ∷ 0x00
    ∷ 0x00 ∷ 0x00 ∷ 0x00 ∷ 0x00 ∷ 0x00 ∷ 0x00 ∷ 0x00 ∷ 0x00 ∷ 0x00 ∷ 0x00 ∷ 0x00 ∷ 0x00 ∷ 0x01 ∷ 0x00 ∷ 0x00 ∷ 0x00
    ∷ 0x00 ∷ 0x00 ∷ 0x00 ∷ 0x00 ∷ 0x01 ∷ 0x00 ∷ 0x00 ∷ 0x90 ∷ 0x01 ∷ 0x00 ∷ 0x00 ∷ 0x00 ∷ 0x01 ∷ 0x00 ∷ 0x00 ∷ 0x00
    ∷ 0x01 ∷ 0x00 ∷ 0x00 ∷ 0x00 ∷ 0x00 ∷ 0x00 ∷ 0x00 ∷ 0x00 ∷ 0x00 ∷ 0x00 ∷ 0x00 ∷ 0x00 ∷ 0x01 ∷ 0x00 ∷ 0x00 ∷ 0x00
    ∷ 0x00 ∷ 0x00 ∷ 0x00 ∷ 0x00 ∷ 0x01 ∷ 0x00 ∷ 0x00 ∷ 0xC0 ∷ 0x01 ∷ 0x00 ∷ 0x00 ∷ 0x00 ∷ 0x00 ∷ 0x00 ∷ 0x00 ∷ 0x00
    ∷ 0x01 ∷ 0x00 ∷ 0x00 ∷ 0x00 ∷ 0x00 ∷ 0x00 ∷ 0x00 ∷ 0x00 ∷ 0x10 ∷ 0x27 ∷ 0x00 ∷ 0x00 ∷ 0x0F ∷ 0x00 ∷ 0x00 ∷ 0x00
    ∷ []

abbrev asked : Row
asked = record { question = question_at (words_in listing 44) 37; line = "found a::f 1 0" }

asked_passes : passes worked (asked ∷ []) ≡ true
unfolding passes listing question_at rows
asked_passes = refl

asked_line : line_of worked asked.question ≡ bytes_of "found a::f 1 0"
unfolding passes all
asked_line = eq_lists (line_of worked asked.question) (bytes_of "found a::f 1 0") (and_left _ true asked_passes)

-- Its whole output is one line.
pub listing_printed : printed listing ≡ bytes_of "found a::f 1 0" ∷ []
unfolding printed lines_unless lines_of lines_from input_fault questions_at first_from whole_at reach_at line_at next_at listing rows
listing_printed = ap (λ l. l ∷ []) asked_line
