-- A join keeps the printer's line of every question of either part, put with its numbers moved behind the joined words, if these fit
-- the printer.
use Prim.Native.Nat.{ℕ}
use mathlib.Core.Path.{◌≡◌, sym, ◌∙◌, ap}
use mathlib.Core.List.{List, [], ◌∷◌}
use native.Mathlib.Omega.{arith}
use Rattle.find_path_spec.specs.declared.Question.{Question}
use Rattle.printer.specs.Printed.{printed}
use Rattle.join_rules.specs.Joined.{first_numbers, second_numbers, question_to, joined, joined_as, join_of}
use Rattle.embedding.specs.Kept.{Answered, Kept}
use Rattle.embedding.proofs.Stays.{lines_kept}
use Rattle.embedding.specs.joined_lines.Inputs.{Writable, Asks, Room}
use Rattle.embedding.proofs.joined_lines.Asked.{asked_printed}
use Rattle.embedding.proofs.joined_lines.Sizes.{join_longer}

module _ (area room : ℕ) (W X Y : List ℕ) (e : join_of area W X room ≡ joined_as Y) (q : Question) (B C : List ℕ) (fits : Room Y) where
  abbrev pub kept : Kept W X Y
  kept = lines_kept area room W X Y e

  pub first_printed : Answered W q → Writable q → Asks B W q → Asks C Y (question_to first_numbers q) → printed C ≡ printed B
  first_printed a w b c =
      let r : Room W = omega (arith, (join_longer area room W X Y e).0, fits) in
      asked_printed Y (joined kept.first kept.second) kept.same (question_to first_numbers q) w C c fits
      ∙ ap (λ l. l ∷ []) (kept.firsts q a)
      ∙ sym (asked_printed W kept.first kept.one q w B b r)

  pub second_printed : Answered X q → Writable q → Writable (question_to (second_numbers kept.first kept.second) q) → Asks B X q
      → Asks C Y (question_to (second_numbers kept.first kept.second) q) → printed C ≡ printed B
  second_printed a w v b c =
      let r : Room X = omega (arith, (join_longer area room W X Y e).1, fits) in
      asked_printed Y (joined kept.first kept.second) kept.same (question_to (second_numbers kept.first kept.second) q) v C c fits
      ∙ ap (λ l. l ∷ []) (kept.seconds q a)
      ∙ sym (asked_printed X kept.second kept.two q w B b r)
