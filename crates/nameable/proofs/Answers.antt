-- The rows as one fact: an edit of a definition is told by them first.
use mathlib.Core.Path.{◌≡◌}
use mathlib.Core.List.{[], ◌∷◌}
use Rattle.check_rules.specs.Verdict.{verdict}
use Rattle.hir_def.specs.Items.{module_item, defined_item}
use Rattle.nameable.specs.Paths.{crate, keyword, plain, into}
use Rattle.nameable.specs.Breadth.{found, longer}
use Rattle.nameable.proofs.Worked.{workspace, ask, answers, old_edition, too_long}

pub record Answers : Type 0 where
  pub old_edition : answers 16 (verdict (workspace 2015)) (ask 1 (defined_item 1 6) ∷ ask 4 (module_item 5) ∷ [])
      ≡ found (into (into (plain 7) 8) 9) ∷ found (plain 7) ∷ []
  pub too_long : answers 3 (verdict (workspace 2021)) (ask 4 (defined_item 1 13) ∷ ask 4 (defined_item 0 12) ∷ [])
      ≡ longer ∷ found (into (into (into (keyword crate) 0) 3) 13) ∷ []

pub answers_given : Answers
answers_given = record { old_edition = old_edition; too_long = too_long }
