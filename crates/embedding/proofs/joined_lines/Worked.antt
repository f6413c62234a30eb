-- The inputs that the theorem speaks of are there: the worked snapshot and its question, as bytes.
use Prim.Native.Nat.{ℕ, ◌/◌, ◌%◌}
use mathlib.Core.Path.{refl}
use mathlib.Core.List.{List, [], ◌∷◌, ◌++◌}
use native.Mathlib.Omega.{arith}
use Rattle.snapshot.specs.Lists.{rows}
use Rattle.check_rules.specs.Worked.{worked}
use Rattle.find_path_spec.specs.declared.Question.{Question}
use Rattle.embedding.specs.joined_lines.Inputs.{question_words, Writable, Asks}

unfoldable bytes_for : List ℕ → List ℕ
bytes_for [] = []
bytes_for (w ∷ ws) = w % 256 ∷ w / 256 % 256 ∷ w / 65536 % 256 ∷ w / 16777216 ∷ bytes_for ws

-- definition 1 in values, from the root, plain, fuel 10,000, limit 15
abbrev asked : Question
asked =
    record {
      query = record { ns = 1; definition = record { 0 = 1 }; from = record { 0 = 0 }; prefix = 1; options = 0; limit = 15 };
      fuel = 10000;
    }

asked_writable : Writable asked
asked_writable =
    record {
      definition = omega arith;
      ns = omega arith;
      from = omega arith;
      prefix = omega arith;
      options = omega arith;
      fuel = omega arith;
      limit = omega arith;
    }

worked_asks : Asks (bytes_for (worked ++ question_words asked)) worked asked
unfolding bytes_for question_words rows
worked_asks = record { size = refl; words = refl }
