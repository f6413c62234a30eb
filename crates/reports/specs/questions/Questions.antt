-- Questions as words.
use Rattle.std.specs.Prelude.{ℕ, zero, suc, List, [], ◌∷◌, get_or, drop}
use Rattle.snapshot.specs.Sizes.{question_size}
use Rattle.find_path_spec.specs.declared.Question.{Question}

-- a word a field: namespace, definition, viewing module, prefix, options, fuel, limit
abbrev pub question_of : List ℕ → Question
question_of q =
    record {
      query = record {
        ns = get_or q 0 0;
        definition = record { 0 = get_or q 1 0 };
        from = record { 0 = get_or q 2 0 };
        prefix = get_or q
            3 0;
        options = get_or q 4 0;
        limit = get_or q 6 0;
      };
      fuel = get_or q 5 0;
    }

-- so many questions, one after the other
unfoldable pub questions_of : ℕ → List ℕ → List Question
questions_of zero words = []
questions_of (suc n) words = question_of words ∷ questions_of n (drop question_size words)
