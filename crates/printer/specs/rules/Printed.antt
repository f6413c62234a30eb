-- The lines that are printed for an input.
use Rattle.std.specs.Prelude.{ℕ, zero, suc, ◌+◌, ◌/◌, ◌%◌, List, [], ◌∷◌, Bool, true, false, ◌&&◌, ◌||◌, eqb, leb, ltb, length, get_or, take}
use Rattle.snapshot.specs.Limits.{area_limit, input_limit}
use Rattle.snapshot.specs.Refusals.{bytes_refusal, rest_refusal, question_refusal}
use Rattle.snapshot.specs.Sizes.{question_size, reach_size}
use Rattle.snapshot.specs.Words.{kind_of, pay_of}
use Rattle.check_rules.specs.Verdict.{empty}
use Rattle.printing.specs.Input.{words_in}
use Rattle.find_path_spec.specs.declared.Question.{Question}
use Rattle.find_path_spec.specs.Report.{refused}
use Rattle.find_path_spec.specs.Line.{line_in, line_of, routed_line_of}
use Rattle.reach.specs.declared.parts.Viewer.{Viewer}
use Rattle.reach.specs.parts.Reach.{reach_of, reach_line}

-- the kinds of questions: 12, and 14 for the line with its route
abbrev pub is_question : ℕ → Bool
is_question k = eqb k 12 || eqb k 14

-- the kinds of what is asked: a question, or 15 for the reach of a module
abbrev pub is_head : ℕ → Bool
is_head k = is_question k || eqb k 15

-- the first place of such a head, from a place on; n words are left there
unfoldable pub first_from : List ℕ → ℕ → ℕ → ℕ
first_from W i zero = i
first_from W i (suc n) = elim (is_head (kind_of (get_or W i 0))) [ true ↦ i | false ↦ first_from W (i + 1) n ]

-- where the questions begin, or the number of words
unfoldable pub questions_at : List ℕ → ℕ
questions_at W = first_from W 0 (length W)

abbrev pub is_argument : List ℕ → ℕ → Bool
is_argument W i = eqb (kind_of (get_or W i 0)) 0

-- a whole question: a head and six arguments
unfoldable pub whole_at : List ℕ → ℕ → Bool
whole_at W i =
    is_question (kind_of (get_or W i 0))
    && ((is_argument W (i + 1) && is_argument W (i + 2))
    && ((is_argument W (i + 3) && is_argument W (i + 4))
    && ((is_argument W (i + 5) && is_argument W (i + 6)) && leb (i + question_size) (length W))))

-- head: definition; arguments: namespace, viewing module, prefix, options, fuel, limit
unfoldable pub question_at : List ℕ → ℕ → Question
question_at W i =
    record {
      query = record {
        ns = get_or W (i + 1) 0;
        definition = record { 0 = pay_of (get_or W i 0) };
        from = record { 0 = get_or W (i + 2) 0 };
        prefix = get_or W (i + 3) 0;
        options = get_or W (i + 4) 0;
        limit = get_or W (i + 6) 0;
      };
      fuel = get_or W (i + 5) 0;
    }

-- a whole question for a reach: a head of kind 15 and four arguments
unfoldable pub reach_at : List ℕ → ℕ → Bool
reach_at W i =
    eqb (kind_of (get_or W i 0)) 15
    && ((is_argument W (i + 1) && is_argument W (i + 2)) && ((is_argument W (i + 3) && is_argument W (i + 4)) && leb (i + reach_size) (length W)))

-- head: viewing module; arguments: prefix, options, fuel, limit
unfoldable pub viewer_at : List ℕ → ℕ → Viewer
viewer_at W i =
    record {
      from = record { 0 = pay_of (get_or W i 0) };
      prefix = get_or W (i + 1) 0;
      options = get_or W (i + 2) 0;
      fuel = get_or W (i + 3) 0;
      limit = get_or W (i + 4) 0;
    }

-- the line of a refusal of the input
abbrev pub refusal_line : ℕ → List ℕ
refusal_line n = line_in empty 0 (refused n)

-- the question asks for its route
abbrev pub asks_route : List ℕ → ℕ → Bool
asks_route W i = eqb (kind_of (get_or W i 0)) 14

-- S are the words of the snapshot: the line of what stands at a place of the words W, and the place after it
unfoldable pub line_at : List ℕ → List ℕ → ℕ → List ℕ
line_at W S i =
    elim (whole_at W i) [
      | true ↦ elim (asks_route W i) [ true ↦ routed_line_of S (question_at W i) | false ↦ line_of S (question_at W i) ]
      | false ↦ elim (reach_at W i) [ true ↦ reach_line (reach_of S area_limit (viewer_at W i)) | false ↦ refusal_line question_refusal ]
    ]

unfoldable pub next_at : List ℕ → ℕ → ℕ
next_at W i = elim (whole_at W i) [ true ↦ i + question_size | false ↦ elim (reach_at W i) [ true ↦ i + reach_size | false ↦ length W ] ]

-- the lines from a place on; n is at least the number of words left
unfoldable pub lines_from : ℕ → List ℕ → List ℕ → ℕ → List (List ℕ)
lines_from zero W S i = []
lines_from (suc n) W S i = elim (ltb i (length W)) [ true ↦ line_at W S i ∷ lines_from n W S (next_at W i) | false ↦ [] ]

-- too many bytes, a rest of 1 to 3 bytes, or 0 for none
unfoldable pub input_fault : List ℕ → ℕ
input_fault B = elim (ltb input_limit (length B)) [ true ↦ bytes_refusal | false ↦ elim (eqb (length B % 4) 0) [ true ↦ 0 | false ↦ rest_refusal ] ]

unfoldable pub lines_of : List ℕ → List (List ℕ)
lines_of W = lines_from (length W) W (take (questions_at W) W) (questions_at W)

unfoldable pub lines_unless : List ℕ → ℕ → List (List ℕ)
lines_unless B zero = lines_of (words_in B (length B / 4))
lines_unless B (suc n) = refusal_line (suc n) ∷ []

-- the lines for the bytes of an input; each is printed with a byte 10 after it
unfoldable pub printed : List ℕ → List (List ℕ)
printed B = lines_unless B (input_fault B)
