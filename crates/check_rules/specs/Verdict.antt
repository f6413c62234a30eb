-- Which words are a snapshot, and by which number and at which place the others are refused.
use Rattle.std.specs.Prelude.{ℕ, zero, suc, ◌+◌, List, [], Bool, true, false, ◌&&◌, ◌||◌, not, eqb, leb, ltb, length, get_or}
use Rattle.snapshot.specs.Limits.{word_limit}
use Rattle.snapshot.specs.Refusals.{words_refusal, form_refusal, place_refusal}
use Rattle.snapshot.specs.Words.{kind_of, arguments_at}
use Rattle.snapshot.specs.Records.{Snapshot, name_at, crate_at, dependency_at, map_at, module_at, child_at, prelude_at, definition_at, scope_at}
use Rattle.snapshot.specs.Records.{import_at}
use Rattle.snapshot.specs.Records.{extern_at, member_at}
use Rattle.check_rules.specs.Tests.{maps_filled, crates_own}
use Rattle.check_rules.specs.Steps.{Next, no, on, need, name_step, crate_step, dependency_step, map_step, module_step, child_step, prelude_step}
use Rattle.check_rules.specs.Steps.{definition_step, scope_step, import_step, extern_step, member_step}

-- a known kind that does not fall; a map may follow a module; kind 12 is a question's
abbrev pub follows : ℕ → ℕ → Bool
follows last k = leb 1 k && leb k 13 && not (eqb k 12) && (leb last k || eqb last 5 && eqb k 4)

-- n argument words stand from place i on
unfoldable pub arguments_from : List ℕ → ℕ → ℕ → Bool
arguments_from W i zero = true
arguments_from W i (suc n) = ltb i (length W) && eqb (kind_of (get_or W i 0)) 0 && arguments_from W (i + 1) n

-- the record of kind k with its head at a place
unfoldable pub record_step : ℕ → List ℕ → ℕ → Snapshot → Next
record_step k W at s =
    elim (eqb k 1) [
      | true ↦ name_step s (name_at W at)
      | false ↦
          elim (eqb k 2) [
            | true ↦ crate_step s (crate_at W at)
            | false ↦
                elim (eqb k 3) [
                  | true ↦ dependency_step s (dependency_at W at)
                  | false ↦
                      elim (eqb k 4) [
                        | true ↦ map_step s (map_at W at)
                        | false ↦
                            elim (eqb k 5) [
                              | true ↦ module_step s (module_at W at)
                              | false ↦
                                  elim (eqb k 6) [
                                    | true ↦ child_step s (child_at W at)
                                    | false ↦
                                        elim (eqb k 7) [
                                          | true ↦ prelude_step s (prelude_at W at)
                                          | false ↦
                                              elim (eqb k 8) [
                                                | true ↦ definition_step s (definition_at W at)
                                                | false ↦
                                                    elim (eqb k 9) [
                                                      | true ↦ scope_step s (scope_at W at)
                                                      | false ↦
                                                          elim (eqb k 10) [
                                                            | true ↦ import_step s (import_at W at)
                                                            | false ↦
                                                                elim (eqb k 11) [
                                                                  | true ↦ extern_step s (extern_at W at)
                                                                  | false ↦ member_step s (member_at W at)
                                                                ]
                                                          ]
                                                    ]
                                              ]
                                        ]
                                  ]
                            ]
                      ]
                ]
          ]
    ]

-- the record with its head at a place, after one of kind last
unfoldable pub step_at : List ℕ → ℕ → ℕ → Snapshot → Next
step_at W at last s =
    need (follows last (kind_of (get_or W at 0))) form_refusal
    (need (arguments_from W (at + 1) (arguments_at W at)) form_refusal (record_step (kind_of (get_or W at 0)) W at s))

-- a refusal has a number and a place: the offset of the record, or the number of words for a fault found after the last
pub data Verdict : Type 0 where
  refuse : ℕ → ℕ → Verdict
  accept : Snapshot → Verdict

-- after the last record: no map is empty, and no crate is without its own map
unfoldable pub finish : ℕ → Snapshot → Verdict
finish at s = elim (maps_filled s && crates_own s) [ true ↦ accept s | false ↦ refuse place_refusal at ]

-- the records from a place on; n is at least the number of words left
unfoldable pub records : ℕ → List ℕ → ℕ → ℕ → Snapshot → Verdict
records zero W at last s = finish (length W) s
records (suc n) W at last s =
    elim (ltb at (length W)) [
      | true ↦
          elim (step_at W at last s)
          [ no r ↦ refuse r at | on t ↦ records n W (at + 1 + arguments_at W at) (kind_of (get_or W at 0)) t ]
      | false ↦ finish (length W) s
    ]

abbrev pub empty : Snapshot
empty =
    record {
      names = [];
      crates = [];
      dependencies = [];
      maps = [];
      modules = [];
      children = [];
      preludes = [];
      definitions = [];
      scopes = [];
      imports = [];
      externs = [];
      members = [];
    }

-- too many words: the place is that of the first word too many
unfoldable pub verdict : List ℕ → Verdict
verdict W = elim (leb (length W) word_limit) [ true ↦ records (length W) W 0 0 empty | false ↦ refuse words_refusal word_limit ]
