-- The worked snapshot (samples/worked.snapshot): a crate with a module `a` that holds a function `f`.
use Rattle.std.specs.Prelude.{ℕ, ◌≡◌, refl, List, [], ◌∷◌, ⊤}
use Rattle.snapshot.specs.Lists.{rows, any, all, eq_list}
use Rattle.snapshot.specs.Words.{arguments_of}
use Rattle.snapshot.specs.Records.{Snapshot}
use Rattle.check_rules.specs.Tests.{text_bound, padded}
use Rattle.check_rules.specs.Steps.{name_step, crate_step, dependency_step, map_step, module_step, child_step, prelude_step, definition_step}
use Rattle.check_rules.specs.Steps.{scope_step}
use Rattle.check_rules.specs.Steps.{import_step, extern_step, member_step}
use Rattle.check_rules.specs.Verdict.{arguments_from, record_step, step_at, finish, records, verdict, accept}

abbrev pub worked : List ℕ
worked =
    0x10000001 ∷ 0x61 ∷ 0x10000001 ∷ 0x66 ∷ 0x20000000 ∷ 2021 ∷ 0x40000000 ∷ 0 ∷ 0 ∷ 0x50000000 ∷ 0 ∷ 0x50000000 ∷ 1
    ∷ 0x60000000 ∷ 1 ∷ 0x80000001 ∷ 1 ∷ 0 ∷ 0x80000004 ∷ 1 ∷ 0 ∷ 0x90000000 ∷ 0 ∷ 0 ∷ 0 ∷ 0 ∷ 0 ∷ 1 ∷ 0
    ∷ 0x90000001 ∷ 1 ∷ 1 ∷ 1 ∷ 0 ∷ 0 ∷ 1 ∷ 0 ∷ []

abbrev pub worked_snapshot : Snapshot
worked_snapshot =
    record {
      names = record { bytes = 1; text = 0x61 ∷ [] } ∷ record { bytes = 1; text = 0x66 ∷ [] } ∷ [];
      crates = record { origin = 0; no_std = 0; edition = 2021 } ∷ [];
      dependencies = [];
      maps = record { crate = 0; block = 0; no_std = 0 } ∷ [];
      modules = record { map = 0; parent = 0 } ∷ record { map = 0; parent = 1 } ∷ [];
      children = record { owner = 0; child = 1 } ∷ [];
      preludes = [];
      definitions = record { kind = 1; first = 1; second = 0; place = 15 } ∷ record { kind = 4; first = 1; second = 0; place = 18 } ∷ [];
      scopes =
          record { owner = 0; ns = 0; name = 0; definition = 0; visibility = 0; number = 0; declared = 1; bits = 0; place = 21 }
          ∷ record { owner = 1; ns = 1; name = 1; definition = 1; visibility = 0; number = 0; declared = 1; bits = 0; place = 29 }
          ∷ [];
      imports = [];
      externs = [];
      members = [];
    }

-- what a row unfolds to compute the verdict on words that are written out
unfoldable pub verdict_on_literals : ⊤
unfolding verdict records step_at record_step finish arguments_from arguments_of name_step crate_step dependency_step map_step module_step
    child_step prelude_step definition_step scope_step import_step extern_step member_step text_bound padded rows any all eq_list
verdict_on_literals = tt

pub worked_accepted : verdict worked ≡ accept worked_snapshot
unfolding verdict_on_literals
worked_accepted = refl
