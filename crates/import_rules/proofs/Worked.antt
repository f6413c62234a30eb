-- The imports of crates of small snapshots, worked out by hand from import_map.rs and computed.
use Prim.Native.Nat.{ℕ}
use mathlib.Core.Path.{◌≡◌, refl}
use mathlib.Core.List.{List, [], ◌∷◌, ◌++◌}
use mathlib.Core.Bool.{Bool, true, false, ◌&&◌}
use Rattle.std.specs.Prelude.{⊤}
use Rattle.snapshot.specs.Lists.{eq_list}
use Rattle.snapshot.specs.Records.{Snapshot, Import}
use Rattle.check_rules.specs.Verdict.{Verdict, refuse, accept, verdict}
use Rattle.check_rules.specs.Worked.{verdict_on_literals, worked}
use Rattle.hir_def.specs.Finds.{place_of, select}
use Rattle.hir_def.specs.Items.{definition_of, root_of, own_map}
use Rattle.find_path_choice.specs.Choices.{name_data}
use Rattle.find_path_spec.specs.Line.{unpacked, text_of}
use Rattle.find_path_spec.proofs.Worked.{head, named}
use Rattle.import_rules.specs.Collect.{text_before, entry_before, insert_by, sort_into, entries_of, piled, visits, modules_from, member_ns}
use Rattle.import_rules.specs.Collect.{imports_of, imports_in, imports_over, collected, words_of}

-- what a row unfolds to compute what is collected from words that are written out
unfoldable pub collected_on_literals : ⊤
unfolding collected imports_over imports_in imports_of member_ns modules_from visits piled entries_of sort_into insert_by entry_before
    text_before words_of text_of unpacked name_data definition_of root_of own_map place_of select verdict_on_literals
collected_on_literals = tt

-- a crate and its imports
pub record Row : Type 0 where
  pub crate : ℕ
  pub imports : List Import

-- namespace, definition, name, container, bits
pub line : ℕ → ℕ → ℕ → ℕ → ℕ → ℕ → Import
line c ns d name container bits = record { owner = c; ns = ns; definition = d; name = name; container = container; bits = bits; place = 0 }

pub agrees : Snapshot → List Row → Bool
agrees s [] = true
agrees s (r ∷ rs) = eq_list (words_of (collected s r.crate)) (words_of r.imports) && agrees s rs

pub collects : Verdict → List Row → Bool
collects (refuse n at) rs = false
collects (accept s) rs = agrees s rs

-- `a`, then in it `f`
pub worked_imports : collects (verdict worked) (record {
  crate = 0;
  imports =
      line 0 0 0 0 0 0 ∷ line 0 1 1 1 1 0 ∷ [];
} ∷ []) ≡ true
unfolding collects agrees line collected_on_literals
worked_imports = refl

-- Crate 0 with the modules 0, its root, and 1 `b` and 2 `ab` below it; crate 1 with the module 3, its root. Names: 0 `b`, 1 `ab`, 2 `c`, 3
-- `V`, 4 `t`,
-- 5 `k`, 6 `A`. Definitions: 0 `b`, 1 `ab`, 2 an enum, 3 its variant `V`, 4 a trait, 5 its function `t`, 6 its constant `k`, 7 its type
-- alias `A`, 8 a macro, 9 the root of crate 1. The root has, in record order: `c` in macros, `b`, `ab`, `c` in types (the trait, hidden),
-- `c` in values (the trait, unstable), a private `V`. `b` has
-- `ab` again, the enum as `c` in types and in values and the root of crate 1 as `b`; `ab` has its parent's module `b` as `b`. The root of
-- crate 1 has the macro as `k`.
unfoldable pub with_members : List ℕ
with_members =
    named "b" ++ named "ab" ++ named "c" ++ named "V" ++ named "t" ++ named "k" ++ named "A"
    ++ (head 2 0 ∷ 2021 ∷ head 2 0 ∷ 2021
    -- maps, modules
    ∷ head 4 0 ∷ 0 ∷ 0 ∷ head 5 0 ∷ 0 ∷ head 5 0 ∷ 1 ∷ head 5 0 ∷ 1 ∷ head 4 1 ∷ 0 ∷ 0 ∷ head 5 1 ∷ 0
    -- definitions
    ∷ head 8 1 ∷ 1 ∷ 0 ∷ head 8 1 ∷ 2 ∷ 0 ∷ head 8 4 ∷ 1 ∷ 0 ∷ head 8 2 ∷ 2 ∷ 3 ∷ head 8 4 ∷ 0 ∷ 0 ∷ head 8 4 ∷ 0 ∷ 0 ∷ head 8 4 ∷ 0 ∷ 0
    ∷ head 8 4 ∷ 0 ∷ 0 ∷ head 8 5 ∷ 0 ∷ 0 ∷ head 8 1 ∷ 3 ∷ 0
    -- scopes
    ∷ head 9 0 ∷ 2 ∷ 2 ∷ 8 ∷ 0 ∷ 0 ∷ 1 ∷ 0 ∷ head 9 0 ∷ 0 ∷ 0 ∷ 0 ∷ 0 ∷ 0 ∷ 1 ∷ 0 ∷ head 9 0 ∷ 0 ∷ 1 ∷ 1 ∷ 0 ∷ 0 ∷ 1 ∷ 0
    ∷ head 9 0 ∷ 0 ∷ 2 ∷ 4 ∷ 0 ∷ 0 ∷ 1 ∷ 1 ∷ head 9 0 ∷ 1 ∷ 2 ∷ 4 ∷ 0 ∷ 0 ∷ 0 ∷ 2 ∷ head 9 0 ∷ 0 ∷ 3 ∷ 2 ∷ 1 ∷ 0 ∷ 0 ∷ 0
    ∷ head 9 1 ∷ 0 ∷ 1 ∷ 1 ∷ 0 ∷ 0 ∷ 0 ∷ 0 ∷ head 9 1 ∷ 0 ∷ 2 ∷ 2 ∷ 0 ∷ 0 ∷ 1 ∷ 0 ∷ head 9 1 ∷ 1 ∷ 2 ∷ 2 ∷ 0 ∷ 0 ∷ 0 ∷ 0
    ∷ head 9 1 ∷ 0 ∷ 0 ∷ 9 ∷ 0 ∷ 0 ∷ 0 ∷ 0
    ∷ head 9 2 ∷ 0 ∷ 0 ∷ 0 ∷ 0 ∷ 0 ∷ 0 ∷ 0 ∷ head 9 3 ∷ 2 ∷ 5 ∷ 8 ∷ 0 ∷ 0 ∷ 1 ∷ 3
    -- members
    ∷ head 13 4 ∷ 4 ∷ 5 ∷ 1 ∷ 2 ∷ head 13 2 ∷ 3 ∷ 3 ∷ 0 ∷ 1 ∷ head 13 4 ∷ 6 ∷ 7 ∷ 3 ∷ 0 ∷ head 13 4 ∷ 5 ∷ 6 ∷ 2 ∷ 0 ∷ [])

-- Crate 0: of the root `ab`, `b`, the trait's function and constant in types before it, the same in values, the macro; then `b`, pushed
-- last, with `ab`, the root of crate 1, the variant and its enum, the variant in types again and the enum in values; then the root of crate
-- 1, pushed last there; then `ab`, once, with `b`, which was visited.
pub member_imports : collects (verdict with_members)
    (record {
      crate = 0;
      imports =
          line 0 0 1 1 0 0 ∷ line 0 0 0 0 0 0 ∷ line 0 0 5 4 0 2 ∷ line 0 0 6 5 0 0 ∷ line 0 0 4 2 0 1
          ∷ line 0 1 5 4 0 2 ∷ line 0 1 6 5 0 0 ∷ line 0 1 4 2 0 2 ∷ line 0 2 8 2 0 0 ∷ line 0 0 1 1 1 0
          ∷ line 0 0 9 0 1 0 ∷ line 0 0 3 3 1 1 ∷ line 0 0 2 2 1 0 ∷ line 0 0 3 3 1 1 ∷ line 0 1 2 2 1 0 ∷ line 0 2 8 5 3 3
          ∷ line 0 0 0 0 2 0 ∷ [];
    }
    ∷ record {
      crate = 1;
      imports =
          line 1 2 8 5 3 3 ∷ [];
    }
    ∷ []) ≡ true
unfolding collects agrees line with_members named head collected_on_literals
member_imports = refl
