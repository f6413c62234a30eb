-- Choices of a path, computed: an edit of a definition is told by these rows first.
use Prim.Native.Nat.{ℕ}
use mathlib.Core.Path.{◌≡◌, refl}
use mathlib.Core.Bool.{true, false}
use mathlib.Core.List.{List, [], ◌∷◌, ◌++◌, map}
use lib.ListN.{take}
use Rattle.snapshot.specs.Lists.{eq_list}
use Rattle.snapshot.specs.Records.{Snapshot}
use Rattle.find_path_choice.specs.Choices.{Choice, name_data, is_prelude, crate_path, path_kind_len, path_len, nothing, keyword, extended, push}
use Rattle.find_path_choice.specs.Choices.{unstably, compare_bool, and_then, compare_prelude, taken, better, try_select, shorter_if, length_left}
use Rattle.find_path_choice.specs.Choices.{via_builtin, via_scope, via_prelude, via_extern, via_keyword, via_variant, via_local, via_import}
use Rattle.find_path_choice.specs.StepRules.{rule_number}
use Rattle.find_path_choice.specs.declared.choices.StepRule.TheVariants.{Builtin, Scope, Prelude, Extern, Keyword, Variant, Local, Import}

-- names: 0 `prelude`, 1 `a`, 2 `bc`
pub named : Snapshot
named =
    record {
      names =
          record { bytes = 7; text = 0x657270 ∷ 0x64756C ∷ 0x65 ∷ [] }
          ∷ record { bytes = 1; text = 0x61 ∷ [] }
          ∷ record { bytes = 2; text = 0x6362 ∷ [] }
          ∷ [];
      crates = [];
      dependencies = [];
      maps = [];
      modules = [];
      children = [];
      preludes = [];
      definitions = [];
      scopes = [];
      imports = [];
      externs = [];
      members = [];
    }

-- `crate` and a name, by a step
pub under_crate : ℕ → ℕ → Choice
unfolding keyword push extended is_prelude name_data eq_list path_kind_len
under_crate n t = push named (keyword crate_path) n t

-- names, steps, and the length of the text
pub pushed :
    let c = push named (under_crate 1 17) 2 25 in
    take c.count c.names ∷ take c.steps c.route ∷ (c.path_text_len ∷ []) ∷ []
    ≡ (1 ∷ 2 ∷ []) ∷ (4 ∷ 17 ∷ 25 ∷ []) ∷ (8 ∷ []) ∷ []
unfolding named under_crate keyword push extended is_prelude name_data eq_list path_kind_len
pushed = refl

-- what is unstable stays so
pub inherited : (push named (unstably (under_crate 1 17)) 2 25).stable ≡ false
unfolding named under_crate unstably keyword push extended
inherited = refl

-- of a choice of one name after a keyword: its steps, and the name
pub told : Choice → List ℕ
told c = take 2 c.route ++ take 1 c.names

-- of two paths that are equal in all keys the earlier stays; a shorter text is taken, and a stable path
pub selected :
    map told
    (try_select named false (under_crate 1 17) (keyword crate_path) 1 25
    ∷ try_select named false (under_crate 2 17) (keyword crate_path) 1 25
    ∷ try_select named false (unstably (under_crate 1 17)) (keyword crate_path) 2 25
    ∷ [])
    ≡ (4 ∷ 17 ∷ 1 ∷ []) ∷ (4 ∷ 25 ∷ 1 ∷ []) ∷ (4 ∷ 25 ∷ 2 ∷ []) ∷ []
unfolding told named under_crate unstably keyword push extended is_prelude name_data eq_list path_kind_len path_len try_select better taken and_then
    compare_bool compare_prelude
selected = refl

-- the last name `prelude` counts for the first choice, and not for a newcomer
pub flags :
    map (λ c. c.has_prelude_segment)
    (try_select named false nothing (keyword crate_path) 0 25
    ∷ try_select named false (unstably (under_crate 1 17)) (keyword crate_path) 0 25
    ∷ [])
    ≡ true ∷ false ∷ []
unfolding named under_crate unstably keyword push extended is_prelude name_data eq_list path_kind_len path_len try_select better taken and_then
    compare_bool compare_prelude
flags = refl

-- without a choice, with one that is shorter, and with one that is longer than what is left
pub lefts : length_left 5 nothing ∷ length_left 9 (under_crate 1 17) ∷ length_left 1 (under_crate 1 17) ∷ [] ≡ 4 ∷ 1 ∷ 0 ∷ []
unfolding named under_crate keyword push extended path_len length_left shorter_if
lefts = refl

-- the rules by their numbers
pub rules :
    map rule_number (Builtin ∷ Scope ∷ Prelude ∷ Extern ∷ Keyword ∷ Variant ∷ Local ∷ Import ∷ [])
    ≡ via_builtin ∷ via_scope ∷ via_prelude ∷ via_extern ∷ via_keyword ∷ via_variant ∷ via_local ∷ via_import ∷ []
rules = refl
