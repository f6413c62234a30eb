-- The rules that charge, over any meter.
use Rattle.std.specs.Prelude.{ℕ, zero, suc, Bool, true, false, ◌&&◌, List, [], ◌∷◌, ◌==◌}
use Rattle.std.specs.Prelude.{Option, None, Some}
use Rattle.snapshot.specs.Records.{Snapshot, Dependency, Definition, Import}
use Rattle.hir_def.specs.Items.{types, variant_kind, crate_of, definition_of, item_of, home_of, module_item}
use Rattle.hir_def.specs.Nameres.{dependencies_of, lang_of, sysroot_first}
use Rattle.hir_def.specs.ImportMap.{import_info_for, is_hidden, is_unstable}
use Rattle.hir_def.specs.declared.Item.{Item}
use Rattle.hir_def.specs.declared.Item.TheVariants.{Mod, Def}
use Rattle.find_path_choice.specs.Choices.{Choice}
use Rattle.find_path_choice.specs.Given.{given}
use Rattle.find_path_spec.specs.declared.Tank.{Tank}
use Rattle.find_path_spec.specs.declared.Found.{Found as CodeFound}
use Rattle.find_path_spec.specs.declared.FindPathCtx.{FindPathCtx}
use Rattle.find_path_choice.specs.Choices.{via_variant, via_import, step_by, nothing, push, unstably, length_left}
use Rattle.find_path_spec.specs.Rules.{sought_of, first_found, scope_rule, prelude_rule, module_rules}
use Rattle.find_path_spec.specs.Local.{offer}
use Rattle.find_path_spec.specs.Meters.{Charged, Charge, go, stop}

-- a choice, and the meter that the search leaves
pub record Out (M : Type 0) : Type 0 where
  pub choice : Choice
  pub meter : M

-- a choice, and the tank that the search leaves
pub record Found : Type 0 where
  pub choice : Choice
  pub meter : Tank

-- the same, as a record of the definitions
abbrev pub found_of : Out Tank → Found
found_of o = record { choice = o.choice; meter = o.meter }

-- what the code answers, as the rules take it
abbrev pub out_of : CodeFound → Out Tank
out_of f = record { choice = given f.choice; meter = f.meter }

-- what the code answers, as that record
abbrev pub given_found : CodeFound → Found
given_found f = found_of (out_of f)

-- A module search: length left, module, meter.
abbrev pub Search : Type 0 → Type 0
Search M = ℕ → ℕ → M → Out M

-- An item search: item, meter.
abbrev pub Inner : Type 0 → Type 0
Inner M = Item → M → Out M

abbrev pub is_stable : Choice → Bool
is_stable c = c.found && c.stable

-- the origins that `find_in_sysroot` tries first: core, alloc, std, or std, core, alloc
unfoldable pub langs : Bool → List ℕ
langs true = 1 ∷ 2 ∷ 3 ∷ []
langs false = 3 ∷ 1 ∷ 2 ∷ []

unfoldable pub one_or_none : Option Dependency → List Dependency
one_or_none None = []
one_or_none (Some d) = d ∷ []

-- the home is in the crate
unfoldable pub is_at : Snapshot → ℕ → ℕ → Bool
is_at s zero c = false
is_at s (suc h) c = crate_of s h == c

-- the item's definition, if it is a variant
unfoldable pub variant_of : Snapshot → Item → Option Definition
variant_of s (Mod m) = None
variant_of s (Def ns d) = elim ((definition_of s d.0).kind == variant_kind) [ true ↦ Some (definition_of s d.0) | false ↦ None ]

-- a variant's name after the path of its enum
unfoldable pub push_variant : Snapshot → Choice → Definition → Choice
push_variant s c v = push s c v.second (step_by via_variant v.place)

module _ (s : Snapshot) (x : FindPathCtx) where
  -- an unstable import is offered only where it is allowed, and makes the choice unstable
  unfoldable pub offer_import : Choice → Choice → Import → Choice
  offer_import best c i =
      elim (is_unstable i) [
        | true ↦ elim x.allow_unstable [ true ↦ offer s x best (unstably c) i.name (step_by via_import i.place) | false ↦ best ]
        | false ↦ offer s x best c i.name (step_by via_import i.place)
      ]

-- `here` is the local search
module _ (M : Type 0) (charge : Charge M) (s : Snapshot) (x : FindPathCtx) (here : ℕ → Item → Choice) where
  unfoldable pub find_import : Search M → ℕ → Out M → Import → Bool → Out M
  find_import rec left o i true = o
  find_import rec left o i false =
      let r = rec (length_left left o.choice) i.container o.meter in
      record { choice = offer_import s x o.choice r.choice i; meter = r.meter }

  unfoldable pub find_imports : Search M → ℕ → Out M → List Import → Out M
  find_imports rec left o [] = o
  find_imports rec left o (i ∷ is) = find_imports rec left (find_import rec left o i (is_hidden i)) is

  -- `find_in_dep`: the crate's imports of the item that are not hidden, in turn
  unfoldable pub find_in_dep : Search M → ℕ → Item → Out M → Dependency → Out M
  find_in_dep rec left item o d = find_imports rec left o (import_info_for s d.crate item)

  unfoldable pub find_in_deps : Search M → ℕ → Item → Out M → List Dependency → Out M
  find_in_deps rec left item o [] = o
  find_in_deps rec left item o (d ∷ ds) = find_in_deps rec left item (find_in_dep rec left item o d) ds

  -- `find_in_sysroot`: the three languages in turn, until the choice is stable; then every dependency, those of the sysroot first
  unfoldable pub find_in_sysroot : Search M → ℕ → Item → Out M → List ℕ → Bool → Out M
  find_in_sysroot rec left item o [] true = o
  find_in_sysroot rec left item o [] false = find_in_deps rec left item o (sysroot_first s x.from_crate.0)
  find_in_sysroot rec left item o (l ∷ ls) true = o
  find_in_sysroot rec left item o (l ∷ ls) false =
      let r = find_in_deps rec left item o (one_or_none (lang_of s x.from_crate.0 l)) in
      find_in_sysroot rec left item r ls (is_stable r.choice)

  -- after a charge: in the viewer's crate the local search, else the sysroot for a std item, else the dependencies
  unfoldable pub go_on : Search M → ℕ → Item → M → Bool → Bool → Out M
  go_on rec left item t true std = record { choice = here left item; meter = t }
  go_on rec left item t false true = find_in_sysroot rec left item (record { choice = nothing; meter = t }) (langs x.prefer_no_std) false
  go_on rec left item t false false =
      find_in_deps rec left item (record { choice = nothing; meter = t }) (dependencies_of s x.from_crate.0)

  unfoldable pub after_charge : Search M → ℕ → Item → Charged M → Out M
  after_charge rec left item (go t) = go_on rec left item t (is_at s (home_of s item) x.from_crate.0) x.is_std_item
  after_charge rec left item (stop t) = record { choice = nothing; meter = t }

  -- `calculate_best_path`, the only rule that charges
  unfoldable pub calculate_best_path : Search M → ℕ → Item → M → Out M
  calculate_best_path rec left item t = after_charge rec left item (charge left (sought_of x item) t)

  unfoldable pub or_charged : Search M → ℕ → ℕ → M → Choice → Bool → Out M
  or_charged rec left m t c true = record { choice = c; meter = t }
  or_charged rec left m t c false = calculate_best_path rec left (module_item m) t

  -- `find_path_for_module` with maybe_extern = true; length 0 finds no module
  unfoldable pub find_path_for_module : Search M → Search M
  find_path_for_module rec zero m t = record { choice = nothing; meter = t }
  find_path_for_module rec (suc l) m t = or_charged rec (suc l) m t (module_rules s x true m) (module_rules s x true m).found

  unfoldable pub after_enum : Search M → Item → Definition → Out M → Bool → Out M
  after_enum rec item v o true = record { choice = push_variant s o.choice v; meter = o.meter }
  after_enum rec item v o false = calculate_best_path rec x.max_len item o.meter

  -- a variant is its enum's path and its name, else searched like any other item, with the meter that its enum left
  unfoldable pub via_enum : Search M → Inner M → Item → M → Option Definition → Out M
  via_enum rec inner item t None = calculate_best_path rec x.max_len item t
  via_enum rec inner item t (Some v) =
      let o = inner (item_of s types v.first) t in
      after_enum rec item v o o.choice.found

  unfoldable pub or_enum : Search M → Inner M → Item → M → Choice → Bool → Out M
  or_enum rec inner item t c true = record { choice = c; meter = t }
  or_enum rec inner item t c false = via_enum rec inner item t (variant_of s item)

  -- the scope, the prelude, the enum of a variant, and then the charged search
  unfoldable pub by_name : Search M → Inner M → Item → M → Out M
  by_name rec inner item t =
      let c = first_found (scope_rule s x item ∷ prelude_rule s x item ∷ []) in
      or_enum rec inner item t c c.found

  unfoldable pub of_module : Search M → Inner M → ℕ → M → Bool → Out M
  of_module rec inner m t true = by_name rec inner (module_item m) t
  of_module rec inner m t false = rec x.max_len m t

  -- `find_path_inner`: a module goes straight to the module search, unless it is std's
  unfoldable pub find_path_inner : Search M → Inner M → Inner M
  find_path_inner rec inner (Mod m) t = of_module rec inner m.0 t x.is_std_item
  find_path_inner rec inner (Def ns d) t = by_name rec inner (Def ns d) t
