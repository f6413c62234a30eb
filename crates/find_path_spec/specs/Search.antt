-- The searches: each rule over itself. The length left falls at each step, so it serves as the depth; proofs/Unfold.antt
-- shows that the depth plays no part.
use Rattle.std.specs.Prelude.{ℕ, zero, suc, Bool, true, false, ◌&&◌, [], ◌==◌}
use Rattle.snapshot.specs.Records.{Snapshot, Definition}
use Rattle.hir_def.specs.Items.{types, builtin_kind, definition_of, item_of, home_of}
use Rattle.hir_def.specs.declared.Item.{Item}
use Rattle.find_path_choice.specs.Choices.{Choice}
use Rattle.find_path_spec.specs.declared.FindPathCtx.{FindPathCtx}
use Rattle.find_path_spec.specs.declared.Query.{Query}
use Rattle.find_path_choice.specs.Choices.{plain_path, via_builtin, step_by, nothing, choice_new}
use Rattle.find_path_spec.specs.Rules.{context_of}
use Rattle.find_path_spec.specs.Local.{LocalSearch, calculate_best_path_local, find_path_for_module_local}
use Rattle.find_path_spec.specs.Meters.{Charge}
use Rattle.find_path_spec.specs.Charged.{Out, Search, find_path_for_module, find_path_inner}

-- the question is for a builtin, in types
abbrev pub is_builtin_type : Snapshot → Query → Bool
is_builtin_type s q = q.ns == types && (definition_of s q.definition.0).kind == builtin_kind

-- the name of a builtin
unfoldable pub builtin_choice : Snapshot → Definition → Choice
builtin_choice s d = choice_new s plain_path d.first (step_by via_builtin d.place)

module _ (s : Snapshot) (x : FindPathCtx) where
  unfoldable pub local_to : ℕ → LocalSearch
  local_to zero left ls m = nothing
  local_to (suc d) left ls m = find_path_for_module_local s x (local_to d) left ls m

  -- the module search without externs
  unfoldable pub search_local : LocalSearch
  search_local left ls m = local_to left left ls m

  -- the local search that a charged one makes: nothing is visited yet
  unfoldable pub best_local : ℕ → Item → Choice
  best_local left item = calculate_best_path_local s x search_local left [] item

module _ (M : Type 0) (charge : Charge M) (s : Snapshot) where
  module _ (x : FindPathCtx) where
    unfoldable pub module_to : ℕ → Search M
    module_to zero left m t = record { choice = nothing; meter = t }
    module_to (suc d) left m t = find_path_for_module M charge s x (best_local s x) (module_to d) left m t

    -- the module search
    unfoldable pub search_module : Search M
    search_module left m t = module_to left left m t

    -- The enum of a variant is no variant, so the rule is applied twice at most.
    unfoldable pub item_to : ℕ → Item → M → Out M
    item_to zero item t = record { choice = nothing; meter = t }
    item_to (suc d) item t = find_path_inner M charge s x (best_local s x) search_module (item_to d) item t

    -- the item search
    unfoldable pub search_item : Item → M → Out M
    search_item item t = item_to 2 item t

  -- an item without a home has no path
  unfoldable pub from_home : Query → Item → M → ℕ → Out M
  from_home q item t zero = record { choice = nothing; meter = t }
  from_home q item t (suc home) = search_item (context_of s q home) item t

  -- a builtin in types is its name
  unfoldable pub from_item : Query → M → Bool → Out M
  from_item q t true = record { choice = builtin_choice s (definition_of s q.definition.0); meter = t }
  from_item q t false =
      let item = item_of s q.ns q.definition.0 in
      from_home q item t (home_of s item)

  -- `find_path`
  unfoldable pub find_path : Query → M → Out M
  find_path q t = from_item q t (is_builtin_type s q)
