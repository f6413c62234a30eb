-- The rules that answer without a search, and what is set for a question.
use Rattle.std.specs.Prelude.{ℕ, zero, suc, ◌+◌, ◌/◌, ◌%◌, Bool, true, false, not, ◌&&◌, ◌||◌, List, [], ◌∷◌, ◌==◌, slice_index_or}
use Rattle.std.specs.Prelude.{Option, None, Some}
use Rattle.snapshot.specs.Records.{Snapshot, Scope, Prelude, Extern}
use Rattle.hir_def.specs.Items.{map_no, map_of, crate_of, crate_data, parent_of, in_block, root_of, crate_root, is_lang, item_of, same_item, ns_of}
use Rattle.hir_def.specs.Items.{module_item}
use Rattle.module_tree.specs.rules.Visibility.{sees}
use Rattle.hir_def.specs.ItemScope.{name_of, preferred}
use Rattle.hir_def.specs.Nameres.{scope_entry, entry_named, occupied, prelude_of, extern_of}
use Rattle.hir_def.specs.declared.Item.{Item}
use Rattle.hir_def.specs.declared.Item.TheVariants.{Mod, Def}
use Rattle.find_path_choice.specs.Choices.{Choice}
use Rattle.find_path_spec.specs.declared.FindPathCtx.{FindPathCtx}
use Rattle.find_path_spec.specs.declared.Query.{Query}
use Rattle.find_path_choice.specs.Choices.{plain_path, self_path, super_path, crate_path, absolute_path, via_scope, via_prelude, via_extern, step_by}
use Rattle.find_path_choice.specs.Choices.{nothing}
use Rattle.find_path_choice.specs.Choices.{keyword, choice_new}

-- the prefixes: 0 BySelf, 1 Plain, 2 ByCrate

abbrev pub by_self : ℕ
by_self = 0

abbrev pub plain : ℕ
plain = 1

abbrev pub by_crate : ℕ
by_crate = 2

-- `PrefixKind::path_kind`
unfoldable pub prefix_path_kind : ℕ → ℕ
prefix_path_kind p = slice_index_or (self_path ∷ plain_path ∷ crate_path ∷ []) p plain_path

-- the bit of that value
abbrev pub bit : ℕ → ℕ → Bool
bit n value = n / value % 2 == 1

unfoldable pub plain_if : Bool → ℕ → ℕ
plain_if true p = plain
plain_if false p = p

-- the module that an item is, +1, or 0 where it is none
unfoldable pub module_in : Item → ℕ
module_in (Mod m) = m.0 + 1
module_in (Def ns d) = 0

-- What `find_path` sets: Plain where the item's home is in a block; `prefer_no_std` by the option, the viewer's map or its crate.
unfoldable pub context_of : Snapshot → Query → ℕ → FindPathCtx
context_of s q home =
    record {
      prefix = plain_if (in_block s home) q.prefix;
      prefer_no_std =
          bit q.options 1
          || ((map_of s (map_no s q.from.0)).no_std == 1 || (crate_data s (crate_of s q.from.0)).no_std == 1);
      prefer_prelude = bit q.options 2;
      prefer_absolute = bit q.options 4;
      allow_unstable = bit q.options 8;
      ignore_local_imports = bit q.options 16;
      fresh = bit q.options 32;
      is_std_item = is_lang s (crate_of s home);
      from = q.from;
      from_crate = record { 0 = crate_of s q.from.0 };
      crate_root = record { 0 = crate_root s q.from.0 };
      own = module_in (item_of s q.ns q.definition.0);
      max_len = q.limit;
    }

-- what a charge looks for: a module, +1, or 0 for the question's own item or its enum, which is no module
unfoldable pub sought_of : FindPathCtx → Item → ℕ
sought_of x item = elim (module_in item == x.own) [ true ↦ 0 | false ↦ module_in item ]

-- the first of the choices that is one
unfoldable pub first_found : List Choice → Choice
first_found [] = nothing
first_found (c ∷ cs) = elim c.found [ true ↦ c | false ↦ first_found cs ]

module _ (s : Snapshot) (x : FindPathCtx) where
  -- the single name of an entry, by a rule, or nothing
  unfoldable pub single : ℕ → ℕ → Option Scope → Choice
  single kind rule None = nothing
  single kind rule (Some e) = choice_new s kind e.name (step_by rule e.place)

  -- `find_in_scope`: the item's entry in the viewing module, or around its blocks; imports only where they count, old names last by bit 32
  unfoldable pub find_in_scope : Item → Option Scope
  find_in_scope item = scope_entry s x.from.0 item x.ignore_local_imports x.fresh

  -- `may_be_in_scope`: under ByCrate only the crate's root uses its scope
  unfoldable pub may_be_in_scope : Bool
  may_be_in_scope = not (x.prefix == by_crate) || x.crate_root.0 == x.from.0

  unfoldable pub scope_rule : Item → Choice
  scope_rule item =
      elim may_be_in_scope [ true ↦ single (prefix_path_kind x.prefix) via_scope (find_in_scope item) | false ↦ nothing ]

  -- the name means the item here, or nothing
  unfoldable pub same_here : Item → Option Scope → Bool
  same_here item None = true
  same_here item (Some e) = same_item (item_of s e.ns e.definition) item

  -- the tests of the prelude rule: visible, and its name is not another thing's here
  abbrev pub is_usable : Item → Scope → Bool
  is_usable item e = sees s x.from.0 e && same_here item (entry_named s x.from.0 (ns_of item) e.name)

  unfoldable pub prelude_entry : Item → Option Scope → Option Scope
  prelude_entry item None = None
  prelude_entry item (Some e) = elim (is_usable item e) [ true ↦ Some e | false ↦ None ]

  unfoldable pub in_prelude : Item → Option Prelude → Option Scope
  in_prelude item None = None
  in_prelude item (Some p) = prelude_entry item (preferred x.fresh s p.target item (is_usable item) (name_of s p.target item))

  -- `find_in_prelude`: the item's first entry in the prelude, if visible and not another thing's name here; by bit 32 the first such
  -- entry that isn't deprecated, if there is one
  unfoldable pub find_in_prelude : Item → Option Scope
  find_in_prelude item = in_prelude item (prelude_of s (map_no s x.from.0))

  unfoldable pub prelude_rule : Item → Choice
  prelude_rule item = single plain_path via_prelude (find_in_prelude item)

  unfoldable pub extern_kind : Bool → ℕ
  extern_kind true = absolute_path
  extern_kind false = plain_path

  unfoldable pub extern_name : ℕ → Option Extern → Choice
  extern_name m None = nothing
  extern_name m (Some e) = choice_new s (extern_kind (occupied s x.from.0 m e.name || x.prefer_absolute)) e.name
      (step_by via_extern e.place)

  -- a crate's root is `crate`, in the viewer's crate or where no extern may be used; else its extern name
  unfoldable pub root_rule : Bool → ℕ → Choice
  root_rule maybe_extern m =
      elim (crate_root s m == m) [
        | true ↦ elim (not maybe_extern || m == x.crate_root.0) [
          | true ↦ keyword crate_path
          | false ↦ extern_name m
              (extern_of s x.from_crate.0 m)
        ]
        | false ↦ nothing
      ]

  -- the module is the parent of the viewer's
  unfoldable pub parent_kind : ℕ → ℕ → Option ℕ
  parent_kind m zero = None
  parent_kind m (suc p) =
      elim (m == p) [
        | true ↦ elim (p == root_of s (map_no s x.from.0)) [ true ↦ Some crate_path | false ↦ Some super_path ]
        | false ↦ None
      ]

  -- `is_kw_kind_relative_to_from`: the viewer's own module, or its parent, where neither is in a block
  unfoldable pub is_kw_kind_relative_to_from : ℕ → Option ℕ
  is_kw_kind_relative_to_from m =
      elim (not (crate_of s m == crate_of s x.from.0) || (in_block s m || in_block s x.from.0)) [
        | true ↦ None
        | false ↦ elim (m == x.from.0) [ true ↦ Some self_path | false ↦ parent_kind m (parent_of s x.from.0) ]
      ]

  -- ByCrate takes no keyword but `crate`
  unfoldable pub keyword_of : Option ℕ → Choice
  keyword_of None = nothing
  keyword_of (Some k) = elim (not (x.prefix == by_crate) || k == crate_path) [ true ↦ keyword k | false ↦ nothing ]

  -- `find_path_for_module` before its search: root, extern, scope, keyword, prelude, in this order
  unfoldable pub module_rules : Bool → ℕ → Choice
  module_rules maybe_extern m =
      first_found (root_rule maybe_extern m ∷ scope_rule (module_item m) ∷ keyword_of (is_kw_kind_relative_to_from m) ∷ prelude_rule
      (module_item m) ∷ [])
