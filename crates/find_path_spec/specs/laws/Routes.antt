-- Every step of a path has its record: how a path starts, which records its names stand in, and where it ends. The route of a report names
-- these very rules and records.
use Rattle.std.specs.Prelude.{◌≡◌, Bool, true, false, ◌||◌, ℕ, suc, ◌-◌, ◌/◌, ◌%◌, ◌≤◌, length, get_or, take}
use mathlib.Core.List.{List, [], ◌∷◌, ◌++◌, Memᴰ}
use Rattle.std.specs.Prelude.{Some}
use Rattle.snapshot.specs.Words.{kind_of}
use Rattle.snapshot.specs.Records.{Snapshot, Dependency, Definition, Scope, Import, Extern}
use Rattle.hir_def.specs.Items.{types, builtin_kind, parent_of, crate_root, definition_of, item_of, home_of, module_item}
use Rattle.module_tree.specs.rules.Visibility.{sees}
use Rattle.hir_def.specs.Nameres.{occupied, extern_of, dependencies_of}
use Rattle.hir_def.specs.ImportMap.{is_hidden, is_unstable}
use Rattle.hir_def.specs.declared.Item.{Item}
use Rattle.find_path_spec.specs.declared.FindPathCtx.{FindPathCtx}
use Rattle.find_path_spec.specs.declared.Query.{Query}
use Rattle.find_path_spec.specs.declared.Report.{Report}
use Rattle.find_path_choice.specs.Choices.{plain_path, self_path, super_path, crate_path, via_builtin, via_scope}
use Rattle.find_path_choice.specs.Choices.{via_prelude, via_extern, via_keyword, via_variant, via_local, via_import, step_by}
use Rattle.find_path_spec.specs.Rules.{by_crate, bit, prefix_path_kind, context_of, may_be_in_scope, find_in_scope, find_in_prelude, extern_kind}
use Rattle.find_path_spec.specs.Local.{importable_name}
use Rattle.find_path_spec.specs.Charged.{is_at, variant_of}

-- the element stands in the list
infix 50 ◌∈◌
abbrev pub ◌∈◌ : {A : Type 0} → A → List A → Type 0
a ∈ xs = Memᴰ a xs

-- the item's home is in the viewer's crate
abbrev pub is_near : Snapshot → FindPathCtx → Item → Bool
is_near s x item = is_at s (home_of s item) x.from_crate.0

-- A path of that kind starts with these names, by this step, and so reaches the item.
pub data Start (s : Snapshot) (x : FindPathCtx) : ℕ → List ℕ → ℕ → Item → Type 0 where
  -- a keyword without names: the viewing module, its parent, the root of its crate; ByCrate takes no other than the last
  self : (x.prefix ≡ by_crate → ⊥) → Start s x self_path [] (step_by via_keyword 0) (module_item x.from.0)
  super : (p : ℕ) → (x.prefix ≡ by_crate → ⊥) → parent_of s x.from.0 ≡ suc p → Start s x super_path [] (step_by via_keyword 0) (module_item p)
  crate : Start s x crate_path [] (step_by via_keyword 0) (module_item x.crate_root.0)
  -- a first name by the scope, where it may be used, by the prelude, or by an extern of the viewer's crate for the root of another
  scope : (item : Item) (e : Scope) → e ∈ s.scopes → may_be_in_scope s x ≡ true → find_in_scope s x item ≡ Some e
      → Start s x (prefix_path_kind x.prefix) (e.name ∷ []) (step_by via_scope e.place) item
  prelude : (item : Item) (e : Scope) → e ∈ s.scopes → find_in_prelude s x item ≡ Some e
      → Start s x plain_path (e.name ∷ []) (step_by via_prelude e.place) item
  extern : (m : ℕ) (e : Extern) → e ∈ s.externs → crate_root s m ≡ m → (m ≡ x.crate_root.0 → ⊥) → extern_of s x.from_crate.0 m ≡ Some e
      → Start s x (extern_kind s x (occupied s x.from.0 m e.name || x.prefer_absolute)) (e.name ∷ [])
      (step_by via_extern e.place) (module_item m)
  -- a builtin is its name
  builtin : (d : ℕ) → definition_of s d ∈ s.definitions → (definition_of s d).kind ≡ builtin_kind
      → Start s x plain_path ((definition_of s d).first ∷ []) (step_by via_builtin (definition_of s d).place) (item_of s types d)

-- A name leads from a module to an item, by this step.
pub data Step (s : Snapshot) (x : FindPathCtx) : ℕ → ℕ → ℕ → Item → Type 0 where
  -- by the scope record of the module that the local search finds for the item, which is of the viewer's crate and visible from the viewing module
  entry : (e : Scope) → e ∈ s.scopes → is_near s x (item_of s e.ns e.definition) ≡ true
      → importable_name s x (item_of s e.ns e.definition) e.owner ≡ Some e → sees s x.from.0 e ≡ true
      → Step s x e.owner e.name (step_by via_local e.place) (item_of s e.ns e.definition)
  -- by an import record of a dependency of the viewer's crate, for an item of another crate, in the module; it is not hidden, and is
  -- stable unless the question allows others
  imported : (d : Dependency) (i : Import) → d ∈ dependencies_of s x.from_crate.0 → i ∈ s.imports → i.owner ≡ d.crate
      → is_near s x (item_of s i.ns i.definition) ≡ false → is_hidden i ≡ false → (is_unstable i ≡ true → x.allow_unstable ≡ true)
      → Step s x i.container i.name (step_by via_import i.place) (item_of s i.ns i.definition)

-- A path of that kind with these names, by these steps, reaches the item: its start, and then each name leads on from the module reached so far.
pub data Route (s : Snapshot) (x : FindPathCtx) : ℕ → List ℕ → List ℕ → Item → Type 0 where
  start : {k t : ℕ} {ns : List ℕ} {item : Item} → Start s x k ns t item → Route s x k ns (t ∷ []) item
  step : {k m n t : ℕ} {ns ts : List ℕ} {item : Item} → Route s x k ns ts (module_item m) → Step s x m n t item
      → Route s x k (ns ++ (n ∷ [])) (ts ++ (t ∷ [])) item

-- A path is a route of as many names at most as the question's limit, or one to the enum of a variant and the variant's own name.
pub data Path (s : Snapshot) (x : FindPathCtx) : ℕ → List ℕ → List ℕ → Item → Type 0 where
  direct : {k : ℕ} {ns ts : List ℕ} {item : Item} → Route s x k ns ts item → length ns ≤ x.max_len → Path s x k ns ts item
  variant : {k : ℕ} {ns ts : List ℕ} {item : Item} (v : Definition) → v ∈ s.definitions → variant_of s item ≡ Some v
      → Route s x k ns ts (item_of s types v.first) → length ns ≤ x.max_len
      → Path s x k (ns ++ (v.second ∷ [])) (ts ++ (step_by via_variant v.place ∷ [])) item

-- the kinds of the records that the rules use
abbrev pub rule_kind : ℕ → ℕ
rule_kind rule = get_or (8 ∷ 9 ∷ 9 ∷ 11 ∷ 0 ∷ 8 ∷ 9 ∷ 10 ∷ []) rule 0

-- the rule of a step, and the place of its record

abbrev pub rule_of : ℕ → ℕ
rule_of t = t % 8

abbrev pub place_of : ℕ → ℕ
place_of t = t / 8

-- A keyword's step has place 0; at the place of any other the words have the head of a record that its rule uses.
pub record Shown (W : List ℕ) (t : ℕ) : Type 0 where
  pub keyword : rule_of t ≡ via_keyword → place_of t ≡ 0
  pub head : (rule_of t ≡ via_keyword → ⊥) → kind_of (get_or W (place_of t) 0) ≡ rule_kind (rule_of t)

-- the item of a question
abbrev pub asked_item : Snapshot → Query → Item
asked_item s q = item_of s q.ns q.definition.0

-- what is set for a question, by its item's home
abbrev pub asked_context : Snapshot → Query → FindPathCtx
asked_context s q = context_of s q (home_of s (asked_item s q) - 1)

-- the names of a report
abbrev pub path_names : Report → List ℕ
path_names r = take r.count r.names

-- its steps
abbrev pub route_steps : Report → List ℕ
route_steps r = take r.steps r.route

-- What a report that found a path says of the snapshot.
pub record Routed (s : Snapshot) (q : Query) (r : Report) : Type 0 where
  -- its kind and names lead from the viewing module to the item, by the steps of its route
  pub path : Path s (asked_context s q) r.kind (path_names r) (route_steps r) (asked_item s q)
  -- its names are as many as it counts
  pub count : length (path_names r) ≡ r.count
  -- and its steps
  pub steps : length (route_steps r) ≡ r.steps
  -- unstable imports are allowed by bit 8 of the options
  pub unstable : (asked_context s q).allow_unstable ≡ bit q.options 8
  -- its names are bounded by the question's limit
  pub limit : (asked_context s q).max_len ≡ q.limit
