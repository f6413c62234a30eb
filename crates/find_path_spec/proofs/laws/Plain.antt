-- Where options bit 32 is clear, 2 and 3 in the declared field act as 0 and 1 in the whole search: it gives the report that it gives on
-- the snapshot that has 0 and 1 in their place.
use mathlib.Core.Path.{◌≡◌, refl, ap, ap₂, sym, ◌∙◌}
use Prim.Native.Nat.{ℕ, zero, suc, ◌+◌, ◌%◌}
use native.Mathlib.Omega.{arith}
use mathlib.Core.List.{List, [], ◌∷◌, ◌++◌, map}
use mathlib.Core.Bool.{Bool, true, false, ◌&&◌, ◌||◌, not}
use Rattle.std.specs.Prelude.{Option, None, Some}
use lib.Dec.{eqb}
use lib.ListN.{length, take, length-map}
use Rattle.snapshot.specs.Lists.{any}
use Rattle.snapshot.specs.Records.{Snapshot, Scope, Dependency, Prelude, Definition, Import, Extern, Member}
use Rattle.check_rules.specs.Verdict.{accept, verdict}
use Rattle.hir_def.specs.Finds.{or_first, select, first_some}
use Rattle.hir_def.specs.Items.{types, module_of, map_of, map_no, crate_of, crate_data, parent_of, root_of, own_map, crate_root, in_block, containing}
use Rattle.hir_def.specs.Items.{definition_of, item_of, ns_of, home_by, home_of, module_item}
use Rattle.module_tree.specs.rules.Visibility.{climb_step, climb, in_module, is_visible_from, sees}
use Rattle.hir_def.specs.ItemScope.{name_of, preferred, get, is_module_entry, modules_in_scope, entry_module}
use Rattle.hir_def.specs.Nameres.{ancestor_maps, scope_entry, entry_named, is_other, occupied, containers, children_of, prelude_of, extern_of}
use Rattle.hir_def.specs.Nameres.{dependencies_of, lang_of, sysroot_first}
use Rattle.hir_def.specs.ImportMap.{import_info_for, is_hidden}
use Rattle.hir_def.specs.declared.Item.{Item}
use Rattle.hir_def.specs.declared.Item.TheVariants.{Mod, Def}
use Rattle.read_back.specs.readings.Reads as Reads
use Rattle.read_back.specs.readings.Reads.{self_kind, super_kind, crate_kind, absolute_kind, outward, scopes_from, stands_for, meaning, entry_or}
use Rattle.read_back.specs.readings.Reads.{extern_named, in_externs, prelude_means, in_prelude_of, entry_from, first_name, variant_named}
use Rattle.read_back.specs.readings.Reads.{variant_in, later_name, after, looked_in, follow, absolutely, parent_means, reads_to, is_the, reads_back}
use Rattle.hir_def.proofs.Plain.{plain, plainly, plain_of, first_plain, name_plain, names_plain}
use Rattle.find_path_choice.specs.Choices.{Choice}
use Rattle.find_path_spec.specs.declared.FindPathCtx.{FindPathCtx}
use Rattle.find_path_spec.specs.declared.Query.{Query}
use Rattle.find_path_spec.specs.declared.Question.{Question}
use Rattle.find_path_spec.specs.declared.Tank.{Tank}
use Rattle.find_path_choice.specs.Choices.{plain_path, self_path, crate_path, via_scope, via_prelude, via_extern, step_by, nothing}
use Rattle.find_path_choice.specs.Choices.{keyword, name_data, is_prelude, choice_new, extended, push, better, try_select}
use Rattle.find_path_spec.specs.Walk.{Level, visited, start_from, leads_to, walk, find_local_import_locations}
use Rattle.find_path_spec.specs.Rules.{bit, prefix_path_kind, context_of, first_found, single, find_in_scope, may_be_in_scope, scope_rule, same_here}
use Rattle.find_path_spec.specs.Rules.{is_usable}
use Rattle.find_path_spec.specs.Rules.{prelude_entry, in_prelude, find_in_prelude, prelude_rule, extern_kind, extern_name, root_rule, parent_kind}
use Rattle.find_path_spec.specs.Rules.{is_kw_kind_relative_to_from, keyword_of, module_rules}
use Rattle.find_path_spec.specs.Meters.{Charged, go, stop, Charge}
use Rattle.find_path_spec.specs.Charged.{Out, Search, Inner, is_stable, langs, one_or_none, is_at, variant_of, push_variant}
use Rattle.find_path_spec.specs.Charged.{offer_import, find_import, find_imports, find_in_dep, find_in_deps, find_in_sysroot}
use Rattle.find_path_spec.specs.Charged.{go_on, after_charge, calculate_best_path, or_charged, find_path_for_module}
use Rattle.find_path_spec.specs.Charged.{after_enum, via_enum, or_enum, by_name, of_module, find_path_inner}
use Rattle.find_path_spec.specs.Search.{is_builtin_type, builtin_choice, local_to, search_local, best_local, module_to, search_module, item_to}
use Rattle.find_path_spec.specs.Search.{search_item}
use Rattle.find_path_spec.specs.Search.{from_home, from_item, find_path}
use Rattle.find_path_spec.specs.Report.{question_fault, flag, misleads, outcome_by, reported}
use Rattle.find_path_spec.specs.Report.{searched, answer_unless, report_by, report_unless, report_of}
use Rattle.find_path_spec.specs.Local.{LocalSearch, offer, offer_entry, is_importable, entry_if, importable_name, location, each_location}
use Rattle.find_path_spec.specs.Local.{calculate_best_path_local, or_local, find_path_for_module_local}

some_step : (o r r' : Option Scope) → r' ≡ plain_of r → elim (plain_of o) [ Some y ↦ Some y | None ↦ r' ]
    ≡ plain_of (elim o [ Some y ↦ Some y | None ↦ r ])
some_step None r r' h = h
some_step (Some e) r r' h = refl

some_plain : (f g : ℕ → Option Scope) → ((a : ℕ) → g a ≡ plain_of (f a)) → (ms : List ℕ) → first_some g ms ≡ plain_of (first_some f ms)
unfolding first_some
some_plain f g h [] = refl
some_plain f g h (a ∷ ms) =
    ap (λ (o : Option Scope). elim o [ Some y ↦ Some y | None ↦ first_some g ms ]) (h a) ∙ some_step (f a) _ _ (some_plain f g h ms)

-- a test that does not tell an entry from its plain form selects the same ones
module _ (p q : Scope → Bool) (h : (e : Scope) → q (plain e) ≡ p e) where
  select_step : (e : Scope) (ys xs : List Scope) (b : Bool) → ys ≡ map plain xs
      → elim b [ true ↦ plain e ∷ ys | false ↦ ys ] ≡ map plain (elim b [ true ↦ e ∷ xs | false ↦ xs ])
  select_step e ys xs true r = ap (λ (zs : List Scope). plain e ∷ zs) r
  select_step e ys xs false r = r

  select_plain : (xs : List Scope) → select q (map plain xs) ≡ map plain (select p xs)
  unfolding select
  select_plain [] = refl
  select_plain (e ∷ xs) =
      ap (λ (b : Bool). elim b [ true ↦ plain e ∷ select q (map plain xs) | false ↦ select q (map plain xs) ]) (h e)
      ∙ select_step e _ _ (p e) (select_plain xs)

map_plain : (f g : Scope → ℕ) → ((e : Scope) → g (plain e) ≡ f e) → (xs : List Scope) → map g (map plain xs) ≡ map f xs
map_plain f g h [] = refl
map_plain f g h (e ∷ xs) = ap₂ (λ (n : ℕ) (ns : List ℕ). n ∷ ns) (h e) (map_plain f g h xs)

-- the lookups
module _ (s : Snapshot) where
  visible_plain : (k n v : ℕ) → is_visible_from (plainly s) k n v ≡ is_visible_from s k n v
  unfolding is_visible_from in_module climb climb_step containing module_of map_of
  visible_plain zero n v = refl
  visible_plain (suc zero) n v = refl
  visible_plain (suc (suc k)) n v = refl

  get_plain : (m ns name : ℕ) → get (plainly s) m ns name ≡ plain_of (get s m ns name)
  unfolding get
  get_plain m ns name = first_plain _ _ (λ e. refl) s.scopes

  scope_plain : (m : ℕ) (item : Item) (b : Bool) → scope_entry (plainly s) m item b false ≡ plain_of (scope_entry s m item b false)
  unfolding scope_entry preferred ancestor_maps module_of map_of
  scope_plain m item b = some_plain _ _ (λ a. names_plain s a item b) (ancestor_maps s m)

  named_plain : (m ns name : ℕ) → entry_named (plainly s) m ns name ≡ plain_of (entry_named s m ns name)
  unfolding entry_named ancestor_maps module_of map_of
  named_plain m ns name = some_plain _ _ (λ a. get_plain a ns name) (ancestor_maps s m)

  other_plain : (m : ℕ) (o : Option Scope) → is_other (plainly s) m (plain_of o) ≡ is_other s m o
  unfolding is_other item_of definition_of
  other_plain m None = refl
  other_plain m (Some e) = refl

  occupied_plain : (from m name : ℕ) → occupied (plainly s) from m name ≡ occupied s from m name
  unfolding occupied ancestor_maps module_of map_of
  occupied_plain from m name =
      λ i. any (λ a. (ap (is_other (plainly s) m) (get_plain a types name) ∙ other_plain m (get s a types name)) i) (ancestor_maps s from)

  module_entry_plain : (m : ℕ) (e : Scope) → is_module_entry (plainly s) m (plain e) ≡ is_module_entry s m e
  unfolding definition_of
  module_entry_plain m e = refl

  near_plain : (from : ℕ) (e : Scope)
      → (eqb (crate_of (plainly s) (entry_module (plainly s) (plain e))) (crate_of (plainly s) from) && sees (plainly s) from (plain e))
      ≡ (eqb (crate_of s (entry_module s e)) (crate_of s from) && sees s from e)
  unfolding definition_of module_of map_of
  near_plain from e =
      ap (λ (b : Bool). eqb (crate_of s (entry_module s e)) (crate_of s from) && b) (visible_plain e.visibility e.number from)

  leads_plain : (from m : ℕ) → leads_to (plainly s) from m ≡ leads_to s from m
  unfolding leads_to modules_in_scope definition_of
  leads_plain from m =
      ap (λ (es : List Scope). map (entry_module (plainly s))
      (select (λ e. eqb (crate_of (plainly s) (entry_module (plainly s) e)) (crate_of (plainly s) from) && sees (plainly s) from e) es))
      (select_plain _ _ (module_entry_plain m) s.scopes)
      ∙ ap (map (entry_module (plainly s))) (select_plain _ _ (near_plain from) (modules_in_scope s m))
      ∙ map_plain (entry_module s) (entry_module (plainly s)) (λ e. refl)
      (select (λ e. eqb (crate_of s (entry_module s e)) (crate_of s from) && sees s from e) (modules_in_scope s m))

  locations_plain : (from : ℕ) (seen : ℕ → Bool) → find_local_import_locations (plainly s) from seen ≡ find_local_import_locations s from seen
  unfolding find_local_import_locations start_from children_of containers containing module_of map_of
  locations_plain from seen =
      let n : length (map plain s.scopes) ≡ length s.scopes = rw length-map in
      λ i. walk (λ m. leads_plain from m i) seen (length (start_from s from) + n i) [] (start_from s from)

-- the reading of a path, which looks at no declared field
module _ (s : Snapshot) (from : ℕ) where
  meaning_plain : (e : Scope) → meaning (plainly s) from (plain e) ≡ meaning s from e
  unfolding meaning item_of definition_of
  meaning_plain e =
      ap (λ (b : Bool). elim b [ true ↦ Some (item_of s e.ns e.definition) | false ↦ None ]) (visible_plain s e.visibility e.number from)

  entry_means_plain : (other : Option Item) (o : Option Scope) → entry_or (plainly s) from other (plain_of o) ≡ entry_or s from other o
  unfolding entry_or
  entry_means_plain other None = refl
  entry_means_plain other (Some e) = meaning_plain e

  -- an entry by its name
  got_plain : (other : Option Item) (m ns name : ℕ) → entry_or (plainly s) from other (get (plainly s) m ns name)
      ≡ entry_or s from other (get s m ns name)
  got_plain other m ns name = ap (entry_or (plainly s) from other) (get_plain s m ns name) ∙ entry_means_plain other (get s m ns name)

  prelude_means_plain : (ns name : ℕ) (p : Option Prelude) → prelude_means (plainly s) from ns name p ≡ prelude_means s from ns name p
  unfolding prelude_means
  prelude_means_plain ns name None = refl
  prelude_means_plain ns name (Some p) = got_plain None p.target ns name

  first_name_plain : (ns name : ℕ) → first_name (plainly s) from ns name ≡ first_name s from ns name
  unfolding first_name entry_from in_externs extern_named in_prelude_of prelude_of scopes_from outward module_of map_of
  first_name_plain ns name =
      ap₂ (entry_or (plainly s) from) (ap (or_first (in_externs s from ns name)) (prelude_means_plain ns name (prelude_of s (map_no s from))))
      (some_plain _ _ (λ m. get_plain s m ns name) (scopes_from s from))
      ∙ entry_means_plain _ _

  variant_in_plain : (ns : ℕ) (o : Option Member) → variant_in (plainly s) ns o ≡ variant_in s ns o
  unfolding variant_in item_of definition_of
  variant_in_plain ns None = refl
  variant_in_plain ns (Some x) = refl

  later_plain : (ns name : ℕ) (x : Item) → later_name (plainly s) from ns name x ≡ later_name s from ns name x
  unfolding later_name variant_named
  later_plain ns name (Mod m) = got_plain None m.0 ns name
  later_plain ns name (Def k d) = variant_in_plain ns (variant_named s d.0 name)

  reached_plain : (ns name : ℕ) (here : Option Item) → after here (later_name (plainly s) from ns name) ≡ after here (later_name s from ns name)
  unfolding after
  reached_plain ns name None = refl
  reached_plain ns name (Some x) = later_plain ns name x

  follow_plain : (ns : ℕ) (here : Option Item) (names : List ℕ) → follow (plainly s) from ns here names ≡ follow s from ns here names
  unfolding follow
  follow_plain ns here [] = refl
  follow_plain ns here (n ∷ more) =
      ap (λ (x : Option Item). follow (plainly s) from ns x more) (reached_plain (looked_in ns more) n here)
      ∙ follow_plain ns (after here (later_name s from (looked_in ns more) n)) more

  plainly_plain : (ns : ℕ) (names : List ℕ) → Reads.plainly (plainly s) from ns names ≡ Reads.plainly s from ns names
  unfolding Reads.plainly
  plainly_plain ns [] = refl
  plainly_plain ns (n ∷ more) =
      ap (λ (x : Option Item). follow (plainly s) from ns x more) (first_name_plain (looked_in ns more) n) ∙ follow_plain ns _ more

  absolutely_plain : (ns : ℕ) (names : List ℕ) → absolutely (plainly s) from ns names ≡ absolutely s from ns names
  unfolding absolutely in_externs extern_named module_of map_of
  absolutely_plain ns [] = refl
  absolutely_plain ns (n ∷ more) = follow_plain ns _ more

  parent_means_plain : (p : ℕ) → parent_means (plainly s) p ≡ parent_means s p
  unfolding parent_means stands_for outward module_of map_of
  parent_means_plain zero = refl
  parent_means_plain (suc p) = refl

  reads_plain : (ns kind : ℕ) (names : List ℕ) → reads_to (plainly s) from ns kind names ≡ reads_to s from ns kind names
  unfolding reads_to stands_for outward crate_root root_of own_map module_of map_of
  reads_plain ns kind names =
      λ i.
      elim (eqb kind self_kind) [
        | true ↦ follow_plain ns (Some (module_item (stands_for s from))) names i
        | false ↦ elim (eqb kind super_kind) [
          | true ↦ (ap (λ (x : Option Item). follow (plainly s) from ns x names) (parent_means_plain (parent_of s (stands_for s from)))
              ∙ follow_plain ns _ names) i
          | false ↦ elim (eqb kind crate_kind) [
            | true ↦ follow_plain ns (Some (module_item (crate_root s from))) names i
            | false ↦ elim (eqb kind absolute_kind) [ true ↦ absolutely_plain ns names i | false ↦ plainly_plain ns names i ]
          ]
        ]
      ]

  reads_back_plain : (item : Item) (kind : ℕ) (names : List ℕ) → reads_back (plainly s) from item kind names ≡ reads_back s from item kind names
  unfolding reads_back
  reads_back_plain item kind names = ap (is_the item) (reads_plain (ns_of item) kind names)

-- the rules, where bit 32 is clear
module _ (s : Snapshot) (x : FindPathCtx) (clear : x.fresh ≡ false) where
  single_plain : (kind rule : ℕ) (o : Option Scope) → single (plainly s) x kind rule (plain_of o) ≡ single s x kind rule o
  unfolding single choice_new is_prelude name_data
  single_plain kind rule None = refl
  single_plain kind rule (Some e) = refl

  find_plain : (item : Item) → find_in_scope (plainly s) x item ≡ plain_of (find_in_scope s x item)
  unfolding find_in_scope
  find_plain item =
      ap (scope_entry (plainly s) x.from.0 item x.ignore_local_imports) clear
      ∙ scope_plain s x.from.0 item x.ignore_local_imports
      ∙ ap (λ (b : Bool). plain_of (scope_entry s x.from.0 item x.ignore_local_imports b)) (sym clear)

  by_scope_plain : (item : Item) → scope_rule (plainly s) x item ≡ scope_rule s x item
  unfolding scope_rule may_be_in_scope
  by_scope_plain item = λ i. elim (may_be_in_scope s x) [
    | true ↦ (ap (single (plainly s) x (prefix_path_kind x.prefix) via_scope) (find_plain item) ∙ single_plain _ via_scope (find_in_scope s x item)) i
    | false ↦ nothing
  ]

  here_plain : (item : Item) (o : Option Scope) → same_here (plainly s) x item (plain_of o) ≡ same_here s x item o
  unfolding same_here item_of definition_of
  here_plain item None = refl
  here_plain item (Some e) = refl

  usable_plain : (item : Item) (e : Scope) → is_usable (plainly s) x item (plain e) ≡ is_usable s x item e
  usable_plain item e =
      ap₂ (λ (a b : Bool). a && b) (visible_plain s e.visibility e.number x.from.0)
      (ap (same_here (plainly s) x item) (named_plain s x.from.0 (ns_of item) e.name)
      ∙ here_plain item (entry_named s x.from.0 (ns_of item) e.name))

  if_plain : (e : Scope) (b : Bool) → ◌≡◌ {A = Option Scope} (elim b [ true ↦ Some (plain e) | false ↦ None ])
      (plain_of (elim b [ true ↦ Some e | false ↦ None ]))
  if_plain e true = refl
  if_plain e false = refl

  entry_plain : (item : Item) (o : Option Scope) → prelude_entry (plainly s) x item (plain_of o) ≡ plain_of (prelude_entry s x item o)
  unfolding prelude_entry
  entry_plain item None = refl
  entry_plain item (Some e) =
      ap (λ (b : Bool). elim b [ true ↦ Some (plain e) | false ↦ None ]) (usable_plain item e) ∙ if_plain e (is_usable s x item e)

  -- without the bit the entry is the first one
  first_of : (t : Snapshot) (m : ℕ) (item : Item) (p : Scope → Bool) → preferred x.fresh t m item p (name_of t m item) ≡ name_of t m item
  unfolding preferred
  first_of t m item p = ap (λ (b : Bool). preferred b t m item p (name_of t m item)) clear

  preferred_plain : (m : ℕ) (item : Item) (p q : Scope → Bool)
      → preferred x.fresh (plainly s) m item q (name_of (plainly s) m item) ≡ plain_of (preferred x.fresh s m item p (name_of s m item))
  preferred_plain m item p q = first_of (plainly s) m item q ∙ name_plain s m item ∙ ap plain_of (sym (first_of s m item p))

  in_prelude_plain : (item : Item) (p : Option Prelude) → in_prelude (plainly s) x item p ≡ plain_of (in_prelude s x item p)
  unfolding in_prelude
  in_prelude_plain item None = refl
  in_prelude_plain item (Some p) =
      ap (prelude_entry (plainly s) x item) (preferred_plain p.target item (is_usable s x item) (is_usable (plainly s) x item))
      ∙ entry_plain item (preferred x.fresh s p.target item (is_usable s x item) (name_of s p.target item))

  by_prelude_plain : (item : Item) → prelude_rule (plainly s) x item ≡ prelude_rule s x item
  unfolding prelude_rule find_in_prelude prelude_of module_of
  by_prelude_plain item =
      ap (single (plainly s) x plain_path via_prelude) (in_prelude_plain item (prelude_of s (map_no s x.from.0)))
      ∙ single_plain plain_path via_prelude (in_prelude s x item (prelude_of s (map_no s x.from.0)))

  kind_plain : (b : Bool) → extern_kind (plainly s) x b ≡ extern_kind s x b
  unfolding extern_kind
  kind_plain true = refl
  kind_plain false = refl

  extern_plain : (m : ℕ) (o : Option Extern) → extern_name (plainly s) x m o ≡ extern_name s x m o
  unfolding extern_name choice_new is_prelude name_data
  extern_plain m None = refl
  extern_plain m (Some e) =
      ap (λ (k : ℕ). choice_new s k e.name (step_by via_extern e.place))
      (ap (λ (b : Bool). extern_kind (plainly s) x (b || x.prefer_absolute)) (occupied_plain s x.from.0 m e.name)
      ∙ kind_plain (occupied s x.from.0 m e.name || x.prefer_absolute))

  root_plain : (b : Bool) (m : ℕ) → root_rule (plainly s) x b m ≡ root_rule s x b m
  unfolding root_rule crate_root root_of own_map module_of map_of extern_of
  root_plain b m = λ i. elim (eqb (crate_root s m) m) [
    | true ↦ elim (not b || eqb m x.crate_root.0) [ true ↦ keyword crate_path | false ↦ extern_plain m (extern_of s x.from_crate.0 m) i ]
    | false ↦ nothing
  ]

  parent_plain : (m p : ℕ) → parent_kind (plainly s) x m p ≡ parent_kind s x m p
  unfolding parent_kind root_of module_of
  parent_plain m zero = refl
  parent_plain m (suc p) = refl

  relative_plain : (m : ℕ) → is_kw_kind_relative_to_from (plainly s) x m ≡ is_kw_kind_relative_to_from s x m
  unfolding is_kw_kind_relative_to_from module_of map_of
  relative_plain m = λ i. elim (not (eqb (crate_of s m) (crate_of s x.from.0)) || (in_block s m || in_block s x.from.0)) [
    | true ↦ None
    | false ↦ elim (eqb m x.from.0) [ true ↦ Some self_path | false ↦ parent_plain m (parent_of s x.from.0) i ]
  ]

  keyword_plain : (k : Option ℕ) → keyword_of (plainly s) x k ≡ keyword_of s x k
  unfolding keyword_of
  keyword_plain None = refl
  keyword_plain (Some k) = refl

  rules_plain : (b : Bool) (m : ℕ) → module_rules (plainly s) x b m ≡ module_rules s x b m
  unfolding module_rules
  rules_plain b m =
      λ i. first_found
      (root_plain b m i ∷ by_scope_plain (module_item m) i ∷ (ap (keyword_of (plainly s) x) (relative_plain m)
      ∙ keyword_plain (is_kw_kind_relative_to_from s x m)) i
      ∷ by_prelude_plain (module_item m) i ∷ [])

  -- the local search

  importable_plain : (e : Scope) → is_importable (plainly s) x (plain e) ≡ is_importable s x e
  importable_plain e =
      let t : e.declared % 2 % 2 ≡ e.declared % 2 = omega arith in
      ap₂ (λ (a : Bool) (n : ℕ). a && (eqb n 1 || not (eqb e.visibility 3))) (visible_plain s e.visibility e.number x.from.0) t

  entry_if_plain : (o : Option Scope) → entry_if (plainly s) x (plain_of o) ≡ plain_of (entry_if s x o)
  unfolding entry_if
  entry_if_plain None = refl
  entry_if_plain (Some e) =
      ap (λ (b : Bool). elim b [ true ↦ Some (plain e) | false ↦ None ]) (importable_plain e) ∙ if_plain e (is_importable s x e)

  importable_name_plain : (item : Item) (m : ℕ) → importable_name (plainly s) x item m ≡ plain_of (importable_name s x item m)
  unfolding importable_name
  importable_name_plain item m =
      ap (entry_if (plainly s) x) (preferred_plain m item (is_importable s x) (is_importable (plainly s) x))
      ∙ entry_if_plain (preferred x.fresh s m item (is_importable s x) (name_of s m item))

  module _ (rec : LocalSearch) where
    location_plain : (left : ℕ) (ls : List Level) (best : Choice) (m : ℕ) (o : Option Scope)
        → location (plainly s) x rec left ls best m (plain_of o) ≡ location s x rec left ls best m o
    unfolding location offer_entry offer try_select better push extended is_prelude name_data
    location_plain left ls best m None = refl
    location_plain left ls best m (Some e) = refl

    each_plain : (left : ℕ) (ls : List Level) (item : Item) (done : List ℕ) (best : Choice) (ms : List ℕ)
        → each_location (plainly s) x rec left ls item done best ms ≡ each_location s x rec left ls item done best ms
    unfolding each_location
    each_plain left ls item done best [] = refl
    each_plain left ls item done best (m ∷ ms) =
        let below : List Level = record { item = item; modules = done ++ (m ∷ []) } ∷ ls in
        ap (λ (c : Choice). each_location (plainly s) x rec left ls item (done ++ (m ∷ [])) c ms)
        (ap (location (plainly s) x rec left below best m) (importable_name_plain item m)
        ∙ location_plain left below best m (importable_name s x item m))
        ∙ each_plain left ls item (done ++ (m ∷ [])) _ ms

    local_plain : (left : ℕ) (ls : List Level) (item : Item) → calculate_best_path_local (plainly s) x rec left ls item
        ≡ calculate_best_path_local s x rec left ls item
    unfolding calculate_best_path_local
    local_plain left ls item =
        ap (each_location (plainly s) x rec left ls item [] nothing) (locations_plain s x.from.0 (visited ls item))
        ∙ each_plain left ls item [] nothing _

    or_local_plain : (left : ℕ) (ls : List Level) (m : ℕ) (c : Choice) (b : Bool) → or_local (plainly s) x rec left ls m c b
        ≡ or_local s x rec left ls m c b
    unfolding or_local
    or_local_plain left ls m c true = refl
    or_local_plain left ls m c false = local_plain left ls (module_item m)

    module_local_plain : (left : ℕ) (ls : List Level) (m : ℕ) → find_path_for_module_local (plainly s) x rec left ls m
        ≡ find_path_for_module_local s x rec left ls m
    unfolding find_path_for_module_local
    module_local_plain zero ls m = refl
    module_local_plain (suc l) ls m =
        ap (λ (c : Choice). or_local (plainly s) x rec (suc l) ls m c c.found) (rules_plain false m) ∙ or_local_plain (suc l) ls m _ _

  local_to_plain : (d : ℕ) → local_to (plainly s) x d ≡ local_to s x d
  unfolding local_to
  local_to_plain zero = refl
  local_to_plain (suc d) =
      λ i left ls m.
      (ap (λ (r : LocalSearch). find_path_for_module_local (plainly s) x r left ls m) (local_to_plain d)
      ∙ module_local_plain (local_to s x d) left ls m) i

  search_local_plain : search_local (plainly s) x ≡ search_local s x
  unfolding search_local
  search_local_plain = λ i left ls m. local_to_plain left i left ls m

  best_local_plain : best_local (plainly s) x ≡ best_local s x
  unfolding best_local
  best_local_plain =
      λ i left item.
      (ap (λ (r : LocalSearch). calculate_best_path_local (plainly s) x r left [] item) search_local_plain
      ∙ local_plain (search_local s x) left [] item) i

  -- the charged search

  home_plain : (item : Item) → home_of (plainly s) item ≡ home_of s item
  unfolding home_of home_by definition_of
  home_plain (Mod m) = refl
  home_plain (Def ns d) = refl

  at_plain : (h c : ℕ) → is_at (plainly s) h c ≡ is_at s h c
  unfolding is_at module_of map_of
  at_plain zero c = refl
  at_plain (suc h) c = refl

  variant_plain : (item : Item) → variant_of (plainly s) item ≡ variant_of s item
  unfolding variant_of definition_of
  variant_plain (Mod m) = refl
  variant_plain (Def ns d) = refl

  module _ (M : Type 0) (charge : Charge M) (here : ℕ → Item → Choice) (rec : Search M) where
    import_plain : (left : ℕ) (o : Out M) (i : Import) (b : Bool)
        → find_import M charge (plainly s) x here rec left o i b ≡ find_import M charge s x here rec left o i b
    unfolding find_import offer_import offer try_select better push extended is_prelude name_data
    import_plain left o i true = refl
    import_plain left o i false = refl

    imports_plain : (left : ℕ) (o : Out M) (is : List Import)
        → find_imports M charge (plainly s) x here rec left o is ≡ find_imports M charge s x here rec left o is
    unfolding find_imports
    imports_plain left o [] = refl
    imports_plain left o (i ∷ is) =
        ap (λ (r : Out M). find_imports M charge (plainly s) x here rec left r is) (import_plain left o i (is_hidden i))
        ∙ imports_plain left (find_import M charge s x here rec left o i (is_hidden i)) is

    deps_plain : (left : ℕ) (item : Item) (o : Out M) (ds : List Dependency)
        → find_in_deps M charge (plainly s) x here rec left item o ds ≡ find_in_deps M charge s x here rec left item o ds
    unfolding find_in_deps find_in_dep import_info_for item_of definition_of
    deps_plain left item o [] = refl
    deps_plain left item o (d ∷ ds) =
        ap (λ (r : Out M). find_in_deps M charge (plainly s) x here rec left item r ds) (imports_plain left o (import_info_for s d.crate item))
        ∙ deps_plain left item (find_in_dep M charge s x here rec left item o d) ds

    sysroot_plain : (left : ℕ) (item : Item) (o : Out M) (ls : List ℕ) (b : Bool)
        → find_in_sysroot M charge (plainly s) x here rec left item o ls b ≡ find_in_sysroot M charge s x here rec left item o ls b
    unfolding find_in_sysroot sysroot_first lang_of dependencies_of crate_data
    sysroot_plain left item o [] true = refl
    sysroot_plain left item o [] false = deps_plain left item o (sysroot_first s x.from_crate.0)
    sysroot_plain left item o (l ∷ ls) true = refl
    sysroot_plain left item o (l ∷ ls) false =
        ap (λ (r : Out M). find_in_sysroot M charge (plainly s) x here rec left item r ls (is_stable r.choice))
        (deps_plain left item o (one_or_none (lang_of s x.from_crate.0 l)))
        ∙ sysroot_plain left item (find_in_deps M charge s x here rec left item o (one_or_none (lang_of s x.from_crate.0 l))) ls _

    go_plain : (left : ℕ) (item : Item) (t : M) (a b : Bool)
        → go_on M charge (plainly s) x here rec left item t a b ≡ go_on M charge s x here rec left item t a b
    unfolding go_on dependencies_of
    go_plain left item t true b = refl
    go_plain left item t false true = sysroot_plain left item _ (langs x.prefer_no_std) false
    go_plain left item t false false = deps_plain left item _ (dependencies_of s x.from_crate.0)

    after_plain : (left : ℕ) (item : Item) (c : Charged M)
        → after_charge M charge (plainly s) x here rec left item c ≡ after_charge M charge s x here rec left item c
    unfolding after_charge
    after_plain left item (go t) =
        ap (λ (b : Bool). go_on M charge (plainly s) x here rec left item t b x.is_std_item)
        (ap (λ (h : ℕ). is_at (plainly s) h x.from_crate.0) (home_plain item) ∙ at_plain (home_of s item) x.from_crate.0)
        ∙ go_plain left item t _ _
    after_plain left item (stop t) = refl

    best_plain : (left : ℕ) (item : Item) (t : M)
        → calculate_best_path M charge (plainly s) x here rec left item t ≡ calculate_best_path M charge s x here rec left item t
    unfolding calculate_best_path
    best_plain left item t = after_plain left item _

    or_plain : (left m : ℕ) (t : M) (c : Choice) (b : Bool)
        → or_charged M charge (plainly s) x here rec left m t c b ≡ or_charged M charge s x here rec left m t c b
    unfolding or_charged
    or_plain left m t c true = refl
    or_plain left m t c false = best_plain left (module_item m) t

    module_plain : (left m : ℕ) (t : M) → find_path_for_module M charge (plainly s) x here rec left m t ≡ find_path_for_module M charge
        s x here rec left m t
    unfolding find_path_for_module
    module_plain zero m t = refl
    module_plain (suc l) m t =
        ap (λ (c : Choice). or_charged M charge (plainly s) x here rec (suc l) m t c c.found) (rules_plain true m) ∙ or_plain (suc l) m t _ _

    module _ (inner : Inner M) where
      after_enum_plain : (item : Item) (v : Definition) (o : Out M) (b : Bool)
          → after_enum M charge (plainly s) x here rec item v o b ≡ after_enum M charge s x here rec item v o b
      unfolding after_enum push_variant push extended is_prelude name_data
      after_enum_plain item v o true = refl
      after_enum_plain item v o false = best_plain x.max_len item o.meter

      via_plain : (item : Item) (t : M) (v : Option Definition)
          → via_enum M charge (plainly s) x here rec inner item t v ≡ via_enum M charge s x here rec inner item t v
      unfolding via_enum item_of definition_of
      via_plain item t None = best_plain x.max_len item t
      via_plain item t (Some v) = after_enum_plain item v _ _

      named_plain' : (item : Item) (t : M) (c : Choice) (b : Bool)
          → or_enum M charge (plainly s) x here rec inner item t c b ≡ or_enum M charge s x here rec inner item t c b
      unfolding or_enum
      named_plain' item t c true = refl
      named_plain' item t c false =
          ap (via_enum M charge (plainly s) x here rec inner item t) (variant_plain item) ∙ via_plain item t (variant_of s item)

      by_name_plain : (item : Item) (t : M) → by_name M charge (plainly s) x here rec inner item t ≡ by_name M charge s x here rec inner item t
      unfolding by_name
      by_name_plain item t =
          ap (λ (c : Choice). or_enum M charge (plainly s) x here rec inner item t c c.found)
          (λ i. first_found (by_scope_plain item i ∷ by_prelude_plain item i ∷ []))
          ∙ named_plain' item t _ _

      of_plain : (m : ℕ) (t : M) (b : Bool) → of_module M charge (plainly s) x here rec inner m t b ≡ of_module M charge s x here rec inner m t b
      unfolding of_module
      of_plain m t true = by_name_plain (module_item m) t
      of_plain m t false = refl

      inner_plain : (item : Item) (t : M) → find_path_inner M charge (plainly s) x here rec inner item t ≡ find_path_inner M charge s
          x here rec inner item t
      unfolding find_path_inner
      inner_plain (Mod m) t = of_plain m.0 t x.is_std_item
      inner_plain (Def ns d) t = by_name_plain (Def ns d) t

  module _ (M : Type 0) (charge : Charge M) where
    module_to_plain : (d : ℕ) → module_to M charge (plainly s) x d ≡ module_to M charge s x d
    unfolding module_to
    module_to_plain zero = refl
    module_to_plain (suc d) =
        λ i left m t.
        (ap₂ (λ (h : ℕ → Item → Choice) (r : Search M). find_path_for_module M charge (plainly s) x h r left m t) best_local_plain (module_to_plain d)
        ∙ module_plain M charge (best_local s x) (module_to M charge s x d) left m t) i

    search_module_plain : search_module M charge (plainly s) x ≡ search_module M charge s x
    unfolding search_module
    search_module_plain = λ i left m t. module_to_plain left i left m t

    item_to_plain : (d : ℕ) → item_to M charge (plainly s) x d ≡ item_to M charge s x d
    unfolding item_to
    item_to_plain zero = refl
    item_to_plain (suc d) =
        λ i item t.
        ((λ j. find_path_inner M charge (plainly s) x (best_local_plain j) (search_module_plain j) (item_to_plain d j) item t)
        ∙ inner_plain M charge (best_local s x) (search_module M charge s x) (item_to M charge s x d) item t) i

    search_item_plain : (item : Item) (t : M) → search_item M charge (plainly s) x item t ≡ search_item M charge s x item t
    unfolding search_item
    search_item_plain item t = λ i. item_to_plain 2 i item t

-- a question whose bit 32 is clear
module _ (s : Snapshot) (q : Query) (clear : bit q.options 32 ≡ false) where
  context_clear : (home : ℕ) → (context_of s q home).fresh ≡ false
  unfolding context_of
  context_clear home = clear

  module _ (M : Type 0) (charge : Charge M) where
    home_search_plain : (item : Item) (t : M) (h : ℕ) → from_home M charge (plainly s) q item t h ≡ from_home M charge s q item t h
    unfolding from_home context_of crate_root root_of own_map module_of map_of crate_data item_of definition_of
    home_search_plain item t zero = refl
    home_search_plain item t (suc home) = search_item_plain s (context_of s q home) (context_clear home) M charge item t

    start_plain : (t : M) (b : Bool) → from_item M charge (plainly s) q t b ≡ from_item M charge s q t b
    unfolding from_item builtin_choice choice_new is_prelude name_data item_of definition_of
    start_plain t true = refl
    start_plain t false =
        ap (from_home M charge (plainly s) q (item_of s q.ns q.definition.0) t)
        (home_plain s (context_of s q 0) (context_clear 0) (item_of s q.ns q.definition.0))
        ∙ home_search_plain (item_of s q.ns q.definition.0) t _

    -- The search, at any meter, does not tell the snapshot from the plain one.
    pub search_plain : (t : M) → find_path M charge (plainly s) q t ≡ find_path M charge s q t
    unfolding find_path definition_of
    search_plain t = start_plain t _

  pub searched_plain : (fuel : ℕ) → searched (plainly s) q fuel ≡ searched s q fuel
  unfolding searched
  searched_plain fuel = search_plain _ _ _

  misleads_plain : (c : Choice) → misleads (plainly s) q c ≡ misleads s q c
  unfolding misleads item_of definition_of
  misleads_plain c =
      ap (λ (b : Bool). bit q.options 64 && (c.found && not (is_builtin_type s q || b)))
      (reads_back_plain s q.from.0 (item_of s q.ns q.definition.0) c.kind (take c.count c.names))

  reported_plain : (o : Out Tank) → reported (plainly s) q o ≡ reported s q o
  unfolding reported
  reported_plain o = λ i. record {
    outcome = outcome_by (misleads_plain o.choice i) o.choice.found;
    number = 0;
    kind = o.choice.kind;
    names = o.choice.names;
    count = o.choice.count;
    charges = o.meter.spent;
    empty = flag o.meter.empty;
    left = o.meter.left;
    sought = o.meter.sought;
    route = o.choice.route;
    steps = o.choice.steps;
  }

  unless_plain : (fuel n : ℕ) → answer_unless (plainly s) q fuel n ≡ answer_unless s q fuel n
  unfolding answer_unless
  unless_plain fuel zero = ap (reported (plainly s) q) (searched_plain fuel) ∙ reported_plain (searched s q fuel)
  unless_plain fuel (suc n) = refl

  question_plain : (fuel : ℕ) → answer_unless (plainly s) q fuel (question_fault (plainly s) q) ≡ answer_unless s q fuel (question_fault s q)
  unfolding question_fault definition_of
  question_plain fuel = unless_plain fuel _

fault_plain : (words words' : List ℕ) (q : Query) (fuel n : ℕ) (s : Snapshot) → verdict words ≡ accept s → verdict words' ≡ accept (plainly s)
    → bit q.options 32 ≡ false → report_unless words' q fuel n ≡ report_unless words q fuel n
unfolding report_unless report_by
fault_plain words words' q fuel zero s e e' clear = ap (report_by q fuel) e' ∙ question_plain s q clear fuel ∙ sym (ap (report_by q fuel) e)
fault_plain words words' q fuel (suc n) s e e' clear = refl

-- The report on words whose snapshot has 2 and 3 in declared fields is the one on words whose snapshot has 0 and 1 there, where options
-- bit 32 is clear.
pub report_plain : (words words' : List ℕ) (area : ℕ) (q : Question) (s : Snapshot) → verdict words ≡ accept s → verdict words' ≡ accept (plainly s)
    → bit q.query.options 32 ≡ false → report_of words' area q ≡ report_of words area q
unfolding report_of
report_plain words words' area q s e e' clear = fault_plain words words' q.query q.fuel _ s e e' clear
