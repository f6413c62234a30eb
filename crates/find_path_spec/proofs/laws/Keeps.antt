-- What every charge keeps of a meter, the whole search keeps.
use Prim.Native.Nat.{ℕ, zero, suc}
use mathlib.Core.List.{List, [], ◌∷◌}
use mathlib.Core.Bool.{Bool, true, false}
use Rattle.std.specs.Prelude.{Option, None, Some}
use Rattle.snapshot.specs.Records.{Snapshot, Dependency, Definition, Import}
use Rattle.hir_def.specs.Items.{types, item_of, module_item}
use Rattle.hir_def.specs.Nameres.{lang_of, sysroot_first}
use Rattle.hir_def.specs.ImportMap.{import_info_for, is_hidden}
use Rattle.hir_def.specs.declared.Item.{Item}
use Rattle.hir_def.specs.declared.Item.TheVariants.{Mod, Def}
use Rattle.find_path_choice.specs.Choices.{Choice}
use Rattle.find_path_spec.specs.declared.FindPathCtx.{FindPathCtx}
use Rattle.find_path_spec.specs.Meters.{Charged, go, stop, Charge}
use Rattle.find_path_spec.specs.Charged.{Out, Search, Inner, langs, one_or_none, variant_of, find_import, find_imports, find_in_dep, find_in_deps}
use Rattle.find_path_spec.specs.Charged.{find_in_sysroot}
use Rattle.find_path_spec.specs.Charged.{go_on, after_charge, calculate_best_path, or_charged, find_path_for_module, after_enum, via_enum, or_enum}
use Rattle.find_path_spec.specs.Charged.{by_name, of_module}
use Rattle.find_path_spec.specs.Charged.{find_path_inner}
use Rattle.find_path_spec.specs.Search.{best_local, module_to, search_module, item_to}

-- the meter after a charge
abbrev pub left_by : {M : Type 0} → Charged M → M
left_by (go t) = t
left_by (stop t) = t

abbrev pub KeptBy : {M : Type 0} → (M → Type 0) → Search M → Type 0
KeptBy {M} P rec = (left m : ℕ) (t : M) → P t → P (rec left m t).meter

abbrev pub KeptWithin : {M : Type 0} → (M → Type 0) → Inner M → Type 0
KeptWithin {M} P inner = (item : Item) (t : M) → P t → P (inner item t).meter

module _ (M : Type 0) (charge : Charge M) (s : Snapshot) (P : M → Type 0) (kept : (left sought : ℕ) (t : M) → P t
    → P (left_by (charge left sought t))) where
  module _ (x : FindPathCtx) (here : ℕ → Item → Choice) (rec : Search M) (k : KeptBy P rec) where
    pub import_keeps : (left : ℕ) (o : Out M) (i : Import) (b : Bool) → P o.meter → P (find_import M charge s x here rec left o i b).meter
    unfolding find_import
    import_keeps left o i true h = h
    import_keeps left o i false h = k _ i.container o.meter h

    imports_keep : (left : ℕ) (o : Out M) (is : List Import) → P o.meter → P (find_imports M charge s x here rec left o is).meter
    unfolding find_imports
    imports_keep left o [] h = h
    imports_keep left o (i ∷ is) h = imports_keep left (find_import M charge s x here rec left o i (is_hidden i)) is (import_keeps left o i _ h)

    pub deps_keep : (left : ℕ) (item : Item) (o : Out M) (ds : List Dependency) → P o.meter
        → P (find_in_deps M charge s x here rec left item o ds).meter
    unfolding find_in_deps find_in_dep
    deps_keep left item o [] h = h
    deps_keep left item o (d ∷ ds) h =
        deps_keep left item (find_in_dep M charge s x here rec left item o d) ds (imports_keep left o (import_info_for s d.crate item) h)

    pub sysroot_keeps : (left : ℕ) (item : Item) (o : Out M) (ls : List ℕ) (b : Bool) → P o.meter
        → P (find_in_sysroot M charge s x here rec left item o ls b).meter
    unfolding find_in_sysroot
    sysroot_keeps left item o [] true h = h
    sysroot_keeps left item o [] false h = deps_keep left item o (sysroot_first s x.from_crate.0) h
    sysroot_keeps left item o (l ∷ ls) true h = h
    sysroot_keeps left item o (l ∷ ls) false h =
        sysroot_keeps left item (find_in_deps M charge s x here rec left item o (one_or_none (lang_of s x.from_crate.0 l))) ls _
        (deps_keep left item o (one_or_none (lang_of s x.from_crate.0 l)) h)

    pub go_keeps : (left : ℕ) (item : Item) (t : M) (a b : Bool) → P t → P (go_on M charge s x here rec left item t a b).meter
    unfolding go_on
    go_keeps left item t true b h = h
    go_keeps left item t false true h = sysroot_keeps left item _ (langs x.prefer_no_std) false h
    go_keeps left item t false false h = deps_keep left item _ _ h

    after_keeps : (left : ℕ) (item : Item) (c : Charged M) → P (left_by c) → P (after_charge M charge s x here rec left item c).meter
    unfolding after_charge
    after_keeps left item (go t) h = go_keeps left item t _ _ h
    after_keeps left item (stop t) h = h

    pub best_keeps : (left : ℕ) (item : Item) (t : M) → P t → P (calculate_best_path M charge s x here rec left item t).meter
    unfolding calculate_best_path
    best_keeps left item t h = after_keeps left item (charge _ _ t) (kept _ _ t h)

    pub enum_keeps : (item : Item) (v : Definition) (o : Out M) (b : Bool) → P o.meter → P (after_enum M charge s x here rec item v o b).meter
    unfolding after_enum
    enum_keeps item v o true h = h
    enum_keeps item v o false h = best_keeps x.max_len item o.meter h

    or_keeps : (left m : ℕ) (t : M) (c : Choice) (b : Bool) → P t → P (or_charged M charge s x here rec left m t c b).meter
    unfolding or_charged
    or_keeps left m t c true h = h
    or_keeps left m t c false h = best_keeps left (module_item m) t h

    module_keeps : KeptBy P (find_path_for_module M charge s x here rec)
    unfolding find_path_for_module
    module_keeps zero m t h = h
    module_keeps (suc l) m t h = or_keeps (suc l) m t _ _ h

    module _ (inner : Inner M) (within : KeptWithin P inner) where
      via_keeps : (item : Item) (t : M) (v : Option Definition) → P t → P (via_enum M charge s x here rec inner item t v).meter
      unfolding via_enum
      via_keeps item t None h = best_keeps x.max_len item t h
      via_keeps item t (Some v) h = enum_keeps item v _ _ (within (item_of s types v.first) t h)

      named_keeps : (item : Item) (t : M) (c : Choice) (b : Bool) → P t → P (or_enum M charge s x here rec inner item t c b).meter
      unfolding or_enum
      named_keeps item t c true h = h
      named_keeps item t c false h = via_keeps item t (variant_of s item) h

      of_keeps : (m : ℕ) (t : M) (b : Bool) → P t → P (of_module M charge s x here rec inner m t b).meter
      unfolding of_module by_name
      of_keeps m t true h = named_keeps (module_item m) t _ _ h
      of_keeps m t false h = k x.max_len m t h

      item_keeps : KeptWithin P (find_path_inner M charge s x here rec inner)
      unfolding find_path_inner by_name
      item_keeps (Mod m) t h = of_keeps m.0 t x.is_std_item h
      item_keeps (Def ns d) t h = named_keeps (Def ns d) t _ _ h

  module _ (x : FindPathCtx) where
    pub module_to_keeps : (d : ℕ) → KeptBy P (module_to M charge s x d)
    unfolding module_to
    module_to_keeps zero left m t h = h
    module_to_keeps (suc d) left m t h = module_keeps x (best_local s x) (module_to M charge s x d) (module_to_keeps d) left m t h

    pub module_search_keeps : KeptBy P (search_module M charge s x)
    unfolding search_module
    module_search_keeps left m t h = module_to_keeps left left m t h

    pub item_to_keeps : (d : ℕ) → KeptWithin P (item_to M charge s x d)
    unfolding item_to
    item_to_keeps zero item t h = h
    item_to_keeps (suc d) item t h =
        item_keeps x (best_local s x) (search_module M charge s x) module_search_keeps (item_to M charge s x d) (item_to_keeps d) item t h
