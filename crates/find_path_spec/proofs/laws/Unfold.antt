-- The depth hidden: each search is its rule over itself. No later proof names a depth.
use mathlib.Core.Path.{◌≡◌, refl, ap, sym, ◌∙◌}
use Prim.Native.Nat.{ℕ, zero, suc, ◌≤◌, ◌<◌}
use native.Mathlib.Omega.{arith}
use mathlib.Core.List.{List, [], ◌∷◌, ◌++◌}
use mathlib.Core.Bool.{Bool, true, false}
use Rattle.std.specs.Prelude.{Option, None, Some}
use Rattle.snapshot.specs.Records.{Snapshot, Scope, Dependency, Definition, Import}
use Rattle.hir_def.specs.Items.{types, item_of, module_item}
use Rattle.hir_def.specs.Nameres.{lang_of, sysroot_first}
use Rattle.hir_def.specs.ImportMap.{import_info_for, is_hidden}
use Rattle.hir_def.specs.declared.Item.{Item}
use Rattle.hir_def.specs.declared.Item.TheVariants.{Mod, Def}
use Rattle.find_path_choice.specs.Choices.{Choice}
use Rattle.find_path_spec.specs.declared.FindPathCtx.{FindPathCtx}
use Rattle.find_path_choice.specs.Choices.{nothing, path_len, shorter_if, length_left}
use Rattle.find_path_spec.specs.Walk.{Level}
use Rattle.find_path_spec.specs.Local.{LocalSearch, offer_entry, importable_name, location, each_location, calculate_best_path_local, or_local}
use Rattle.find_path_spec.specs.Local.{find_path_for_module_local}
use Rattle.find_path_spec.specs.Meters.{Charged, go, stop, Charge}
use Rattle.find_path_spec.specs.Charged.{Out, Search, Inner, is_stable, langs, one_or_none, variant_of, offer_import, find_import, find_imports}
use Rattle.find_path_spec.specs.Charged.{find_in_dep}
use Rattle.find_path_spec.specs.Charged.{find_in_deps, find_in_sysroot, go_on, after_charge, calculate_best_path, or_charged, find_path_for_module}
use Rattle.find_path_spec.specs.Charged.{after_enum, via_enum}
use Rattle.find_path_spec.specs.Charged.{or_enum, by_name, of_module, find_path_inner}
use Rattle.find_path_spec.specs.Search.{local_to, search_local, best_local, module_to, search_module, item_to, search_item}

-- The length left for a step is smaller.
shorter_if_less : (b : Bool) (left n : ℕ) → 0 < left → shorter_if b left n < left
unfolding shorter_if
shorter_if_less true left n h = omega arith
shorter_if_less false left n h = omega arith

pub length_falls : (left : ℕ) (best : Choice) → 0 < left → length_left left best < left
unfolding length_left
length_falls left best h = shorter_if_less best.found left (path_len best) h

-- two local searches that agree below a length left
abbrev AgreeLocal : ℕ → LocalSearch → LocalSearch → Type 0
AgreeLocal left f g = (j : ℕ) (ls : List Level) (m : ℕ) → j < left → f j ls m ≡ g j ls m

module _ (s : Snapshot) (x : FindPathCtx) where
  module _ (left : ℕ) (f g : LocalSearch) (pos : 0 < left) (agree : AgreeLocal left f g) where
    location_same : (ls : List Level) (best : Choice) (m : ℕ) (a : Option Scope) → location s x f left ls best m a ≡ location s x g left ls best m a
    unfolding location
    location_same ls best m None = refl
    location_same ls best m (Some e) = ap (λ (c : Choice). offer_entry s x best c e) (agree _ ls m (length_falls left _ pos))

    each_same : (ls : List Level) (item : Item) (done : List ℕ) (best : Choice) (ms : List ℕ)
        → each_location s x f left ls item done best ms ≡ each_location s x g left ls item done best ms
    unfolding each_location
    each_same ls item done best [] = refl
    each_same ls item done best (m ∷ ms) =
        ap (λ (c : Choice). each_location s x f left ls item (done ++ (m ∷ [])) c ms) (location_same _ best m (importable_name s x item m))
        ∙ each_same ls item (done ++ (m ∷ [])) _ ms

    pub local_same : (ls : List Level) (item : Item) → calculate_best_path_local s x f left ls item ≡ calculate_best_path_local s x g left ls item
    unfolding calculate_best_path_local
    local_same ls item = each_same ls item [] nothing _

    or_local_same : (ls : List Level) (m : ℕ) (c : Choice) (b : Bool) → or_local s x f left ls m c b ≡ or_local s x g left ls m c b
    unfolding or_local
    or_local_same ls m c true = refl
    or_local_same ls m c false = local_same ls (module_item m)

  -- a depth of at least the length left is as good as any other
  local_to_stable : (d e left : ℕ) (ls : List Level) (m : ℕ) → left ≤ d → left ≤ e → local_to s x d left ls m ≡ local_to s x e left ls m
  unfolding local_to find_path_for_module_local
  local_to_stable zero zero left ls m h k = refl
  local_to_stable zero (suc e) zero ls m h k = refl
  local_to_stable zero (suc e) (suc l) ls m h k = absurd (omega arith)
  local_to_stable (suc d) zero zero ls m h k = refl
  local_to_stable (suc d) zero (suc l) ls m h k = absurd (omega arith)
  local_to_stable (suc d) (suc e) zero ls m h k = refl
  local_to_stable (suc d) (suc e) (suc l) ls m h k =
      or_local_same (suc l) (local_to s x d) (local_to s x e) (omega arith)
      (λ j ls' m' lt. local_to_stable d e j ls' m' (omega arith) (omega arith)) ls m _ _

  -- The local module search is its rule over itself.
  pub local_more : (left : ℕ) (ls : List Level) (m : ℕ)
      → search_local s x left ls m ≡ find_path_for_module_local s x (search_local s x) left ls m
  unfolding search_local local_to find_path_for_module_local
  local_more zero ls m = refl
  local_more (suc l) ls m =
      or_local_same (suc l) (local_to s x l) (search_local s x) (omega arith)
      (λ j ls' m' lt. local_to_stable l j j ls' m' (omega arith) (omega arith)) ls m _ _

-- The enum of the item, where it is a variant, is no variant.
abbrev pub EnumNoVariant : Snapshot → Item → Type 0
EnumNoVariant s item = (v : Definition) → variant_of s item ≡ Some v → variant_of s (item_of s types v.first) ≡ None

-- two module searches that agree below a length left
abbrev Agree : {M : Type 0} → ℕ → Search M → Search M → Type 0
Agree {M} left f g = (j m : ℕ) (t : M) → j < left → f j m t ≡ g j m t

module _ (M : Type 0) (charge : Charge M) (s : Snapshot) (x : FindPathCtx) where
  module _ (here : ℕ → Item → Choice) (left : ℕ) (f g : Search M) (pos : 0 < left) (agree : Agree left f g) where
    import_same : (o : Out M) (i : Import) (b : Bool) → find_import M charge s x here f left o i b ≡ find_import M charge s x here g left o i b
    unfolding find_import
    import_same o i true = refl
    import_same o i false =
        ap {B = Out M} (λ (r : Out M). record { choice = offer_import s x o.choice r.choice i; meter = r.meter })
        (agree _ i.container o.meter (length_falls left _ pos))

    imports_same : (o : Out M) (is : List Import) → find_imports M charge s x here f left o is ≡ find_imports M charge s x here g left o is
    unfolding find_imports
    imports_same o [] = refl
    imports_same o (i ∷ is) =
        ap (λ (r : Out M). find_imports M charge s x here f left r is) (import_same o i _)
        ∙ imports_same (find_import M charge s x here g left o i (is_hidden i)) is

    deps_same : (item : Item) (o : Out M) (ds : List Dependency) → find_in_deps M charge s x here f left item o ds
        ≡ find_in_deps M charge s x here g left item o ds
    unfolding find_in_deps find_in_dep
    deps_same item o [] = refl
    deps_same item o (d ∷ ds) =
        ap (λ (r : Out M). find_in_deps M charge s x here f left item r ds) (imports_same o (import_info_for s d.crate item))
        ∙ deps_same item (find_in_dep M charge s x here g left item o d) ds

    sysroot_same : (item : Item) (o : Out M) (ls : List ℕ) (b : Bool)
        → find_in_sysroot M charge s x here f left item o ls b ≡ find_in_sysroot M charge s x here g left item o ls b
    unfolding find_in_sysroot
    sysroot_same item o [] true = refl
    sysroot_same item o [] false = deps_same item o (sysroot_first s x.from_crate.0)
    sysroot_same item o (l ∷ ls) true = refl
    sysroot_same item o (l ∷ ls) false =
        ap (λ (r : Out M). find_in_sysroot M charge s x here f left item r ls (is_stable r.choice))
        (deps_same item o (one_or_none (lang_of s x.from_crate.0 l)))
        ∙ sysroot_same item (find_in_deps M charge s x here g left item o (one_or_none (lang_of s x.from_crate.0 l))) ls _

    go_same : (item : Item) (t : M) (a b : Bool) → go_on M charge s x here f left item t a b ≡ go_on M charge s x here g left item t a b
    unfolding go_on
    go_same item t true b = refl
    go_same item t false true = sysroot_same item _ (langs x.prefer_no_std) false
    go_same item t false false = deps_same item _ _

    after_same : (item : Item) (c : Charged M) → after_charge M charge s x here f left item c ≡ after_charge M charge s x here g left item c
    unfolding after_charge
    after_same item (go t) = go_same item t _ _
    after_same item (stop t) = refl

    pub best_same : (item : Item) (t : M) → calculate_best_path M charge s x here f left item t ≡ calculate_best_path M charge s x here g left item t
    unfolding calculate_best_path
    best_same item t = after_same item (charge _ _ t)

    or_same : (m : ℕ) (t : M) (c : Choice) (b : Bool) → or_charged M charge s x here f left m t c b ≡ or_charged M charge s x here g left m t c b
    unfolding or_charged
    or_same m t c true = refl
    or_same m t c false = best_same (module_item m) t

  module_to_stable : (d e left m : ℕ) (t : M) → left ≤ d → left ≤ e → module_to M charge s x d left m t ≡ module_to M charge s x e left m t
  unfolding module_to find_path_for_module
  module_to_stable zero zero left m t h k = refl
  module_to_stable zero (suc e) zero m t h k = refl
  module_to_stable zero (suc e) (suc l) m t h k = absurd (omega arith)
  module_to_stable (suc d) zero zero m t h k = refl
  module_to_stable (suc d) zero (suc l) m t h k = absurd (omega arith)
  module_to_stable (suc d) (suc e) zero m t h k = refl
  module_to_stable (suc d) (suc e) (suc l) m t h k =
      or_same (best_local s x) (suc l) (module_to M charge s x d) (module_to M charge s x e) (omega arith)
      (λ j m' u lt. module_to_stable d e j m' u (omega arith) (omega arith)) m t _ _

  -- The module search is its rule over itself.
  pub module_more : (left m : ℕ) (t : M)
      → search_module M charge s x left m t ≡ find_path_for_module M charge s x (best_local s x) (search_module M charge s x) left m t
  unfolding search_module module_to find_path_for_module
  module_more zero m t = refl
  module_more (suc l) m t =
      or_same (best_local s x) (suc l) (module_to M charge s x l) (search_module M charge s x) (omega arith)
      (λ j m' u lt. module_to_stable l j j m' u (omega arith) (omega arith)) m t _ _

  -- where the two searches for the enum agree, so do those for the item
  module _ (here : ℕ → Item → Choice) (rec : Search M) (f g : Inner M) (item : Item)
      (agree : (v : Definition) (t : M) → variant_of s item ≡ Some v → f (item_of s types v.first) t ≡ g (item_of s types v.first) t) where
    via_same : (t : M) (v : Option Definition) → variant_of s item ≡ v → via_enum M charge s x here rec f item t v
        ≡ via_enum M charge s x here rec g item t v
    unfolding via_enum
    via_same t None e = refl
    via_same t (Some v) e =
        ap (λ (o : Out M). after_enum M charge s x here rec item v o o.choice.found) (agree v t e)

    or_enum_same : (t : M) (c : Choice) (b : Bool) → or_enum M charge s x here rec f item t c b ≡ or_enum M charge s x here rec g item t c b
    unfolding or_enum
    or_enum_same t c true = refl
    or_enum_same t c false = via_same t (variant_of s item) refl

    by_name_same : (t : M) → by_name M charge s x here rec f item t ≡ by_name M charge s x here rec g item t
    unfolding by_name
    by_name_same t = or_enum_same t _ _

  of_same : (here : ℕ → Item → Choice) (rec : Search M) (f g : Inner M) (m : ℕ) (t : M) (b : Bool)
      → by_name M charge s x here rec f (module_item m) t ≡ by_name M charge s x here rec g (module_item m) t
      → of_module M charge s x here rec f m t b ≡ of_module M charge s x here rec g m t b
  unfolding of_module
  of_same here rec f g m t true e = e
  of_same here rec f g m t false e = refl

  item_same : (here : ℕ → Item → Choice) (rec : Search M) (f g : Inner M) (item : Item)
      → ((v : Definition) (t : M) → variant_of s item ≡ Some v → f (item_of s types v.first) t ≡ g (item_of s types v.first) t)
      → (t : M) → find_path_inner M charge s x here rec f item t ≡ find_path_inner M charge s x here rec g item t
  unfolding find_path_inner
  item_same here rec f g (Mod m) agree t = of_same here rec f g m.0 t x.is_std_item (by_name_same here rec f g (Mod m) agree t)
  item_same here rec f g (Def ns d) agree t = by_name_same here rec f g (Def ns d) agree t

  -- The item search is its rule over itself, for an item whose enum, if it has one, is no variant.
  pub inner_more : (item : Item) (t : M) → EnumNoVariant s item
      → search_item M charge s x item t ≡ find_path_inner M charge s x (best_local s x) (search_module M charge s x) (search_item M charge s x) item t
  unfolding search_item item_to
  inner_more item t one =
      item_same (best_local s x) (search_module M charge s x) (item_to M charge s x 1) (search_item M charge s x) item
      (λ v u e. item_same (best_local s x) (search_module M charge s x) (item_to M charge s x 0) (item_to M charge s x 1) (item_of s types v.first)
      (λ w u' k. let z : None ≡ Some w = sym (one v e) ∙ k in let c : ◌≡◌ {A = ℕ} 0 1 = cc in absurd (omega arith)) u)
      t
