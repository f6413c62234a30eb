-- What a charge is told lies in bounds, a length up to 15 and a module of the snapshot, and so does what a tank keeps of it.
use Prim.Native.Nat.{ℕ, zero, suc, ◌≤◌, ◌<◌}
use mathlib.Core.Path.{◌≡◌}
use mathlib.Core.List.{List, [], ◌∷◌}
use mathlib.Core.Bool.{Bool, true, false, ◌&&◌}
use Rattle.std.specs.Prelude.{Option, None, Some}
use native.Mathlib.Omega.{arith}
use borrow.Author.Tests.{eqb-true}
use lib.Dec.{eqb}
use lib.ListN.{length}
use Rattle.snapshot.specs.Limits.{path_limit}
use Rattle.snapshot.specs.Records.{Snapshot, Dependency, Definition, Import}
use Rattle.check_rules.specs.Verdict.{accept, verdict}
use Rattle.check_rules.specs.Tests.{counts_of}
use Rattle.accept.specs.Valid.{Each, more, ImportFits, Ranges}
use Rattle.accept.proofs.Accepted.{by_test}
use Rattle.accept.proofs.Ranges.{accepted_ranges}
use Rattle.hir_def.specs.Items.{types, module_kind, definition_of, item_of, module_item}
use Rattle.hir_def.specs.Nameres.{lang_of, sysroot_first}
use Rattle.hir_def.specs.ImportMap.{import_info_for, is_hidden}
use Rattle.hir_def.specs.declared.Item.{Item}
use Rattle.hir_def.specs.declared.Item.TheVariants.{Mod, Def}
use Rattle.find_path_choice.specs.Choices.{Choice}
use Rattle.find_path_spec.specs.declared.Tank.{Tank}
use Rattle.find_path_spec.specs.declared.FindPathCtx.{FindPathCtx}
use Rattle.find_path_spec.specs.declared.Query.{Query}
use Rattle.find_path_spec.specs.Rules.{context_of, module_in, sought_of}
use Rattle.find_path_spec.specs.Meters.{Charged, go, stop, drained, draw, from_tank, filled}
use Rattle.find_path_spec.specs.Charged.{Out, Search, Inner, langs, one_or_none, variant_of, find_import, find_imports, find_in_dep, find_in_deps}
use Rattle.find_path_spec.specs.Charged.{find_in_sysroot}
use Rattle.find_path_spec.specs.Charged.{go_on, after_charge, calculate_best_path, or_charged, find_path_for_module, after_enum, via_enum, or_enum}
use Rattle.find_path_spec.specs.Charged.{by_name, of_module}
use Rattle.find_path_spec.specs.Charged.{find_path_inner}
use Rattle.find_path_spec.specs.Search.{best_local, module_to, search_module, item_to, search_item, from_home, from_item, find_path}
use Rattle.find_path_spec.specs.Report.{searched}
use Rattle.find_path_spec.proofs.laws.Keeps.{left_by}
use Rattle.accept.proofs.Bools.{and_right}
use Rattle.hir_def.proofs.Found.{each_select}
use Rattle.find_path_spec.proofs.laws.Known.{definition_known}
use Rattle.find_path_spec.proofs.laws.Unfold.{length_falls}

-- what a tank keeps of a charge
pub record Told (n : ℕ) (t : Tank) : Type 0 where
  pub left : t.left ≤ path_limit
  pub sought : t.sought ≤ n

drained_told : (n left sought : ℕ) (t : Tank) (b : Bool) → left ≤ path_limit → sought ≤ n → Told n t → Told n (drained left sought t b)
unfolding drained
drained_told n left sought t true h k f = record { left = omega arith; sought = omega arith }
drained_told n left sought t false h k f = record { left = omega arith; sought = omega arith }

draw_told : (n left sought : ℕ) (t : Tank) (fuel : ℕ) → left ≤ path_limit → sought ≤ n → Told n t → Told n (left_by (draw left sought t fuel))
unfolding draw
draw_told n left sought t zero h k f = drained_told n left sought t t.empty h k f
draw_told n left sought t (suc fuel) h k f = record { left = f.left; sought = f.sought }

module _ (s : Snapshot) (r : Ranges (counts_of s) s) where
  -- the item is no module, or one of the snapshot
  abbrev Inside : Item → Type 0
  Inside item = module_in item ≤ length s.modules

  sought_inside : (x : FindPathCtx) (item : Item) → Inside item → sought_of x item ≤ length s.modules
  unfolding sought_of
  sought_inside x item h =
      by_test (eqb (module_in item) x.own) (λ t. rw (sought_of, t) (omega arith)) (λ t. rw (sought_of, t) (omega arith))

  module_inside : (m : ℕ) → m < length s.modules → Inside (module_item m)
  unfolding module_in
  module_inside m h = omega arith

  item_inside : (ns d : ℕ) → Inside (item_of s ns d)
  unfolding item_of module_in
  item_inside ns d =
      by_test (eqb ns types && eqb (definition_of s d).kind module_kind)
      (λ t. rw (item_of, t) (let k = eqb-true _ _ (and_right (eqb ns types) _ t) in
      let f = (definition_known s r d 0 k).home (λ e. omega arith) (λ e. omega arith) in omega arith))
      (λ t. rw (item_of, t) (omega arith))

  -- every search keeps a tank in bounds

  abbrev Keeps : Tank → Type 0
  Keeps t = Told (length s.modules) t

  abbrev ToldBy : Search Tank → Type 0
  ToldBy rec = (left m : ℕ) (t : Tank) → left ≤ path_limit → Inside (module_item m) → Keeps t → Keeps (rec left m t).meter

  abbrev ToldWithin : Inner Tank → Type 0
  ToldWithin inner = (item : Item) (t : Tank) → Inside item → Keeps t → Keeps (inner item t).meter

  module _ (x : FindPathCtx) (here : ℕ → Item → Choice) (rec : Search Tank) (known : ToldBy rec) where
    module _ (left : ℕ) (some_left : 0 < left) (limit : left ≤ path_limit) where
      import_told : (o : Out Tank) (i : Import) (b : Bool) → ImportFits (counts_of s) i → Keeps o.meter
          → Keeps (find_import Tank from_tank s x here rec left o i b).meter
      unfolding find_import
      import_told o i true h f = f
      import_told o i false h f =
          known _ i.container o.meter (omega (arith, limit, length_falls left o.choice some_left))
          (module_inside i.container h.container) f

      imports_told : (o : Out Tank) {is : List Import} → Each (ImportFits (counts_of s)) is → Keeps o.meter
          → Keeps (find_imports Tank from_tank s x here rec left o is).meter
      unfolding find_imports
      imports_told o Each.none f = f
      imports_told o (more {x = i} h hs) f = imports_told (find_import Tank from_tank s x here rec left o i (is_hidden i)) hs (import_told o i _ h f)

      deps_told : (item : Item) (o : Out Tank) (ds : List Dependency) → Keeps o.meter
          → Keeps (find_in_deps Tank from_tank s x here rec left item o ds).meter
      unfolding find_in_deps find_in_dep import_info_for
      deps_told item o [] f = f
      deps_told item o (d ∷ ds) f =
          deps_told item (find_in_dep Tank from_tank s x here rec left item o d) ds (imports_told o (each_select _ r.imports) f)

      sysroot_told : (item : Item) (o : Out Tank) (ls : List ℕ) (b : Bool) → Keeps o.meter
          → Keeps (find_in_sysroot Tank from_tank s x here rec left item o ls b).meter
      unfolding find_in_sysroot
      sysroot_told item o [] true f = f
      sysroot_told item o [] false f = deps_told item o (sysroot_first s x.from_crate.0) f
      sysroot_told item o (l ∷ ls) true f = f
      sysroot_told item o (l ∷ ls) false f =
          sysroot_told item (find_in_deps Tank from_tank s x here rec left item o (one_or_none (lang_of s x.from_crate.0 l))) ls _
          (deps_told item o (one_or_none (lang_of s x.from_crate.0 l)) f)

      go_told : (item : Item) (t : Tank) (a b : Bool) → Keeps t → Keeps (go_on Tank from_tank s x here rec left item t a b).meter
      unfolding go_on
      go_told item t true b f = f
      go_told item t false true f = sysroot_told item _ (langs x.prefer_no_std) false f
      go_told item t false false f = deps_told item _ _ f

      after_told : (item : Item) (c : Charged Tank) → Keeps (left_by c) → Keeps (after_charge Tank from_tank s x here rec left item c).meter
      unfolding after_charge
      after_told item (go t) f = go_told item t _ _ f
      after_told item (stop t) f = f

      best_told : (item : Item) (t : Tank) → Inside item → Keeps t → Keeps (calculate_best_path Tank from_tank s x here rec left item t).meter
      unfolding calculate_best_path from_tank
      best_told item t h f = after_told item (from_tank left (sought_of x item) t) (draw_told _ left _ t t.fuel limit (sought_inside x item h) f)

    or_told : (l m : ℕ) (t : Tank) (c : Choice) (b : Bool) → suc l ≤ path_limit → Inside (module_item m) → Keeps t
        → Keeps (or_charged Tank from_tank s x here rec (suc l) m t c b).meter
    unfolding or_charged
    or_told l m t c true h k f = f
    or_told l m t c false h k f = best_told (suc l) (omega arith) h (module_item m) t k f

    module_told : ToldBy (find_path_for_module Tank from_tank s x here rec)
    unfolding find_path_for_module
    module_told zero m t h k f = f
    module_told (suc l) m t h k f = or_told l m t _ _ h k f

    module _ (some-limit : 0 < x.max_len) (limit : x.max_len ≤ path_limit) (inner : Inner Tank) (within : ToldWithin inner) where
      item_best : (item : Item) (t : Tank) → Inside item → Keeps t → Keeps (calculate_best_path Tank from_tank s x here rec x.max_len item t).meter
      item_best item t h f = best_told x.max_len some-limit limit item t h f

      enum_told : (item : Item) (v : Definition) (o : Out Tank) (b : Bool) → Inside item → Keeps o.meter
          → Keeps (after_enum Tank from_tank s x here rec item v o b).meter
      unfolding after_enum
      enum_told item v o true h f = f
      enum_told item v o false h f = item_best item o.meter h f

      via_told : (item : Item) (t : Tank) (v : Option Definition) → Inside item → Keeps t
          → Keeps (via_enum Tank from_tank s x here rec inner item t v).meter
      unfolding via_enum
      via_told item t None h f = item_best item t h f
      via_told item t (Some v) h f = enum_told item v _ _ h (within (item_of s types v.first) t (item_inside types v.first) f)

      named_told : (item : Item) (t : Tank) (c : Choice) (b : Bool) → Inside item → Keeps t
          → Keeps (or_enum Tank from_tank s x here rec inner item t c b).meter
      unfolding or_enum
      named_told item t c true h f = f
      named_told item t c false h f = via_told item t (variant_of s item) h f

      of_told : (m : ℕ) (t : Tank) (b : Bool) → Inside (module_item m) → Keeps t → Keeps (of_module Tank from_tank s x here rec inner m t b).meter
      unfolding of_module by_name
      of_told m t true h f = named_told (module_item m) t _ _ h f
      of_told m t false h f = known x.max_len m t limit h f

      item_told : ToldWithin (find_path_inner Tank from_tank s x here rec inner)
      unfolding find_path_inner by_name
      item_told (Mod m) t h f = of_told m.0 t x.is_std_item h f
      item_told (Def ns d) t h f = named_told (Def ns d) t _ _ h f

  module _ (x : FindPathCtx) (some-limit : 0 < x.max_len) (limit : x.max_len ≤ path_limit) where
    module_to_told : (d : ℕ) → ToldBy (module_to Tank from_tank s x d)
    unfolding module_to
    module_to_told zero left m t h k f = f
    module_to_told (suc d) left m t h k f = module_told x (best_local s x) (module_to Tank from_tank s x d) (module_to_told d) left m t h k f

    module_search_told : ToldBy (search_module Tank from_tank s x)
    unfolding search_module
    module_search_told left m t h k f = module_to_told left left m t h k f

    item_to_told : (d : ℕ) → ToldWithin (item_to Tank from_tank s x d)
    unfolding item_to
    item_to_told zero item t h f = f
    item_to_told (suc d) item t h f =
        item_told x (best_local s x) (search_module Tank from_tank s x) module_search_told some-limit limit (item_to Tank from_tank s x d)
        (item_to_told d) item t h f

  module _ (q : Query) (p : 0 < q.limit) (l : q.limit ≤ path_limit) where
    home_told : (item : Item) (t : Tank) (h : ℕ) → Inside item → Keeps t → Keeps (from_home Tank from_tank s q item t h).meter
    unfolding from_home search_item context_of
    home_told item t zero k f = f
    home_told item t (suc home) k f = item_to_told (context_of s q home) p l 2 item t k f

    start_told : (t : Tank) (b : Bool) → Keeps t → Keeps (from_item Tank from_tank s q t b).meter
    unfolding from_item
    start_told t true f = f
    start_told t false f = home_told _ t _ (item_inside q.ns q.definition.0) f

    search_told : (t : Tank) → Keeps t → Keeps (find_path Tank from_tank s q t).meter
    unfolding find_path
    search_told t f = start_told t _ f

-- what the tank of a question on accepted words keeps, for a limit in range
pub searched_told : (words : List ℕ) (s : Snapshot) → verdict words ≡ accept s → (q : Query) → 0 < q.limit → q.limit ≤ path_limit
    → (fuel : ℕ) → Told (length s.modules) (searched s q fuel).meter
unfolding searched filled
searched_told words s e q p l fuel = search_told s (accepted_ranges words s e) q p l (filled fuel)
    (record { left = omega arith; sought = omega arith })
