-- The search with a tank against one that always goes on: they go together until the tank is found empty.
use mathlib.Core.Path.{◌≡◌, refl, ap, sym, subst}
use Prim.Native.Nat.{ℕ, zero, suc, ◌+◌}
use native.Mathlib.Omega.{arith}
use mathlib.Core.List.{List, [], ◌∷◌}
use mathlib.Core.Bool.{Bool, true, false, true≢false}
use Rattle.std.specs.Prelude.{Option, None, Some}
use Rattle.snapshot.specs.Records.{Snapshot, Dependency, Definition, Import}
use Rattle.hir_def.specs.Items.{types, item_of, module_item}
use Rattle.hir_def.specs.Nameres.{lang_of, sysroot_first}
use Rattle.hir_def.specs.ImportMap.{import_info_for, is_hidden}
use Rattle.hir_def.specs.declared.Item.{Item}
use Rattle.hir_def.specs.declared.Item.TheVariants.{Mod, Def}
use Rattle.find_path_choice.specs.Choices.{Choice}
use Rattle.find_path_spec.specs.declared.Tank.{Tank}
use Rattle.find_path_spec.specs.declared.FindPathCtx.{FindPathCtx}
use Rattle.find_path_spec.specs.declared.Query.{Query}
use Rattle.find_path_spec.specs.Rules.{context_of}
use Rattle.find_path_spec.specs.Meters.{Charged, Charge, go, drained, draw, from_tank}
use Rattle.find_path_spec.specs.Charged.{Out, Search, Inner, is_stable, langs, one_or_none, variant_of, offer_import, find_import, find_imports}
use Rattle.find_path_spec.specs.Charged.{find_in_dep}
use Rattle.find_path_spec.specs.Charged.{find_in_deps, find_in_sysroot, go_on, after_charge, calculate_best_path, or_charged, find_path_for_module}
use Rattle.find_path_spec.specs.Charged.{after_enum, via_enum}
use Rattle.find_path_spec.specs.Charged.{or_enum, by_name, of_module, find_path_inner}
use Rattle.find_path_spec.specs.Search.{best_local, module_to, search_module, item_to, search_item, from_home, from_item, find_path}
use Rattle.find_path_spec.proofs.laws.Keeps.{left_by, KeptBy, sysroot_keeps, go_keeps, enum_keeps, module_to_keeps, module_search_keeps}

-- the tank held F at first, is used up, and was first found empty by a charge that was told l and m
pub record Dry (F l m : ℕ) (t : Tank) : Type 0 where
  pub none_left : t.fuel ≡ 0
  pub all_spent : t.spent ≡ F
  pub said : t.empty ≡ true
  pub left_is : t.left ≡ l
  pub sought_is : t.sought ≡ m

-- the tank held F at first, has given n, and was not found empty
pub record Sync (F : ℕ) (t : Tank) (n : ℕ) : Type 0 where
  pub spent_is : t.spent ≡ n
  pub rest : t.fuel + n ≡ F
  pub silent : t.empty ≡ false
  pub no_left : t.left ≡ 0
  pub no_sought : t.sought ≡ 0

-- A meter that always goes on and counts. `Past F l m` says that its charge number F, from 0, was made, and was told l and m.
pub record Free (C : Type 0) (charge : Charge C) (size : C → ℕ) (Past : ℕ → ℕ → ℕ → C → Type 0) : Type 0 where
  pub next : ℕ → ℕ → C → C
  pub goes : (left sought : ℕ) (c : C) → go (next left sought c) ≡ charge left sought c
  pub grows : (left sought : ℕ) (c : C) → size (next left sought c) ≡ size c + 1
  pub meets : (F left sought : ℕ) (c : C) → size c ≡ F → Past F left sought (next left sought c)
  pub stays : (F l m left sought : ℕ) (c : C) → Past F l m c → Past F l m (next left sought c)

-- the same choice and the same count, or a tank that was found empty and a count past F
pub data Sim (C : Type 0) (size : C → ℕ) (Past : ℕ → ℕ → ℕ → C → Type 0) (F : ℕ) (t : Out Tank) (c : Out C) : Type 0 where
  same : t.choice ≡ c.choice → Sync F t.meter (size c.meter) → Sim C size Past F t c
  dry : (l m : ℕ) → Dry F l m t.meter → Past F l m c.meter → Sim C size Past F t c

drained_first : (F left sought : ℕ) (t : Tank) (e : Bool) → e ≡ false → t.spent ≡ F → Dry F left sought (drained left sought t e)
unfolding drained
drained_first F left sought t true h k = absurd (true≢false h)
drained_first F left sought t false h k = record { none_left = refl; all_spent = k; said = refl; left_is = refl; sought_is = refl }

drained_dry : (F l m left sought : ℕ) (t : Tank) (e : Bool) → e ≡ true → Dry F l m t → Dry F l m (drained left sought t e)
unfolding drained
drained_dry F l m left sought t true e h = record {
  none_left = refl;
  all_spent = h.all_spent;
  said = refl;
  left_is = h.left_is;
  sought_is = h.sought_is;
}
drained_dry F l m left sought t false e h = absurd (true≢false (sym e))

draw_dry : (F l m left sought : ℕ) (t : Tank) (f : ℕ) → f ≡ 0 → Dry F l m t → Dry F l m (left_by (draw left sought t f))
unfolding draw
draw_dry F l m left sought t zero h k = drained_dry F l m left sought t t.empty k.said k
draw_dry F l m left sought t (suc f) h k = absurd (omega arith)

dry_stays : (F l m left sought : ℕ) (t : Tank) → Dry F l m t → Dry F l m (left_by (from_tank left sought t))
unfolding from_tank
dry_stays F l m left sought t h = draw_dry F l m left sought t t.fuel h.none_left h

module _ (C : Type 0) (charge : Charge C) (size : C → ℕ) (Past : ℕ → ℕ → ℕ → C → Type 0) (free : Free C charge size Past) where
  abbrev Both : ℕ → Out Tank → Out C → Type 0
  Both = Sim C size Past

  past_stays : (F l m left sought : ℕ) (c : C) → Past F l m c → Past F l m (left_by (charge left sought c))
  past_stays F l m left sought c h = subst (λ (z : Charged C). Past F l m (left_by z)) (free.goes left sought c) (free.stays F l m left sought c h)

  abbrev Alike : ℕ → Search Tank → Search C → Type 0
  Alike F rt rc = (left m : ℕ) (t : Tank) (n : C) → Sync F t (size n) → Both F (rt left m t) (rc left m n)

  abbrev AlikeWithin : ℕ → Inner Tank → Inner C → Type 0
  AlikeWithin F it ic = (item : Item) (t : Tank) (n : C) → Sync F t (size n) → Both F (it item t) (ic item n)

  module _ (F : ℕ) (s : Snapshot) where
    module _ (x : FindPathCtx) (here : ℕ → Item → Choice) (rt : Search Tank) (rc : Search C)
        (kt : (l m : ℕ) → KeptBy (Dry F l m) rt) (kc : (l m : ℕ) → KeptBy (Past F l m) rc) (al : Alike F rt rc) where
      offered : (a : Choice) (i : Import) (p : Out Tank) (q : Out C) → Both F p q
          → Both F (record { choice = offer_import s x a p.choice i; meter = p.meter })
          (record { choice = offer_import s x a q.choice i; meter = q.meter })
      offered a i p q (same e h) = same (cc) h
      offered a i p q (dry l' m' d o) = dry l' m' d o

      import_sim : (left : ℕ) (a : Out Tank) (c : Out C) (i : Import) (b : Bool) → Both F a c
          → Both F (find_import Tank from_tank s x here rt left a i b) (find_import C charge s x here rc left c i b)
      unfolding find_import
      import_sim left a c i true h = h
      import_sim left a c i false (same e h) =
          subst (λ (z : Choice). Both F (find_import Tank from_tank s x here rt left a i false)
          (find_import C charge s x here rc left (record { choice = z; meter = c.meter }) i false)) e
          (offered a.choice i _ _ (al _ i.container a.meter c.meter h))
      import_sim left a c i false (dry l' m' d o) =
          dry l' m' (kt l' m' _ i.container a.meter d) (kc l' m' _ i.container c.meter o)

      imports_sim : (left : ℕ) (a : Out Tank) (c : Out C) (is : List Import) → Both F a c
          → Both F (find_imports Tank from_tank s x here rt left a is) (find_imports C charge s x here rc left c is)
      unfolding find_imports
      imports_sim left a c [] h = h
      imports_sim left a c (i ∷ is) h =
          imports_sim left (find_import Tank from_tank s x here rt left a i (is_hidden i))
          (find_import C charge s x here rc left c i (is_hidden i)) is
          (import_sim left a c i _ h)

      deps_sim : (left : ℕ) (item : Item) (a : Out Tank) (c : Out C) (ds : List Dependency) → Both F a c
          → Both F (find_in_deps Tank from_tank s x here rt left item a ds) (find_in_deps C charge s x here rc left item c ds)
      unfolding find_in_deps find_in_dep
      deps_sim left item a c [] h = h
      deps_sim left item a c (d ∷ ds) h =
          deps_sim left item (find_in_dep Tank from_tank s x here rt left item a d) (find_in_dep C charge s x here rc left item c d) ds
          (imports_sim left a c (import_info_for s d.crate item) h)

      -- on to the next language, if the choice is not stable
      sysroot_next : (left : ℕ) (item : Item) (ls : List ℕ) (a : Out Tank) (c : Out C)
          → ((b : Bool) → Both F a c → Both F (find_in_sysroot Tank from_tank s x here rt left item a ls b)
          (find_in_sysroot C charge s x here rc left item c ls b))
          → Both F a c
          → Both F (find_in_sysroot Tank from_tank s x here rt left item a ls (is_stable a.choice))
          (find_in_sysroot C charge s x here rc left item c ls (is_stable c.choice))
      sysroot_next left item ls a c goes_on (same e h) =
          subst (λ (b : Bool). Both F (find_in_sysroot Tank from_tank s x here rt left item a ls b)
          (find_in_sysroot C charge s x here rc left item c ls (is_stable c.choice)))
          (ap is_stable (sym e)) (goes_on (is_stable c.choice) (same e h))
      sysroot_next left item ls a c goes_on (dry l' m' d o) =
          dry l' m' (sysroot_keeps Tank from_tank s (Dry F l' m') (dry_stays F l' m') x here rt (kt l' m') left item a ls (is_stable a.choice) d)
          (sysroot_keeps C charge s (Past F l' m') (past_stays F l' m') x here rc (kc l' m') left item c ls (is_stable c.choice) o)

      sysroot_sim : (left : ℕ) (item : Item) (a : Out Tank) (c : Out C) (ls : List ℕ) (b : Bool) → Both F a c
          → Both F (find_in_sysroot Tank from_tank s x here rt left item a ls b) (find_in_sysroot C charge s x here rc left item c ls b)
      unfolding find_in_sysroot
      sysroot_sim left item a c [] true h = h
      sysroot_sim left item a c [] false h = deps_sim left item a c (sysroot_first s x.from_crate.0) h
      sysroot_sim left item a c (l ∷ ls) true h = h
      sysroot_sim left item a c (l ∷ ls) false h =
          sysroot_next left item ls _ _
          (λ b k. sysroot_sim left item (find_in_deps Tank from_tank s x here rt left item a (one_or_none (lang_of s x.from_crate.0 l)))
          (find_in_deps C charge s x here rc left item c (one_or_none (lang_of s x.from_crate.0 l))) ls b k)
          (deps_sim left item a c (one_or_none (lang_of s x.from_crate.0 l)) h)

      go_sim : (left : ℕ) (item : Item) (t : Tank) (n : C) (a b : Bool) → Sync F t (size n)
          → Both F (go_on Tank from_tank s x here rt left item t a b) (go_on C charge s x here rc left item n a b)
      unfolding go_on
      go_sim left item t n true b h = same refl h
      go_sim left item t n false true h = sysroot_sim left item _ _ (langs x.prefer_no_std) false (same refl h)
      go_sim left item t n false false h = deps_sim left item _ _ _ (same refl h)

      goes_on : (left : ℕ) (item : Item) → Charged C → Out C
      goes_on left item = after_charge C charge s x here rc left item

      draw_sim : (t : Tank) (l : ℕ) (n : C) (left sought : ℕ) (item : Item) → t.spent ≡ size n → l + size n ≡ F → t.empty ≡ false
          → t.left ≡ 0 → t.sought ≡ 0
          → Both F (after_charge Tank from_tank s x here rt left item (draw left sought t l)) (goes_on left item (go (free.next left sought n)))
      unfolding draw after_charge goes_on
      draw_sim t zero n left sought item hs hl he hn hm =
          dry left sought (drained_first F left sought t t.empty he (omega arith))
          (go_keeps C charge s (Past F left sought) (past_stays F left sought) x here rc (kc left sought) left item _ _ _
          (free.meets F left sought n (omega arith)))
      draw_sim t (suc l) n left sought item hs hl he hn hm =
          let g = free.grows left sought n in
          go_sim left item _ _ _ _ (record { spent_is = omega arith; rest = omega arith; silent = he; no_left = hn; no_sought = hm })

      best_sim : (left : ℕ) (item : Item) (t : Tank) (n : C) → Sync F t (size n)
          → Both F (calculate_best_path Tank from_tank s x here rt left item t) (calculate_best_path C charge s x here rc left item n)
      unfolding calculate_best_path from_tank goes_on
      best_sim left item t n h =
          subst (λ (z : Charged C). Both F (calculate_best_path Tank from_tank s x here rt left item t) (goes_on left item z)) (free.goes left _ n)
          (draw_sim t t.fuel n left _ item h.spent_is h.rest h.silent h.no_left h.no_sought)

      or_sim : (left m : ℕ) (t : Tank) (n : C) (c : Choice) (b : Bool) → Sync F t (size n)
          → Both F (or_charged Tank from_tank s x here rt left m t c b) (or_charged C charge s x here rc left m n c b)
      unfolding or_charged
      or_sim left m t n c true h = same refl h
      or_sim left m t n c false h = best_sim left (module_item m) t n h

      module_sim : Alike F (find_path_for_module Tank from_tank s x here rt) (find_path_for_module C charge s x here rc)
      unfolding find_path_for_module
      module_sim zero m t n h = same refl h
      module_sim (suc l) m t n h = or_sim (suc l) m t n _ _ h

      module _ (it : Inner Tank) (ic : Inner C) (within : AlikeWithin F it ic) where
        enum_same : (item : Item) (v : Definition) (a : Out Tank) (c : Out C) (b : Bool) → a.choice ≡ c.choice → Sync F a.meter (size c.meter)
            → Both F (after_enum Tank from_tank s x here rt item v a b) (after_enum C charge s x here rc item v c b)
        unfolding after_enum
        enum_same item v a c true e h = same (cc) h
        enum_same item v a c false e h = best_sim x.max_len item a.meter c.meter h

        enum_sim : (item : Item) (v : Definition) (a : Out Tank) (c : Out C) → Both F a c
            → Both F (after_enum Tank from_tank s x here rt item v a a.choice.found) (after_enum C charge s x here rc item v c c.choice.found)
        enum_sim item v a c (same e h) =
            subst (λ (b : Bool). Both F (after_enum Tank from_tank s x here rt item v a b) (after_enum C charge s x here rc item v c c.choice.found))
            (ap (λ (z : Choice). z.found) (sym e)) (enum_same item v a c c.choice.found e h)
        enum_sim item v a c (dry l' m' d o) =
            dry l' m' (enum_keeps Tank from_tank s (Dry F l' m') (dry_stays F l' m') x here rt (kt l' m') item v a a.choice.found d)
            (enum_keeps C charge s (Past F l' m') (past_stays F l' m') x here rc (kc l' m') item v c c.choice.found o)

        via_sim : (item : Item) (t : Tank) (n : C) (v : Option Definition) → Sync F t (size n)
            → Both F (via_enum Tank from_tank s x here rt it item t v) (via_enum C charge s x here rc ic item n v)
        unfolding via_enum
        via_sim item t n None h = best_sim x.max_len item t n h
        via_sim item t n (Some v) h = enum_sim item v _ _ (within (item_of s types v.first) t n h)

        named_sim : (item : Item) (t : Tank) (n : C) (c : Choice) (b : Bool) → Sync F t (size n)
            → Both F (or_enum Tank from_tank s x here rt it item t c b) (or_enum C charge s x here rc ic item n c b)
        unfolding or_enum
        named_sim item t n c true h = same refl h
        named_sim item t n c false h = via_sim item t n (variant_of s item) h

        of_sim : (m : ℕ) (t : Tank) (n : C) (b : Bool) → Sync F t (size n)
            → Both F (of_module Tank from_tank s x here rt it m t b) (of_module C charge s x here rc ic m n b)
        unfolding of_module by_name
        of_sim m t n true h = named_sim (module_item m) t n _ _ h
        of_sim m t n false h = al x.max_len m t n h

        item_sim : AlikeWithin F (find_path_inner Tank from_tank s x here rt it) (find_path_inner C charge s x here rc ic)
        unfolding find_path_inner by_name
        item_sim (Mod m) t n h = of_sim m.0 t n x.is_std_item h
        item_sim (Def ns d) t n h = named_sim (Def ns d) t n _ _ h

    module _ (x : FindPathCtx) where
      module_to_sim : (d : ℕ) → Alike F (module_to Tank from_tank s x d) (module_to C charge s x d)
      unfolding module_to
      module_to_sim zero left m t n h = same refl h
      module_to_sim (suc d) left m t n h =
          module_sim x (best_local s x) (module_to Tank from_tank s x d) (module_to C charge s x d)
          (λ l m. module_to_keeps Tank from_tank s (Dry F l m) (dry_stays F l m) x d) (λ l m. module_to_keeps C charge s (Past F l m)
          (past_stays F l m) x d)
          (module_to_sim d) left m t n h

      module_search_sim : Alike F (search_module Tank from_tank s x) (search_module C charge s x)
      unfolding search_module
      module_search_sim left m t n h = module_to_sim left left m t n h

      item_to_sim : (d : ℕ) → AlikeWithin F (item_to Tank from_tank s x d) (item_to C charge s x d)
      unfolding item_to
      item_to_sim zero item t n h = same refl h
      item_to_sim (suc d) item t n h =
          item_sim x (best_local s x) (search_module Tank from_tank s x) (search_module C charge s x)
          (λ l m. module_search_keeps Tank from_tank s (Dry F l m) (dry_stays F l m) x)
          (λ l m. module_search_keeps C charge s (Past F l m) (past_stays F l m) x)
          module_search_sim (item_to Tank from_tank s x d) (item_to C charge s x d) (item_to_sim d) item t n h

    home_sim : (q : Query) (item : Item) (t : Tank) (n : C) (h : ℕ) → Sync F t (size n)
        → Both F (from_home Tank from_tank s q item t h) (from_home C charge s q item n h)
    unfolding from_home search_item
    home_sim q item t n zero k = same refl k
    home_sim q item t n (suc home) k = item_to_sim (context_of s q home) 2 item t n k

    start_sim : (q : Query) (t : Tank) (n : C) (b : Bool) → Sync F t (size n)
        → Both F (from_item Tank from_tank s q t b) (from_item C charge s q n b)
    unfolding from_item
    start_sim q t n true h = same refl h
    start_sim q t n false h = home_sim q _ t n _ h

    pub search_sim : (q : Query) (t : Tank) (n : C) → Sync F t (size n) → Both F (find_path Tank from_tank s q t) (find_path C charge s q n)
    unfolding find_path
    search_sim q t n h = start_sim q t n _ h
