-- The local search gives alike choices.
use Prim.Native.Nat.{ℕ, zero, suc, ◌<◌}
use mathlib.Core.Path.{◌≡◌, refl, sym, ◌∙◌, ap, ap₂, subst}
use mathlib.Core.List.{List, [], ◌∷◌, ◌++◌, map, map-append}
use mathlib.Core.Bool.{Bool, true, false, ◌&&◌, ◌||◌, not}
use Rattle.std.specs.Prelude.{Option}
use lib.Dec.{eqb}
use lib.ListN.{length}
use Rattle.snapshot.specs.Lists.{any}
use Rattle.snapshot.specs.Records.{Snapshot, Scope}
use Rattle.accept.specs.Valid.{Valid, Each, none, more}
use Rattle.accept.proofs.Bools.{each_snoc}
use Rattle.hir_def.specs.Items.{module_item}
use Rattle.module_tree.specs.rules.Visibility.{sees}
use Rattle.hir_def.specs.ItemScope.{is_declared}
use Rattle.hir_def.specs.declared.Item.{Item}
use Rattle.find_path_choice.specs.Choices.{Choice}
use Rattle.find_path_choice.specs.Choices.{via_local, step_by, nothing, length_left}
use Rattle.find_path_spec.specs.declared.FindPathCtx.{FindPathCtx}
use Rattle.find_path_spec.specs.Walk.{Level, visited, find_local_import_locations}
use Rattle.find_path_spec.specs.Rules.{module_rules}
use Rattle.find_path_spec.specs.Local.{LocalSearch, offer, offer_entry, is_importable, entry_if, importable_name, location, each_location}
use Rattle.find_path_spec.specs.Local.{calculate_best_path_local, or_local, find_path_for_module_local}
use Rattle.find_path_spec.specs.Search.{local_to, search_local, best_local}
use Rattle.join_rules.specs.Joined.{Numbers}
use Rattle.embedding.specs.Embeds.{Embeds, item_to, context_to}
use Rattle.embedding.proofs.Chains.{eqb_moved, sees_moved}
use Rattle.embedding.proofs.Lookups.{Both, neither, each, Has, same_moved}
use Rattle.embedding.proofs.Walks.{has_moved, locations_moved, locations_known}
use Rattle.embedding.proofs.Nameres.{Like, Same, name_like, preferred_moved}
use Rattle.embedding.proofs.Choices.{Alike, by_same, nothing_alike, length_left_alike, try_select_alike}
use Rattle.embedding.proofs.Rules.{Sits, kept_same, module_rules_alike}

-- a search under way, with its numbers moved
abbrev level_to : Numbers → Level → Level
level_to e l = record { item = item_to e l.item; modules = map e.modules l.modules }

abbrev HasLevel : Snapshot → Level → Type 0
HasLevel s l = Has s l.item × Each (λ m. m < length s.modules) l.modules

module _ (e : Numbers) (s u : Snapshot) (em : Embeds e s u) (v : Valid s) (w : Valid u) where
  abbrev n : ℕ
  n = length s.modules

  visited_moved : (ls : List Level) → Each (HasLevel s) ls → (item : Item) → Has s item → (m : ℕ) → m < n
      → visited (map (level_to e) ls) (item_to e item) (e.modules m) ≡ visited ls item m
  unfolding visited any
  visited_moved [] none item h m l = refl
  visited_moved (k ∷ ls) (more b r) item h m l =
      ap₂ (λ i j. i || j)
      (ap₂ (λ i j. i && j) (same_moved e s u em v k.item item b.0 h)
      (has_moved e.modules n (eqb_moved e.modules n em.modules_apart) k.modules m b.1 l))
      (visited_moved ls r item h m l)

  module _ (x : FindPathCtx) (at : Sits s x) where
    abbrev y : FindPathCtx
    y = context_to e x

    abbrev from : ℕ
    from = x.from.0

    -- local searches that give alike choices
    abbrev AlikeLocal : LocalSearch → LocalSearch → Type 0
    AlikeLocal f g =
        (left : ℕ) (ls : List Level) → Each (HasLevel s) ls → (m : ℕ) → m < n → Alike e s (f left ls m) (g left (map (level_to e) ls) (e.modules m))

    pub offer_alike : {b b' c c' : Choice} → Alike e s b b' → Alike e s c c' → (k k' t t' : ℕ) → k < length s.names → k' ≡ e.names k
        → Alike e s (offer s x b c k t) (offer u y b' c' k' t')
    unfolding offer
    offer_alike {b = a} {b' = a'} {c = o} {c' = o'} b c k k' t t' l q =
        subst (λ i. Alike e s (offer s x a o k t) (offer u y a' o' i t')) (sym q)
        (by_same c.found (try_select_alike e s u em b c x.prefer_prelude k l t t') b)

    importable_moved : Same e s u em v w (is_importable s x) (is_importable u y)
    importable_moved c d f a =
        ap₂ (λ i j. i && j) (ap (sees u (e.modules from)) a ∙ sees_moved e s u em v w c from at.from f)
        (ap (λ (z : Scope). is_declared z || not (eqb z.visibility 3)) a)

    entry_if_moved : {a b : Option Scope} → Both (Like e s u em v w) a b → Both (Like e s u em v w) (entry_if s x a) (entry_if u y b)
    unfolding entry_if
    entry_if_moved neither = neither
    entry_if_moved (each {x = c} {z = d} r) = kept_same (is_importable s x c) (is_importable u y d) (importable_moved c d r.0 r.1) c d r

    -- the entry by which the viewer can import the item
    pub importable_name_moved : (item : Item) → Has s item → (m : ℕ) → m < n
        → Both (Like e s u em v w) (importable_name s x item m) (importable_name u y (item_to e item) (e.modules m))
    unfolding importable_name
    importable_name_moved item h m l =
        entry_if_moved (preferred_moved e s u em v w item h m l x.fresh (is_importable s x)
        (is_importable u y) importable_moved (name_like e s u em v w item h m l))

    module _ (f g : LocalSearch) (fg : AlikeLocal f g) (left : ℕ) where
      location_alike : (ls : List Level) → Each (HasLevel s) ls → {b b' : Choice} → Alike e s b b' → (m : ℕ) → m < n → {a a' : Option Scope}
          → Both (Like e s u em v w) a a'
          → Alike e s (location s x f left ls b m a) (location u y g left (map (level_to e) ls) b' (e.modules m) a')
      unfolding location offer_entry
      location_alike ls k b m l neither = b
      location_alike ls k {b = c} {b' = c'} b m l (each {x = i} {z = j} r) =
          let ks = map (level_to e) ls in
          let o = f (length_left left c) ls m in
          let q = subst (λ d. Alike e s o (g d ks (e.modules m))) (sym (length_left_alike e s u em b left)) (fg (length_left left c) ls k m l) in
          offer_alike b q i.name j.name (step_by via_local i.place) (step_by via_local j.place) r.0.name
          (ap (λ (z : Scope). z.name) r.1)

      module _ (ls : List Level) (ks : Each (HasLevel s) ls) (item : Item) (h : Has s item) where
        each_location_alike : (done : List ℕ) → Each (λ m. m < n) done → {b b' : Choice} → Alike e s b b' → (ms : List ℕ) → Each (λ m. m < n) ms
            → Alike e s (each_location s x f left ls item done b ms)
            (each_location u y g left (map (level_to e) ls) (item_to e item) (map e.modules done) b' (map e.modules ms))
        unfolding each_location
        each_location_alike done d b [] none = b
        each_location_alike done d {b = c} {b' = c'} b (m ∷ ms) (more l r) =
            let d2 = each_snoc d l in
            let now = done ++ (m ∷ []) in
            let there = map (level_to e) ls in
            let a = location_alike (record { item = item; modules = now } ∷ ls) (more (h, d2) ks) b m l (importable_name_moved item h m l) in
            subst
            (λ k. Alike e s (each_location s x f left ls item done c (m ∷ ms))
            (each_location u y g left there (item_to e item) k
            (location u y g left (record { item = item_to e item; modules = k } ∷ there) c' (e.modules m)
            (importable_name u y (item_to e item) (e.modules m))) (map e.modules ms)))
            (map-append e.modules done (m ∷ [])) (each_location_alike now d2 a ms r)

        -- `calculate_best_path_local`
        pub best_path_local_alike : Alike e s (calculate_best_path_local s x f left ls item)
            (calculate_best_path_local u y g left (map (level_to e) ls) (item_to e item))
        unfolding calculate_best_path_local
        best_path_local_alike =
            let marks = visited_moved ls ks item h in
            let seen = visited ls item in
            let met = visited (map (level_to e) ls) (item_to e item) in
            subst (λ ms. Alike e s (calculate_best_path_local s x f left ls item)
            (each_location u y g left (map (level_to e) ls) (item_to e item) [] nothing ms))
            (sym (locations_moved e s u em v w from at.from seen met marks))
            (each_location_alike [] none (nothing_alike e s u em) (find_local_import_locations s from seen)
            (locations_known e s u em v w from at.from seen met marks))

    module _ (f g : LocalSearch) (fg : AlikeLocal f g) where
      or_local_alike : (left : ℕ) (ls : List Level) → Each (HasLevel s) ls → (m : ℕ) → m < n → {c d : Choice} → Alike e s c d → (b : Bool)
          → Alike e s (or_local s x f left ls m c b) (or_local u y g left (map (level_to e) ls) (e.modules m) d b)
      unfolding or_local item_to
      or_local_alike left ls ks m l a true = a
      or_local_alike left ls ks m l a false = best_path_local_alike f g fg left ls ks (module_item m) l

      module_local_alike : AlikeLocal (find_path_for_module_local s x f) (find_path_for_module_local u y g)
      unfolding find_path_for_module_local
      module_local_alike zero ls ks m l = nothing_alike e s u em
      module_local_alike (suc left) ls ks m l =
          let a = module_rules_alike e s u em v w x at m l false in
          subst (λ b. Alike e s (find_path_for_module_local s x f (suc left) ls m)
          (or_local u y g (suc left) (map (level_to e) ls) (e.modules m) (module_rules u y false (e.modules m)) b))
          (sym a.found) (or_local_alike (suc left) ls ks m l a (module_rules s x false m).found)

    local_to_alike : (d : ℕ) → AlikeLocal (local_to s x d) (local_to u y d)
    unfolding local_to
    local_to_alike zero left ls ks m l = nothing_alike e s u em
    local_to_alike (suc d) left ls ks m l = module_local_alike (local_to s x d) (local_to u y d) (local_to_alike d) left ls ks m l

    pub search_local_alike : AlikeLocal (search_local s x) (search_local u y)
    unfolding search_local
    search_local_alike left ls ks m l = local_to_alike left left ls ks m l

    -- the local search that a charged one makes
    pub best_local_alike : (left : ℕ) (item : Item) → Has s item → Alike e s (best_local s x left item) (best_local u y left (item_to e item))
    unfolding best_local
    best_local_alike left item h = best_path_local_alike (search_local s x) (search_local u y) search_local_alike left [] none item h
