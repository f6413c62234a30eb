-- The local search with one set that is changed and given back answers as the one that passes its pairs down.
use mathlib.Core.Path.{◌≡◌, refl, ap, sym, ◌∙◌}
use Prim.Native.Nat.{ℕ, zero, suc}
use mathlib.Core.List.{List, [], ◌∷◌, ◌++◌, append-nil}
use mathlib.Core.Bool.{Bool, true, false, ◌&&◌, ◌||◌, not, false≢true, or_comm}
use Rattle.std.specs.Prelude.{Option, None, Some}
use lib.Dec.{eqb}
use lib.Seq.{append_snoc}
use borrow.Author.Tests.{eqb-true}
use Rattle.snapshot.specs.Lists.{any}
use Rattle.snapshot.specs.Records.{Snapshot, Scope}
use Rattle.accept.proofs.Bools.{or_none_lem}
use Rattle.hir_def.specs.Finds.{select}
use Rattle.hir_def.specs.Items.{same_item, module_item}
use Rattle.hir_def.specs.declared.Item.{Item}
use Rattle.hir_def.proofs.Same.{same_item_lem, same_self}
use Rattle.find_path_choice.specs.Choices.{Choice}
use Rattle.find_path_spec.specs.declared.FindPathCtx.{FindPathCtx}
use Rattle.find_path_choice.specs.Choices.{nothing}
use Rattle.find_path_spec.specs.Walk.{Level, has, visited, start_from, leads_to, unmet, walk}
use Rattle.find_path_spec.specs.Local.{LocalSearch, offer_entry, importable_name, location, each_location, calculate_best_path_local, or_local}
use Rattle.find_path_spec.specs.Local.{find_path_for_module_local}
use Rattle.find_path_spec.specs.Search.{local_to, search_local, best_local}
use Rattle.find_path_spec.specs.laws.Visited.{Pairs, no_pairs, insert, remove, remove_all, Handed, SetSearch, callback, worklist}
use Rattle.find_path_spec.specs.laws.Visited.{best_in_set, or_in_set, module_in_set, set_to, search_in_set, OneSet, Enough}
use Rattle.find_path_spec.proofs.laws.Walks.{has_snoc, locations_more}

-- tests

bool_none : (a x : Bool) → x ≡ (a && false) || x
bool_none true x = refl
bool_none false x = refl

bool_insert : (a p q x : Bool) → (a && p) || ((a && q) || x) ≡ (a && (q || p)) || x
bool_insert false p q x = refl
bool_insert true true true x = refl
bool_insert true true false x = refl
bool_insert true false true x = refl
bool_insert true false false x = refl

bool_keep : (a x : Bool) → x ≡ not (a && false) && x
bool_keep true x = refl
bool_keep false x = refl

bool_remove : (a p q x : Bool) → not (a && q) && (not (a && p) && x) ≡ not (a && (p || q)) && x
bool_remove false p q x = refl
bool_remove true true true x = refl
bool_remove true true false x = refl
bool_remove true false true x = refl
bool_remove true false false x = refl

bool_back : (a h x : Bool) → (a ≡ true → h ≡ true → x ≡ false) → not (a && h) && ((a && h) || x) ≡ x
bool_back false h x f = refl
bool_back true false x f = refl
bool_back true true x f = sym (f refl refl)

or_split : (a b c : Bool) → a || b ≡ true → (a ≡ true → c ≡ false) → (b ≡ true → c ≡ false) → c ≡ false
or_split true b c e f g = f refl
or_split false b c e f g = g e

removed_at : (v : Pairs) (item : Item) (ms : List ℕ) (i : Item) (n : ℕ) → remove_all v item ms i n ≡ not (same_item item i && has ms n) && v i n
unfolding remove_all remove has any
removed_at v item [] i n = bool_keep (same_item item i) (v i n)
removed_at v item (m ∷ ms) i n = removed_at (remove v item m) item ms i n ∙ bool_remove (same_item item i) (eqb n m) (has ms n) (v i n)

-- v is the set that a search for the item met
module _ (v : Pairs) (item : Item) where
  -- the set while the search is under way, with d taken
  abbrev under : List ℕ → Pairs
  under d i n = (same_item item i && has d n) || v i n

  under_none : v ≡ under []
  unfolding has any
  under_none = λ k i n. bool_none (same_item item i) (v i n) k

  under_insert : (d : List ℕ) (m : ℕ) → insert (under d) item m ≡ under (d ++ (m ∷ []))
  unfolding insert
  under_insert d m =
      λ k i n.
      (bool_insert (same_item item i) (eqb n m) (has d n) (v i n) ∙ ap (λ (h : Bool). (same_item item i && h) || v i n) (sym (has_snoc d m n))) k

  under_met : (d : List ℕ) (m : ℕ) → under d item m ≡ v item m || has d m
  under_met d m = rw (same_self item) (or_comm (has d m) (v item m))

  outside_unmet : (d ms : List ℕ) → select (λ n. not (under d item n)) ms ≡ unmet (v item) d ms
  unfolding unmet
  outside_unmet d ms = λ k. select (λ n. not (under_met d n k)) ms

  -- what was taken was not visited before
  abbrev Fresh : List ℕ → Type 0
  Fresh d = (n : ℕ) → has d n ≡ true → v item n ≡ false

  fresh_more : (d : List ℕ) (m : ℕ) → Fresh d → v item m ≡ false → Fresh (d ++ (m ∷ []))
  fresh_more d m f e n h =
      or_split (has d n) (eqb n m) (v item n) (sym (has_snoc d m n) ∙ h) (f n) (λ p. ap (v item) (eqb-true n m p) ∙ e)

  under_back : (d : List ℕ) → Fresh d → remove_all (under d) item d ≡ v
  under_back d f =
      λ k i n.
      (removed_at (under d) item d i n
      ∙ bool_back (same_item item i) (has d n) (v i n) (λ p h. ap (λ (j : Item). v j n) (sym (same_item_lem item i p)) ∙ f n h)) k

  module _ (next : ℕ → List ℕ) where
    -- what the walk is still to take
    emits : ℕ → List ℕ → List ℕ → List ℕ
    emits zero d ws = []
    emits (suc b) d [] = []
    emits (suc b) d (m ∷ ws) =
        elim (v item m || has d m) [
          | true ↦ emits b d ws
          | false ↦ m ∷ emits b (d ++ (m ∷ [])) (ws ++ unmet (v item) (d ++ (m ∷ [])) (next m))
        ]

    emits_step : (b : ℕ) (d : List ℕ) (m : ℕ) (ws : List ℕ) → ((e us : List ℕ) → walk next (v item) b e us ≡ e ++ emits b e us)
        → (t : Bool) → v item m || has d m ≡ t
        → walk next (v item) (suc b) d (m ∷ ws) ≡ d ++ emits (suc b) d (m ∷ ws)
    unfolding walk emits
    emits_step b d m ws ih true e = rw (walk, emits, e) (ih d ws)
    emits_step b d m ws ih false e = rw (walk, emits, e) (ih (d ++ (m ∷ [])) _ ∙ append_snoc d m _)

    walk_emits : (b : ℕ) (d ws : List ℕ) → walk next (v item) b d ws ≡ d ++ emits b d ws
    unfolding walk emits
    walk_emits zero d ws = sym (append-nil d)
    walk_emits (suc b) d [] = sym (append-nil d)
    walk_emits (suc b) d (m ∷ ws) = emits_step b d m ws (walk_emits b) (v item m || has d m) refl

module _ (s : Snapshot) (x : FindPathCtx) (turns : ℕ) where
  -- a search that gives back its set
  abbrev Back : SetSearch → Type 0
  Back rec = (left : ℕ) (v : Pairs) (m : ℕ) → (rec left v m).set ≡ v

  module _ (rec : SetSearch) (back : Back rec) (left : ℕ) where
    callback_back : (best : Choice) (v : Pairs) (m : ℕ) (o : Option Scope) → (callback s x turns rec left best v m o).set ≡ v
    unfolding callback
    callback_back best v m None = refl
    callback_back best v m (Some e) = back _ v m

    module _ (v : Pairs) (item : Item) where
      -- each module in turn, with the set passed down
      each_pair : List ℕ → Choice → List ℕ → Choice
      each_pair d best [] = best
      each_pair d best (m ∷ ms) =
          each_pair (d ++ (m ∷ [])) (callback s x turns rec left best (under v item (d ++ (m ∷ []))) m (importable_name s x item m)).choice ms

      abbrev Loops : ℕ → Type 0
      Loops b = (d ws : List ℕ) (best : Choice) → Fresh v item d
          → worklist s x turns rec left item b d ws best (under v item d)
          ≡ record { choice = each_pair d best (emits v item (leads_to s x.from.0) b d ws); set = v }

      loops_end : (d : List ℕ) (best : Choice) → Fresh v item d
          → ◌≡◌ {A = Handed} (record { choice = best; set = remove_all (under v item d) item d }) (record { choice = best; set = v })
      loops_end d best f = λ i. record { choice = best; set = under_back v item d f i }

      loops_step : (b : ℕ) → Loops b → (d : List ℕ) (m : ℕ) (ws : List ℕ) (best : Choice) → Fresh v item d → (t : Bool) → v item m || has d m ≡ t
          → worklist s x turns rec left item (suc b) d (m ∷ ws) best (under v item d)
          ≡ record { choice = each_pair d best (emits v item (leads_to s x.from.0) (suc b) d (m ∷ ws)); set = v }
      unfolding worklist emits each_pair
      loops_step b ih d m ws best f true e =
          let u : under v item d item m ≡ true = under_met v item d m ∙ e in rw (worklist, u, emits, e) (ih d ws best f)
      loops_step b ih d m ws best f false e =
          let u : under v item d item m ≡ false = under_met v item d m ∙ e in
          let d' = d ++ (m ∷ []) in
          let o = importable_name s x item m in
          let i = under_insert v item d m in
          let r : callback s x turns rec left best (insert (under v item d) item m) m o
          ≡ record { choice = (callback s x turns rec left best (under v item d') m o).choice; set = under v item d' } =
          ap (λ (w : Pairs). callback s x turns rec left best w m o) i
          ∙ (λ k. record {
            choice = (callback s x turns rec left best (under v item d') m o).choice;
            set = callback_back best
                (under v item d') m o k;
          }) in
          rw (worklist, u, emits, e, r, outside_unmet v item d' (leads_to s x.from.0 m))
          (ih d' _ _ (fresh_more v item d m f (or_none_lem (v item m) (has d m) e).0))

      loops : (b : ℕ) → Loops b
      unfolding worklist emits each_pair
      loops zero d ws best f = loops_end d best f
      loops (suc b) d [] best f = loops_end d best f
      loops (suc b) d (m ∷ ws) best f = loops_step b (loops b) d m ws best f (v item m || has d m) refl

      best_loops : best_in_set s x turns rec left v item
          ≡ record { choice = each_pair [] nothing (walk (leads_to s x.from.0) (v item) turns [] (start_from s x.from.0)); set = v }
      unfolding best_in_set has any
      best_loops =
          ap (λ (w : Pairs). worklist s x turns rec left item turns [] (start_from s x.from.0) nothing w) (under_none v item)
          ∙ loops turns [] (start_from s x.from.0) nothing (λ n h. absurd (false≢true h))
          ∙ ap {B = Handed} (λ (ms : List ℕ). record { choice = each_pair [] nothing ms; set = v })
          (sym (walk_emits v item (leads_to s x.from.0) turns [] (start_from s x.from.0)))

  -- a search that answers as the one with the pairs passed down
  abbrev Same : SetSearch → LocalSearch → Type 0
  Same rec plain = (left : ℕ) (ls : List Level) (m : ℕ) → (rec left (visited ls) m).choice ≡ plain left ls m

  module _ (rec : SetSearch) (back : Back rec) (plain : LocalSearch) (same : Same rec plain) where
    callback_same : (left : ℕ) (ls : List Level) (best : Choice) (m : ℕ) (o : Option Scope)
        → (callback s x turns rec left best (visited ls) m o).choice ≡ location s x plain left ls best m o
    unfolding callback location
    callback_same left ls best m None = refl
    callback_same left ls best m (Some e) = ap (λ (c : Choice). offer_entry s x best c e) (same _ ls m)

    -- the set under way is the pairs with one level more
    each_same : (left : ℕ) (ls : List Level) (item : Item) (d : List ℕ) (best : Choice) (ms : List ℕ)
        → each_pair rec back left (visited ls) item d best ms ≡ each_location s x plain left ls item d best ms
    unfolding each_pair each_location visited any
    each_same left ls item d best [] = refl
    each_same left ls item d best (m ∷ ms) =
        ap (λ (c : Choice). each_pair rec back left (visited ls) item (d ++ (m ∷ [])) c ms)
        (callback_same left (record { item = item; modules = d ++ (m ∷ []) } ∷ ls) best m (importable_name s x item m))
        ∙ each_same left ls item (d ++ (m ∷ [])) _ ms

    module _ (enough : Enough s x turns) where
      best_same : (left : ℕ) (ls : List Level) (item : Item)
          → (best_in_set s x turns rec left (visited ls) item).choice ≡ calculate_best_path_local s x plain left ls item
      unfolding calculate_best_path_local
      best_same left ls item =
          ap (λ (h : Handed). h.choice) (best_loops rec back left (visited ls) item)
          ∙ each_same left ls item [] nothing _
          ∙ ap (each_location s x plain left ls item [] nothing) (locations_more s x.from.0 (visited ls item) turns enough)

      or_same : (left : ℕ) (ls : List Level) (m : ℕ) (c : Choice) (b : Bool)
          → (or_in_set s x turns rec left (visited ls) m c b).choice ≡ or_local s x plain left ls m c b
      unfolding or_in_set or_local
      or_same left ls m c true = refl
      or_same left ls m c false = best_same left ls (module_item m)

  best_back : (rec : SetSearch) → Back rec → (left : ℕ) (v : Pairs) (item : Item) → (best_in_set s x turns rec left v item).set ≡ v
  best_back rec back left v item = ap (λ (h : Handed). h.set) (best_loops rec back left v item)

  or_back : (rec : SetSearch) → Back rec → (left : ℕ) (v : Pairs) (m : ℕ) (c : Choice) (b : Bool) → (or_in_set s x turns rec left v m c b).set ≡ v
  unfolding or_in_set
  or_back rec back left v m c true = refl
  or_back rec back left v m c false = best_back rec back left v (module_item m)

  set_to_back : (d : ℕ) → Back (set_to s x turns d)
  unfolding set_to module_in_set
  set_to_back zero left v m = refl
  set_to_back (suc d) zero v m = refl
  set_to_back (suc d) (suc l) v m = or_back (set_to s x turns d) (set_to_back d) (suc l) v m _ _

  search_back : Back (search_in_set s x turns)
  unfolding search_in_set
  search_back left v m = set_to_back left left v m

  module _ (enough : Enough s x turns) where
    set_to_same : (d : ℕ) → Same (set_to s x turns d) (local_to s x d)
    unfolding set_to module_in_set local_to find_path_for_module_local
    set_to_same zero left ls m = refl
    set_to_same (suc d) zero ls m = refl
    set_to_same (suc d) (suc l) ls m =
        or_same (set_to s x turns d) (set_to_back d) (local_to s x d) (set_to_same d) enough (suc l) ls m _ _

    search_same : Same (search_in_set s x turns) (search_local s x)
    unfolding search_in_set search_local
    search_same left ls m = set_to_same left left ls m

    -- The Rust's one changing set gives the answers of the pairs that are passed down, and every local search gives it back as it met it.
    pub one_set : OneSet s x turns
    unfolding best_local no_pairs visited any
    one_set =
        record {
          given = best_back (search_in_set s x turns) search_back;
          same = best_same (search_in_set s x turns) search_back (search_local s x) search_same enough;
          whole = λ left item i. record {
            choice = best_same (search_in_set s x turns) search_back (search_local s x) search_same enough left [] item i;
            set = best_back (search_in_set s x turns) search_back left no_pairs item i;
          };
        }
