-- The laws of the module search and of one location.
use Prim.Native.Nat.{ℕ, zero, suc, ◌+◌, ◌-◌, ◌≤◌, ◌<◌, ◌^◌}
use mathlib.Core.Path.{◌≡◌, refl, sym, ◌∙◌, ap, subst}
use mathlib.Core.List.{List, [], ◌∷◌, ◌++◌}
use mathlib.Core.Bool.{Bool, true, false, true≢false}
use Rattle.std.specs.Prelude.{Option, None, Some, ℕ}
use native.Mathlib.Omega.{arith}
use lib.ListN.{length, set, take}
use lib.Seq.{take-set-le}
use Rattle.snapshot.specs.Limits.{word_limit, path_limit}
use Rattle.snapshot.specs.Records.{Snapshot, Scope, scope_at}
use Rattle.snapshot.specs.Layouts.{snap_of, table_words}
use Rattle.snapshot.specs.declared.layout.Layout.{Layout}
use Rattle.check_records.specs.record_rules.Stands.{counts_in}
use Rattle.accept.specs.Post.{Reads}
use Rattle.accept.specs.Valid.{ScopeFits}
use Rattle.hir_def.specs.Items.{ns_of, module_item}
use Rattle.hir_def.specs.declared.Item.{Item}
use Rattle.hir_def.specs.declared.Item.TheVariants.{Mod, Def}
use Rattle.hir_def.specs.Entries.{entry_of}
use Rattle.find_path_choice.specs.declared.Choice.{Choice as Path}
use Rattle.find_path_choice.specs.Given.{chosen, given}
use Rattle.find_path_spec.specs.declared.FindPathCtx.{FindPathCtx}
use Rattle.find_path_choice.specs.Choices.{Choice, via_local, step_by, nothing, length_left, shorter_if, extended}
use Rattle.find_path_spec.specs.Walk.{Level, visited, find_local_import_locations}
use Rattle.find_path_spec.specs.Rules.{first_found, module_rules}
use Rattle.find_path_spec.specs.Local.{offer, offer_entry, importable_name, location, each_location}
use Rattle.find_path_spec.specs.Local.{calculate_best_path_local, or_local, find_path_for_module_local}
use Rattle.find_path_spec.specs.Search.{search_local, best_local}
use Rattle.find_path_spec.specs.Conditions.{Prepared, Asked, EntryFits, Chosen}
use Rattle.find_path_spec.proofs.laws.Unfold.{length_falls, local_more}
use Rattle.find_path_spec.proofs.laws.Bounds.{Fits, search_local_fits}
use Rattle.find_path_spec.proofs.laws.Tables.{names_short, same_snap, same_reads}
use Rattle.find_path_spec.specs.laws.Near.{ruled, near}
use Rattle.find_path_spec.proofs.laws.Fewer.{refuted, or_left}
use Rattle.find_path_spec.proofs.laws.Near.{near_none, near_step, far_nothing}
use Rattle.find_path_spec.proofs.laws.Kept.{farther}
use Rattle.find_path_local.specs.distances.Distances.{distance, Bounds}
use Rattle.find_path_local.specs.distances.Post.{Ready, Marked, Bounded}
use Rattle.find_path_levels.specs.declared.Stack.{Stack}
use Rattle.find_path_levels.specs.Levels.{Small, levels_of}
use Rattle.find_path_local.specs.tight_rows.Rows.{rows_at, row_at, last_place, row_of, row_place, row_flag, Entered, Row}
use Rattle.find_path_levels.specs.walk_once.Walked.{walk_at, walk_end, Walked}
use Rattle.find_path_levels.specs.walk_once.Post.{Kept}
use Rattle.find_path_levels.proofs.walk_once.Walking.{walked_at}
use Rattle.find_path_local.specs.near.Numbers.{failures_at}
use Rattle.find_path_local.specs.tight_rows.Post.{Cleared, Tight}
use Rattle.find_path_local.proofs.distances.Relaxing.{marked_again, walked_beyond}
use Rattle.find_path_local.proofs.tight_rows.Keeping.{imports_known, row_asked, row_kept, rows_put, rows_none}
use Rattle.find_path_local.specs.Post.{Searchable, Answered}
use Rattle.find_path_levels.proofs.Rows.{agree, take_less}
use Rattle.find_path_levels.proofs.Stacks.{chain_none, snap_at, reads_at}

-- a smaller length can be searched too
pub searchable_less : {W A : List ℕ} {l : Layout} {x : FindPathCtx} {left : ℕ} {s : Stack} (j : ℕ) → Searchable W A l x left s
    → j ≤ left → Searchable W A l x j s
searchable_less j y h =
    record {
      reads = y.reads;
      from = y.from;
      area = y.area;
      tables = y.tables;
      numbers = y.numbers;
      bounds = y.bounds;
      walked = y.walked;
      rows = y.rows;
      space = omega (arith, y.space);
      deep = omega (arith, y.deep);
      chain = y.chain;
      under = y.under;
    }

-- the numbers stay while the words below top do
pub bounds_at : {W A : List ℕ} {l : Layout} {x : FindPathCtx} {left : ℕ} {s : Stack} (B : List ℕ) → Searchable W A l x left s
    → take s.top B ≡ take s.top A
    → Bounds (snap_of W B l) x l.modules (distance B)
bounds_at {W} {A} {l} {x} {left} {s} B y e k m h n =
    let a = agree B A s.top e (table_words + m) (omega (arith, y.numbers, h, y.reads.tables.limited.modules)) in
    let b = y.bounds k m h (subst (λ (z : Snapshot). near z x [] k m ≡ true) (snap_at W A B l s.top y.reads y.tables e) n) in
    omega (arith, a, b)

-- ... and so does the walk
pub walked_kept : {W A : List ℕ} {l : Layout} {x : FindPathCtx} {left : ℕ} {s : Stack} (B : List ℕ) → Searchable W A l x left s
    → take s.top B ≡ take s.top A
    → Walked (snap_of W B l) x.from.0 B
walked_kept {W} {A} {l} {x} {left} {s} B y e =
    subst (λ (z : Snapshot). Walked z x.from.0 B) (sym (snap_at W A B l s.top y.reads y.tables e))
    (walked_at (snap_of W A l) x.from.0 A B y.walked (take_less B A walk_end s.top y.numbers e))

-- the items that are asked for fit a word
pub asked_small : (W A : List ℕ) (l : Layout) → Reads W A l → (item : Item) → Asked l item → Small item
unfolding ns_of
asked_small W A l r (Mod m) h = omega (arith, h.0, r.tables.limited.modules)
asked_small W A l r (Def ns d) h = (omega (arith, h.0, r.tables.limited.definitions), h.1)

pub module_small : (W A : List ℕ) (l : Layout) → Reads W A l → (m : ℕ) → m < l.modules → Small (module_item m)
module_small W A l r m h = omega (arith, h, r.tables.limited.modules)

two_up : (w : ℕ) → (w ≡ 0 → ⊥) → (w ≡ 1 → ⊥) → 2 ≤ w
two_up zero h h' = absurd (h refl)
two_up (suc zero) h h' = absurd (h' refl)
two_up (suc (suc w)) h h' = omega arith

-- with no length left but for the item's name nothing is found
module _ (S : Snapshot) (x : FindPathCtx) where
  location_one : (ls : List Level) (m : ℕ) (a : Option Scope) → location S x (search_local S x) 1 ls nothing m a ≡ nothing
  unfolding location offer_entry offer length_left shorter_if find_path_for_module_local
  location_one ls m None = refl
  location_one ls m (Some e) = ap (λ c. offer_entry S x nothing c e) (local_more S x 0 ls m)

  each_one : (ls : List Level) (item : Item) (done ms : List ℕ) → each_location S x (search_local S x) 1 ls item done nothing ms ≡ nothing
  unfolding each_location
  each_one ls item done [] = refl
  each_one ls item done (m ∷ ms) =
      ap (λ b. each_location S x (search_local S x) 1 ls item (done ++ (m ∷ [])) b ms)
      (location_one (record { item = item; modules = done ++ (m ∷ []) } ∷ ls) m (importable_name S x item m)) ∙ each_one ls item (done ++ (m ∷ [])) ms

  pub one_nothing : {left : ℕ} → left ≡ 1 → (ls : List Level) (item : Item) → nothing ≡ calculate_best_path_local S x (search_local S x) left ls item
  unfolding calculate_best_path_local
  one_nothing e ls item =
      sym (ap (λ n. calculate_best_path_local S x (search_local S x) n ls item) e
      ∙ each_one ls item [] (find_local_import_locations S x.from.0 (visited ls item)))

-- the module search
module _ (S : Snapshot) (x : FindPathCtx) (left : ℕ) (ls : List Level) (m : ℕ) where
  pub search_none : left ≡ 0 → nothing ≡ search_local S x left ls m
  unfolding find_path_for_module_local
  search_none e = sym (local_more S x left ls m ∙ ap (λ n. find_path_for_module_local S x (search_local S x) n ls m) e)

  search_or : (left ≡ 0 → ⊥) → search_local S x left ls m ≡ or_local S x (search_local S x) left ls m (module_rules S x false m)
      (module_rules S x false m).found
  unfolding find_path_for_module_local
  search_or h = local_more S x left ls m ∙ by left h
    where
      by : (n : ℕ) → (n ≡ 0 → ⊥)
          → find_path_for_module_local S x (search_local S x) n ls m ≡ or_local S x (search_local S x) n ls m (module_rules S x false m)
          (module_rules S x false m).found
      by zero h = absurd (h refl)
      by (suc n) h = refl

  pub search_rules : {c : Choice} → (left ≡ 0 → ⊥) → c ≡ module_rules S x false m → c.found ≡ true → c ≡ search_local S x left ls m
  unfolding or_local
  search_rules {c} h e t =
      e
      ∙ sym (search_or h ∙ ap (or_local S x (search_local S x) left ls m (module_rules S x false m)) (sym (ap (λ (z : Choice). z.found) e) ∙ t))

  pub search_on : {r : Choice} → (left ≡ 0 → ⊥) → ruled S x m ≡ false
      → r ≡ calculate_best_path_local S x (search_local S x) left ls (module_item m) → r ≡ search_local S x left ls m
  unfolding or_local
  search_on h t q = q ∙ sym (search_or h ∙ ap (or_local S x (search_local S x) left ls m (module_rules S x false m)) t)

pub unruled : (S : Snapshot) (x : FindPathCtx) (m : ℕ) → nothing ≡ module_rules S x false m → ruled S x m ≡ false
unruled S x m e = ap (λ (z : Choice). z.found) (sym e)

-- where none of the choices is one, the first of them is none
abbrev one_of : Bool → Choice → Choice → Choice
one_of b c d = elim b [ true ↦ c | false ↦ d ]

none_else : (b : Bool) (c d : Choice) → c.found ≡ b → (one_of b c d).found ≡ false → (d.found ≡ false → d ≡ nothing) → one_of b c d ≡ nothing
none_else true c d t e f = absurd (true≢false (sym t ∙ e))
none_else false c d t e f = f e

none_first : (cs : List Choice) → (first_found cs).found ≡ false → first_found cs ≡ nothing
unfolding first_found
none_first [] e = refl
none_first (c ∷ cs) e = none_else c.found c (first_found cs) refl e (none_first cs)

-- no rule answers for a module with a number above 1
far_unruled : (S : Snapshot) (x : FindPathCtx) (n : ℕ) (d : ℕ → ℕ) → Bounds S x n d → (m : ℕ) → m < n → 1 < d m → ruled S x m ≡ false
unfolding near
far_unruled S x n d b m known h = refuted (ruled S x m) (λ t. let o = b 1 m known (or_left (ruled S x m) _ t) in omega arith)

module _ (S : Snapshot) (x : FindPathCtx) (n : ℕ) (d : ℕ → ℕ) (m : ℕ) where
  pub rules_far : Bounds S x n d → m < n → {w : ℕ} → w ≡ d m → 1 < w → nothing ≡ module_rules S x false m
  unfolding module_rules
  rules_far b known e h = sym (none_first _ (far_unruled S x n d b m known (omega arith)))

-- a location whose search finds nothing changes nothing
idle : (S : Snapshot) (x : FindPathCtx) (left : ℕ) (ls : List Level) (best : Choice) (m : ℕ) (a : Option Scope)
    → search_local S x (length_left left best) ls m ≡ nothing
    → best ≡ location S x (search_local S x) left ls best m a
unfolding location offer_entry offer
idle S x left ls best m None c = refl
idle S x left ls best m (Some e) c = sym (ap (λ (z : Choice). offer_entry S x best z e) c)

-- one location
module _ (W A : List ℕ) (l : Layout) (x : FindPathCtx) (left : ℕ) (s : Stack) (some_left : 0 < left) (y : Searchable W A l x (left - 1) s)
    (best : Choice) (item : Item) (m : ℕ) where
  abbrev S : Snapshot
  S = snap_of W A l

  abbrev ls : List Level
  ls = levels_of A s.place s.depth

  abbrev here : Option Scope → Choice
  here a = location S x (search_local S x) left ls best m a

  -- with less left than the module's number nothing is found
  pub location_far : {j w : ℕ} → m < l.modules → j ≡ length_left left best → w ≡ distance A m → j < w → best ≡ here (importable_name S x item m)
  location_far {j} {w} known e q h =
      let out : near S x [] j m ≡ false = refuted _ (λ t. let b = y.bounds j m known t in omega arith) in
      let no : near S x ls j m ≡ false = refuted _ (λ t. true≢false (sym (near_none S x ls j m t) ∙ out)) in
      let c : search_local S x (length_left left best) ls m ≡ nothing = ap (λ i. search_local S x i ls m) (sym e) ∙ far_nothing S x j ls m no in
      idle S x left ls best m (importable_name S x item m) c

  pub location_none : {a : Option ℕ} → entry_of scope_at W a ≡ importable_name S x item m → a ≡ None → best ≡ here (importable_name S x item m)
  unfolding location
  location_none e q = sym (ap here (sym e ∙ ap (entry_of scope_at W) q))

  module _ {j : ℕ} (e : j ≡ length_left left best) where
    pub location_shorter : j < left
    location_shorter = rw e (length_falls left best some_left)

    pub location_call : Searchable W A l x j s
    location_call = searchable_less j y (omega (arith, location_shorter))

    module _ (B : List ℕ) {c : Option Path} (a : Answered W A l x s.top (search_local S x j ls m) B c) where
      pub location_reads : Reads W B l
      location_reads = reads_at W A B l s.top y.reads y.tables a.below

      fits : Fits S j (given c)
      fits = rw a.same (search_local_fits S x j ls m)

      pub location_few : (given c).count < 16
      location_few = omega (arith, fits.few, location_shorter, y.deep)

      pub location_steps : (given c).steps < 17
      location_steps = omega (arith, fits.once, location_few)

      pub location_text : (given c).path_text_len < 2 ^ 32
      location_text = omega (arith, fits.text (names_short W A l y.reads), location_few)

      pub location_some : {h : ℕ} {b : Option ℕ} {r : Option Path} → entry_of scope_at W b ≡ importable_name S x item m → b ≡ Some h
          → given r ≡ offer_entry (snap_of W B l) x best (given c) (scope_at W h) → Answered W A l x s.top (here (importable_name S x item m)) B r
      unfolding location
      location_some {h} {b} {r} p q o =
          record {
            same =
                o
                ∙ ap (λ (z : Snapshot). offer_entry z x best (given c) (scope_at W h)) (snap_at W A B l s.top y.reads y.tables a.below)
                ∙ ap (λ (z : Choice). offer_entry S x best z (scope_at W h)) (a.same ∙ ap (λ i. search_local S x i ls m) e)
                ∙ sym (ap here (sym p ∙ ap (entry_of scope_at W) q));
            below = a.below;
            rows = a.rows;
          }

-- the entry that was answered is in range
pub entry_at : (W : List ℕ) (l : Layout) {a : Option ℕ} {h : ℕ} → EntryFits W l a → a ≡ Some h → ScopeFits (counts_in l) (scope_at W h)
entry_at W l f e = subst (EntryFits W l) e f

-- a search whose answer does not depend on the levels
module _ (W A : List ℕ) (l : Layout) (x : FindPathCtx) (left : ℕ) (s : Stack) (y : Searchable W A l x left s) (m : ℕ)
    (known : m < l.modules) (t : Tight A s left m) where
  abbrev S₀ : Snapshot
  S₀ = snap_of W A l

  abbrev ls₀ : List Level
  ls₀ = levels_of A s.place s.depth

  tight_low : (j : ℕ) → near S₀ x [] j m ≡ true → left ≤ j
  tight_low j n = let b = y.bounds j m known n in omega (arith, b, t.number)

  -- it is the one with no levels
  tight_same : search_local S₀ x left ls₀ m ≡ search_local S₀ x left [] m
  tight_same = farther S₀ x l.modules (distance A) (imports_known W A l y.reads x) y.bounds left m known tight_low ls₀ t.farther

  row_here : {w : ℕ} → w ≡ row_at A m → Row W l S₀ x left m w
  row_here {w} e = subst (λ z. Row W l S₀ x left m z) (sym e) (subst (λ z. Row W l S₀ x z m (row_at A m)) (sym t.number) (y.rows m known))

  pub tight_none : {w : ℕ} → w ≡ row_at A m → w ≡ 1 → Answered W A l x s.top (search_local S₀ x left ls₀ m) A None
  tight_none e q = record { same = sym (tight_same ∙ (row_here e).nowhere q); below = refl; rows = y.rows }

  -- it was not searched yet
  module _ (some_left : 0 < left) (u : ruled S₀ x m ≡ false) (B : List ℕ) {r : Option Path} (size : length B ≡ length A)
      (a : Answered W A l x s.top (calculate_best_path_local S₀ x (search_local S₀ x) left ls₀ (module_item m)) B r) where
    made_same : given r ≡ search_local S₀ x left ls₀ m
    made_same = search_on S₀ x left ls₀ m (λ z. omega arith) u a.same

    abbrev S₁ : Snapshot
    S₁ = snap_of W B l

    sn₁ : S₁ ≡ S₀
    sn₁ = snap_at W A B l s.top y.reads y.tables a.below

    made_reads : Reads W B l
    made_reads = reads_at W A B l s.top y.reads y.tables a.below

    made_next : left ≡ suc (left - 1)
    made_next = omega arith

    pub made_asked : (given r).found ≡ true → (0 < (given r).steps) × ((given r).steps ≤ 17) × (last_place (given r) < word_limit)
    made_asked = row_asked W A l y.reads x (left - 1) left m made_next tight_low u (made_same ∙ tight_same) (omega (arith, y.deep))

    made_row : Row W l S₀ x left m (row_of (given r))
    made_row = row_kept W A l y.reads x (left - 1) left m made_next tight_low u (made_same ∙ tight_same) (omega (arith, y.deep))

    made_number : left ≡ distance B m
    made_number = t.number
        ∙ sym (agree B A s.top a.below (table_words + m) (omega (arith, y.numbers, known, y.reads.tables.limited.modules)))

    pub made_done : {w : ℕ} → w ≡ row_of (given r) → Answered W A l x s.top (search_local S₀ x left ls₀ m) (set B (rows_at + m) w) r
    made_done {w} e =
        record {
          same = made_same;
          below = take-set-le s.top B (rows_at + m) w (omega (arith, y.space)) ∙ a.below;
          rows =
              rows_put W B l x m w made_reads (size ∙ y.area) known a.rows
              (subst (λ (z : Snapshot). Row W l z x (distance B m) m w) (sym sn₁)
              (subst (λ z. Row W l S₀ x z m w) made_number (subst (λ z. Row W l S₀ x left m z) (sym e) made_row)));
        }

  -- it was searched, and an entry is known
  module _ {w : ℕ} (e : w ≡ row_at A m) (h : (w ≡ 0 → ⊥)) (h' : (w ≡ 1 → ⊥)) where
    pub row_two : 2 ≤ w
    row_two = two_up w h h'

    pub row_entered : Entered l S₀ x left m (scope_at W (row_place w)) (row_flag w)
    row_entered = (row_here e).somewhere row_two

    pub owner_known : {c : ℕ} → c ≡ (scope_at W (row_place w)).owner → c < l.modules
    owner_known q = subst (λ z. z < l.modules) (sym q) row_entered.fits.owner

    pub owner_call : Searchable W A l x (left - 1) s
    owner_call = searchable_less (left - 1) y (omega arith)

    owner_same : 0 < left → search_local S₀ x (left - 1) ls₀ (scope_at W (row_place w)).owner ≡ search_local S₀ x (left - 1) []
        (scope_at W (row_place w)).owner
    owner_same more =
        farther S₀ x l.modules (distance A) (imports_known W A l y.reads x) y.bounds (left - 1) _ row_entered.fits.owner
        (λ j n. let o = tight_low (suc j) (near_step S₀ x [] j m _ (record { taken = row_entered.taken; entry = row_entered.entry }) n)
        in omega arith)
        ls₀ (λ i o. let f = t.farther i o in omega arith)

    module _ (some_left : 0 < left) {o : ℕ} (q : o ≡ (scope_at W (row_place w)).owner) (B : List ℕ) {c : Option Path}
        (a : Answered W A l x s.top (search_local S₀ x (left - 1) ls₀ o) B c) where
      owner_choice : given c ≡ search_local S₀ x (left - 1) [] (scope_at W (row_place w)).owner
      owner_choice = a.same ∙ ap (λ z. search_local S₀ x (left - 1) ls₀ z) q ∙ owner_same some_left

      pub owner_reads : Reads W B l
      owner_reads = reads_at W A B l s.top y.reads y.tables a.below

      -- it has a path
      pub owner_found : {r : Option Path} → c ≡ None → Answered W A l x s.top (search_local S₀ x left ls₀ m) B r
      owner_found e = absurd (true≢false (sym row_entered.found ∙ sym (ap (λ (z : Choice). z.found) owner_choice) ∙ ap (λ o. (given o).found) e))

      module _ {d : Path} (k : c ≡ Some d) where
        owner_path : chosen d ≡ search_local S₀ x (left - 1) [] (scope_at W (row_place w)).owner
        owner_path = sym (ap given k) ∙ owner_choice

        owner_fits : Fits S₀ (left - 1) (chosen d)
        owner_fits = subst (Fits S₀ (left - 1)) (sym a.same ∙ ap given k) (search_local_fits S₀ x (left - 1) ls₀ o)

        pub owner_few : d.count < 16
        owner_few = omega (arith, owner_fits.few, y.deep)

        pub owner_steps : d.steps < 17
        owner_steps = omega (arith, owner_fits.once, owner_few)

        pub owner_text : d.path_text_len < 2 ^ 32
        owner_text = omega (arith, owner_fits.text (names_short W A l y.reads), owner_few)

        pub owner_done : {r : Path} → chosen r ≡ extended (snap_of W B l) (chosen d) (scope_at W (row_place w)).name
            (step_by via_local (row_place w)) (row_flag w)
            → Answered W A l x s.top (search_local S₀ x left ls₀ m) B (Some r)
        owner_done z =
            record {
              same =
                  z
                  ∙ ap (λ (k : Snapshot). extended k (chosen d) (scope_at W (row_place w)).name (step_by via_local (row_place w)) (row_flag w))
                  (snap_at W A B l s.top y.reads y.tables a.below)
                  ∙ ap (λ (k : Choice). extended S₀ k (scope_at W (row_place w)).name (step_by via_local (row_place w)) (row_flag w)) owner_path
                  ∙ sym (tight_same ∙ row_entered.same);
              below = a.below;
              rows = a.rows;
            }

-- nothing is under way: modules are marked, the walk is taken, the numbers are set, and the rows are cleared
module _ (W A₀ : List ℕ) (l : Layout) (x : FindPathCtx) (p : Prepared W A₀ l x) (M : List ℕ) (m : Marked W A₀ l x M) where
  pub marked_reads : Reads W M l
  marked_reads = same_reads W A₀ M l m.tables p.reads

  module _ (K : List ℕ) (w : Kept W M l x.from.0 K) where
    below_mark : take table_words K ≡ take table_words A₀
    below_mark = take_less K M table_words walk_at (omega arith) w.below ∙ m.tables

    pub walk_ready : length K ≡ length A₀ → Ready W K l
    walk_ready z = record { reads = same_reads W A₀ K l below_mark p.reads; area = z ∙ p.area }

    pub walk_marked : Marked W K l x K
    walk_marked = marked_again W A₀ M K l x p.reads m w.below

    walk_same : snap_of W K l ≡ snap_of W A₀ l
    walk_same = same_snap W A₀ K l below_mark p.reads

    pub walk_walked : Walked (snap_of W K l) x.from.0 K
    walk_walked = subst (λ (s : Snapshot). Walked s x.from.0 K) (same_snap W A₀ M l m.tables p.reads ∙ sym walk_same) w.walked

    module _ (N : List ℕ) (n : Bounded W K l x N) (A : List ℕ) (v : Cleared N l.modules A) where
      tables_same : take table_words A ≡ take table_words A₀
      tables_same = take_less A N table_words failures_at (omega arith) v.below ∙ n.tables ∙ below_mark

      sn : snap_of W A l ≡ snap_of W A₀ l
      sn = same_snap W A₀ A l tables_same p.reads

      numbers_same : (i : ℕ) → i < l.modules → distance A i ≡ distance N i
      numbers_same i h =
          let b = p.reads.tables.limited.modules in
          agree A N failures_at v.below (table_words + i) (omega (arith, h, b))

      pub search_start : (left : ℕ) → left ≤ path_limit → length A ≡ length A₀
          → Searchable W A l x left (record { top = walk_end; place = 0; depth = 0 })
      search_start left h z =
          record {
            reads = same_reads W A₀ A l tables_same p.reads;
            from = p.from;
            area = z ∙ p.area;
            tables = omega arith;
            numbers = omega arith;
            bounds = λ k i q o.
                let a = numbers_same i q in
                let b = n.bounds k i q (subst (λ (s : Snapshot). near s x [] k i ≡ true) (sn ∙ sym walk_same) o) in
                omega (arith, a, b);
            walked =
                walked_at (snap_of W A l) x.from.0 N A
                (subst (λ (s : Snapshot). Walked s x.from.0 N) (walk_same ∙ sym sn) (walked_beyond (snap_of W K l) x.from.0 K N walk_walked n.beyond))
                (take_less A N walk_end failures_at (omega arith) v.below);
            rows = rows_none W A l x v.none;
            space = omega arith;
            deep = omega arith;
            chain = chain_none A 0 walk_end;
            under = omega arith;
          }

      pub search_done : (left : ℕ) (item : Item) (B : List ℕ) (r : Option Path)
          → Answered W A l x walk_end (calculate_best_path_local (snap_of W A l) x (search_local (snap_of W A l) x) left (levels_of A 0 0) item) B r
          → Chosen A₀ (best_local (snap_of W A₀ l) x left item) B r
      unfolding best_local levels_of
      search_done left item B r a =
          record {
            same = a.same ∙ ap (λ (s : Snapshot). best_local s x left item) sn;
            tables = take_less B A table_words walk_end (omega arith) a.below ∙ tables_same;
          }
