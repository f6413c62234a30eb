-- Levels, and one module more on a run.
use Prim.Native.Nat.{ℕ, zero, suc, ◌+◌, ◌-◌, ◌≤◌, ◌<◌}
use mathlib.Core.Path.{◌≡◌, refl, sym, ◌∙◌, ap, ap₂}
use mathlib.Core.List.{List, [], ◌∷◌, ◌++◌}
use mathlib.Core.Bool.{Bool, true, false, ◌||◌, true≢false}
use native.Mathlib.Omega.{arith}
use lib.ListN.{length, get_or, set, take, length-set}
use lib.Dec.{eqb}
use borrow.Author.Tests.{eqb-true, eqb-false}
use lib.Seq.{get_or-set_same, get_or-set_other, take-set-le}
use Rattle.snapshot.specs.Limits.{module_limit}
use Rattle.snapshot.specs.declared.layout.Layout.{Layout}
use Rattle.snapshot.specs.Layouts.{snap_of, table_words}
use Rattle.snapshot.proofs.Laws.{length_rows, rows_ext}
use Rattle.accept.proofs.Accepted.{by_test}
use Rattle.accept.specs.Post.{Reads}
use Rattle.hir_def.specs.declared.Item.{Item}
use Rattle.find_path_spec.specs.Walk.{has, visited}
use Rattle.find_path_spec.proofs.laws.Tables.{same_snap, same_reads}
use Rattle.find_path_levels.specs.declared.Stack.{Stack}
use Rattle.find_path_levels.specs.Levels.{item_at, run_at, levels_of, Chain, room, walk_room}
use Rattle.find_path_levels.specs.Push.{push}
use Rattle.find_path_levels.specs.Post.{Ready, Pushed}
use Rattle.find_path_levels.proofs.Rows.{run_none, run_put, run_has, take_less, agree, run_same}
use Rattle.find_path_levels.proofs.Walks.{push_skip, push_take, push_none, push_append}
use Rattle.find_path_levels.proofs.Rooms.{Fits, fits_snoc, fits_place, fits_none}

-- the levels, one after the other
pub chain_wider : (A : List ℕ) (p d t u : ℕ) → t ≤ u → Chain A p d t → Chain A p d u
unfolding Chain
chain_wider A p zero t u h c = c
chain_wider A p (suc d) t u h c = (c.0, omega arith, c.2)

pub chain_none : (A : List ℕ) (place top : ℕ) → Chain A place 0 top
unfolding Chain
chain_none A place top = tt

pub record First (A : List ℕ) (p d t : ℕ) : Type 0 where
  pub header : 3 ≤ p
  pub within : p + (get_or A (p - 1) 0 + 1) ≤ t
  pub rest : Chain A (get_or A (p - 2) 0) (d - 1) t

pub chain_first : (A : List ℕ) (p d t : ℕ) → 0 < d → Chain A p d t → First A p d t
unfolding Chain
chain_first A p zero t h c = absurd (omega arith)
chain_first A p (suc d) t h c =
    let e : suc d - 1 ≡ d = omega arith in
    record { header = c.0; within = c.1; rest = rw e (chain_wider A (get_or A (p - 2) 0) d (p - 3) t (omega (arith, c.0, c.1)) c.2) }

-- Two areas that agree below top have the same levels there.
module _ (A B : List ℕ) (top : ℕ) (same : take top A ≡ take top B) where
  levels_same' : (d p t : ℕ) → t ≤ top → Chain A p d t → levels_of A p d ≡ levels_of B p d
  unfolding levels_of Chain
  levels_same' zero p t h c = refl
  levels_same' (suc d) p t h c =
      let e₁ : get_or A (p - 3) 0 ≡ get_or B (p - 3) 0 = agree A B top same (p - 3) (omega (arith, c.0, c.1)) in
      let e₂ : get_or A (p - 2) 0 ≡ get_or B (p - 2) 0 = agree A B top same (p - 2) (omega (arith, c.0, c.1)) in
      let e₃ : get_or A (p - 1) 0 ≡ get_or B (p - 1) 0 = agree A B top same (p - 1) (omega (arith, c.0, c.1)) in
      let q : run_at A p (get_or A (p - 1) 0 + 1) ≡ run_at B p (get_or B (p - 1) 0 + 1) =
      run_same A B top same p (get_or A (p - 1) 0 + 1) (omega (arith, c.1)) ∙ ap (λ n. run_at B p (n + 1)) e₃ in
      let r = levels_same' d (get_or A (p - 2) 0) (p - 3) (omega (arith, c.0, c.1)) c.2 ∙ ap (λ x. levels_of B x d) e₂ in
      λ i. record { item = item_at (e₁ i); modules = q i } ∷ r i

  chain_same' : (d p t : ℕ) → t ≤ top → Chain A p d t → Chain B p d t
  unfolding Chain
  chain_same' zero p t h c = c
  chain_same' (suc d) p t h c =
      let e₂ : get_or A (p - 2) 0 ≡ get_or B (p - 2) 0 = agree A B top same (p - 2) (omega (arith, c.0, c.1)) in
      let e₃ : get_or A (p - 1) 0 ≡ get_or B (p - 1) 0 = agree A B top same (p - 1) (omega (arith, c.0, c.1)) in
      (c.0, omega (arith, c.1, e₃), rw (← e₂) (chain_same' d (get_or A (p - 2) 0) (p - 3) (omega (arith, c.0, c.1)) c.2))

  pub levels_same : (d p : ℕ) → Chain A p d top → levels_of A p d ≡ levels_of B p d
  levels_same d p c = levels_same' d p top (omega arith) c

  pub chain_same : (d p : ℕ) → Chain A p d top → Chain B p d top
  chain_same d p c = chain_same' d p top (omega arith) c

-- The tables lie below top: accepted words stay readable, and the snapshot stays.
module _ (W A B : List ℕ) (l : Layout) (top : ℕ) (r : Reads W A l) (low : table_words ≤ top) (same : take top B ≡ take top A) where
  pub snap_at : snap_of W B l ≡ snap_of W A l
  snap_at = same_snap W A B l (take_less B A table_words top low same) r

  pub reads_at : Reads W B l
  reads_at = same_reads W A B l (take_less B A table_words top low same) r

-- One module more, or not.
module _ (A : List ℕ) (s : Stack) (n : ℕ) (item : Item) (m : ℕ) (y : Ready A s n) where
  abbrev seen : ℕ → Bool
  seen = visited (levels_of A s.place s.depth) item

  abbrev run : List ℕ
  run = run_at A s.top n

  run_fits : Fits module_limit run
  run_fits = rw (length_rows (λ i. get_or A (s.top + i) 0) n) y.fits

  push_kept : seen m || has run m ≡ true → Pushed A s n item (m ∷ []) A n
  push_kept e =
      record { same = sym (push_skip seen run m [] e ∙ push_none seen run); below = refl; above = λ i h. refl; fits = y.fits; places = y.places }

  pub push_seen : {r : Bool} → r ≡ seen m → r ≡ true → Pushed A s n item (m ∷ []) A n
  push_seen p t = push_kept (ap (λ b. b || has run m) (sym p ∙ t))

  pub push_there : {q r : Bool} → q ≡ seen m → q ≡ false → r ≡ has run m → r ≡ true → Pushed A s n item (m ∷ []) A n
  push_there p u z t = push_kept (ap₂ ◌||◌ (sym p ∙ u) (sym z ∙ t))

  pub push_place : {r : Bool} → m < module_limit → r ≡ has run m → r ≡ false → n < module_limit
  push_place h z t = omega (arith, fits_place module_limit run m h (sym z ∙ t) run_fits, length_rows (λ i. get_or A (s.top + i) 0) n)

  module _ {q r : Bool} (h : m < module_limit) (p : q ≡ seen m) (u : q ≡ false) (z : r ≡ has run m) (t : r ≡ false) where
    abbrev A' : List ℕ
    A' = set A (s.top + n) m

    abbrev B : List ℕ
    B = set A' (s.top + module_limit + m) n

    k : n < module_limit
    k = push_place h z t

    -- words that stay
    other : (i : ℕ) → (i ≡ s.top + n → ⊥) → (i ≡ s.top + module_limit + m → ⊥) → get_or B i 0 ≡ get_or A i 0
    other i a b = get_or-set_other A' (s.top + module_limit + m) i n 0 b ∙ get_or-set_other A (s.top + n) i m 0 a

    placed : (i : ℕ) → i < n + 1 → get_or B (s.top + module_limit + get_or B (s.top + i) 0) 0 ≡ i
    placed i o =
        by_test (eqb i n)
        (λ e.
        let e' = eqb-true i n e in
        let w : get_or B (s.top + i) 0 ≡ m =
        ap (λ j. get_or B (s.top + j) 0) e' ∙ get_or-set_other A' (s.top + module_limit + m) (s.top + n) n 0 (λ q. omega (arith, k))
        ∙ get_or-set_same A (s.top + n) m 0 (omega (arith, y.space, k))
        in
        ap (λ j. get_or B (s.top + module_limit + j) 0) w
        ∙ get_or-set_same A' (s.top + module_limit + m) n 0 (omega (arith, y.space, length-set A (s.top + n) m)) ∙ sym e')
        (λ e.
        let i' : i < n = let f = eqb-false i n e in omega arith in
        let w : get_or B (s.top + i) 0 ≡ get_or A (s.top + i) 0 = other (s.top + i) (λ q. omega (arith, k)) (λ q. omega (arith, k)) in
        let j = get_or A (s.top + i) 0 in
        let new : j ≡ m → ⊥ = λ g. true≢false (sym (run_has A s.top n i i' g) ∙ sym z ∙ t) in
        ap (λ v. get_or B (s.top + module_limit + v) 0) w
        ∙ other (s.top + module_limit + j) (λ q. omega (arith, k)) (λ q. new (omega arith)) ∙ y.places i i')

    pub push_new : Pushed A s n item (m ∷ []) B (n + 1)
    push_new =
        let o : seen m || has run m ≡ false = ap₂ ◌||◌ (sym p ∙ u) (sym z ∙ t) in
        let l = run ++ (m ∷ []) in
        let f : Fits module_limit l = fits_snoc module_limit run m h (sym z ∙ t) run_fits in
        let q : run_at B s.top (n + 1) ≡ l =
        rows_ext (λ i. get_or B (s.top + i) 0) (λ i. get_or A' (s.top + i) 0) (n + 1)
        (λ i o. get_or-set_other A' (s.top + module_limit + m) (s.top + i) n 0 (λ q. omega (arith, k)))
        ∙ run_put A s.top n m (omega (arith, y.space, k))
        in
        record {
          same = q ∙ sym (push_take seen run m [] o ∙ push_none seen l);
          below =
              take-set-le s.top A' (s.top + module_limit + m) n (omega arith) ∙ take-set-le s.top A (s.top + n) m (omega arith);
          above = λ i o. other i (λ q. omega (arith, k)) (λ q. omega (arith, k));
          fits = omega (arith, f, ap length (sym q) ∙ length_rows (λ i. get_or B (s.top + i) 0) (n + 1), ap (room module_limit) q);
          places = placed;
        }

pub ready_none : (A : List ℕ) (s : Stack) → table_words ≤ s.top → s.top + walk_room ≤ length A → Chain A s.place s.depth s.top
    → Ready A s 0
ready_none A s t h c = record {
  tables = t;
  space = h;
  chain = c;
  fits = rw (run_none A s.top) (fits_none module_limit);
  places = λ i o. absurd (omega arith);
}

pub ready_after : (A : List ℕ) (s : Stack) (n : ℕ) (item : Item) (ms B : List ℕ) (r : ℕ) → Ready A s n → Pushed A s n item ms B r
    → length B ≡ length A → Ready B s r
ready_after A s n item ms B r y d l =
    record {
      tables = y.tables;
      space = omega (arith, y.space);
      chain = chain_same A B s.top (sym d.below) s.depth s.place y.chain;
      fits = d.fits;
      places = d.places;
    }

-- What the loops that push keep: the modules that are left, pushed on the run as it is, give the whole.
pub record Pushing (A₀ : List ℕ) (s : Stack) (n : ℕ) (item : Item) (ms A : List ℕ) (r : ℕ) (rest : List ℕ) : Type 0 where
  pub whole : push (visited (levels_of A₀ s.place s.depth) item) (run_at A₀ s.top n) ms
      ≡ push (visited (levels_of A₀ s.place s.depth) item) (run_at A s.top r) rest
  pub below : take s.top A ≡ take s.top A₀
  pub above : (i : ℕ) → s.top + walk_room ≤ i → get_or A i 0 ≡ get_or A₀ i 0
  pub size : length A ≡ length A₀
  pub ready : Ready A s r

module _ (A₀ : List ℕ) (s : Stack) (n : ℕ) (item : Item) (ms : List ℕ) where
  pub pushing_start : Ready A₀ s n → Pushing A₀ s n item ms A₀ n ms
  pushing_start y = record { whole = refl; below = refl; above = λ i h. refl; size = refl; ready = y }

  module _ {A : List ℕ} {r : ℕ} {rest : List ℕ} (g : Pushing A₀ s n item ms A r rest) where
    pub pushing_skip : {rest' A' : List ℕ} {r' : ℕ} → rest ≡ rest' → A' ≡ A → r' ≡ r → Pushing A₀ s n item ms A' r' rest'
    pushing_skip p q t = rw (q, t, ← p) g

    pub pushing_next : {rest' B : List ℕ} {t r' : ℕ} → rest ≡ t ∷ rest' → Pushed A s r item (t ∷ []) B r' → length B ≡ length A
        → Pushing A₀ s n item ms B r' rest'
    pushing_next {rest'} {B} {t} {r'} p d l =
        let s₀ = visited (levels_of A₀ s.place s.depth) item in
        let v : levels_of A s.place s.depth ≡ levels_of A₀ s.place s.depth = levels_same A A₀ s.top g.below
        s.depth s.place g.ready.chain in
        let q : run_at B s.top r' ≡ push s₀ (run_at A s.top r) (t ∷ []) = d.same
        ∙ ap (λ x. push (visited x item) (run_at A s.top r) (t ∷ [])) v in
        record {
          whole = g.whole ∙ ap (push s₀ (run_at A s.top r)) p ∙ push_append s₀ (t ∷ []) rest' (run_at A s.top r)
              ∙ ap (λ x. push s₀ x rest') (sym q);
          below = d.below ∙ g.below;
          above = λ i h. d.above i h ∙ g.above i h;
          size = l ∙ g.size;
          ready = ready_after A s r item (t ∷ []) B r' g.ready d l;
        }

    pub pushing_done : rest ≡ [] → Pushed A₀ s n item ms A r
    pushing_done p =
        let s₀ = visited (levels_of A₀ s.place s.depth) item in
        record {
          same = sym (g.whole ∙ ap (push s₀ (run_at A s.top r)) p ∙ push_none s₀ (run_at A s.top r));
          below = g.below;
          above = g.above;
          fits = g.ready.fits;
          places = g.ready.places;
        }
