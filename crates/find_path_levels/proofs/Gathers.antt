-- The run of modules that a local search takes.
use Prim.Native.Nat.{ℕ, suc, ◌+◌, ◌-◌, ◌≤◌, ◌<◌}
use mathlib.Core.Path.{◌≡◌, refl, sym, ◌∙◌, ap, ap₂}
use mathlib.Core.List.{List, [], map}
use native.Mathlib.Omega.{arith}
use native.Mathlib.Nat.{sub-zero}
use lib.ListN.{length, get_or, take, length-append}
use Rattle.snapshot.specs.Limits.{module_limit}
use Rattle.snapshot.specs.Records.{Snapshot}
use Rattle.snapshot.specs.Layouts.{snap_of, table_words}
use Rattle.snapshot.specs.declared.layout.Layout.{Layout}
use Rattle.snapshot.proofs.Laws.{length_rows, get_d_rows}
use Rattle.accept.specs.Post.{Reads}
use Rattle.hir_def.specs.Nameres.{children_of, containers}
use Rattle.hir_def.specs.declared.Item.{Item}
use Rattle.find_path_spec.specs.Walk.{visited, start_from, leads_to, find_local_import_locations}
use Rattle.find_path_levels.specs.declared.Stack.{Stack}
use Rattle.find_path_levels.specs.Levels.{run_at, levels_of, Chain, walk_room}
use Rattle.find_path_levels.specs.Push.{push, lean}
use Rattle.find_path_levels.specs.Post.{Ready, Pushed, Gathered}
use Rattle.find_path_levels.proofs.Rows.{run_none}
use Rattle.find_path_levels.proofs.Walks.{push_append, push_grown, lean_go, lean_end, locations_lean}
use Rattle.find_path_levels.proofs.Stacks.{levels_same, snap_at, reads_at, ready_none, ready_after}

-- turns that are enough
abbrev pub turns : Snapshot → ℕ → ℕ
turns S from = length (start_from S from) + length S.scopes + module_limit

-- The children, and then the containing modules.
module _ (W A₀ : List ℕ) (l : Layout) (from : ℕ) (s : Stack) (item : Item) (r : Reads W A₀ l) (low : table_words ≤ s.top)
    (space : s.top + walk_room ≤ length A₀) (chain : Chain A₀ s.place s.depth s.top) where
  abbrev S : Snapshot
  S = snap_of W A₀ l

  pub ready_start : Ready A₀ s 0
  ready_start = ready_none A₀ s low space chain

  module _ (A : List ℕ) (n : ℕ) (d : Pushed A₀ s 0 item (map (λ c. c.child) (children_of S from)) A n) (k : length A ≡ length A₀) where
    pub ready_children : Ready A s n
    ready_children = ready_after A₀ s 0 item (map (λ c. c.child) (children_of S from)) A n ready_start d k

    pub reads_children : Reads W A l
    reads_children = reads_at W A₀ A l s.top r low d.below

    module _ (A₁ : List ℕ) (n₁ : ℕ) (d₁ : Pushed A s n item (containers (snap_of W A l) from) A₁ n₁) (k₁ : length A₁ ≡ length A) where
      pub ready_begun : Ready A₁ s n₁
      ready_begun = ready_after A s n item (containers (snap_of W A l) from) A₁ n₁ ready_children d₁ k₁

      pub reads_begun : Reads W A₁ l
      reads_begun = reads_at W A₀ A₁ l s.top r low (d₁.below ∙ d.below)

      pub begun : Pushed A₀ s 0 item (start_from S from) A₁ n₁
      unfolding start_from
      begun =
          let seen = visited (levels_of A₀ s.place s.depth) item in
          let cs = map (λ c. c.child) (children_of S from) in
          let v : levels_of A s.place s.depth ≡ levels_of A₀ s.place s.depth =
          sym (levels_same A₀ A s.top (sym d.below) s.depth s.place chain) in
          record {
            same =
                d₁.same
                ∙ ap₂ (λ x y. push (visited x item) (run_at A s.top n) (containers y from)) v (snap_at W A₀ A l s.top r low d.below)
                ∙ ap (λ x. push seen x (containers S from)) d.same
                ∙ sym (push_append seen cs (containers S from) (run_at A₀ s.top 0));
            below = d₁.below ∙ d.below;
            above = λ i h. d₁.above i h ∙ d.above i h;
            fits = d₁.fits;
            places = d₁.places;
          }

-- What the walk keeps: k of the run's n modules are taken.
pub record Walking (S : Snapshot) (from : ℕ) (A₁ : List ℕ) (s : Stack) (item : Item) (n₁ : ℕ) (A : List ℕ) (n k : ℕ) : Type 0 where
  pub within : k ≤ n
  pub whole : lean (leads_to S from) (visited (levels_of A₁ s.place s.depth) item) (turns S from) (run_at A₁ s.top n₁) 0
      ≡ lean (leads_to S from) (visited (levels_of A₁ s.place s.depth) item) (turns S from - k) (run_at A s.top n) k
  pub below : take s.top A ≡ take s.top A₁
  pub above : (i : ℕ) → s.top + walk_room ≤ i → get_or A i 0 ≡ get_or A₁ i 0
  pub size : length A ≡ length A₁
  pub ready : Ready A s n

module _ (W A₁ : List ℕ) (l : Layout) (from : ℕ) (s : Stack) (item : Item) (n₁ : ℕ) where
  abbrev S₁ : Snapshot
  S₁ = snap_of W A₁ l

  pub walking_start : Ready A₁ s n₁ → Walking S₁ from A₁ s item n₁ A₁ n₁ 0
  walking_start y = record { within = omega arith; whole = rw sub-zero; below = refl; above = λ i h. refl; size = refl; ready = y }

  module _ (r : Reads W A₁ l) (A : List ℕ) (n k : ℕ) (g : Walking S₁ from A₁ s item n₁ A n k) where
    pub walking_reads : Reads W A l
    walking_reads = reads_at W A₁ A l s.top r g.ready.tables g.below

    pub walking_next : {m : ℕ} (B : List ℕ) (t : ℕ) → k < n → m ≡ get_or A (s.top + k) 0 → Pushed A s n item (leads_to (snap_of W A l) from m) B t
        → length B ≡ length A
        → Walking S₁ from A₁ s item n₁ B t (k + 1)
    walking_next {m} B t h e d j =
        let b = turns S₁ from in
        let next = leads_to S₁ from in
        let seen = visited (levels_of A₁ s.place s.depth) item in
        let run = run_at A s.top n in
        let f : ℕ → ℕ = λ i. get_or A (s.top + i) 0 in
        let v : levels_of A s.place s.depth ≡ levels_of A₁ s.place s.depth = levels_same A A₁ s.top g.below
        s.depth s.place g.ready.chain in
        let q : run_at B s.top t ≡ push seen run (next m) =
        d.same ∙ ap₂ (λ x y. push (visited x item) run (leads_to y from m)) v (snap_at W A₁ A l s.top r g.ready.tables g.below) in
        let o : b - k ≡ suc (b - (k + 1)) = omega (arith, g.ready.fits) in
        let u : k < length run = omega (arith, length_rows f n) in
        let x : get_or run k 0 ≡ m = get_d_rows f 0 n k h ∙ sym e in
        let w = push_grown seen (next m) run in
        let z : t ≡ n + length w.0 =
        sym (length_rows (λ i. get_or B (s.top + i) 0) t) ∙ ap length (q ∙ w.1) ∙ length-append run w.0
        ∙ ap (λ i. i + length w.0) (length_rows f n) in
        record {
          within = omega arith;
          whole =
              g.whole
              ∙ ap (λ c. lean next seen c run k) o
              ∙ lean_go next seen (b - (k + 1)) run k u
              ∙ ap (λ c. lean next seen (b - (k + 1)) (push seen run (next c)) (k + 1)) x
              ∙ ap (λ c. lean next seen (b - (k + 1)) c (k + 1)) (sym q);
          below = d.below ∙ g.below;
          above = λ i h. d.above i h ∙ g.above i h;
          size = j ∙ g.size;
          ready = ready_after A s n item (leads_to (snap_of W A l) from m) B t g.ready d j;
        }

    walking_done : n ≤ k → lean (leads_to S₁ from) (visited (levels_of A₁ s.place s.depth) item) (turns S₁ from) (run_at A₁ s.top n₁) 0
        ≡ run_at A s.top n
    walking_done h =
        g.whole
        ∙ lean_end (leads_to S₁ from) (visited (levels_of A₁ s.place s.depth) item) (turns S₁ from - k) (run_at A s.top n) k
        (omega (arith, length_rows (λ i. get_or A (s.top + i) 0) n))

    -- the start and the walk together
    pub gathered : (A₀ : List ℕ) → Reads W A₀ l → Chain A₀ s.place s.depth s.top
        → Pushed A₀ s 0 item (start_from (snap_of W A₀ l) from) A₁ n₁ → n ≤ k
        → Gathered A₀ s.top (find_local_import_locations (snap_of W A₀ l) from (visited (levels_of A₀ s.place s.depth) item)) A n
    gathered A₀ r₀ c d o =
        let seen = visited (levels_of A₀ s.place s.depth) item in
        let S₀ = snap_of W A₀ l in
        let b = turns S₀ from in
        let v : levels_of A₀ s.place s.depth ≡ levels_of A₁ s.place s.depth = levels_same A₀ A₁ s.top (sym d.below)
        s.depth s.place c in
        let p : push seen [] (start_from S₀ from) ≡ run_at A₁ s.top n₁ = sym (d.same ∙ ap (λ x. push seen x (start_from S₀ from))
        (run_none A₀ s.top)) in
        let q : find_local_import_locations S₀ from seen ≡ run_at A s.top n =
        locations_lean S₀ from seen b (omega arith)
        ∙ ap (λ x. lean (leads_to S₀ from) seen b x 0) p
        ∙ ap₂ (λ x y. lean (leads_to y from) (visited x item) (turns y from) (run_at A₁ s.top n₁) 0) v
        (sym (snap_at W A₀ A₁ l s.top r₀ g.ready.tables d.below))
        ∙ walking_done o in
        record { run = sym q; below = g.below ∙ d.below; above = λ i h. g.above i h ∙ d.above i h; few = omega (arith, g.ready.fits) }
