-- The laws of a search that opens a level.
use Prim.Native.Nat.{ℕ, zero, suc, ◌+◌, ◌-◌, ◌≤◌, ◌<◌}
use mathlib.Core.Path.{◌≡◌, refl, sym, ◌∙◌, ap, ap₂, subst}
use Rattle.std.specs.Prelude.{Option}
use mathlib.Core.List.{List, [], ◌∷◌, ◌++◌}
use native.Mathlib.Omega.{arith}
use native.Mathlib.Numerals.{add-one}
use lib.ListN.{length, get_or, set, take, drop, drop_of_length-le, length-set}
use lib.Seq.{get_or-set_same, get_or-set_other, take-set-le, drop-cons, take-suc}
use Rattle.snapshot.specs.Limits.{module_limit, area_limit}
use Rattle.snapshot.specs.Records.{Snapshot, Scope}
use Rattle.snapshot.specs.Layouts.{snap_of}
use Rattle.snapshot.specs.declared.layout.Layout.{Layout}
use Rattle.snapshot.proofs.Laws.{length_rows, get_d_rows}
use Rattle.accept.specs.Post.{Reads}
use Rattle.accept.specs.Valid.{Each}
use Rattle.accept.proofs.Bools.{each_at}
use Rattle.hir_def.specs.declared.Item.{Item}
use Rattle.find_path_choice.specs.declared.Choice.{Choice as Path}
use Rattle.find_path_choice.specs.Given.{given}
use Rattle.find_path_spec.specs.declared.FindPathCtx.{FindPathCtx}
use Rattle.find_path_choice.specs.Choices.{Choice, nothing}
use Rattle.find_path_spec.specs.Walk.{Level, visited, find_local_import_locations}
use Rattle.find_path_spec.specs.Local.{importable_name, location, each_location, calculate_best_path_local}
use Rattle.find_path_spec.specs.Search.{search_local}
use Rattle.find_path_spec.proofs.laws.Bounds.{Fits, nothing_fits, location_fits, search_local_fits}
use Rattle.find_path_levels.specs.declared.Stack.{Stack}
use Rattle.find_path_levels.specs.Levels.{Small, code_of, item_at, run_at, levels_of, Chain, walk_room}
use Rattle.find_path_levels.specs.Post.{Gathered}
use Rattle.find_path_local.specs.Post.{Searchable, Answered, level_size}
use Rattle.find_path_levels.proofs.Rows.{run_other, run_take, take_less, agree, run_same}
use Rattle.find_path_levels.proofs.Codes.{item_back}
use Rattle.find_path_levels.proofs.Stacks.{chain_wider, levels_same, chain_same, snap_at, reads_at}
use Rattle.find_path_local.specs.distances.Distances.{distances_end}
use Rattle.find_path_local.specs.tight_rows.Rows.{rows_at, Rows}
use Rattle.find_path_local.proofs.tight_rows.Keeping.{rows_at_lem, rows_set}
use Rattle.find_path_local.proofs.Knowns.{locations_there}
use Rattle.find_path_levels.specs.walk_once.Walked.{Walked}
use Rattle.find_path_local.proofs.Searches.{bounds_at, walked_kept}

-- An open level: its header and its run stand, and all below is as where the loop began.
pub record Open (A₁ : List ℕ) (s : Stack) (item : Item) (n : ℕ) (A : List ℕ) : Type 0 where
  pub below : take s.top A ≡ take s.top A₁
  pub name : get_or A s.top 0 ≡ code_of item
  pub link : get_or A (s.top + 1) 0 ≡ s.place
  pub run : run_at A (s.top + 3) n ≡ run_at A₁ (s.top + 3) n
  pub size : length A ≡ length A₁

abbrev pub headed : List ℕ → Stack → ℕ → List ℕ
headed A s code = set (set A s.top code) (s.top + 1) s.place

module _ (A₀ : List ℕ) (s : Stack) (code : ℕ) where
  abbrev H₀ : List ℕ
  H₀ = headed A₀ s code

  head_below : take s.top H₀ ≡ take s.top A₀
  head_below =
      take-set-le s.top (set A₀ s.top code) (s.top + 1) s.place (omega arith) ∙ take-set-le s.top A₀ s.top code (omega arith)

  head_size : length H₀ ≡ length A₀
  head_size = length-set (set A₀ s.top code) (s.top + 1) s.place ∙ length-set A₀ s.top code

  open_start : (item : Item) (A₁ : List ℕ) (n : ℕ) → code ≡ code_of item → s.top + 3 ≤ length A₀ → take (s.top + 3) A₁ ≡ take (s.top + 3) H₀
      → Open A₁ s item n A₁
  open_start item A₁ n c room e =
      let q : length (set A₀ s.top code) ≡ length A₀ = length-set A₀ s.top code in
      record {
        below = refl;
        name =
            agree A₁ H₀ (s.top + 3) e s.top (omega arith)
            ∙ get_or-set_other (set A₀ s.top code) (s.top + 1) s.top s.place 0 (λ p. omega arith)
            ∙ get_or-set_same A₀ s.top code 0 (omega arith)
            ∙ c;
        link = agree A₁ H₀ (s.top + 3) e (s.top + 1) (omega arith) ∙ get_or-set_same (set A₀ s.top code) (s.top + 1) s.place 0 (omega arith);
        run = refl;
        size = refl;
      }

module _ (A₁ : List ℕ) (s : Stack) (item : Item) (n : ℕ) (A : List ℕ) (o : Open A₁ s item n A) where
  open_cursor : (k : ℕ) → Open A₁ s item n (set A (s.top + 2) k)
  open_cursor k =
      record {
        below = take-set-le s.top A (s.top + 2) k (omega arith) ∙ o.below;
        name = get_or-set_other A (s.top + 2) s.top k 0 (λ p. omega arith) ∙ o.name;
        link = get_or-set_other A (s.top + 2) (s.top + 1) k 0 (λ p. omega arith) ∙ o.link;
        run = run_other A (s.top + 3) n (s.top + 2) k (omega arith) ∙ o.run;
        size = length-set A (s.top + 2) k ∙ o.size;
      }

  open_kept : (B : List ℕ) → take (s.top + 3 + n) B ≡ take (s.top + 3 + n) A → length B ≡ length A → Open A₁ s item n B
  open_kept B e l =
      let t = s.top + 3 + n in
      record {
        below = take_less B A s.top t (omega arith) e ∙ o.below;
        name = agree B A t e s.top (omega arith) ∙ o.name;
        link = agree B A t e (s.top + 1) (omega arith) ∙ o.link;
        run = run_same B A t e (s.top + 3) n (omega arith) ∙ o.run;
        size = l ∙ o.size;
      }

  module _ (k : ℕ) (cursor : get_or A (s.top + 2) 0 ≡ k) (few : k < n) (chain : Chain A₁ s.place s.depth s.top) where
    e₁ : s.top + 3 - 1 ≡ s.top + 2
    e₁ = omega arith

    e₂ : s.top + 3 - 2 ≡ s.top + 1
    e₂ = omega arith

    e₃ : s.top + 3 - 3 ≡ s.top
    e₃ = omega arith

    at₁ : get_or A (s.top + 3 - 1) 0 ≡ k
    at₁ = ap (λ i. get_or A i 0) e₁ ∙ cursor

    at₂ : get_or A (s.top + 3 - 2) 0 ≡ s.place
    at₂ = ap (λ i. get_or A i 0) e₂ ∙ o.link

    at₃ : Small item → item_at (get_or A (s.top + 3 - 3) 0) ≡ item
    at₃ h = item_back item h (ap (λ i. get_or A i 0) e₃ ∙ o.name)

    -- the open level is one more level
    open_chain : Chain A (s.top + 3) (s.depth + 1) (s.top + 3 + n)
    unfolding Chain
    open_chain =
        rw (add-one s.depth) (
          omega arith,
          omega (arith, at₁),
          rw (at₂, e₃) (chain_same A₁ A s.top (sym o.below) s.depth
              s.place chain),
        )

    -- it has taken the first k + 1 modules of its run
    open_levels : Small item
        → levels_of A (s.top + 3) (s.depth + 1) ≡ record { item = item; modules = take (k + 1) (run_at A₁ (s.top + 3) n) }
        ∷ levels_of A₁ s.place s.depth
    unfolding levels_of
    open_levels h =
        let p = at₃ h in
        let q : run_at A (s.top + 3) (get_or A (s.top + 3 - 1) 0 + 1) ≡ take (k + 1) (run_at A₁ (s.top + 3) n) =
        ap (λ i. run_at A (s.top + 3) (i + 1)) at₁ ∙ sym (run_take A (s.top + 3) n (k + 1) (omega arith)) ∙ ap (take (k + 1)) o.run in
        let r : levels_of A (get_or A (s.top + 3 - 2) 0) s.depth ≡ levels_of A₁ s.place s.depth =
        ap (λ p. levels_of A p s.depth) at₂ ∙ sym (levels_same A₁ A s.top (sym o.below) s.depth s.place chain) in
        rw (add-one s.depth) (λ i. record { item = p i; modules = q i } ∷ r i)

-- the fold, one module further
module _ (S : Snapshot) (x : FindPathCtx) (left : ℕ) (ls : List Level) (item : Item) (ws : List ℕ) (k : ℕ) (best : Choice) where
  each_next : {m : ℕ} {best' : Choice} → k < length ws → m ≡ get_or ws k 0
      → best' ≡ location S x (search_local S x) left (record { item = item; modules = take (k + 1) ws } ∷ ls) best m (importable_name S x item m)
      → each_location S x (search_local S x) left ls item (take k ws) best (drop k ws)
      ≡ each_location S x (search_local S x) left ls item (take (k + 1) ws) best' (drop (k + 1) ws)
  unfolding each_location
  each_next {m} {best'} h em eb =
      let w = get_or ws k 0 in
      let d : drop k ws ≡ w ∷ drop (k + 1) ws = rw (add-one k) (drop-cons ws k 0 h) in
      let t : take (k + 1) ws ≡ take k ws ++ (w ∷ []) = rw (add-one k) (take-suc ws k 0 h) in
      let step : List ℕ → ℕ → Choice = λ u v. location S x (search_local S x) left (record { item = item; modules = u } ∷ ls) best v
      (importable_name S x item v) in
      let b : best' ≡ step (take (k + 1) ws) w = eb ∙ ap (step (take (k + 1) ws)) em in
      ap (each_location S x (search_local S x) left ls item (take k ws) best) d
      ∙ ap (λ u. each_location S x (search_local S x) left ls item u (step u w) (drop (k + 1) ws)) (sym t)
      ∙ ap (λ (c : Choice). each_location S x (search_local S x) left ls item (take (k + 1) ws) c (drop (k + 1) ws)) (sym b)

  each_end : length ws ≤ k → each_location S x (search_local S x) left ls item (take k ws) best (drop k ws) ≡ best
  unfolding each_location
  each_end h = rw (drop_of_length-le ws h)

step_fits : (S : Snapshot) (x : FindPathCtx) (left : ℕ) (ls : List Level) (best : Choice) (m : ℕ) (a : Option Scope) → 0 < left → Fits S left best
    → Fits S left (location S x (search_local S x) left ls best m a)
step_fits S x zero ls best m a h f = absurd (omega arith)
step_fits S x (suc l) ls best m a h f = location_fits S x (search_local S x) (search_local_fits S x) l ls best m a f

-- What the loop of the search keeps.
pub record Nesting (W : List ℕ) (l : Layout) (S : Snapshot) (x : FindPathCtx) (left : ℕ) (item : Item) (A₁ : List ℕ) (s : Stack)
    (n : ℕ) (A : List ℕ) (best : Choice) (k : ℕ) : Type 0 where
  pub within : k ≤ n
  pub few : n ≤ module_limit
  pub fits : Fits S left best
  pub chain : Chain A₁ s.place s.depth s.top
  pub opened : Open A₁ s item n A
  pub rows : Rows W A l x
  pub whole : each_location S x (search_local S x) left (levels_of A₁ s.place s.depth) item [] nothing (run_at A₁ (s.top + 3) n)
      ≡ each_location S x (search_local S x) left (levels_of A₁ s.place s.depth) item (take k (run_at A₁ (s.top + 3) n)) best
      (drop k (run_at A₁ (s.top + 3) n))

-- the stack one level up
abbrev pub upper : Stack → ℕ → Stack
upper s n = record { top = s.top + 3 + n; place = s.top + 3; depth = s.depth + 1 }

module _ (W A₀ : List ℕ) (l : Layout) (x : FindPathCtx) (left : ℕ) (item : Item) (s : Stack) (some_left : 1 < left) (y : Searchable W A₀ l x left s)
    (small : Small item) (code : ℕ) (named : code ≡ code_of item) where
  abbrev H : List ℕ
  H = headed A₀ s code

  pub room : s.top + level_size ≤ rows_at
  room = omega (arith, y.space)

  pub head_reads : Reads W H l
  head_reads = reads_at W A₀ H l s.top y.reads y.tables (head_below A₀ s code)

  head_rows : Rows W H l x
  head_rows =
      rows_set W (set A₀ s.top code) l x (s.top + 1) s.place
      (reads_at W A₀ (set A₀ s.top code) l s.top y.reads y.tables (take-set-le s.top A₀ s.top code (omega arith)))
      (rows_set W A₀ l x s.top code y.reads y.rows (omega (arith, y.numbers)) (omega (arith, room))) (omega (arith, y.numbers))
      (omega (arith, room))

  pub head_walked : Walked (snap_of W H l) x.from.0 H
  head_walked = walked_kept H y (head_below A₀ s code)

  pub head_space : s.top + 3 + walk_room ≤ length H
  head_space = omega (arith, head_size A₀ s code, y.space, some_left, y.area)

  pub head_chain : Chain H s.place s.depth (s.top + 3)
  head_chain =
      chain_wider H s.place s.depth s.top (s.top + 3) (omega arith)
      (chain_same A₀ H s.top (sym (head_below A₀ s code)) s.depth s.place y.chain)

  module _ (A₁ : List ℕ) (n : ℕ)
      (g : Gathered H (s.top + 3) (find_local_import_locations (snap_of W H l) x.from.0 (visited (levels_of H s.place s.depth) item)) A₁ n)
      (long : length A₁ ≡ length H) where
    abbrev S₁ : Snapshot
    S₁ = snap_of W A₁ l

    abbrev ws : List ℕ
    ws = run_at A₁ (s.top + 3) n

    start_below : take s.top A₁ ≡ take s.top A₀
    start_below = take_less A₁ H s.top (s.top + 3) (omega arith) g.below ∙ head_below A₀ s code

    pub start_size : length A₁ ≡ area_limit
    start_size = long ∙ head_size A₀ s code ∙ y.area

    pub start_few : n ≤ module_limit
    start_few = g.few

    start_reads : Reads W A₁ l
    start_reads = reads_at W A₀ A₁ l s.top y.reads y.tables start_below

    pub nesting_start : Nesting W l S₁ x left item A₁ s n A₁ nothing 0
    nesting_start =
        record {
          within = omega arith;
          few = g.few;
          fits = nothing_fits left;
          chain = chain_same A₀ A₁ s.top (sym start_below) s.depth s.place y.chain;
          opened = open_start A₀ s code item A₁ n named (omega (arith, room, y.area)) g.below;
          rows =
              rows_at_lem W H A₁ l x head_reads head_rows (take_less A₁ H distances_end (s.top + 3) (omega (arith, y.numbers)) g.below)
              (λ i h. g.above i (omega (arith, y.space, some_left, h)));
          whole = refl;
        }

    module _ (A : List ℕ) (o : Option Path) (k : ℕ) (v : Nesting W l S₁ x left item A₁ s n A (given o) k) where
      abbrev best : Choice
      best = given o

      abbrev B : List ℕ
      B = set A (s.top + 2) k

      pub loop_size : length A ≡ area_limit
      loop_size = v.opened.size ∙ start_size

      cursor_size : length B ≡ area_limit
      cursor_size = length-set A (s.top + 2) k ∙ loop_size

      cursor_open : Open A₁ s item n B
      cursor_open = open_cursor A₁ s item n A v.opened k

      cursor_at : get_or B (s.top + 2) 0 ≡ k
      cursor_at = get_or-set_same A (s.top + 2) k 0 (omega (arith, room, loop_size))

      pub nesting_call : k < n → Searchable W B l x (left - 1) (upper s n)
      nesting_call h =
          record {
            reads = reads_at W A₀ B l s.top y.reads y.tables (cursor_open.below ∙ start_below);
            from = y.from;
            area = cursor_size;
            tables = omega (arith, y.tables);
            numbers = omega (arith, y.numbers);
            bounds = bounds_at B y (cursor_open.below ∙ start_below);
            walked = walked_kept B y (cursor_open.below ∙ start_below);
            rows =
                rows_set W A l x (s.top + 2) k (reads_at W A₀ A l s.top y.reads y.tables (v.opened.below ∙ start_below))
                v.rows (omega (arith, y.numbers))
                (omega (arith, room));
            space = omega (arith, y.space, v.few, some_left);
            deep = omega (arith, y.deep, some_left);
            chain = open_chain A₁ s item n B cursor_open k cursor_at h v.chain;
            under = omega arith;
          }

      module _ {m : ℕ} (h : k < n) (e : m ≡ get_or B (s.top + 3 + k) 0) where
        taken : m ≡ get_or ws k 0
        taken = e ∙ sym (get_d_rows (λ i. get_or B (s.top + 3 + i) 0) 0 n k h) ∙ ap (λ (u : List ℕ). get_or u k 0) cursor_open.run

        pub nesting_known : m < l.modules
        nesting_known =
            let f : ℕ → ℕ = λ i. get_or A₁ (s.top + 3 + i) 0 in
            let a = locations_there W H l head_reads x.from.0 (visited (levels_of H s.place s.depth) item) y.from in
            let b : Each (λ i. i < l.modules) ws = subst (Each (λ i. i < l.modules)) (sym g.run) a in
            subst (λ i. i < l.modules) (sym taken) (each_at 0 k b (omega (arith, length_rows f n)))

        pub nesting_next : (C : List ℕ) {r : Option Path}
            → Answered W B l x (s.top + 3 + n) (location (snap_of W B l) x (search_local (snap_of W B l) x) left
            (levels_of B (s.top + 3) (s.depth + 1)) best m (importable_name (snap_of W B l) x item m)) C r
            → length C ≡ length B → Nesting W l S₁ x left item A₁ s n C (given r) (k + 1)
        nesting_next C {r} a c =
            let f : ℕ → ℕ = λ i. get_or A₁ (s.top + 3 + i) 0 in
            let lv = open_levels A₁ s item n B cursor_open k cursor_at h v.chain small in
            let sn : snap_of W B l ≡ S₁ = snap_at W A₁ B l s.top start_reads y.tables cursor_open.below in
            let er : given r ≡ location S₁ x (search_local S₁ x) left (record { item = item; modules = take (k + 1) ws } ∷ levels_of A₁
            s.place s.depth) best m (importable_name S₁ x item m) =
            a.same ∙ ap₂ (λ (z : Snapshot) (u : List Level). location z x (search_local z x) left u best m (importable_name z x item m)) sn lv in
            record {
              within = omega arith;
              few = v.few;
              fits = rw er (step_fits S₁ x left _ best m (importable_name S₁ x item m) (omega (arith, some_left)) v.fits);
              chain = v.chain;
              opened = open_kept A₁ s item n B cursor_open C a.below c;
              rows = a.rows;
              whole = v.whole ∙ each_next S₁ x left (levels_of A₁ s.place s.depth) item ws k best (omega (arith, length_rows f n)) taken er;
            }

      pub nesting_done : n ≤ k
          → Answered W A₀ l x s.top (calculate_best_path_local (snap_of W A₀ l) x (search_local (snap_of W A₀ l) x) left
          (levels_of A₀ s.place s.depth) item) A o
      unfolding calculate_best_path_local
      nesting_done h =
          let S₀ = snap_of W A₀ l in
          let L = levels_of A₀ s.place s.depth in
          let sn : S₁ ≡ S₀ = snap_at W A₀ A₁ l s.top y.reads y.tables start_below in
          let hn : snap_of W H l ≡ S₀ = snap_at W A₀ H l s.top y.reads y.tables (head_below A₀ s code) in
          let lv : levels_of A₁ s.place s.depth ≡ L = sym (levels_same A₀ A₁ s.top (sym start_below) s.depth s.place y.chain) in
          let hv : levels_of H s.place s.depth ≡ L = sym (levels_same A₀ H s.top (sym (head_below A₀ s code)) s.depth
          s.place y.chain) in
          let q : ws ≡ find_local_import_locations S₀ x.from.0 (visited L item) =
          g.run ∙ ap₂ (λ (z : Snapshot) (u : List Level). find_local_import_locations z x.from.0 (visited u item)) hn hv in
          let e : each_location S₁ x (search_local S₁ x) left (levels_of A₁ s.place s.depth) item [] nothing ws ≡ best =
          v.whole ∙ each_end S₁ x left (levels_of A₁ s.place s.depth) item ws k best
          (omega (arith, length_rows (λ i. get_or A₁ (s.top + 3 + i) 0) n)) in
          record {
            same =
                sym e
                ∙ ap₂ (λ (z : Snapshot) (u : List Level). each_location z x (search_local z x) left u item [] nothing ws) sn lv
                ∙ ap (each_location S₀ x (search_local S₀ x) left L item [] nothing) q;
            below = v.opened.below ∙ start_below;
            rows = v.rows;
          }
