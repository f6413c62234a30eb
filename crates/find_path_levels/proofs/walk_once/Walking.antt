-- The laws of the walk that is done once.
use Prim.Native.Nat.{ℕ, ◌+◌, ◌≤◌, ◌<◌}
use mathlib.Core.Path.{◌≡◌, refl, sym, ap, ◌∙◌}
use mathlib.Core.List.{List, [], ◌∷◌, ◌++◌}
use mathlib.Core.Bool.{false}
use native.Mathlib.Omega.{arith}
use lib.ListN.{length, get_or, set, take}
use lib.Seq.{get_or-set_same, get_or-set_other, take-set-le}
use Rattle.snapshot.specs.Limits.{module_limit, area_limit}
use Rattle.snapshot.specs.Lists.{any}
use Rattle.snapshot.specs.Records.{Snapshot}
use Rattle.snapshot.specs.Layouts.{snap_of}
use Rattle.snapshot.specs.declared.layout.Layout.{Layout}
use Rattle.snapshot.proofs.Laws.{rows_ext, rows_snoc}
use Rattle.hir_def.specs.declared.Item.{Item}
use Rattle.find_path_spec.specs.Walk.{visited, find_local_import_locations}
use Rattle.find_path_spec.proofs.laws.Fewer.{walk_same}
use Rattle.find_path_levels.specs.declared.Stack.{Stack}
use Rattle.find_path_levels.specs.Levels.{run_at, levels_of}
use Rattle.find_path_levels.specs.Post.{Gathered}
use Rattle.find_path_levels.proofs.Rows.{run_none, run_put, agree, run_same}
use Rattle.find_path_levels.specs.walk_once.Walked.{walk_at, walk_count, walk_end, Walked}
use Rattle.find_path_levels.specs.walk_once.Post.{Copied, Kept}

-- the walk stays while the words below its end do
pub walked_at : (s : Snapshot) (from : ℕ) (A B : List ℕ) → Walked s from A → take walk_end B ≡ take walk_end A → Walked s from B
walked_at s from A B w e =
    let q : get_or B walk_count 0 ≡ get_or A walk_count 0 = agree B A walk_end e walk_count (omega arith) in
    record {
      same = ap (λ n. run_at B walk_at n) q ∙ run_same B A walk_end e walk_at (get_or A walk_count 0) (omega (arith, w.few)) ∙ w.same;
      few = omega (arith, q, w.few);
    }

-- no level has visited anything for the item
none_visited : (item : Item) (m : ℕ) → visited [] item m ≡ false
unfolding visited any
none_visited item m = refl

-- one module more is copied
module _ (A₀ : List ℕ) (to n : ℕ) (A : List ℕ) (v : Copied A₀ to n A) (past : walk_end ≤ to) (space : to + module_limit ≤ length A)
    (few : n < module_limit) where
  pub copied_next : {w : ℕ} → w ≡ get_or A (walk_at + n) 0 → Copied A₀ to (n + 1) (set A (to + n) w)
  copied_next {w} e =
      let o : w ≡ get_or A₀ (walk_at + n) 0 = e ∙ agree A A₀ to v.below (walk_at + n) (omega arith) in
      record {
        run =
            run_put A to n w (omega arith) ∙ ap (λ z. z ++ (w ∷ [])) v.run ∙ ap (λ z. run_at A₀ walk_at n ++ (z ∷ [])) o
            ∙ sym (rows_snoc (λ i. get_or A₀ (walk_at + i) 0) n);
        below = take-set-le to A (to + n) w (omega arith) ∙ v.below;
        above = λ i h. get_or-set_other A (to + n) i w 0 (λ q. omega arith) ∙ v.above i h;
      }

pub copied_start : (A : List ℕ) (to : ℕ) → Copied A to 0 A
copied_start A to = record { run = run_none A to ∙ sym (run_none A walk_at); below = refl; above = λ i h. refl }

-- the walk, copied, is the run of a search for an item that no level is for
module _ (W A₀ : List ℕ) (l : Layout) (from : ℕ) (s : Stack) (item : Item) (w : Walked (snap_of W A₀ l) from A₀) where
  pub gathered_copy : (A : List ℕ) {n : ℕ} → n ≡ get_or A₀ walk_count 0 → Copied A₀ s.top n A
      → ((m : ℕ) → visited (levels_of A₀ s.place s.depth) item m ≡ false)
      → Gathered A₀ s.top (find_local_import_locations (snap_of W A₀ l) from (visited (levels_of A₀ s.place s.depth) item)) A n
  gathered_copy A {n} e c off =
      record {
        run = c.run ∙ ap (λ z. run_at A₀ walk_at z) e ∙ w.same ∙ walk_same (snap_of W A₀ l) from _ _ (λ m. sym (off m));
        below = c.below;
        above = λ i h. c.above i (omega arith);
        few = omega (arith, e, w.few);
      }

-- the walk was taken
module _ (W A₀ : List ℕ) (l : Layout) (from : ℕ) (item : Item) (size : length A₀ ≡ area_limit) where
  pub kept_walk : (A : List ℕ) (n : ℕ) → length A ≡ length A₀
      → Gathered A₀ walk_at (find_local_import_locations (snap_of W A₀ l) from (visited (levels_of A₀ 0 0) item)) A n
      → Kept W A₀ l from (set A walk_count n)
  unfolding levels_of
  kept_walk A n long g =
      let B = set A walk_count n in
      let q : get_or B walk_count 0 ≡ n = get_or-set_same A walk_count n 0 (omega (arith, long, size)) in
      record {
        walked = record {
          same =
              ap (λ z. run_at B walk_at z) q
              ∙ rows_ext _ _ n (λ i h. get_or-set_other A walk_count (walk_at + i) n 0 (λ o. let f = g.few in omega arith))
              ∙ g.run ∙ walk_same (snap_of W A₀ l) from _ _ (λ m. none_visited item m);
          few = omega (arith, q, g.few);
        };
        below = take-set-le walk_at A walk_count n (omega arith) ∙ g.below;
        above = λ i h. get_or-set_other A walk_count i n 0 (λ o. omega arith) ∙ g.above i (omega arith);
      }
