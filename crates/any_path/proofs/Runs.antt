-- Rows taken up one after the other.
use Prim.Native.Nat.{ℕ, suc, ◌+◌, ◌-◌, ◌≤◌, ◌<◌}
use mathlib.Core.Path.{◌≡◌, refl, sym, ap, subst, ◌∙◌}
use mathlib.Core.List.{List, [], ◌∷◌}
use Rattle.std.specs.Prelude.{Option, None, Some}
use native.Mathlib.Omega.{arith}
use lib.ListN.{length, get_or}
use Rattle.snapshot.specs.Lists.{rows}
use Rattle.snapshot.specs.Records.{Snapshot}
use Rattle.snapshot.specs.Layouts.{snap_of}
use Rattle.snapshot.specs.declared.layout.Layout.{Layout}
use Rattle.snapshot.proofs.Laws.{rows_next, rows_none, rows_whole, length_rows, get_d_rows}
use Rattle.accept.specs.Post.{Reads}
use Rattle.accept.specs.Valid.{Each}
use Rattle.accept.proofs.Accepted.{by_test}
use Rattle.accept.proofs.Bools.{each_snoc, each_rows}
use Rattle.module_tree.proofs.Reading.{length_modules}
use Rattle.hir_def.specs.Items.{types}
use Rattle.hir_def.specs.declared.Item.{Item}
use Rattle.hir_def.specs.declared.Item.TheVariants.{Mod, Def}
use Rattle.nameable.specs.Paths.{Path, means}
use Rattle.nameable.specs.Breadth.{Way, is_met, with_meaning, added, onward}
use Rattle.nameable.specs.Queue.{no_way, paths_after, queue}
use Rattle.nameable.proofs.Reached.{with_old, with_new}
use Rattle.nameable.proofs.Queue.{added_append, queue_on, queue_end}
use Rattle.any_path.specs.Rows.{way_at, run_at, Run, Grown, Meant}
use Rattle.any_path.proofs.Written.{run_few}
use Rattle.any_path.proofs.Taken.{unchanged, as_run, grown_then, stays_snap}

-- each that is added means its module
module _ (s : Snapshot) (from : ℕ) where
  with_meant : {ws : List Way} (p : Path) → Each (Meant s from) ws → (o : Option Item) → means s from types p ≡ o
      → Each (Meant s from) (with_meaning ws p o)
  unfolding with_meaning
  with_meant p h None e = h
  with_meant p h (Some (Def ns d)) e = h
  with_meant {ws} p h (Some (Mod m)) e =
      by_test (is_met ws m.0) (λ t. rw (with_old ws p m.0 t) h) (λ t. rw (with_new ws p m.0 t) (each_snoc h e))

  pub added_meant : {ws : List Way} (ps : List Path) → Each (Meant s from) ws → Each (Meant s from) (added s from ws ps)
  unfolding added
  added_meant [] h = h
  added_meant {ws = ws} (p ∷ ps) h = added_meant {ws = with_meaning ws p (means s from types p)} ps (with_meant p h (means s from types p) refl)

-- The rows from number i on are left of n, with c rows in the area B.
pub record Spreading (W A : List ℕ) (l : Layout) (from n : ℕ) (B : List ℕ) (c i : ℕ) : Type 0 where
  pub grown : Grown l.modules A n B c (run_at B c)
  pub rest : added (snap_of W A l) from (run_at A n) (onward (snap_of W A l) from types (run_at A n))
      ≡ added (snap_of W A l) from (run_at B c) (onward (snap_of W A l) from types (rows (way_at A) i (n - i)))

-- The rows from number i on are left of those that are there and come in.
pub record Queueing (W A : List ℕ) (l : Layout) (from start n : ℕ) (B : List ℕ) (c i : ℕ) : Type 0 where
  pub grown : Grown l.modules A n B c (run_at B c)
  pub meant : Each (Meant (snap_of W A l) from) (run_at B c)
  pub past : start ≤ i
  pub rest : queue (snap_of W A l) from (length (snap_of W A l).modules) (run_at A n) start
      ≡ queue (snap_of W A l) from (length (snap_of W A l).modules - (i - start)) (run_at B c) i

module _ (W A : List ℕ) (l : Layout) (r : Reads W A l) (from n : ℕ) where
  abbrev s : Snapshot
  s = snap_of W A l

  -- a row means its module, in the area that is there now

  pub row_meant : {m i : ℕ} {B : List ℕ} → Each (Meant (snap_of W A l) from) (run_at B m) → i < m → Grown l.modules A n B m (run_at B m)
      → Meant (snap_of W B l) from (way_at B i)
  unfolding run_at
  row_meant {m} {i} {B} h k g =
      subst (λ (u : Snapshot). Meant u from (way_at B i)) (sym (stays_snap W A B l r g.stays)) (each_rows {P = Meant s from} (way_at B) m i h k)

  pub old_meant : {m i : ℕ} {B : List ℕ} → Each (Meant (snap_of W A l) from) (run_at A n) → i < n → Grown l.modules A n B m (run_at B m)
      → Meant (snap_of W B l) from (way_at B i)
  unfolding run_at
  old_meant {m} {i} {B} h k g =
      subst (λ (u : Snapshot). Meant u from (way_at B i)) (sym (stays_snap W A B l r g.stays))
      (subst (Meant s from) (sym (g.rows i k)) (each_rows {P = Meant s from} (way_at A) n i h k))

  -- one row more was taken up
  taken : {B C : List ℕ} {c q : ℕ} (i : ℕ) → Grown l.modules A n B c (run_at B c)
      → Grown l.modules B c C q (added (snap_of W B l) from (run_at B c) (paths_after (snap_of W B l) from types (way_at B i)))
      → run_at C q ≡ added (snap_of W A l) from (run_at B c) (paths_after (snap_of W A l) from types (way_at B i))
  taken {B} {C} {c} {q} i f g =
      g.same ∙ ap (λ (u : Snapshot). added u from (run_at B c) (paths_after u from types (way_at B i))) (stays_snap W A B l r f.stays)

  pub spreading_start : Run l.modules A n → Spreading W A l from n A n 0
  unfolding run_at
  spreading_start run =
      record {
        grown = unchanged l.modules A n run;
        rest = rows_whole (λ (ws : List Way). added s from (run_at A n) (onward s from types ws)) (way_at A) n;
      }

  pub spreading_next : {B C : List ℕ} {c q i : ℕ} → Spreading W A l from n B c i → i < n
      → Grown l.modules B c C q (added (snap_of W B l) from (run_at B c) (paths_after (snap_of W B l) from types (way_at B i)))
      → Spreading W A l from n C q (i + 1)
  unfolding onward
  spreading_next {B} {C} {c} {q} {i} inv less g =
      let left : List Way = rows (way_at A) (i + 1) (n - (i + 1)) in
      let one : added s from (run_at B c) (paths_after s from types (way_at A i)) ≡ run_at C q =
      ap (λ (w : Way). added s from (run_at B c) (paths_after s from types w)) (sym (inv.grown.rows i less)) ∙ sym (taken i inv.grown g) in
      record {
        grown = grown_then inv.grown (as_run g);
        rest = inv.rest
            ∙ (ap (λ (ws : List Way). added s from (run_at B c) (onward s from types ws)) (rows_next (way_at A) i n less)
            ∙ (added_append s from (run_at B c) (paths_after s from types (way_at A i)) (onward s from types left)
            ∙ ap (λ (ws : List Way). added s from ws (onward s from types left)) one));
      }

  pub spreading_done : {B : List ℕ} {c i : ℕ} → Spreading W A l from n B c i → n ≤ i
      → Grown l.modules A n B c (added (snap_of W A l) from (run_at A n) (onward (snap_of W A l) from types (run_at A n)))
  unfolding onward added
  spreading_done {B} {c} {i} inv end =
      subst (Grown l.modules A n B c)
      (sym (inv.rest ∙ ap (λ (ws : List Way). added s from (run_at B c) (onward s from types ws)) (rows_none (way_at A) i n end)))
      inv.grown

  -- the rows that a row adds are meant
  pub taken_meant : {B C : List ℕ} {c q : ℕ} (i : ℕ) → Grown l.modules A n B c (run_at B c) → Each (Meant (snap_of W A l) from) (run_at B c)
      → Grown l.modules B c C q (added (snap_of W B l) from (run_at B c) (paths_after (snap_of W B l) from types (way_at B i)))
      → Each (Meant (snap_of W A l) from) (run_at C q)
  taken_meant {B} {C} {c} {q} i f h g =
      subst (Each (Meant s from)) (sym (taken i f g)) (added_meant s from (paths_after s from types (way_at B i)) h)

  module _ (start : ℕ) where
    pub queueing_start : Run l.modules A n → Each (Meant (snap_of W A l) from) (run_at A n) → Queueing W A l from start n A n start
    queueing_start run h =
        let z : length s.modules ≡ length s.modules - (start - start) = omega arith in
        record {
          grown = unchanged l.modules A n run;
          meant = h;
          past = omega arith;
          rest = ap (λ (f : ℕ). queue s from f (run_at A n) start) z;
        }

    pub queueing_next : {B C : List ℕ} {c q i : ℕ} → Queueing W A l from start n B c i → i < c
        → Grown l.modules B c C q (added (snap_of W B l) from (run_at B c) (paths_after (snap_of W B l) from types (way_at B i)))
        → Queueing W A l from start n C q (i + 1)
    unfolding run_at
    queueing_next {B} {C} {c} {q} {i} inv less g =
        let size = length_modules W A l in
        let few = run_few l.modules B c inv.grown.run in
        let past = inv.past in
        let fuel : length s.modules - (i - start) ≡ suc (length s.modules - (i + 1 - start)) = omega (arith, size, few, less, past) in
        let long : length (run_at B c) ≡ c = length_rows (way_at B) c in
        let way : get_or (run_at B c) i no_way ≡ way_at B i = get_d_rows (way_at B) no_way c i less in
        let f : ℕ = length s.modules - (i + 1 - start) in
        record {
          grown = grown_then inv.grown (as_run g);
          meant = taken_meant i inv.grown inv.meant g;
          past = omega arith;
          rest = inv.rest
              ∙ (ap (λ (h : ℕ). queue s from h (run_at B c) i) fuel
              ∙ (queue_on s from f (run_at B c) i (omega (arith, long, less))
              ∙ (ap (λ (w : Way). queue s from f (added s from (run_at B c) (paths_after s from types w)) (i + 1)) way
              ∙ ap (λ (ws : List Way). queue s from f ws (i + 1)) (sym (taken i inv.grown g)))));
        }

    pub queueing_done : {B : List ℕ} {c i : ℕ} → Queueing W A l from start n B c i → c ≤ i
        → Grown l.modules A n B c (queue (snap_of W A l) from (length (snap_of W A l).modules) (run_at A n) start)
    unfolding run_at
    queueing_done {B} {c} {i} inv end =
        let long : length (run_at B c) ≡ c = length_rows (way_at B) c in
        subst (Grown l.modules A n B c)
        (sym (inv.rest ∙ queue_end s from (length s.modules - (i - start)) (run_at B c) i (omega (arith, long, end))))
        inv.grown
