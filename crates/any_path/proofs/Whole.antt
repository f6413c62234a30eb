-- A whole run: of the paths that begin with a name, or of those that don't.
use Prim.Native.Nat.{ℕ}
use mathlib.Core.Path.{◌≡◌, sym, ap, ap₂, subst, ◌∙◌}
use mathlib.Core.List.{List}
use mathlib.Core.Bool.{Bool, true}
use lib.ListN.{length}
use Rattle.snapshot.specs.Lists.{rows}
use Rattle.snapshot.specs.Records.{Snapshot}
use Rattle.snapshot.specs.Layouts.{snap_of}
use Rattle.snapshot.specs.declared.layout.Layout.{Layout}
use Rattle.snapshot.proofs.Laws.{length_rows}
use Rattle.accept.specs.Post.{Reads}
use Rattle.accept.specs.Valid.{Each}
use Rattle.hir_def.specs.Items.{types}
use Rattle.nameable.specs.Breadth.{Way, added, nameless, single, onward}
use Rattle.nameable.specs.Queue.{queue, begun, run}
use Rattle.any_path.specs.Rows.{way_at, run_at, Run, Stays, Grown, Meant}
use Rattle.any_path.proofs.Taken.{unchanged, as_run, grown_then, stays_snap, stays_reads}
use Rattle.any_path.proofs.Runs.{added_meant}

module _ (W A : List ℕ) (l : Layout) (r : Reads W A l) (from : ℕ) (b : Bool) where
  abbrev s : Snapshot
  s = snap_of W A l

  meant_now : (B : List ℕ) (n : ℕ) (ws : List Way) → Stays A B → run_at B n ≡ ws → Each (Meant s from) ws
      → Each (Meant (snap_of W B l) from) (run_at B n)
  meant_now B n ws stays e h =
      subst (λ (u : Snapshot). Each (Meant u from) (run_at B n)) (sym (stays_snap W A B l r stays)) (subst (Each (Meant s from)) (sym e) h)

  begun_meant : Each (Meant s from) (begun b s from)
  unfolding begun
  begun_meant = added_meant s from (nameless b s) Each.none

  module _ {B : List ℕ} {n : ℕ} (f : Grown l.modules A 0 B n (begun b (snap_of W A l) from)) where
    pub first_meant : Each (Meant (snap_of W B l) from) (run_at B n)
    first_meant = meant_now B n (begun b s from) f.stays f.same begun_meant

    module _ {C : List ℕ} {m : ℕ}
        (g : Grown l.modules B n C m (added (snap_of W B l) from (run_at B n) (onward (snap_of W B l) from types (run_at B n)))) where
      abbrev near : List Way
      near = added s from (begun b s from) (onward s from types (begun b s from))

      near_same : run_at C m ≡ near
      near_same =
          g.same
          ∙ (ap (λ (u : Snapshot). added u from (run_at B n) (onward u from types (run_at B n))) (stays_snap W A B l r f.stays)
          ∙ ap (λ (ws : List Way). added s from ws (onward s from types ws)) f.same)

      near_grown : Grown l.modules A 0 C m (run_at C m)
      near_grown = grown_then (as_run f) (as_run g)

      pub near_reads : Reads W C l
      near_reads = stays_reads W A C l r near_grown.stays

      module _ {D : List ℕ} {q : ℕ} (h : Grown l.modules C m D q (added (snap_of W C l) from (run_at C m)
          (single b (snap_of W C l) from types))) where
        abbrev all : List Way
        all = added s from near (single b s from types)

        all_same : run_at D q ≡ all
        all_same =
            h.same
            ∙ (ap (λ (u : Snapshot). added u from (run_at C m) (single b u from types)) (stays_snap W A C l r near_grown.stays)
            ∙ ap (λ (ws : List Way). added s from ws (single b s from types)) near_same)

        all_grown : Grown l.modules A 0 D q (run_at D q)
        all_grown = grown_then near_grown (as_run h)

        pub all_reads : Reads W D l
        all_reads = stays_reads W A D l r all_grown.stays

        pub all_meant : Each (Meant (snap_of W D l) from) (run_at D q)
        all_meant =
            meant_now D q all all_grown.stays all_same
            (added_meant s from (single b s from types) (added_meant s from (onward s from types (begun b s from)) begun_meant))

        pub run_done : {E : List ℕ} {p : ℕ}
            → Grown l.modules D q E p (queue (snap_of W D l) from (length (snap_of W D l).modules) (run_at D q) n)
            → Grown l.modules A 0 E p (run b (snap_of W A l) from)
        unfolding run run_at
        run_done {E} {p} k =
            let start : n ≡ length (begun b s from) = sym (length_rows (way_at B) n) ∙ ap length f.same in
            let same : queue (snap_of W D l) from (length (snap_of W D l).modules) (run_at D q) n ≡ run b s from =
            ap (λ (u : Snapshot). queue u from (length u.modules) (run_at D q) n) (stays_snap W A D l r all_grown.stays)
            ∙ ap₂ (queue s from (length s.modules)) all_same start in
            subst (Grown l.modules A 0 E p) same (grown_then all_grown k)

-- no path that begins with a name is without names
module _ (s : Snapshot) (from modules : ℕ) (A : List ℕ) (run : Run modules A 0) where
  pub none_begun : Grown modules A 0 A 0 (begun true s from)
  unfolding begun nameless added run_at rows
  none_begun = unchanged modules A 0 run

  pub none_near : Grown modules A 0 A 0 (added s from (run_at A 0) (onward s from types (run_at A 0)))
  unfolding onward added run_at rows
  none_near = unchanged modules A 0 run
