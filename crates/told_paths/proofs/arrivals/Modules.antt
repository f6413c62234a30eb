-- The first path to a module is that of its way in the run.
use Prim.Native.Nat.{ℕ, zero, suc}
use mathlib.Core.Path.{◌≡◌, refl, sym, ap, ◌∙◌}
use mathlib.Core.List.{List, [], ◌∷◌, ◌++◌}
use mathlib.Core.Bool.{Bool, true, false, true≢false}
use Rattle.std.specs.Prelude.{Option, None, Some}
use borrow.Author.Tests.{eqb-true}
use lib.Dec.{eqb}
use Rattle.snapshot.specs.Lists.{any}
use Rattle.snapshot.specs.Records.{Snapshot}
use Rattle.accept.specs.Valid.{Each}
use Rattle.accept.proofs.Accepted.{by_test}
use Rattle.accept.proofs.Bools.{each_map}
use Rattle.hir_def.specs.Finds.{first_of, or_first}
use Rattle.hir_def.specs.Items.{types, ns_of, same_item, module_item}
use Rattle.hir_def.specs.declared.Item.{Item}
use Rattle.hir_def.specs.declared.Item.TheVariants.{Mod, Def}
use Rattle.nameable.specs.Paths.{Path, means}
use Rattle.nameable.specs.Breadth.{Way, is_met, with_meaning, added, nameless, single, onward, reached, is_item, first_to, arrives, arrival, turns}
use Rattle.nameable.specs.Queue.{run}
use Rattle.nameable.proofs.Reached.{way_to, with_old, with_new, Good, Plenty, reached_good}
use Rattle.nameable.proofs.Queue.{run_reached}
use Rattle.any_path.specs.Rows.{Meant}
use Rattle.told_paths.specs.arrivals.Steps.{way_of}

or_nothing : {A : Type 0} (a : Option A) → a ≡ or_first a None
unfolding or_first
or_nothing None = refl
or_nothing (Some x) = refl

pub or_left : {A : Type 0} (a b c : Option A) → or_first (or_first a b) c ≡ or_first a (or_first b c)
unfolding or_first
or_left None b c = refl
or_left (Some x) b c = refl

if_so : Path → Bool → Option Path
if_so p true = Some p
if_so p false = None

module _ (m : ℕ) where
  way_end : (ws vs : List Way) → way_of m (ws ++ vs) ≡ or_first (way_of m ws) (way_of m vs)
  unfolding way_of or_first
  way_end [] vs = refl
  way_end (w ∷ ws) vs = by_test (eqb w.target m) (λ t. rw (t, way_of)) (λ t. rw (t, way_of) (way_end ws vs))

  -- a way to the module hides every later one
  met_first : (ws : List Way) (o : Option Path) → is_met ws m ≡ true → way_of m ws ≡ or_first (way_of m ws) o
  unfolding is_met any way_of or_first
  met_first [] o e = absurd (true≢false (sym e))
  met_first (w ∷ ws) o e = by_test (eqb w.target m) (λ t. rw (t, way_of)) (λ t. rw (t, way_of) (met_first ws o (rw t at e)))

  -- the path, if that is what it means
  abbrev if_module : Path → Option Item → Option Path
  if_module p o = if_so p (is_item (module_item m) o)

  way_one : (p : Path) (t : ℕ) → way_of m (way_to p t ∷ []) ≡ if_module p (Some (module_item t))
  unfolding way_of if_so is_item same_item
  way_one p t = by_test (eqb t m) (λ e. rw (e, way_of)) (λ e. rw (e, way_of))

  way_with : (ws : List Way) (p : Path) (o : Option Item) → way_of m (with_meaning ws p o) ≡ or_first (way_of m ws) (if_module p o)
  unfolding with_meaning if_so is_item same_item
  way_with ws p None = or_nothing (way_of m ws)
  way_with ws p (Some (Def ns d)) = or_nothing (way_of m ws)
  way_with ws p (Some (Mod t)) =
      by_test (is_met ws t.0)
      (λ e.
      ap (way_of m) (with_old ws p t.0 e)
      ∙ by_test (eqb t.0 m)
      (λ q. met_first ws (if_module p (Some (Mod t))) (ap (is_met ws) (sym (eqb-true t.0 m q)) ∙ e))
      (λ q. rw q (or_nothing (way_of m ws))))
      (λ e.
      ap (way_of m) (with_new ws p t.0 e)
      ∙ (way_end ws (way_to p t.0 ∷ []) ∙ ap (or_first (way_of m ws)) (way_one p t.0)))

module _ (s : Snapshot) (from m : ℕ) where
  first_more : (p : Path) (ps : List Path)
      → first_to s from (module_item m) (p ∷ ps) ≡ or_first (if_module m p (means s from types p)) (first_to s from (module_item m) ps)
  unfolding first_to first_of if_so or_first ns_of
  first_more p ps =
      by_test (is_item (module_item m) (means s from types p)) (λ t. rw (t, first_of)) (λ t. rw (t, first_of))

  way_added : (ws : List Way) (ps : List Path) → way_of m (added s from ws ps) ≡ or_first (way_of m ws) (first_to s from (module_item m) ps)
  unfolding added first_to first_of
  way_added ws [] = or_nothing (way_of m ws)
  way_added ws (p ∷ ps) =
      way_added (with_meaning ws p (means s from types p)) ps
      ∙ (ap (λ (o : Option Path). or_first o (first_to s from (module_item m) ps)) (way_with m ws p (means s from types p))
      ∙ (or_left (way_of m ws) (if_module m p (means s from types p)) (first_to s from (module_item m) ps)
      ∙ ap (or_first (way_of m ws)) (sym (first_more p ps))))

  way_reached : (b : Bool) (k : ℕ) → way_of m (reached b s from k) ≡ arrives b s from (module_item m) k
  unfolding reached arrives ns_of way_of or_first
  way_reached b zero = way_added [] (nameless b s)
  way_reached b (suc k) =
      way_added (reached b s from k) (onward s from types (reached b s from k) ++ single b s from types)
      ∙ ap
      (λ (o : Option Path).
      or_first o (first_to s from (module_item m) (onward s from types (reached b s from k) ++ single b s from types)))
      (way_reached b k)

module _ (s : Snapshot) (from : ℕ) (plenty : Plenty s from) (b : Bool) where
  pub arrival_module : (m : ℕ) → way_of m (run b s from) ≡ arrival b s from (module_item m)
  arrival_module m = ap (way_of m) (run_reached s from plenty b) ∙ way_reached s from m b (turns s)

  -- the ways of a run mean their modules
  pub run_meant : Each (Meant s from) (run b s from)
  run_meant =
      rw (run_reached s from plenty b) (each_map (λ (w : Way) (g : Good s from b (turns s) w). g.there) (reached_good s from b (turns s)))
