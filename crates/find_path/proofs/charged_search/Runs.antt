-- Searches one after the other: the tables stay, so each speaks of the first one's snapshot. And the loops over records.
use mathlib.Core.Path.{◌≡◌, refl, sym, ◌∙◌, ap, subst}
use Prim.Native.Nat.{ℕ, ◌+◌, ◌*◌, ◌<◌}
use mathlib.Core.List.{List, [], ◌∷◌}
use Rattle.std.specs.Prelude.{Option}
use mathlib.Core.Bool.{Bool, true, false}
use lib.ListN.{length, take}
use Rattle.snapshot.specs.Sizes.{dependency_size, import_size}
use Rattle.snapshot.specs.Records.{Snapshot, Dependency, Import, dependency_at, import_at}
use Rattle.snapshot.specs.Layouts.{table_words, snap_of}
use Rattle.snapshot.specs.declared.layout.Layout.{Layout}
use Rattle.hir_def.specs.Finds.{select}
use Rattle.hir_def.specs.Nameres.{by_sysroot}
use Rattle.hir_def.specs.ImportMap.{import_info_for, is_hidden}
use Rattle.hir_def.specs.Entries.{left_of, Meets}
use Rattle.hir_def.specs.declared.Item.{Item}
use Rattle.find_path_choice.specs.declared.Choice.{Choice as Path}
use Rattle.find_path_choice.specs.Given.{given}
use Rattle.find_path_spec.specs.declared.Tank.{Tank}
use Rattle.find_path_spec.specs.declared.Found.{Found as CodeFound}
use Rattle.find_path_spec.specs.declared.FindPathCtx.{FindPathCtx}
use Rattle.find_path_choice.specs.Choices.{Choice, length_left}
use Rattle.find_path_spec.specs.Charged.{Out, Found, found_of, out_of, given_found, is_stable, offer_import, find_imports, find_in_dep, find_in_deps}
use Rattle.find_path_spec.specs.Conditions.{Prepared, Searched}
use Rattle.find_path_spec.proofs.laws.Tables.{same_snap, same_prepared}
use Rattle.find_path.specs.charged_search.Parts.{modules, one_import, imports, dependencies, sysroot, in_lang, Begun, Held}
use Rattle.find_path.proofs.charged_search.Parts.{found, taken, lang_next, rest_more, import_seen}
use Rattle.find_path.proofs.charged_search.Holding.{held_import, held_imports, held_deps, held_lang}

module _ (W A₀ A : List ℕ) (l : Layout) (x : FindPathCtx) (p : Prepared W A₀ l x) (same : take table_words A ≡ take table_words A₀) where
  -- a search that begins where the tables have stayed
  pub later : (F : Snapshot → Out Tank) {B : List ℕ} {r : CodeFound} → Searched A (F (snap_of W A l)) B r → Searched A₀ (F (snap_of W A₀ l)) B r
  later F h =
      record {
        same = h.same ∙ ap (λ (s : Snapshot). found_of (F s)) (same_snap W A₀ A l same p.reads);
        tables = h.tables ∙ same;
      }

pub begun_later : {W A₀ B : List ℕ} {l : Layout} {x : FindPathCtx} {left : ℕ} → Begun W A₀ l x left → take table_words B ≡ take table_words A₀
    → length B ≡ length A₀ → Begun W B l x left
begun_later {W} {A₀} {B} {l} b e k = record { ready = same_prepared W A₀ B l e b.ready k; some = b.some; limit = b.limit }

-- what the next search may rely on
pub record Passed (W A : List ℕ) (l : Layout) (x : FindPathCtx) (left : ℕ) (f : CodeFound) : Type 0 where
  pub begun : Begun W A l x left
  pub held : Held left (out_of f)

pub lang_passed : {W A₀ A : List ℕ} {l : Layout} {x : FindPathCtx} {left : ℕ} {o a : CodeFound} {k : ℕ} (item : Item) (n : ℕ) → Passed W A₀ l x left o
    → Searched A₀ (in_lang (snap_of W A₀ l) x left item (out_of o) n (is_stable (given o.choice))) A a → length A ≡ k → length A₀ ≡ k
    → Passed W A l x left a
lang_passed {W} {A₀} {A} {l} {x} {left} {o} item n p d e h =
    record {
      begun = begun_later p.begun d.tables (e ∙ sym h);
      held = subst (Held left) (sym (ap taken d.same)) (held_lang (snap_of W A₀ l) x left item (out_of o) n _ p.begun.some p.held);
    }

pub deps_passed : {W A₀ A : List ℕ} {l : Layout} {x : FindPathCtx} {left : ℕ} {o a : CodeFound} {k : ℕ} (item : Item) (ds : List Dependency)
    → Passed W A₀ l x left o
    → Searched A₀ (dependencies (snap_of W A₀ l) x left item (out_of o) ds) A a → length A ≡ k → length A₀ ≡ k → Passed W A l x left a
deps_passed {W} {A₀} {A} {l} {x} {left} {o} item ds p d e h =
    record {
      begun = begun_later p.begun d.tables (e ∙ sym h);
      held = subst (Held left) (sym (ap taken d.same)) (held_deps (snap_of W A₀ l) x left item (out_of o) ds p.begun.some p.held);
    }

-- one language, then the rest
pub lang_run : {W A₀ A B : List ℕ} {l : Layout} {x : FindPathCtx} {a r : CodeFound} (left : ℕ) (item : Item) (n : ℕ) (ls : List ℕ) (o : CodeFound)
    → Prepared W A₀ l x
    → Searched A₀ (in_lang (snap_of W A₀ l) x left item (out_of o) n (is_stable (given o.choice))) A a
    → Searched A (sysroot (snap_of W A l) x left item (out_of a) ls (is_stable (given a.choice))) B r
    → Searched A₀ (sysroot (snap_of W A₀ l) x left item (out_of o) (n ∷ ls) (is_stable (given o.choice))) B r
lang_run {W} {A₀} {A} {B} {l} {x} {a} {r} left item n ls o p d e =
    let S = snap_of W A₀ l in
    let k = later W A₀ A l x p d.tables (λ (s : Snapshot). sysroot s x left item (out_of a) ls (is_stable (given a.choice))) e in
    record {
      same =
          k.same
          ∙ ap (λ (y : Found). found_of (sysroot S x left item (taken y) ls (is_stable y.choice))) d.same
          ∙ ap found_of (lang_next S x left item (out_of o) n ls);
      tables = k.tables;
    }

-- the dependencies of the sysroot, then the others
pub rest_run : {W A₀ A B : List ℕ} {l : Layout} {x : FindPathCtx} {a r : CodeFound} (left : ℕ) (item : Item) (o : CodeFound)
    → Prepared W A₀ l x → is_stable (given o.choice) ≡ false
    → Searched A₀ (dependencies (snap_of W A₀ l) x left item (out_of o) (select (by_sysroot x.from_crate.0 true) (snap_of W A₀ l).dependencies))
    A a
    → Searched A (dependencies (snap_of W A l) x left item (out_of a) (select (by_sysroot x.from_crate.0 false) (snap_of W A l).dependencies)) B r
    → Searched A₀ (sysroot (snap_of W A₀ l) x left item (out_of o) [] (is_stable (given o.choice))) B r
rest_run {W} {A₀} {A} {B} {l} {x} {a} {r} left item o p h d e =
    let S = snap_of W A₀ l in
    let k = later W A₀ A l x p d.tables (λ (s : Snapshot). dependencies s x left item (out_of a)
    (select (by_sysroot x.from_crate.0 false) s.dependencies)) e in
    record {
      same =
          k.same
          ∙ ap (λ (y : Found). found_of (dependencies S x left item (taken y) (select (by_sysroot x.from_crate.0 false) S.dependencies)))
          d.same
          ∙ ap found_of (rest_more S x left item (out_of o) _ h);
      tables = k.tables;
    }

-- the module search of an import, and its offer
pub import_run : {W A₀ B : List ℕ} {l : Layout} {x : FindPathCtx} {n m : ℕ} {r : CodeFound} {c : Option Path} (left h : ℕ) (o : CodeFound)
    → Prepared W A₀ l x → is_hidden (import_at W h) ≡ false → n ≡ length_left left (given o.choice) → m ≡ (import_at W h).container
    → Searched A₀ (modules (snap_of W A₀ l) x n m o.meter) B r
    → given c ≡ offer_import (snap_of W B l) x (given o.choice) (given r.choice) (import_at W h)
    → Searched A₀ (one_import (snap_of W A₀ l) x left (out_of o) (import_at W h) (is_hidden (import_at W h))) B
    (record { choice = c; meter = r.meter })
import_run {W} {A₀} {B} {l} {x} {n} {m} {r} {c} left h o p k u v d e =
    let S = snap_of W A₀ l in
    let i = import_at W h in
    let q : given_found r ≡ found_of (modules S x (length_left left (given o.choice)) i.container o.meter) =
    d.same ∙ ap (λ (y : ℕ). found_of (modules S x y m o.meter)) u
    ∙ ap (λ (y : ℕ). found_of (modules S x (length_left left (given o.choice)) y o.meter)) v in
    let z : given c ≡ offer_import S x (given o.choice) (given r.choice) i =
    e ∙ ap (λ (s : Snapshot). offer_import s x (given o.choice) (given r.choice) i) (same_snap W A₀ B l d.tables p.reads) in
    record {
      same = ap (λ (y : Choice). found y r.meter) z ∙ import_seen S x left (out_of o) i _ (given_found r) k q;
      tables = d.tables;
    }

-- A loop: what is left gives the goal.
pub record Running (A₀ A : List ℕ) (left : ℕ) (best : CodeFound) (rest goal : Out Tank) : Type 0 where
  pub same : rest ≡ goal
  pub tables : take table_words A ≡ take table_words A₀
  pub long : length A ≡ length A₀
  pub held : Held left (out_of best)

pub running_done : {A₀ A : List ℕ} {left : ℕ} {best : CodeFound} {rest goal : Out Tank} → Running A₀ A left best rest goal
    → out_of best ≡ rest → Searched A₀ goal A best
running_done g e = record { same = ap found_of (e ∙ g.same); tables = g.tables }

module _ (W A₀ A : List ℕ) (l : Layout) (x : FindPathCtx) (left : ℕ) (p : Prepared W A₀ l x) (some : 0 < left) where
  pub imports_end : (best : CodeFound) (is : List Import) → is ≡ [] → out_of best ≡ imports (snap_of W A₀ l) x left (out_of best) is
  unfolding find_imports
  imports_end best is e = sym (ap (imports (snap_of W A₀ l) x left (out_of best)) e)

  pub imports_next : {q : Import → Bool} {base n k j h : ℕ} {best r : CodeFound} {goal : Out Tank} {B : List ℕ}
      → Running A₀ A left best (imports (snap_of W A₀ l) x left (out_of best) (left_of q (λ i. import_at W (base + import_size * i)) n k)) goal
      → Meets q import_at import_size W base n k j h
      → Searched A (one_import (snap_of W A l) x left (out_of best) (import_at W h) (is_hidden (import_at W h))) B r
      → length B ≡ length A
      → Running A₀ B left r (imports (snap_of W A₀ l) x left (out_of r) (left_of q (λ i. import_at W (base + import_size * i)) n (j + 1))) goal
  unfolding find_imports
  imports_next {q} {base} {n} {k} {j} {h} {best} {r} g m d e =
      let S = snap_of W A₀ l in
      let i = import_at W h in
      let a = later W A₀ A l x p g.tables (λ (s : Snapshot). one_import s x left (out_of best) i (is_hidden i)) d in
      let u : out_of r ≡ one_import S x left (out_of best) i (is_hidden i) = ap taken a.same in
      record {
        same =
            ap (λ (o : Out Tank). imports S x left o (left_of q (λ y. import_at W (base + import_size * y)) n (j + 1))) u
            ∙ ap (imports S x left (out_of best)) (sym m.next)
            ∙ g.same;
        tables = a.tables;
        long = e ∙ g.long;
        held = subst (Held left) (sym u) (held_import S x left (out_of best) i (is_hidden i) some g.held);
      }

  pub deps_end : (item : Item) (best : CodeFound) (ds : List Dependency) → ds ≡ []
      → out_of best ≡ dependencies (snap_of W A₀ l) x left item (out_of best) ds
  unfolding find_in_deps
  deps_end item best ds e = sym (ap (dependencies (snap_of W A₀ l) x left item (out_of best)) e)

  pub deps_next : (item : Item) {q : Dependency → Bool} {base n k j h c : ℕ} {best r : CodeFound} {goal : Out Tank} {B : List ℕ}
      → Running A₀ A left best (dependencies (snap_of W A₀ l) x left item (out_of best)
      (left_of q (λ i. dependency_at W (base + dependency_size * i)) n k)) goal
      → Meets q dependency_at dependency_size W base n k j h
      → c ≡ (dependency_at W h).crate
      → Searched A (imports (snap_of W A l) x left (out_of best) (import_info_for (snap_of W A l) c item)) B r
      → length B ≡ length A
      → Running A₀ B left r (dependencies (snap_of W A₀ l) x left item (out_of r)
      (left_of q (λ i. dependency_at W (base + dependency_size * i)) n (j + 1))) goal
  unfolding find_in_deps find_in_dep
  deps_next item {q} {base} {n} {k} {j} {h} {c} {best} {r} g m y d e =
      let S = snap_of W A₀ l in
      let a = later W A₀ A l x p g.tables (λ (s : Snapshot). imports s x left (out_of best) (import_info_for s c item)) d in
      let v : given_found r ≡ found_of (imports S x left (out_of best) (import_info_for S (dependency_at W h).crate item)) =
      a.same ∙ ap (λ (z : ℕ). found_of (imports S x left (out_of best) (import_info_for S z item))) y in
      record {
        same =
            ap (λ (z : Found). dependencies S x left item (taken z) (left_of q (λ i. dependency_at W (base + dependency_size * i)) n (j + 1))) v
            ∙ ap (dependencies S x left item (out_of best)) (sym m.next)
            ∙ g.same;
        tables = a.tables;
        long = e ∙ g.long;
        held = subst (Held left) (sym (ap taken v))
            (held_imports S x left (out_of best) (import_info_for S (dependency_at W h).crate item) some g.held);
      }

  -- a crate that imports nothing of it is passed over
  pub deps_skip : (item : Item) {q : Dependency → Bool} {base n k j h c : ℕ} {best : CodeFound} {goal : Out Tank}
      → Running A₀ A left best (dependencies (snap_of W A₀ l) x left item (out_of best)
      (left_of q (λ i. dependency_at W (base + dependency_size * i)) n k)) goal
      → Meets q dependency_at dependency_size W base n k j h
      → c ≡ (dependency_at W h).crate
      → import_info_for (snap_of W A l) c item ≡ []
      → Running A₀ A left best (dependencies (snap_of W A₀ l) x left item (out_of best)
      (left_of q (λ i. dependency_at W (base + dependency_size * i)) n (j + 1))) goal
  unfolding find_imports
  deps_skip item {best = best} g m y e =
      deps_next item g m y (record { same = ap found_of (sym (ap (imports (snap_of W A l) x left (out_of best)) e)); tables = refl }) refl
