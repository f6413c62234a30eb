-- Every module that a local search takes is there.
use Prim.Native.Nat.{ℕ, zero, suc, ◌<◌}
use mathlib.Core.Path.{◌≡◌, subst}
use mathlib.Core.List.{List, map}
use mathlib.Core.Bool.{Bool, true, ◌&&◌}
use native.Mathlib.Omega.{arith}
use lib.Dec.{eqb}
use lib.ListN.{length}
use borrow.Author.Tests.{eqb-true}
use Rattle.snapshot.specs.Records.{Snapshot, Scope}
use Rattle.snapshot.specs.Layouts.{snap_of}
use Rattle.snapshot.specs.declared.layout.Layout.{Layout}
use Rattle.accept.specs.Post.{Reads}
use Rattle.check_records.specs.record_rules.Stands.{counts_in}
use Rattle.accept.specs.Valid.{Each, none, more, ScopeFits, Ranges}
use Rattle.accept.proofs.Accepted.{by_test}
use Rattle.accept.proofs.Bools.{and_right, each_map}
use Rattle.accept.proofs.Reading.{ranges_read}
use Rattle.accept.proofs.Trees.{accepted_tree}
use Rattle.accept.proofs.Valid.{accepted_valid}
use Rattle.hir_def.specs.Finds.{select}
use Rattle.hir_def.specs.Items.{crate_of, containing, definition_of}
use Rattle.hir_def.specs.ItemScope.{is_module_entry, modules_in_scope, entry_module}
use Rattle.module_tree.specs.rules.Visibility.{sees}
use Rattle.hir_def.specs.Nameres.{children_of, containers, steps, steps_to, steps_or}
use Rattle.hir_def.proofs.Laws.{Falls, by_number}
use Rattle.hir_def.proofs.Found.{each_select}
use Rattle.hir_def.proofs.Chains.{containing_falls}
use Rattle.hir_def.proofs.Fits.{module_known}
use Rattle.hir_def.proofs.Reading.{length_modules}
use Rattle.find_path_spec.specs.Walk.{start_from, leads_to, find_local_import_locations}
use Rattle.find_path_spec.proofs.laws.Crates.{each_append, each_of, walk_each}

-- those that pass a test
each_passing : {A : Type 0} {P Q : A → Type 0} {xs : List A} (p : A → Bool) → ((x : A) → P x → p x ≡ true → Q x) → Each P xs → Each Q (select p xs)
unfolding select
each_passing p f none = none
each_passing p f (more {x = x} q h) =
    by_test (p x) (λ t. rw (t, select) (more (f x q t) (each_passing p f h))) (λ t. rw (t, select) (each_passing p f h))

-- steps that fall stay below
module _ (step : ℕ → ℕ) (n : ℕ) (falls : Falls step n) where
  steps_to_each : (d m : ℕ) → m < n → Each (λ p. p < n) (steps_to step d m)
  unfolding steps_to steps_or
  steps_to_each zero m h = none
  steps_to_each (suc d) m h =
      by_number (step m) (λ z. rw z none)
      (λ p q. let f = falls m p h q in rw q (more {x = p} (omega arith) (steps_to_each d p (omega arith))))

  steps_each : (m : ℕ) → m < n → Each (λ p. p < n) (steps step m)
  unfolding steps
  steps_each m h = steps_to_each m m h

module _ (W A : List ℕ) (l : Layout) (r : Reads W A l) where
  abbrev S : Snapshot
  S = snap_of W A l

  abbrev There : ℕ → Type 0
  There m = m < l.modules

  ranges : Ranges (counts_in l) S
  ranges = ranges_read W A l (accepted_valid W S r.same)

  children_there : (from : ℕ) → Each There (map (λ c. c.child) (children_of S from))
  unfolding children_of
  children_there from = each_of There (λ c. c.child) (each_select _ (each_map (λ c h. h.child) ranges.children))

  containers_there : (from : ℕ) → from < l.modules → Each There (containers S from)
  unfolding containers
  containers_there from h =
      let e = length_modules W A l in
      subst (λ n. Each (λ p. p < n) (steps (containing S) from)) e
      (steps_each (containing S) (length S.modules) (containing_falls S (accepted_tree W S r.same)) from (rw e h))

  entry_there : (m : ℕ) (e : Scope) → ScopeFits (counts_in l) e → is_module_entry S m e ≡ true → There (entry_module S e)
  entry_there m e f p =
      let a = and_right (eqb e.owner m) (eqb e.ns 0 && eqb (definition_of S e.definition).kind 1) p in
      let b = and_right (eqb e.ns 0) (eqb (definition_of S e.definition).kind 1) a in
      module_known W A l r e.definition f.definition (eqb-true _ _ b)

  leads_there : (from m : ℕ) → Each There (leads_to S from m)
  unfolding leads_to modules_in_scope
  leads_there from m =
      each_of There (entry_module S)
      (each_select (λ e. eqb (crate_of S (entry_module S e)) (crate_of S from) && sees S from e)
      (each_passing (is_module_entry S m) (entry_there m) ranges.scopes))

  pub locations_there : (from : ℕ) (seen : ℕ → Bool) → from < l.modules → Each There (find_local_import_locations S from seen)
  unfolding find_local_import_locations start_from
  locations_there from seen h =
      walk_each There (leads_to S from) seen (leads_there from) _ none (each_append (children_there from) (containers_there from h))
