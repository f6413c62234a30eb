-- Plain names, as the code looks them up.
use Rattle.told_paths.specs.declared.arrivals.LastStep.{LastStep}
use Prim.Native.Nat.{ℕ, ◌≤◌}
use mathlib.Core.Path.{◌≡◌, refl, sym, ap, subst, ◌∙◌}
use mathlib.Core.List.{List}
use mathlib.Core.Bool.{Bool, true, false}
use Rattle.std.specs.Prelude.{Option, None, Some, MatchOption, option_map}
use Rattle.std.proofs.lemmas.Option.{MatchOption-at_some, MatchOption-at_none}
use native.Mathlib.Omega.{arith}
use Rattle.snapshot.specs.Limits.{module_limit}
use Rattle.snapshot.specs.Records.{Snapshot, Scope, Prelude, scope_at}
use Rattle.accept.specs.Opened.{snap_in}
use Rattle.accept.specs.Valid.{Each}
use Rattle.accept.proofs.Valid.{accepted_valid}
use Rattle.module_tree.specs.rules.Modules.{map_no}
use Rattle.module_tree.proofs.Reading.{length_modules}
use Rattle.hir_def.specs.Entries.{entry_of}
use Rattle.hir_def.specs.Finds.{first_some, or_first}
use Rattle.hir_def.specs.Items.{types, ns_of, item_of, same_item, module_item, defined_item}
use Rattle.hir_def.specs.ItemScope.{is_for}
use Rattle.hir_def.specs.Nameres.{prelude_of}
use Rattle.hir_def.specs.declared.Item.{Item}
use Rattle.hir_def.specs.declared.View.{View}
use Rattle.nameable.specs.Seen.{seen}
use Rattle.nameable.specs.Paths.{Path, plain, scopes_from, reads, item_in, means, place_in}
use Rattle.nameable.specs.Breadth.{Way, onward, single, is_item, first_to, arrival}
use Rattle.nameable.specs.Queue.{run}
use Rattle.nameable.proofs.Arrives.{or_first_none, or_first_some}
use Rattle.nameable.proofs.Reached.{Plenty}
use Rattle.nameable.proofs.Plenty.{plenty}
use Rattle.any_path.specs.Rows.{path_from, run_at, Meant}
use Rattle.any_path.specs.declared.plain.Reading.{Reading}
use Rattle.any_path.specs.declared.plain.Reading.TheVariants.{Scope as ByScope, Extern as ByExtern}
use Rattle.any_path.specs.Plain.{record_read}
use Rattle.any_path.proofs.Written.{run_small}
use Rattle.told_paths.specs.arrivals.Steps.{way_of, Steps, LeadsTo, Ready, is_plain_for, plain_in, plain_in_prelude, plain_entry}
use Rattle.told_paths.proofs.arrivals.Modules.{arrival_module, run_meant}
use Rattle.told_paths.proofs.arrivals.Others.{arrival_keywords, arrival_plainly}
use Rattle.told_paths.proofs.arrivals.Plainly.{plain_first, plain_reads}

-- What a plain name means, by the record that it is read by.
module _ (s : Snapshot) (W : List ℕ) (from k d n : ℕ) {r : Option Reading} (e : record_read s W r ≡ reads s from k (plain n)) where
  pub means_scope : (h : ℕ) {t : Bool} → r ≡ Some (ByScope h)
      → t ≡ same_item (item_of s (scope_at W h).ns (scope_at W h).definition) (defined_item k d)
      → t ≡ is_item (defined_item k d) (means s from k (plain n))
  unfolding means item_in is_item record_read
  means_scope h q u = u ∙ ap (λ o. is_item (defined_item k d) (item_in o)) (ap (record_read s W) (sym q) ∙ e)

  pub means_extern : (h : ℕ) → r ≡ Some (ByExtern h) → false ≡ is_item (defined_item k d) (means s from k (plain n))
  unfolding means item_in is_item record_read same_item
  means_extern h q = ap (λ o. is_item (defined_item k d) (item_in o)) (ap (record_read s W) (sym q) ∙ e)

  pub means_nothing : r ≡ None → false ≡ is_item (defined_item k d) (means s from k (plain n))
  unfolding means item_in is_item record_read
  means_nothing q = ap (λ o. is_item (defined_item k d) (item_in o)) (ap (record_read s W) (sym q) ∙ e)

module _ (s : Snapshot) (from : ℕ) (item : Item) {k : ℕ} (map : k ≡ map_no s from) where
  pub prelude_none : prelude_of s k ≡ None → None ≡ plain_in_prelude s from item (prelude_of s (map_no s from))
  unfolding plain_in_prelude
  prelude_none e = sym (ap (plain_in_prelude s from item) (ap (prelude_of s) (sym map) ∙ e))

  pub prelude_some : {p : Prelude} {m : ℕ} {o : Option Scope} → prelude_of s k ≡ Some p → m ≡ p.target → o ≡ plain_in s from item m
      → o ≡ plain_in_prelude s from item (prelude_of s (map_no s from))
  unfolding plain_in_prelude
  prelude_some e em eo = eo ∙ (ap (plain_in s from item) em ∙ sym (ap (plain_in_prelude s from item) (ap (prelude_of s) (sym map) ∙ e)))

module _ (s : Snapshot) (from : ℕ) (item : Item) where
  abbrev near : Option Scope
  near = first_some (plain_in s from item) (scopes_from s from)

  abbrev far : Option Scope
  far = plain_in_prelude s from item (prelude_of s (map_no s from))

  pub entry_near : {e : Scope} → Some e ≡ first_some (plain_in s from item) (scopes_from s from) → Some e ≡ plain_entry s from item
  unfolding plain_entry
  entry_near {e} q = sym (or_first_some near far e (sym q))

  pub entry_far : {o : Option Scope} → None ≡ first_some (plain_in s from item) (scopes_from s from)
      → o ≡ plain_in_prelude s from item (prelude_of s (map_no s from)) → o ≡ plain_entry s from item
  unfolding plain_entry
  entry_far q u = u ∙ sym (or_first_none near far (sym q))

  pub entry_or_else : (W : List ℕ) (o r : Option ℕ) {P : Type 0} → MatchOption o P (λ h. r ≡ Some h)
      → entry_of scope_at W o ≡ first_some (plain_in s from item) (scopes_from s from)
      → (P → entry_of scope_at W r ≡ plain_in_prelude s from item (prelude_of s (map_no s from))) → entry_of scope_at W r ≡ plain_entry s from item
  entry_or_else W None r {P} m q f = entry_far q (f (MatchOption-at_none P (λ h. r ≡ Some h) refl m))
  entry_or_else W (Some h) r {P} m q f = ap (entry_of scope_at W) (MatchOption-at_some P (λ k. r ≡ Some k) h refl m) ∙ entry_near q

-- The rows of a run.
module _ (v : View) (n : ℕ) {b : Bool} (ready : Ready b v n) where
  abbrev s : Snapshot
  s = snap_in v.db

  abbrev from : ℕ
  from = v.from.0

  abbrev W : List ℕ
  W = v.db.records.words.now

  abbrev A : List ℕ
  A = v.db.area.now

  enough : Plenty s from
  enough = plenty s (accepted_valid W s v.db.reads.same) from (rw (length_modules W A v.db.records.layout) v.inside)

  pub ready_few : n ≤ module_limit
  ready_few = run_small v.db.records.layout.modules A n ready.rows v.db.reads.tables.limited.modules

  pub ready_meant : Each (Meant (snap_in v.db) from) (run_at A n)
  ready_meant = subst (Each (Meant s from)) (sym ready.same) (run_meant s from enough b)

  -- a module, by its row
  pub leads_module : {item : Item} (q : Option LastStep) (m : ℕ) → item ≡ module_item m
      → LeadsTo (snap_in v.db) from types A n (way_of m (run_at A n)) q
      → LeadsTo (snap_in v.db) from (ns_of item) A n (arrival b (snap_in v.db) from item) q
  unfolding ns_of
  leads_module q m e h =
      let same : way_of m (run_at A n) ≡ arrival b s from (module_item m) = ap (way_of m) ready.same ∙ arrival_module s from enough b m in
      subst (λ (i : Item). LeadsTo s from (ns_of i) A n (arrival b s from i) q) (sym e)
      (subst (λ (o : Option Path). LeadsTo s from types A n o q) same h)

  abbrev past : ℕ → ℕ → Option Path
  past k d = first_to s from (defined_item k d) (onward s from k (run_at A n))

  -- what is no module, by one name more after a row
  pub leads_keyword : {item : Item} (q : Option LastStep) (k d : ℕ) → b ≡ false → item ≡ defined_item k d
      → LeadsTo (snap_in v.db) from k A n (past k d) q → LeadsTo (snap_in v.db) from (ns_of item) A n (arrival b (snap_in v.db) from item) q
  unfolding ns_of
  leads_keyword q k d eb e h =
      let same : past k d ≡ arrival b s from (defined_item k d) =
      ap (λ (ws : List Way). first_to s from (defined_item k d) (onward s from k ws)) (ready.same ∙ ap (λ (c : Bool). run c s from) eb)
      ∙ (sym (arrival_keywords s from k d enough) ∙ ap (λ (c : Bool). arrival c s from (defined_item k d)) (sym eb)) in
      subst (λ (i : Item). LeadsTo s from (ns_of i) A n (arrival b s from i) q) (sym e)
      (subst (λ (o : Option Path). LeadsTo s from k A n o q) same h)

  module _ (k d : ℕ) (eb : b ≡ true) where
    plain_name : Option Path
    plain_name = option_map (λ (x : Scope). plain x.name) (plain_entry s from (defined_item k d))

    plain_whole : arrival b s from (defined_item k d) ≡ or_first plain_name (past k d)
    unfolding plain_name
    plain_whole =
        ap (λ (c : Bool). arrival c s from (defined_item k d)) eb
        ∙ (arrival_plainly s from k d enough
        ∙ (ap (λ (ws : List Way). or_first (first_to s from (defined_item k d) (single true s from k))
        (first_to s from (defined_item k d) (onward s from k ws)))
        (sym (ready.same ∙ ap (λ (c : Bool). run c s from) eb))
        ∙ ap (λ (o : Option Path). or_first o (past k d)) (plain_first s from k d)))

    -- by its name alone
    pub leads_plain : {h x : ℕ} → Some (scope_at W h) ≡ plain_entry (snap_in v.db) from (defined_item k d) → x ≡ (scope_at W h).name
        → Steps (snap_in v.db) from k A n (arrival b (snap_in v.db) from (defined_item k d)) 2 x h
    unfolding plain_name path_from place_in
    leads_plain {h} {x} q ex =
        record {
          path = plain_whole
              ∙ (or_first_some plain_name (past k d) (plain (scope_at W h).name) (ap (option_map (λ (y : Scope). plain y.name)) (sym q))
              ∙ ap (λ (y : ℕ). Some (plain y)) (sym ex));
          linked = omega arith;
          place = λ placed. sym
              (ap (λ (y : ℕ). place_in (reads s from k (plain y))) ex ∙ ap place_in (plain_reads s from k d (scope_at W h) (sym q)));
        }

    -- else by one name more after a row
    pub leads_past : (q : Option LastStep) → None ≡ plain_entry (snap_in v.db) from (defined_item k d)
        → LeadsTo (snap_in v.db) from k A n (past k d) q
        → LeadsTo (snap_in v.db) from k A n (arrival b (snap_in v.db) from (defined_item k d)) q
    unfolding plain_name
    leads_past q e h =
        subst (λ (o : Option Path). LeadsTo s from k A n o q)
        (sym (plain_whole ∙ or_first_none plain_name (past k d) (ap (option_map (λ (y : Scope). plain y.name)) (sym e)))) h

-- along the item
pub leads_as : (s : Snapshot) (from n : ℕ) (A : List ℕ) (b : Bool) {item : Item} (q : Option LastStep) (k d : ℕ) → item ≡ defined_item k d
    → LeadsTo s from k A n (arrival b s from (defined_item k d)) q → LeadsTo s from (ns_of item) A n (arrival b s from item) q
unfolding ns_of
leads_as s from n A b q k d e h = subst (λ (i : Item). LeadsTo s from (ns_of i) A n (arrival b s from i) q) (sym e) h

-- The tests of an entry.
module _ (s : Snapshot) (from m k d : ℕ) (e : Scope) {a : Bool} (ea : a ≡ is_for s m (defined_item k d) e) where
  pub plain_so : {b t : Bool} {x : ℕ} → a ≡ true → b ≡ seen s from e → b ≡ true → x ≡ e.name
      → t ≡ is_item (defined_item k d) (means s from k (plain x)) → t ≡ is_plain_for s from m (defined_item k d) e
  unfolding ns_of
  plain_so p eb q ex et = et ∙ sym (rw (sym ea ∙ p, sym eb ∙ q, ← ex))

  pub plain_unseen : {b : Bool} → a ≡ true → b ≡ seen s from e → b ≡ false → false ≡ is_plain_for s from m (defined_item k d) e
  plain_unseen p eb q = sym (rw (sym ea ∙ p, sym eb ∙ q))

  pub plain_not : a ≡ false → false ≡ is_plain_for s from m (defined_item k d) e
  plain_not p = sym (rw (sym ea ∙ p))

-- along the kind of paths
pub leads_by : (s : Snapshot) (from n : ℕ) (A : List ℕ) (item : Item) (q : Option LastStep) {b c : Bool} → b ≡ c
    → LeadsTo s from (ns_of item) A n (arrival c s from item) q → LeadsTo s from (ns_of item) A n (arrival b s from item) q
leads_by s from n A item q e h = subst (λ (d : Bool). LeadsTo s from (ns_of item) A n (arrival d s from item) q) (sym e) h
