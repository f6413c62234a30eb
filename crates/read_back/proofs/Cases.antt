-- Each case of a name.
use Prim.Native.Nat.{ℕ, zero, suc, ◌+◌, ◌-◌, ◌<◌, ◌≤◌}
use mathlib.Core.Path.{◌≡◌, refl, sym, ap, ◌∙◌}
use mathlib.Core.List.{List, ◌∷◌}
use mathlib.Core.Bool.{Bool, true, false}
use Rattle.std.specs.Prelude.{Option, None, Some, MatchOption}
use Rattle.std.proofs.lemmas.Option.{MatchOption-at_some, MatchOption-at_none}
use native.Mathlib.Omega.{arith}
use borrow.Author.Tests.{eq-eqb, ne_eqb, lt-ltb, le-ltb}
use lib.ListN.{length, get_or, take}
use Rattle.snapshot.specs.Lists.{rows}
use Rattle.snapshot.specs.PathKinds.{path_kind_of}
use Rattle.snapshot.specs.declared.ids.PathKind.{PathKind}
use Rattle.snapshot.specs.declared.ids.PathKind.TheVariants.{Plain, SelfModule, Super, Crate, Absolute}
use Rattle.std.proofs.lemmas.List.{take_all}
use Rattle.snapshot.specs.Records.{Snapshot, Scope, Prelude, Extern, Member}
use Rattle.snapshot.proofs.Laws.{rows_next, rows_none, rows_part, rows_ext}
use Rattle.module_tree.specs.rules.Modules.{map_no, crate_of, parent_of, crate_root}
use Rattle.module_tree.specs.rules.Visibility.{sees}
use Rattle.hir_def.specs.Finds.{or_first}
use Rattle.hir_def.specs.Items.{types, item_of, same_item, ns_of, module_item, defined_item}
use Rattle.hir_def.specs.ItemScope.{get}
use Rattle.hir_def.specs.Nameres.{prelude_of}
use Rattle.hir_def.specs.declared.Item.{Item}
use Rattle.read_back.specs.readings.Reads.{stands_for, meaning, entry_or, extern_named, extern_means, in_externs, prelude_means, in_prelude_of}
use Rattle.read_back.specs.readings.Reads.{entry_from}
use Rattle.read_back.specs.readings.Reads.{first_name}
use Rattle.read_back.specs.readings.Reads.{variant_named, variant_in, later_name, after, looked_in, follow, plainly, absolutely, parent_means}
use Rattle.read_back.specs.readings.Reads.{reads_to, is_the}
use Rattle.read_back.specs.readings.Reads.{reads_back}

module _ (s : Snapshot) (from : ℕ) where
  -- an entry
  pub meaning_seen : (e : Scope) {t : Bool} {x : Item} → t ≡ sees s from e → t ≡ true → x ≡ item_of s e.ns e.definition
      → Some x ≡ meaning s from e
  unfolding meaning
  meaning_seen e u v w = let q = sym u ∙ v in rw (meaning, q) (ap Some w)

  pub meaning_hidden : (e : Scope) {t : Bool} → t ≡ sees s from e → t ≡ false → None ≡ meaning s from e
  unfolding meaning
  meaning_hidden e u v = let q = sym u ∙ v in rw (meaning, q)

  pub entry_none : (other : Option Item) {o : Option Scope} → o ≡ None → other ≡ entry_or s from other o
  unfolding entry_or
  entry_none other e = rw e

  pub entry_some : (other : Option Item) {o : Option Scope} {e : Scope} {x : Option Item} → o ≡ Some e → x ≡ meaning s from e
      → x ≡ entry_or s from other o
  unfolding entry_or
  entry_some other q e = rw q e

  module _ (ns name : ℕ) where
    -- externs
    pub externs_other : (ns ≡ types → ⊥) → None ≡ in_externs s from ns name
    unfolding in_externs
    externs_other h = rw (in_externs, ne_eqb _ _ h)

    pub externs_none : {c : ℕ} → ns ≡ types → c ≡ crate_of s from → extern_named s c name ≡ None → None ≡ in_externs s from ns name
    unfolding in_externs extern_means
    externs_none h u e = let q = ap (λ k. extern_named s k name) (sym u) ∙ e in rw (in_externs, eq-eqb _ _ h, q)

    pub externs_some : {c m : ℕ} {x : Extern} {o : Option Item} → ns ≡ types → c ≡ crate_of s from → extern_named s c name ≡ Some x
        → m ≡ x.target → o ≡ Some (module_item m) → o ≡ in_externs s from ns name
    unfolding in_externs extern_means
    externs_some h u e t w = let q = ap (λ k. extern_named s k name) (sym u) ∙ e in rw (in_externs, eq-eqb _ _ h, q)
        (w ∙ ap (λ m. Some (module_item m)) t)

    -- the prelude
    pub prelude_none : {k : ℕ} → k ≡ map_no s from → prelude_of s k ≡ None → None ≡ in_prelude_of s from ns name
    unfolding in_prelude_of prelude_means
    prelude_none u e = let q = ap (prelude_of s) (sym u) ∙ e in rw (in_prelude_of, q)

    pub prelude_some : {k m : ℕ} {p : Prelude} {o : Option Item} → k ≡ map_no s from → prelude_of s k ≡ Some p → m ≡ p.target
        → o ≡ entry_or s from None (get s m ns name)
        → o ≡ in_prelude_of s from ns name
    unfolding in_prelude_of prelude_means
    prelude_some u e t w =
        let q = ap (prelude_of s) (sym u) ∙ e in
        rw (in_prelude_of, q) (w ∙ ap (λ m. entry_or s from None (get s m ns name)) t)

    -- a first name
    pub first_entry : {e : Scope} {o : Option Item} → entry_from s from ns name ≡ Some e → o ≡ meaning s from e → o ≡ first_name s from ns name
    unfolding first_name
    first_entry q w = entry_some (or_first (in_externs s from ns name) (in_prelude_of s from ns name)) q w

    pub first_extern : {x : Item} → entry_from s from ns name ≡ None → in_externs s from ns name ≡ Some x → Some x ≡ first_name s from ns name
    unfolding first_name or_first entry_or
    first_extern q w = rw (first_name, q, w)

    pub first_prelude : {o : Option Item} → entry_from s from ns name ≡ None → in_externs s from ns name ≡ None → o ≡ in_prelude_of s from ns name
        → o ≡ first_name s from ns name
    unfolding first_name or_first entry_or
    first_prelude q w e = rw (first_name, q, w) e

    pub first_outer : (o r : Option Item) {P : Type 0} → MatchOption o P (λ x. r ≡ Some x) → entry_from s from ns name ≡ None
        → o ≡ in_externs s from ns name → (P → r ≡ in_prelude_of s from ns name) → r ≡ first_name s from ns name
    first_outer None r {P} m q w f = first_prelude q (sym w) (f (MatchOption-at_none P (λ x. r ≡ Some x) refl m))
    first_outer (Some x) r {P} m q w f = MatchOption-at_some P (λ y. r ≡ Some y) x refl m ∙ first_extern q (sym w)

-- a variant
module _ (s : Snapshot) (ns : ℕ) where
  pub variant_none : {o : Option Member} → o ≡ None → None ≡ variant_in s ns o
  unfolding variant_in
  variant_none e = rw e

  pub variant_some : {o : Option Member} {x : Member} {i : Item} → o ≡ Some x → ns < 2 → i ≡ item_of s ns x.definition → Some i ≡ variant_in s ns o
  unfolding variant_in
  variant_some e h q = rw (e, variant_in, lt-ltb _ _ h) (ap Some q)

  pub variant_macro : {o : Option Member} {x : Member} → o ≡ Some x → 2 ≤ ns → None ≡ variant_in s ns o
  unfolding variant_in
  variant_macro e h = rw (e, variant_in, le-ltb _ _ h)

-- a later name
module _ (s : Snapshot) (from ns name : ℕ) where
  pub later_module : {x : Item} {m : ℕ} {o : Option Item} → x ≡ module_item m → o ≡ entry_or s from None (get s m ns name)
      → o ≡ later_name s from ns name x
  unfolding later_name
  later_module e w = rw e w

  pub later_other : {x : Item} {k d : ℕ} {o : Option Item} → x ≡ defined_item k d → o ≡ variant_in s ns (variant_named s d name)
      → o ≡ later_name s from ns name x
  unfolding later_name
  later_other e w = rw e w

pub after_none : (f : Item → Option Item) {o : Option Item} → o ≡ None → None ≡ after o f
unfolding after
after_none f e = rw e

pub after_some : (f : Item → Option Item) {o r : Option Item} {x : Item} → o ≡ Some x → r ≡ f x → r ≡ after o f
unfolding after
after_some f e w = rw e w

-- where the name k of n is looked up
module _ (ns : ℕ) (f : ℕ → ℕ) (k n : ℕ) where
  pub looked_types : k + 1 < n → types ≡ looked_in ns (rows f (k + 1) (n - (k + 1)))
  unfolding looked_in
  looked_types h = rw (rows_next f (k + 1) n h)

  pub looked_last : n ≤ k + 1 → ns ≡ looked_in ns (rows f (k + 1) (n - (k + 1)))
  unfolding looked_in
  looked_last h = rw (rows_none f (k + 1) n h)

-- the names of a path, one after the other
module _ (s : Snapshot) (from ns : ℕ) (f : ℕ → ℕ) (whole : Option Item) (k n : ℕ) where
  pub follow_next : (here : Option Item) {next : Option Item} (v name : ℕ) → whole ≡ follow s from ns here (rows f k (n - k))
      → k < n → v ≡ looked_in ns (rows f (k + 1) (n - (k + 1))) → name ≡ f k
      → next ≡ after here (later_name s from v name) → whole ≡ follow s from ns next (rows f (k + 1) (n - (k + 1)))
  unfolding follow
  follow_next here v name e h u w q =
      e ∙ ap (follow s from ns here) (rows_next f k n h)
      ∙ ap (λ o. follow s from ns o (rows f (k + 1) (n - (k + 1))))
      (sym (q ∙ ap (λ v. after here (later_name s from v name)) u
      ∙ ap (λ x. after here (later_name s from (looked_in ns (rows f (k + 1) (n - (k + 1)))) x)) w))

  pub follow_done : (here : Option Item) → whole ≡ follow s from ns here (rows f k (n - k)) → n ≤ k → here ≡ whole
  unfolding follow
  follow_done here e h = sym (e ∙ ap (follow s from ns here) (rows_none f k n h))

-- the names as a list
pub names_list : (names : List ℕ) (n : ℕ) → n ≤ length names → rows (λ i. get_or names i 0) 0 (n - 0) ≡ take n names
names_list names n h =
    let z : n - 0 ≡ n = omega arith in
    ap (rows (λ i. get_or names i 0) 0) z
    ∙ rows_ext (λ i. get_or names i 0) (λ i. get_or names (0 + i) 0) n (λ i q. let e : i ≡ 0 + i = omega arith in ap (λ j. get_or names j 0) e)
    ∙ rows_part names 0 n (omega arith)

pub names_first : (names : List ℕ) (n : ℕ) → n ≤ length names → 0 < n → take n names ≡ get_or names 0 0 ∷ rows (λ i. get_or names i 0) 1 (n - 1)
names_first names n h p = sym (names_list names n h) ∙ rows_next (λ i. get_or names i 0) 0 n p

-- all the names after what was reached
pub all_later : (s : Snapshot) (from ns : ℕ) (names : List ℕ) (here : Option Item) {o : Option Item}
    → o ≡ follow s from ns here (rows (λ i. get_or names i 0) 0 (length names - 0)) → o ≡ follow s from ns here names
all_later s from ns names here e =
    e ∙ ap (follow s from ns here) (names_list names (length names) (omega arith) ∙ take_all _ names (omega arith))

-- what a path of that kind means; a number that is no kind is read as plain
abbrev pub reads_as : Snapshot → ℕ → ℕ → List ℕ → Option PathKind → Option Item
reads_as s from ns names (Some SelfModule) = follow s from ns (Some (module_item (stands_for s from))) names
reads_as s from ns names (Some Super) = follow s from ns (parent_means s (parent_of s (stands_for s from))) names
reads_as s from ns names (Some Crate) = follow s from ns (Some (module_item (crate_root s from))) names
reads_as s from ns names (Some Absolute) = absolutely s from ns names
reads_as s from ns names (Some Plain) = plainly s from ns names
reads_as s from ns names None = plainly s from ns names

module _ (s : Snapshot) (from ns : ℕ) (names : List ℕ) where
  reads_plain : (kind : ℕ) {o : Option Item} → (kind ≡ 1 → ⊥) → (kind ≡ 2 → ⊥) → (kind ≡ 3 → ⊥) → (kind ≡ 4 → ⊥) → o ≡ plainly s from ns names
      → o ≡ reads_to s from ns kind names
  unfolding reads_to
  reads_plain kind a b c d w = rw (reads_to, ne_eqb _ _ a, ne_eqb _ _ b, ne_eqb _ _ c, ne_eqb _ _ d) w

  reads_kind : (kind : ℕ) → reads_as s from ns names (path_kind_of kind) ≡ reads_to s from ns kind names
  unfolding reads_to
  reads_kind zero = refl
  reads_kind (suc zero) = refl
  reads_kind (suc (suc zero)) = refl
  reads_kind (suc (suc (suc zero))) = refl
  reads_kind (suc (suc (suc (suc zero)))) = refl
  reads_kind (suc (suc (suc (suc (suc k))))) =
      reads_plain (suc (suc (suc (suc (suc k))))) (λ e. omega (arith, e)) (λ e. omega (arith, e)) (λ e. omega (arith, e)) (λ e. omega (arith, e)) refl

  pub reads_by : (kind : ℕ) {q r : Option PathKind} {o : Option Item} → q ≡ path_kind_of kind → q ≡ r → o ≡ reads_as s from ns names r
      → o ≡ reads_to s from ns kind names
  reads_by kind p e w = w ∙ ap (reads_as s from ns names) (sym e ∙ p) ∙ reads_kind kind

-- a path that begins with a name
module _ (s : Snapshot) (from ns : ℕ) (names : List ℕ) (n : ℕ) (h : n ≤ length names) where
  pub absolute_first : {o here : Option Item} {v name : ℕ} → 0 < n → v ≡ looked_in ns (rows (λ i. get_or names i 0) 1 (n - 1))
      → name ≡ get_or names 0 0
      → here ≡ in_externs s from v name → o ≡ follow s from ns here (rows (λ i. get_or names i 0) 1 (n - 1)) → o ≡ absolutely s from ns (take n names)
  unfolding absolutely
  absolute_first {name = name} p u w q e =
      e ∙ ap (λ x. follow s from ns x (rows (λ i. get_or names i 0) 1 (n - 1))) (q ∙ ap (λ v. in_externs s from v name) u
      ∙ ap (in_externs s from (looked_in ns (rows (λ i. get_or names i 0) 1 (n - 1)))) w)
      ∙ ap (absolutely s from ns) (sym (names_first names n h p))

  pub plain_first : {o here : Option Item} {v name : ℕ} → 0 < n → v ≡ looked_in ns (rows (λ i. get_or names i 0) 1 (n - 1)) → name ≡ get_or names 0 0
      → here ≡ first_name s from v name → o ≡ follow s from ns here (rows (λ i. get_or names i 0) 1 (n - 1)) → o ≡ plainly s from ns (take n names)
  unfolding plainly
  plain_first {name = name} p u w q e =
      e ∙ ap (λ x. follow s from ns x (rows (λ i. get_or names i 0) 1 (n - 1))) (q ∙ ap (λ v. first_name s from v name) u
      ∙ ap (first_name s from (looked_in ns (rows (λ i. get_or names i 0) 1 (n - 1)))) w)
      ∙ ap (plainly s from ns) (sym (names_first names n h p))

-- no names
module _ (s : Snapshot) (from ns : ℕ) (names : List ℕ) (n : ℕ) (z : n ≡ 0) where
  pub absolute_none : None ≡ absolutely s from ns (take n names)
  unfolding absolutely
  absolute_none = rw z

  pub plain_none : None ≡ plainly s from ns (take n names)
  unfolding plainly
  plain_none = rw z

-- back to the item
module _ (s : Snapshot) (from : ℕ) (item : Item) (kind : ℕ) (names : List ℕ) {v : ℕ} (h : v ≡ ns_of item) where
  pub back_none : reads_to s from v kind names ≡ None → false ≡ reads_back s from item kind names
  unfolding reads_back is_the
  back_none e = sym (ap (is_the item) (ap (λ v. reads_to s from v kind names) (sym h) ∙ e))

  pub back_some : {x : Item} {t : Bool} → reads_to s from v kind names ≡ Some x → t ≡ same_item x item → t ≡ reads_back s from item kind names
  unfolding reads_back is_the
  back_some e w = w ∙ sym (ap (is_the item) (ap (λ v. reads_to s from v kind names) (sym h) ∙ e))

-- what `super` means
module _ (s : Snapshot) (from : ℕ) {m : ℕ} (h : m ≡ stands_for s from) where
  pub super_none : parent_of s m ≡ 0 → None ≡ parent_means s (parent_of s (stands_for s from))
  unfolding parent_means
  super_none e = sym (ap (λ k. parent_means s (parent_of s k)) (sym h) ∙ ap (parent_means s) e)

  pub super_some : {p q : ℕ} {o : Option Item} → parent_of s m ≡ suc p → q ≡ stands_for s p → o ≡ Some (module_item q)
      → o ≡ parent_means s (parent_of s (stands_for s from))
  unfolding parent_means
  super_some e u w = w ∙ ap (λ q. Some (module_item q)) u ∙ sym (ap (λ k. parent_means s (parent_of s k)) (sym h) ∙ ap (parent_means s) e)
