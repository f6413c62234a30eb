-- Laws of the lookups: reads of numbered records, and loops over them.
use Rattle.hir_def.specs.declared.Place.{Place}
use Prim.Native.Nat.{ℕ, ◌+◌, ◌-◌, ◌*◌, ◌/◌, ◌%◌, ◌≤◌, ◌<◌}
use mathlib.Core.Path.{◌≡◌, refl, sym, ◌∙◌, ap, subst}
use mathlib.Core.List.{List, [], ◌∷◌, reverse, reverse-append}
use mathlib.Core.Bool.{Bool, true, false, ◌&&◌, and-true, or-true}
use Rattle.std.specs.Prelude.{Option, None, Some}
use native.Mathlib.Omega.{arith}
use lib.ListN.{length, get_or, get_or-eq_default}
use lib.Dec.{eqb}
use borrow.Author.Tests.{eq-eqb, ne_eqb}
use Rattle.snapshot.specs.Lists.{rows}
use Rattle.snapshot.specs.Words.{pay_of}
use Rattle.snapshot.specs.Sizes.{crate_size, dependency_size, definition_size, scope_size, import_size, extern_size}
use Rattle.snapshot.specs.Records.{Snapshot, Definition, Scope, definition_at, crate_at, dependency_at, scope_at, import_at, extern_at}
use Rattle.snapshot.specs.Layouts.{crate_base, dependency_base, definition_base, scope_base, import_base, extern_base, snap_of}
use Rattle.snapshot.specs.declared.layout.Layout.{Layout}
use Rattle.snapshot.proofs.Laws.{rows_next, rows_none, rows_whole, rows_snoc, length_rows, get_d_rows, past}
use Rattle.hir_def.specs.Finds.{first_of, reads_of, select}
use Rattle.hir_def.specs.Items.{definition_of, crate_data, item_of, home_by, defined_item, module_item}
use Rattle.hir_def.specs.ItemScope.{is_declared, counts, is_for, name_of, names_of, name_reads, names_reads, is_module_entry, modules_in_scope}
use Rattle.hir_def.specs.ImportMap.{is_import, import_info_for}
use Rattle.hir_def.specs.Nameres.{is_extern, extern_of, is_dependency, is_lang_sysroot, dependencies_of, lang_of}
use Rattle.hir_def.specs.Entries.{ReadsAs, left_of, Meets, Ends, NextOf}
use Rattle.hir_def.specs.declared.Item.{Item}

-- the record of a number: none past the last, where the words past the end read the same
past_rows : {R : Type 0} (f : ℕ → R) (n i : ℕ) (d : R) → n ≤ i → d ≡ get_or (rows f 0 n) i d
past_rows f n i d h = let e : length (rows f 0 n) ≤ i = rw (length_rows f n) h in sym (get_or-eq_default (rows f 0 n) d e)

pub definition_none : (W A : List ℕ) (l : Layout) (d : ℕ) → l.definitions ≤ d → ReadsAs W (length W) (definition_of (snap_of W A l) d)
unfolding definition_of
definition_none W A l d h =
    let e = past_rows (λ k. definition_at W (definition_base l + definition_size * k)) l.definitions d
    (record { kind = 0; first = 0; second = 0; place = 0 }) h in
    record {
      kind = ap pay_of (sym (past W (length W) (omega arith))) ∙ ap (λ (x : Definition). x.kind) e;
      first = sym (past W (length W + 1) (omega arith)) ∙ ap (λ (x : Definition). x.first) e;
      second = sym (past W (length W + 2) (omega arith)) ∙ ap (λ (x : Definition). x.second) e;
      whole = λ k. let z = ap (λ (x : Definition). x.kind) e in absurd (omega (arith, k, z));
    }

pub definition_same : (W A : List ℕ) (l : Layout) (d : ℕ) {b : ℕ} → d < l.definitions → b ≡ definition_base l
    → definition_at W (b + definition_size * d) ≡ definition_of (snap_of W A l) d
unfolding definition_of
definition_same W A l d h e =
    ap (λ x. definition_at W (x + definition_size * d)) e
    ∙ sym (get_d_rows (λ k. definition_at W (definition_base l + definition_size * k)) _ l.definitions d h)

pub definition_there : (W A : List ℕ) (l : Layout) (d : ℕ) {b : ℕ} → d < l.definitions → b ≡ definition_base l
    → ReadsAs W (b + definition_size * d) (definition_of (snap_of W A l) d)
definition_there W A l d h e =
    let q = definition_same W A l d h e in
    record {
      kind = ap (λ (x : Definition). x.kind) q;
      first = ap (λ (x : Definition). x.first) q;
      second = ap (λ (x : Definition). x.second) q;
      whole = λ _. q;
    }

pub crate_none : (W A : List ℕ) (l : Layout) (c : ℕ) → l.crates ≤ c → crate_at W (length W) ≡ crate_data (snap_of W A l) c
unfolding crate_data
crate_none W A l c h =
    let p = past W (length W) (omega arith) in
    let q = past W (length W + 1) (omega arith) in
    (λ i. record { origin = pay_of (sym p i) % 8; no_std = pay_of (sym p i) / 8; edition = sym q i })
    ∙ past_rows (λ k. crate_at W (crate_base l + crate_size * k)) l.crates c _ h

pub crate_there : (W A : List ℕ) (l : Layout) (c : ℕ) → c < l.crates → crate_at W (l.text + crate_size * c) ≡ crate_data (snap_of W A l) c
unfolding crate_data
crate_there W A l c h =
    sym (get_d_rows (λ k. crate_at W (crate_base l + crate_size * k)) _ l.crates c h)

-- the item by the test of its definition
module _ (s : Snapshot) (ns d : ℕ) {k : ℕ} (e : k ≡ (definition_of s d).kind) where
  pub item_module : {m : ℕ} → (eqb ns 0 && eqb k 1) ≡ true → m ≡ (definition_of s d).first → module_item m ≡ item_of s ns d
  unfolding item_of
  item_module t h = let u = (ap (λ y. eqb ns 0 && eqb y 1) (sym e) ∙ t) in rw (item_of, u) (ap module_item h)

  pub item_other : (eqb ns 0 && eqb k 1) ≡ false → defined_item ns d ≡ item_of s ns d
  unfolding item_of
  item_other t = let u = (ap (λ y. eqb ns 0 && eqb y 1) (sym e) ∙ t) in rw (item_of, u)

-- the home by the kind
module _ (s : Snapshot) (kind first : ℕ) where
  pub home_builtin : kind ≡ 3 → 0 ≡ home_by s kind first
  unfolding home_by
  home_builtin h = rw (home_by, h)

  pub home_variant : {p f : ℕ} → (kind ≡ 3 → ⊥) → kind ≡ 2 → p ≡ (definition_of s f).first → f ≡ first → p + 1 ≡ home_by s kind first
  unfolding home_by
  home_variant h k e g = rw (home_by, ne_eqb _ _ h, eq-eqb _ _ k) (ap (λ x. x + 1) (e ∙ ap (λ d. (definition_of s d).first) g))

  pub home_other : (kind ≡ 3 → ⊥) → (kind ≡ 2 → ⊥) → first + 1 ≡ home_by s kind first
  unfolding home_by
  home_other h k = rw (home_by, ne_eqb _ _ h, ne_eqb _ _ k)

-- the first record of a list passes the test, or not
module _ {R : Type 0} (p : R → Bool) (x : R) (xs : List R) where
  pub select_hit : p x ≡ true → select p (x ∷ xs) ≡ x ∷ select p xs
  unfolding select
  select_hit h = rw (select, h)

  pub select_miss : p x ≡ false → select p (x ∷ xs) ≡ select p xs
  unfolding select
  select_miss h = rw (select, h)

  pub first_of_hit : p x ≡ true → first_of p (x ∷ xs) ≡ Some x
  unfolding first_of
  first_of_hit h = rw (first_of, h)

  pub first_of_miss : p x ≡ false → first_of p (x ∷ xs) ≡ first_of p xs
  unfolding first_of
  first_of_miss h = rw (first_of, h)

-- a loop that looks for the first record that passes the test
module _ {R : Type 0} (p : R → Bool) (f : ℕ → R) (whole : Option R) (k n : ℕ) (e : whole ≡ first_of p (rows f k (n - k))) where
  pub first_hit : {x : R} {t : Bool} → k < n → x ≡ f k → t ≡ p x → t ≡ true → Some x ≡ whole
  unfolding first_of
  first_hit h u v w = let q = ap p (sym u) ∙ sym v ∙ w in rw (e, rows_next f k n h, first_of, q) (ap Some u)

  pub first_miss : {x : R} {t : Bool} → k < n → x ≡ f k → t ≡ p x → t ≡ false → whole ≡ first_of p (rows f (k + 1) (n - (k + 1)))
  unfolding first_of
  first_miss h u v w = let q = ap p (sym u) ∙ sym v ∙ w in rw (e, rows_next f k n h, first_of, q)

  pub first_none : n ≤ k → None ≡ whole
  unfolding first_of
  first_none h = rw (e, rows_none f k n h)

-- the same loop counts the records that it reads: k so far
module _ {R : Type 0} (p : R → Bool) (f : ℕ → R) (whole k n : ℕ) (e : whole ≡ k + reads_of p (rows f k (n - k))) where
  pub reads_hit : {x : R} {t : Bool} → k < n → x ≡ f k → t ≡ p x → t ≡ true → k + 1 ≡ whole
  unfolding reads_of
  reads_hit h u v w = let q = ap p (sym u) ∙ sym v ∙ w in rw (e, rows_next f k n h, reads_of, q)

  pub reads_miss : {x : R} {t : Bool} → k < n → x ≡ f k → t ≡ p x → t ≡ false → whole ≡ k + 1 + reads_of p (rows f (k + 1) (n - (k + 1)))
  unfolding reads_of
  reads_miss h u v w = let q = ap p (sym u) ∙ sym v ∙ w in rw (e, rows_next f k n h, reads_of, q) (omega arith)

  pub reads_none : n ≤ k → k ≡ whole
  unfolding reads_of
  reads_none h = rw (e, rows_none f k n h, reads_of) (omega arith)

-- a loop that looks backwards
module _ {R : Type 0} (p : R → Bool) (f : ℕ → R) (whole : Option R) (k : ℕ) (e : whole ≡ first_of p (reverse (rows f 0 k))) where
  last_row : 0 < k → reverse (rows f 0 k) ≡ f (k - 1) ∷ reverse (rows f 0 (k - 1))
  last_row h =
      let q : k ≡ k - 1 + 1 = omega arith in
      ap (λ n. reverse (rows f 0 n)) q ∙ ap reverse (rows_snoc f (k - 1)) ∙ reverse-append (rows f 0 (k - 1)) (f (k - 1) ∷ [])

  pub back_hit : {x : R} {t : Bool} → 0 < k → x ≡ f (k - 1) → t ≡ p x → t ≡ true → Some x ≡ whole
  unfolding first_of
  back_hit h u v w = let q = ap p (sym u) ∙ sym v ∙ w in rw (e, last_row h, first_of, q) (ap Some u)

  pub back_miss : {x : R} {t : Bool} → 0 < k → x ≡ f (k - 1) → t ≡ p x → t ≡ false → whole ≡ first_of p (reverse (rows f 0 (k - 1)))
  unfolding first_of
  back_miss h u v w = let q = ap p (sym u) ∙ sym v ∙ w in rw (e, last_row h, first_of, q)

  pub back_none : k ≤ 0 → None ≡ whole
  unfolding first_of rows
  back_none h = let z : k ≡ 0 = omega arith in rw (e, z)

-- a loop that looks for the next record that passes the test, from the number k on: it has come to j
pub record Came {R : Type 0} (p : R → Bool) (f : List ℕ → ℕ → R) (size : ℕ) (W : List ℕ) (base n k j : ℕ) : Type 0 where
  pub from : k ≤ j
  pub same : left_of p (λ i. f W (base + size * i)) n k ≡ left_of p (λ i. f W (base + size * i)) n j

module _ {R : Type 0} {p : R → Bool} {f : List ℕ → ℕ → R} {size : ℕ} {W : List ℕ} {base n k j : ℕ} (c : Came p f size W base n k j) where
  passed : {h : ℕ} {t : Bool} (b : Bool) → h ≡ base + size * j → t ≡ p (f W h) → t ≡ b → p (f W (base + size * j)) ≡ b
  passed b u v w = ap (λ i. p (f W i)) (sym u) ∙ sym v ∙ w

  pub next_hit : {h : ℕ} {t : Bool} → j < n → h ≡ base + size * j → t ≡ p (f W h) → t ≡ true → Meets p f size W base n k j h
  unfolding select
  next_hit {h} i u v w =
      let q = passed true u v w in
      record {
        head = u;
        from = c.from;
        below = i;
        passes = sym v ∙ w;
        next =
            c.same
            ∙ ap (select p) (rows_next (λ x. f W (base + size * x)) j n i)
            ∙ select_hit p (f W (base + size * j)) (rows (λ x. f W (base + size * x)) (j + 1) (n - (j + 1))) q
            ∙ ap (λ x. f W x ∷ left_of p (λ i. f W (base + size * i)) n (j + 1)) (sym u);
      }

  pub next_miss : {h : ℕ} {t : Bool} → j < n → h ≡ base + size * j → t ≡ p (f W h) → t ≡ false → Came p f size W base n k (j + 1)
  next_miss i u v w =
      let q = passed false u v w in
      record {
        from = (let g = c.from in omega arith);
        same =
            c.same
            ∙ ap (select p) (rows_next (λ x. f W (base + size * x)) j n i)
            ∙ select_miss p (f W (base + size * j)) (rows (λ x. f W (base + size * x)) (j + 1) (n - (j + 1))) q;
      }

  pub next_end : n ≤ j → Ends p f size W base n k
  unfolding select
  next_end i = record { none = c.same ∙ ap (select p) (rows_none (λ x. f W (base + size * x)) j n i) }

pub next_start : {R : Type 0} (p : R → Bool) (f : List ℕ → ℕ → R) (size : ℕ) (W : List ℕ) (base n k : ℕ) → Came p f size W base n k k
next_start p f size W base n k = record { from = omega arith; same = refl }

-- what a caller learns from the answer
module _ {R : Type 0} {p : R → Bool} {f : List ℕ → ℕ → R} {size : ℕ} {W : List ℕ} {base n k : ℕ} where
  pub next_record : {r : Option Place} {x : Place} → NextOf p f size W base n k r → r ≡ Some x → Meets p f size W base n k x.number x.head
  unfolding NextOf
  next_record x e = subst (NextOf p f size W base n k) e x

  pub next_none : {r : Option Place} → NextOf p f size W base n k r → r ≡ None → Ends p f size W base n k
  unfolding NextOf
  next_none x e = subst (NextOf p f size W base n k) e x

-- the records that pass two tests in turn
module _ {R : Type 0} (p q : R → Bool) where
  select_step : (x : R) (xs : List R) (b c : Bool) → q x ≡ b → p x ≡ c → select p (select q xs) ≡ select (λ y. q y && p y) xs
      → select p (select q (x ∷ xs)) ≡ select (λ y. q y && p y) (x ∷ xs)
  select_step x xs true true u v e =
      ap (select p) (select_hit q x xs u) ∙ select_hit p x (select q xs) v ∙ ap (λ l. x ∷ l) e ∙ sym (select_hit (λ y. q y && p y) x xs (rw (u, v)))
  select_step x xs true false u v e =
      ap (select p) (select_hit q x xs u) ∙ select_miss p x (select q xs) v ∙ e ∙ sym (select_miss (λ y. q y && p y) x xs (rw (u, v)))
  select_step x xs false c u v e = ap (select p) (select_miss q x xs u) ∙ e ∙ sym (select_miss (λ y. q y && p y) x xs (rw u))

  pub select_select : (xs : List R) → select p (select q xs) ≡ select (λ y. q y && p y) xs
  unfolding select
  select_select [] = refl
  select_select (x ∷ xs) = select_step x xs (q x) (p x) refl refl (select_select xs)

  first_step : (x : R) (xs : List R) (b c : Bool) → q x ≡ b → p x ≡ c → first_of p (select q xs) ≡ first_of (λ y. q y && p y) xs
      → first_of p (select q (x ∷ xs)) ≡ first_of (λ y. q y && p y) (x ∷ xs)
  first_step x xs true true u v e =
      ap (first_of p) (select_hit q x xs u) ∙ first_of_hit p x (select q xs) v ∙ sym (first_of_hit (λ y. q y && p y) x xs (rw (u, v)))
  first_step x xs true false u v e =
      ap (first_of p) (select_hit q x xs u) ∙ first_of_miss p x (select q xs) v ∙ e ∙ sym (first_of_miss (λ y. q y && p y) x xs (rw (u, v)))
  first_step x xs false c u v e = ap (first_of p) (select_miss q x xs u) ∙ e ∙ sym (first_of_miss (λ y. q y && p y) x xs (rw u))

  pub first_select : (xs : List R) → first_of p (select q xs) ≡ first_of (λ y. q y && p y) xs
  unfolding select first_of
  first_select [] = refl
  first_select (x ∷ xs) = first_step x xs (q x) (p x) refl refl (first_select xs)

-- tests that agree
pub first_same : {R : Type 0} (p q : R → Bool) (xs : List R) → ((x : R) → p x ≡ q x) → first_of p xs ≡ first_of q xs
first_same p q xs h = ap (λ t. first_of t xs) (λ i x. h x i)

-- where declared entries do not count alone, `names_of` is `name_of`
any_declared : (s : Snapshot) (m : ℕ) (item : Item) (e : Scope) → (is_for s m item e && counts false e) ≡ is_for s m item e
any_declared s m item e = ap (λ b. is_for s m item e && b) (or-true (is_declared e)) ∙ and-true (is_for s m item e)

pub names_name : (s : Snapshot) (m : ℕ) (item : Item) → names_of s m item (counts false) ≡ name_of s m item
unfolding names_of name_of
names_name s m item =
    first_same (λ e. is_for s m item e && counts false e) (is_for s m item) s.scopes (any_declared s m item)

pub names_name_reads : (s : Snapshot) (m : ℕ) (item : Item) → names_reads s m item (counts false) ≡ name_reads s m item
unfolding names_reads name_reads
names_name_reads s m item = ap (λ t. reads_of t s.scopes) (λ i e. any_declared s m item e i)

-- the whole lists, where a loop begins
module _ (W A : List ℕ) (l : Layout) where
  pub extern_whole : (c m : ℕ) {b : ℕ} → b ≡ extern_base l
      → first_of (is_extern c m) (reverse (rows (λ i. extern_at W (b + extern_size * i)) 0 l.externs)) ≡ extern_of (snap_of W A l) c m
  unfolding extern_of
  extern_whole c m e = ap (λ x. first_of (is_extern c m) (reverse (rows (λ i. extern_at W (x + extern_size * i)) 0 l.externs))) e

  pub lang_whole : (c lang : ℕ)
      → lang_of (snap_of W A l) c lang
      ≡ first_of (λ d. is_dependency c d && is_lang_sysroot (snap_of W A l) lang d)
      (rows (λ i. dependency_at W (dependency_base l + dependency_size * i)) 0 l.dependencies)
  unfolding lang_of dependencies_of
  lang_whole c lang = first_select (is_lang_sysroot (snap_of W A l) lang) (is_dependency c) (snap_of W A l).dependencies

  pub modules_whole : (m : ℕ) → modules_in_scope (snap_of W A l) m ≡ left_of (is_module_entry (snap_of W A l) m)
      (λ i. scope_at W (scope_base l + scope_size * i)) l.scopes 0
  unfolding modules_in_scope
  modules_whole m = rows_whole (select (is_module_entry (snap_of W A l) m)) (λ i. scope_at W (scope_base l + scope_size * i)) l.scopes

  pub imports_whole : (c : ℕ) (item : Item) → import_info_for (snap_of W A l) c item ≡ left_of (is_import (snap_of W A l) c item)
      (λ i. import_at W (import_base l + import_size * i)) l.imports 0
  unfolding import_info_for
  imports_whole c item = rows_whole (select (is_import (snap_of W A l) c item)) (λ i. import_at W (import_base l + import_size * i)) l.imports
