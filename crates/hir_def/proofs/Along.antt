-- A search along a chain is one among all records by a test that passes those with the key alone.
use Prim.Native.Nat.{ℕ, ◌+◌, ◌-◌, ◌*◌, ◌%◌, ◌≤◌, ◌<◌}
use mathlib.Core.Path.{◌≡◌, refl, sym, ap, ap₂, subst, ◌∙◌}
use mathlib.Core.List.{List}
use mathlib.Core.Bool.{Bool, true, false, ◌&&◌, false≢true}
use native.Mathlib.Omega.{arith}
use lib.Dec.{eqb, ltb}
use borrow.Author.Tests.{eqb-true, eqb-false, ltb-true, ltb-false}
use Rattle.snapshot.specs.Sizes.{import_size}
use Rattle.snapshot.specs.Records.{Scope, scope_at, import_at}
use Rattle.snapshot.specs.Layouts.{snap_of, import_base, item_keys}
use Rattle.snapshot.specs.declared.layout.Layout.{Layout}
use Rattle.record_index.specs.Halves.{half_at}
use Rattle.record_index.specs.Index.{definition_in, item_number, import_key, keys_of, heads_of, links_of}
use Rattle.record_index.specs.Index.{count_of, base_of, size_of, key_at, key_of, First, Follows}
use Rattle.record_index.specs.declared.chains.Chain.{Chain}
use Rattle.record_index.specs.declared.chains.Chain.TheVariants.{Items, Imports}
use Rattle.record_index.proofs.Chaining.{first_next, first_none}
use Rattle.accept.specs.Post.{Reads}
use Rattle.accept.proofs.Accepted.{by_test}
use Rattle.accept.proofs.Bools.{and_left, and_right}
use Rattle.hir_def.specs.Items.{definition_of, item_of, same_item}
use Rattle.hir_def.specs.ItemScope.{is_for}
use Rattle.hir_def.specs.ImportMap.{is_import}
use Rattle.hir_def.specs.Keys.{number_of}
use Rattle.hir_def.specs.declared.Item.{Item}
use Rattle.hir_def.specs.declared.Item.TheVariants.{Mod, Def}
use Rattle.hir_def.specs.Entries.{Meets}
use Rattle.hir_def.specs.Tests.{Only, PassedBy, MeetsBy}

-- the first record from k on
module _ (W A : List ℕ) (l : Layout) (c : Chain) (m k : ℕ) (r : Reads W A l) where
  -- the next of a record's key
  pub next_of : (j : ℕ) → j < count_of l c → key_of W l c j ≡ m → {w : ℕ} → w ≡ half_at A (links_of l c + j)
      → First (key_of W l c) (count_of l c) m (j + 1) w
  next_of j h o e = first_next (key_of W l c) (count_of l c) (keys_of c) (heads_of c) (links_of l c) A m j (r.tables.index.chains c) h o e

  pub from_link : {v t : ℕ} → 0 < k → k ≤ count_of l c → Follows (key_of W l c) m k → t ≡ links_of l c → v ≡ half_at A (t + (k - 1))
      → First (key_of W l c) (count_of l c) m k v
  from_link {v} h g o q e =
      let p : k - 1 + 1 ≡ k = omega arith in
      subst (λ j. First (key_of W l c) (count_of l c) m j v) p
      (next_of (k - 1) (omega arith) (o h) (e ∙ ap (λ z. half_at A (z + (k - 1))) q))

  pub from_head : {v t n : ℕ} → k ≡ 0 → n ≡ keys_of c → m < n → t ≡ heads_of c → v ≡ half_at A (t + m)
      → First (key_of W l c) (count_of l c) m k v
  from_head {v} q n h t e =
      subst (λ j. First (key_of W l c) (count_of l c) m j v) (sym q)
      (subst (First (key_of W l c) (count_of l c) m 0) (sym (e ∙ ap (λ z. half_at A (z + m)) t))
      ((r.tables.index.chains c).heads m (omega (arith, n, h))))

  -- a number that is no key
  pub from_none : {v n : ℕ} → k ≡ 0 → n ≡ keys_of c → n ≤ m → v ≡ count_of l c → First (key_of W l c) (count_of l c) m k v
  from_none {v} q n h e =
      subst (First (key_of W l c) (count_of l c) m k) (sym e)
      (subst (λ j. First (key_of W l c) (count_of l c) m j (count_of l c)) (sym q)
      (first_none (key_of W l c) (count_of l c) m (λ i b o. let u = r.tables.index.keys c i b in omega (arith, o, u, n, h))))

-- a search that has come to the record j
module _ (W A : List ℕ) (l : Layout) (c : Chain) (m k : ℕ) (r : Reads W A l) (P : ℕ → Bool → Type 0) where
  pub record On (j : ℕ) : Type 0 where
    pub from : k ≤ j
    pub most : j ≤ count_of l c
    pub its : j < count_of l c → key_of W l c j ≡ m
    pub passed : PassedBy (Only (key_at W l c) m P) (size_of c) (base_of l c) k j

  pub on_first : {j : ℕ} → First (key_of W l c) (count_of l c) m k j → On j
  unfolding Only
  on_first f = record { from = f.from; most = f.most; its = f.its; passed = λ i a b o. absurd (f.least i a b o) }

  module _ {j b z n : ℕ} (o : On j) (e : b ≡ base_of l c) (y : z ≡ size_of c) (q : n ≡ count_of l c) (below : j < n) where
    inside : j < count_of l c
    inside = omega (arith, q, below)

    its_next : {t w : ℕ} → t ≡ links_of l c → w ≡ half_at A (t + j) → First (key_of W l c) (count_of l c) m (j + 1) w
    its_next t p = next_of W A l c m k r j inside (o.its inside) (p ∙ ap (λ z. half_at A (z + j)) t)

    pub on_more : {t w : ℕ} → t ≡ links_of l c → w ≡ half_at A (t + j) → j < w
    on_more t p = omega (arith, (its_next t p).from)

    same : b + z * j ≡ base_of l c + size_of c * j
    same = ap (λ v. v + z * j) e ∙ ap (λ v. base_of l c + v * j) y

    pub on_next : {t w : ℕ} → P (b + z * j) false → t ≡ links_of l c → w ≡ half_at A (t + j) → On w
    unfolding Only
    on_next {t} {w} p s q =
        let f = its_next s q in
        record {
          from = omega (arith, o.from, f.from);
          most = f.most;
          its = f.its;
          passed = λ i u v h.
              by_test (eqb i j)
              (λ t. subst (λ x. P x false) (same ∙ ap (λ x. base_of l c + size_of c * x) (sym (eqb-true i j t))) p)
              (λ t. by_test (ltb i j) (λ s. o.passed i u (ltb-true i j s) h)
              (λ s. absurd (f.least i (let y = ltb-false i j s in let x = eqb-false i j t in omega (arith, x, y)) v h)));
        }

    pub on_hit : P (b + z * j) true → MeetsBy (Only (key_at W l c) m P) (size_of c) (base_of l c) (count_of l c) k j (b + z * j)
    unfolding Only
    on_hit p = record { head = same; from = o.from; below = inside; passes = p; before = o.passed }

-- what an item of the snapshot is known by
pub numbered : (W A : List ℕ) (l : Layout) (ns d : ℕ) → item_number W l ns d ≡ number_of (item_of (snap_of W A l) ns d)
unfolding item_of definition_of
numbered W A l ns d =
    let b = eqb ns 0 && eqb (definition_in W l d).kind 1 in
    by_test b (λ t. rw (item_number, t) (rw (item_of, definition_of, t) refl)) (λ t. rw (item_number, t) (rw (item_of, definition_of, t) refl))

pub same_number : (x y : Item) → same_item x y ≡ true → number_of x ≡ number_of y
unfolding same_item
same_number (Mod m) (Mod n) e = eqb-true _ _ e
same_number (Mod m) (Def ns d) e = absurd (false≢true e)
same_number (Def ns d) (Mod n) e = absurd (false≢true e)
same_number (Def ns d) (Def ns' d') e = eqb-true _ _ (and_right (eqb ns.0 ns'.0) (eqb d.0 d'.0) e)

and_none : (b : Bool) → (b && false) ≡ false
and_none true = refl
and_none false = refl

-- records with another key are not of the item

pub keyed_other : (W A : List ℕ) (l : Layout) (ns d n : ℕ) (item : Item) → (item_number W l ns d % n ≡ number_of item % n → ⊥)
    → same_item (item_of (snap_of W A l) ns d) item ≡ false
keyed_other W A l ns d n item other =
    by_test (same_item (item_of (snap_of W A l) ns d) item)
    (λ t. absurd (other (ap (λ z. z % n) (numbered W A l ns d ∙ same_number (item_of (snap_of W A l) ns d) item t))))
    (λ t. t)

pub item_keyed : (W A : List ℕ) (l : Layout) (m : ℕ) (item : Item) {k : ℕ} → k ≡ number_of item % item_keys → (h : ℕ)
    → (key_at W l Items h ≡ k → ⊥) → is_for (snap_of W A l) m item (scope_at W h) ≡ false
unfolding is_for
item_keyed W A l m item q h other =
    let e = keyed_other W A l (scope_at W h).ns (scope_at W h).definition item_keys item (λ o. other (o ∙ sym q)) in
    rw e (and_none (eqb (scope_at W h).owner m))

pub entry_keyed : (W A : List ℕ) (l : Layout) (m : ℕ) (item : Item) (p : Scope → Bool) {k : ℕ} → k ≡ number_of item % item_keys → (h : ℕ)
    → (key_at W l Items h ≡ k → ⊥) → (is_for (snap_of W A l) m item (scope_at W h) && p (scope_at W h)) ≡ false
entry_keyed W A l m item p q h other = rw (item_keyed W A l m item q h other)

module _ (W A : List ℕ) (l : Layout) (c : ℕ) (item : Item) (h : ℕ) where
  import_same : is_import (snap_of W A l) c item (import_at W h) ≡ true → key_at W l Imports h ≡ import_key c (number_of item)
  import_same t =
      let i = import_at W h in
      ap₂ import_key (eqb-true i.owner c (and_left (eqb i.owner c) (same_item (item_of (snap_of W A l) i.ns i.definition) item) t))
      (numbered W A l i.ns i.definition
      ∙ same_number (item_of (snap_of W A l) i.ns i.definition) item
      (and_right (eqb i.owner c) (same_item (item_of (snap_of W A l) i.ns i.definition) item) t))

  pub import_keyed : {k : ℕ} → k ≡ import_key c (number_of item) → (key_at W l Imports h ≡ k → ⊥)
      → is_import (snap_of W A l) c item (import_at W h) ≡ false
  import_keyed q other =
      by_test (is_import (snap_of W A l) c item (import_at W h)) (λ t. absurd (other (import_same t ∙ sym q))) (λ t. t)

-- an import of the item that an enumeration met leads on
module _ (W A : List ℕ) (l : Layout) (c : ℕ) (item : Item) {k j h : ℕ}
    (x : Meets (is_import (snap_of W A l) c item) import_at import_size W (import_base l) l.imports k j h) where
  pub import_follows : Follows (key_of W l Imports) (import_key c (number_of item)) (j + 1)
  import_follows _ =
      let e : j + 1 - 1 ≡ j = omega arith in
      ap (key_of W l Imports) e ∙ ap (key_at W l Imports) (sym x.head) ∙ import_same W A l c item h x.passes
