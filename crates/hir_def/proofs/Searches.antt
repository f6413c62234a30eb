-- A search by a test that answers as q does finds what q finds.
use Rattle.hir_def.specs.declared.Place.{Place}
use Rattle.hir_def.specs.declared.Span.{Span}
use Prim.Native.Nat.{ℕ, zero, suc, ◌+◌, ◌-◌, ◌*◌, ◌≤◌, ◌<◌}
use mathlib.Core.Path.{◌≡◌, refl, sym, ◌∙◌, ap, subst}
use mathlib.Core.List.{List, ◌∷◌}
use mathlib.Core.Bool.{Bool, true, false}
use lib.Dec.{eqb}
use borrow.Author.Tests.{eqb-true, eqb-false}
use Rattle.std.specs.Prelude.{Option, None, Some, ℕ}
use native.Mathlib.Omega.{arith}
use native.Mathlib.Nat.{add-zero}
use Rattle.snapshot.specs.Ids.{plus_one}
use Rattle.snapshot.specs.Lists.{rows}
use Rattle.snapshot.specs.Layouts.{snap_of}
use Rattle.snapshot.specs.Records.{Scope, scope_at}
use Rattle.snapshot.specs.declared.ids.ModuleId.{ModuleId}
use Rattle.snapshot.specs.declared.layout.Layout.{Layout}
use Rattle.snapshot.proofs.Laws.{rows_whole}
use Rattle.accept.specs.Post.{Reads}
use Rattle.accept.proofs.Accepted.{by_test}
use Rattle.accept.proofs.Trees.{accepted_tree}
use Rattle.hir_def.specs.Items.{block_of}
use Rattle.hir_def.proofs.Reading.{length_modules}
use Rattle.hir_def.proofs.Chains.{block_falls}
use Rattle.hir_def.specs.Nameres.{steps}
use Rattle.hir_def.proofs.Laws.{Falls}
use Rattle.hir_def.proofs.Climbs.{some_number, none_number}
use Rattle.hir_def.proofs.Ancestors.{first_here, first_end, first_on}
use Rattle.hir_def.specs.Finds.{first_of, reads_of, first_some}
use Rattle.hir_def.specs.Entries.{entry_of, NextOf}
use Rattle.hir_def.specs.Spans.{Covers}
use Rattle.hir_def.specs.Tests.{Only, PassedBy, MeetsBy, NextBy, FirstBy, Outwards}
use Rattle.hir_def.proofs.Lookups.{Came, next_start, next_hit, next_miss, next_end, first_hit, first_miss, first_none, reads_hit, reads_miss}
use Rattle.hir_def.proofs.Lookups.{reads_none}

-- the next, record by record
module _ (P : ℕ → Bool → Type 0) (size b n k : ℕ) {r : Option Place} (x : NextBy P size b n k r) where
  pub met_by : {w : Place} → r ≡ Some w → MeetsBy P size b n k w.number w.head
  unfolding NextBy
  met_by e = subst (NextBy P size b n k) e x

  pub passed_by : r ≡ None → PassedBy P size b k n
  unfolding NextBy
  passed_by e = subst (NextBy P size b n k) e x

-- the first, where none is next
pub none_first_by : (P : ℕ → Bool → Type 0) (size b n : ℕ) {r : Option Place} {o : Option ℕ} → NextBy P size b n 0 r → r ≡ None → o ≡ None
    → FirstBy P size b n o
unfolding FirstBy
none_first_by P size b n x e q = subst (FirstBy P size b n) (sym q) (passed_by P size b n 0 x e)

-- what a test answers of an owner's records, it answers of all where q passes no others
pub only_agree : {R : Type 0} (owner : ℕ → ℕ) (c : ℕ) (q : R → Bool) (f : ℕ → R) (P : ℕ → Bool → Type 0)
    → ((h : ℕ) → (owner h ≡ c → ⊥) → q (f h) ≡ false)
    → ((h : ℕ) (t : Bool) → P h t → t ≡ q (f h)) → (h : ℕ) (t : Bool) → Only owner c P h t → t ≡ q (f h)
unfolding Only
only_agree owner c q f P others agree h true p = agree h true p
only_agree owner c q f P others agree h false p =
    by_test (eqb (owner h) c) (λ e. agree h false (p (eqb-true _ _ e))) (λ e. sym (others h (eqb-false _ _ e)))

module _ {R : Type 0} (q : R → Bool) (f : List ℕ → ℕ → R) (W : List ℕ) {P : ℕ → Bool → Type 0} (size n : ℕ) {b base : ℕ} (same : b ≡ base)
    (agree : (h : ℕ) (t : Bool) → P h t → t ≡ q (f W h)) where
  tested : (i : ℕ) {h : ℕ} {t : Bool} → h ≡ b + size * i → P h t → q (f W (base + size * i)) ≡ t
  tested i {h} e p = ap (λ x. q (f W (x + size * i))) (sym same) ∙ ap (λ x. q (f W x)) (sym e) ∙ sym (agree _ _ p)

  came_by : (k d : ℕ) → d ≤ n - k → PassedBy P size b k (k + d) → Came q f size W base n k (k + d)
  came_by k zero i p = let e : k ≡ k + 0 = sym (add-zero k) in subst (Came q f size W base n k) e (next_start q f size W base n k)
  came_by k (suc d) i p =
      let e : k + d + 1 ≡ k + suc d = omega arith in
      subst (Came q f size W base n k) e
      (next_miss (came_by k d (omega arith) (λ j u v. p j u (omega arith))) (omega arith) refl
      (sym (tested _ refl (p (k + d) (omega arith) (omega arith)))) refl)

  came_to : {k j : ℕ} → k ≤ j → j ≤ n → PassedBy P size b k j → Came q f size W base n k j
  came_to {k} {j} i m p =
      let e : k + (j - k) ≡ j = omega arith in
      subst (Came q f size W base n k) e (came_by k (j - k) (omega arith) (λ y u v. p y u (omega arith)))

  -- the next
  pub next_by : (k : ℕ) (r : Option Place) → NextBy P size b n k r → NextOf q f size W base n k r
  unfolding NextBy NextOf
  next_by k (Some w) x =
      let i = x.below in
      next_hit (came_to x.from (omega arith) x.before) i (x.head ∙ ap (λ y. y + size * w.number) same) (agree _ _ x.passes) refl
  next_by k None x = next_end (came_by k (n - k) (omega arith) (λ y u v. x y u (omega arith))) (omega arith)

  abbrev start : Option R
  start = first_of q (rows (λ i. f W (base + size * i)) 0 n)

  first_to : (j : ℕ) → j ≤ n → PassedBy P size b 0 j → start ≡ first_of q (rows (λ i. f W (base + size * i)) j (n - j))
  first_to zero i p = rows_whole (first_of q) (λ i. f W (base + size * i)) n
  first_to (suc j) i p =
      subst (λ y. start ≡ first_of q (rows (λ i. f W (base + size * i)) y (n - y))) (omega arith)
      (first_miss q (λ i. f W (base + size * i)) start j n (first_to j (omega arith) (λ y u v. p y u (omega arith))) (omega arith) refl
      (sym (tested _ refl (p j (omega arith) (omega arith)))) refl)

  -- the first
  pub first_by : (e : Option ℕ) → FirstBy P size b n e → entry_of f W e ≡ first_of q (rows (λ i. f W (base + size * i)) 0 n)
  unfolding FirstBy
  first_by (Some h) (j, x) =
      let i = x.below in
      first_hit q (λ i. f W (base + size * i)) start j n (first_to j (omega arith) x.before) i
      (ap (f W) (x.head ∙ ap (λ y. y + size * j) same)) (agree _ _ x.passes) refl
  first_by None x = first_none q (λ i. f W (base + size * i)) start n n (first_to n (omega arith) x) (omega arith)

  abbrev all_reads : ℕ
  all_reads = reads_of q (rows (λ i. f W (base + size * i)) 0 n)

  reads_to : (j : ℕ) → j ≤ n → PassedBy P size b 0 j → all_reads ≡ j + reads_of q (rows (λ i. f W (base + size * i)) j (n - j))
  reads_to zero i p = rows_whole (reads_of q) (λ i. f W (base + size * i)) n ∙ omega arith
  reads_to (suc j) i p =
      subst (λ y. all_reads ≡ y + reads_of q (rows (λ i. f W (base + size * i)) y (n - y))) (omega arith)
      (reads_miss q (λ i. f W (base + size * i)) all_reads j n (reads_to j (omega arith) (λ y u v. p y u (omega arith))) (omega arith) refl
      (sym (tested _ refl (p j (omega arith) (omega arith)))) refl)

  -- the next from the beginning, and how many are read to find it
  pub found_by : {r : Option Place} {w : Place} → NextBy P size b n 0 r → r ≡ Some w → (Some (f W w.head) ≡ start) × (w.number + 1 ≡ all_reads)
  unfolding FirstBy
  found_by {w = w} x e =
      let m = met_by P size b n 0 x e in
      let i = m.below in (
        first_by (Some w.head) (w.number, m),
        reads_hit q (λ i. f W (base + size * i)) all_reads w.number n (reads_to w.number (omega arith) m.before) i
            (ap (f W) (m.head ∙ ap (λ y. y + size * w.number) same)) (agree _ _ m.passes) refl,
      )

  pub none_by : {r : Option Place} → NextBy P size b n 0 r → r ≡ None → (None ≡ start) × (n ≡ all_reads)
  unfolding FirstBy
  none_by x e =
      let m = passed_by P size b n 0 x e in (
        first_by None m,
        reads_none q (λ i. f W (base + size * i)) all_reads n n (reads_to n (omega arith) m) (omega arith),
      )

-- over a span, what is found is found among the records that it covers
pub over : (P : ℕ → Bool → Type 0) {s : Span} {base size n : ℕ} → Covers s base size n → (k : ℕ) (r : Option Place)
    → NextBy P s.size s.base s.count k r → NextBy P size base n k r
over P {s} {base} {size} {n} at k r x =
    subst (λ b. NextBy P size b n k r) at.starts
    (subst (λ z. NextBy P z s.base n k r) at.sized (subst (λ c. NextBy P s.size s.base c k r) at.counts x))

module _ {R : Type 0} (q : R → Bool) (f : List ℕ → ℕ → R) (W : List ℕ) {P : ℕ → Bool → Type 0} {s : Span} {base size n : ℕ}
    (at : Covers s base size n)
    (agree : (h : ℕ) (t : Bool) → P h t → t ≡ q (f W h)) where
  pub next_in : (k : ℕ) (r : Option Place) → NextBy P s.size s.base s.count k r → NextOf q f size W base n k r
  next_in k r x = next_by q f W {P = P} size n refl agree k r (over P at k r x)

  pub first_in : (e : Option ℕ) → FirstBy P s.size s.base s.count e → entry_of f W e ≡ first_of q (rows (λ i. f W (base + size * i)) 0 n)
  first_in e x =
      first_by q f W {P = P} size n at.starts agree e
      (subst (λ z. FirstBy P z s.base n e) at.sized (subst (λ c. FirstBy P s.size s.base c e) at.counts x))

-- a search outwards
module _ {F : ModuleId → Option ℕ → Type 0} {S : ModuleId → Option ModuleId → Type 0} {W : List ℕ} {f : ℕ → Option Scope} {step : ℕ → ℕ} {from : ℕ}
    (x : Outwards F S W f step from) {m : ModuleId} {e : Option ℕ} (i : m.0 ≤ from) (p : F m e) where
  down : Falls step (from + 1)
  down v w u = x.falls v w (omega arith)

  found : {z : Option ℕ} → e ≡ z → f m.0 ≡ entry_of scope_at W z
  found q = sym (x.finds m e i p) ∙ ap (entry_of scope_at W) q

  pub near_here : {h : ℕ} → e ≡ Some h → Some (scope_at W h) ≡ first_some f (m.0 ∷ steps step m.0)
  near_here q = first_here step (from + 1) down m.0 (omega arith) f (found q)

  module _ {o : Option ModuleId} (r : S m o) where
    pub near_end : e ≡ None → o ≡ None → None ≡ first_some f (m.0 ∷ steps step m.0)
    near_end q z = first_end step (from + 1) down m.0 (omega arith) f (found q) (none_number o (x.steps m o i r) z)

    pub near_on : {b : ModuleId} → e ≡ None → o ≡ Some b → first_some f (m.0 ∷ steps step m.0) ≡ first_some f (b.0 ∷ steps step b.0)
    near_on {b} q z = first_on step (from + 1) down m.0 (omega arith) f (found q) b.0 (some_number o (x.steps m o i r) z)

-- what a caller shows of steps that fall
module _ {step : ℕ → ℕ} {n from : ℕ} (falls : Falls step n) (inside : from < n) where
  pub step_less : {m b : ModuleId} → m.0 ≤ from → plus_one (Some b) ≡ step m.0 → b.0 < m.0
  step_less {m} {b} i e = falls m.0 b.0 (omega arith) (some_number (Some b) e refl)

  pub outwards : {F : ModuleId → Option ℕ → Type 0} {S : ModuleId → Option ModuleId → Type 0} {W : List ℕ} {f : ℕ → Option Scope}
      → ((m : ModuleId) (e : Option ℕ) → m.0 ≤ from → F m e → entry_of scope_at W e ≡ f m.0)
      → ((m : ModuleId) (o : Option ModuleId) → m.0 ≤ from → S m o → plus_one o ≡ step m.0) → Outwards F S W f step from
  outwards p q = record { falls = λ v w i. falls v w (omega (arith, i, inside)); finds = p; steps = q }

-- an accepted tree's steps to the parents of blocks fall
pub block_down : {W A : List ℕ} {l : Layout} → Reads W A l → Falls (block_of (snap_of W A l)) l.modules
block_down {W} {A} {l} r v w i =
    block_falls (snap_of W A l) (accepted_tree W (snap_of W A l) r.same) v w (rw (length_modules W A l) i)
