-- The turns that the definition takes are enough: more give the same modules.
use Prim.Native.Nat.{ℕ, zero, suc, ◌+◌, ◌≤◌}
use mathlib.Core.Path.{◌≡◌, refl, ◌∙◌, ap, subst}
use mathlib.Core.List.{List, [], ◌∷◌}
use mathlib.Core.Bool.{Bool, true, false, ◌&&◌, ◌||◌, true≢false}
use native.Mathlib.Omega.{arith}
use borrow.Author.Tests.{eqb-true}
use lib.Dec.{eqb}
use lib.ListN.{length}
use Rattle.snapshot.specs.Lists.{any}
use Rattle.snapshot.specs.Records.{Snapshot, Scope}
use Rattle.accept.proofs.Accepted.{by_test}
use Rattle.hir_def.specs.Finds.{select}
use Rattle.hir_def.specs.Items.{module_kind, definition_of, root_of, own_map}
use Rattle.imports.specs.order.Lists.{waiting}
use Rattle.import_rules.specs.Collect.{entry_before, insert_by, sort_into, is_public_in, entries_of, piled, visits, modules_from}

length_insert : {A : Type 0} (before : A → A → Bool) (x : A) (ys : List A) → length (insert_by before x ys) ≡ suc (length ys)
unfolding insert_by
length_insert before x [] = refl
length_insert {A} before x (y ∷ ys) = by (before x y) (length_insert before x ys)
  where
    by : (b : Bool) → length (insert_by before x ys) ≡ suc (length ys)
        → length {A = A} (elim b [ true ↦ x ∷ y ∷ ys | false ↦ y ∷ insert_by before x ys ]) ≡ suc (suc (length ys))
    by true p = refl
    by false p = ap suc p

pub length_sort : {A : Type 0} (before : A → A → Bool) (ys xs : List A) → length (sort_into before ys xs) ≡ length ys + length xs
unfolding sort_into
length_sort before ys [] = omega arith
length_sort before ys (x ∷ xs) = omega (arith, length_sort before (insert_by before x ys) xs, length_insert before x ys)

pub length_piled : (s : Snapshot) (es : List Scope) (ws : List ℕ) → length (piled s es ws) ≤ length es + length ws
unfolding piled
length_piled s [] ws = omega arith
length_piled s (e ∷ es) ws = by (eqb (definition_of s e.definition).kind module_kind) (length_piled s es)
  where
    by : (b : Bool) → ((vs : List ℕ) → length (piled s es vs) ≤ length es + length vs)
        → length (piled s es (elim b [ true ↦ (definition_of s e.definition).first ∷ ws | false ↦ ws ])) ≤ suc (length es) + length ws
    by true f = let p = f ((definition_of s e.definition).first ∷ ws) in omega arith
    by false f = let p = f ws in omega arith

-- a visit takes a module's entries out of those that wait
module _ (m : ℕ) (seen : List ℕ) (new : any (eqb m) seen ≡ false) where
  one : (own public old : Bool) (a b c : ℕ) → (own ≡ true → old ≡ false) → a + b ≤ c
      → ◌≤◌ (elim (own && public) [ true ↦ suc a | false ↦ a ] + elim (own || old) [ true ↦ b | false ↦ suc b ])
      (elim old [ true ↦ c | false ↦ suc c ])
  one true true true a b c h p = absurd (true≢false (h refl))
  one true true false a b c h p = omega arith
  one true false true a b c h p = omega arith
  one true false false a b c h p = omega arith
  one false public true a b c h p = omega arith
  one false public false a b c h p = omega arith

  taken_out : (es : List Scope) → length (select (is_public_in m) es) + waiting (m ∷ seen) es ≤ waiting seen es
  unfolding waiting select any
  taken_out [] = omega arith
  taken_out (e ∷ es) =
      subst (λ x. ◌≤◌ (x + elim (eqb e.owner m || any (eqb e.owner) seen) [
        | true ↦ waiting (m ∷ seen) es
        | false ↦ suc
            (waiting (m ∷ seen) es)
      ]) (elim (any (eqb e.owner) seen) [ true ↦ waiting seen es | false ↦ suc (waiting seen es) ]))
      (by (is_public_in m e))
      (one (eqb e.owner m) (eqb e.visibility 0) (any (eqb e.owner) seen) (length (select (is_public_in m) es))
      (waiting (m ∷ seen) es) (waiting seen es)
      (λ t. ap (λ x. any (eqb x) seen) (eqb-true e.owner m t) ∙ new) (taken_out es))
    where
      by : (b : Bool) → elim b [ true ↦ suc (length (select (is_public_in m) es)) | false ↦ length (select (is_public_in m) es) ]
          ≡ length {A = Scope} (elim b [ true ↦ e ∷ select (is_public_in m) es | false ↦ select (is_public_in m) es ])
      by true = refl
      by false = refl

pub waiting_all : (es : List Scope) → waiting [] es ≤ length es
unfolding waiting any
waiting_all [] = omega arith
waiting_all (e ∷ es) = let p = waiting_all es in omega arith

-- the entries of a module that was not visited are among those that wait
pub entries_few : (m : ℕ) (s : Snapshot) (seen : List ℕ) → any (eqb m) seen ≡ false → length (entries_of s m) + waiting (m ∷ seen)
    s.scopes ≤ waiting seen s.scopes
unfolding entries_of
entries_few m s seen t =
    let b : length (entries_of s m) ≡ 0 + length (select (is_public_in m) s.scopes) = length_sort (entry_before s) []
    (select (is_public_in m) s.scopes) in
    let c = taken_out m seen t s.scopes in
    omega arith

-- a visit leaves one turn less to be taken
pub room : (n m : ℕ) (s : Snapshot) (seen ws : List ℕ) → suc (length ws) + waiting seen s.scopes ≤ suc n → any (eqb m) seen ≡ false
    → length (piled s (entries_of s m) ws) + waiting (m ∷ seen) s.scopes ≤ n
room n m s seen ws h t = omega (arith, length_piled s (entries_of s m) ws, entries_few m s seen t)

-- from any place on
pub visits_same : (n k : ℕ) (s : Snapshot) (seen ws : List ℕ) → length ws + waiting seen s.scopes ≤ n → n ≤ k
    → visits k s seen ws ≡ visits n s seen ws
unfolding visits
visits_same zero zero s seen ws h p = refl
visits_same zero (suc k) s seen [] h p = refl
visits_same zero (suc k) s seen (m ∷ ws) h p = absurd (omega arith)
visits_same (suc n) zero s seen ws h p = absurd (omega arith)
visits_same (suc n) (suc k) s seen [] h p = refl
visits_same (suc n) (suc k) s seen (m ∷ ws) h p =
    by_test (any (eqb m) seen)
    (λ t. rw (visits, t) (visits_same n k s seen ws (omega arith) (omega arith)))
    (λ t. rw (visits, t) (ap (λ r. m ∷ r) (visits_same n k s (m ∷ seen) (piled s (entries_of s m) ws) (room n m s seen ws h t) (omega arith))))

pub visits_more : (s : Snapshot) (c k : ℕ) → length s.scopes + 1 ≤ k → visits k s [] (root_of s (own_map s c) ∷ []) ≡ modules_from s c
unfolding modules_from
visits_more s c k h =
    let p = waiting_all s.scopes in
    visits_same (length s.scopes + 1) k s [] (root_of s (own_map s c) ∷ []) (omega arith) h
