-- One record for each distinct item: no two are for the same one, and every record's item is there.
use mathlib.Core.Path.{◌≡◌, sym, ◌∙◌, ap, ap₂}
use mathlib.Core.List.{List, [], ◌∷◌, ◌++◌}
use mathlib.Core.Bool.{Bool, true, false, ◌||◌, false≢true}
use Rattle.snapshot.specs.Lists.{any}
use Rattle.snapshot.specs.Records.{Snapshot, Scope}
use Rattle.accept.specs.Valid.{Each, none, more}
use Rattle.accept.proofs.Accepted.{by_test}
use Rattle.accept.proofs.Bools.{each_map, or_none_lem}
use Rattle.hir_def.specs.Items.{same_item}
use Rattle.hir_def.specs.declared.Item.{Item}
use Rattle.hir_def.proofs.Same.{same_item_lem, same_self}
use Rattle.find_path_spec.proofs.laws.Fewer.{or_right}
use Rattle.reach.specs.parts.Reach.{item_in, is_met, new_from, distinct}

-- no element is for the item of an earlier one
pub data Apart (s : Snapshot) : List Scope → Type 0 where
  end : Apart s []
  next : {e : Scope} {es : List Scope} → Each (λ d. same_item (item_in s e) (item_in s d) ≡ false) es → Apart s es → Apart s (e ∷ es)

module _ (s : Snapshot) where
  abbrev same : Scope → Scope → Bool
  same x d = same_item (item_in s x) (item_in s d)

  any_snoc : (p : Scope → Bool) (xs : List Scope) (e : Scope) → any p (xs ++ (e ∷ [])) ≡ (any p xs || p e)
  unfolding any
  any_snoc p [] e = by_test (p e) (λ t. rw t) (λ t. rw t)
  any_snoc p (x ∷ xs) e = by_test (p x) (λ t. rw t) (λ t. rw t (any_snoc p xs e))

  met_snoc : (before : List Scope) (e d : Scope) → is_met s (before ++ (e ∷ [])) d ≡ (is_met s before d || same e d)
  unfolding is_met
  met_snoc before e d = any_snoc (λ x. same_item (item_in s x) (item_in s d)) before e

  -- what is taken was not met before
  unmet : (before es : List Scope) → Each (λ d. is_met s before d ≡ false) (new_from s before es)
  unfolding new_from
  unmet before [] = none
  unmet before (e ∷ es) =
      let rest = each_map (λ d h. (or_none_lem (is_met s before d) (same e d) (sym (met_snoc before e d) ∙ h)).0) (unmet (before ++ (e ∷ [])) es) in
      by_test (is_met s before e) (λ t. rw (new_from, t) rest) (λ t. rw (new_from, t) (more t rest))

  apart : (before es : List Scope) → Apart s (new_from s before es)
  unfolding new_from
  apart before [] = end
  apart before (e ∷ es) =
      let others = each_map (λ d h. (or_none_lem (is_met s before d) (same e d) (sym (met_snoc before e d) ∙ h)).1) (unmet (before ++ (e ∷ [])) es) in
      by_test (is_met s before e) (λ t. rw (new_from, t) (apart (before ++ (e ∷ [])) es))
      (λ t. rw (new_from, t) (next others (apart (before ++ (e ∷ [])) es)))

  -- the records of the items are there, or were met before
  abbrev Covered : List Scope → List Scope → Scope → Type 0
  Covered before xs d = (is_met s before d || any (λ x. same x d) xs) ≡ true

  -- an item that is met stands for every other record of it
  met_same : (before : List Scope) (e d : Scope) → same e d ≡ true → is_met s before e ≡ true → is_met s before d ≡ true
  unfolding is_met
  met_same before e d t h = ap (λ (i : Item). any (λ x. same_item (item_in s x) i) before) (sym (same_item_lem (item_in s e) (item_in s d) t)) ∙ h

  module _ (before : List Scope) (e : Scope) (xs : List Scope) where
    covered_met : is_met s before e ≡ true → (d : Scope) → Covered (before ++ (e ∷ [])) xs d → Covered before xs d
    covered_met t d h =
        by_test (is_met s before d) (λ u. rw u) (λ u.
        by_test (same e d) (λ v. absurd (false≢true (sym u ∙ met_same before e d v t))) (λ v.
        let k : (is_met s (before ++ (e ∷ [])) d || any (λ x. same x d) xs) ≡ true = h in
        let m : is_met s (before ++ (e ∷ [])) d ≡ false = met_snoc before e d ∙ ap₂ (λ x y. x || y) u v in
        or_right (is_met s before d) _ (sym (ap (λ x. x || any (λ x. same x d) xs) m) ∙ k)))

    covered_new : (d : Scope) → Covered (before ++ (e ∷ [])) xs d → Covered before (e ∷ xs) d
    unfolding any
    covered_new d h =
        by_test (is_met s before d) (λ u. rw u) (λ u.
        by_test (same e d) (λ v. or_right (is_met s before d) _ (ap (λ x. x || any (λ x. same x d) xs) v)) (λ v.
        let m : is_met s (before ++ (e ∷ [])) d ≡ false = met_snoc before e d ∙ ap₂ (λ x y. x || y) u v in
        or_right (is_met s before d) _ (or_right (same e d) _ (sym (ap (λ x. x || any (λ x. same x d) xs) m) ∙ h))))

    covered_self : Covered before (e ∷ xs) e
    unfolding any
    covered_self = or_right (is_met s before e) _ (ap (λ x. x || any (λ x. same_item (item_in s x) (item_in s e)) xs) (same_self (item_in s e)))

  met_first : (before : List Scope) (e : Scope) (xs : List Scope) → is_met s before e ≡ true → Covered before xs e
  met_first before e xs t = ap (λ x. x || any (λ x. same x e) xs) t

  covered : (before es : List Scope) → Each (Covered before (new_from s before es)) es
  unfolding new_from
  covered before [] = none
  covered before (e ∷ es) =
      let rest = covered (before ++ (e ∷ [])) es in
      let xs = new_from s (before ++ (e ∷ [])) es in
      by_test (is_met s before e)
      (λ t. rw (new_from, t) (more (met_first before e xs t) (each_map (covered_met before e xs t) rest)))
      (λ t. rw (new_from, t) (more (covered_self before e xs) (each_map (covered_new before e xs) rest)))

  -- No two records of `distinct` are for the same item.
  pub distinct_apart : Apart s (distinct s)
  unfolding distinct
  distinct_apart = apart [] s.scopes

  -- Every scope record's item is that of one of them.
  pub distinct_all : Each (λ d. any (λ x. same_item (item_in s x) (item_in s d)) (distinct s) ≡ true) s.scopes
  unfolding distinct is_met any
  distinct_all = covered [] s.scopes
