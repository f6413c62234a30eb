-- Closed numbers are bounds: each step to a rule's answer adds at most 1.
use Prim.Native.Nat.{ℕ, zero, suc, ◌+◌, ◌≤◌, ◌<◌}
use mathlib.Core.Path.{◌≡◌, refl, ap, sym, ◌∙◌, subst}
use mathlib.Core.List.{List, [], ◌∷◌}
use mathlib.Core.Bool.{Bool, true, false, false≢true}
use mathlib.Core.Logic.{◌⊎◌, inl, inr, ⊎_elim}
use Rattle.std.specs.Prelude.{Option, None, Some}
use native.Mathlib.Omega.{arith}
use lib.Dec.{eqb}
use borrow.Author.Tests.{eqb-true}
use Rattle.snapshot.specs.Records.{Snapshot, Scope, Prelude}
use Rattle.accept.specs.Valid.{Each, more}
use Rattle.accept.proofs.Accepted.{by_test}
use Rattle.accept.proofs.Bools.{and_left, and_two}
use Rattle.hir_def.specs.Finds.{first_of, first_some}
use Rattle.hir_def.specs.Items.{map_no, crate_root, item_of, module_item}
use Rattle.hir_def.specs.ItemScope.{counts, is_for, name_of, names_of, is_fresh, preferred}
use Rattle.hir_def.specs.Nameres.{entry_in, scope_entry, prelude_of}
use Rattle.hir_def.specs.declared.Item.{Item}
use Rattle.hir_def.proofs.Fresh.{preferred_has}
use Rattle.find_path_choice.specs.Choices.{Choice}
use Rattle.find_path_spec.specs.declared.FindPathCtx.{FindPathCtx}
use Rattle.find_path_choice.specs.Choices.{nothing}
use Rattle.find_path_spec.specs.Rules.{first_found, single, find_in_scope, may_be_in_scope, scope_rule}
use Rattle.find_path_spec.specs.Rules.{is_usable, prelude_entry, in_prelude, find_in_prelude}
use Rattle.find_path_spec.specs.Rules.{prelude_rule, root_rule, module_rules}
use Rattle.snapshot.specs.Lists.{any}
use Rattle.find_path_spec.specs.Walk.{has, visited}
use Rattle.find_path_spec.specs.Local.{is_importable, entry_if, importable_name}
use Rattle.read_back.proofs.Exact.{same_item_lem}
use Rattle.find_path_spec.specs.laws.Near.{is_some, imports, locations, near}
use Rattle.find_path_spec.proofs.laws.Near.{near_cases}
use Rattle.find_path_local.specs.distances.Distances.{Bounds, Named, Stepped, Ruled, Answering, walk, Onward, Closed}

pub some_is : (o : Option Scope) → is_some o ≡ true → (e : Scope) × (o ≡ Some e)
some_is None h = absurd (false≢true h)
some_is (Some e) h = (e, refl)

-- what is found in a list has what all of it have, and passes the test
first_each : {A : Type 0} {P : A → Type 0} (p : A → Bool) {xs : List A} (y : A) → Each P xs → first_of p xs ≡ Some y → P y × (p y ≡ true)
unfolding first_of
first_each p y Each.none e = let z : ◌≡◌ {A = ℕ} 0 1 = cc in absurd (omega arith)
first_each {P = P} p y (more {x = x} q h) e =
    by_test (p x)
    (λ t. let f : Some x ≡ Some y = rw (t, first_of) at e in let same : x ≡ y = cc in (subst P same q, ap p (sym same) ∙ t))
    (λ t. first_each p y h (rw (t, first_of) at e))

-- what is found in one of several places
some_each : {A B : Type 0} {Q : A → Type 0} {C : Type 0} (f : A → Option B) (y : B) → ((x : A) → Q x → f x ≡ Some y → C)
    → {xs : List A} → Each Q xs → first_some f xs ≡ Some y → C
unfolding first_some
some_each f y g Each.none e = let z : ◌≡◌ {A = ℕ} 0 1 = cc in absurd (omega arith)
some_each {A} {B} {Q} {C} f y g (more {x = x} {xs} q h) e = by (f x) refl (λ k. some_each f y g h k) e
  where
    by : (o : Option B) → f x ≡ o → (first_some f xs ≡ Some y → C) → elim o [ Some z ↦ Some z | None ↦ first_some f xs ] ≡ Some y → C
    by None k rec e = rec e
    by (Some z) k rec e = g x q (k ∙ e)

module _ (s : Snapshot) (x : FindPathCtx) where
  -- an entry that a lookup for a module in the module a gives
  module _ (P : Scope → Type 0) (all : Each P s.scopes) (a m : ℕ) where
    abbrev For : Scope → Type 0
    For e = P e × (e.owner ≡ a) × (item_of s e.ns e.definition ≡ module_item m)

    for_both : (e : Scope) → P e → is_for s a (module_item m) e ≡ true → For e
    unfolding is_for
    for_both e q t = let f = and_two (eqb e.owner a) _ t in (q, eqb-true _ _ f.0, same_item_lem _ _ f.1)

    name_for : (e : Scope) → name_of s a (module_item m) ≡ Some e → For e
    unfolding name_of
    name_for e h = let f = first_each _ e all h in for_both e f.0 f.1

    names_for : (p : Scope → Bool) (e : Scope) → names_of s a (module_item m) p ≡ Some e → For e
    unfolding names_of
    names_for p e h = let f = first_each _ e all h in for_both e f.0 (and_left _ _ f.1)

    preferred_for : (b : Bool) (p : Scope → Bool) (old : Option Scope) (e : Scope) → (old ≡ Some e → For e)
        → preferred b s a (module_item m) p old ≡ Some e → For e
    preferred_for b p old e f h = preferred_has s a (module_item m) p old 0 For b e (names_for (is_fresh p) e) f h

    entry_for : (b fresh : Bool) (e : Scope) → entry_in s (module_item m) b fresh a ≡ Some e → For e
    entry_for b fresh e h = preferred_for fresh (counts b) _ e (names_for (counts b) e) h

  -- a rule that answers
  single_some : (kind rule : ℕ) (o : Option Scope) → (single s x kind rule o).found ≡ true → (e : Scope) × (o ≡ Some e)
  unfolding single
  single_some kind rule None h = absurd (false≢true h)
  single_some kind rule (Some e) h = (e, refl)

  either_found : (b : Bool) (c d : Choice) → (elim b as (λ _. Choice) [ true ↦ c | false ↦ d ]).found ≡ true
      → ((b ≡ true) × (c.found ≡ true)) ⊎ ((b ≡ false) × (d.found ≡ true))
  either_found true c d h = inl (refl, h)
  either_found false c d h = inr (refl, h)

  first_cases : (c : Choice) (cs : List Choice) → (first_found (c ∷ cs)).found ≡ true → (c.found ≡ true) ⊎ ((first_found cs).found ≡ true)
  unfolding first_found
  first_cases c cs h = ⊎_elim (λ f. inl f.1) (λ f. inr f.1) (either_found c.found c (first_found cs) h)

  first_nothing : (first_found []).found ≡ true → ⊥
  unfolding first_found
  first_nothing h = false≢true h

  root_found : (m : ℕ) → (root_rule s x false m).found ≡ true → crate_root s m ≡ m
  unfolding root_rule
  root_found m h = ⊎_elim (λ f. eqb-true _ _ f.0) (λ f. absurd (false≢true f.1)) (either_found (eqb (crate_root s m) m) _ nothing h)

  scope_found : (m : ℕ) → (scope_rule s x (module_item m)).found ≡ true → (may_be_in_scope s x ≡ true)
      × ((e : Scope) × (find_in_scope s x (module_item m) ≡ Some e))
  unfolding scope_rule
  scope_found m h =
      ⊎_elim (λ f. (f.0, single_some _ _ _ f.1)) (λ f. absurd (false≢true f.1)) (either_found (may_be_in_scope s x) _ nothing h)

  prelude_found : (m : ℕ) → (prelude_rule s x (module_item m)).found ≡ true → (e : Scope) × (find_in_prelude s x (module_item m) ≡ Some e)
  unfolding prelude_rule
  prelude_found m h = single_some _ _ _ h

  kept_some : (b : Bool) (e y : Scope) → (elim b as (λ _. Option Scope) [ true ↦ Some e | false ↦ None ]) ≡ Some y → (b ≡ true) × (Some e ≡ Some y)
  kept_some true e y h = (refl, h)
  kept_some false e y h = let z : ◌≡◌ {A = ℕ} 0 1 = cc in absurd (omega arith)

  prelude_some : (item : Item) (o : Option Scope) (y : Scope) → prelude_entry s x item o ≡ Some y → o ≡ Some y
  unfolding prelude_entry
  prelude_some item None y h = h
  prelude_some item (Some e) y h = (kept_some (is_usable s x item e) e y h).1

  import_some : (o : Option Scope) (y : Scope) → entry_if s x o ≡ Some y → (o ≡ Some y) × (is_importable s x y ≡ true)
  unfolding entry_if
  import_some None y h = let z : ◌≡◌ {A = ℕ} 0 1 = cc in absurd (omega arith)
  import_some (Some e) y h =
      let f = kept_some (is_importable s x e) e y h in
      let same : e ≡ y = let g = f.1 in cc in
      (f.1, ap (is_importable s x) (sym same) ∙ f.0)

  -- the entry by which the viewer can import the module m from the module a
  pub import_for : (P : Scope → Type 0) → Each P s.scopes → (a m : ℕ) (e : Scope) → importable_name s x (module_item m) a ≡ Some e
      → P e × (e.owner ≡ a) × (item_of s e.ns e.definition ≡ module_item m)
  unfolding importable_name
  import_for P all a m e k = preferred_for P all a m x.fresh _ _ e (name_for P all a m e) (import_some _ e k).0

  -- the viewer can import it
  pub import_passes : (item : Item) (a : ℕ) (e : Scope) → importable_name s x item a ≡ Some e → is_importable s x e ≡ true
  unfolding importable_name
  import_passes item a e k = (import_some _ e k).1

  module _ (n : ℕ) (d : ℕ → ℕ) (r : Ruled s x n d) where
    in_scope : (m : ℕ) (e : Scope) → may_be_in_scope s x ≡ true → find_in_scope s x (module_item m) ≡ Some e → d m ≤ 1
    unfolding find_in_scope scope_entry Named
    in_scope m e t h =
        some_each (entry_in s (module_item m) x.ignore_local_imports x.fresh) e
        (λ a all k. let f = entry_for (Named s d a) all a m x.ignore_local_imports x.fresh e k in f.0 m f.1 f.2) (r.scope t) h

    in_prelude_lem : (m : ℕ) (e : Scope) (o : Option Prelude) → prelude_of s (map_no s x.from.0) ≡ o → in_prelude s x (module_item m) o ≡ Some e
        → d m ≤ 1
    unfolding in_prelude Named
    in_prelude_lem m e None q h = let z : ◌≡◌ {A = ℕ} 0 1 = cc in absurd (omega arith)
    in_prelude_lem m e (Some p) q h =
        let all = r.prelude p q in
        let f = preferred_for (Named s d p.target) all p.target m x.fresh _ _ e (name_for (Named s d p.target) all p.target m e)
        (prelude_some (module_item m) _ e h) in
        f.0 m f.1 f.2

    -- where a rule answers
    pub ruled_one : Answering s x n d
    unfolding module_rules find_in_prelude
    ruled_one m b h =
        ⊎_elim (λ f. r.roots m b (root_found m f))
        (λ f. ⊎_elim (λ g. let (t, (e, k)) = scope_found m g in in_scope m e t k)
        (λ g. ⊎_elim (λ i. r.keywords m i)
        (λ i. ⊎_elim (λ j. let (e, k) = prelude_found m j in in_prelude_lem m e _ refl k) (λ j. absurd (first_nothing j)) (first_cases _ _ i))
        (first_cases _ _ g)) (first_cases _ _ f))
        (first_cases _ _ h)

  module _ (n : ℕ) (d : ℕ → ℕ) (c : Closed s x n d) (owners : Each (λ e. e.owner < n) s.scopes) where
    -- a module that it can be imported from
    import_step_lem : (m a : ℕ) → imports s x m a ≡ true → has (walk s x) a ≡ true → (a < n) × (d m ≤ d a + 1)
    unfolding imports importable_name Stepped
    import_step_lem m a h walked =
        let (e, k) = some_is (importable_name s x (module_item m) a) h in
        let P : Scope → Type 0 = λ e. Onward s x d e × (e.owner < n) in
        let all : Each P s.scopes = both c.steps owners in
        let g = import_some _ e k in
        let f = preferred_for P all a m x.fresh _ _ e (name_for P all a m e) g.0 in
        let q = f.0.0 (subst (λ z. has (walk s x) z ≡ true) (sym f.1) walked) m f.2 (subst (λ z. imports s x m z ≡ true) (sym f.1) h) in
        let o = f.0.1 in
        (subst (λ z. z < n) f.1 o, subst (λ z. d m ≤ d z + 1) f.1 q)
      where
        both : {P Q : Scope → Type 0} {es : List Scope} → Each P es → Each Q es → Each (λ e. P e × Q e) es
        both Each.none Each.none = Each.none
        both (more p h) (more q g) = more (p, q) (both h g)

    -- under no level the walk is that past no visited module
    unseen : (m a : ℕ) → has (locations s x [] m) a ≡ true → has (walk s x) a ≡ true
    unfolding visited any
    unseen m a h = h

    -- Closed numbers are bounds.
    pub closed_bounds : Bounds s x n d
    unfolding near
    closed_bounds zero m b h = absurd (false≢true h)
    closed_bounds (suc k) m b h =
        ⊎_elim (λ r. let q = c.answers m b r in omega arith)
        (λ (a, at, t). let (i, q) = import_step_lem m a at.entry (unseen m a at.taken) in let o = closed_bounds k a i t in omega arith)
        (near_cases s x [] k m h)
