-- How long an answer of a local search is: its length tells how near a rule's answer is, and is held by the length left.
use mathlib.Core.Path.{◌≡◌, refl, ap, sym, ◌∙◌}
use Prim.Native.Nat.{ℕ, zero, suc, ◌+◌, ◌-◌, ◌≤◌, ◌<◌}
use native.Mathlib.Omega.{arith}
use mathlib.Core.List.{List, [], ◌∷◌, ◌++◌}
use mathlib.Core.Bool.{Bool, true, false, ◌&&◌, ◌||◌, not, false≢true}
use mathlib.Core.Logic.{⊎_elim}
use Rattle.std.specs.Prelude.{Option, None, Some}
use lib.Dec.{eqb}
use lib.ListN.{get_or}
use borrow.Author.Tests.{eqb-true, eqb-false}
use Rattle.snapshot.specs.Records.{Snapshot, Scope}
use Rattle.hir_def.specs.Items.{crate_root, module_item}
use Rattle.hir_def.specs.declared.Item.{Item}
use Rattle.find_path_choice.specs.Choices.{Choice}
use Rattle.find_path_spec.specs.declared.FindPathCtx.{FindPathCtx}
use Rattle.find_path_choice.specs.Choices.{plain_path, crate_path, nothing, path_len, keyword, choice_new, extended, push, length_left}
use Rattle.find_path_spec.specs.Rules.{by_crate, prefix_path_kind, first_found, single, may_be_in_scope}
use Rattle.find_path_spec.specs.Rules.{scope_rule, prelude_rule, root_rule, keyword_of, module_rules}
use Rattle.find_path_spec.specs.Walk.{Level, has}
use Rattle.find_path_spec.specs.Local.{LocalSearch, importable_name, location, calculate_best_path_local, or_local, find_path_for_module_local}
use Rattle.find_path_spec.specs.Search.{local_to, search_local}
use Rattle.find_path_spec.specs.laws.Near.{is_some, ruled, locations, imports, near}
use Rattle.find_path_spec.proofs.laws.Unfold.{length_falls}
use Rattle.find_path_spec.proofs.laws.Fewer.{either, and_both, tested}
use Rattle.find_path_spec.proofs.laws.Near.{Location, near_rule, near_step}
use Rattle.find_path_spec.proofs.laws.Frames.{fewer_locations}
use Rattle.find_path_spec.proofs.laws.Loops.{locations_once, select_by, location_by, each_by}

pub extended_len : (s : Snapshot) (c : Choice) (n t : ℕ) (b : Bool) → path_len (extended s c n t b) ≡ suc (path_len c)
unfolding path_len extended
extended_len s c n t b = omega arith

one : Bool → ℕ
one true = 1
one false = 0

-- what a path kind adds to the names
abbrev weight : ℕ → ℕ
weight k = get_or (0 ∷ 0 ∷ 1 ∷ 1 ∷ 0 ∷ []) k 0

weight_small : (k : ℕ) → weight k ≤ 1
weight_small zero = omega arith
weight_small (suc zero) = omega arith
weight_small (suc (suc zero)) = omega arith
weight_small (suc (suc (suc zero))) = omega arith
weight_small (suc (suc (suc (suc zero)))) = omega arith
weight_small (suc (suc (suc (suc (suc k))))) = omega arith

-- only ByCrate's kind counts
prefix_plain : (p : ℕ) → (p ≡ 2 → ⊥) → weight (prefix_path_kind p) ≡ 0
unfolding prefix_path_kind
prefix_plain zero h = refl
prefix_plain (suc zero) h = refl
prefix_plain (suc (suc zero)) h = absurd (h refl)
prefix_plain (suc (suc (suc p))) h = refl

module _ (s : Snapshot) (x : FindPathCtx) where
  -- ByCrate from the root a name begins with `crate`, one more than elsewhere
  pub shift : ℕ
  shift = one (eqb x.prefix by_crate && eqb x.crate_root.0 x.from.0)

  -- a rule's answer is stable, and at most one longer than the shift
  pub record Brief (c : Choice) : Type 0 where
    pub stable : c.stable ≡ true
    pub low : shift ≤ path_len c
    pub high : path_len c ≤ suc shift

  abbrev IfFound : Choice → Type 0
  IfFound c = c.found ≡ true → Brief c

  either_brief : (b t : Bool) (c d : Choice) → t ≡ b → (t ≡ true → IfFound c) → IfFound d → IfFound (elim b [ true ↦ c | false ↦ d ])
  either_brief true t c d e f g = f e
  either_brief false t c d e f g = g

  nothing_brief : IfFound nothing
  nothing_brief e = absurd (false≢true e)

  pub shift_small : shift ≤ 1
  unfolding shift one
  shift_small = small (eqb x.prefix by_crate && eqb x.crate_root.0 x.from.0)
    where
      small : (b : Bool) → one b ≤ 1
      small true = omega arith
      small false = omega arith

  shift_none : eqb x.prefix by_crate ≡ false → shift ≡ 0
  unfolding shift one
  shift_none h = ap (λ b. one (b && eqb x.crate_root.0 x.from.0)) h

  shift_one : eqb x.prefix by_crate ≡ true → eqb x.crate_root.0 x.from.0 ≡ true → shift ≡ 1
  unfolding shift one
  shift_one h k = ap one (and_both _ _ h k)

  keyword_brief : (k : ℕ) → shift ≤ weight k → IfFound (keyword k)
  unfolding keyword path_len
  keyword_brief k h e = record { stable = refl; low = omega arith; high = omega (arith, weight_small k) }

  single_brief : (k rule : ℕ) (a : Option Scope) → weight k ≤ shift → IfFound (single s x k rule a)
  unfolding single choice_new path_len
  single_brief k rule None h e = absurd (false≢true e)
  single_brief k rule (Some a) h e = record { stable = refl; low = omega (arith, shift_small); high = omega arith }

  root_brief : (m : ℕ) → IfFound (root_rule s x false m)
  unfolding root_rule
  root_brief m = either_brief (eqb (crate_root s m) m) _ _ _ refl (λ _. keyword_brief crate_path shift_small) nothing_brief

  scope_brief : (item : Item) → IfFound (scope_rule s x item)
  unfolding scope_rule may_be_in_scope
  scope_brief item =
      either_brief (may_be_in_scope s x) _ _ _ refl
      (λ h. single_brief _ _ _
      (⊎_elim
      (λ p.
      let one' : shift ≡ 1 = shift_one p (⊎_elim (λ o. absurd (false≢true (sym (ap not p) ∙ o))) (λ o. o)
      (either (not (eqb x.prefix by_crate)) (eqb x.crate_root.0 x.from.0) h)) in
      omega (arith, weight_small (prefix_path_kind x.prefix)))
      (λ p. let o = prefix_plain x.prefix (eqb-false x.prefix by_crate p) in omega arith) (tested (eqb x.prefix by_crate))))
      nothing_brief

  keyword_rule_brief : (k : Option ℕ) → IfFound (keyword_of s x k)
  unfolding keyword_of
  keyword_rule_brief None = nothing_brief
  keyword_rule_brief (Some k) =
      either_brief (not (eqb x.prefix by_crate) || eqb k crate_path) _ _ _ refl
      (λ h. keyword_brief k
      (⊎_elim (λ o. ⊎_elim (λ p. absurd (false≢true (sym (ap not p) ∙ o))) (λ p. let n = shift_none p in omega arith)
      (tested (eqb x.prefix by_crate)))
      (λ o. rw (eqb-true k crate_path o) shift_small) (either (not (eqb x.prefix by_crate)) (eqb k crate_path) h)))
      nothing_brief

  prelude_brief : (item : Item) → IfFound (prelude_rule s x item)
  unfolding prelude_rule
  prelude_brief item = single_brief plain_path _ _ (omega arith)

  first_brief : (c : Choice) (cs : List Choice) → IfFound c → IfFound (first_found cs) → IfFound (first_found (c ∷ cs))
  unfolding first_found
  first_brief c cs f g = either_brief c.found _ _ _ refl (λ _. f) g

  pub rules_brief : (m : ℕ) → IfFound (module_rules s x false m)
  unfolding module_rules
  rules_brief m =
      first_brief _ _ (root_brief m) (first_brief _ _ (scope_brief (module_item m))
      (first_brief _ _ (keyword_rule_brief _) (first_brief _ _ (prelude_brief (module_item m)) none_brief)))
    where
      none_brief : IfFound (first_found [])
      none_brief = unfold first_found in nothing_brief

  -- an answer of a local search, past the shift: as many steps as it takes to come near, and no more than are left
  pub record Sized (left m : ℕ) (c : Choice) : Type 0 where
    pub steps : ℕ
    pub long : path_len c ≡ steps + shift
    pub close : near s x [] (suc steps) m ≡ true
    pub within : steps ≤ left
    pub stable : c.stable ≡ true

  abbrev pub AllSized : LocalSearch → Type 0
  AllSized rec = (left : ℕ) (ls : List Level) (m : ℕ) → (rec left ls m).found ≡ true → Sized left m (rec left ls m)

  rule_sized : (l m : ℕ) → ruled s x m ≡ true → Sized (suc l) m (module_rules s x false m)
  rule_sized l m f =
      let b = rules_brief m f in
      let low = b.low in
      let high = b.high in
      record {
        steps = path_len (module_rules s x false m) - shift;
        long = omega arith;
        close = near_rule s x [] _ m f;
        within =
            omega arith;
        stable = b.stable;
      }

  longer_sized : (l j m c : ℕ) (r : Choice) (n t : ℕ) (b : Bool) → Location s x [] m c → j ≤ l → Sized j c r → Sized (suc l) m (extended s r n t b)
  unfolding extended
  longer_sized l j m c r n t b at h z =
      let e = extended_len s r n t b in
      let g = z.long in
      let w = z.within in
      record {
        steps = suc z.steps;
        long = omega arith;
        close = near_step s x [] (suc z.steps) m c at z.close;
        within =
            omega arith;
        stable = z.stable;
      }

  module _ (rec : LocalSearch) (sized : AllSized rec) (l : ℕ) (ls : List Level) (m : ℕ) where
    abbrev pub SizedIf : List ℕ → Choice → Type 0
    SizedIf done best = best.found ≡ true → Sized (suc l) m best

    pub sized_step : (done : List ℕ) (best : Choice) (c : ℕ) → has done c ≡ false → has (locations s x [] m) c ≡ true
        → SizedIf done best
        → SizedIf (done ++ (c ∷ [])) (location s x rec (suc l) (record { item = module_item m; modules = done ++ (c ∷ []) } ∷ ls)
        best c (importable_name s x (module_item m) c))
    unfolding imports push
    sized_step done best c new in' k =
        location_by s x (SizedIf done) rec (suc l) _ best c (importable_name s x (module_item m) c) k
        (λ e i f.
        let at : Location s x [] m c = record { taken = in'; entry = ap is_some i } in
        let less : length_left (suc l) best < suc l = length_falls (suc l) best (omega arith) in
        let z = sized _ _ c f in
        select_by s x (SizedIf done) best _ e.name _ (λ _ _. longer_sized l _ m c _ _ _ _ at (omega arith) z)
        (λ _ _ _. longer_sized l _ m c _ _ _ _ at (omega arith) z) (λ o _ _. k o))

    or_sized : (f : Bool) → ruled s x m ≡ f → (or_local s x rec (suc l) ls m (module_rules s x false m) f).found ≡ true
        → Sized (suc l) m (or_local s x rec (suc l) ls m (module_rules s x false m) f)
    unfolding or_local calculate_best_path_local
    or_sized true r f = rule_sized l m r
    or_sized false r f =
        each_by s x SizedIf rec (suc l) ls (module_item m) _ [] nothing _ sized_step (fewer_locations s x ls m)
        (locations_once s x.from.0 _) (λ o. absurd (false≢true o)) f

  to_sized : (d : ℕ) → AllSized (local_to s x d)
  unfolding local_to find_path_for_module_local
  to_sized zero left ls m f = absurd (false≢true f)
  to_sized (suc d) zero ls m f = absurd (false≢true f)
  to_sized (suc d) (suc l) ls m f = or_sized (local_to s x d) (to_sized d) l ls m _ refl f

  -- The length of an answer tells how near the module is, and is held by the length left.
  pub length_near : AllSized (search_local s x)
  unfolding search_local
  length_near left ls m f = to_sized left left ls m f
