-- The search for an item, step by step, as the code takes it.
use mathlib.Core.Path.{◌≡◌, refl, sym, ◌∙◌, ap, subst}
use Prim.Native.Nat.{ℕ, zero, suc, ◌+◌, ◌*◌, ◌≤◌, ◌<◌}
use native.Mathlib.Omega.{arith}
use mathlib.Core.List.{List, [], ◌∷◌}
use mathlib.Core.Bool.{Bool, true, false, ◌&&◌, false≢true}
use Rattle.std.specs.Prelude.{Option, None, Some}
use lib.Dec.{eqb}
use lib.ListN.{length}
use borrow.Author.Tests.{eq-eqb, ne_eqb, eqb-true}
use Rattle.snapshot.specs.Limits.{word_limit}
use Rattle.snapshot.specs.Sizes.{definition_size}
use Rattle.snapshot.specs.Records.{Snapshot, Definition, definition_at}
use Rattle.snapshot.specs.Layouts.{definition_base, snap_of}
use Rattle.snapshot.specs.declared.layout.Layout.{Layout}
use Rattle.snapshot.proofs.Laws.{length_rows}
use Rattle.accept.specs.Post.{Reads}
use Rattle.accept.proofs.Accepted.{by_test}
use Rattle.accept.proofs.Valid.{accepted_valid}
use Rattle.hir_def.specs.Items.{definition_of, item_of, ns_of, defined_item, module_item}
use Rattle.hir_def.specs.Entries.{Known}
use Rattle.hir_def.specs.declared.Item.{Item}
use Rattle.hir_def.specs.declared.Item.TheVariants.{Mod, Def}
use Rattle.hir_def.proofs.Lookups.{item_module, item_other}
use Rattle.hir_def.proofs.Fits.{definition_fits, item_known}
use Rattle.find_path_spec.specs.declared.Tank.{Tank}
use Rattle.find_path_spec.specs.declared.FindPathCtx.{FindPathCtx}
use Rattle.find_path_choice.specs.Choices.{Choice}
use Rattle.find_path_spec.specs.Rules.{first_found, scope_rule, prelude_rule}
use Rattle.find_path_spec.specs.Meters.{from_tank}
use Rattle.find_path_spec.specs.Charged.{Out, Found, found_of, variant_of, push_variant, after_enum}
use Rattle.find_path_spec.specs.Charged.{via_enum, or_enum, by_name, of_module, find_path_inner}
use Rattle.find_path_spec.specs.Search.{best_local}
use Rattle.find_path_spec.proofs.laws.Unfold.{EnumNoVariant, inner_more}
use Rattle.find_path_spec.proofs.laws.Bounds.{Fits, more, either_fits, nothing_fits, scope_fits, prelude_fits, best_local_fits, best_within}
use Rattle.find_path_spec.proofs.laws.Bounds.{module_search_fits}
use Rattle.find_path.specs.charged_search.Parts.{modules, best_path}
use Rattle.find_path.specs.search_parts.Parts.{straight}
use Rattle.find_path.specs.Parts.{items, names}
use Rattle.find_path.proofs.charged_search.Parts.{found}

-- the number of an item's definition, 0 for a module
abbrev pub number : Item → ℕ
number (Mod m) = 0
number (Def n d) = d.0

-- the definition of a variant
module _ (s : Snapshot) where
  pub variant_module : {item : Item} {m : ℕ} → item ≡ module_item m → None ≡ variant_of s item
  unfolding variant_of
  variant_module e = sym (ap (variant_of s) e)

  pub variant_yes : {item : Item} {n d k : ℕ} {y : Definition} → item ≡ defined_item n d → y ≡ definition_of s d → k ≡ y.kind
      → k ≡ 2 → Some y ≡ variant_of s item
  unfolding variant_of
  variant_yes {d = d} e h g k =
      let u : eqb (definition_of s d).kind 2 ≡ true = eq-eqb _ _ (ap (λ (z : Definition). z.kind) (sym h) ∙ sym g ∙ k) in
      rw (e, variant_of, u) (ap Some h)

  pub variant_no : {item : Item} {n d k : ℕ} → item ≡ defined_item n d → k ≡ (definition_of s d).kind → (k ≡ 2 → ⊥) → None ≡ variant_of s item
  unfolding variant_of
  variant_no {d = d} e g k =
      let u : eqb (definition_of s d).kind 2 ≡ false = ne_eqb _ _ (λ z. k (g ∙ z)) in
      rw (e, variant_of, u)

  variant_of_def : (n d : ℕ) (v : Definition) → variant_of s (defined_item n d) ≡ Some v → ((definition_of s d).kind ≡ 2) × (v ≡ definition_of s d)
  unfolding variant_of
  variant_of_def n d v e =
      by_test (eqb (definition_of s d).kind 2)
      (λ t. let f : Some (definition_of s d) ≡ Some v = rw (t, variant_of) at e in let g : v ≡ definition_of s d = cc in (eqb-true _ _ t, g))
      (λ t. let f : None ≡ Some v = rw (t, variant_of) at e in let z : ◌≡◌ {A = ℕ} 0 1 = cc in absurd (omega arith))

  number_item : (n d : ℕ) → number (item_of s n d) ≤ d
  number_item n d =
      by_test (eqb n 0 && eqb (definition_of s d).kind 1)
      (λ t. subst (λ (y : Item). number y ≤ d) (item_module s n d refl t refl) (omega arith))
      (λ t. subst (λ (y : Item). number y ≤ d) (item_other s n d refl t) (omega arith))

  pub item_ns : (n d : ℕ) → n ≤ 2 → ns_of (item_of s n d) ≤ 2
  unfolding ns_of
  item_ns n d h =
      by_test (eqb n 0 && eqb (definition_of s d).kind 1)
      (λ t. subst (λ (y : Item). ns_of y ≤ 2) (item_module s n d refl t refl) (omega arith))
      (λ t. subst (λ (y : Item). ns_of y ≤ 2) (item_other s n d refl t) h)

  -- an item of kind 4 is no variant
  other_none : (d : ℕ) → (definition_of s d).kind ≡ 4 → variant_of s (item_of s 0 d) ≡ None
  other_none d k =
      by_test (eqb 0 0 && eqb (definition_of s d).kind 1)
      (λ t. let q : (definition_of s d).kind ≡ 1 = eqb-true (definition_of s d).kind 1 t in absurd (omega (arith, q, k)))
      (λ t. subst (λ (y : Item). variant_of s y ≡ None) (item_other s 0 d refl t)
      (sym (variant_no refl refl (λ (z : (definition_of s d).kind ≡ 2). omega (arith, z, k)))))

-- what acceptance gives a variant
module _ (W A : List ℕ) (l : Layout) (r : Reads W A l) where
  abbrev S : Snapshot
  S = snap_of W A l

  enum_before : (d : ℕ) → d < l.definitions → (definition_of S d).kind ≡ 2
      → ((definition_of S d).first < d) × ((definition_of S (definition_of S d).first).kind ≡ 4)
  unfolding definition_of
  enum_before d h k =
      let u : d < length S.definitions = rw (length_rows (λ i. definition_at W (definition_base l + definition_size * i)) l.definitions) h in
      (accepted_valid W S r.same).enums d u k

  pub enum_no_variant : (item : Item) → Known l item → EnumNoVariant S item
  unfolding variant_of
  enum_no_variant (Mod m) h v e = let z : ◌≡◌ {A = ℕ} 0 1 = cc in absurd (omega arith)
  enum_no_variant (Def n d) h v e =
      let q = variant_of_def S n.0 d.0 v e in
      let w = enum_before d.0 h q.0 in
      subst (λ (y : Definition). variant_of S (item_of S 0 y.first) ≡ None) (sym q.1) (other_none S (definition_of S d.0).first w.1)

  -- the enum of a variant: its place, its number, its name
  pub record Parent (item : Item) (v : Definition) : Type 0 where
    pub asked : Known l (item_of S 0 v.first)
    pub falls : number (item_of S 0 v.first) < number item
    pub name : v.second < l.names
    pub place : v.place < word_limit
    pub plain : variant_of S (item_of S 0 v.first) ≡ None

  pub parent_of : (item : Item) (v : Definition) → Known l item → Some v ≡ variant_of S item → Parent item v
  unfolding variant_of
  parent_of (Mod m) v h e = let z : ◌≡◌ {A = ℕ} 0 1 = cc in absurd (omega arith)
  parent_of (Def n d) v h e =
      let q = variant_of_def S n.0 d.0 v (sym e) in
      let w = enum_before d.0 h q.0 in
      let z = definition_fits W A l r d.0 h in
      let y = z.variant q.0 in
      let m = ap (λ (z : Definition). z.place) q.1 in
      let i = ap (λ (z : Definition). z.first) q.1 in
      let j = ap (λ (z : Definition). z.second) q.1 in
      let k = number_item S 0 v.first in
      record {
        asked = item_known W A l r 0 v.first (omega (arith, i, y.0));
        falls = omega (arith, i, k, w.0);
        name = omega (arith, j, y.1);
        place = omega (arith, m, z.place);
        plain = enum_no_variant (Def n d) h v (sym e);
      }

module _ (s : Snapshot) (x : FindPathCtx) where
  -- a module goes straight to the module search
  at_once : (item : Item) (m : ℕ) (t : Tank) (b : Bool) → x.is_std_item ≡ b → straight b item ≡ suc m
      → modules s x x.max_len m t ≡ find_path_inner Tank from_tank s x (best_local s x) (modules s x) (items s x) item t
  unfolding find_path_inner of_module straight
  at_once (Mod n) m t true e h = let z : 0 ≡ suc m = h in absurd (omega (arith, z))
  at_once (Mod n) m t false e h =
      let z : n.0 + 1 ≡ suc m = h in
      let k : m ≡ n.0 = omega (arith, z) in
      ap (λ (y : ℕ). modules s x x.max_len y t) k ∙ sym (ap (of_module Tank from_tank s x (best_local s x) (modules s x) (items s x) n.0 t) e)
  at_once (Def n d) m t true e h = let z : 0 ≡ suc m = h in absurd (omega (arith, z))
  at_once (Def n d) m t false e h = let z : 0 ≡ suc m = h in absurd (omega (arith, z))

  by_name_lem : (item : Item) (t : Tank) (b : Bool) → x.is_std_item ≡ b → straight b item ≡ 0
      → names s x item t ≡ find_path_inner Tank from_tank s x (best_local s x) (modules s x) (items s x) item t
  unfolding find_path_inner of_module straight
  by_name_lem (Mod n) t true e h = sym (ap (of_module Tank from_tank s x (best_local s x) (modules s x) (items s x) n.0 t) e)
  by_name_lem (Mod n) t false e h = let z : n.0 + 1 ≡ 0 = h in absurd (omega (arith, z))
  by_name_lem (Def n d) t b e h = refl

  pub inner_at_once : (item : Item) (t : Tank) {m : ℕ} → EnumNoVariant s item → straight x.is_std_item item ≡ suc m
      → modules s x x.max_len m t ≡ items s x item t
  inner_at_once item t {m} one h = at_once item m t x.is_std_item refl h ∙ sym (inner_more Tank from_tank s x item t one)

  pub inner_by_name : (item : Item) (t : Tank) → EnumNoVariant s item → straight x.is_std_item item ≡ 0 → names s x item t ≡ items s x item t
  inner_by_name item t one h = by_name_lem item t x.is_std_item refl h ∙ sym (inner_more Tank from_tank s x item t one)

  -- the names of an item, and then the search
  module _ (item : Item) (t : Tank) {c : Choice} (e : c ≡ first_found (scope_rule s x item ∷ prelude_rule s x item ∷ [])) where
    abbrev enum : Choice → Bool → Out Tank
    enum = or_enum Tank from_tank s x (best_local s x) (modules s x) (items s x) item t

    abbrev via : Option Definition → Out Tank
    via = via_enum Tank from_tank s x (best_local s x) (modules s x) (items s x) item t

    enum_yes : (c : Choice) (b : Bool) → b ≡ true → found_of (enum c b) ≡ found c t
    unfolding or_enum
    enum_yes c true e = refl
    enum_yes c false e = absurd (false≢true e)

    enum_no : (c : Choice) (b : Bool) → b ≡ false → enum c b ≡ via (variant_of s item)
    unfolding or_enum
    enum_no c true e = absurd (false≢true (sym e))
    enum_no c false e = refl

    pub name_found : c.found ≡ true → found c t ≡ found_of (names s x item t)
    unfolding by_name
    name_found f = ap (λ (y : Choice). found y t) e ∙ sym (enum_yes _ _ (ap (λ (y : Choice). y.found) (sym e) ∙ f))

    name_via : c.found ≡ false → (v : Option Definition) → v ≡ variant_of s item → via v ≡ names s x item t
    unfolding by_name
    name_via f v h = ap via h ∙ sym (enum_no _ _ (ap (λ (y : Choice). y.found) (sym e) ∙ f))

    pub name_plain : c.found ≡ false → None ≡ variant_of s item → best_path s x x.max_len item t ≡ names s x item t
    unfolding via_enum
    name_plain f h = name_via f None h

    abbrev pub parent : Definition → Out Tank
    parent v = items s x (item_of s 0 v.first) t

    enum_of : (v : Definition) → c.found ≡ false → Some v ≡ variant_of s item
        → after_enum Tank from_tank s x (best_local s x) (modules s x) item v (parent v) (parent v).choice.found ≡ names s x item t
    unfolding via_enum
    enum_of v f h = name_via f (Some v) h

    with_name : (v : Definition) (o : Out Tank) (b : Bool) → b ≡ true
        → record { choice = push_variant s o.choice v; meter = o.meter } ≡ after_enum Tank from_tank s x (best_local s x) (modules s x) item v o b
    unfolding after_enum
    with_name v o true k = refl
    with_name v o false k = absurd (false≢true k)

    without : (v : Definition) (o : Out Tank) (b : Bool) → b ≡ false
        → best_path s x x.max_len item o.meter ≡ after_enum Tank from_tank s x (best_local s x) (modules s x) item v o b
    unfolding after_enum
    without v o true k = absurd (false≢true (sym k))
    without v o false k = refl

    pub enum_found : (v : Definition) {o : Found} → c.found ≡ false → Some v ≡ variant_of s item → o ≡ found_of (parent v) → o.choice.found ≡ true
        → found (push_variant s o.choice v) o.meter ≡ found_of (names s x item t)
    enum_found v f h g k =
        ap (λ (y : Found). found (push_variant s y.choice v) y.meter) g
        ∙ ap found_of (with_name v (parent v) _ (ap (λ (y : Found). y.choice.found) (sym g) ∙ k) ∙ enum_of v f h)

    pub enum_none : (v : Definition) {o : Found} → c.found ≡ false → Some v ≡ variant_of s item → o ≡ found_of (parent v) → o.choice.found ≡ false
        → best_path s x x.max_len item o.meter ≡ names s x item t
    enum_none v f h g k =
        ap (λ (y : Found). best_path s x x.max_len item y.meter) g
        ∙ without v (parent v) _ (ap (λ (y : Found). y.choice.found) (sym g) ∙ k) ∙ enum_of v f h

  -- an item that is no variant has as many names at most as the limit
  module _ (item : Item) (t : Tank) (h : variant_of s item ≡ None) (some-limit : 0 < x.max_len) where
    best_short : Fits s x.max_len (best_path s x x.max_len item t).choice
    best_short = best_within Tank from_tank s x (best_local s x) (best_local_fits s x) (modules s x) (module_search_fits Tank from_tank s x)
        x.max_len some-limit item t

    via_short : (v : Option Definition)
        → v ≡ None → Fits s x.max_len (via_enum Tank from_tank s x (best_local s x) (modules s x) (items s x) item t v).choice
    unfolding via_enum
    via_short None e = best_short
    via_short (Some v) e = let z : ◌≡◌ {A = ℕ} 0 1 = cc in absurd (omega arith)

    enum_short : (c : Choice) (b : Bool) → Fits s x.max_len c
        → Fits s x.max_len (or_enum Tank from_tank s x (best_local s x) (modules s x) (items s x) item t c b).choice
    unfolding or_enum
    enum_short c true f = f
    enum_short c false f = via_short (variant_of s item) h

    names_short : Fits s x.max_len (names s x item t).choice
    unfolding by_name first_found
    names_short =
        enum_short _ _
        (more 1 x.max_len some-limit
        (either_fits 1 (scope_rule s x item).found _ _ (scope_fits s x 0 item)
        (either_fits 1 (prelude_rule s x item).found _ _ (prelude_fits s x 0 item) (nothing_fits 1))))

    by_straight : (n : ℕ) → straight x.is_std_item item ≡ n → Fits s x.max_len (items s x item t).choice
    by_straight (suc m) e =
        subst (λ (o : Out Tank). Fits s x.max_len o.choice) (inner_at_once item t no_enum e)
        (module_search_fits Tank from_tank s x x.max_len m t)
      where
        no_enum : EnumNoVariant s item
        no_enum v k = let z : None ≡ Some v = sym h ∙ k in let c : ◌≡◌ {A = ℕ} 0 1 = cc in absurd (omega arith)
    by_straight zero e =
        subst (λ (o : Out Tank). Fits s x.max_len o.choice) (inner_by_name item t no_enum e) names_short
      where
        no_enum : EnumNoVariant s item
        no_enum v k = let z : None ≡ Some v = sym h ∙ k in let c : ◌≡◌ {A = ℕ} 0 1 = cc in absurd (omega arith)

    pub plain_fits : Fits s x.max_len (items s x item t).choice
    plain_fits = by_straight _ refl
