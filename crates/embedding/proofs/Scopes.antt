-- The lookups by owner: what an embedded snapshot's scopes, children, preludes, dependencies and imports hold, they hold there.
use Prim.Native.Nat.{ℕ, ◌<◌}
use mathlib.Core.Path.{◌≡◌, ◌∙◌, ap, ap₂}
use mathlib.Core.Bool.{Bool, false, ◌&&◌}
use lib.Dec.{eqb}
use lib.ListN.{length}
use Rattle.snapshot.specs.Records.{Snapshot, Scope, Import, Child, Prelude, Dependency}
use Rattle.check_rules.specs.Tests.{counts_of}
use Rattle.accept.specs.Valid.{Valid, ScopeFits, ImportFits, ChildFits, PreludeFits, DependencyFits}
use Rattle.hir_def.specs.Items.{types, module_kind, definition_of, item_of, same_item}
use Rattle.hir_def.specs.ItemScope.{is_for, name_of, names_of, is_named, get, is_module_entry, modules_in_scope}
use Rattle.hir_def.specs.Nameres.{children_of, prelude_of, is_dependency, dependencies_of}
use Rattle.hir_def.specs.ImportMap.{is_import, import_info_for}
use Rattle.hir_def.specs.declared.Item.{Item}
use Rattle.join_rules.specs.Joined.{Numbers, dependency_to, child_to, prelude_to}
use Rattle.embedding.specs.Embeds.{Outside, ScopeAlike, ImportAlike, Embeds, item_to}
use Rattle.embedding.proofs.Chains.{eqb_moved}
use Rattle.embedding.proofs.Lookups.{Both, Along, Hit, first_within, select_within, outside_not, Has, kind_moved, item_moved, item_has}
use Rattle.embedding.proofs.Lookups.{same_moved}

module _ (e : Numbers) (s u : Snapshot) (em : Embeds e s u) (v : Valid s) where
  abbrev Foreign : Scope → Type 0
  Foreign z = Outside e.modules (length s.modules) z.owner

  abbrev pub ScopeHit : (Scope → Bool) → Scope → Scope → Type 0
  ScopeHit p x z = Hit (ScopeFits (counts_of s)) (ScopeAlike e) p x z

  -- an entry of a module
  module _ (m : ℕ) (l : m < length s.modules) where
    owner_same : (x z : Scope) → ScopeFits (counts_of s) x → ScopeAlike e x z → eqb z.owner (e.modules m) ≡ eqb x.owner m
    owner_same x z f a =
        ap (λ (y : Scope). eqb y.owner (e.modules m)) a ∙ eqb_moved e.modules (length s.modules) em.modules_apart
        x.owner m f.owner l

    owner_not : (z : Scope) → Foreign z → eqb z.owner (e.modules m) ≡ false
    owner_not z o = outside_not e.modules (length s.modules) z.owner m o l

    pub item_same : (item : Item) → Has s item → (x z : Scope) → ScopeFits (counts_of s) x → ScopeAlike e x z
        → same_item (item_of u z.ns z.definition) (item_to e item) ≡ same_item (item_of s x.ns x.definition) item
    item_same item h x z f a =
        ap (λ (y : Scope). same_item (item_of u y.ns y.definition) (item_to e item)) a
        ∙ ap (λ i. same_item i (item_to e item)) (item_moved e s u em v x.ns x.definition f.definition)
        ∙ same_moved e s u em v (item_of s x.ns x.definition) item (item_has e s u em v x.ns x.definition f.definition) h

    for_same : (item : Item) → Has s item → (x z : Scope) → ScopeFits (counts_of s) x → ScopeAlike e x z
        → is_for u (e.modules m) (item_to e item) z ≡ is_for s m item x
    unfolding is_for
    for_same item h x z f a = ap₂ (λ i j. i && j) (owner_same x z f a) (item_same item h x z f a)

    for_not : (item : Item) (z : Scope) → Foreign z → is_for u (e.modules m) item z ≡ false
    unfolding is_for
    for_not item z o = ap (λ i. i && same_item (item_of u z.ns z.definition) item) (owner_not z o)

    -- `name_of`
    pub name_of_moved : (item : Item) → Has s item → Both (ScopeHit (is_for s m item)) (name_of s m item) (name_of u (e.modules m) (item_to e item))
    unfolding name_of
    name_of_moved item h =
        first_within (is_for s m item) (is_for u (e.modules m) (item_to e item)) (for_same item h) (for_not (item_to e item))
        v.ranges.scopes em.scopes

    -- `names_of`, by tests that tell alike entries alike
    pub names_of_moved : (item : Item) → Has s item → (p q : Scope → Bool)
        → ((x z : Scope) → ScopeFits (counts_of s) x → ScopeAlike e x z → q z ≡ p x)
        → Both (ScopeHit (λ x. is_for s m item x && p x)) (names_of s m item p) (names_of u (e.modules m) (item_to e item) q)
    unfolding names_of
    names_of_moved item h p q same =
        first_within (λ x. is_for s m item x && p x) (λ z. is_for u (e.modules m) (item_to e item) z && q z)
        (λ x z f a. ap₂ (λ i j. i && j) (for_same item h x z f a) (same x z f a))
        (λ z o. ap (λ i. i && q z) (for_not (item_to e item) z o)) v.ranges.scopes em.scopes

    -- `get`
    pub get_moved : (ns n : ℕ) → n < length s.names → Both (ScopeHit (is_named m ns n)) (get s m ns n) (get u (e.modules m) ns (e.names n))
    unfolding get
    get_moved ns n h =
        first_within (is_named m ns n) (is_named (e.modules m) ns (e.names n))
        (λ x z f a. ap₂ (λ i j. i && j) (owner_same x z f a)
        (ap (λ (y : Scope). eqb y.ns ns && eqb y.name (e.names n)) a
        ∙ ap (λ i. eqb x.ns ns && i) (eqb_moved e.names (length s.names) em.names_apart x.name n f.name h)))
        (λ z o. ap (λ i. i && (eqb z.ns ns && eqb z.name (e.names n))) (owner_not z o)) v.ranges.scopes em.scopes

    -- `modules_in_scope`
    pub modules_in_scope_moved : Along (ScopeHit (is_module_entry s m)) (modules_in_scope s m) (modules_in_scope u (e.modules m))
    unfolding modules_in_scope
    modules_in_scope_moved =
        select_within (is_module_entry s m) (is_module_entry u (e.modules m))
        (λ x z f a. ap₂ (λ i j. i && j) (owner_same x z f a)
        (ap (λ (y : Scope). eqb y.ns types && eqb (definition_of u y.definition).kind module_kind) a
        ∙ ap (λ i. eqb x.ns types && eqb i module_kind) (kind_moved e s u em v x.definition f.definition)))
        (λ z o. ap (λ i. i && (eqb z.ns types && eqb (definition_of u z.definition).kind module_kind)) (owner_not z o))
        v.ranges.scopes em.scopes

    -- the children
    pub children_moved : Along (Hit (ChildFits (counts_of s)) (λ x z. z ≡ child_to e x) (λ c. eqb c.owner m)) (children_of s m)
        (children_of u (e.modules m))
    unfolding children_of
    children_moved =
        select_within (λ c. eqb c.owner m) (λ c. eqb c.owner (e.modules m))
        (λ x z f a. ap (λ (y : Child). eqb y.owner (e.modules m)) a
        ∙ eqb_moved e.modules (length s.modules) em.modules_apart x.owner m f.owner l)
        (λ z o. outside_not e.modules (length s.modules) z.owner m o l) v.ranges.children em.children

  -- `DefMap::prelude`
  pub prelude_moved : (k : ℕ) → k < length s.maps → Both (Hit (PreludeFits (counts_of s)) (λ x z. z ≡ prelude_to e x) (λ p. eqb p.map k))
      (prelude_of s k) (prelude_of u (e.maps k))
  unfolding prelude_of
  prelude_moved k l =
      first_within (λ p. eqb p.map k) (λ p. eqb p.map (e.maps k))
      (λ x z f a. ap (λ (y : Prelude). eqb y.map (e.maps k)) a ∙ eqb_moved e.maps (length s.maps) em.maps_apart x.map k f.map l)
      (λ z o. outside_not e.maps (length s.maps) z.map k o l) v.ranges.preludes em.preludes

  module _ (c : ℕ) (l : c < length s.crates) where
    -- the dependencies of a crate
    pub dependencies_moved : Along (Hit (DependencyFits (counts_of s)) (λ x z. z ≡ dependency_to e x) (is_dependency c))
        (dependencies_of s c) (dependencies_of u (e.crates c))
    unfolding dependencies_of
    dependencies_moved =
        select_within (is_dependency c) (is_dependency (e.crates c))
        (λ x z f a. ap (λ (y : Dependency). eqb y.owner (e.crates c)) a
        ∙ eqb_moved e.crates (length s.crates) em.crates_apart x.owner c f.owner l)
        (λ z o. outside_not e.crates (length s.crates) z.owner c o l) v.ranges.dependencies em.dependencies

    -- `import_info_for`
    pub imports_moved : (item : Item) → Has s item → Along (Hit (ImportFits (counts_of s)) (ImportAlike e) (is_import s c item))
        (import_info_for s c item) (import_info_for u (e.crates c) (item_to e item))
    unfolding import_info_for
    imports_moved item h =
        select_within (is_import s c item) (is_import u (e.crates c) (item_to e item))
        (λ x z f a.
        ap (λ (y : Import). eqb y.owner (e.crates c) && same_item (item_of u y.ns y.definition) (item_to e item)) a
        ∙ ap₂ (λ i j. i && j) (eqb_moved e.crates (length s.crates) em.crates_apart x.owner c f.owner l)
        (ap (λ i. same_item i (item_to e item)) (item_moved e s u em v x.ns x.definition f.definition)
        ∙ same_moved e s u em v (item_of s x.ns x.definition) item (item_has e s u em v x.ns x.definition f.definition) h))
        (λ z o. ap (λ i. i && same_item (item_of u z.ns z.definition) (item_to e item))
        (outside_not e.crates (length s.crates) z.owner c o l))
        v.ranges.imports em.imports
