-- The lookups in a module and around its blocks, and the root of a crate.
use Prim.Native.Nat.{ℕ, suc, ◌<◌}
use mathlib.Core.Path.{◌≡◌, refl, sym, ◌∙◌, ap, ap₂, subst}
use mathlib.Core.List.{List, [], ◌∷◌, map}
use mathlib.Core.Bool.{Bool, true, false, ◌&&◌, ◌||◌, not}
use Rattle.std.specs.Prelude.{Option, None, Some}
use native.Mathlib.Omega.{arith}
use native.Mathlib.Nat.{zero-add}
use borrow.Author.Tests.{eq-eqb}
use lib.Dec.{eqb}
use lib.ListN.{length}
use Rattle.snapshot.specs.Lists.{any}
use Rattle.snapshot.specs.Records.{Snapshot, Scope, Map}
use Rattle.check_rules.specs.Tests.{counts_of, no_map}
use Rattle.accept.specs.Valid.{Valid, Each, none, more, ScopeFits, crate_in, block_in}
use Rattle.hir_def.specs.Finds.{or_first, first_some}
use Rattle.hir_def.specs.Items.{types, block_of, crate_of, own_map, root_of, crate_root, module_item}
use Rattle.hir_def.specs.ItemScope.{counts, name_of, names_of, is_deprecated, is_fresh, preferred, get}
use Rattle.hir_def.specs.Nameres.{ancestor_maps, entry_in, scope_entry, entry_named, is_other, occupied}
use Rattle.hir_def.specs.declared.Item.{Item}
use Rattle.hir_def.proofs.Chains.{block_falls}
use Rattle.join_rules.specs.Joined.{Numbers}
use Rattle.join_rules.proofs.Lists.{any_has}
use Rattle.join_rules.proofs.Merged.{place_from}
use Rattle.embedding.specs.Embeds.{ScopeAlike, Embeds, item_to}
use Rattle.embedding.proofs.Chains.{ancestors_moved, crate_moved, crate_known}
use Rattle.embedding.proofs.Lookups.{Both, neither, each, Has}
use Rattle.embedding.proofs.Scopes.{item_same, name_of_moved, names_of_moved, get_moved}
use Rattle.embedding.proofs.Walks.{steps_known}

module _ {A : Type 0} {R : A → A → Type 0} where
  pub both_as : {Q : A → A → Type 0} {a b : Option A} → ((x z : A) → R x z → Q x z) → Both R a b → Both Q a b
  both_as h neither = neither
  both_as h (each {x = x} {z = z} r) = each (h x z r)

  pub or_both : {a b c d : Option A} → Both R a b → Both R c d → Both R (or_first a c) (or_first b d)
  unfolding or_first
  or_both neither q = q
  or_both (each r) q = each r

  some_both : {a b c d : Option A} → Both R a b → Both R c d → Both R (elim a [ Some y ↦ Some y | None ↦ c ]) (elim b [ Some y ↦ Some y | None ↦ d ])
  some_both neither q = q
  some_both (each r) q = each r

  -- the first answer among those of modules
  pub first_some_moved : (f : ℕ → ℕ) (n : ℕ) (g h : ℕ → Option A) → ((m : ℕ) → m < n → Both R (g m) (h (f m))) → (ms : List ℕ) → Each (λ a. a < n) ms
      → Both R (first_some g ms) (first_some h (map f ms))
  unfolding first_some
  first_some_moved f n g h t [] none = neither
  first_some_moved f n g h t (m ∷ ms) (more l k) = some_both (t m l) (first_some_moved f n g h t ms k)

any_moved : (f : ℕ → ℕ) (n : ℕ) (p q : ℕ → Bool) → ((m : ℕ) → m < n → q (f m) ≡ p m) → (ms : List ℕ) → Each (λ a. a < n) ms
    → any q (map f ms) ≡ any p ms
unfolding any
any_moved f n p q h [] none = refl
any_moved f n p q h (m ∷ ms) (more l k) = ap₂ (λ i j. i || j) (h m l) (any_moved f n p q h ms k)

module _ (e : Numbers) (s u : Snapshot) (em : Embeds e s u) (v : Valid s) (w : Valid u) where
  abbrev n : ℕ
  n = length s.modules

  -- an entry and its like
  abbrev pub Like : Scope → Scope → Type 0
  Like x z = ScopeFits (counts_of s) x × ScopeAlike e x z

  ancestors_known : (m : ℕ) → m < n → Each (λ a. a < n) (ancestor_maps s m)
  unfolding ancestor_maps
  ancestors_known m l = more l (steps_known (block_of s) n (block_falls s v.tree) (suc m) m (omega arith) l)

  -- a test that tells alike entries alike
  abbrev pub Same : (Scope → Bool) → (Scope → Bool) → Type 0
  Same p q = (x z : Scope) → ScopeFits (counts_of s) x → ScopeAlike e x z → q z ≡ p x

  module _ (item : Item) (h : Has s item) (m : ℕ) (l : m < n) where
    names_like : (p q : Scope → Bool) → Same p q → Both Like (names_of s m item p) (names_of u (e.modules m) (item_to e item) q)
    names_like p q same = both_as (λ x z r. (r.0, r.1)) (names_of_moved e s u em v m l item h p q same)

    pub name_like : Both Like (name_of s m item) (name_of u (e.modules m) (item_to e item))
    name_like = both_as (λ x z r. (r.0, r.1)) (name_of_moved e s u em v m l item h)

    -- by options bit 32
    pub preferred_moved : (fresh : Bool) (p q : Scope → Bool) → Same p q → {a b : Option Scope} → Both Like a b
        → Both Like (preferred fresh s m item p a) (preferred fresh u (e.modules m) (item_to e item) q b)
    unfolding preferred
    preferred_moved true p q same r =
        or_both (names_like (is_fresh p) (is_fresh q) (λ x z f a. ap₂ (λ i j. i && j) (same x z f a) (ap (λ y. not (is_deprecated y)) a))) r
    preferred_moved false p q same r = r

  entry_in_moved : (item : Item) → Has s item → (declared fresh : Bool) (a : ℕ) → a < n
      → Both Like (entry_in s item declared fresh a) (entry_in u (item_to e item) declared fresh (e.modules a))
  entry_in_moved item h declared fresh a l =
      let same : Same (counts declared) (counts declared) = λ x z f r. ap (counts declared) r in
      preferred_moved item h a l fresh (counts declared) (counts declared) same (names_like item h a l (counts declared) (counts declared) same)

  module _ (m : ℕ) (l : m < n) where
    -- the item's entry in a module, or around its blocks
    pub scope_entry_moved : (item : Item) → Has s item → (declared fresh : Bool)
        → Both Like (scope_entry s m item declared fresh) (scope_entry u (e.modules m) (item_to e item) declared fresh)
    unfolding scope_entry
    scope_entry_moved item h declared fresh =
        subst (λ ms. Both Like (first_some (entry_in s item declared fresh) (ancestor_maps s m))
        (first_some (entry_in u (item_to e item) declared fresh) ms))
        (sym (ancestors_moved e s u em v w m l))
        (first_some_moved e.modules n (entry_in s item declared fresh) (entry_in u (item_to e item) declared fresh)
        (entry_in_moved item h declared fresh) (ancestor_maps s m)
        (ancestors_known m l))

    get_like : (ns k : ℕ) → k < length s.names → (a : ℕ) → a < n → Both Like (get s a ns k) (get u (e.modules a) ns (e.names k))
    get_like ns k h a la = both_as (λ x z r. (r.0, r.1)) (get_moved e s u em v a la ns k h)

    -- the entry by a namespace and a name
    pub entry_named_moved : (ns k : ℕ) → k < length s.names → Both Like (entry_named s m ns k) (entry_named u (e.modules m) ns (e.names k))
    unfolding entry_named
    entry_named_moved ns k h =
        subst (λ ms. Both Like (first_some (λ a. get s a ns k) (ancestor_maps s m)) (first_some (λ a. get u a ns (e.names k)) ms))
        (sym (ancestors_moved e s u em v w m l))
        (first_some_moved e.modules n (λ a. get s a ns k) (λ a. get u a ns (e.names k)) (get_like ns k h) (ancestor_maps s m)
        (ancestors_known m l))

    other_moved : (to : ℕ) → to < n → {a b : Option Scope} → Both Like a b → is_other u (e.modules to) b ≡ is_other s to a
    unfolding is_other item_to
    other_moved to k neither = refl
    other_moved to k (each {x = x} {z = z} r) = ap not (item_same e s u em v m l (module_item to) k x z r.0 r.1)

    -- whether the name is another thing's
    pub occupied_moved : (to k : ℕ) → to < n → k < length s.names → occupied u (e.modules m) (e.modules to) (e.names k) ≡ occupied s m to k
    unfolding occupied
    occupied_moved to k lt h =
        ap (any (λ a. is_other u (e.modules to) (get u a types (e.names k)))) (ancestors_moved e s u em v w m l)
        ∙ any_moved e.modules n (λ a. is_other s to (get s a types k)) (λ a. is_other u (e.modules to) (get u a types (e.names k)))
        (λ a la. other_moved to lt (get_like types k h a la)) (ancestor_maps s m) (ancestors_known m l)

  pub own_known : (c : ℕ) → c < length s.crates → own_map s c < length s.maps
  unfolding own_map
  own_known c l =
      let p : Map → Bool = λ x. eqb x.crate c && eqb x.block 0 in
      let f = v.owned.some c l in
      let a : any p s.maps ≡ true = any_has p no_map s.maps f.0 f.1
      (rw (eq-eqb (crate_in s.maps f.0) c f.2, eq-eqb (block_in s.maps f.0) 0 f.3)) in
      let r = place_from p no_map s.maps 0 a in
      let q : own_map s c ≡ r.0 = r.1 ∙ zero-add r.0 in
      let k = r.2 in
      omega arith

  -- `crate_root` of a module's map
  pub crate_root_moved : (m : ℕ) → m < n → crate_root u (e.modules m) ≡ e.modules (crate_root s m)
  unfolding crate_root
  crate_root_moved m l =
      let c = crate_known e s u em v w m l in
      ap (λ k. root_of u (own_map u k)) (crate_moved e s u em v w m l) ∙ ap (root_of u) (em.own (crate_of s m) c)
      ∙ em.root (own_map s (crate_of s m)) (own_known (crate_of s m) c)
