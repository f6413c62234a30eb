-- Modules and maps of an embedded snapshot, the chains of its modules, and what is visible.
use Prim.Native.Nat.{ℕ, zero, suc, ◌≤◌, ◌<◌}
use mathlib.Core.Path.{◌≡◌, refl, sym, ◌∙◌, ap, ap₂}
use mathlib.Core.List.{◌∷◌, map}
use mathlib.Core.Bool.{Bool, true, false, ◌&&◌, ◌||◌}
use native.Mathlib.Omega.{arith}
use borrow.Author.Tests.{eqb-true, eqb-false, eq-eqb, ne_eqb}
use lib.Dec.{eqb}
use lib.ListN.{length}
use Rattle.snapshot.specs.Records.{Snapshot, Map, Module, Scope}
use Rattle.check_rules.specs.Tests.{counts_of, no_map}
use Rattle.accept.specs.Valid.{Valid, ScopeFits}
use Rattle.accept.proofs.Accepted.{by_test}
use Rattle.accept.proofs.Bools.{each_at}
use Rattle.hir_def.specs.Items.{map_of, map_no, crate_of, parent_of, block_of, or_else, containing}
use Rattle.module_tree.specs.rules.Visibility.{last_or, last, met_or, met, unless, climb_step, climb, in_module, is_visible_from, sees}
use Rattle.hir_def.specs.Nameres.{steps_or, steps, ancestor_maps, containers}
use Rattle.hir_def.proofs.Laws.{by_number, Falls, last_more, met_more, steps_more}
use Rattle.hir_def.proofs.Chains.{map_known, block_falls, containing_falls, climb_falls}
use Rattle.join_rules.specs.Joined.{Numbers, or_none, map_to, visible_to, scope_to}
use Rattle.embedding.specs.Embeds.{Apart, Embeds}

-- numbers that do not become one are compared alike
pub eqb_moved : (f : ℕ → ℕ) (n : ℕ) → Apart f n → (i j : ℕ) → i < n → j < n → eqb (f i) (f j) ≡ eqb i j
eqb_moved f n apart i j a b =
    by_test (eqb i j)
    (λ t. eq-eqb (f i) (f j) (ap f (eqb-true i j t)) ∙ sym t)
    (λ t. ne_eqb (f i) (f j) (λ q. eqb-false i j t (apart i j a b q)) ∙ sym t)

-- "+1" fields say none alike
pub none_same : (f : ℕ → ℕ) (n : ℕ) → eqb (or_none f n) 0 ≡ eqb n 0
none_same f zero = refl
none_same f (suc n) = ne_eqb (suc (f n)) 0 (λ z. omega arith) ∙ sym (ne_eqb (suc n) 0 (λ z. omega arith))

pub none_apart : (f : ℕ → ℕ) (n : ℕ) → Apart f n → Apart (or_none f) (suc n)
none_apart f n apart zero zero a b q = refl
none_apart f n apart zero (suc j) a b q = absurd (omega arith)
none_apart f n apart (suc i) zero a b q = absurd (omega arith)
none_apart f n apart (suc i) (suc j) a b q = ap suc (apart i j (omega arith) (omega arith) (omega arith))

-- a chain of steps, and the same steps over moved numbers
module _ (f g h : ℕ → ℕ) (n k : ℕ) (low : Falls g n) (high : Falls h k) (there : (m : ℕ) → m < n → f m < k)
    (step : (m : ℕ) → m < n → h (f m) ≡ or_none f (g m))
  where
    steps_to_lem : (d m : ℕ) → m < d → m < n → steps h (f m) ≡ map f (steps g m)
    unfolding steps_or
    steps_to_lem zero m a b = absurd (omega arith)
    steps_to_lem (suc d) m a b =
        by_number (g m)
        (λ z.
        let q : h (f m) ≡ 0 = step m b ∙ ap (or_none f) z in
        steps_more h k high (f m) (there m b) ∙ ap (steps_or (steps h)) q ∙ ap (map f) (sym (steps_more g n low m b ∙ ap (steps_or (steps g)) z)))
        (λ p z.
        let l = low m p b z in
        let q : h (f m) ≡ suc (f p) = step m b ∙ ap (or_none f) z in
        let r = steps_to_lem d p (omega arith) (omega arith) in
        steps_more h k high (f m) (there m b) ∙ ap (steps_or (steps h)) q ∙ ap (λ l. f p ∷ l) r
        ∙ ap (map f) (sym (steps_more g n low m b ∙ ap (steps_or (steps g)) z)))

    pub steps_moved : (m : ℕ) → m < n → steps h (f m) ≡ map f (steps g m)
    steps_moved m l = steps_to_lem (suc m) m (omega arith) l

    last_to_lem : (d m : ℕ) → m < d → m < n → (last h (f m) ≡ f (last g m)) × (last g m ≤ m)
    unfolding last_or
    last_to_lem zero m a b = absurd (omega arith)
    last_to_lem (suc d) m a b =
        by_number (g m)
        (λ z.
        let q : h (f m) ≡ 0 = step m b ∙ ap (or_none f) z in
        let o : last g m ≡ m = last_more g n low m b ∙ ap (last_or (last g) m) z in
        (last_more h k high (f m) (there m b) ∙ ap (last_or (last h) (f m)) q ∙ ap f (sym o), omega arith))
        (λ p z.
        let l = low m p b z in
        let q : h (f m) ≡ suc (f p) = step m b ∙ ap (or_none f) z in
        let o : last g m ≡ last g p = last_more g n low m b ∙ ap (last_or (last g) m) z in
        let r = last_to_lem d p (omega arith) (omega arith) in
        let r1 = r.1 in
        (last_more h k high (f m) (there m b) ∙ ap (last_or (last h) (f m)) q ∙ r.0 ∙ ap f (sym o), omega arith))

    pub last_moved : (m : ℕ) → m < n → last h (f m) ≡ f (last g m)
    last_moved m l = (last_to_lem (suc m) m (omega arith) l).0

    pub last_low : (m : ℕ) → m < n → last g m ≤ m
    last_low m l = (last_to_lem (suc m) m (omega arith) l).1

    met_to_lem : Apart f n → (d m t : ℕ) → m < d → m < n → t < n → met h (f m) (f t) ≡ met g m t
    unfolding met_or
    met_to_lem apart zero m t a b c = absurd (omega arith)
    met_to_lem apart (suc d) m t a b c =
        let e = eqb_moved f n apart m t b c in
        let x = met_more h k high (f m) (f t) (there m b) in
        let y = met_more g n low m t b in
        by_number (g m)
        (λ z.
        let q : h (f m) ≡ 0 = step m b ∙ ap (or_none f) z in
        x ∙ ap₂ (λ i j. i || met_or (λ w. met h w (f t)) j) e q ∙ ap (λ j. eqb m t || met_or (λ w. met g w t) j) (sym z) ∙ sym y)
        (λ p z.
        let l = low m p b z in
        let q : h (f m) ≡ suc (f p) = step m b ∙ ap (or_none f) z in
        let r = met_to_lem apart d p t (omega arith) (omega arith) c in
        x ∙ ap₂ (λ i j. i || met_or (λ w. met h w (f t)) j) e q ∙ ap (λ j. eqb m t || j) r ∙ ap (λ j. eqb m t || met_or (λ w. met g w t) j) (sym z)
        ∙ sym y)

    pub met_moved : Apart f n → (m t : ℕ) → m < n → t < n → met h (f m) (f t) ≡ met g m t
    met_moved apart m t l r = met_to_lem apart (suc m) m t (omega arith) l r

or_moved : (f : ℕ → ℕ) (p b : ℕ) → or_else (or_none f p) (or_none f b) ≡ or_none f (or_else p b)
unfolding or_else
or_moved f zero b = refl
or_moved f (suc p) b = refl

unless_moved : (f : ℕ → ℕ) (t : Bool) (b : ℕ) → unless t (or_none f b) ≡ or_none f (unless t b)
unfolding unless
unless_moved f true b = refl
unless_moved f false b = refl

module _ (e : Numbers) (s u : Snapshot) (em : Embeds e s u) (v : Valid s) (w : Valid u) where
  abbrev Known : ℕ → Type 0
  Known m = m < length s.modules

  module _ (m : ℕ) (l : Known m) where
    pub map_moved : map_no u (e.modules m) ≡ e.maps (map_no s m)
    map_moved = ap (λ (x : Module). x.map) (em.modules m l)

    pub parent_moved : parent_of u (e.modules m) ≡ or_none e.modules (parent_of s m)
    parent_moved = ap (λ (x : Module). x.parent) (em.modules m l)

    pub map_same : map_of u (map_no u (e.modules m)) ≡ map_to e (map_of s (map_no s m))
    map_same = ap (map_of u) map_moved ∙ em.maps (map_no s m) (map_known s v.tree m l)

    pub crate_moved : crate_of u (e.modules m) ≡ e.crates (crate_of s m)
    crate_moved = ap (λ (x : Map). x.crate) map_same

    pub block_moved : block_of u (e.modules m) ≡ or_none e.modules (block_of s m)
    block_moved = ap (λ (x : Map). x.block) map_same

    pub crate_known : crate_of s m < length s.crates
    unfolding map_of
    crate_known = (each_at no_map (map_no s m) v.ranges.maps (map_known s v.tree m l)).crate

    pub containing_moved : containing u (e.modules m) ≡ or_none e.modules (containing s m)
    unfolding containing
    containing_moved = ap₂ or_else parent_moved block_moved ∙ or_moved e.modules (parent_of s m) (block_of s m)

    pub climb_step_moved : (k : ℕ) → k < length s.maps → climb_step u (e.maps k) (e.modules m) ≡ or_none e.modules (climb_step s k m)
    unfolding climb_step
    climb_step_moved k h =
        ap₂ unless (ap (λ i. eqb i (e.maps k)) map_moved ∙ eqb_moved e.maps (length s.maps) em.maps_apart (map_no s m) k
        (map_known s v.tree m l) h) block_moved
        ∙ unless_moved e.modules (eqb (map_no s m) k) (block_of s m)

  -- the crates of two modules
  pub crates_compared : (m k : ℕ) → Known m → Known k → eqb (crate_of u (e.modules m)) (crate_of u (e.modules k)) ≡ eqb (crate_of s m) (crate_of s k)
  crates_compared m k l h =
      ap₂ eqb (crate_moved m l) (crate_moved k h) ∙ eqb_moved e.crates (length s.crates) em.crates_apart (crate_of s m)
      (crate_of s k) (crate_known m l) (crate_known k h)

  pub ancestors_moved : (m : ℕ) → Known m → ancestor_maps u (e.modules m) ≡ map e.modules (ancestor_maps s m)
  unfolding ancestor_maps
  ancestors_moved m l = ap (λ y. e.modules m ∷ y)
      (steps_moved e.modules (block_of s) (block_of u) (length s.modules) (length u.modules) (block_falls s v.tree)
      (block_falls u w.tree) em.module_there
      block_moved m l)

  pub containers_moved : (m : ℕ) → Known m → containers u (e.modules m) ≡ map e.modules (containers s m)
  unfolding containers
  containers_moved m l =
      steps_moved e.modules (containing s) (containing u) (length s.modules) (length u.modules) (containing_falls s v.tree)
      (containing_falls u w.tree)
      em.module_there containing_moved m l

  pub climb_moved : (m : ℕ) → Known m → (k : ℕ) → k < length s.maps → (climb u (e.maps k) (e.modules m) ≡ e.modules (climb s k m))
      × (climb s k m ≤ m)
  unfolding climb
  climb_moved m l k h =
      let low = climb_falls s v.tree k in
      let high = climb_falls u w.tree (e.maps k) in
      let step : (i : ℕ) → i < length s.modules → climb_step u (e.maps k) (e.modules i) ≡ or_none e.modules (climb_step s k i) =
      λ i j. climb_step_moved i j k h in (
        last_moved e.modules (climb_step s k) (climb_step u (e.maps k)) (length s.modules) (length u.modules) low high
            em.module_there step m l,
        last_low e.modules (climb_step s k) (climb_step u (e.maps k)) (length s.modules) (length u.modules) low high
            em.module_there step m l,
      )

  pub in_module_moved : (m t : ℕ) → Known m → Known t → in_module u (e.modules m) (e.modules t) ≡ in_module s m t
  unfolding in_module
  in_module_moved m t l k =
      let c = climb_moved t k (map_no s m) (map_known s v.tree m l) in
      let c1 = c.1 in
      let at : climb u (map_no u (e.modules m)) (e.modules t) ≡ e.modules (climb s (map_no s m) t) = ap (λ i. climb u i (e.modules t))
      (map_moved m l) ∙ c.0 in
      let a = eqb_moved e.modules (length s.modules) em.modules_apart m t l k in
      let b = crates_compared m t l k in
      let d = ap (met (containing u) (e.modules m)) at
      ∙ met_moved e.modules (containing s) (containing u) (length s.modules) (length u.modules) (containing_falls s v.tree)
      (containing_falls u w.tree)
      em.module_there containing_moved em.modules_apart m (climb s (map_no s m) t) l (omega arith) in
      ap₂ (λ i j. i || j) a (ap₂ (λ i j. i && j) b d)

  visible_moved : (x n m : ℕ) → Known m → (x ≡ 1 → n < length s.crates) → (2 ≤ x → Known n)
      → is_visible_from u x (visible_to e x n) (e.modules m) ≡ is_visible_from s x n m
  unfolding is_visible_from
  visible_moved zero n m l c i = refl
  visible_moved (suc zero) n m l c i =
      ap (λ j. eqb j (e.crates n)) (crate_moved m l) ∙ eqb_moved e.crates (length s.crates) em.crates_apart (crate_of s m) n
      (crate_known m l) (c refl)
  visible_moved (suc (suc x)) n m l c i =
      let q : visible_to e (suc (suc x)) n ≡ e.modules n = rw (
        visible_to,
        ne_eqb (suc (suc x)) 0 (λ z. omega arith),
        ne_eqb
            (suc (suc x)) 1 (λ z. omega arith),
      ) in
      ap (in_module u (e.modules m)) q ∙ in_module_moved m n l (i (omega arith))

  -- what a viewer sees, it sees there
  pub sees_moved : (x : Scope) (m : ℕ) → Known m → ScopeFits (counts_of s) x → sees u (e.modules m) (scope_to e x) ≡ sees s m x
  sees_moved x m l f = visible_moved x.visibility x.number m l f.crate f.inside
