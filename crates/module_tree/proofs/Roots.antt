-- Roots and own maps of a valid snapshot are there, and are what their names say.
use mathlib.Core.Path.{◌≡◌, ◌∙◌}
use Prim.Native.Nat.{ℕ, zero, suc, ◌+◌, ◌≤◌, ◌<◌}
use native.Mathlib.Omega.{arith}
use mathlib.Core.List.{List, [], ◌∷◌}
use mathlib.Core.Bool.{Bool, true, ◌&&◌}
use lib.Dec.{eqb}
use lib.ListN.{length, get_or}
use borrow.Author.Tests.{eqb-true, eq-eqb}
use Rattle.snapshot.specs.Records.{Snapshot, Map, Module}
use Rattle.check_rules.specs.Tests.{no_map, no_module}
use Rattle.accept.specs.Valid.{Valid}
use Rattle.accept.proofs.Accepted.{by_test}
use Rattle.accept.proofs.Bools.{and_two, each_at}
use Rattle.module_tree.specs.rules.Modules.{place_of}
use Rattle.module_tree.specs.rules.Modules.{module_of, map_of, map_no, crate_of, root_of, own_map, crate_root}
use Rattle.module_tree.proofs.Chains.{map_known}

-- the place of the first that passes, where one does
record First {A : Type 0} (p : A → Bool) (xs : List A) (d : A) (k m : ℕ) : Type 0 where
  at : ℕ
  same : place_of p k xs ≡ k + at
  early : at ≤ m
  passes : p (get_or xs at d) ≡ true

place_some : {A : Type 0} (p : A → Bool) (xs : List A) (d : A) (k m : ℕ) → m < length xs → p (get_or xs m d) ≡ true → First p xs d k m
unfolding place_of
place_some p [] d k m h t = absurd (omega arith)
place_some p (x ∷ xs) d k zero h t = record { at = 0; same = rw (t, place_of) (omega arith); early = omega arith; passes = t }
place_some p (x ∷ xs) d k (suc m) h t =
    by_test (p x) (λ y. record { at = 0; same = rw (y, place_of) (omega arith); early = omega arith; passes = y })
    (λ n.
    let f = place_some p xs d (k + 1) m (omega arith) t in
    record {
      at = suc f.at;
      same = rw (n, place_of) (f.same ∙ omega arith);
      early = omega (arith, f.early);
      passes = f.passes;
    })

pub place_known : {A : Type 0} (p : A → Bool) (xs : List A) (d : A) (m : ℕ) → m < length xs → p (get_or xs m d) ≡ true
    → (place_of p 0 xs ≤ m) × (p (get_or xs (place_of p 0 xs) d) ≡ true)
place_known p xs d m h t =
    let f = place_some p xs d 0 m h t in
    let e : place_of p 0 xs ≡ f.at = f.same ∙ omega arith in
    (rw e f.early, rw e f.passes)

module _ (s : Snapshot) (v : Valid s) where
  -- a map's root is one of its modules, and no later than any other
  pub root_before : (k m : ℕ) → m < length s.modules → map_no s m ≡ k → (root_of s k ≤ m) × (map_no s (root_of s k) ≡ k)
  unfolding module_of root_of
  root_before k m h e =
      let f = place_known (λ (x : Module). eqb x.map k) s.modules no_module m h (eq-eqb _ k e) in
      (f.0, eqb-true _ k f.1)

  pub root_known : (k : ℕ) → k < length s.maps → (root_of s k < length s.modules) × (map_no s (root_of s k) ≡ k)
  unfolding module_of
  root_known k h =
      let m = v.filled k h in
      let f = root_before k m.0 m.1 m.2 in
      (omega (arith, m.1, f.0), f.1)

  -- a crate's own map is of that crate, and of no block
  pub own_known : (c : ℕ) → c < length s.crates → (own_map s c < length s.maps) × ((map_of s (own_map s c)).crate ≡ c)
      × ((map_of s (own_map s c)).block ≡ 0)
  unfolding map_of own_map
  own_known c h =
      let o = v.owned.some c h in
      let f = place_known (λ (x : Map). eqb x.crate c && eqb x.block 0) s.maps no_map o.0 o.1
      (rw (eq-eqb _ c o.2, eq-eqb _ 0 o.3)) in
      let g = and_two _ _ f.1 in
      (omega (arith, o.1, f.0), eqb-true _ c g.0, eqb-true _ 0 g.1)

  -- a module's crate is there, and so is its crate's root
  pub crate_known : (m : ℕ) → m < length s.modules → crate_of s m < length s.crates
  unfolding map_of
  crate_known m h = (each_at no_map (map_no s m) v.ranges.maps (map_known s v.tree m h)).crate

  pub crate_root_known : (m : ℕ) → m < length s.modules → crate_root s m < length s.modules
  unfolding crate_root
  crate_root_known m h = (root_known (own_map s (crate_of s m)) (own_known (crate_of s m) (crate_known m h)).0).0
