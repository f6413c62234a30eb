-- The maps and modules of an accepted snapshot are a tree, and a variant's parent is no variant.
use mathlib.Core.Path.{◌≡◌, refl, ap, sym, ◌∙◌}
use Prim.Native.Nat.{ℕ, suc, ◌+◌, ◌-◌, ◌≤◌, ◌<◌}
use native.Mathlib.Omega.{arith}
use mathlib.Core.List.{List, [], ◌∷◌, ◌++◌}
use mathlib.Core.Bool.{Bool, true, false, ◌&&◌, ◌||◌, not, true≢false}
use lib.Dec.{eqb, ltb}
use lib.ListN.{length, get_or}
use borrow.Author.Tests.{eqb-true, eq-eqb, ne_eqb, ltb-true, leb-true}
use Rattle.snapshot.specs.Records.{Snapshot, Map, Module, Definition}
use Rattle.snapshot.specs.Lists.{any}
use Rattle.check_rules.specs.Tests.{is_in, counts_of, no_map, no_module, no_definition, map_defined, map_placed, module_defined, module_placed}
use Rattle.check_rules.specs.Tests.{definition_defined, definition_placed}
use Rattle.check_rules.specs.Verdict.{accept, verdict}
use Rattle.accept.specs.Valid.{map_in, parent_in, crate_in, definition_in, Tree, Enums}
use Rattle.accept.proofs.Accepted.{Keeps, keeps_of, verdict_keeps}
use Rattle.accept.proofs.Bools.{and_left, and_right, unless_right, or_right, any_none, length_snoc, get_or_old, get_or_new, old_or_new}

module _ (s : Snapshot) (y : Definition) (defined : definition_defined (counts_of s) y ≡ true) (placed : definition_placed s y ≡ true) where
  new_parent : y.kind ≡ 2 → (y.first < length s.definitions) × ((definition_in s.definitions y.first).kind ≡ 4)
  new_parent e =
      let k = eq-eqb y.kind 2 e in
      let a = unless_right (eqb y.kind 2) _ (and_left _ _ (and_left _ _ defined)) k in (
        ltb-true y.first (length s.definitions) (and_left _ _ a),
        eqb-true _ 4 (unless_right (eqb y.kind 2) _ placed k),
      )

  old_definition : (d : ℕ) → d < length s.definitions → definition_in (s.definitions ++ (y ∷ [])) d ≡ definition_in s.definitions d
  old_definition d h = get_or_old s.definitions y no_definition d h

  enums_kept : Enums s.definitions → Enums (s.definitions ++ (y ∷ []))
  enums_kept h d l k = old_or_new s.definitions y d l
      (λ o.
      let e = old_definition d o in
      let a = h d o (ap (λ (z : Definition). z.kind) (sym e) ∙ k) in
      let b = old_definition (definition_in s.definitions d).first (omega (arith, a.0)) in
      rw e (a.0, ap (λ (z : Definition). z.kind) b ∙ a.1))
      (λ n.
      let e = get_or_new s.definitions y no_definition d n in
      let a = new_parent (ap (λ (z : Definition). z.kind) (sym e) ∙ k) in
      let b = old_definition y.first a.0 in
      rw e (omega (arith, a.0), ap (λ (z : Definition). z.kind) b ∙ a.1))

-- no module of that map
none_in : (k : ℕ) (xs : List Module) (j : ℕ) → any (is_in k) xs ≡ false → j < length xs → map_in xs j ≡ k → ⊥
none_in k xs j e h q = true≢false (sym (eq-eqb (map_in xs j) k q) ∙ any_none (is_in k) xs no_module j e h)

module _ (s : Snapshot) (h : Tree s.maps s.modules) where
  module _ (y : Map) (defined : map_defined (counts_of s) y ≡ true) (placed : map_placed s y ≡ true) where
    old_map : (k : ℕ) → k < length s.maps → get_or (s.maps ++ (y ∷ [])) k no_map ≡ get_or s.maps k no_map
    old_map k o = get_or_old s.maps y no_map k o

    new_map : (k : ℕ) → k ≡ length s.maps → get_or (s.maps ++ (y ∷ [])) k no_map ≡ y
    new_map k q = get_or_new s.maps y no_map k q

    -- the block of the new map
    new_block : (b : ℕ) → y.block ≡ suc b
        → (b < length s.modules) × (crate_in s.maps (map_in s.modules b) ≡ y.crate)
    new_block b e =
        let le = leb-true y.block (length s.modules) (and_right (ltb y.crate (length s.crates)) _ defined) in
        let one : y.block - 1 ≡ b = omega arith in (
          omega arith,
          ap (λ (m : ℕ). crate_in s.maps (map_in s.modules m)) (sym one)
              ∙ eqb-true _ y.crate (or_right (eqb y.block 0) _ placed (ne_eqb y.block 0 (λ k. omega arith))),
        )

    map_added : Tree (s.maps ++ (y ∷ [])) s.modules
    map_added =
        let n = length_snoc s.maps y in
        record {
          known = λ m l. omega (arith, h.known m l);
          rise = h.rise;
          parents = h.parents;
          roots = h.roots;
          blocks = λ k b l e. old_or_new s.maps y k l
              (λ o.
              let f = h.blocks k b o (sym (ap (λ (z : Map). z.block) (old_map k o)) ∙ e) in
              let c = old_map (map_in s.modules b) (h.known b f.0) in
              (f.0, f.1, ap (λ (z : Map). z.crate) c ∙ f.2 ∙ sym (ap (λ (z : Map). z.crate) (old_map k o))))
              (λ q.
              let f = new_block b (sym (ap (λ (z : Map). z.block) (new_map k q)) ∙ e) in
              let l = h.known b f.0 in
              let c = old_map (map_in s.modules b) l in
              (f.0, omega arith, ap (λ (z : Map). z.crate) c ∙ f.1 ∙ sym (ap (λ (z : Map). z.crate) (new_map k q))));
        }

  module _ (y : Module) (defined : module_defined (counts_of s) y ≡ true) (placed : module_placed s y ≡ true) where
    abbrev first_test : Bool
    first_test = eqb (y.map + 1) (length s.maps)

    abbrev has_modules : Bool
    has_modules = any (is_in y.map) s.modules

    abbrev root_test : Bool
    root_test = not has_modules || not (eqb y.parent 0)

    abbrev last_test : Bool
    last_test = eqb y.parent 0 || eqb (map_in s.modules (y.parent - 1)) y.map

    placed_but_last : first_test && (has_modules || eqb y.parent 0) && root_test ≡ true
    placed_but_last = and_left (first_test && (has_modules || eqb y.parent 0) && root_test) last_test placed

    in_latest : y.map + 1 ≡ length s.maps
    in_latest =
        eqb-true (y.map + 1) (length s.maps)
        (and_left first_test (has_modules || eqb y.parent 0)
        (and_left (first_test && (has_modules || eqb y.parent 0)) root_test placed_but_last))

    parent_known : y.parent ≤ length s.modules
    parent_known = leb-true y.parent (length s.modules) (and_right (ltb y.map (length s.maps)) _ defined)

    same_map : (p : ℕ) → y.parent ≡ suc p → map_in s.modules p ≡ y.map
    same_map p z =
        let one : y.parent - 1 ≡ p = omega arith in
        ap (map_in s.modules) (sym one)
        ∙ eqb-true (map_in s.modules (y.parent - 1)) y.map
        (or_right (eqb y.parent 0) (eqb (map_in s.modules (y.parent - 1)) y.map)
        (and_right (first_test && (has_modules || eqb y.parent 0) && root_test) last_test placed)
        (ne_eqb y.parent 0 (λ k. omega arith)))

    not_both : (a b : Bool) → not a || not b ≡ true → b ≡ true → a ≡ false
    not_both true true e q = sym e
    not_both false b e q = refl
    not_both true false e q = sym q

    first_of_map : (j : ℕ) → y.parent ≡ 0 → j < length s.modules → map_in s.modules j ≡ y.map → ⊥
    first_of_map j z l q =
        none_in y.map s.modules j
        (not_both has_modules (eqb y.parent 0)
        (and_right (first_test && (has_modules || eqb y.parent 0)) root_test placed_but_last) (eq-eqb y.parent 0 z)) l q

    old_home : (m : ℕ) → m < length s.modules → map_in (s.modules ++ (y ∷ [])) m ≡ map_in s.modules m
    old_home m o = ap (λ (z : Module). z.map) (get_or_old s.modules y no_module m o)

    old_parent : (m : ℕ) → m < length s.modules → parent_in (s.modules ++ (y ∷ [])) m ≡ parent_in s.modules m
    old_parent m o = ap (λ (z : Module). z.parent) (get_or_old s.modules y no_module m o)

    new_home : (m : ℕ) → m ≡ length s.modules → map_in (s.modules ++ (y ∷ [])) m ≡ y.map
    new_home m q = ap (λ (z : Module). z.map) (get_or_new s.modules y no_module m q)

    new_parent_is : (m : ℕ) → m ≡ length s.modules → parent_in (s.modules ++ (y ∷ [])) m ≡ y.parent
    new_parent_is m q = ap (λ (z : Module). z.parent) (get_or_new s.modules y no_module m q)

    module_added : Tree s.maps (s.modules ++ (y ∷ []))
    module_added =
        let n = length_snoc s.modules y in
        let le = parent_known in
        let latest = in_latest in
        record {
          known = λ m l. old_or_new s.modules y m l
              (λ o. rw (old_home m o) (h.known m o)) (λ q. rw (new_home m q) (omega arith));
          rise = λ i j l k. old_or_new s.modules y j k
              (λ o. let oi : i < length s.modules = omega arith in rw (old_home i oi, old_home j o) (h.rise i j l o))
              (λ q. rw (new_home j q) (old_or_new s.modules y i (omega arith)
              (λ o. rw (old_home i o) (omega (arith, h.known i o))) (λ a. rw (new_home i a) (omega arith))));
          parents = λ m p l e. old_or_new s.modules y m l
              (λ o.
              let f = h.parents m p o (sym (old_parent m o) ∙ e) in
              let op : p < length s.modules = omega (arith, f.0) in
              (f.0, old_home p op ∙ f.1 ∙ sym (old_home m o)))
              (λ q.
              let z : y.parent ≡ suc p = sym (new_parent_is m q) ∙ e in
              let op : p < length s.modules = omega arith in
              (omega arith, old_home p op ∙ same_map p z ∙ sym (new_home m q)));
          roots = λ m j l z lt same. old_or_new s.modules y m l
              (λ o.
              let oj : j < length s.modules = omega arith in
              h.roots m j o (sym (old_parent m o) ∙ z) lt (sym (old_home j oj) ∙ same ∙ old_home m o))
              (λ q.
              let oj : j < length s.modules = omega arith in
              first_of_map j (sym (new_parent_is m q) ∙ z) oj (sym (old_home j oj) ∙ same ∙ new_home m q));
          blocks = λ k b l e.
              let f = h.blocks k b l e in
              (omega (arith, f.0), rw (old_home b f.0) f.1, rw (old_home b f.0) f.2);
        }

abbrev HasTree : Snapshot → Type 0
HasTree s = Tree s.maps s.modules

abbrev HasEnums : Snapshot → Type 0
HasEnums s = Enums s.definitions

tree_kept : {W : List ℕ} → Keeps W HasTree
tree_kept =
    keeps_of (λ ms xs ds. Tree ms xs) (λ s y p h. map_added s h y p.known p.right)
    (λ s y p h. module_added s h y p.known p.right) (λ s y p h. h)

enums_are_kept : {W : List ℕ} → Keeps W HasEnums
enums_are_kept =
    keeps_of (λ ms xs ds. Enums ds) (λ s y p h. h) (λ s y p h. h) (λ s y p h. enums_kept s y p.known p.right h)

module _ (W : List ℕ) (s : Snapshot) (e : verdict W ≡ accept s) where
  pub accepted_tree : Tree s.maps s.modules
  accepted_tree =
      (verdict_keeps W HasTree tree_kept
      (record {
        known = λ m l. absurd (omega arith);
        rise = λ i j l k. absurd (omega arith);
        parents = λ m p l e. absurd (omega arith);
        roots = λ m j l z lt same. omega arith;
        blocks = λ k b l e. absurd (omega arith);
      })
      s e).kept

  pub accepted_enums : Enums s.definitions
  accepted_enums = (verdict_keeps W HasEnums enums_are_kept (λ d l k. absurd (omega arith)) s e).kept
