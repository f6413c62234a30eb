-- A valid snapshot, written out: the check takes its records, kind after kind.
use Prim.Native.Nat.{ℕ, zero, suc, ◌+◌, ◌-◌, ◌≤◌, ◌<◌}
use mathlib.Core.Path.{◌≡◌, sym, ◌∙◌, ap, ap₂, subst}
use mathlib.Core.List.{List, [], ◌∷◌, ◌++◌, append_assoc, append-nil}
use mathlib.Core.Bool.{true, false}
use native.Mathlib.Omega.{arith}
use native.Mathlib.Nat.{add-zero}
use borrow.Author.Tests.{le-leb, lt-ltb, eq-eqb, ne_eqb, eqb-true, eqb-false, ltb-true, ltb-false, leb-true, leb-false}
use lib.Dec.{eqb, leb, ltb}
use lib.ListN.{length, get_or, take, length-append}
use lib.Seq.{get_or-take, take-suc, take_all, length-take-le}
use Rattle.snapshot.specs.Lists.{any}
use Rattle.snapshot.specs.Limits.{crate_limit, module_limit, name_limit}
use Rattle.snapshot.specs.Words.{words_of}
use Rattle.snapshot.specs.Records.{Name, Crate, Dependency, Map, Module, Child, Prelude, Definition, Scope, Import, Extern, Member, Snapshot}
use Rattle.check_rules.specs.Tests.{counts_of, no_name, no_map, no_module, padded, is_builtin, is_edition, same_name, is_own, is_in, map_defined}
use Rattle.check_rules.specs.Tests.{map_repeated}
use Rattle.check_rules.specs.Tests.{map_placed, module_defined, module_placed, same_child, same_prelude}
use Rattle.check_rules.specs.Steps.{add_map, add_module}
use Rattle.accept.specs.Valid.{Each, none, more, Valid, map_in, parent_in, block_in, crate_in}
use Rattle.accept.proofs.Accepted.{by_test}
use Rattle.accept.proofs.Bools.{each_at}
use Rattle.hir_def.proofs.Laws.{by_number}
use Rattle.edit_rules.specs.Written.{name_words, crate_words, dependency_words, map_words, module_words, child_words, prelude_words, each_words}
use Rattle.edit_rules.specs.Written.{tree_words}
use Rattle.edit_rules.proofs.scope_edits.Written.{tree_map, tree_module}
use Rattle.join_rules.proofs.Lists.{any_has, before_length, before_any, before_apart}
use Rattle.join_rules.proofs.Runs.{At, at_left, at_right, Goes, goes_none, goes_then, each_goes}
use Rattle.join_rules.proofs.Taken.{name_goes, crate_goes, dependency_goes, map_goes, module_goes, child_goes, prelude_goes}

-- What an accepted snapshot has beside what a reader needs: its texts are padded and of their size, a second argument is 0 but for a
-- variant, and a builtin has a builtin's name.

pub record NameWhole (x : Name) : Type 0 where
  pub rest : padded x.bytes x.text ≡ true
  pub size : length x.text ≡ words_of x.bytes

pub record DefinitionWhole (names : List Name) (x : Definition) : Type 0 where
  pub second : (x.kind ≡ 2 → ⊥) → x.second ≡ 0
  pub builtin : x.kind ≡ 3 → is_builtin (get_or names x.first no_name) ≡ true

pub record Whole (s : Snapshot) : Type 0 where
  pub names : Each NameWhole s.names
  pub definitions : Each (DefinitionWhole s.names) s.definitions

abbrev pub lists : List Name → List Crate → List Dependency → List Map → List Module → List Child → List Prelude → List Definition → List Scope
    → List Import → List Extern → List Member → Snapshot
lists a b c d e f g h i j k l =
    record {
      names = a;
      crates = b;
      dependencies = c;
      maps = d;
      modules = e;
      children = f;
      preludes = g;
      definitions = h;
      scopes = i;
      imports = j;
      externs = k;
      members = l;
    }

edition_small : (e : ℕ) → is_edition e ≡ true → e < 268435456
edition_small e h =
    by_test (eqb e 2015) (λ a. let q = eqb-true e 2015 a in omega arith) (λ a.
    by_test (eqb e 2018) (λ b. let q = eqb-true e 2018 b in omega arith) (λ b.
    by_test (eqb e 2021) (λ c. let q = eqb-true e 2021 c in omega arith) (λ c.
    let d : eqb e 2024 ≡ true = rw (a, b, c) at h in
    let q = eqb-true e 2024 d in
    omega arith)))

each_of : {A : Type 0} {P : A → Type 0} (d : A) (zs : List A) → ((j : ℕ) → j < length zs → P (get_or zs j d)) → Each P zs
each_of d [] h = none
each_of d (z ∷ zs) h = more (h 0 (omega arith)) (each_of d zs (λ j l. h (suc j) (omega arith)))

abbrev no_crate : Crate
no_crate = record { origin = 0; no_std = 0; edition = 0 }

abbrev no_dependency : Dependency
no_dependency = record { owner = 0; crate = 0; sysroot = 0 }

module _ (X : List ℕ) (u : Snapshot) (v : Valid u) (w : Whole u) where
  pub names_go : At X 0 (each_words name_words u.names)
      → Goes X 0 1 (lists [] [] [] [] [] [] [] [] [] [] [] []) (0 + length (each_words name_words u.names)) 1
      (lists u.names [] [] [] [] [] [] [] [] [] [] [])
  names_go at = each_goes name_words no_name 1 0 (λ zs. lists zs [] [] [] [] [] [] [] [] [] [] []) u.names at
      (λ i p l e a.
      let x = get_or u.names i no_name in
      let f = each_at no_name i v.ranges.names l in
      let g = each_at no_name i w.names l in
      let n = before_length no_name u.names i l in
      let m = v.limits.names in
      name_goes (lists (take i u.names) [] [] [] [] [] [] [] [] [] [] []) x a f.bytes g.rest g.size
      (rw (le-leb 1 x.bytes f.some, le-leb x.bytes 255 f.bytes, g.rest))
      (before_apart no_name u.names i l same_name v.once.names)
      (lt-ltb (length (take i u.names)) name_limit (omega arith)))

  pub crates_go : (base : ℕ) → At X base (each_words crate_words u.crates)
      → Goes X base 2 (lists u.names [] [] [] [] [] [] [] [] [] [] []) (base + length (each_words crate_words u.crates)) 2
      (lists u.names u.crates [] [] [] [] [] [] [] [] [] [])
  crates_go base at = each_goes crate_words no_crate 2 base (λ zs. lists u.names zs [] [] [] [] [] [] [] [] [] []) u.crates at
      (λ i p l e a.
      let x = get_or u.crates i no_crate in
      let f = each_at no_crate i v.ranges.crates l in
      let n = before_length no_crate u.crates i l in
      let m = v.limits.crates in
      crate_goes (lists u.names (take i u.crates) [] [] [] [] [] [] [] [] [] []) x a f.origin f.no_std
      (edition_small x.edition f.edition)
      (rw (le-leb x.origin 4 f.origin, le-leb x.no_std 1 f.no_std)) f.edition
      (lt-ltb (length (take i u.crates)) crate_limit (omega arith)))

  pub dependencies_go : (base : ℕ) → At X base (each_words dependency_words u.dependencies)
      → Goes X base 3 (lists u.names u.crates [] [] [] [] [] [] [] [] [] []) (base + length (each_words dependency_words u.dependencies)) 3
      (lists u.names u.crates u.dependencies [] [] [] [] [] [] [] [] [])
  dependencies_go base at = each_goes dependency_words no_dependency 3 base (λ zs. lists u.names u.crates zs [] [] [] [] [] [] [] [] [])
      u.dependencies at
      (λ i p l e a.
      let x = get_or u.dependencies i no_dependency in
      let f = each_at no_dependency i v.ranges.dependencies l in
      let m = v.limits.crates in
      let o = f.owner in
      let c = f.crate in
      let y = f.sysroot in
      dependency_goes (lists u.names u.crates (take i u.dependencies) [] [] [] [] [] [] [] [] []) x a (omega arith)
      (omega arith) (omega arith)
      (le-leb x.sysroot 1 y) (rw (lt-ltb x.owner (length u.crates) o, lt-ltb x.crate (length u.crates) c)))

  -- maps and modules: some maps, and the modules of the earlier ones and some of the last

  abbrev ms : List Map
  ms = u.maps

  abbrev xs : List Module
  xs = u.modules

  abbrev tree : ℕ → ℕ → Snapshot
  tree k i = lists u.names u.crates u.dependencies (take k ms) (take i xs) [] [] [] [] [] [] []

  abbrev written : ℕ → ℕ → List ℕ
  written k i = tree_words 0 (take k ms) (take i xs)

  record Upto (k i : ℕ) : Type 0 where
    maps : k ≤ length ms
    modules : i ≤ length xs
    taken : (m : ℕ) → m < i → map_in xs m < k
    left : (m : ℕ) → i ≤ m → m < length xs → k ≤ map_in xs m + 1

  module_tested : (k i : ℕ) → Upto k i → i < length xs → map_in xs i + 1 ≡ k
      → (module_defined (counts_of (tree k i)) (get_or xs i no_module) ≡ true) × (module_placed (tree k i) (get_or xs i no_module) ≡ true)
  module_tested k i h l e =
      let x = get_or xs i no_module in
      let km : length (take k ms) ≡ k = length-take-le k ms h.maps in
      let ix : length (take i xs) ≡ i = length-take-le i xs h.modules in
      let a : ltb x.map (length (take k ms)) ≡ true = lt-ltb x.map (length (take k ms)) (omega arith) in
      let b : eqb (x.map + 1) (length (take k ms)) ≡ true = eq-eqb (x.map + 1) (length (take k ms)) (omega arith) in
      by_number x.parent
      (λ z.
      let c : any (is_in x.map) (take i xs) ≡ false =
      before_any no_module xs i l (is_in x.map) (λ j q. ne_eqb (map_in xs j) x.map (λ r. v.tree.roots i j l z q r)) in
      let y : eqb x.parent 0 ≡ true = eq-eqb x.parent 0 z in
      let f : leb x.parent (length (take i xs)) ≡ true = le-leb x.parent (length (take i xs)) (omega arith) in
      (rw (a, f), rw (b, c, y)))
      (λ p z.
      let q = v.tree.parents i p l z in
      let r = q.0 in
      let t : get_or (take i xs) p no_module ≡ get_or xs p no_module = get_or-take i xs p no_module r in
      let n : map_in (take i xs) p ≡ x.map = ap (λ (y : Module). y.map) t ∙ q.1 in
      let c : any (is_in x.map) (take i xs) ≡ true =
      any_has (is_in x.map) no_module (take i xs) p (omega arith) (eq-eqb (map_in (take i xs) p) x.map n) in
      let y : eqb x.parent 0 ≡ false = ne_eqb x.parent 0 (λ o. omega arith) in
      let d : x.parent - 1 ≡ p = omega arith in
      let g : eqb (map_in (take i xs) (x.parent - 1)) x.map ≡ true = eq-eqb (map_in (take i xs) (x.parent - 1)) x.map
      (ap (map_in (take i xs)) d ∙ n) in
      let f : leb x.parent (length (take i xs)) ≡ true = le-leb x.parent (length (take i xs)) (omega arith) in
      (rw (a, f), rw (b, c, y, g)))

  map_tested : (k i : ℕ) → Upto k i → k < length ms → ((m : ℕ) → i ≤ m → m < length xs → k ≤ map_in xs m)
      → (map_defined (counts_of (tree k i)) (get_or ms k no_map) ≡ true) × (map_repeated (tree k i) (get_or ms k no_map) ≡ false)
      × (map_placed (tree k i) (get_or ms k no_map) ≡ true) × (block_in ms k ≤ i)
  map_tested k i h l late =
      let x = get_or ms k no_map in
      let fits = each_at no_map k v.ranges.maps l in
      let ix : length (take i xs) ≡ i = length-take-le i xs h.modules in
      let a : ltb x.crate (length u.crates) ≡ true = lt-ltb x.crate (length u.crates) fits.crate in
      by_number x.block
      (λ z.
      let y : eqb x.block 0 ≡ true = eq-eqb x.block 0 z in
      let c : any (is_own x.crate) (take k ms) ≡ false =
      before_any no_map ms k l (is_own x.crate) (λ j q. unowned j q z) in
      let f : leb x.block (length (take i xs)) ≡ true = le-leb x.block (length (take i xs)) (omega arith) in
      (rw (a, f), rw (y, c), rw y, omega arith))
      (λ b z.
      let q = v.tree.blocks k b l z in
      let q1 = q.1 in
      let r : b < i = by_test (leb i b) (λ t. let o = late b (leb-true i b t) q.0 in absurd (omega arith)) (λ t. leb-false i b t) in
      let t : get_or (take i xs) b no_module ≡ get_or xs b no_module = get_or-take i xs b no_module r in
      let n : map_in (take i xs) b ≡ map_in xs b = ap (λ (y : Module). y.map) t in
      let m : get_or (take k ms) (map_in xs b) no_map ≡ get_or ms (map_in xs b) no_map = get_or-take k ms (map_in xs b) no_map q1 in
      let d : x.block - 1 ≡ b = omega arith in
      let o : crate_in (take k ms) (map_in (take i xs) (x.block - 1)) ≡ x.crate =
      ap (λ j. crate_in (take k ms) (map_in (take i xs) j)) d ∙ ap (crate_in (take k ms)) n ∙ ap (λ (y : Map). y.crate) m ∙ q.2 in
      let g = eq-eqb (crate_in (take k ms) (map_in (take i xs) (x.block - 1))) x.crate o in
      let y : eqb x.block 0 ≡ false = ne_eqb x.block 0 (λ s. omega arith) in
      let f : leb x.block (length (take i xs)) ≡ true = le-leb x.block (length (take i xs)) (omega arith) in
      (rw (a, f), rw y, rw (y, g), omega arith))
    where
      unowned : (j : ℕ) → j < k → block_in ms k ≡ 0 → is_own (crate_in ms k) (get_or ms j no_map) ≡ false
      unowned j q z =
          by_test (eqb (crate_in ms j) (crate_in ms k))
          (λ s. by_test (eqb (block_in ms j) 0)
          (λ t. absurd (v.owned.once j k q l (eqb-true (block_in ms j) 0 t) z (eqb-true (crate_in ms j) (crate_in ms k) s)))
          (λ t. rw (s, t)))
          (λ s. rw s)

  abbrev end : Snapshot
  end = lists u.names u.crates u.dependencies ms xs [] [] [] [] [] [] []

  -- no map is empty, so that each has a number up to that of its first module

  map_low : (m : ℕ) → m < length xs → map_in xs m ≤ m
  map_low zero l =
      by_number (map_in xs 0) (λ z. omega arith)
      (λ j z.
      let k = v.tree.known 0 l in
      let f = v.filled 0 (omega arith) in
      let f2 = f.2 in
      let r = v.tree.rise 0 f.0 (omega arith) f.1 in
      absurd (omega arith))
  map_low (suc m) l =
      let o = map_low m (omega arith) in
      by_test (leb (map_in xs (suc m)) (map_in xs m + 1)) (λ t. let q = leb-true (map_in xs (suc m)) (map_in xs m + 1) t in omega arith)
      (λ t.
      let q = leb-false (map_in xs (suc m)) (map_in xs m + 1) t in
      let k = v.tree.known (suc m) l in
      let f = v.filled (map_in xs m + 1) (omega arith) in
      let f2 = f.2 in
      by_test (leb f.0 m)
      (λ a. let r = v.tree.rise f.0 m (leb-true f.0 m a) (omega arith) in absurd (omega arith))
      (λ a. let b = leb-false f.0 m a in let r = v.tree.rise (suc m) f.0 b f.1 in absurd (omega arith)))

  pub map_small : (k : ℕ) → k < length ms → k < 512
  map_small k l =
      let f = v.filled k l in
      let f1 = f.1 in
      let f2 = f.2 in
      let o = map_low f.0 f1 in
      let m = v.limits.modules in
      omega arith

  taken_below : (k i : ℕ) → Upto k i → Each (λ x. x.map < 0 + length (take k ms)) (take i xs)
  taken_below k i h =
      let km : length (take k ms) ≡ k = length-take-le k ms h.maps in
      let ix : length (take i xs) ≡ i = length-take-le i xs h.modules in
      each_of no_module (take i xs)
      (λ j l. let q : j < i = omega arith in let t = h.taken j q in let e = ap (λ (y : Module). y.map) (get_or-take i xs j no_module q) in
      omega arith)

  module _ {base : ℕ} (at : At X base (tree_words 0 ms xs)) where
    record Rest (k i : ℕ) : Type 0 where
      rest : List ℕ
      whole : tree_words 0 ms xs ≡ written k i ++ rest
      goes : Goes X (base + length (written k i)) 5 (tree k i) (base + length (tree_words 0 ms xs)) 5 end

    -- a record more, of words w
    rest_more : (k i j o : ℕ) (ws : List ℕ) (t : Snapshot) (high : ℕ) → high ≤ 5 → written j o ≡ written k i ++ ws → t ≡ tree j o
        → (At X (base + length (written k i)) ws → Goes X (base + length (written k i)) 5 (tree k i) (base + length (written k i) + length ws) high t)
        → Rest j o → Rest k i
    rest_more k i j o ws t high low e same one r =
        let whole : tree_words 0 ms xs ≡ written k i ++ (ws ++ r.rest) = r.whole ∙ ap (λ l. l ++ r.rest) e
        ∙ append_assoc (written k i) ws r.rest in
        let here = at_left ws r.rest (at_right (written k i) (ws ++ r.rest) (subst (At X base) whole at)) in
        let l = length-append (written k i) ws in
        let c = ap length e in
        let to : base + length (written k i) + length ws ≡ base + length (written j o) = omega arith in
        let g = subst (λ s. Goes X (base + length (written k i)) 5 (tree k i) (base + length (written k i) + length ws) high s) same (one here) in
        let f = subst (λ q. Goes X (base + length (written k i)) 5 (tree k i) q high (tree j o)) to g in
        record { rest = ws ++ r.rest; whole = whole; goes = goes_then low f r.goes }

    take_module : (n k i : ℕ) (h : Upto k i) → k + i + suc n ≡ length ms + length xs
        → ((a b : ℕ) → a + b + n ≡ length ms + length xs → Upto a b → Rest a b)
        → i < length xs → map_in xs i + 1 ≡ k → Rest k i
    take_module n k i h e again l q =
        let km : length (take k ms) ≡ k = length-take-le k ms h.maps in
        let x = get_or xs i no_module in
        let t = module_tested k i h l q in
        let f = each_at no_module i v.ranges.modules l in
        let f1 = f.parent in
        let m = v.limits.modules in
        let ix : length (take i xs) ≡ i = length-take-le i xs h.modules in
        let hm = h.maps in
        let few = map_low i l in
        rest_more k i k (suc i) (module_words x) (add_module (tree k i) x) 5 (omega arith)
        (ap (tree_words 0 (take k ms)) (take-suc xs i no_module l)
        ∙ tree_module 0 (take k ms) (take i xs) x (omega arith) (omega arith))
        (ap (λ y. lists u.names u.crates u.dependencies (take k ms) y [] [] [] [] [] [] []) (sym (take-suc xs i no_module l)))
        (λ a. module_goes (tree k i) x a (omega arith) (omega arith) t.0 t.1 (lt-ltb (length (take i xs)) module_limit (omega arith)))
        (again k (suc i) (omega arith)
        (record {
          maps = h.maps;
          modules = omega arith;
          taken = λ j r. by_test (eqb j i) (λ s. let y = ap (map_in xs) (eqb-true j i s) in omega arith)
              (λ s. let y = eqb-false j i s in h.taken j (omega arith));
          left = λ j r s. h.left j (omega arith) s;
        }))

    take_map : (n k i : ℕ) (h : Upto k i) → k + i + suc n ≡ length ms + length xs → ((a b : ℕ) → a + b + n ≡ length ms + length xs
        → Upto a b → Rest a b)
        → k < length ms → ((m : ℕ) → i ≤ m → m < length xs → k ≤ map_in xs m) → Rest k i
    take_map n k i h e again l late =
        let x = get_or ms k no_map in
        let t = map_tested k i h l late in
        let t3 = t.3 in
        let f = each_at no_map k v.ranges.maps l in
        let f0 = f.crate in
        let f2 = f.no_std in
        let m = v.limits.modules in
        let c = v.limits.crates in
        let hm = h.modules in
        rest_more k i (suc k) i (map_words x) (add_map (tree k i) x) 4 (omega arith)
        (ap (λ y. tree_words 0 y (take i xs)) (take-suc ms k no_map l)
        ∙ tree_map 0 (take k ms) x (take i xs) (taken_below k i h))
        (ap (λ y. lists u.names u.crates u.dependencies y (take i xs) [] [] [] [] [] [] []) (sym (take-suc ms k no_map l)))
        (λ a. map_goes (tree k i) x a (omega arith) (omega arith) (omega arith) (le-leb x.no_std 1 f2) t.0 t.1 t.2)
        (again (suc k) i (omega arith)
        (record {
          maps = l;
          modules = h.modules;
          taken = λ j r. let y = h.taken j r in omega arith;
          left = λ j r s. let y = late j r s in omega arith;
        }))

    tree_goes : (n k i : ℕ) → k + i + n ≡ length ms + length xs → Upto k i → Rest k i
    tree_goes zero k i e h =
        let a = h.maps in
        let b = h.modules in
        let f : take k ms ≡ ms = take_all k ms (omega arith) in
        let g : take i xs ≡ xs = take_all i xs (omega arith) in
        let q : written k i ≡ tree_words 0 ms xs = ap₂ (tree_words 0) f g in
        record {
          rest = [];
          whole = sym q ∙ sym (append-nil (written k i));
          goes =
              subst (λ y. Goes X (base + length y) 5 (tree k i) (base + length (tree_words 0 ms xs)) 5 end) (sym q)
              (subst (λ y. Goes X (base + length (tree_words 0 ms xs)) 5 y (base + length (tree_words 0 ms xs)) 5 end)
              (sym (ap₂ (λ y z. lists u.names u.crates u.dependencies y z [] [] [] [] [] [] []) f g))
              (goes_none X (base + length (tree_words 0 ms xs)) 5 end));
        }
    tree_goes (suc n) k i e h =
        let again : (a b : ℕ) → a + b + n ≡ length ms + length xs → Upto a b → Rest a b = tree_goes n in
        by_test (ltb i (length xs))
        (λ a.
        let l = ltb-true i (length xs) a in
        by_test (eqb (map_in xs i + 1) k) (λ b. take_module n k i h e again l (eqb-true (map_in xs i + 1) k b))
        (λ b.
        let o = h.left i (omega arith) l in
        let c = eqb-false (map_in xs i + 1) k b in
        let d = v.tree.known i l in
        take_map n k i h e again (omega arith) (λ m j q. let r = v.tree.rise i m j q in omega arith)))
        (λ a.
        let l = ltb-false i (length xs) a in
        let b = h.modules in
        let c = h.maps in
        take_map n k i h e again (omega arith) (λ m j q. absurd (omega arith)))

    pub tree_go : Goes X base 5 (lists u.names u.crates u.dependencies [] [] [] [] [] [] [] [] []) (base + length (tree_words 0 ms xs)) 5 end
    unfolding tree_words
    tree_go =
        let r = tree_goes (length ms + length xs) 0 0 (omega arith)
        (record { maps = omega arith; modules = omega arith; taken = λ m l. absurd (omega arith); left = λ m l k. omega arith }) in
        subst (λ p. Goes X p 5 (lists u.names u.crates u.dependencies [] [] [] [] [] [] [] [] [])
        (base + length (tree_words 0 ms xs)) 5 end) (add-zero base) r.goes

  abbrev no_child : Child
  no_child = record { owner = 0; child = 0 }

  pub children_go : (base : ℕ) → At X base (each_words child_words u.children)
      → Goes X base 6 end (base + length (each_words child_words u.children)) 6 (lists u.names u.crates u.dependencies ms xs
      u.children [] [] [] [] [] [])
  children_go base at = each_goes child_words no_child 6 base (λ zs. lists u.names u.crates u.dependencies ms xs zs [] [] [] [] [] [])
      u.children at
      (λ i p l e a.
      let x = get_or u.children i no_child in
      let f = each_at no_child i v.ranges.children l in
      let g : parent_in xs x.child ≡ x.owner + 1 = each_at no_child i v.children l in
      let m = v.limits.modules in
      let o = f.owner in
      let c = f.child in
      let q = v.tree.parents x.child x.owner c (omega arith) in
      child_goes (lists u.names u.crates u.dependencies ms xs (take i u.children) [] [] [] [] [] []) x a (omega arith) (omega arith)
      (rw (lt-ltb x.owner (length xs) o, lt-ltb x.child (length xs) c))
      (before_apart no_child u.children i l same_child v.once.children)
      (rw (eq-eqb (map_in xs x.child) (map_in xs x.owner) (sym q.1), eq-eqb (parent_in xs x.child) (x.owner + 1) g)))

  abbrev no_prelude : Prelude
  no_prelude = record { map = 0; target = 0 }

  pub preludes_go : (base : ℕ) → At X base (each_words prelude_words u.preludes)
      → Goes X base 7 (lists u.names u.crates u.dependencies ms xs u.children [] [] [] [] [] [])
      (base + length (each_words prelude_words u.preludes)) 7
      (lists u.names u.crates u.dependencies ms xs u.children u.preludes [] [] [] [] [])
  preludes_go base at = each_goes prelude_words no_prelude 7 base (λ zs. lists u.names u.crates u.dependencies ms xs
      u.children zs [] [] [] [] []) u.preludes at
      (λ i p l e a.
      let x = get_or u.preludes i no_prelude in
      let f = each_at no_prelude i v.ranges.preludes l in
      let m = v.limits.modules in
      let o = f.map in
      let c = f.target in
      let k = map_small x.map o in
      prelude_goes (lists u.names u.crates u.dependencies ms xs u.children (take i u.preludes) [] [] [] [] []) x a
      (omega arith) (omega arith)
      (rw (lt-ltb x.map (length ms) o, lt-ltb x.target (length xs) c))
      (before_apart no_prelude u.preludes i l same_prelude v.once.preludes))
