-- Two valid snapshots joined are a valid snapshot, where no limit is passed.
use Prim.Native.Nat.{ℕ, zero, suc, ◌+◌, ◌-◌, ◌≤◌, ◌<◌}
use mathlib.Core.Path.{◌≡◌, refl, sym, ◌∙◌, ap, ap₂}
use mathlib.Core.List.{List, ◌++◌, map}
use mathlib.Core.Bool.{Bool, true, false, ◌&&◌, false≢true}
use native.Mathlib.Omega.{arith}
use borrow.Author.Tests.{eq-eqb, ne_eqb, eqb-true, eqb-false, ltb-true, ltb-false}
use lib.Dec.{eqb, ltb}
use lib.ListN.{length, get_or, take, length-append}
use Rattle.snapshot.specs.Records.{Map, Module, Child, Prelude, Definition, Scope, Import, Extern, Member, Snapshot}
use Rattle.check_rules.specs.Tests.{counts_of, no_name, no_map, no_module, no_definition, same_name, same_child, same_prelude, same_entry}
use Rattle.check_rules.specs.Tests.{same_extern}
use Rattle.check_rules.specs.Tests.{is_builtin}
use Rattle.check_rules.proofs.Names.{name_equal}
use Rattle.accept.specs.Valid.{Each, Valid, Ranges, Limits, Tree, Owned, Distinct, DefinedOnce, Enums, Under, MacroOnly, Belongs, NameFits, CrateFits}
use Rattle.accept.specs.Valid.{DependencyFits, MapFits, ModuleFits, ChildFits, PreludeFits, DefinitionFits, ScopeFits, ImportFits, ExternFits}
use Rattle.accept.specs.Valid.{MemberFits, map_in, parent_in, block_in, crate_in, definition_in}
use Rattle.accept.proofs.Accepted.{by_test}
use Rattle.accept.proofs.Bools.{and_three, each_at, each_map}
use Rattle.hir_def.specs.Finds.{select}
use Rattle.hir_def.proofs.Found.{each_select}
use Rattle.hir_def.proofs.Every.{each_append, each_mapped}
use Rattle.join_rules.specs.Joined.{is_new, merged, merged_number, name_number, same_builtin, definition_number, Numbers, second_numbers, or_none}
use Rattle.join_rules.specs.Joined.{dependency_to, map_to, module_to, child_to, prelude_to, definition_to, first_to, second_to, visible_to, scope_to}
use Rattle.join_rules.specs.Joined.{import_to, extern_to, member_to, together}
use Rattle.join_rules.proofs.Lists.{any_not}
use Rattle.join_rules.proofs.Merged.{both_length, both_low, both_high, by_both, kept_at, kept_less, From, from, from_less}
use Rattle.join_rules.proofs.Merged.{number_new, number_old, new_apart, merged_length, merged_low, merged_high, name_refl}
use Rattle.join_rules.proofs.Stages.{DefinitionWhole, Whole}
use Rattle.edit_rules.proofs.scope_edits.Lists.{each_two, each_both}

-- a number +1 that is none after it is moved was none, and another one was moved

none_moved : (f : ℕ → ℕ) (n : ℕ) → or_none f n ≡ 0 → n ≡ 0
none_moved f zero e = refl
none_moved f (suc n) e = absurd (omega arith)

some_moved : (f : ℕ → ℕ) (n p : ℕ) → or_none f n ≡ suc p → (m : ℕ) × (n ≡ suc m) × (p ≡ f m)
some_moved f zero p e = absurd (omega arith)
some_moved f (suc n) p e = (n, refl, omega arith)

moved_low : (f : ℕ → ℕ) (n m top : ℕ) → ((k : ℕ) → k < m → f k < top) → n ≤ m → or_none f n ≤ top
moved_low f zero m top h l = omega arith
moved_low f (suc n) m top h l = let k = h n (omega arith) in omega arith

apart_two : (a b : ℕ) → (a ≡ b → ⊥) → (c d : Bool) → eqb a b && c && d ≡ false
apart_two a b h c d = rw (ne_eqb a b h)

module _ (s t : Snapshot) (v : Valid s) (w : Valid t) (sw : Whole s) (tw : Whole t) where
  abbrev u : Snapshot
  u = together s t

  abbrev e : Numbers
  e = second_numbers s t

  abbrev cs : ℕ
  cs = length s.crates

  abbrev ks : ℕ
  ks = length s.maps

  abbrev os : ℕ
  os = length s.modules

  -- the names of the second

  pub name_counts : length u.names ≡ length s.names + length (select (is_new same_name s.names) t.names)
  unfolding together
  name_counts = merged_length same_name no_name s.names t.names

  -- a name has its text under its new number
  pub name_at_lem : (n : ℕ) → n < length t.names → (name_number s t n < length u.names)
      × (get_or u.names (name_number s t n) no_name ≡ get_or t.names n no_name)
  unfolding together name_number
  name_at_lem n l =
      let c = name_counts in
      let y = get_or t.names n no_name in
      by_test (is_new same_name s.names y)
      (λ a.
      let q = number_new same_name no_name s.names t.names n a in
      let k = kept_at (is_new same_name s.names) no_name t.names n l a in
      let k0 = k.0 in
      (omega arith, ap (λ j. get_or u.names j no_name) q ∙ merged_high same_name no_name s.names t.names _ ∙ k.1))
      (λ a.
      let q = number_old same_name no_name s.names t.names n a in
      let q0 = q.0 in
      let i = merged_number same_name no_name s.names t.names n in
      (omega arith, merged_low same_name no_name s.names t.names i q0 ∙ sym (name_equal y (get_or s.names i no_name) q.1)))

  -- two names of the second are not one
  pub name_apart : (m n : ℕ) → m < length t.names → n < length t.names → name_number s t m ≡ name_number s t n → m ≡ n
  name_apart m n l k q =
      let r : get_or t.names m no_name ≡ get_or t.names n no_name =
      sym (name_at_lem m l).1 ∙ ap (λ j. get_or u.names j no_name) q ∙ (name_at_lem n k).1 in
      let eq : same_name (get_or t.names m no_name) (get_or t.names n no_name) ≡ true = ap (λ y. same_name (get_or t.names m no_name) y) (sym r)
      ∙ name_refl (get_or t.names m no_name) in
      let eq2 : same_name (get_or t.names n no_name) (get_or t.names m no_name) ≡ true = ap (λ y. same_name y (get_or t.names m no_name)) (sym r)
      ∙ name_refl (get_or t.names m no_name) in
      by_test (eqb m n) (λ a. eqb-true m n a)
      (λ a.
      let ne = eqb-false m n a in
      by_test (ltb m n)
      (λ b. absurd (false≢true (sym (w.once.names m n (ltb-true m n b) k) ∙ eq2)))
      (λ b. let g = ltb-false m n b in absurd (false≢true (sym (w.once.names n m (omega arith) l) ∙ eq))))

  -- the definitions of the second

  abbrev pub is_other : Definition → Bool
  is_other = is_new (same_builtin s t) s.definitions

  abbrev others : List Definition
  others = select is_other t.definitions

  pub other_kind : (y : Definition) → (y.kind ≡ 3 → ⊥) → is_other y ≡ true
  other_kind y h =
      let a = any_not (same_builtin s t y) no_definition s.definitions (λ j l. rw (ne_eqb y.kind 3 h)) in
      rw a

  pub definition_counts : length u.definitions ≡ length s.definitions + length others
  unfolding together
  definition_counts = both_length (definition_to e) no_definition s.definitions others

  pub definition_low : (i : ℕ) → i < length s.definitions → definition_in u.definitions i ≡ definition_in s.definitions i
  unfolding together
  definition_low i l = both_low (definition_to e) no_definition s.definitions others i l

  -- one that is not merged
  pub definition_at_lem : (n : ℕ) → n < length t.definitions → is_other (definition_in t.definitions n) ≡ true
      → (definition_number s t n ≡ length s.definitions + length (select is_other (take n t.definitions)))
      × (definition_number s t n < length u.definitions)
      × (definition_in u.definitions (definition_number s t n) ≡ definition_to e (definition_in t.definitions n))
  unfolding together definition_number
  definition_at_lem n l a =
      let q = number_new (same_builtin s t) no_definition s.definitions t.definitions n a in
      let k = kept_at is_other no_definition t.definitions n l a in
      let k0 = k.0 in
      let c = definition_counts in (
        q,
        omega arith,
        ap (λ j. definition_in u.definitions j) q ∙ both_high (definition_to e) no_definition s.definitions others _ k0
            ∙ ap (definition_to e) k.1,
      )

  -- each has its kind
  definition_kind : (n : ℕ) → n < length t.definitions
      → (definition_number s t n < length u.definitions)
      × ((definition_in u.definitions (definition_number s t n)).kind ≡ (definition_in t.definitions n).kind)
  unfolding definition_number
  definition_kind n l =
      let y = definition_in t.definitions n in
      by_test (is_other y)
      (λ a. let r = definition_at_lem n l a in (r.1, ap (λ (x : Definition). x.kind) r.2))
      (λ a.
      let q = number_old (same_builtin s t) no_definition s.definitions t.definitions n a in
      let q0 = q.0 in
      let c = definition_counts in
      let i = merged_number (same_builtin s t) no_definition s.definitions t.definitions n in
      let x = definition_in s.definitions i in
      let k = and_three (eqb y.kind 3) (eqb x.kind 3) (eqb (name_number s t y.first) x.first) q.1 in
      (omega arith, ap (λ (z : Definition). z.kind) (definition_low i q0) ∙ eqb-true x.kind 3 k.1 ∙ sym (eqb-true y.kind 3 k.0)))

  -- where a definition that is added comes from
  abbrev Added : ℕ → Type 0
  Added j = From is_other no_definition t.definitions j

  added_less : (i j : ℕ) (a : Added i) (b : Added j) → i < j → a.number < b.number
  added_less i j a b h = from_less is_other no_definition t.definitions i j a b h

  definition_high : (j : ℕ) (r : Added j) → j < length others → definition_in u.definitions (length s.definitions + j)
      ≡ definition_to e (definition_in t.definitions r.number)
  unfolding together
  definition_high j r l = both_high (definition_to e) no_definition s.definitions others j l ∙ ap (definition_to e) r.same

  by_definition : {C : Type 0} (i : ℕ) → i < length u.definitions → (i < length s.definitions → C)
      → ((j : ℕ) → i ≡ length s.definitions + j → (r : Added j)
      → definition_in u.definitions i ≡ definition_to e (definition_in t.definitions r.number) → C) → C
  by_definition i l f g =
      let c = definition_counts in
      by_test (ltb i (length s.definitions)) (λ a. f (ltb-true i (length s.definitions) a))
      (λ a.
      let b = ltb-false i (length s.definitions) a in
      let j = i - length s.definitions in
      let q : i ≡ length s.definitions + j = omega arith in
      let r = from is_other no_definition t.definitions j (omega arith) in
      g j q r (ap (definition_in u.definitions) q ∙ definition_high j r (omega arith)))

  -- modules and maps

  pub module_counts : length u.modules ≡ os + length t.modules
  unfolding together
  module_counts = both_length (module_to e) no_module s.modules t.modules

  pub module_low : (i : ℕ) → i < os → get_or u.modules i no_module ≡ get_or s.modules i no_module
  unfolding together
  module_low i l = both_low (module_to e) no_module s.modules t.modules i l

  pub module_high : (j : ℕ) → j < length t.modules → get_or u.modules (os + j) no_module ≡ module_to e (get_or t.modules j no_module)
  unfolding together
  module_high j l = both_high (module_to e) no_module s.modules t.modules j l

  pub map_counts : length u.maps ≡ ks + length t.maps
  unfolding together
  map_counts = both_length (map_to e) no_map s.maps t.maps

  pub map_low : (i : ℕ) → i < ks → get_or u.maps i no_map ≡ get_or s.maps i no_map
  unfolding together
  map_low i l = both_low (map_to e) no_map s.maps t.maps i l

  pub map_high : (j : ℕ) → j < length t.maps → get_or u.maps (ks + j) no_map ≡ map_to e (get_or t.maps j no_map)
  unfolding together
  map_high j l = both_high (map_to e) no_map s.maps t.maps j l

  pub crate_counts : length u.crates ≡ cs + length t.crates
  unfolding together
  crate_counts = length-append s.crates t.crates

  -- a number of the one part or of the other
  by_number : {C : Type 0} (a b n i : ℕ) → n ≡ a + b → i < n → (i < a → C) → ((j : ℕ) → i ≡ a + j → j < b → C) → C
  by_number a b n i e l f g =
      by_test (ltb i a) (λ h. f (ltb-true i a h)) (λ h. let k = ltb-false i a h in g (i - a) (omega arith) (omega arith))

  by_module : {C : Type 0} (m : ℕ) → m < length u.modules → (m < os → C) → ((j : ℕ) → m ≡ os + j → j < length t.modules → C) → C
  by_module m l f g = by_number os (length t.modules) (length u.modules) m module_counts l f g

  by_map : {C : Type 0} (k : ℕ) → k < length u.maps → (k < ks → C) → ((j : ℕ) → k ≡ ks + j → j < length t.maps → C) → C
  by_map k l f g = by_number ks (length t.maps) (length u.maps) k map_counts l f g

  map_of_low : (m : ℕ) → m < os → map_in u.modules m ≡ map_in s.modules m
  map_of_low m l = ap (λ (x : Module). x.map) (module_low m l)

  map_of_high : (m j : ℕ) → m ≡ os + j → j < length t.modules → map_in u.modules m ≡ ks + map_in t.modules j
  map_of_high m j q l = ap (map_in u.modules) q ∙ ap (λ (x : Module). x.map) (module_high j l)

  parent_low : (m : ℕ) → m < os → parent_in u.modules m ≡ parent_in s.modules m
  parent_low m l = ap (λ (x : Module). x.parent) (module_low m l)

  parent_high : (m j : ℕ) → m ≡ os + j → j < length t.modules → parent_in u.modules m ≡ or_none e.modules (parent_in t.modules j)
  parent_high m j q l = ap (parent_in u.modules) q ∙ ap (λ (x : Module). x.parent) (module_high j l)

  crate_low : (k : ℕ) → k < ks → crate_in u.maps k ≡ crate_in s.maps k
  crate_low k l = ap (λ (x : Map). x.crate) (map_low k l)

  crate_high : (k j : ℕ) → k ≡ ks + j → j < length t.maps → crate_in u.maps k ≡ cs + crate_in t.maps j
  crate_high k j q l = ap (crate_in u.maps) q ∙ ap (λ (x : Map). x.crate) (map_high j l)

  block_low : (k : ℕ) → k < ks → block_in u.maps k ≡ block_in s.maps k
  block_low k l = ap (λ (x : Map). x.block) (map_low k l)

  block_high : (k j : ℕ) → k ≡ ks + j → j < length t.maps → block_in u.maps k ≡ or_none e.modules (block_in t.maps j)
  block_high k j q l = ap (block_in u.maps) q ∙ ap (λ (x : Map). x.block) (map_high j l)

  tree : Tree u.maps u.modules
  tree =
      record {
        known =
            λ m l. by_module m l
            (λ a. let q = map_of_low m a in let k = v.tree.known m a in let c = map_counts in omega arith)
            (λ j q a. let o = map_of_high m j q a in let k = w.tree.known j a in let c = map_counts in omega arith);
        rise =
            λ i j h l. by_module j l
            (λ a. let p = map_of_low i (omega arith) in let q = map_of_low j a in let r = v.tree.rise i j h a in omega arith)
            (λ j' q a.
            let o = map_of_high j j' q a in
            by_module i (omega arith)
            (λ b. let p = map_of_low i b in let k = v.tree.known i b in omega arith)
            (λ i' q' b. let p = map_of_high i i' q' b in let r = w.tree.rise i' j' (omega arith) a in omega arith));
        parents =
            λ m p l z. by_module m l
            (λ a.
            let r = v.tree.parents m p a (sym (parent_low m a) ∙ z) in
            let r0 = r.0 in
            (r0, map_of_low p (omega arith) ∙ r.1 ∙ sym (map_of_low m a)))
            (λ j q a.
            let b = some_moved e.modules (parent_in t.modules j) p (sym (parent_high m j q a) ∙ z) in
            let b2 = b.2 in
            let r = w.tree.parents j b.0 a b.1 in
            let r0 = r.0 in
            (omega arith, map_of_high p b.0 b2 (omega arith) ∙ ap (λ n. ks + n) r.1 ∙ sym (map_of_high m j q a)));
        roots =
            λ m j l z h q. by_module m l
            (λ a. v.tree.roots m j a (sym (parent_low m a) ∙ z) h (sym (map_of_low j (omega arith)) ∙ q ∙ map_of_low m a))
            (λ m' o a.
            let y = none_moved e.modules (parent_in t.modules m') (sym (parent_high m m' o a) ∙ z) in
            let hm = map_of_high m m' o a in
            by_module j (omega arith)
            (λ b. let p = map_of_low j b in let k = v.tree.known j b in absurd (omega arith))
            (λ j' o' b. let p = map_of_high j j' o' b in w.tree.roots m' j' a y (omega arith) (omega arith)));
        blocks =
            λ k b l z. by_map k l
            (λ a.
            let r = v.tree.blocks k b a (sym (block_low k a) ∙ z) in
            let r0 = r.0 in
            let r1 = r.1 in
            let c = module_counts in
            let p = map_of_low b r0 in
            (omega arith, omega arith, ap (crate_in u.maps) p ∙ crate_low (map_in s.modules b) (omega arith) ∙ r.2 ∙ sym (crate_low k a)))
            (λ j q a.
            let y = some_moved e.modules (block_in t.maps j) b (sym (block_high k j q a) ∙ z) in
            let y2 = y.2 in
            let r = w.tree.blocks j y.0 a y.1 in
            let r0 = r.0 in
            let r1 = r.1 in
            let c = module_counts in
            let p = map_of_high b y.0 y2 r0 in (
              omega arith,
              omega arith,
              crate_high (map_in u.modules b) (map_in t.modules y.0) p (omega arith)
                  ∙ ap (λ n. cs + n) r.2 ∙ sym (crate_high k j q a),
            ));
      }

  -- a definition that the second's numbers lead to

  first_variant : (y : Definition) → y.kind ≡ 2 → first_to e y ≡ definition_number s t y.first
  first_variant y k = rw (first_to, eq-eqb y.kind 2 k)

  second_variant : (y : Definition) → y.kind ≡ 2 → second_to e y ≡ name_number s t y.second
  second_variant y k = rw (second_to, eq-eqb y.kind 2 k)

  first_builtin : (y : Definition) → y.kind ≡ 3 → first_to e y ≡ name_number s t y.first
  first_builtin y k = rw (first_to, ne_eqb y.kind 2 (λ z. omega arith), eq-eqb y.kind 3 k)

  first_home : (y : Definition) → (y.kind ≡ 2 → ⊥) → (y.kind ≡ 3 → ⊥) → first_to e y ≡ os + y.first
  first_home y a b = rw (first_to, ne_eqb y.kind 2 a, ne_eqb y.kind 3 b)

  second_other : (y : Definition) → (y.kind ≡ 2 → ⊥) → second_to e y ≡ y.second
  second_other y a = rw (second_to, ne_eqb y.kind 2 a)

  enums : Enums u.definitions
  enums i l k =
      by_definition i l
      (λ a.
      let o = definition_low i a in
      let r = v.enums i a (ap (λ (x : Definition). x.kind) (sym o) ∙ k) in
      let r0 = r.0 in
      let f = ap (λ (x : Definition). x.first) o in (
        omega arith,
        ap (λ n. (definition_in u.definitions n).kind) f ∙ ap (λ (x : Definition). x.kind)
            (definition_low (definition_in s.definitions i).first (omega arith)) ∙ r.1,
      ))
      (λ j q r o.
      let y = definition_in t.definitions r.number in
      let kt : y.kind ≡ 2 = ap (λ (x : Definition). x.kind) (sym o) ∙ k in
      let p = w.enums r.number r.inside kt in
      let p0 = p.0 in
      let ri = r.inside in
      let rb = r.before in
      let in_t : y.first < length t.definitions = omega arith in
      let new = other_kind (definition_in t.definitions y.first) (λ z. let p1 = p.1 in omega arith) in
      let g = definition_at_lem y.first in_t new in
      let g0 = g.0 in
      let less = kept_less is_other no_definition t.definitions y.first r.number p0 in_t new in
      let f : (definition_in u.definitions i).first ≡ definition_number s t y.first = ap (λ (x : Definition). x.first) o ∙ first_variant y kt in
      (omega arith, ap (λ n. (definition_in u.definitions n).kind) f ∙ ap (λ (x : Definition). x.kind) g.2 ∙ p.1))

  -- macros, and members

  macro_low : (ns d : ℕ) → d < length s.definitions → MacroOnly s.definitions ns d → MacroOnly u.definitions ns d
  macro_low ns d l h q = ap (λ (x : Definition). x.kind) (definition_low d l) ∙ h q

  macro_high : (ns d : ℕ) → d < length t.definitions → MacroOnly t.definitions ns d → MacroOnly u.definitions ns (definition_number s t d)
  macro_high ns d l h q = (definition_kind d l).1 ∙ h q

  belongs_low : (x : Member) → MemberFits (counts_of s) x → Belongs s.definitions x → Belongs u.definitions x
  belongs_low x f b =
      let p = definition_low x.parent f.parent in
      let d = definition_low x.definition f.definition in
      record {
        parent = ap (λ (y : Definition). y.kind) p ∙ b.parent;
        variant =
            λ z. let r = b.variant z in
            (ap (λ (y : Definition). y.kind) d ∙ r.0, ap (λ (y : Definition). y.first) d ∙ r.1, ap (λ (y : Definition). y.second) d ∙ r.2);
        other = λ z. ap (λ (y : Definition). y.kind) d ∙ b.other z;
      }

  belongs_high : (x : Member) → MemberFits (counts_of t) x → Belongs t.definitions x → Belongs u.definitions (member_to e x)
  belongs_high x f b =
      record {
        parent = (definition_kind x.parent f.parent).1 ∙ b.parent;
        variant =
            λ z.
            let r = b.variant z in
            let r0 = r.0 in
            let y = definition_in t.definitions x.definition in
            let g = (definition_at_lem x.definition f.definition (other_kind y (λ k. omega arith))).2 in (
              ap (λ (y : Definition). y.kind) g ∙ r.0,
              ap (λ (y : Definition). y.first) g ∙ first_variant y r0 ∙ ap (definition_number s t) r.1,
              ap (λ (y : Definition). y.second) g ∙ second_variant y r0 ∙ ap (name_number s t) r.2,
            );
        other = λ z. (definition_kind x.definition f.definition).1 ∙ b.other z;
      }

  -- no map is empty, and each crate has one of its own

  filled : (k : ℕ) → k < length u.maps → (m : ℕ) × (m < length u.modules) × (map_in u.modules m ≡ k)
  filled k l =
      let c = module_counts in
      by_map k l
      (λ a. let f = v.filled k a in let f1 = f.1 in (f.0, omega arith, map_of_low f.0 f1 ∙ f.2))
      (λ j q a. let f = w.filled j a in let f1 = f.1 in (
        os + f.0,
        omega arith,
        map_of_high (os + f.0) f.0 refl f1
            ∙ ap (λ n. ks + n) f.2 ∙ sym q,
      ))

  owned : Owned (length u.crates) u.maps
  owned =
      let mc = map_counts in
      record {
        some =
            λ c l. by_number cs (length t.crates) (length u.crates) c crate_counts l
            (λ a. let f = v.owned.some c a in let f1 = f.1 in (f.0, omega arith, crate_low f.0 f1 ∙ f.2, block_low f.0 f1 ∙ f.3))
            (λ j q a.
            let f = w.owned.some j a in
            let f1 = f.1 in (
              ks + f.0,
              omega arith,
              crate_high (ks + f.0) f.0 refl f1 ∙ ap (λ n. cs + n) f.2 ∙ sym q,
              block_high (ks + f.0) f.0 refl f1 ∙ ap (or_none e.modules) f.3,
            ));
        once =
            λ i j h l a b q. by_map j l
            (λ lj. let li : i < ks = omega arith in
            v.owned.once i j h lj (sym (block_low i li) ∙ a) (sym (block_low j lj) ∙ b) (sym (crate_low i li) ∙ q ∙ crate_low j lj))
            (λ j' oj lj.
            let hj = crate_high j j' oj lj in
            by_map i (omega arith)
            (λ li. let k = (each_at no_map i v.ranges.maps li).crate in let g = crate_low i li in absurd (omega arith))
            (λ i' oi li.
            let hi = crate_high i i' oi li in
            w.owned.once i' j' (omega arith) lj (none_moved e.modules (block_in t.maps i') (sym (block_high i i' oi li) ∙ a))
            (none_moved e.modules (block_in t.maps j') (sym (block_high j j' oj lj) ∙ b)) (omega arith)));
      }

  -- definitions of modules and of builtins

  modules_once : DefinedOnce 1 u.definitions
  modules_once i j h l a b q =
      by_definition j l
      (λ lj.
      let oi = definition_low i (omega arith) in
      let oj = definition_low j lj in
      v.modules i j h lj (ap (λ (x : Definition). x.kind) (sym oi) ∙ a) (ap (λ (x : Definition). x.kind) (sym oj) ∙ b)
      (ap (λ (x : Definition). x.first) (sym oi) ∙ q ∙ ap (λ (x : Definition). x.first) oj))
      (λ j' ej rj oj.
      let yj = definition_in t.definitions rj.number in
      let kj : yj.kind ≡ 1 = ap (λ (x : Definition). x.kind) (sym oj) ∙ b in
      let fj : (definition_in u.definitions j).first ≡ os + yj.first = ap (λ (x : Definition). x.first) oj
      ∙ first_home yj (λ z. omega arith) (λ z. omega arith) in
      by_definition i (omega arith)
      (λ li.
      let oi = definition_low i li in
      let ki = ap (λ (x : Definition). x.kind) (sym oi) ∙ a in
      let g = (each_at no_definition i v.ranges.definitions li).home (λ z. omega arith) (λ z. omega arith) in
      let fi = ap (λ (x : Definition). x.first) oi in
      absurd (omega arith))
      (λ i' ei ri oi.
      let yi = definition_in t.definitions ri.number in
      let ki : yi.kind ≡ 1 = ap (λ (x : Definition). x.kind) (sym oi) ∙ a in
      let fi : (definition_in u.definitions i).first ≡ os + yi.first = ap (λ (x : Definition). x.first) oi
      ∙ first_home yi (λ z. omega arith) (λ z. omega arith) in
      w.modules ri.number rj.number (added_less i' j' ri rj (omega arith)) rj.inside ki kj (omega arith)))

  builtins_once : DefinedOnce 3 u.definitions
  builtins_once i j h l a b q =
      by_definition j l
      (λ lj.
      let oi = definition_low i (omega arith) in
      let oj = definition_low j lj in
      v.builtins i j h lj (ap (λ (x : Definition). x.kind) (sym oi) ∙ a) (ap (λ (x : Definition). x.kind) (sym oj) ∙ b)
      (ap (λ (x : Definition). x.first) (sym oi) ∙ q ∙ ap (λ (x : Definition). x.first) oj))
      (λ j' ej rj oj.
      let yj = definition_in t.definitions rj.number in
      let kj : yj.kind ≡ 3 = ap (λ (x : Definition). x.kind) (sym oj) ∙ b in
      let fj : (definition_in u.definitions j).first ≡ name_number s t yj.first = ap (λ (x : Definition). x.first) oj ∙ first_builtin yj kj in
      by_definition i (omega arith)
      (λ li.
      let oi = definition_low i li in
      let x = definition_in s.definitions i in
      let ki : x.kind ≡ 3 = ap (λ (x : Definition). x.kind) (sym oi) ∙ a in
      let fi : (definition_in u.definitions i).first ≡ x.first = ap (λ (x : Definition). x.first) oi in
      let no = new_apart (same_builtin s t) no_definition s.definitions t.definitions yj rj.passes i li in
      let yes : same_builtin s t yj x ≡ true =
      rw (eq-eqb yj.kind 3 kj, eq-eqb x.kind 3 ki, eq-eqb (name_number s t yj.first) x.first (sym fj ∙ sym q ∙ fi)) in
      absurd (false≢true (sym no ∙ yes)))
      (λ i' ei ri oi.
      let yi = definition_in t.definitions ri.number in
      let ki : yi.kind ≡ 3 = ap (λ (x : Definition). x.kind) (sym oi) ∙ a in
      let fi : (definition_in u.definitions i).first ≡ name_number s t yi.first = ap (λ (x : Definition). x.first) oi ∙ first_builtin yi ki in
      let ni = (each_at no_definition ri.number w.ranges.definitions ri.inside).builtin ki in
      let nj = (each_at no_definition rj.number w.ranges.definitions rj.inside).builtin kj in
      w.builtins ri.number rj.number (added_less i' j' ri rj (omega arith)) rj.inside ki kj
      (name_apart yi.first yj.first ni nj (sym fi ∙ q ∙ fj))))

  -- nothing stands twice

  names_once : Distinct same_name no_name u.names
  unfolding together
  names_once i j h l =
      let c = name_counts in
      let ys = t.names in
      let xs = s.names in
      let p = is_new same_name xs in
      by_number (length xs) (length (select p ys)) (length u.names) j c l
      (λ lj. ap₂ same_name (merged_low same_name no_name xs ys j lj) (merged_low same_name no_name xs ys i (omega arith)) ∙ v.once.names i j h lj)
      (λ j' ej lj.
      let rj = from p no_name ys j' lj in
      let oj : get_or u.names j no_name ≡ get_or ys rj.number no_name = ap (λ n. get_or u.names n no_name) ej
      ∙ merged_high same_name no_name xs ys j' ∙ rj.same in
      by_number (length xs) (length (select p ys)) (length u.names) i c (omega arith)
      (λ li. ap₂ same_name oj (merged_low same_name no_name xs ys i li) ∙ new_apart same_name no_name xs ys (get_or ys rj.number no_name)
      rj.passes i li)
      (λ i' ei li.
      let ri = from p no_name ys i' li in
      let oi : get_or u.names i no_name ≡ get_or ys ri.number no_name = ap (λ n. get_or u.names n no_name) ei
      ∙ merged_high same_name no_name xs ys i' ∙ ri.same in
      ap₂ same_name oj oi ∙ w.once.names ri.number rj.number (from_less p no_name ys i' j' ri rj (omega arith)) rj.inside))

  -- of both parts: records of one part and of the other are apart, and moving keeps records apart
  both_once : {A : Type 0} (f : A → A) (d : A) (same : A → A → Bool) (xs ys : List A)
      → ((i j : ℕ) → i < length xs → j < length ys → same (f (get_or ys j d)) (get_or xs i d) ≡ false)
      → ((i j : ℕ) → i < length ys → j < length ys → same (get_or ys j d) (get_or ys i d) ≡ false
      → same (f (get_or ys j d)) (f (get_or ys i d)) ≡ false)
      → Distinct same d xs → Distinct same d ys → Distinct same d (xs ++ map f ys)
  both_once f d same xs ys mixed moved a b i j h l =
      let c = both_length f d xs ys in
      by_both f d xs ys j l
      (λ lj. ap₂ same (both_low f d xs ys j lj) (both_low f d xs ys i (omega arith)) ∙ a i j h lj)
      (λ j' ej lj.
      let oj = ap (λ n. get_or (xs ++ map f ys) n d) ej ∙ both_high f d xs ys j' lj in
      by_both f d xs ys i (omega arith)
      (λ li. ap₂ same oj (both_low f d xs ys i li) ∙ mixed i j' li lj)
      (λ i' ei li.
      let oi = ap (λ n. get_or (xs ++ map f ys) n d) ei ∙ both_high f d xs ys i' li in
      ap₂ same oj oi ∙ moved i' j' li lj (b i' j' (omega arith) lj)))

  shifted : (n a b : ℕ) → eqb a b ≡ false → eqb (n + a) (n + b) ≡ false
  shifted n a b h = let q = eqb-false a b h in ne_eqb (n + a) (n + b) (λ z. omega arith)

  children_once : Distinct same_child (record { owner = 0; child = 0 }) u.children
  unfolding together
  children_once =
      let d : Child = record { owner = 0; child = 0 } in
      both_once (child_to e) d same_child s.children t.children
      (λ i j li lj. let k = (each_at d i v.ranges.children li).child in ne_eqb (os + (get_or t.children j d).child)
      (get_or s.children i d).child (λ z. omega arith))
      (λ i j li lj h. shifted os (get_or t.children j d).child (get_or t.children i d).child h) v.once.children w.once.children

  preludes_once : Distinct same_prelude (record { map = 0; target = 0 }) u.preludes
  unfolding together
  preludes_once =
      let d : Prelude = record { map = 0; target = 0 } in
      both_once (prelude_to e) d same_prelude s.preludes t.preludes
      (λ i j li lj. let k = (each_at d i v.ranges.preludes li).map in ne_eqb (ks + (get_or t.preludes j d).map)
      (get_or s.preludes i d).map (λ z. omega arith))
      (λ i j li lj h. shifted ks (get_or t.preludes j d).map (get_or t.preludes i d).map h) v.once.preludes w.once.preludes

  entry_apart : (x y : Scope) → y.name < length t.names → x.name < length t.names
      → same_entry y x ≡ false → same_entry (scope_to e y) (scope_to e x) ≡ false
  entry_apart x y ly lx h =
      by_test (eqb (os + y.owner) (os + x.owner))
      (λ a. by_test (eqb y.ns x.ns)
      (λ b. by_test (eqb (name_number s t y.name) (name_number s t x.name))
      (λ c.
      let o = eqb-true (os + y.owner) (os + x.owner) a in
      let n = name_apart y.name x.name ly lx (eqb-true (name_number s t y.name) (name_number s t x.name) c) in
      let z : same_entry y x ≡ true = rw (eq-eqb y.owner x.owner (omega arith), b, eq-eqb y.name x.name n) in
      absurd (false≢true (sym h ∙ z)))
      (λ c. rw (a, b, c)))
      (λ b. rw (a, b)))
      (λ a. rw a)

  scopes_once : Distinct same_entry (record {
    owner = 0;
    ns = 0;
    name = 0;
    definition = 0;
    visibility = 0;
    number = 0;
    declared =
        0;
    bits = 0;
    place = 0;
  }) u.scopes
  unfolding together
  scopes_once =
      let d : Scope = record { owner = 0; ns = 0; name = 0; definition = 0; visibility = 0; number = 0; declared = 0; bits = 0; place = 0 } in
      both_once (scope_to e) d same_entry s.scopes t.scopes
      (λ i j li lj.
      let k = (each_at d i v.ranges.scopes li).owner in
      apart_two (os + (get_or t.scopes j d).owner) (get_or s.scopes i d).owner (λ z. omega arith) _ _)
      (λ i j li lj h. entry_apart (get_or t.scopes i d) (get_or t.scopes j d) (each_at d j w.ranges.scopes lj).name
      (each_at d i w.ranges.scopes li).name h)
      v.once.scopes w.once.scopes

  extern_apart : (x y : Extern) → y.name < length t.names → x.name < length t.names
      → same_extern y x ≡ false → same_extern (extern_to e y) (extern_to e x) ≡ false
  extern_apart x y ly lx h =
      by_test (eqb (cs + y.owner) (cs + x.owner))
      (λ a. by_test (eqb (name_number s t y.name) (name_number s t x.name))
      (λ c.
      let o = eqb-true (cs + y.owner) (cs + x.owner) a in
      let n = name_apart y.name x.name ly lx (eqb-true (name_number s t y.name) (name_number s t x.name) c) in
      let z : same_extern y x ≡ true = rw (eq-eqb y.owner x.owner (omega arith), eq-eqb y.name x.name n) in
      absurd (false≢true (sym h ∙ z)))
      (λ c. rw (a, c)))
      (λ a. rw a)

  externs_once : Distinct same_extern (record { owner = 0; name = 0; target = 0; place = 0 }) u.externs
  unfolding together
  externs_once =
      let d : Extern = record { owner = 0; name = 0; target = 0; place = 0 } in
      both_once (extern_to e) d same_extern s.externs t.externs
      (λ i j li lj.
      let k = (each_at d i v.ranges.externs li).owner in
      let z : eqb (cs + (get_or t.externs j d).owner) (get_or s.externs i d).owner ≡ false = ne_eqb (cs + (get_or t.externs j d).owner)
      (get_or s.externs i d).owner (λ z. omega arith) in
      rw z)
      (λ i j li lj h. extern_apart (get_or t.externs i d) (get_or t.externs j d) (each_at d j w.ranges.externs lj).name
      (each_at d i w.ranges.externs li).name h)
      v.once.externs w.once.externs

  -- fields in their ranges

  module _ (few : Limits (counts_of u)) where
    names_fit : Each NameFits u.names
    unfolding together merged
    names_fit = each_append v.ranges.names (each_select (is_new same_name s.names) w.ranges.names)

    crates_fit : Each CrateFits u.crates
    unfolding together
    crates_fit = each_append v.ranges.crates w.ranges.crates

    dependencies_fit : Each (DependencyFits (counts_of u)) u.dependencies
    unfolding together
    dependencies_fit =
        let c = crate_counts in
        each_append
        (each_map (λ x f. let a = f.owner in let b = f.crate in record { owner = omega arith; crate = omega arith; sysroot = f.sysroot })
        v.ranges.dependencies)
        (each_mapped (dependency_to e) (λ x f. let a = f.owner in let b = f.crate in record {
          owner = omega arith;
          crate =
              omega arith;
          sysroot = f.sysroot;
        }) w.ranges.dependencies)

    maps_fit : Each (MapFits (counts_of u)) u.maps
    unfolding together
    maps_fit =
        let c = crate_counts in
        let m = module_counts in
        each_append
        (each_map (λ x f. let a = f.crate in let b = f.block in record { crate = omega arith; block = omega arith; no_std = f.no_std })
        v.ranges.maps)
        (each_mapped (map_to e)
        (λ x f. let a = f.crate in let b = moved_low e.modules x.block (length t.modules) (os + length t.modules)
        (λ k l. omega arith) f.block in record { crate = omega arith; block = omega arith; no_std = f.no_std }) w.ranges.maps)

    modules_fit : Each (ModuleFits (counts_of u)) u.modules
    unfolding together
    modules_fit =
        let c = map_counts in
        let m = module_counts in
        each_append
        (each_map (λ x f. let a = f.map in let b = f.parent in record { map = omega arith; parent = omega arith }) v.ranges.modules)
        (each_mapped (module_to e)
        (λ x f. let a = f.map in let b = moved_low e.modules x.parent (length t.modules) (os + length t.modules)
        (λ k l. omega arith) f.parent in record { map = omega arith; parent = omega arith }) w.ranges.modules)

    children_fit : Each (ChildFits (counts_of u)) u.children
    unfolding together
    children_fit =
        let m = module_counts in
        each_append
        (each_map (λ x f. let a = f.owner in let b = f.child in record { owner = omega arith; child = omega arith }) v.ranges.children)
        (each_mapped (child_to e) (λ x f. let a = f.owner in let b = f.child in record { owner = omega arith; child = omega arith })
        w.ranges.children)

    preludes_fit : Each (PreludeFits (counts_of u)) u.preludes
    unfolding together
    preludes_fit =
        let c = map_counts in
        let m = module_counts in
        each_append
        (each_map (λ x f. let a = f.map in let b = f.target in record { map = omega arith; target = omega arith }) v.ranges.preludes)
        (each_mapped (prelude_to e) (λ x f. let a = f.map in let b = f.target in record { map = omega arith; target = omega arith })
        w.ranges.preludes)

    definition_widened : (x : Definition) → DefinitionFits (counts_of s) x → DefinitionFits (counts_of u) x
    definition_widened x f =
        let c = definition_counts in
        let n = name_counts in
        let m = module_counts in
        record {
          known = f.known;
          kind = f.kind;
          variant = λ k. let a = f.variant k in let a0 = a.0 in let a1 = a.1 in (omega arith, omega arith);
          builtin = λ k. let a = f.builtin k in omega arith;
          home = λ k l. let a = f.home k l in omega arith;
          place = f.place;
        }

    definition_moved : (x : Definition) → DefinitionFits (counts_of t) x → DefinitionFits (counts_of u) (definition_to e x)
    definition_moved x f =
        let m = module_counts in
        record {
          known = f.known;
          kind = f.kind;
          variant =
              λ k.
              let a = f.variant k in
              let p = first_variant x k in
              let q = second_variant x k in
              let d = (definition_kind x.first a.0).0 in
              let n = (name_at_lem x.second a.1).0 in
              (omega arith, omega arith);
          builtin = λ k. let p = first_builtin x k in let n = (name_at_lem x.first (f.builtin k)).0 in omega arith;
          home = λ k l. let p = first_home x k l in let a = f.home k l in omega arith;
          place = f.place;
        }

    definitions_fit : Each (DefinitionFits (counts_of u)) u.definitions
    unfolding together
    definitions_fit = each_append (each_map definition_widened v.ranges.definitions)
        (each_mapped (definition_to e) definition_moved (each_select is_other w.ranges.definitions))

    visible_public : (n : ℕ) (x : ℕ) → x ≡ 0 → visible_to e x n ≡ n
    visible_public n x k = rw (visible_to, eq-eqb x 0 k)

    visible_crate : (n : ℕ) (x : ℕ) → x ≡ 1 → visible_to e x n ≡ cs + n
    visible_crate n x k = rw (visible_to, ne_eqb x 0 (λ z. omega arith), eq-eqb x 1 k)

    visible_module : (n : ℕ) (x : ℕ) → 2 ≤ x → visible_to e x n ≡ os + n
    visible_module n x k = rw (visible_to, ne_eqb x 0 (λ z. omega arith), ne_eqb x 1 (λ z. omega arith))

    scope_widened : (x : Scope) → ScopeFits (counts_of s) x → ScopeFits (counts_of u) x
    scope_widened x f =
        let c = definition_counts in
        let n = name_counts in
        let m = module_counts in
        let k = crate_counts in
        let f0 = f.owner in
        let f1 = f.name in
        let f2 = f.definition in
        record {
          owner = omega arith;
          ns = f.ns;
          name = omega arith;
          definition = omega arith;
          visibility = f.visibility;
          public = f.public;
          crate = λ z. let a = f.crate z in omega arith;
          inside = λ z. let a = f.inside z in omega arith;
          declared = f.declared;
          bits = f.bits;
          place = f.place;
        }

    scope_moved : (x : Scope) → ScopeFits (counts_of t) x → ScopeFits (counts_of u) (scope_to e x)
    scope_moved x f =
        let m = module_counts in
        let k = crate_counts in
        let f0 = f.owner in
        record {
          owner = omega arith;
          ns = f.ns;
          name = (name_at_lem x.name f.name).0;
          definition = (definition_kind x.definition f.definition).0;
          visibility = f.visibility;
          public = λ z. visible_public x.number x.visibility z ∙ f.public z;
          crate = λ z. let a = f.crate z in let b = visible_crate x.number x.visibility z in omega arith;
          inside = λ z. let a = f.inside z in let b = visible_module x.number x.visibility z in omega arith;
          declared = f.declared;
          bits = f.bits;
          place = f.place;
        }

    import_widened : (x : Import) → ImportFits (counts_of s) x → ImportFits (counts_of u) x
    import_widened x f =
        let c = definition_counts in
        let n = name_counts in
        let m = module_counts in
        let k = crate_counts in
        let f0 = f.owner in
        let f1 = f.name in
        let f2 = f.definition in
        let f3 = f.container in
        record {
          owner = omega arith;
          ns = f.ns;
          definition = omega arith;
          name = omega arith;
          container = omega arith;
          bits =
              f.bits;
          place = f.place;
        }

    import_moved : (x : Import) → ImportFits (counts_of t) x → ImportFits (counts_of u) (import_to e x)
    import_moved x f =
        let m = module_counts in
        let k = crate_counts in
        let f0 = f.owner in
        let f3 = f.container in
        record {
          owner = omega arith;
          ns = f.ns;
          definition = (definition_kind x.definition f.definition).0;
          name = (name_at_lem x.name f.name).0;
          container = omega arith;
          bits = f.bits;
          place = f.place;
        }

    extern_widened : (x : Extern) → ExternFits (counts_of s) x → ExternFits (counts_of u) x
    extern_widened x f =
        let n = name_counts in
        let m = module_counts in
        let k = crate_counts in
        let f0 = f.owner in
        let f1 = f.name in
        let f3 = f.target in
        record { owner = omega arith; name = omega arith; target = omega arith; place = f.place }

    extern_moved : (x : Extern) → ExternFits (counts_of t) x → ExternFits (counts_of u) (extern_to e x)
    extern_moved x f =
        let m = module_counts in
        let k = crate_counts in
        let f0 = f.owner in
        let f3 = f.target in
        record { owner = omega arith; name = (name_at_lem x.name f.name).0; target = omega arith; place = f.place }

    member_widened : (x : Member) → MemberFits (counts_of s) x → MemberFits (counts_of u) x
    member_widened x f =
        let c = definition_counts in
        let n = name_counts in
        let f0 = f.parent in
        let f1 = f.name in
        let f2 = f.definition in
        record { parent = omega arith; name = omega arith; definition = omega arith; kind = f.kind; bits = f.bits }

    member_moved : (x : Member) → MemberFits (counts_of t) x → MemberFits (counts_of u) (member_to e x)
    member_moved x f =
        record {
          parent = (definition_kind x.parent f.parent).0;
          name = (name_at_lem x.name f.name).0;
          definition = (definition_kind x.definition f.definition).0;
          kind = f.kind;
          bits = f.bits;
        }

    ranges : Ranges (counts_of u) u
    unfolding together
    ranges =
        record {
          names = names_fit;
          crates = crates_fit;
          dependencies = dependencies_fit;
          maps = maps_fit;
          modules = modules_fit;
          children = children_fit;
          preludes = preludes_fit;
          definitions = definitions_fit;
          scopes = each_append (each_map scope_widened v.ranges.scopes) (each_mapped (scope_to e) scope_moved w.ranges.scopes);
          imports = each_append (each_map import_widened v.ranges.imports) (each_mapped (import_to e) import_moved w.ranges.imports);
          externs = each_append (each_map extern_widened v.ranges.externs) (each_mapped (extern_to e) extern_moved w.ranges.externs);
          members = each_append (each_map member_widened v.ranges.members) (each_mapped (member_to e) member_moved w.ranges.members);
        }

    -- two facts of each element

    under_low : (x : Child) → ChildFits (counts_of s) x → Under s.modules x → Under u.modules x
    under_low x f h = parent_low x.child f.child ∙ h

    under_high : (x : Child) → ChildFits (counts_of t) x → Under t.modules x → Under u.modules (child_to e x)
    under_high x f h =
        let q : parent_in t.modules x.child ≡ suc x.owner = (let z : parent_in t.modules x.child ≡ x.owner + 1 = h in omega arith) in
        let p = parent_high (os + x.child) x.child refl f.child ∙ ap (or_none e.modules) q in
        let r : suc (os + x.owner) ≡ os + x.owner + 1 = omega arith in
        p ∙ r

    -- Joined, they are valid.
    pub sound : Valid u
    unfolding together
    sound =
        record {
          ranges = ranges;
          limits = few;
          tree = tree;
          enums = enums;
          children =
              each_append (each_two (λ x f h. under_low x f h) v.ranges.children v.children)
              (each_mapped (child_to e) (λ x h. under_high x h.0 h.1) (each_both w.ranges.children w.children));
          scopes =
              each_append (each_two (λ x f h. macro_low x.ns x.definition f.definition h) v.ranges.scopes v.scopes)
              (each_mapped (scope_to e) (λ x h. macro_high x.ns x.definition h.0.definition h.1)
              (each_both w.ranges.scopes w.scopes));
          imports =
              each_append (each_two (λ x f h. macro_low x.ns x.definition f.definition h) v.ranges.imports v.imports)
              (each_mapped (import_to e) (λ x h. macro_high x.ns x.definition h.0.definition h.1)
              (each_both w.ranges.imports w.imports));
          members =
              each_append (each_two (λ x f h. belongs_low x f h) v.ranges.members v.members)
              (each_mapped (member_to e) (λ x h. belongs_high x h.0 h.1) (each_both w.ranges.members w.members));
          filled = filled;
          owned = owned;
          once = record { names = names_once; children = children_once; preludes = preludes_once; scopes = scopes_once; externs = externs_once };
          modules = modules_once;
          builtins = builtins_once;
        }

  definition_whole_low : (x : Definition) → DefinitionFits (counts_of s) x → DefinitionWhole s.names x → DefinitionWhole u.names x
  unfolding together
  definition_whole_low x f h =
      record {
        second = h.second;
        builtin = λ k. ap is_builtin (merged_low same_name no_name s.names t.names x.first (f.builtin k)) ∙ h.builtin k;
      }

  definition_whole_high : (x : Definition) → DefinitionFits (counts_of t) x → DefinitionWhole t.names x
      → DefinitionWhole u.names (definition_to e x)
  definition_whole_high x f h =
      record {
        second = λ k. second_other x k ∙ h.second k;
        builtin = λ k. ap (λ n. is_builtin (get_or u.names n no_name)) (first_builtin x k) ∙ ap is_builtin (name_at_lem x.first (f.builtin k)).1
            ∙ h.builtin k;
      }

  pub sound_whole : Whole u
  unfolding together merged
  sound_whole =
      record {
        names = each_append sw.names (each_select (is_new same_name s.names) tw.names);
        definitions =
            each_append (each_two definition_whole_low v.ranges.definitions sw.definitions)
            (each_mapped (definition_to e) (λ x h. definition_whole_high x h.0 h.1)
            (each_select is_other (each_both w.ranges.definitions tw.definitions)));
      }
