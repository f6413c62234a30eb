-- The words of either part are no more than the joined words.
use Prim.Native.Nat.{ℕ, suc, ◌+◌, ◌≤◌, ◌<◌}
use mathlib.Core.Path.{◌≡◌, refl, sym, ◌∙◌, ap, ap₂}
use mathlib.Core.List.{List, [], ◌∷◌, ◌++◌, map}
use mathlib.Core.Bool.{Bool, true, false, false≢true}
use native.Mathlib.Omega.{arith}
use native.Mathlib.Nat.{add-zero}
use borrow.Author.Tests.{eqb-true, eqb-false, eq-eqb, ne_eqb}
use lib.Dec.{eqb}
use lib.ListN.{length, get_or, length-append}
use Rattle.snapshot.specs.Lists.{any}
use Rattle.snapshot.specs.Records.{Name, Map, Module, Definition, Snapshot}
use Rattle.check_rules.specs.Tests.{no_name, no_definition, same_name, is_in}
use Rattle.check_rules.proofs.Names.{name_equal}
use Rattle.accept.specs.Valid.{Valid}
use Rattle.accept.proofs.Accepted.{by_test}
use Rattle.accept.proofs.Bools.{and_three, each_at}
use Rattle.accept.proofs.Valid.{accepted_valid}
use Rattle.hir_def.specs.Finds.{select}
use Rattle.find_path_spec.proofs.laws.Walks.{select_hit, select_miss}
use Rattle.edit_rules.specs.Entries.{scope_words}
use Rattle.edit_rules.specs.Written.{name_words, crate_words, dependency_words, child_words, prelude_words, definition_words, import_words}
use Rattle.edit_rules.specs.Written.{extern_words}
use Rattle.edit_rules.specs.Written.{member_words, each_words, words_within, tree_words, snapshot_words}
use Rattle.edit_rules.specs.Written as written
use Rattle.edit_rules.proofs.scope_edits.Written.{accepted_written}
use Rattle.join_rules.specs.Joined.{is_new, merged, same_builtin, name_number, second_numbers, dependency_to, map_to, module_to, child_to, prelude_to}
use Rattle.join_rules.specs.Joined.{definition_to, scope_to, import_to, extern_to, member_to, together, joined_as, join_of}
use Rattle.join_rules.proofs.Joins.{join_accepted}
use Rattle.join_rules.proofs.Merged.{name_refl}
use Rattle.join_rules.proofs.Runs.{words_append}
use Rattle.join_rules.proofs.Sound.{name_apart}
use Rattle.join_rules.proofs.Stages.{Whole}
use Rattle.join_rules.proofs.Wholes.{accepted_whole}

-- lists of records

abbrev size : {A : Type 0} → (A → List ℕ) → List A → ℕ
size f xs = length (each_words f xs)

size_append : {A : Type 0} (f : A → List ℕ) (xs ys : List A) → size f (xs ++ ys) ≡ size f xs + size f ys
size_append f xs ys = ap length (words_append f xs ys) ∙ length-append (each_words f xs) (each_words f ys)

size_next : {A : Type 0} (f : A → List ℕ) (x : A) (xs : List A) → size f (x ∷ xs) ≡ length (f x) + size f xs
unfolding each_words
size_next f x xs = length-append (f x) (each_words f xs)

-- records that are as long as those they come from
size_moved : {A : Type 0} (f f' : A → List ℕ) (g : A → A) → ((x : A) → length (f' (g x)) ≡ length (f x)) → (xs : List A)
    → size f' (map g xs) ≡ size f xs
unfolding each_words
size_moved f f' g h [] = refl
size_moved f f' g h (x ∷ xs) = size_next f' (g x) (map g xs) ∙ ap₂ (λ m n. m + n) (h x) (size_moved f f' g h xs) ∙ sym (size_next f x xs)

size_first : {A : Type 0} (f : A → List ℕ) (xs ys : List A) → size f xs ≤ size f (xs ++ ys)
size_first f xs ys = omega (arith, size_append f xs ys)

size_second : {A : Type 0} (f f' : A → List ℕ) (g : A → A) → ((x : A) → length (f' (g x)) ≡ length (f x)) → (xs ys : List A)
    → size f ys ≤ size f' (xs ++ map g ys)
size_second f f' g h xs ys = omega (arith, size_append f' xs (map g ys), size_moved f f' g h ys)

-- merged lists: at most one element of the second list is the same as one of the first

module _ {A : Type 0} (same : A → A → Bool) (f : A → List ℕ) (d : A) where
  -- no element is the same as x
  abbrev Clear : A → List A → Type 0
  Clear x ys = (j : ℕ) → j < length ys → same (get_or ys j d) x ≡ false

  -- at most one is
  abbrev pub Single : A → List A → Type 0
  Single x ys = (i j : ℕ) → i < j → j < length ys → same (get_or ys i d) x ≡ true → same (get_or ys j d) x ≡ false

  new_miss : (x : A) (xs : List A) (y : A) → same y x ≡ true → is_new same (x ∷ xs) y ≡ false
  unfolding any
  new_miss x xs y h = rw h

  new_same : (x : A) (xs : List A) (y : A) → same y x ≡ false → is_new same (x ∷ xs) y ≡ is_new same xs y
  unfolding any
  new_same x xs y h = rw h

  -- an element that is not x is selected or not, as before
  both_select : (x : A) (xs : List A) (y : A) (ys : List A) (n : ℕ) → same y x ≡ false
      → size f (select (is_new same xs) ys) ≤ n + size f (select (is_new same (x ∷ xs)) ys)
      → size f (select (is_new same xs) (y ∷ ys)) ≤ n + size f (select (is_new same (x ∷ xs)) (y ∷ ys))
  both_select x xs y ys n h le =
      let s = new_same x xs y h in
      let zs = select (is_new same xs) ys in
      let ws = select (is_new same (x ∷ xs)) ys in
      by_test (is_new same xs y)
      (λ a.
      let p = ap (size f) (select_hit (is_new same xs) y ys a) ∙ size_next f y zs in
      let q = ap (size f) (select_hit (is_new same (x ∷ xs)) y ys (s ∙ a)) ∙ size_next f y ws in
      omega (arith, p, q, le))
      (λ a.
      let p = ap (size f) (select_miss (is_new same xs) y ys a) in
      let q = ap (size f) (select_miss (is_new same (x ∷ xs)) y ys (s ∙ a)) in
      omega (arith, p, q, le))

  clear_select : (x : A) (xs ys : List A) → Clear x ys → size f (select (is_new same xs) ys) ≤ 0 + size f (select (is_new same (x ∷ xs)) ys)
  unfolding select each_words
  clear_select x xs [] c = omega arith
  clear_select x xs (y ∷ ys) c = both_select x xs y ys 0 (c 0 (omega arith)) (clear_select x xs ys (λ j l. c (suc j) (omega arith)))

  single_select : (x : A) (xs ys : List A) → ((y : A) → same y x ≡ true → length (f y) ≤ length (f x)) → Single x ys
      → size f (select (is_new same xs) ys) ≤ length (f x) + size f (select (is_new same (x ∷ xs)) ys)
  unfolding select each_words
  single_select x xs [] h o = omega arith
  single_select x xs (y ∷ ys) h o =
      by_test (same y x)
      (λ a.
      let c = clear_select x xs ys (λ j l. o 0 (suc j) (omega arith) (omega arith) a) in
      let q = ap (size f) (select_miss (is_new same (x ∷ xs)) y ys (new_miss x xs y a)) in
      let zs = select (is_new same xs) ys in
      let l = h y a in
      by_test (is_new same xs y)
      (λ b. let p = ap (size f) (select_hit (is_new same xs) y ys b) ∙ size_next f y zs in omega (arith, p, q, c, l))
      (λ b. let p = ap (size f) (select_miss (is_new same xs) y ys b) in omega (arith, p, q, c, l)))
      (λ a. both_select x xs y ys (length (f x)) a (single_select x xs ys h (λ i j k l. o (suc i) (suc j) (omega arith) (omega arith))))

  all_new : (ys : List A) → select (is_new same []) ys ≡ ys
  unfolding select any
  all_new [] = refl
  all_new (y ∷ ys) = ap (λ l. y ∷ l) (all_new ys)

  pub size_merged : (xs ys : List A) → ((i : ℕ) → i < length xs → (y : A) → same y (get_or xs i d) ≡ true → length (f y) ≤ length (f (get_or xs i d)))
      → ((i : ℕ) → i < length xs → Single (get_or xs i d) ys)
      → size f ys ≤ size f xs + size f (select (is_new same xs) ys)
  size_merged [] ys h o = let p = ap (size f) (all_new ys) in omega (arith, p)
  size_merged (x ∷ xs) ys h o =
      let a = size_merged xs ys (λ i l. h (suc i) (omega arith)) (λ i l. o (suc i) (omega arith)) in
      let b = single_select x xs ys (h 0 (omega arith)) (o 0 (omega arith)) in
      let c = size_next f x xs in
      omega (arith, a, b, c)

-- maps and modules, as one run of words

tree_first : (k : ℕ) (ms ns : List Map) (xs ys : List Module) → length (tree_words k ms xs) ≤ length (tree_words k (ms ++ ns) (xs ++ ys))
unfolding tree_words
tree_first k [] ns xs ys = omega arith
tree_first k (m ∷ ms) ns xs ys =
    let a = tree_first (k + 1) ms ns xs ys in
    let b = size_first (words_within k) xs ys in
    let p = length-append (each_words (words_within k) xs) (tree_words (k + 1) ms xs) in
    let q = length-append (each_words (words_within k) (xs ++ ys)) (tree_words (k + 1) (ms ++ ns) (xs ++ ys)) in
    omega (arith, a, b, p, q)

-- the maps after ms, their numbers shifted
tree_after : (k : ℕ) (ms ns : List Map) (xs : List Module) → length (tree_words (k + length ms) ns xs) ≤ length (tree_words k (ms ++ ns) xs)
unfolding tree_words
tree_after k [] ns xs = let e : k + 0 ≡ k = add-zero k in let p = ap (λ j. length (tree_words j ns xs)) e in omega (arith, p)
tree_after k (m ∷ ms) ns xs =
    let e : k + suc (length ms) ≡ k + 1 + length ms = omega arith in
    let p = ap (λ j. length (tree_words j ns xs)) e in
    let a = tree_after (k + 1) ms ns xs in
    let q = length-append (each_words (words_within k) xs) (tree_words (k + 1) (ms ++ ns) xs) in
    omega (arith, p, a, q)

pub shifted : (n a b : ℕ) → eqb (n + a) (n + b) ≡ eqb a b
shifted n a b =
    by_test (eqb a b)
    (λ h. eq-eqb (n + a) (n + b) (ap (λ j. n + j) (eqb-true a b h)) ∙ sym h)
    (λ h. let q = eqb-false a b h in ne_eqb (n + a) (n + b) (λ z. q (omega (arith, z))) ∙ sym h)

-- parts of words, each no longer than the other list's
data Below : List (List ℕ) → List (List ℕ) → Type 0 where
  end : Below [] []
  next : {a b : List ℕ} {vs ws : List (List ℕ)} → length a ≤ length b → Below vs ws → Below (a ∷ vs) (b ∷ ws)

below_joined : {vs ws : List (List ℕ)} → Below vs ws → length (written.joined vs) ≤ length (written.joined ws)
unfolding written.joined
below_joined end = omega arith
below_joined (next {a} {b} {vs} {ws} h r) =
    let i = below_joined r in
    let p = length-append a (written.joined vs) in
    let q = length-append b (written.joined ws) in
    omega (arith, h, i, p, q)

module _ (s t : Snapshot) where
  within_moved : (k : ℕ) (x : Module) → length (words_within (length s.maps + k) (module_to (second_numbers s t) x)) ≡ length (words_within k x)
  within_moved k x =
      let e : is_in (length s.maps + k) (module_to (second_numbers s t) x) ≡ is_in k x = shifted (length s.maps) x.map k in
      by_test (is_in k x) (λ h. rw (words_within, h, e ∙ h)) (λ h. rw (words_within, h, e ∙ h))

  tree_moved : (k : ℕ) (ms : List Map) (ys : List Module) → length (tree_words k ms ys)
      ≤ length (tree_words (length s.maps + k) (map (map_to (second_numbers s t)) ms) (s.modules ++ map (module_to (second_numbers s t)) ys))
  unfolding tree_words
  tree_moved k [] ys = omega arith
  tree_moved k (m ∷ ms) ys =
      let n = length s.maps in
      let ns = map (map_to (second_numbers s t)) ms in
      let zs = s.modules ++ map (module_to (second_numbers s t)) ys in
      let e : n + (k + 1) ≡ n + k + 1 = omega arith in
      let a = tree_moved (k + 1) ms ys in
      let c = ap (λ j. length (tree_words j ns zs)) e in
      let b = size_second (words_within k) (words_within (n + k)) (module_to (second_numbers s t)) (within_moved k) s.modules ys in
      let p = length-append (each_words (words_within k) ys) (tree_words (k + 1) ms ys) in
      let q = length-append (each_words (words_within (n + k)) zs) (tree_words (n + k + 1) ns zs) in
      omega (arith, a, b, c, p, q)

  tree_second : length (tree_words 0 t.maps t.modules)
      ≤ length (tree_words 0 (s.maps ++ map (map_to (second_numbers s t)) t.maps) (s.modules ++ map (module_to (second_numbers s t)) t.modules))
  tree_second =
      let ns = map (map_to (second_numbers s t)) t.maps in
      let zs = s.modules ++ map (module_to (second_numbers s t)) t.modules in
      let a = tree_moved 0 t.maps t.modules in
      let b = tree_after 0 s.maps ns zs in
      let e : length s.maps + 0 ≡ 0 + length s.maps = omega arith in
      let c = ap (λ j. length (tree_words j ns zs)) e in
      omega (arith, a, b, c)

  first_less : length (snapshot_words s) ≤ length (snapshot_words (together s t))
  unfolding snapshot_words together merged
  first_less =
      below_joined (next (size_first name_words s.names _)
      (next (size_first crate_words s.crates _)
      (next (size_first dependency_words s.dependencies _)
      (next (tree_first 0 s.maps _ s.modules _)
      (next (size_first child_words s.children _)
      (next (size_first prelude_words s.preludes _)
      (next (size_first definition_words s.definitions _)
      (next (size_first scope_words s.scopes _)
      (next (size_first import_words s.imports _)
      (next (size_first extern_words s.externs _)
      (next (size_first member_words s.members _) end)))))))))))

module _ (s t : Snapshot) (v : Valid s) (w : Valid t) (sw : Whole s) (tw : Whole t) where
  -- two names of the second are not one name of the first
  single_name : (x : Name) → Single same_name name_words no_name x t.names
  single_name x i j h l a =
      let ys = t.names in
      by_test (same_name (get_or ys j no_name) x)
      (λ b.
      let q : get_or ys i no_name ≡ get_or ys j no_name = name_equal (get_or ys i no_name) x a ∙ sym (name_equal (get_or ys j no_name) x b) in
      let r : same_name (get_or ys j no_name) (get_or ys i no_name) ≡ true = ap (λ y. same_name (get_or ys j no_name) y) q
      ∙ name_refl (get_or ys j no_name) in
      absurd (false≢true (sym (w.once.names i j h l) ∙ r)))
      (λ b. b)

  -- nor two builtins one builtin
  single_builtin : (x : Definition) → Single (same_builtin s t) definition_words no_definition x t.definitions
  single_builtin x i j h l a =
      let y = get_or t.definitions i no_definition in
      let z = get_or t.definitions j no_definition in
      by_test (same_builtin s t z x)
      (λ b.
      let p = and_three (eqb y.kind 3) (eqb x.kind 3) (eqb (name_number s t y.first) x.first) a in
      let q = and_three (eqb z.kind 3) (eqb x.kind 3) (eqb (name_number s t z.first) x.first) b in
      let ky = eqb-true y.kind 3 p.0 in
      let kz = eqb-true z.kind 3 q.0 in
      let fy = eqb-true (name_number s t y.first) x.first p.2 in
      let fz = eqb-true (name_number s t z.first) x.first q.2 in
      let ny = (each_at no_definition i w.ranges.definitions (omega arith)).builtin ky in
      let nz = (each_at no_definition j w.ranges.definitions l).builtin kz in
      absurd (w.builtins i j h l ky kz (name_apart s t v w sw tw y.first z.first ny nz (fy ∙ sym fz))))
      (λ b. b)

  names_second : size name_words t.names ≤ size name_words (merged same_name s.names t.names)
  unfolding merged
  names_second =
      let xs = s.names in
      let a = size_merged same_name name_words no_name xs t.names
      (λ i l y h. let e = ap (λ (x : Name). length (name_words x)) (name_equal y (get_or xs i no_name) h) in omega (arith, e))
      (λ i l. single_name (get_or xs i no_name)) in
      omega (arith, a, size_append name_words xs (select (is_new same_name xs) t.names))

  abbrev added : List Definition
  added = select (is_new (same_builtin s t) s.definitions) t.definitions

  definitions_second : size definition_words t.definitions
      ≤ size definition_words (s.definitions ++ map (definition_to (second_numbers s t)) added)
  definitions_second =
      let xs = s.definitions in
      let e = second_numbers s t in
      let a = size_merged (same_builtin s t) definition_words no_definition xs t.definitions (λ i l y h. omega arith)
      (λ i l. single_builtin (get_or xs i no_definition)) in
      let b = size_append definition_words xs (map (definition_to e) added) in
      let c = size_moved definition_words definition_words (definition_to e) (λ x. refl) added in
      omega (arith, a, b, c)

  second_less : length (snapshot_words t) ≤ length (snapshot_words (together s t))
  unfolding snapshot_words together scope_words
  second_less =
      let e = second_numbers s t in
      below_joined (next names_second
      (next (omega (arith, size_append crate_words s.crates t.crates))
      (next (size_second dependency_words dependency_words (dependency_to e) (λ x. refl) s.dependencies t.dependencies)
      (next (tree_second s t)
      (next (size_second child_words child_words (child_to e) (λ x. refl) s.children t.children)
      (next (size_second prelude_words prelude_words (prelude_to e) (λ x. refl) s.preludes t.preludes)
      (next definitions_second
      (next (size_second scope_words scope_words (scope_to e) (λ x. refl) s.scopes t.scopes)
      (next (size_second import_words import_words (import_to e) (λ x. refl) s.imports t.imports)
      (next (size_second extern_words extern_words (extern_to e) (λ x. refl) s.externs t.externs)
      (next (size_second member_words member_words (member_to e) (λ x. refl) s.members t.members) end)))))))))))

-- Neither part has more words than the join.
pub join_longer : (area room : ℕ) (W X Y : List ℕ) → join_of area W X room ≡ joined_as Y → (length W ≤ length Y) × (length X ≤ length Y)
join_longer area room W X Y e =
    let r = join_accepted area room W X Y e in
    let s = r.first in
    let t = r.second in
    let y = ap length r.words in
    let a = ap length (accepted_written W s r.one) in
    let b = ap length (accepted_written X t r.two) in
    let f = first_less s t in
    let g = second_less s t (accepted_valid W s r.one) (accepted_valid X t r.two) (accepted_whole W s r.one) (accepted_whole X t r.two) in
    (omega (arith, y, a, f), omega (arith, y, b, g))
