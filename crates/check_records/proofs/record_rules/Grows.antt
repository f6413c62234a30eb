-- One record more, of any kind: the layout, the lists, and what stands.
use Prim.Native.Nat.{ℕ, ◌+◌, ◌-◌, ◌*◌, ◌≤◌, ◌<◌}
use mathlib.Core.Path.{◌≡◌, refl, sym, ◌∙◌, ap}
use mathlib.Core.List.{List, [], ◌∷◌, ◌++◌}
use mathlib.Core.Bool.{Bool, true, false}
use native.Mathlib.Omega.{arith}
use lib.Dec.{eqb, leb}
use lib.ListN.{length, get_or}
use borrow.Author.Tests.{eqb-true, eqb-false, ne_eqb, leb-true, leb-false}
use Rattle.std.proofs.lemmas.Bool.{or_parts}
use Rattle.snapshot.specs.Lists.{any}
use Rattle.snapshot.specs.Limits.{name_limit, module_limit, definition_limit}
use Rattle.snapshot.specs.Words.{pay_of, words_of}
use Rattle.snapshot.specs.Sizes.{crate_size, dependency_size, child_size, prelude_size, definition_size, scope_size, import_size, extern_size}
use Rattle.snapshot.specs.Sizes.{member_size}
use Rattle.snapshot.specs.Records.{Map, Snapshot, name_at, crate_at, dependency_at, map_at, module_at, child_at, prelude_at, definition_at, scope_at}
use Rattle.snapshot.specs.Records.{import_at}
use Rattle.snapshot.specs.Records.{extern_at, member_at}
use Rattle.snapshot.specs.Layouts.{word_count, crate_base, dependency_base, map_base, child_base, prelude_base, definition_base, scope_base}
use Rattle.snapshot.specs.Layouts.{import_base}
use Rattle.snapshot.specs.Layouts.{extern_base, member_base, name_head, module_map, module_head, module_row, own_map, names_of, modules_of}
use Rattle.snapshot.specs.Layouts.{records_of}
use Rattle.snapshot.specs.Layouts.{snap_with, module_table, root_table, crate_table, row_words}
use Rattle.snapshot.specs.declared.layout.Layout.{Layout}
use Rattle.snapshot.proofs.Laws.{rows_snoc, rows_zero, rows_ext}
use Rattle.check_rules.specs.Tests.{no_map}
use Rattle.check_rules.specs.Steps.{judge}
use Rattle.check_records.specs.record_rules.Stands.{own_of, Upto, Limited, Indexes, Stands, Answered}
use Rattle.std.specs.Prelude.{Ok}
use Rattle.check_records.proofs.record_rules.Judged.{Judged, judged_on}
use Rattle.check_records.proofs.record_rules.Indexed.{Kept, Above, indexes_kept}

-- a count and a list of kind j, with one record of kind k more

abbrev pub more : ℕ → ℕ → ℕ → ℕ
more k j n = elim (eqb k j) [ true ↦ n + 1 | false ↦ n ]

abbrev pub more_of : {R : Type 0} → ℕ → ℕ → List R → R → List R
more_of k j xs x = elim (eqb k j) [ true ↦ xs ++ (x ∷ []) | false ↦ xs ]

-- a layout with one record of kind k more; a name moves the end of the texts, and a map is the latest
abbrev pub grown : ℕ → ℕ → ℕ → Layout → Layout
grown k text latest l =
    record {
      text = text;
      names = more k 1 l.names;
      crates = more k 2 l.crates;
      dependencies = more k 3 l.dependencies;
      maps = more k 4 l.maps;
      modules = more k 5 l.modules;
      children = more k 6 l.children;
      preludes = more k 7 l.preludes;
      definitions = more k 8 l.definitions;
      scopes = more k 9 l.scopes;
      imports = more k 10 l.imports;
      externs = more k 11 l.externs;
      members = more k 13 l.members;
      latest = latest;
    }

-- the same for a kind other than these two
abbrev pub one_more : ℕ → Layout → Layout
one_more k l = grown k l.text l.latest l

-- the lists with the record of kind k at a place
abbrev pub add_at : ℕ → List ℕ → ℕ → Snapshot → Snapshot
add_at k W at s =
    record {
      names = more_of k 1 s.names (name_at W at);
      crates = more_of k 2 s.crates (crate_at W at);
      dependencies = more_of k 3 s.dependencies (dependency_at W at);
      maps = more_of k 4 s.maps (map_at W at);
      modules = more_of k 5 s.modules (module_at W at);
      children = more_of k 6 s.children (child_at W at);
      preludes = more_of k 7 s.preludes (prelude_at W at);
      definitions = more_of k 8 s.definitions (definition_at W at);
      scopes = more_of k 9 s.scopes (scope_at W at);
      imports = more_of k 10 s.imports (import_at W at);
      externs = more_of k 11 s.externs (extern_at W at);
      members = more_of k 13 s.members (member_at W at);
    }

more_other : (k j n : ℕ) → (k ≡ j → ⊥) → more k j n ≡ n
more_other k j n h = rw (ne_eqb k j h, more)

more_none : (k i j n : ℕ) → i ≤ j → (k < i → n ≡ 0) → k < i → more k j n ≡ 0
more_none k i j n h z p = more_other k j n (λ e. omega arith) ∙ z p

more_within : (k j n limit : ℕ) → (k ≡ j → n < limit) → n ≤ limit → more k j n ≤ limit
more_within k j n limit h p = by (eqb k j) refl
  where
    by : (t : Bool) → eqb k j ≡ t → ◌≤◌ (elim t [ true ↦ n + 1 | false ↦ n ]) limit
    by true e = let q = h (eqb-true k j e) in omega arith
    by false e = p

-- where there are records of a kind, the kind is not above k
there : (k j n : ℕ) → (k < j → n ≡ 0) → 0 < n → j ≤ k
there k j n z h = by (leb j k) refl
  where
    by : (t : Bool) → leb j k ≡ t → j ≤ k
    by true e = leb-true j k e
    by false e = let q = z (leb-false j k e) in absurd (omega arith)

-- the records of kind j, from b on, and from c on with one of kind k more
list_grown : {R : Type 0} (f : List ℕ → ℕ → R) (size : ℕ) (W : List ℕ) (k j n at b c : ℕ) → (k ≡ j → b + size * n ≡ at)
    → (j ≤ k → c ≡ b) → (k < j → n ≡ 0)
    → records_of f size W c (more k j n) ≡ more_of k j (records_of f size W b n) (f W at)
list_grown f size W k j n at b c e s z = by (eqb k j) refl
  where
    stays : (t : Bool) → leb j k ≡ t → records_of f size W c n ≡ records_of f size W b n
    stays true q = ap (λ x. records_of f size W x n) (s (leb-true j k q))
    stays false q = rows_zero _ _ n (z (leb-false j k q))

    by : (t : Bool) → eqb k j ≡ t → records_of f size W c (elim t [ true ↦ n + 1 | false ↦ n ])
        ≡ elim t [ true ↦ records_of f size W b n ++ (f W at ∷ []) | false ↦ records_of f size W b n ]
    by true q =
        let h = eqb-true k j q in
        ap (λ x. records_of f size W x (n + 1)) (s (omega arith)) ∙ rows_snoc (λ i. f W (b + size * i)) n
        ∙ ap (λ x. records_of f size W b n ++ (f W x ∷ [])) (e h)
    by false q = stays (leb j k) refl

-- the names and modules of tables that are kept

pub names_kept : (W A B : List ℕ) (n : ℕ) → n ≤ name_limit → Kept A B 0 module_table → names_of W B n ≡ names_of W A n
names_kept W A B n h kept = rows_ext _ _ n (λ k p. ap (name_at W) (kept k (omega arith) (omega arith)))

row_kept : (A B : List ℕ) (m : ℕ) → m < module_limit → Kept A B module_table root_table → module_row B m ≡ module_row A m
row_kept A B m h kept =
    let p = kept (module_table + 3 * m) (omega arith) (omega arith) in
    let q = kept (module_table + 3 * m + 2) (omega arith) (omega arith) in
    λ i. record { map = p i; parent = q i }

pub modules_kept : (A B : List ℕ) (n : ℕ) → n ≤ module_limit → Kept A B module_table root_table → modules_of B n ≡ modules_of A n
modules_kept A B n h kept = rows_ext _ _ n (λ k p. row_kept A B k (omega arith) kept)

pub heads_kept : (W A B : List ℕ) (n : ℕ) → n ≤ name_limit → Kept A B 0 module_table
    → ((j : ℕ) → j < n → name_head A j + 1 + words_of (pay_of (get_or W (name_head A j) 0)) ≤ length W)
    → (j : ℕ) → j < n → name_head B j + 1 + words_of (pay_of (get_or W (name_head B j) 0)) ≤ length W
heads_kept W A B n h kept old j p = rw (kept j (omega arith) (omega arith)) (old j p)

-- what the tables say
pub record Told (W B : List ℕ) (names crates maps modules latest : ℕ) (ms : List Map) : Type 0 where
  pub heads : (j : ℕ) → j < names → name_head B j + 1 + words_of (pay_of (get_or W (name_head B j) 0)) ≤ length W
  pub count : length ms ≡ maps
  pub last : 0 < maps → get_or ms (maps - 1) no_map ≡ map_at W latest
  pub below : (m : ℕ) → m < modules → module_map B m < maps
  pub rising : (i j : ℕ) → i ≤ j → j < modules → module_map B i ≤ module_map B j
  pub inside : (m : ℕ) → m < modules → get_or ms (module_map B m) no_map ≡ map_at W (module_head B m)
  pub own : (c : ℕ) → c < crates → own_map B c ≡ own_of c ms

module _ (W A B : List ℕ) (k at : ℕ) (l : Layout) (ms : List Map) (st : Stands W A k at l ms) (kept : Kept A B 0 row_words) where
  map_of_lem : (m : ℕ) → m < l.modules → module_map B m ≡ module_map A m
  map_of_lem m h = let r = st.limited.modules in kept (module_table + 3 * m) (omega arith) (omega arith)

  head_of : (m : ℕ) → m < l.modules → module_head B m ≡ module_head A m
  head_of m h = let r = st.limited.modules in kept (module_table + 3 * m + 1) (omega arith) (omega arith)

  told_kept : Told W B l.names l.crates l.maps l.modules l.latest ms
  told_kept =
      record {
        heads = heads_kept W A B l.names st.limited.names (λ i u v. kept i u (omega arith)) st.heads;
        count = st.count;
        last = st.latest;
        below = λ m h. (let q = map_of_lem m h in let r = st.below m h in omega arith);
        rising = λ i j h k. (let p = map_of_lem i (omega arith) in let q = map_of_lem j k in let r = st.rising i j h k in omega arith);
        inside = λ m h. ap (λ k. get_or ms k no_map) (map_of_lem m h) ∙ st.inside m h ∙ ap (map_at W) (sym (head_of m h));
        own = λ c h. (let r = st.limited.crates in kept (crate_table + c) (omega arith) (omega arith) ∙ st.own c h);
      }

-- the lists of a layout with one record of kind k more
module _ (W A B : List ℕ) (k at text latest : ℕ) (l : Layout) (ms : List Map) (st : Stands W A k at l ms) (texts : 2 ≤ k → text ≡ l.text) where
  -- the kinds up to k stand where they stood
  record SameBases : Type 0 where
    dependency : 3 ≤ k → dependency_base (grown k text latest l) ≡ dependency_base l
    child : 6 ≤ k → child_base (grown k text latest l) ≡ child_base l
    prelude : 7 ≤ k → prelude_base (grown k text latest l) ≡ prelude_base l
    definition : 8 ≤ k → definition_base (grown k text latest l) ≡ definition_base l
    scope : 9 ≤ k → scope_base (grown k text latest l) ≡ scope_base l
    import : 10 ≤ k → import_base (grown k text latest l) ≡ import_base l
    extern : 11 ≤ k → extern_base (grown k text latest l) ≡ extern_base l
    member : 13 ≤ k → member_base (grown k text latest l) ≡ member_base l

  same_bases : SameBases
  same_bases =
      let b3 : 3 ≤ k → dependency_base (grown k text latest l) ≡ dependency_base l = λ h. (let p = texts (omega arith) in let q =
      more_other k 2 l.crates (λ e. omega arith) in omega arith) in
      let b4 : 4 ≤ k → map_base (grown k text latest l) ≡ map_base l = λ h. (let p = b3 (omega arith) in let q = more_other k 3
      l.dependencies (λ e. omega arith) in omega arith) in
      let b6 : 6 ≤ k → child_base (grown k text latest l) ≡ child_base l = λ h. (let p = b4 (omega arith) in let q = more_other k 4
      l.maps (λ e. omega arith) in let r = more_other k 5 l.modules (λ e. omega arith) in omega arith) in
      let b7 : 7 ≤ k → prelude_base (grown k text latest l) ≡ prelude_base l = λ h. (let p = b6 (omega arith) in let q = more_other k 6
      l.children (λ e. omega arith) in omega arith) in
      let b8 : 8 ≤ k → definition_base (grown k text latest l) ≡ definition_base l = λ h. (let p = b7 (omega arith) in let q =
      more_other k 7 l.preludes (λ e. omega arith) in omega arith) in
      let b9 : 9 ≤ k → scope_base (grown k text latest l) ≡ scope_base l = λ h. (let p = b8 (omega arith) in let q = more_other k 8
      l.definitions (λ e. omega arith) in omega arith) in
      let b10 : 10 ≤ k → import_base (grown k text latest l) ≡ import_base l = λ h. (let p = b9 (omega arith) in let q = more_other k 9
      l.scopes (λ e. omega arith) in omega arith) in
      let b11 : 11 ≤ k → extern_base (grown k text latest l) ≡ extern_base l = λ h. (let p = b10 (omega arith) in let q = more_other k 10
      l.imports (λ e. omega arith) in omega arith) in
      let b13 : 13 ≤ k → member_base (grown k text latest l) ≡ member_base l = λ h. (let p = b11 (omega arith) in let q = more_other k 11
      l.externs (λ e. omega arith) in omega arith) in
      record { dependency = b3; child = b6; prelude = b7; definition = b8; scope = b9; import = b10; extern = b11; member = b13 }

  -- and the words of kind k end at the place
  record Ends : Type 0 where
    name : k < 2 → crate_base l ≡ at
    crate : k < 3 → dependency_base l ≡ at
    dependency : k < 4 → map_base l ≡ at
    child : k < 7 → prelude_base l ≡ at
    prelude : k < 8 → definition_base l ≡ at
    definition : k < 9 → scope_base l ≡ at
    scope : k < 10 → import_base l ≡ at
    import : k < 11 → extern_base l ≡ at
    extern : k < 13 → member_base l ≡ at

  ends : Ends
  ends =
      let u = st.upto in
      let e11 : k < 13 → member_base l ≡ at = λ h. (let z = u.members h in let p = st.place in omega arith) in
      let e10 : k < 11 → extern_base l ≡ at = λ h. (let z = u.externs h in let p = e11 (omega arith) in omega arith) in
      let e9 : k < 10 → import_base l ≡ at = λ h. (let z = u.imports h in let p = e10 (omega arith) in omega arith) in
      let e8 : k < 9 → scope_base l ≡ at = λ h. (let z = u.scopes h in let p = e9 (omega arith) in omega arith) in
      let e7 : k < 8 → definition_base l ≡ at = λ h. (let z = u.definitions h in let p = e8 (omega arith) in omega arith) in
      let e6 : k < 7 → prelude_base l ≡ at = λ h. (let z = u.preludes h in let p = e7 (omega arith) in omega arith) in
      let e5 : k < 6 → child_base l ≡ at = λ h. (let z = u.children h in let p = e6 (omega arith) in omega arith) in
      let e3 : k < 4 → map_base l ≡ at = λ h. (let z = u.maps h in let y = u.modules h in let p = e5 (omega arith) in omega arith) in
      let e2 : k < 3 → dependency_base l ≡ at = λ h. (let z = u.dependencies h in let p = e3 (omega arith) in omega arith) in
      let e1 : k < 2 → crate_base l ≡ at = λ h. (let z = u.crates h in let p = e2 (omega arith) in omega arith) in
      record { name = e1; crate = e2; dependency = e3; child = e6; prelude = e7; definition = e8; scope = e9; import = e10; extern = e11 }

  -- the names, maps and modules of the tables are given
  pub lists_grown : {ns : List Map} → names_of W B (more k 1 l.names) ≡ more_of k 1 (names_of W A l.names) (name_at W at)
      → ns ≡ more_of k 4 ms (map_at W at)
      → modules_of B (more k 5 l.modules) ≡ more_of k 5 (modules_of A l.modules) (module_at W at)
      → snap_with W B (grown k text latest l) ns ≡ add_at k W at (snap_with W A l ms)
  lists_grown names maps modules =
      let u = st.upto in
      let s = same_bases in
      let e = ends in
      let p2 = list_grown crate_at crate_size W k 2 l.crates at (crate_base l) text (λ h. e.crate (omega arith)) texts u.crates in
      let p3 = list_grown dependency_at dependency_size W k 3 l.dependencies at (dependency_base l) _ (λ h. e.dependency (omega arith))
      s.dependency u.dependencies in
      let p6 = list_grown child_at child_size W k 6 l.children at (child_base l) _ (λ h. e.child (omega arith)) s.child u.children in
      let p7 = list_grown prelude_at prelude_size W k 7 l.preludes at (prelude_base l) _ (λ h. e.prelude (omega arith)) s.prelude u.preludes in
      let p8 = list_grown definition_at definition_size W k 8 l.definitions at (definition_base l) _ (λ h. e.definition (omega arith))
      s.definition u.definitions in
      let p9 = list_grown scope_at scope_size W k 9 l.scopes at (scope_base l) _ (λ h. e.scope (omega arith)) s.scope u.scopes in
      let p10 = list_grown import_at import_size W k 10 l.imports at (import_base l) _ (λ h. e.import (omega arith)) s.import u.imports in
      let p11 = list_grown extern_at extern_size W k 11 l.externs at (extern_base l) _ (λ h. e.extern (omega arith)) s.extern u.externs in
      let p13 = list_grown member_at member_size W k 13 l.members at (member_base l) _ (λ h. st.place) s.member u.members in
      λ i. record {
        names = names i;
        crates = p2 i;
        dependencies = p3 i;
        maps = maps i;
        modules = modules i;
        children = p6 i;
        preludes = p7 i;
        definitions = p8 i;
        scopes = p9 i;
        imports = p10 i;
        externs = p11 i;
        members = p13 i;
      }

  pub upto_grown : Upto k (grown k text latest l)
  upto_grown =
      let u = st.upto in
      record {
        crates = more_none k 2 2 _ (omega arith) u.crates;
        dependencies = more_none k 3 3 _ (omega arith) u.dependencies;
        maps = more_none k 4 4 _ (omega arith) u.maps;
        modules = more_none k 4 5 _ (omega arith) u.modules;
        children = more_none k 6 6 _ (omega arith) u.children;
        preludes = more_none k 7 7 _ (omega arith) u.preludes;
        definitions = more_none k 8 8 _ (omega arith) u.definitions;
        scopes = more_none k 9 9 _ (omega arith) u.scopes;
        imports = more_none k 10 10 _ (omega arith) u.imports;
        externs = more_none k 11 11 _ (omega arith) u.externs;
        members = more_none k 13 13 _ (omega arith) u.members;
      }

  pub text_end : k < 2 → l.text ≡ at
  text_end = ends.name

  -- of a kind that has no chain and no mark
  pub indexes_grown : Kept A B 0 module_table → Above A B → eqb k 1 ≡ false → eqb k 6 ≡ false → eqb k 8 ≡ false → eqb k 9 ≡ false → eqb k 11 ≡ false
      → Indexes W B (grown k text latest l)
  indexes_grown heads above n1 n6 n8 n9 n11 =
      let u = st.upto in
      let s = same_bases in
      indexes_kept W A B l (grown k text latest l) st.index st.limited.names heads above
      (record {
        names = rw (n1, more);
        children = rw (n6, more);
        definitions = rw (n8, more);
        scopes = rw (n9, more);
        externs = rw (n11, more);
        child = λ h. s.child (there k 6 _ u.children h);
        definition = λ h. s.definition (there k 8 _ u.definitions h);
        scope = λ h. s.scope (there k 9 _ u.scopes h);
        extern = λ h. s.extern (there k 11 _ u.externs h);
      })

  pub stands_grown : {next : ℕ} {ns : List Map} → word_count (grown k text latest l) ≡ next → next ≤ length W → Limited (grown k text latest l)
      → Told W B (more k 1 l.names) (more k 2 l.crates) (more k 4 l.maps) (more k 5 l.modules) latest ns
      → Indexes W B (grown k text latest l)
      → Stands W B k next (grown k text latest l) ns
  stands_grown place fits limited t index =
      record {
        place = place;
        within = fits;
        upto = upto_grown;
        limited = limited;
        heads = t.heads;
        count = t.count;
        latest = t.last;
        below = t.below;
        rising = t.rising;
        inside = t.inside;
        own = t.own;
        index = index;
      }

-- a record of a kind that has no table: the tables are kept
module _ (W A B : List ℕ) (k at : ℕ) (l : Layout) (ms : List Map) (st : Stands W A k at l ms) (kept : Kept A B 0 row_words)
    (n1 : eqb k 1 ≡ false) (n2 : eqb k 2 ≡ false) (n4 : eqb k 4 ≡ false) (n5 : eqb k 5 ≡ false)
  where
    pub plain_added : snap_with W B (one_more k l) ms ≡ add_at k W at (snap_with W A l ms)
    plain_added =
        lists_grown W A B k at l.text l.latest l ms st (λ h. refl)
        (rw (n1, more, more_of) (names_kept W A B l.names st.limited.names (λ i u v. kept i u (omega arith))))
        (rw (n4, more_of))
        (rw (n5, more, more_of) (modules_kept A B l.modules st.limited.modules (λ i u v. kept i (omega arith) (omega arith))))

    pub plain_stands : {next : ℕ} → word_count (one_more k l) ≡ next → next ≤ length W → (k ≡ 8 → l.definitions < definition_limit)
        → Indexes W B (one_more k l)
        → Stands W B k next (one_more k l) ms
    plain_stands place fits room index =
        let d = st.limited in
        stands_grown W A B k at l.text l.latest l ms st (λ h. refl) place fits
        (record {
          names = rw (n1, more) d.names;
          crates = rw (n2, more) d.crates;
          modules = rw (n5, more) d.modules;
          definitions = more_within k 8 _ _ room d.definitions;
        })
        (rw (n1, n2, n4, n5, more) (told_kept W A B k at l ms st kept)) index

    pub plain_on : {n next : ℕ} {a b c d e : Bool} → Judged n a b c d e → n ≡ 0 → word_count (one_more k l) ≡ next → next ≤ length W
        → (k ≡ 8 → l.definitions < definition_limit)
        → Indexes W B (one_more k l) → Answered W B k next (judge a b c d e (add_at k W at (snap_with W A l ms))) (Ok (one_more k l))
    plain_on j z place fits room index = judged_on j z plain_added (plain_stands place fits room index)

-- and of one that has no chain and no mark either
pub quiet_on : (W A : List ℕ) (k at : ℕ) (l : Layout) (ms : List Map) → Stands W A k at l ms
    → any (eqb k) (1 ∷ 2 ∷ 4 ∷ 5 ∷ 6 ∷ 8 ∷ 9 ∷ 11 ∷ []) ≡ false
    → {n next : ℕ} {a b c d e : Bool} → Judged n a b c d e → n ≡ 0 → word_count (one_more k l) ≡ next → next ≤ length W
    → Answered W A k next (judge a b c d e (add_at k W at (snap_with W A l ms))) (Ok (one_more k l))
unfolding any
quiet_on W A k at l ms st q j z place fits =
    let q1 = or_parts _ _ q in
    let q2 = or_parts _ _ q1.1 in
    let q4 = or_parts _ _ q2.1 in
    let q5 = or_parts _ _ q4.1 in
    let q6 = or_parts _ _ q5.1 in
    let q8 = or_parts _ _ q6.1 in
    let q9 = or_parts _ _ q8.1 in
    let q11 = or_parts _ _ q9.1 in
    plain_on W A A k at l ms st (λ i u v. refl) q1.0 q2.0 q4.0 q5.0 j z place fits (λ e. absurd (eqb-false k 8 q8.0 e))
    (indexes_grown W A A k at l.text l.latest l ms st (λ h. refl) (λ i u v. refl) (λ i u. refl) q1.0 q6.0 q8.0 q9.0 q11.0)
