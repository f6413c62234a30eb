-- The words that are put are those of the joined snapshot.
use Prim.Native.Nat.{ℕ, ◌+◌, ◌≤◌, ◌<◌}
use mathlib.Core.Path.{◌≡◌, refl, sym, ◌∙◌, ap, ap₂, subst}
use mathlib.Core.List.{List, [], ◌∷◌, ◌++◌, map}
use mathlib.Core.Bool.{Bool, true}
use native.Mathlib.Omega.{arith}
use native.Mathlib.Nat.{zero-add}
use lib.ListN.{length, get_or}
use Rattle.snapshot.specs.Lists.{rows}
use Rattle.snapshot.specs.Records.{Crate, Dependency, Child, Prelude, Scope, Import, Extern, Member, Snapshot}
use Rattle.snapshot.specs.Layouts.{crate_base, dependency_base, map_base, child_base, prelude_base, definition_base, scope_base, import_base}
use Rattle.snapshot.specs.Layouts.{extern_base}
use Rattle.snapshot.specs.Layouts.{member_base, word_count}
use Rattle.snapshot.specs.declared.layout.Layout.{Layout}
use Rattle.check_rules.specs.Tests.{no_name, no_definition, same_name}
use Rattle.accept.specs.Valid.{Valid}
use Rattle.accept.proofs.Bools.{each_map, each_at}
use Rattle.accept.proofs.Valid.{accepted_valid}
use Rattle.hir_def.specs.Finds.{select}
use Rattle.hir_def.proofs.Every.{each_mapped}
use Rattle.edit_rules.specs.Entries.{scope_words}
use Rattle.edit_rules.specs.Written.{name_words, crate_words, dependency_words, child_words, prelude_words, definition_words, import_words}
use Rattle.edit_rules.specs.Written.{extern_words}
use Rattle.edit_rules.specs.Written.{member_words, each_words, tree_words, joined, snapshot_words}
use Rattle.join_rules.specs.Joined.{is_new, merged, same_builtin, Numbers, second_numbers, dependency_to, map_to, module_to, child_to, prelude_to}
use Rattle.join_rules.specs.Joined.{definition_to, scope_to, import_to, extern_to, member_to, together, joined_words}
use Rattle.join_rules.proofs.Runs.{At, words_append}
use Rattle.join_rules.proofs.Stages.{Whole}
use Rattle.join_rules.proofs.Wholes.{accepted_whole}
use Rattle.join.specs.numbers.Parts.{part_of, Part}
use Rattle.join.specs.numbers.Numbered.{NumbersIn}
use Rattle.join.proofs.numbers.Parts.{Kinds, part_kinds}
use Rattle.join.specs.records.Moves.{moved_run, run_of, base_of, kind_to, words_to}
use Rattle.join.proofs.records.Passes.{run_is, passes_to, passes_done, Step, each_passes, select_all, each_of_map}
use Rattle.join.proofs.records.Trees.{tree_both, tree_passes}
use Rattle.join.proofs.Steps.{partly_same, name_step_lem, crate_step_lem, dependency_step_lem, child_step_lem, prelude_step_lem}
use Rattle.join.proofs.Steps.{definition_step_lem, scope_step_lem}
use Rattle.join.proofs.Steps.{import_step_lem, extern_step_lem, member_step_lem}

module _ (A W X : List ℕ) (l m : Layout) where
  -- one kind: the first's words, and the moved words of the second's records that pass a test
  kind_both : {R : Type 0} (f g : R → List ℕ) (p : R → Bool) (none : R) (xs ys : List R) {a c : ℕ} (b d : ℕ) → At W a (each_words f xs)
      → b ≡ a + length (each_words f xs) → At X c (each_words f ys) → d ≡ c + length (each_words f ys)
      → ((i q : ℕ) → i < length ys → At X q (f (get_or ys i none)) → Step A l X f g p (get_or ys i none) q i)
      → run_of W a b ++ moved_run A l X c d ≡ each_words f xs ++ each_words g (select p ys)
  kind_both {R} f g p none xs ys {a} {c} b d h e k z one =
      let o = each_passes {R = R} {A = A} {l = l} {X = X} {end = d} f g p none ys c 0 (omega arith) k
      (λ i q j at. subst (λ n. Step A l X f g p (get_or ys i none) q n) (sym (zero-add i)) (one i q j at)) in
      ap₂ (λ u v. u ++ v) (run_is (each_words f xs) b h e) (passes_done (passes_to o (sym z) refl refl))

  -- all of them, moved
  all_both : {R : Type 0} (f : R → List ℕ) (g : R → R) (xs ys : List R)
      → each_words f xs ++ each_words (λ y. f (g y)) (select (λ y. true) ys) ≡ each_words f (xs ++ map g ys)
  all_both f g xs ys =
      ap (λ w. each_words f xs ++ each_words (λ y. f (g y)) w) (select_all ys) ∙ ap (λ w. each_words f xs ++ w) (each_of_map f g ys)
      ∙ sym (words_append f xs (map g ys))

  module _ (one : Part W l) (two : Part X m) (h : NumbersIn (part_of W) (part_of X) A) where
    abbrev s : Snapshot
    s = part_of W

    abbrev t : Snapshot
    t = part_of X

    abbrev e : Numbers
    e = second_numbers s t

    abbrev u : Snapshot
    u = together s t

    vs : Valid s
    vs = accepted_valid W s one.same

    vt : Valid t
    vt = accepted_valid X t two.same

    wt : Whole t
    wt = accepted_whole X t two.same

    ks : Kinds W l s
    ks = part_kinds W l one

    kt : Kinds X m t
    kt = part_kinds X m two

    few_maps : length t.maps ≤ 512
    few_maps = omega (arith, two.maps, two.counted.maps, two.counted.modules, vt.limits.modules)

    names_same : kind_to A l m W X 0 ≡ each_words name_words u.names
    unfolding kind_to base_of together merged
    names_same =
        kind_both name_words name_words (is_new same_name s.names) no_name s.names t.names (crate_base l) (crate_base m) ks.names
        (let a = one.counted.text in omega arith) kt.names (let a = two.counted.text in omega arith)
        (λ i q j at. name_step_lem s t A l X one.counted h (get_or t.names i no_name) q i (each_at no_name i vt.ranges.names j)
        (each_at no_name i wt.names j).size j refl at)
        ∙ sym (words_append name_words s.names (select (is_new same_name s.names) t.names))

    crates_same : kind_to A l m W X 1 ≡ each_words crate_words u.crates
    unfolding kind_to base_of together
    crates_same =
        let d : Crate = record { origin = 0; no_std = 0; edition = 0 } in
        kind_both crate_words crate_words (λ y. true) d s.crates t.crates (dependency_base l) (dependency_base m) ks.crates
        (let a = one.counted.crates in let b = ks.sizes.crates in omega arith) kt.crates
        (let a = two.counted.crates in let b = kt.sizes.crates in omega arith)
        (λ i q j at. crate_step_lem s t A l X one.counted h vt.limits q i (get_or t.crates i d) (each_at d i vt.ranges.crates j) at)
        ∙ ap (λ w. each_words crate_words s.crates ++ each_words crate_words w) (select_all t.crates)
        ∙ sym (words_append crate_words s.crates t.crates)

    dependencies_same : kind_to A l m W X 2 ≡ each_words dependency_words u.dependencies
    unfolding kind_to base_of together
    dependencies_same =
        let d : Dependency = record { owner = 0; crate = 0; sysroot = 0 } in
        kind_both dependency_words (λ y. dependency_words (dependency_to e y)) (λ y. true) d s.dependencies t.dependencies
        (map_base l) (map_base m) ks.dependencies
        (let a = one.counted.dependencies in let b = ks.sizes.dependencies in omega arith) kt.dependencies
        (let a = two.counted.dependencies in let b = kt.sizes.dependencies in omega arith)
        (λ i q j at. dependency_step_lem s t A l X one.counted h vt.limits q i (get_or t.dependencies i d)
        (each_at d i vt.ranges.dependencies j) at)
        ∙ all_both dependency_words (dependency_to e) s.dependencies t.dependencies

    tree_same : kind_to A l m W X 3 ≡ tree_words 0 u.maps u.modules
    unfolding kind_to base_of together
    tree_same =
        let b = ks.sizes.tree in
        let c = kt.sizes.tree in
        let o1 = one.counted.maps in
        let o2 = one.counted.modules in
        let t1 = two.counted.maps in
        let t2 = two.counted.modules in
        let r = run_is (tree_words 0 s.maps s.modules) (child_base l) ks.tree (omega arith) in
        let z = vt.limits.crates in
        let y = few_maps in
        let p = tree_passes A l X (child_base m) 0 t.maps t.modules (map_base m) 0 (omega arith) kt.tree
        (each_map (λ x f. let g = f.crate in omega arith) vt.ranges.maps) (each_map (λ x f. let g = f.map in omega arith)
        vt.ranges.modules) in
        let w = passes_done (passes_to p.1 (let g : map_base m + length (tree_words 0 t.maps t.modules) ≡ child_base m = omega arith in g)
        refl refl) in
        let n : l.maps + 0 ≡ 0 + length s.maps = omega arith in
        ap₂ (λ u v. u ++ v) r
        (w ∙ ap (λ (N : Numbers). tree_words (l.maps + 0) (map (map_to N) t.maps) (map (module_to N) t.modules))
        (partly_same s A l one.counted)
        ∙ ap (λ k. tree_words k (map (map_to e) t.maps) (map (module_to e) t.modules)) n)
        ∙ sym (tree_both 0 s.maps (map (map_to e) t.maps) s.modules (map (module_to e) t.modules)
        (each_map (λ x f. let g = f.map in omega arith) vs.ranges.modules)
        (each_mapped (module_to e) (λ x f. omega arith) vt.ranges.modules))

    children_same : kind_to A l m W X 4 ≡ each_words child_words u.children
    unfolding kind_to base_of together
    children_same =
        let d : Child = record { owner = 0; child = 0 } in
        kind_both child_words (λ y. child_words (child_to e y)) (λ y. true) d s.children t.children (prelude_base l) (prelude_base m) ks.children
        (let a = one.counted.children in let b = ks.sizes.children in omega arith) kt.children
        (let a = two.counted.children in let b = kt.sizes.children in omega arith)
        (λ i q j at. child_step_lem s t A l X one.counted h vt.limits q i (get_or t.children i d) (each_at d i vt.ranges.children j) at)
        ∙ all_both child_words (child_to e) s.children t.children

    preludes_same : kind_to A l m W X 5 ≡ each_words prelude_words u.preludes
    unfolding kind_to base_of together
    preludes_same =
        let d : Prelude = record { map = 0; target = 0 } in
        kind_both prelude_words (λ y. prelude_words (prelude_to e y)) (λ y. true) d s.preludes t.preludes (definition_base l)
        (definition_base m) ks.preludes
        (let a = one.counted.preludes in let b = ks.sizes.preludes in omega arith) kt.preludes
        (let a = two.counted.preludes in let b = kt.sizes.preludes in omega arith)
        (λ i q j at. prelude_step_lem s t A l X one.counted h vt.limits q i (get_or t.preludes i d) few_maps
        (each_at d i vt.ranges.preludes j) at)
        ∙ all_both prelude_words (prelude_to e) s.preludes t.preludes

    definitions_same : kind_to A l m W X 6 ≡ each_words definition_words u.definitions
    unfolding kind_to base_of together
    definitions_same =
        let p = is_new (same_builtin s t) s.definitions in
        kind_both definition_words (λ y. definition_words (definition_to e y)) p no_definition s.definitions t.definitions
        (scope_base l) (scope_base m)
        ks.definitions (let a = one.counted.definitions in let b = ks.sizes.definitions in omega arith) kt.definitions
        (let a = two.counted.definitions in let b = kt.sizes.definitions in omega arith)
        (λ i q j at. definition_step_lem s t A l X one.counted h vt.limits q i (get_or t.definitions i no_definition)
        (each_at no_definition i vt.ranges.definitions j) j refl at)
        ∙ ap (λ w. each_words definition_words s.definitions ++ w) (each_of_map definition_words (definition_to e) (select p t.definitions))
        ∙ sym (words_append definition_words s.definitions (map (definition_to e) (select p t.definitions)))

    scopes_same : kind_to A l m W X 7 ≡ each_words scope_words u.scopes
    unfolding kind_to base_of together
    scopes_same =
        let d : Scope = record { owner = 0; ns = 0; name = 0; definition = 0; visibility = 0; number = 0; declared = 0; bits = 0; place = 0 } in
        kind_both scope_words (λ y. scope_words (scope_to e y)) (λ y. true) d s.scopes t.scopes (import_base l) (import_base m) ks.scopes
        (let a = one.counted.scopes in let b = ks.sizes.scopes in omega arith) kt.scopes
        (let a = two.counted.scopes in let b = kt.sizes.scopes in omega arith)
        (λ i q j at. scope_step_lem s t A l X one.counted h vt.limits q i (get_or t.scopes i d) (each_at d i vt.ranges.scopes j) at)
        ∙ all_both scope_words (scope_to e) s.scopes t.scopes

    imports_same : kind_to A l m W X 8 ≡ each_words import_words u.imports
    unfolding kind_to base_of together
    imports_same =
        let d : Import = record { owner = 0; ns = 0; definition = 0; name = 0; container = 0; bits = 0; place = 0 } in
        kind_both import_words (λ y. import_words (import_to e y)) (λ y. true) d s.imports t.imports (extern_base l) (extern_base m) ks.imports
        (let a = one.counted.imports in let b = ks.sizes.imports in omega arith) kt.imports
        (let a = two.counted.imports in let b = kt.sizes.imports in omega arith)
        (λ i q j at. import_step_lem s t A l X one.counted h vt.limits q i (get_or t.imports i d) (each_at d i vt.ranges.imports j) at)
        ∙ all_both import_words (import_to e) s.imports t.imports

    externs_same : kind_to A l m W X 9 ≡ each_words extern_words u.externs
    unfolding kind_to base_of together
    externs_same =
        let d : Extern = record { owner = 0; name = 0; target = 0; place = 0 } in
        kind_both extern_words (λ y. extern_words (extern_to e y)) (λ y. true) d s.externs t.externs (member_base l) (member_base m) ks.externs
        (let a = one.counted.externs in let b = ks.sizes.externs in omega arith) kt.externs
        (let a = two.counted.externs in let b = kt.sizes.externs in omega arith)
        (λ i q j at. extern_step_lem s t A l X one.counted h vt.limits q i (get_or t.externs i d) (each_at d i vt.ranges.externs j) at)
        ∙ all_both extern_words (extern_to e) s.externs t.externs

    members_same : kind_to A l m W X 10 ≡ each_words member_words u.members
    unfolding kind_to base_of together
    members_same =
        let d : Member = record { parent = 0; name = 0; definition = 0; kind = 0; bits = 0 } in
        kind_both member_words (λ y. member_words (member_to e y)) (λ y. true) d s.members t.members (word_count l) (word_count m) ks.members
        (let a = one.counted.members in let b = ks.sizes.members in omega arith) kt.members
        (let a = two.counted.members in let b = kt.sizes.members in omega arith)
        (λ i q j at. member_step_lem s t A l X one.counted h vt.limits q i (get_or t.members i d) (each_at d i vt.ranges.members j) at)
        ∙ all_both member_words (member_to e) s.members t.members

    -- The words of both, kind by kind, are the words of the two joined.
    pub words_same : words_to A l m W X ≡ joined_words s t
    unfolding rows snapshot_words
    words_same =
        ap joined
        (λ i. names_same i
        ∷ crates_same i
        ∷ dependencies_same i
        ∷ tree_same i
        ∷ children_same i
        ∷ preludes_same i
        ∷ definitions_same i
        ∷ scopes_same i
        ∷ imports_same i
        ∷ externs_same i
        ∷ members_same i
        ∷ [])
