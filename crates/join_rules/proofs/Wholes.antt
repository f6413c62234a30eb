-- What an accepted snapshot has beside what a reader needs.
use Prim.Native.Nat.{ℕ, zero, suc, ◌+◌, ◌≤◌, ◌<◌}
use mathlib.Core.Path.{◌≡◌, ◌∙◌, ap, subst}
use mathlib.Core.List.{List, [], ◌∷◌, ◌++◌}
use mathlib.Core.Bool.{Bool, true, false, ◌&&◌, ◌||◌, not, true≢false, false≢true}
use native.Mathlib.Omega.{arith}
use borrow.Author.Tests.{eqb-true, eq-eqb, ne_eqb, ltb-true, ltb-false, lt-leb}
use lib.Dec.{eqb, leb, ltb}
use lib.ListN.{length, get_or}
use Rattle.snapshot.specs.Lists.{any}
use Rattle.snapshot.specs.Limits.{crate_limit, module_limit, name_limit, definition_limit}
use Rattle.snapshot.specs.Words.{kind_of, pay_of, words_of, arguments_at}
use Rattle.snapshot.specs.Records.{Name, Definition, Snapshot, name_at, crate_at, dependency_at, map_at, module_at, child_at, prelude_at}
use Rattle.snapshot.specs.Records.{definition_at}
use Rattle.snapshot.specs.Records.{scope_at, import_at, extern_at, member_at}
use Rattle.snapshot.proofs.Laws.{length_rows}
use Rattle.check_rules.specs.Tests.{counts_of, no_name, padded, is_builtin, child_defined, child_placed, crate_range, is_edition, definition_defined}
use Rattle.check_rules.specs.Tests.{definition_placed, definition_range, definition_repeated, dependency_defined, dependency_range, extern_defined}
use Rattle.check_rules.specs.Tests.{import_defined, import_range, map_defined, map_placed, map_range, map_repeated, member_defined, member_placed}
use Rattle.check_rules.specs.Tests.{member_range, module_defined, module_placed, name_range, ns_placed, prelude_defined, same_child, same_entry}
use Rattle.check_rules.specs.Tests.{same_extern}
use Rattle.check_rules.specs.Tests.{same_name, same_prelude, scope_defined, scope_range}
use Rattle.check_rules.specs.Steps.{on, add_name, add_crate, add_dependency, add_map, add_module, add_child, add_prelude, add_definition, add_scope}
use Rattle.check_rules.specs.Steps.{add_import}
use Rattle.check_rules.specs.Steps.{add_extern, add_member, name_step, crate_step, dependency_step, map_step, module_step, child_step, prelude_step}
use Rattle.check_rules.specs.Steps.{definition_step, scope_step, import_step, extern_step, member_step}
use Rattle.check_rules.specs.Verdict.{record_step, accept, records, empty, verdict}
use Rattle.accept.specs.Valid.{Each, none}
use Rattle.accept.proofs.Accepted.{by_test, verdict_keeps, judge_on, judge_crate_on}
use Rattle.accept.proofs.Bools.{and_three, and_four, unless_right, or_right, each_map, each_snoc, length_snoc, get_or_old}
use Rattle.edit_rules.proofs.scope_edits.Lists.{each_two}
use Rattle.edit_rules.proofs.scope_edits.Stepped.{taking}
use Rattle.edit_rules.proofs.scope_edits.Folded.{records_done, next_record}
use Rattle.edit_rules.proofs.scope_edits.Split.{verdict_records}
use Rattle.join_rules.proofs.Stages.{Whole}

-- the text of a name that is read from words has its size

abbrev Sized : List Name → Type 0
Sized xs = Each (λ x. length x.text ≡ words_of x.bytes) xs

sized_at : (W : List ℕ) (at : ℕ) → length (name_at W at).text ≡ words_of (name_at W at).bytes
sized_at W at = length_rows (λ i. get_or W (at + 1 + i) 0) (words_of (pay_of (get_or W at 0)))

module _ (W : List ℕ) (at : ℕ) (s t : Snapshot) (h : Sized s.names) where
  kept : (u : Snapshot) → u ≡ t → Sized u.names → Sized t.names
  kept u e g = subst (λ (x : Snapshot). Sized x.names) e g

  name_sized : name_step s (name_at W at) ≡ on t → Sized t.names
  unfolding name_step
  name_sized e =
      let x = name_at W at in
      kept (add_name s x) (judge_on (name_range x) true (any (same_name x) s.names) true (ltb (length s.names) name_limit)
      (add_name s x) t e).same (each_snoc h (sized_at W at))

  crate_sized : crate_step s (crate_at W at) ≡ on t → Sized t.names
  unfolding crate_step
  crate_sized e =
      let x = crate_at W at in
      kept (add_crate s x) (judge_crate_on (crate_range x) (is_edition x.edition) (ltb (length s.crates) crate_limit) (add_crate s x) t e).same h

  dependency_sized : dependency_step s (dependency_at W at) ≡ on t → Sized t.names
  unfolding dependency_step
  dependency_sized e =
      let x = dependency_at W at in
      kept (add_dependency s x) (judge_on (dependency_range x) (dependency_defined (counts_of s) x) false true true (add_dependency s x) t e).same h

  map_sized : map_step s (map_at W at) ≡ on t → Sized t.names
  unfolding map_step
  map_sized e =
      let x = map_at W at in
      kept (add_map s x) (judge_on (map_range x) (map_defined (counts_of s) x) (map_repeated s x) (map_placed s x) true (add_map s x) t e).same h

  module_sized : module_step s (module_at W at) ≡ on t → Sized t.names
  unfolding module_step
  module_sized e =
      let x = module_at W at in
      kept (add_module s x) (judge_on true (module_defined (counts_of s) x) false (module_placed s x) (ltb (length s.modules) module_limit)
      (add_module s x) t e).same h

  child_sized : child_step s (child_at W at) ≡ on t → Sized t.names
  unfolding child_step
  child_sized e =
      let x = child_at W at in
      kept (add_child s x) (judge_on true (child_defined (counts_of s) x) (any (same_child x) s.children) (child_placed s x) true
      (add_child s x) t e).same h

  prelude_sized : prelude_step s (prelude_at W at) ≡ on t → Sized t.names
  unfolding prelude_step
  prelude_sized e =
      let x = prelude_at W at in
      kept (add_prelude s x) (judge_on true (prelude_defined (counts_of s) x) (any (same_prelude x) s.preludes) true true (add_prelude s x) t e).same
      h

  definition_sized : definition_step s (definition_at W at) ≡ on t → Sized t.names
  unfolding definition_step
  definition_sized e =
      let x = definition_at W at in
      kept (add_definition s x) (judge_on (definition_range s x) (definition_defined (counts_of s) x) (definition_repeated s x)
      (definition_placed s x) (ltb (length s.definitions) definition_limit) (add_definition s x) t e).same h

  scope_sized : scope_step s (scope_at W at) ≡ on t → Sized t.names
  unfolding scope_step
  scope_sized e =
      let x = scope_at W at in
      kept (add_scope s x) (judge_on (scope_range x) (scope_defined (counts_of s) x) (any (same_entry x) s.scopes)
      (ns_placed s x.ns x.definition) true (add_scope s x) t e).same h

  import_sized : import_step s (import_at W at) ≡ on t → Sized t.names
  unfolding import_step
  import_sized e =
      let x = import_at W at in
      kept (add_import s x) (judge_on (import_range x) (import_defined (counts_of s) x) false (ns_placed s x.ns x.definition) true
      (add_import s x) t e).same h

  extern_sized : extern_step s (extern_at W at) ≡ on t → Sized t.names
  unfolding extern_step
  extern_sized e =
      let x = extern_at W at in
      kept (add_extern s x) (judge_on true (extern_defined (counts_of s) x) (any (same_extern x) s.externs) true true (add_extern s x) t e).same h

  member_sized : member_step s (member_at W at) ≡ on t → Sized t.names
  unfolding member_step
  member_sized e =
      let x = member_at W at in
      kept (add_member s x) (judge_on (member_range x) (member_defined (counts_of s) x) false (member_placed s x) true (add_member s x) t e).same h

  record_sized : (k : ℕ) → record_step k W at s ≡ on t → Sized t.names
  unfolding record_step
  record_sized k e =
      by_test (eqb k 1) (λ a. name_sized (rw (record_step, a) at e)) (λ n1.
      by_test (eqb k 2) (λ a. crate_sized (rw (record_step, n1, a) at e)) (λ n2.
      by_test (eqb k 3) (λ a. dependency_sized (rw (record_step, n1, n2, a) at e)) (λ n3.
      by_test (eqb k 4) (λ a. map_sized (rw (record_step, n1, n2, n3, a) at e)) (λ n4.
      by_test (eqb k 5) (λ a. module_sized (rw (record_step, n1, n2, n3, n4, a) at e)) (λ n5.
      by_test (eqb k 6) (λ a. child_sized (rw (record_step, n1, n2, n3, n4, n5, a) at e)) (λ n6.
      by_test (eqb k 7) (λ a. prelude_sized (rw (record_step, n1, n2, n3, n4, n5, n6, a) at e)) (λ n7.
      by_test (eqb k 8) (λ a. definition_sized (rw (record_step, n1, n2, n3, n4, n5, n6, n7, a) at e)) (λ n8.
      by_test (eqb k 9) (λ a. scope_sized (rw (record_step, n1, n2, n3, n4, n5, n6, n7, n8, a) at e)) (λ n9.
      by_test (eqb k 10) (λ a. import_sized (rw (record_step, n1, n2, n3, n4, n5, n6, n7, n8, n9, a) at e)) (λ n10.
      by_test (eqb k 11) (λ a. extern_sized (rw (record_step, n1, n2, n3, n4, n5, n6, n7, n8, n9, n10, a) at e)) (λ n11.
      member_sized (rw (record_step, n1, n2, n3, n4, n5, n6, n7, n8, n9, n10, n11) at e))))))))))))

records_sized : (W : List ℕ) (u : Snapshot) (n at last : ℕ) (s : Snapshot) → records n W at last s ≡ accept u → length W ≤ n + at
    → Sized s.names → Sized u.names
records_sized W u zero at last s e enough h =
    subst (λ (x : Snapshot). Sized x.names) (records_done W zero at last s u (omega arith) e) h
records_sized W u (suc n) at last s e enough h =
    by_test (ltb at (length W))
    (λ c.
    let r = next_record W n at last s u (ltb-true at (length W) c) e in
    let q = taking W at last s r.state r.step in
    records_sized W u n (at + 1 + arguments_at W at) (kind_of (get_or W at 0)) r.state r.rest (omega arith)
    (record_sized W at s r.state h (kind_of (get_or W at 0)) q.step))
    (λ c. subst (λ (x : Snapshot). Sized x.names) (records_done W (suc n) at last s u (ltb-false at (length W) c) e) h)

accepted_sized : (W : List ℕ) (s : Snapshot) → verdict W ≡ accept s → Sized s.names
accepted_sized W s e = let r = verdict_records W s e in records_sized W s (length W) 0 0 empty r.1 (omega arith) none

-- the tests of names and definitions

record Held (names : List Name) (x : Definition) : Type 0 where
  second : (x.kind ≡ 2 → ⊥) → x.second ≡ 0
  known : x.kind ≡ 3 → x.first < length names
  builtin : x.kind ≡ 3 → is_builtin (get_or names x.first no_name) ≡ true

record Tested (s : Snapshot) : Type 0 where
  names : Each (λ x. padded x.bytes x.text ≡ true) s.names
  definitions : Each (Held s.names) s.definitions

held_kept : (xs : List Name) (y : Name) (x : Definition) → Held xs x → Held (xs ++ (y ∷ [])) x
held_kept xs y x h =
    let n = length_snoc xs y in
    record {
      second = h.second;
      known = λ k. let l = h.known k in omega arith;
      builtin = λ k. ap is_builtin (get_or_old xs y no_name x.first (h.known k)) ∙ h.builtin k;
    }

held : (s : Snapshot) (y : Definition) → definition_range s y ≡ true → definition_defined (counts_of s) y ≡ true → Held s.names y
held s y r k =
    let b = is_builtin (get_or s.names y.first no_name) in
    let p = and_four (leb 1 y.kind) (leb y.kind 5) (eqb y.kind 2 || eqb y.second 0)
    (not (eqb y.kind 3) || leb (length s.names) y.first || b) r in
    let q = and_three (not (eqb y.kind 2) || ltb y.first (length s.definitions) && ltb y.second (length s.names))
    (not (eqb y.kind 3) || ltb y.first (length s.names)) (eqb y.kind 2 || eqb y.kind 3 || ltb y.first (length s.modules)) k in
    let below : y.kind ≡ 3 → y.first < length s.names =
    λ z. ltb-true y.first (length s.names) (unless_right (eqb y.kind 3) (ltb y.first (length s.names)) q.1 (eq-eqb y.kind 3 z))
    in
    record {
      second = λ z. eqb-true y.second 0 (or_right (eqb y.kind 2) (eqb y.second 0) p.2 (ne_eqb y.kind 2 z));
      known = below;
      builtin = λ z. last_test (eqb y.kind 3) (leb (length s.names) y.first) b p.3 (eq-eqb y.kind 3 z)
          (lt-leb (length s.names) y.first (below z));
    }
  where
    last_test : (a c b : Bool) → not a || c || b ≡ true → a ≡ true → c ≡ false → b ≡ true
    last_test true true b e x z = absurd (true≢false z)
    last_test true false b e x z = e
    last_test false c b e x z = absurd (false≢true x)

accepted_tested : (W : List ℕ) (s : Snapshot) → verdict W ≡ accept s → Tested s
accepted_tested W s e =
    (verdict_keeps W Tested
    (record {
      names =
          λ s y p h. record {
            names = each_snoc h.names (and_three (leb 1 y.bytes) (leb y.bytes 255) (padded y.bytes y.text) p.ranged).2;
            definitions = each_map (λ x g. held_kept s.names y x g) h.definitions;
          };
      crates = λ s y p h. record { names = h.names; definitions = h.definitions };
      dependencies = λ s y p h. record { names = h.names; definitions = h.definitions };
      maps = λ s y p h. record { names = h.names; definitions = h.definitions };
      modules = λ s y p h. record { names = h.names; definitions = h.definitions };
      children = λ s y p h. record { names = h.names; definitions = h.definitions };
      preludes = λ s y p h. record { names = h.names; definitions = h.definitions };
      definitions = λ s y o p h. record { names = h.names; definitions = each_snoc h.definitions (held s y p.ranged p.known) };
      scopes = λ s y o p h. record { names = h.names; definitions = h.definitions };
      imports = λ s y o p h. record { names = h.names; definitions = h.definitions };
      externs = λ s y o p h. record { names = h.names; definitions = h.definitions };
      members = λ s y p h. record { names = h.names; definitions = h.definitions };
    })
    (record { names = none; definitions = none }) s e).kept

pub accepted_whole : (W : List ℕ) (s : Snapshot) → verdict W ≡ accept s → Whole s
accepted_whole W s e =
    let t = accepted_tested W s e in
    record {
      names = each_two (λ x p q. record { rest = p; size = q }) t.names (accepted_sized W s e);
      definitions = each_map (λ x h. record { second = h.second; builtin = h.builtin }) t.definitions;
    }
