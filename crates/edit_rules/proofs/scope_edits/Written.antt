-- Accepted words are those that their snapshot is written as.
use Prim.Native.Nat.{ℕ, zero, suc, ◌+◌, ◌*◌, ◌-◌, ◌≤◌, ◌<◌}
use mathlib.Core.Path.{◌≡◌, refl, sym, ◌∙◌, ap, ap₂, subst}
use mathlib.Core.List.{List, [], ◌∷◌, ◌++◌, append-nil, append_assoc}
use mathlib.Core.Bool.{Bool, true, false, ◌&&◌, ◌||◌, not}
use native.Mathlib.Omega.{arith}
use native.Mathlib.Nat.{le_antisymm}
use native.Mathlib.Nat.{add-zero}
use lib.Dec.{eqb, leb, ltb}
use lib.ListN.{length, get_or, take, drop}
use lib.Seq.{take-add, take_all}
use borrow.Author.Tests.{eqb-true, eq-eqb, ne_eqb, ltb-true, ltb-false, leb-true}
use Rattle.snapshot.specs.Lists.{all, any, rows}
use Rattle.snapshot.specs.Limits.{crate_limit, module_limit, name_limit, definition_limit}
use Rattle.snapshot.specs.Words.{kind_of, pay_of, words_of, arguments_of, arguments_at}
use Rattle.snapshot.specs.Records.{Map, Module, Snapshot, name_at, crate_at, dependency_at, map_at, module_at, child_at, prelude_at, definition_at}
use Rattle.snapshot.specs.Records.{scope_at}
use Rattle.snapshot.specs.Records.{import_at, extern_at, member_at}
use Rattle.snapshot.proofs.Laws.{rows_part, rows_ext, after_head}
use Rattle.check_rules.specs.Tests.{child_defined, child_placed, counts_of, crate_range, is_edition, definition_defined, definition_placed}
use Rattle.check_rules.specs.Tests.{definition_range}
use Rattle.check_rules.specs.Tests.{definition_repeated, dependency_defined, dependency_range, extern_defined, import_defined, import_range, is_in}
use Rattle.check_rules.specs.Tests.{map_defined, map_placed, map_range, map_repeated, member_defined, member_placed, member_range, module_defined}
use Rattle.check_rules.specs.Tests.{module_placed, map_of, name_range, ns_placed, prelude_defined, same_child, same_entry, same_extern, same_name}
use Rattle.check_rules.specs.Tests.{same_prelude}
use Rattle.check_rules.specs.Tests.{scope_defined, scope_range}
use Rattle.check_rules.specs.Steps.{on, add_name, add_crate, add_dependency, add_map, add_module, add_child, add_prelude, add_definition, add_scope}
use Rattle.check_rules.specs.Steps.{add_import}
use Rattle.check_rules.specs.Steps.{add_extern, add_member, name_step, crate_step, dependency_step, map_step, module_step, child_step, prelude_step}
use Rattle.check_rules.specs.Steps.{definition_step, scope_step, import_step, extern_step, member_step}
use Rattle.check_rules.specs.Verdict.{follows, record_step, accept, records, empty, verdict}
use Rattle.accept.specs.Valid.{Each, none, more}
use Rattle.accept.proofs.Accepted.{by_test, judge_on, judge_crate_on}
use Rattle.accept.proofs.Bools.{and_two, and_four, all_below, each_map, each_snoc, length_snoc, or_right, unless_right}
use Rattle.edit_rules.specs.Entries.{scope_words}
use Rattle.edit_rules.specs.Written.{head_of, name_words, crate_words, dependency_words, map_words, module_words, child_words, prelude_words}
use Rattle.edit_rules.specs.Written.{definition_words}
use Rattle.edit_rules.specs.Written.{import_words, extern_words, member_words, each_words, words_within, tree_words, kinds_words, joined}
use Rattle.edit_rules.specs.Written.{snapshot_words}
use Rattle.edit_rules.proofs.scope_edits.Moved.{arguments_are, above}
use Rattle.edit_rules.proofs.scope_edits.Stepped.{Taking, taking, taking_within, follows_parts}
use Rattle.edit_rules.proofs.scope_edits.Folded.{records_done, next_record}
use Rattle.edit_rules.proofs.scope_edits.Split.{verdict_records}

-- one record more at the end of a list

pub each_more : {A : Type 0} (f : A → List ℕ) (xs : List A) (y : A) → each_words f (xs ++ (y ∷ [])) ≡ each_words f xs ++ f y
unfolding each_words
each_more f [] y = append-nil (f y)
each_more f (x ∷ xs) y = ap (λ l. f x ++ l) (each_more f xs y) ∙ sym (append_assoc (f x) (each_words f xs) (f y))

within_other : (k : ℕ) (x : Module) → (x.map ≡ k → ⊥) → words_within k x ≡ []
within_other k x n = rw (words_within, ne_eqb x.map k n)

-- a map that has no module
each_none : (k : ℕ) (xs : List Module) → Each (λ x. x.map < k) xs → each_words (words_within k) xs ≡ []
unfolding each_words
each_none k [] h = refl
each_none k (x ∷ xs) (more p h) = ap₂ (λ a b. a ++ b) (within_other k x (λ e. omega (arith, p))) (each_none k xs h)

-- a map more, which has no module yet
pub tree_map : (k : ℕ) (ms : List Map) (y : Map) (xs : List Module) → Each (λ x. x.map < k + length ms) xs
    → tree_words k (ms ++ (y ∷ [])) xs ≡ tree_words k ms xs ++ map_words y
unfolding tree_words
tree_map k [] y xs h =
    let q : k + 0 ≡ k = add-zero k in
    let e = each_none k xs (subst (λ n. Each (λ x. x.map < n) xs) q h) in
    ap (λ l. map_words y ++ (l ++ [])) e
tree_map k (m ∷ ms) y xs h =
    let q : k + suc (length ms) ≡ k + 1 + length ms = omega arith in
    let e = tree_map (k + 1) ms y xs (subst (λ n. Each (λ x. x.map < n) xs) q h) in
    let a = each_words (words_within k) xs in
    let b = tree_words (k + 1) ms xs in
    ap (λ l. map_words m ++ (a ++ l)) e
    ∙ ap (λ l. map_words m ++ l) (sym (append_assoc a b (map_words y)))
    ∙ sym (append_assoc (map_words m) (a ++ b) (map_words y))

-- a module more, in the last map
pub tree_module : (k : ℕ) (ms : List Map) (xs : List Module) (y : Module) → k ≤ y.map → y.map + 1 ≡ k + length ms
    → tree_words k ms (xs ++ (y ∷ [])) ≡ tree_words k ms xs ++ module_words y
unfolding tree_words
tree_module k [] xs y h e = absurd (omega arith)
tree_module k (m ∷ []) xs y h e =
    let q : y.map ≡ k = omega arith in
    let a = each_words (words_within k) xs in
    let w : words_within k y ≡ module_words y = rw (words_within, eq-eqb y.map k q) in
    ap (λ l. map_words m ++ (l ++ [])) (each_more (words_within k) xs y ∙ ap (λ l. a ++ l) w)
    ∙ ap (λ l. map_words m ++ l) (append-nil (a ++ module_words y) ∙ ap (λ l. l ++ module_words y) (sym (append-nil a)))
    ∙ sym (append_assoc (map_words m) (a ++ []) (module_words y))
tree_module k (m ∷ n ∷ ms) xs y h e =
    let a = each_words (words_within k) xs in
    let b = tree_words (k + 1) (n ∷ ms) xs in
    let w : words_within k y ≡ [] = within_other k y (λ q. omega arith) in
    let f : each_words (words_within k) (xs ++ (y ∷ [])) ≡ a = each_more (words_within k) xs y ∙ ap (λ l. a ++ l) w ∙ append-nil a in
    let r = tree_module (k + 1) (n ∷ ms) xs y (omega arith) (omega arith) in
    ap₂ (λ l o. map_words m ++ (l ++ o)) f r
    ∙ ap (λ l. map_words m ++ l) (sym (append_assoc a b (module_words y)))
    ∙ sym (append_assoc (map_words m) (a ++ b) (module_words y))

-- more words in one of the kinds
put : ℕ → List ℕ → List (List ℕ) → List (List ℕ)
put n w [] = []
put zero w (p ∷ ps) = (p ++ w) ∷ ps
put (suc n) w (p ∷ ps) = p ∷ put n w ps

-- where those after it have none
joined_put : (n : ℕ) (w : List ℕ) (ps : List (List ℕ)) → n < length ps → joined (drop (suc n) ps) ≡ [] → joined (put n w ps) ≡ joined ps ++ w
unfolding joined put
joined_put n w [] h e = absurd (omega arith)
joined_put zero w (p ∷ ps) h e =
    ap (λ l. (p ++ w) ++ l) e ∙ append-nil (p ++ w) ∙ ap (λ l. l ++ w) (sym (append-nil p)) ∙ ap (λ l. (p ++ l) ++ w) (sym e)
joined_put (suc n) w (p ∷ ps) h e = ap (λ l. p ++ l) (joined_put n w ps (omega arith) e) ∙ sym (append_assoc p (joined ps) w)

drop_put : (n : ℕ) (w : List ℕ) (ps : List (List ℕ)) → drop (suc n) (put n w ps) ≡ drop (suc n) ps
unfolding put
drop_put n w [] = refl
drop_put zero w (p ∷ ps) = refl
drop_put (suc n) w (p ∷ ps) = drop_put n w ps

append_none : (a b : List ℕ) → a ++ b ≡ [] → b ≡ []
append_none [] b e = e
append_none (x ∷ a) b e = let z : ◌≡◌ {A = ℕ} 0 1 = cc in absurd (omega arith)

drop_none : (n m : ℕ) (ps : List (List ℕ)) → n ≤ m → joined (drop n ps) ≡ [] → joined (drop m ps) ≡ []
unfolding joined
drop_none n zero [] h e = refl
drop_none n (suc m) [] h e = refl
drop_none zero zero (p ∷ ps) h e = e
drop_none zero (suc m) (p ∷ ps) h e = drop_none zero m ps (omega arith) (append_none p (joined ps) e)
drop_none (suc n) zero (p ∷ ps) h e = absurd (omega arith)
drop_none (suc n) (suc m) (p ∷ ps) h e = drop_none n m ps (omega arith) e

-- how many of the kinds' words a record of a kind ends
abbrev rank : ℕ → ℕ
rank k = get_or (0 ∷ 1 ∷ 2 ∷ 3 ∷ 4 ∷ 4 ∷ 5 ∷ 6 ∷ 7 ∷ 8 ∷ 9 ∷ 10 ∷ 10 ∷ 11 ∷ []) k 0

abbrev ranked : ℕ → ℕ → Bool
ranked last k = not (follows last k) || leb (rank last) (rank k)

all_ranked : all (λ k. all (λ last. ranked last k) (rows (λ i. i) 0 14)) (rows (λ i. i) 0 14) ≡ true
unfolding all rows
all_ranked = refl

rank_rise : (last k : ℕ) → follows last k ≡ true → rank last ≤ rank k
rank_rise last k f =
    let p = follows_parts last k f in
    let h = leb-true k 13 p.1 in
    let l : last ≤ 13 = by_test (leb last k) (λ c. let r = leb-true last k c in omega arith)
    (λ c. let r = eqb-true last 5 (and_two (eqb last 5) (eqb k 4) (or_right (leb last k) (eqb last 5 && eqb k 4) p.3 c)).0 in omega arith) in
    let a = all_below (λ k. all (λ last. ranked last k) (rows (λ i. i) 0 14)) 14 k all_ranked (omega arith) in
    let b : not (follows last k) || leb (rank last) (rank k) ≡ true = all_below (λ last. ranked last k) 14 last a (omega arith) in
    leb-true (rank last) (rank k) (unless_right (follows last k) (leb (rank last) (rank k)) b f)

-- what the fold has at a place: the words up to there, no record of a later kind, modules of known maps
record Written (W : List ℕ) (at last : ℕ) (s : Snapshot) : Type 0 where
  same : take at W ≡ joined (kinds_words s)
  later : joined (drop (rank last) (kinds_words s)) ≡ []
  known : Each (λ x. x.map < length s.maps) s.modules

rows_shift : (f : ℕ → ℕ) (j k n : ℕ) → rows f (j + k) n ≡ rows (λ i. f (j + i)) k n
unfolding rows
rows_shift f j k zero = refl
rows_shift f j k (suc n) =
    let q : j + k + 1 ≡ j + (k + 1) = omega arith in
    ap (λ l. f (j + k) ∷ l) (ap (λ m. rows f m n) q ∙ rows_shift f j (k + 1) n)

module _ (W : List ℕ) (at : ℕ) where
  head_read : (k : ℕ) → kind_of (get_or W at 0) ≡ k → get_or W (at + 0) 0 ≡ head_of k (pay_of (get_or W at 0))
  head_read k e = ap (λ i. get_or W i 0) (add-zero at) ∙ (omega arith)

  -- the words of a record of kind k with n arguments
  record_read_lem : (k n : ℕ) → kind_of (get_or W at 0) ≡ k → at + suc n ≤ length W
      → take (at + suc n) W ≡ take at W ++ (head_of k (pay_of (get_or W at 0)) ∷ rows (λ i. get_or W (at + i) 0) 1 n)
  unfolding rows
  record_read_lem k n e h =
      take-add at (suc n) W ∙ ap (λ l. take at W ++ l) (sym (rows_part W at (suc n) h))
      ∙ ap (λ w. take at W ++ (w ∷ rows (λ i. get_or W (at + i) 0) 1 n)) (head_read k e)

  text_read : (n : ℕ) → rows (λ i. get_or W (at + i) 0) 1 n ≡ rows (λ i. get_or W (at + 1 + i) 0) 0 n
  text_read n = rows_shift (λ i. get_or W (at + i) 0) 1 0 n
      ∙ rows_ext (λ i. get_or W (at + (1 + i)) 0) (λ i. get_or W (at + 1 + i) 0) n (λ i h. after_head W at i)

module _ (W : List ℕ) (at last : ℕ) (s t : Snapshot) (h : Written W at last s) (q : Taking W at last s t) (l : at < length W) where
  abbrev Grown : Type 0
  Grown = Written W (at + 1 + arguments_at W at) (kind_of (get_or W at 0)) t

  read : (k n : ℕ) → kind_of (get_or W at 0) ≡ k → arguments_at W at ≡ n
      → take (at + 1 + arguments_at W at) W ≡ take at W ++ (head_of k (pay_of (get_or W at 0)) ∷ rows (λ i. get_or W (at + i) 0) 1 n)
  read k n e a =
      let w = taking_within W at last s t q l in
      let o : at + 1 + arguments_at W at ≡ at + suc n = omega arith in
      ap (λ m. take m W) o ∙ record_read_lem W at k n e (omega arith)

  -- one record of kind k more, whose words are the last of the kinds up to there
  grown : (k n : ℕ) (w : List ℕ) (u : Snapshot) → kind_of (get_or W at 0) ≡ k → rank k ≡ suc n → n < 11 → kinds_words u ≡ put n w (kinds_words s)
      → take (at + 1 + arguments_at W at) W ≡ take at W ++ w → Each (λ x. x.map < length u.maps) u.modules → u ≡ t → Grown
  grown k n w u e r b p a m same =
      let c : rank (kind_of (get_or W at 0)) ≡ suc n = ap rank e ∙ r in
      let g = rank_rise last (kind_of (get_or W at 0)) q.order in
      let none-later = drop_none (rank last) (suc n) (kinds_words s) (omega arith) h.later in
      subst (λ x. Written W (at + 1 + arguments_at W at) (kind_of (get_or W at 0)) x) same
      (record {
        same = a ∙ ap (λ x. x ++ w) h.same ∙ sym (joined_put n w (kinds_words s) b none-later) ∙ ap joined (sym p);
        later = ap (λ x. joined (drop x (kinds_words u))) c ∙ ap (λ x. joined (drop (suc n) x)) p ∙ ap joined (drop_put n w (kinds_words s))
            ∙ none-later;
        known = m;
      })

  name_written : kind_of (get_or W at 0) ≡ 1 → name_step s (name_at W at) ≡ on t → Grown
  unfolding name_step arguments_of put
  name_written e f =
      let x = name_at W at in
      let o = judge_on (name_range x) true (any (same_name x) s.names) true (ltb (length s.names) name_limit) (add_name s x) t f in
      grown 1 0 (name_words x) (add_name s x) e refl (omega arith) (rw (each_more name_words s.names x))
      (read 1 (words_of x.bytes) e (arguments_are W at 1 e) ∙ ap (λ y. take at W ++ (head_of 1 x.bytes ∷ y))
      (text_read W at (words_of x.bytes)))
      h.known o.same

  crate_written : kind_of (get_or W at 0) ≡ 2 → crate_step s (crate_at W at) ≡ on t → Grown
  unfolding crate_step arguments_of put rows
  crate_written e f =
      let x = crate_at W at in
      let o = judge_crate_on (crate_range x) (is_edition x.edition) (ltb (length s.crates) crate_limit) (add_crate s x) t f in
      let g : pay_of (get_or W at 0) ≡ x.origin + 8 * x.no_std = omega arith in
      grown 2 1 (crate_words x) (add_crate s x) e refl (omega arith) (rw (each_more crate_words s.crates x))
      (read 2 1 e (arguments_are W at 2 e) ∙ ap (λ y. take at W ++ (head_of 2 y ∷ x.edition ∷ [])) g) h.known o.same

  dependency_written : kind_of (get_or W at 0) ≡ 3 → dependency_step s (dependency_at W at) ≡ on t → Grown
  unfolding dependency_step arguments_of put rows
  dependency_written e f =
      let x = dependency_at W at in
      let o = judge_on (dependency_range x) (dependency_defined (counts_of s) x) false true true (add_dependency s x) t f in
      grown 3 2 (dependency_words x) (add_dependency s x) e refl (omega arith) (rw (each_more dependency_words s.dependencies x))
      (read 3 2 e (arguments_are W at 3 e)) h.known o.same

  map_written : kind_of (get_or W at 0) ≡ 4 → map_step s (map_at W at) ≡ on t → Grown
  unfolding map_step arguments_of put rows
  map_written e f =
      let x = map_at W at in
      let o = judge_on (map_range x) (map_defined (counts_of s) x) (map_repeated s x) (map_placed s x) true (add_map s x) t f in
      let n = length_snoc s.maps x in
      let z : length s.maps ≡ 0 + length s.maps = omega arith in
      grown 4 3 (map_words x) (add_map s x) e refl (omega arith)
      (rw (tree_map 0 s.maps x s.modules (subst (λ m. Each (λ y. y.map < m) s.modules) z h.known)))
      (read 4 2 e (arguments_are W at 4 e)) (each_map (λ (y : Module) p. omega (arith, p, n)) h.known) o.same

  module_written : kind_of (get_or W at 0) ≡ 5 → module_step s (module_at W at) ≡ on t → Grown
  unfolding module_step arguments_of put rows
  module_written e f =
      let x = module_at W at in
      let o = judge_on true (module_defined (counts_of s) x) false (module_placed s x) (ltb (length s.modules) module_limit) (add_module s x) t f in
      let b = any (is_in x.map) s.modules in
      let p = and_four (eqb (x.map + 1) (length s.maps)) (b || eqb x.parent 0) (not b || not (eqb x.parent 0))
      (eqb x.parent 0 || eqb (map_of s (x.parent - 1)) x.map) o.passed.right in
      let m : x.map + 1 ≡ length s.maps = eqb-true (x.map + 1) (length s.maps) p.0 in
      grown 5 3 (module_words x) (add_module s x) e refl (omega arith)
      (rw (tree_module 0 s.maps s.modules x (omega arith) (omega arith)))
      (read 5 1 e (arguments_are W at 5 e)) (each_snoc h.known (omega arith)) o.same

  child_written : kind_of (get_or W at 0) ≡ 6 → child_step s (child_at W at) ≡ on t → Grown
  unfolding child_step arguments_of put rows
  child_written e f =
      let x = child_at W at in
      let o = judge_on true (child_defined (counts_of s) x) (any (same_child x) s.children) (child_placed s x) true (add_child s x) t f in
      grown 6 4 (child_words x) (add_child s x) e refl (omega arith) (rw (each_more child_words s.children x))
      (read 6 1 e (arguments_are W at 6 e)) h.known o.same

  prelude_written : kind_of (get_or W at 0) ≡ 7 → prelude_step s (prelude_at W at) ≡ on t → Grown
  unfolding prelude_step arguments_of put rows
  prelude_written e f =
      let x = prelude_at W at in
      let o = judge_on true (prelude_defined (counts_of s) x) (any (same_prelude x) s.preludes) true true (add_prelude s x) t f in
      grown 7 5 (prelude_words x) (add_prelude s x) e refl (omega arith) (rw (each_more prelude_words s.preludes x))
      (read 7 1 e (arguments_are W at 7 e)) h.known o.same

  definition_written : kind_of (get_or W at 0) ≡ 8 → definition_step s (definition_at W at) ≡ on t → Grown
  unfolding definition_step arguments_of put rows
  definition_written e f =
      let x = definition_at W at in
      let o = judge_on (definition_range s x) (definition_defined (counts_of s) x) (definition_repeated s x) (definition_placed s x)
      (ltb (length s.definitions) definition_limit) (add_definition s x) t f in
      grown 8 6 (definition_words x) (add_definition s x) e refl (omega arith) (rw (each_more definition_words s.definitions x))
      (read 8 2 e (arguments_are W at 8 e)) h.known o.same

  scope_written : kind_of (get_or W at 0) ≡ 9 → scope_step s (scope_at W at) ≡ on t → Grown
  unfolding scope_step arguments_of put rows scope_words
  scope_written e f =
      let x = scope_at W at in
      let o = judge_on (scope_range x) (scope_defined (counts_of s) x) (any (same_entry x) s.scopes) (ns_placed s x.ns x.definition)
      true (add_scope s x) t f in
      grown 9 7 (scope_words x) (add_scope s x) e refl (omega arith) (rw (each_more scope_words s.scopes x))
      (read 9 7 e (arguments_are W at 9 e)) h.known o.same

  import_written : kind_of (get_or W at 0) ≡ 10 → import_step s (import_at W at) ≡ on t → Grown
  unfolding import_step arguments_of put rows
  import_written e f =
      let x = import_at W at in
      let o = judge_on (import_range x) (import_defined (counts_of s) x) false (ns_placed s x.ns x.definition) true (add_import s x) t f in
      grown 10 8 (import_words x) (add_import s x) e refl (omega arith) (rw (each_more import_words s.imports x))
      (read 10 5 e (arguments_are W at 10 e)) h.known o.same

  extern_written : kind_of (get_or W at 0) ≡ 11 → extern_step s (extern_at W at) ≡ on t → Grown
  unfolding extern_step arguments_of put rows
  extern_written e f =
      let x = extern_at W at in
      let o = judge_on true (extern_defined (counts_of s) x) (any (same_extern x) s.externs) true true (add_extern s x) t f in
      grown 11 9 (extern_words x) (add_extern s x) e refl (omega arith) (rw (each_more extern_words s.externs x))
      (read 11 2 e (arguments_are W at 11 e)) h.known o.same

  member_written : kind_of (get_or W at 0) ≡ 13 → member_step s (member_at W at) ≡ on t → Grown
  unfolding member_step arguments_of put rows
  member_written e f =
      let x = member_at W at in
      let o = judge_on (member_range x) (member_defined (counts_of s) x) false (member_placed s x) true (add_member s x) t f in
      grown 13 10 (member_words x) (add_member s x) e refl (omega arith) (rw (each_more member_words s.members x))
      (read 13 4 e (arguments_are W at 13 e)) h.known o.same

  step_written : Grown
  unfolding record_step
  step_written =
      let k = kind_of (get_or W at 0) in
      let e : record_step k W at s ≡ on t = q.step in
      let p = follows_parts last k q.order in
      by_test (eqb k 1) (λ a. name_written (eqb-true k 1 a) (rw (record_step, a) at e)) (λ n1.
      by_test (eqb k 2) (λ a. crate_written (eqb-true k 2 a) (rw (record_step, n1, a) at e)) (λ n2.
      by_test (eqb k 3) (λ a. dependency_written (eqb-true k 3 a) (rw (record_step, n1, n2, a) at e)) (λ n3.
      by_test (eqb k 4) (λ a. map_written (eqb-true k 4 a) (rw (record_step, n1, n2, n3, a) at e)) (λ n4.
      by_test (eqb k 5) (λ a. module_written (eqb-true k 5 a) (rw (record_step, n1, n2, n3, n4, a) at e)) (λ n5.
      by_test (eqb k 6) (λ a. child_written (eqb-true k 6 a) (rw (record_step, n1, n2, n3, n4, n5, a) at e)) (λ n6.
      by_test (eqb k 7) (λ a. prelude_written (eqb-true k 7 a) (rw (record_step, n1, n2, n3, n4, n5, n6, a) at e)) (λ n7.
      by_test (eqb k 8) (λ a. definition_written (eqb-true k 8 a) (rw (record_step, n1, n2, n3, n4, n5, n6, n7, a) at e)) (λ n8.
      by_test (eqb k 9) (λ a. scope_written (eqb-true k 9 a) (rw (record_step, n1, n2, n3, n4, n5, n6, n7, n8, a) at e)) (λ n9.
      by_test (eqb k 10) (λ a. import_written (eqb-true k 10 a) (rw (record_step, n1, n2, n3, n4, n5, n6, n7, n8, n9, a) at e)) (λ n10.
      by_test (eqb k 11) (λ a. extern_written (eqb-true k 11 a) (rw (record_step, n1, n2, n3, n4, n5, n6, n7, n8, n9, n10, a) at e)) (λ n11.
      let r4 = above 4 k (above 3 k (above 2 k (above 1 k (leb-true 1 k p.0) n1) n2) n3) n4 in
      let r8 = above 8 k (above 7 k (above 6 k (above 5 k r4 n5) n6) n7) n8 in
      let r12 = above 12 k (above 11 k (above 10 k (above 9 k r8 n9) n10) n11) p.2 in
      member_written (le_antisymm (leb-true k 13 p.1) r12) (rw (record_step, n1, n2, n3, n4, n5, n6, n7, n8, n9, n10, n11) at e))))))))))))

records_written : (W : List ℕ) (u : Snapshot) (n at last : ℕ) (s : Snapshot) → at ≤ length W → records n W at last s ≡ accept u
    → length W ≤ n + at → Written W at last s → W ≡ joined (kinds_words u)
records_written W u zero at last s g e enough h =
    sym (take_all at W (omega arith)) ∙ h.same ∙ ap (λ x. joined (kinds_words x)) (records_done W zero at last s u (omega arith) e)
records_written W u (suc n) at last s g e enough h =
    by_test (ltb at (length W))
    (λ c.
    let l = ltb-true at (length W) c in
    let r = next_record W n at last s u l e in
    let t = taking W at last s r.state r.step in
    records_written W u n (at + 1 + arguments_at W at) (kind_of (get_or W at 0)) r.state (taking_within W at last s r.state t l)
    r.rest (omega arith)
    (step_written W at last s r.state h t l))
    (λ c.
    let l = ltb-false at (length W) c in
    sym (take_all at W l) ∙ h.same ∙ ap (λ x. joined (kinds_words x)) (records_done W (suc n) at last s u l e))

-- Accepted words are those of their snapshot: two inputs that are accepted as one snapshot are the same words.
pub accepted_written : (W : List ℕ) (s : Snapshot) → verdict W ≡ accept s → W ≡ snapshot_words s
unfolding snapshot_words each_words tree_words joined
accepted_written W s e =
    let r = verdict_records W s e in
    records_written W s (length W) 0 0 empty (omega arith) r.1 (omega arith) (record { same = refl; later = refl; known = none })
