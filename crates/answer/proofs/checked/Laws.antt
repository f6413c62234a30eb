-- Laws of faults and of questions on checked words.
use Prim.Native.Nat.{ℕ, zero, suc, ◌≤◌, ◌<◌}
use mathlib.Core.Path.{◌≡◌, refl, sym, ◌∙◌, ap, subst}
use mathlib.Core.List.{List}
use mathlib.Core.Bool.{Bool, true, false, ◌&&◌, ◌||◌, not}
use native.Mathlib.Omega.{arith}
use borrow.Author.Tests.{lt-ltb, le-ltb, ltb-true, ltb-false}
use Rattle.std.proofs.lemmas.Bool.{or_parts}
use lib.Dec.{eqb, ltb}
use lib.ListN.{length, get_or, take}
use lib.Seq.{get_or-take}
use Rattle.snapshot.specs.Limits.{path_limit, fuel_limit, area_limit, namespace_limit, prefix_limit, options_limit}
use Rattle.snapshot.specs.Refusals.{area_refusal, fuel_refusal, field_refusal, unknown_refusal, macro_refusal, limit_refusal}
use Rattle.snapshot.specs.Records.{Snapshot}
use Rattle.snapshot.specs.Layouts.{snap_of, table_words}
use Rattle.snapshot.specs.declared.layout.Layout.{Layout}
use Rattle.snapshot.proofs.Laws.{length_rows}
use Rattle.check_rules.specs.Verdict.{refuse, accept, verdict}
use Rattle.accept.specs.Post.{Checked, Reads, Judged, Checks, check_of, outcome, Readable}
use Rattle.std.specs.Prelude.{Ok, Err}
use Rattle.snapshot.specs.Refusals.{refusal_number}
use Rattle.accept.specs.declared.check.Refused.{Refused}
use Rattle.accept.proofs.Accepted.{by_test}
use Rattle.accept.proofs.Tabled.{Kept}
use Rattle.accept.proofs.Stable.{snap_stays, tables_stay}
use Rattle.accept.proofs.Bools.{and_two}
use Rattle.hir_def.specs.Items.{definition_of}
pub use Rattle.module_tree.proofs.Reading.{length_modules}
use Rattle.find_path_spec.specs.declared.Query.{Query}
use Rattle.find_path_spec.specs.declared.Question.{Question}
use Rattle.find_path_spec.specs.declared.Report.{Report}
use Rattle.find_path_spec.specs.Report.{call_fault, question_fault, refused, reported, searched, answer_unless, report_by, report_unless, report_of}
use Rattle.find_path_spec.proofs.laws.Refusals.{call_allowed}

-- faults of a call

module _ (area : ℕ) (q : Query) (fuel : ℕ) where
  pub small : area < area_limit → area_refusal ≡ call_fault area q fuel
  unfolding call_fault
  small h = rw (call_fault, lt-ltb _ _ h)

  module _ (large : area_limit ≤ area) where
    pub much : fuel_limit < fuel → fuel_refusal ≡ call_fault area q fuel
    unfolding call_fault
    much h = rw (call_fault, le-ltb _ _ large, lt-ltb _ _ h)

    pub outside : fuel ≤ fuel_limit → (ltb namespace_limit q.ns || (ltb prefix_limit q.prefix || ltb options_limit q.options)) ≡ true
        → field_refusal ≡ call_fault area q fuel
    unfolding call_fault
    outside h t = rw (call_fault, le-ltb _ _ large, le-ltb _ _ h, t)

    pub beyond : fuel ≤ fuel_limit → (ltb namespace_limit q.ns || (ltb prefix_limit q.prefix || ltb options_limit q.options)) ≡ false
        → (eqb q.limit 0 || ltb path_limit q.limit) ≡ true → limit_refusal ≡ call_fault area q fuel
    unfolding call_fault
    beyond h t u = rw (call_fault, le-ltb _ _ large, le-ltb _ _ h, t, u)

    pub no_fault : fuel ≤ fuel_limit → (ltb namespace_limit q.ns || (ltb prefix_limit q.prefix || ltb options_limit q.options)) ≡ false
        → (eqb q.limit 0 || ltb path_limit q.limit) ≡ false → 0 ≡ call_fault area q fuel
    unfolding call_fault
    no_fault h t u = rw (call_fault, le-ltb _ _ large, le-ltb _ _ h, t, u)

  -- what a question without a fault of the call has
  pub fault_free : 0 ≡ call_fault area q fuel → (area_limit ≤ area) × (fuel ≤ fuel_limit) × (q.ns ≤ namespace_limit) × (0 < q.limit)
      × (q.limit ≤ path_limit)
  fault_free e =
      let w = call_allowed area q fuel (sym e) in
      by_test (ltb area area_limit) (λ t. absurd (omega (arith, e, small (ltb-true _ _ t)))) (λ t.
      let a = ltb-false area area_limit t in
      by_test (ltb fuel_limit fuel) (λ u. absurd (omega (arith, e, much a (ltb-true _ _ u)))) (λ u.
      let f = ltb-false fuel_limit fuel u in
      by_test (ltb namespace_limit q.ns || (ltb prefix_limit q.prefix || ltb options_limit q.options))
      (λ v. absurd (omega (arith, e, outside a f v)))
      (λ v. (a, f, ltb-false 2 q.ns (or_parts _ _ v).0, w.some, w.limit))))

-- the work area counts only by being large enough
pub same_fault : (a b : ℕ) (q : Query) (fuel : ℕ) → area_limit ≤ a → area_limit ≤ b → call_fault a q fuel ≡ call_fault b q fuel
unfolding call_fault
same_fault a b q fuel h k = rw (call_fault, le-ltb _ _ h, le-ltb _ _ k)

-- faults of a question

module _ (s : Snapshot) (q : Query) (D M : ℕ) (d : length s.definitions ≡ D) (m : length s.modules ≡ M) where
  pub unknown : (ltb q.definition.0 D && ltb q.from.0 M) ≡ false → unknown_refusal ≡ question_fault s q
  unfolding question_fault
  unknown h = rw (question_fault, d, m, h)

  pub no_macro : (k : Bool) → (ltb q.definition.0 D && ltb q.from.0 M) ≡ true → k ≡ not (eqb (definition_of s q.definition.0).kind 5)
      → (eqb q.ns 2 && k) ≡ true → macro_refusal ≡ question_fault s q
  unfolding question_fault
  no_macro k h e t = let t' = rw e at t in rw (question_fault, d, m, h, t')

  pub sound : (k : Bool) → (ltb q.definition.0 D && ltb q.from.0 M) ≡ true → k ≡ not (eqb (definition_of s q.definition.0).kind 5)
      → (eqb q.ns 2 && k) ≡ false → 0 ≡ question_fault s q
  unfolding question_fault
  sound k h e t = let t' = rw e at t in rw (question_fault, d, m, h, t')

  pub fault_known : 0 ≡ question_fault s q → (q.definition.0 < D) × (q.from.0 < M)
  fault_known e =
      by_test (ltb q.definition.0 D && ltb q.from.0 M)
      (λ t. let p = and_two _ _ t in (ltb-true _ _ p.0, ltb-true _ _ p.1))
      (λ t. absurd (omega (arith, e, unknown t)))

pub definitions_count : (W A : List ℕ) (l : Layout) → length (snap_of W A l).definitions ≡ l.definitions
definitions_count W A l = length_rows _ l.definitions

-- answers on accepted words

module _ (s : Snapshot) (q : Query) (fuel : ℕ) (r : Report) where
  fault_by_lem : (n : ℕ) → (n ≡ 0 → ⊥) → refused n ≡ answer_unless s q fuel n
  unfolding answer_unless
  fault_by_lem zero h = absurd (h refl)
  fault_by_lem (suc n) h = refl

  pub answer_fault : (n : ℕ) → n ≡ question_fault s q → (n ≡ 0 → ⊥) → r ≡ refused n → r ≡ answer_unless s q fuel (question_fault s q)
  answer_fault n e h p = p ∙ fault_by_lem n h ∙ ap (answer_unless s q fuel) e

  pub answer_found : (n : ℕ) → n ≡ question_fault s q → n ≡ 0 → r ≡ reported s q (searched s q fuel) → r ≡ answer_unless s q fuel (question_fault s q)
  unfolding answer_unless
  answer_found n e z p = p ∙ ap (answer_unless s q fuel) (sym z ∙ e)

-- reports on checked words

module _ (W : List ℕ) (q : Query) (fuel : ℕ) (r : Report) where
  pub by_refusal : (n at : ℕ) → refuse n at ≡ verdict W → r ≡ refused n → r ≡ report_by q fuel (verdict W)
  unfolding report_by
  by_refusal n at e p = p ∙ ap (report_by q fuel) e

  pub by_answer : (s : Snapshot) → accept s ≡ verdict W → r ≡ answer_unless s q fuel (question_fault s q) → r ≡ report_by q fuel (verdict W)
  unfolding report_by
  by_answer s e p = p ∙ ap (report_by q fuel) e

kept_by : (A B : List ℕ) → take table_words B ≡ take table_words A → Kept A B 0 table_words
kept_by A B e i u v = sym (get_or-take table_words B i 0 v) ∙ ap (λ (x : List ℕ). get_or x i 0) e ∙ get_or-take table_words A i 0 v

judged_reads : (W A : List ℕ) (l : Layout) → Judged W A (Ok l) → Reads W A l
judged_reads W A l j = record { same = sym j.same; tables = j.tables }

pub judged_stays : (W A B : List ℕ) (l : Layout) → Judged W A (Ok l) → take table_words B ≡ take table_words A → Judged W B (Ok l)
judged_stays W A B l j e =
    record {
      same = ap accept (snap_stays W A B l j.tables (kept_by A B e)) ∙ j.same;
      tables = tables_stay W A B l j.tables (kept_by A B e);
    }

module _ (W A : List ℕ) (c : Checked) (j : Judged W A c) where
  pub reads_of : (l : Layout) → c ≡ Ok l → Reads W A l
  reads_of l e = judged_reads W A l (subst (λ x. Judged W A x) e j)

  module _ (q : Query) (fuel : ℕ) (r : Report) where
    pub report_refused : (e : Refused) → c ≡ Err e → r ≡ refused (refusal_number e.why) → (r ≡ report_by q fuel (verdict W)) × Judged W A c
    report_refused e f p =
        let k : Judged W A (Err e) = subst (λ x. Judged W A x) f j in
        (by_refusal W q fuel r (refusal_number e.why) e.at k.same p, j)

    pub report_accepted : (l : Layout) (B : List ℕ) → c ≡ Ok l → take table_words B ≡ take table_words A
        → r ≡ answer_unless (snap_of W A l) q fuel (question_fault (snap_of W A l) q) → (r ≡ report_by q fuel (verdict W)) × Judged W B c
    report_accepted l B e t p =
        let k : Judged W A (Ok l) = subst (λ x. Judged W A x) e j in
        (by_answer W q fuel r (snap_of W A l) k.same p, subst (λ x. Judged W B x) (sym e) (judged_stays W A B l k t))

-- a check in an area that serves
pub checks_judged : (W A₀ A : List ℕ) (c : Checked) → length A₀ ≡ area_limit → Checks W A₀ A c → Judged W A c
unfolding check_of
checks_judged W A₀ A c e k =
    let h : area_limit ≤ length A₀ = omega arith in
    record { same = k.same ∙ rw (check_of, le-ltb _ _ h); tables = k.tables }

-- what the check of the words answers

module _ (W A₀ A : List ℕ) (r : Checked) (a : length A₀ ≡ 16384) (c : Checks W A₀ A r) where
  pub refused_verdict : (f : Refused) → r ≡ Err f → refuse (refusal_number f.why) f.at ≡ verdict W
  refused_verdict f e = sym (ap (outcome W A) e) ∙ (checks_judged W A₀ A r a c).same

  pub accepted_reads : (l : Layout) → r ≡ Ok l → Reads W A l
  accepted_reads l e =
      record {
        same = sym (checks_judged W A₀ A r a c).same ∙ ap (outcome W A) e;
        tables = subst (Readable W A) e (checks_judged W A₀ A r a c).tables;
      }

-- reports of questions

module _ (W : List ℕ) (area : ℕ) (q : Question) (r : Report) where
  call_by : (n : ℕ) → (n ≡ 0 → ⊥) → refused n ≡ report_unless W q.query q.fuel n
  unfolding report_unless
  call_by zero h = absurd (h refl)
  call_by (suc n) h = refl

  pub report_fault : (n : ℕ) → n ≡ call_fault area q.query q.fuel → (n ≡ 0 → ⊥) → r ≡ refused n → r ≡ report_of W area q
  unfolding report_of
  report_fault n e h p = p ∙ call_by n h ∙ ap (report_unless W q.query q.fuel) e

  pub report_verdict : (n : ℕ) → n ≡ call_fault area q.query q.fuel → n ≡ 0 → r ≡ report_by q.query q.fuel (verdict W)
      → r ≡ report_of W area q
  unfolding report_of report_unless
  report_verdict n e z p = p ∙ ap (report_unless W q.query q.fuel) (sym z ∙ e)

pub same_report : (W : List ℕ) (a b : ℕ) (q : Question) → area_limit ≤ a → area_limit ≤ b → report_of W a q ≡ report_of W b q
unfolding report_of
same_report W a b q h k = ap (report_unless W q.query q.fuel) (same_fault a b q.query q.fuel h k)
