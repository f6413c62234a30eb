-- Laws of the answer.
use Prim.Native.Nat.{ℕ, zero, suc, ◌≤◌, ◌<◌}
use mathlib.Core.Path.{◌≡◌, refl, sym, ap, ap₂, ◌∙◌}
use mathlib.Core.List.{List, [], ◌∷◌}
use Rattle.std.specs.Prelude.{Option, None, Some, option_map}
use native.Mathlib.Omega.{arith}
use borrow.Author.Tests.{ltb-true, ltb-false}
use lib.Dec.{ltb}
use lib.ListN.{length, get_or}
use Rattle.snapshot.specs.Limits.{area_limit}
use Rattle.snapshot.specs.Refusals.{area_refusal}
use Rattle.snapshot.specs.Records.{Snapshot}
use Rattle.snapshot.specs.Layouts.{snap_of}
use Rattle.snapshot.specs.PathKinds.{path_kind_number}
use Rattle.snapshot.specs.declared.layout.Layout.{Layout}
use Rattle.check_rules.specs.Verdict.{refuse, accept, verdict}
use Rattle.accept.proofs.Accepted.{by_test}
use Rattle.module_tree.proofs.Reading.{length_modules}
use Rattle.hir_def.specs.Items.{item_of}
use Rattle.hir_def.specs.declared.Item.{Item}
use Rattle.nameable.specs.Paths.{Path, names_in, route_of}
use Rattle.nameable.specs.Breadth.{names_limit, up_to, shortest, any_path}
use Rattle.nameable.proofs.Least.{up_yes, up_no}
use Rattle.find_path_spec.specs.declared.Query.{Query}
use Rattle.find_path_spec.specs.Report.{call_fault, question_fault}
use Rattle.told_paths.specs.declared.ToldPath.{ToldPath}
use Rattle.told_paths.specs.Tells.{padded, tell}
use Rattle.told_paths.proofs.Laws.{tell_few, tell_count, told_gone, told_there}
use Rattle.answer.proofs.checked.Laws.{small, same_fault, fault_known, definitions_count}
use Rattle.answer.specs.Answers.{area_after}
use Rattle.answer.specs.declared.any_answer.AnyReport.{AnyReport}
use Rattle.answer.specs.any_answer.Any.{any_without, any_refused, any_reported, any_query, any_unless, any_by, any_after, any_report, AnyAnswers}
use Rattle.answer.specs.any_answer.Any.{question_of}
use Rattle.answer.specs.any_answer.Any.{AnyIn}

-- What was found.
module _ (s : Snapshot) (from ns : ℕ) where
  pub told_nowhere : (o : Option Path) {r : AnyReport} → r ≡ any_without 1 0 → None ≡ option_map tell o
      → r ≡ any_reported s from ns (up_to names_limit o)
  unfolding up_to any_reported
  told_nowhere o er e = er ∙ sym (ap (λ (v : Option Path). any_reported s from ns (up_to names_limit v)) (told_gone o e))

  pub told_there_by : (o : Option Path) {r : AnyReport} {t : ToldPath} → Some t ≡ option_map tell o
      → ((p : Path) → t ≡ tell p → r ≡ any_reported s from ns (up_to names_limit (Some p))) → r ≡ any_reported s from ns (up_to names_limit o)
  told_there_by o e er =
      let f = told_there o e in er f.0 f.2 ∙ sym (ap (λ (v : Option Path). any_reported s from ns (up_to names_limit v)) f.1)

  module _ (p : Path) {t : ToldPath} (e : t ≡ tell p) where
    its_count : t.count ≡ names_in p
    its_count = ap (λ (v : ToldPath). v.count) e ∙ tell_count p

    pub told_longer : {r : AnyReport} → names_limit < t.count → r ≡ any_without 3 0 → r ≡ any_reported s from ns (up_to names_limit (Some p))
    unfolding any_reported
    told_longer h er = let c = its_count in er ∙ sym (ap (any_reported s from ns) (up_no p (omega (arith, h, c))))

    pub told_found : t.count ≤ names_limit → {R : List ℕ} {k : ℕ} → k ≡ path_kind_number t.kind
        → (names_in p ≤ names_limit → R ≡ padded (route_of s from ns p))
        → record { outcome = 0; number = 0; kind = k; supers = t.supers; names = t.names; count = t.count; route = R }
        ≡ any_reported s from ns (up_to names_limit (Some p))
    unfolding any_reported
    told_found h {R} ek er =
        let c = its_count in
        let few : names_in p ≤ names_limit = omega (arith, h, c) in
        ap (λ (k : ℕ). record { outcome = 0; number = 0; kind = k; supers = t.supers; names = t.names; count = t.count; route = R }) ek
        ∙ (ap₂
        (λ (v : ToldPath) (R : List ℕ).
        record {
          outcome = 0;
          number = 0;
          kind = path_kind_number v.kind;
          supers = v.supers;
          names = v.names;
          count = v.count;
          route = R;
        })
        (e ∙ tell_few p few) (er few)
        ∙ sym (ap (any_reported s from ns) (up_yes p few)))

-- On accepted words.
module _ (s : Snapshot) (q : Query) where
  fault_by_lem : (k : ℕ) → (k ≡ 0 → ⊥) → any_refused k ≡ any_unless s q k
  unfolding any_unless
  fault_by_lem zero h = absurd (h refl)
  fault_by_lem (suc k) h = refl

  pub any_fault : {r : AnyReport} {n : ℕ} → n ≡ question_fault s q → (n ≡ 0 → ⊥) → r ≡ any_refused n → r ≡ any_by q (accept s)
  unfolding any_by
  any_fault {n = n} en h er = er ∙ (fault_by_lem n h ∙ ap (any_unless s q) en)

  pub any_found : {r : AnyReport} {n : ℕ} {i : Item} → n ≡ question_fault s q → n ≡ 0 → i ≡ item_of s q.ns q.definition.0
      → r ≡ any_reported s q.from.0 q.ns (up_to names_limit (shortest s q.from.0 i))
      → r ≡ any_by q (accept s)
  unfolding any_by any_unless any_path
  any_found en z ei er =
      er ∙ (ap (λ (x : Item). any_reported s q.from.0 q.ns (up_to names_limit (shortest s q.from.0 x))) ei ∙ ap (any_unless s q) (sym z ∙ en))

-- a question without a fault is put in a module that is there
pub asked_known : (W A : List ℕ) (l : Layout) (q : Query) {n : ℕ} → n ≡ question_fault (snap_of W A l) q → n ≡ 0 → q.from.0 < l.modules
asked_known W A l q en z =
    (fault_known (snap_of W A l) q l.definitions l.modules (definitions_count W A l) (length_modules W A l) (sym z ∙ en)).1

-- On checked words.
module _ (W : List ℕ) (area : ℕ) (q : Query) where
  call_by : (k : ℕ) → (k ≡ 0 → ⊥) → any_refused k ≡ any_after W q k
  unfolding any_after
  call_by zero h = absurd (h refl)
  call_by (suc k) h = refl

  pub on_fault : {r : AnyReport} {n : ℕ} → n ≡ call_fault area q 0 → (n ≡ 0 → ⊥) → r ≡ any_refused n → r ≡ any_report W area q
  unfolding any_report
  on_fault {n = n} en h er = er ∙ (call_by n h ∙ ap (any_after W q) en)

  on_verdict : {r : AnyReport} {n : ℕ} → n ≡ call_fault area q 0 → n ≡ 0 → r ≡ any_by q (verdict W) → r ≡ any_report W area q
  unfolding any_report any_after
  on_verdict en z er = er ∙ ap (any_after W q) (sym z ∙ en)

  module _ {n : ℕ} (en : n ≡ call_fault area q 0) (z : n ≡ 0) where
    pub on_refused : {r : AnyReport} (m at : ℕ) → refuse m at ≡ verdict W → r ≡ any_refused m → r ≡ any_report W area q
    unfolding any_by
    on_refused m at e er = on_verdict en z (er ∙ ap (any_by q) e)

    pub on_accepted : {r : AnyReport} (s : Snapshot) → verdict W ≡ accept s → r ≡ any_by q (accept s) → r ≡ any_report W area q
    on_accepted s e er = on_verdict en z (er ∙ ap (any_by q) (sym e))

-- The entry point.
module _ (W A : List ℕ) (ns d m : ℕ) where
  pub any_answers : {r : AnyReport} (B : List ℕ) → B ≡ area_after A → (length A < area_limit → r ≡ any_refused area_refusal)
      → (area_limit ≤ length A → r ≡ any_report W area_limit (any_query ns d m)) → AnyAnswers W A ns d m B r
  unfolding any_report
  any_answers B e f g =
      let q = any_query ns d m in
      record {
        report =
            by_test (ltb (length A) area_limit)
            (λ t. let h = ltb-true _ _ t in on_fault W (length A) q (small (length A) q 0 h) (λ z. omega arith) (f h))
            (λ t. let h = ltb-false _ _ t in g h ∙ ap (any_after W q) (same_fault area_limit (length A) q 0 (omega arith) h));
        area = e;
      }

-- as numbers
pub answers_in : (W A Q B : List ℕ) {ns d m : ℕ} {r : AnyReport} → ns ≡ get_or Q 0 0 → d ≡ get_or Q 1 0 → m ≡ get_or Q 2 0 → AnyAnswers W A ns d m B r
    → AnyIn W A Q B (r.outcome ∷ r.kind ∷ r.supers ∷ r.count ∷ []) r.names r.route r.number
answers_in W A Q B {ns} {d} {m} {r} en ed em a =
    let same : any_query ns d m ≡ question_of Q = λ i. any_query (en i) (ed i) (em i) in
    let e : r ≡ any_report W (length A) (question_of Q) = a.report ∙ ap (any_report W (length A)) same in
    record {
      number = ap (λ (x : AnyReport). x.number) e;
      front = ap (λ (x : AnyReport). x.outcome ∷ x.kind ∷ x.supers ∷ x.count ∷ []) e;
      told = ap (λ (x : AnyReport). x.names) e;
      places = ap (λ (x : AnyReport). x.route) e;
      area = a.area;
    }
