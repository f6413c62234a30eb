-- Laws of the searches one after the other.
use Prim.Native.Nat.{ℕ, zero, suc, ◌+◌, ◌-◌, ◌*◌, ◌^◌, ◌≤◌, ◌<◌}
use mathlib.Core.Path.{◌≡◌, refl, sym, ◌∙◌, ap, subst}
use mathlib.Core.List.{List, [], ◌∷◌, ◌++◌, map}
use mathlib.Core.Bool.{Bool, true, false, not}
use native.Mathlib.Omega.{arith}
use native.Mathlib.Nat.{sub-zero}
use borrow.Author.Tests.{lt-ltb, le-ltb}
use lib.ListN.{length, take, replicate}
use Rattle.snapshot.specs.Lists.{rows}
use Rattle.snapshot.specs.Limits.{namespace_limit}
use Rattle.snapshot.specs.Refusals.{unknown_refusal}
use Rattle.snapshot.specs.Sizes.{scope_size}
use Rattle.snapshot.specs.Records.{Snapshot, Scope, scope_at}
use Rattle.snapshot.specs.Layouts.{table_words, scope_base, snap_of}
use Rattle.snapshot.specs.declared.layout.Layout.{Layout}
use Rattle.snapshot.proofs.Laws.{rows_next, rows_none, rows_snoc}
use Rattle.accept.specs.Post.{Checked, Reads, Judged}
use Rattle.std.specs.Prelude.{Ok, Err}
use Rattle.snapshot.specs.Refusals.{refusal_number}
use Rattle.accept.specs.declared.check.Refused.{Refused}
use Rattle.check_rules.specs.Verdict.{refuse, accept, verdict}
use Rattle.accept.proofs.Reading.{scope_read}
use Rattle.accept.proofs.Valid.{accepted_valid}
use Rattle.find_path_spec.specs.declared.Report.{Report}
use Rattle.find_path_spec.specs.Report.{call_fault}
use Rattle.find_path_spec.proofs.laws.Bounds.{zeros}
use Rattle.find_path_spec.proofs.laws.Tables.{same_snap}
use Rattle.answer.proofs.checked.Laws.{judged_stays}
use Rattle.reach.specs.declared.parts.Viewer.{Viewer}
use Rattle.reach.specs.parts.Within.{Within}
use Rattle.reach.specs.parts.Reach.{Reach, is_met, new_from, distinct, report_for, tallied, tallied_reach, tally_all, reach_in, refused_reach}
use Rattle.reach.specs.parts.Reach.{reach_by, reach_unless}
use Rattle.reach.specs.parts.Reach.{reach_of, query_for}
use Rattle.reach.proofs.parts.Laws.{Limited, report_few, report_flag, tallied_long, tallied_within}

-- the test of the code

pub met : (b : Bool) → not b ≡ false → true ≡ b
met true e = refl
met false e = e

-- the record of a number
abbrev pub entry : List ℕ → Layout → ℕ → Scope
entry W l k = scope_at W (scope_base l + scope_size * k)

module _ (s : Snapshot) (before : List Scope) (e : Scope) (es : List Scope) where
  met_next : is_met s before e ≡ true → new_from s before (e ∷ es) ≡ new_from s (before ++ (e ∷ [])) es
  unfolding new_from
  met_next t = rw (new_from, t)

  new_next : is_met s before e ≡ false → new_from s before (e ∷ es) ≡ e ∷ new_from s (before ++ (e ∷ [])) es
  unfolding new_from
  new_next t = rw (new_from, t)

-- before the record numbered k: what is left to tally leads to the reach of the snapshot at first
pub record Reaching (W A₀ : List ℕ) (l : Layout) (v : Viewer) (A t : List ℕ) (k : ℕ) : Type 0 where
  pub below : k ≤ l.scopes
  pub tables : take table_words A ≡ take table_words A₀
  pub size : length A ≡ length A₀
  pub long : length t ≡ 21
  pub within : Within (1 + 17 * k) t
  pub same : tally_all t
      (map (report_for (snap_of W A₀ l) v) (new_from (snap_of W A₀ l) (rows (entry W l) 0 k) (rows (entry W l) k (l.scopes - k))))
      ≡ reach_in (snap_of W A₀ l) v

module _ (W A₀ : List ℕ) (l : Layout) (v : Viewer) where
  abbrev pub first : Snapshot
  first = snap_of W A₀ l

  -- the counts of the reports for the records
  counted : List ℕ → List Scope → List ℕ
  counted t es = tally_all t (map (report_for first v) es)

  pub reaching_start : Reaching W A₀ l v A₀ (replicate 21 0) 0
  unfolding reach_in distinct rows counted
  reaching_start =
      record {
        below = omega arith;
        tables = refl;
        size = refl;
        long = refl;
        within = λ i. omega (arith, zeros 21 i);
        same = ap (λ n. counted (replicate 21 0) (new_from first [] (rows (entry W l) 0 n))) (sub-zero l.scopes);
      }

  module _ (A t : List ℕ) (k : ℕ) (i : Reaching W A₀ l v A t k) (h : k < l.scopes) where
    rest : List Scope
    rest = rows (entry W l) (k + 1) (l.scopes - (k + 1))

    begins : new_from first (rows (entry W l) 0 k) (rows (entry W l) k (l.scopes - k)) ≡ new_from first (rows (entry W l) 0 k) (entry W l k ∷ rest)
    unfolding rest
    begins = ap (new_from first (rows (entry W l) 0 k)) (rows_next (entry W l) k l.scopes h)

    further : new_from first (rows (entry W l) 0 k ++ (entry W l k ∷ [])) rest ≡ new_from first (rows (entry W l) 0 (k + 1)) rest
    further = ap (λ b. new_from first b rest) (sym (rows_snoc (entry W l) k))

    -- an item that was met
    pub reaching_met : true ≡ is_met first (rows (entry W l) 0 k) (entry W l k) → Reaching W A₀ l v A t (k + 1)
    unfolding counted rest
    reaching_met m =
        record {
          below = omega arith;
          tables = i.tables;
          size = i.size;
          long = i.long;
          within = λ j. omega (arith, i.within j);
          same = sym (ap (counted t) (begins ∙ met_next first (rows (entry W l) 0 k) (entry W l k) rest (sym m) ∙ further)) ∙ i.same;
        }

    -- a new one, whose report is tallied
    pub reaching_new : false ≡ is_met first (rows (entry W l) 0 k) (entry W l k) → Limited v → Reads W A₀ l → (B : List ℕ) (r : Report)
        → take table_words B ≡ take table_words A → length B ≡ length A → r ≡ report_for (snap_of W A l) v (entry W l k)
        → (new : List ℕ) → record { number = 0; counts = new } ≡ tallied_reach (record { number = 0; counts = t }) r → Reaching W A₀ l v B new (k + 1)
    unfolding counted rest tallied_reach tally_all
    reaching_new f m reads B r kept size e new eq =
        let q : r ≡ report_for first v (entry W l k) = e ∙ ap (λ s. report_for s v (entry W l k)) (same_snap W A₀ A l i.tables reads) in
        let few : r.count ≤ 16 = rw q (report_few first v (entry W l k) m) in
        let flag : r.empty ≤ 1 = rw q (report_flag first v (entry W l k)) in
        subst (λ x. Reaching W A₀ l v B x.counts (k + 1)) (sym eq)
        (record {
          below = omega arith;
          tables = kept ∙ i.tables;
          size = size ∙ i.size;
          long = tallied_long t r i.long few flag;
          within = λ j. omega (arith, tallied_within t r i.long few flag (1 + 17 * k) i.within j);
          same = ap (λ x. counted (tallied t x) (new_from first (rows (entry W l) 0 (k + 1)) rest)) q
              ∙ sym (ap (counted t) (begins ∙ new_next first (rows (entry W l) 0 k) (entry W l k) rest (sym f)
              ∙ ap (λ x. entry W l k ∷ x) further)) ∙ i.same;
        })

  pub reaching_done : (A t : List ℕ) (k : ℕ) → Reaching W A₀ l v A t k → l.scopes ≤ k → t ≡ reach_in first v
  unfolding new_from tally_all counted
  reaching_done A t k i h =
      sym (ap (λ es. counted t (new_from first (rows (entry W l) 0 k) es)) (rows_none (entry W l) k l.scopes h)) ∙ i.same

-- refusals, and the reach on accepted words

module _ (v : Viewer) (r : Reach) where
  pub unknown_module : (s : Snapshot) (m : ℕ) → length s.modules ≡ m → m ≤ v.from.0 → r ≡ refused_reach unknown_refusal → r ≡ reach_by v (accept s)
  unfolding reach_by
  unknown_module s m e h p = rw (reach_by, e, le-ltb _ _ h) p

  pub known_module : (s : Snapshot) (m : ℕ) → length s.modules ≡ m → v.from.0 < m → r.number ≡ 0 → r.counts ≡ reach_in s v
      → r ≡ reach_by v (accept s)
  unfolding reach_by
  known_module s m e h p q = rw (reach_by, e, lt-ltb _ _ h) (λ i. record { number = p i; counts = q i })

  module _ (W : List ℕ) where
    reach_refused : (n at : ℕ) → refuse n at ≡ verdict W → r ≡ refused_reach n → r ≡ reach_by v (verdict W)
    unfolding reach_by
    reach_refused n at e p = p ∙ ap (reach_by v) e

    module _ (A : List ℕ) where
      module _ (c : Checked) (j : Judged W A c) where
        pub by_refusal : (f : Refused) → c ≡ Err f → r ≡ refused_reach (refusal_number f.why) → (r ≡ reach_by v (verdict W)) × Judged W A c
        by_refusal f e p =
            let k : Judged W A (Err f) = subst (λ x. Judged W A x) e j in
            (reach_refused (refusal_number f.why) f.at k.same p, j)

        pub by_answer : (l : Layout) (B : List ℕ) → c ≡ Ok l → take table_words B ≡ take table_words A → r ≡ reach_by v (accept (snap_of W A l))
            → (r ≡ reach_by v (verdict W)) × Judged W B c
        by_answer l B e t p =
            let k : Judged W A (Ok l) = subst (λ x. Judged W A x) e j in
            (p ∙ ap (reach_by v) k.same, subst (λ x. Judged W B x) (sym e) (judged_stays W A B l k t))

    fault_by_lem : (n : ℕ) → (n ≡ 0 → ⊥) → refused_reach n ≡ reach_unless W v n
    unfolding reach_unless
    fault_by_lem zero h = absurd (h refl)
    fault_by_lem (suc n) h = refl

    pub reach_fault : (area n : ℕ) → n ≡ call_fault area (query_for v 0 0) v.fuel → (n ≡ 0 → ⊥) → r ≡ refused_reach n → r ≡ reach_of W area v
    unfolding reach_of
    reach_fault area n e h p = p ∙ fault_by_lem n h ∙ ap (reach_unless W v) e

    pub reach_verdict : (area n : ℕ) → n ≡ call_fault area (query_for v 0 0) v.fuel → n ≡ 0 → r ≡ reach_by v (verdict W) → r ≡ reach_of W area v
    unfolding reach_of reach_unless
    reach_verdict area n e z p = p ∙ ap (reach_unless W v) (sym z ∙ e)

-- what the searches ask of a record
module _ (W A : List ℕ) (l : Layout) (reads : Reads W A l) (k b : ℕ) (h : k < l.scopes) (e : b ≡ scope_base l) where
  pub entry_fits : ((scope_at W (b + scope_size * k)).definition < l.definitions) × ((scope_at W (b + scope_size * k)).ns ≤ namespace_limit)
  entry_fits =
      subst (λ x. ((scope_at W (x + scope_size * k)).definition < l.definitions) × ((scope_at W (x + scope_size * k)).ns ≤ namespace_limit)) (sym e)
      (let f = scope_read W A l (accepted_valid W (snap_of W A l) reads.same) k h in (f.definition, f.ns))

  -- and the tally of its report
  pub report_fits : (v : Viewer) → Limited v → (t : List ℕ) (r : Report) → r ≡ report_for (snap_of W A l) v (scope_at W (b + scope_size * k))
      → Within (1 + 17 * k) t
      → (r.count ≤ 16) × (r.empty ≤ 1) × Within (2 ^ 32) t
  report_fits v m t r q w = (
    rw q (report_few (snap_of W A l) v (scope_at W (b + scope_size * k)) m),
    rw q (report_flag (snap_of W A l) v (scope_at W (b + scope_size * k))),
    λ i. omega (arith, w i, h, reads.tables.whole, reads.tables.short),
  )

  -- the report is that of the record numbered k
  pub report_entry : (v : Viewer) (r : Report) → r ≡ report_for (snap_of W A l) v (scope_at W (b + scope_size * k))
      → r ≡ report_for (snap_of W A l) v (entry W l k)
  report_entry v r q = q ∙ ap (λ x. report_for (snap_of W A l) v (scope_at W (x + scope_size * k))) e
