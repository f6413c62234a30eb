-- The report with options bit 64 beside the one without it.
use mathlib.Core.Path.{◌≡◌, refl, ap, sym, ◌∙◌, subst}
use mathlib.Core.List.{List}
use mathlib.Core.Bool.{Bool, true, false, ◌&&◌, ◌||◌, not, false≢true}
use mathlib.Core.Logic.{inl, inr, ⊎_elim, ◌↔◌}
use Rattle.std.specs.Prelude.{Some}
use Prim.Native.Nat.{ℕ, zero, suc, ◌+◌, ◌/◌, ◌%◌, ◌≤◌, ◌<◌}
use native.Mathlib.Omega.{arith}
use lib.Dec.{eqb, ltb}
use lib.ListN.{take}
use borrow.Author.Tests.{eq-eqb, ne_eqb, eqb-true, le-ltb}
use Rattle.snapshot.specs.Limits.{area_limit, fuel_limit, path_limit, namespace_limit, prefix_limit, options_limit}
use Rattle.snapshot.specs.Refusals.{area_refusal, fuel_refusal, field_refusal, limit_refusal}
use Rattle.snapshot.specs.Records.{Snapshot}
use Rattle.check_rules.specs.Verdict.{refuse, accept, verdict}
use Rattle.accept.proofs.Accepted.{by_test}
use Rattle.accept.proofs.Bools.{and_two, or_right}
use Rattle.hir_def.specs.Items.{types, builtin_kind, map_of, map_no, crate_of, crate_data, definition_of}
use Rattle.hir_def.specs.declared.Item.{Item}
use Rattle.hir_def.proofs.Same.{ns_of_item}
use Rattle.read_back.specs.readings.Reads.{reads_to, reads_back}
use Rattle.read_back.proofs.Exact.{reads_exactly, exactly_reads}
use Rattle.find_path_choice.specs.Choices.{Choice}
use Rattle.find_path_spec.specs.declared.FindPathCtx.{FindPathCtx}
use Rattle.find_path_spec.specs.declared.Query.{Query}
use Rattle.find_path_spec.specs.declared.Tank.{Tank}
use Rattle.find_path_spec.specs.Rules.{bit, context_of}
use Rattle.find_path_spec.specs.Meters.{Charge}
use Rattle.find_path_spec.specs.Charged.{Out}
use Rattle.find_path_spec.specs.Search.{is_builtin_type, search_item, from_home, from_item, find_path}
use Rattle.find_path_spec.specs.Report.{call_fault, question_fault, refused, flag, misleads, outcome_by, outcome_of}
use Rattle.find_path_spec.specs.Report.{reported, searched, answer_unless, report_by, report_unless, report_of, report_at}
use Rattle.find_path_spec.specs.laws.Routes.{asked_item}
use Rattle.find_path_spec.specs.laws.Reading.{with_reading, MeansItem, ReadAs, ReadBack}
use Rattle.find_path_spec.proofs.laws.Outcomes.{outcome_unread}
use Rattle.find_path_spec.proofs.laws.Fewer as fewer

-- the other bits are the same

bit_1 : (o : ℕ) → (o + 64) / 1 % 2 ≡ o / 1 % 2
bit_1 o = omega arith

bit_2 : (o : ℕ) → (o + 64) / 2 % 2 ≡ o / 2 % 2
bit_2 o = omega arith

bit_4 : (o : ℕ) → (o + 64) / 4 % 2 ≡ o / 4 % 2
bit_4 o = omega arith

bit_8 : (o : ℕ) → (o + 64) / 8 % 2 ≡ o / 8 % 2
bit_8 o = omega arith

bit_16 : (o : ℕ) → (o + 64) / 16 % 2 ≡ o / 16 % 2
bit_16 o = omega arith

bit_32 : (o : ℕ) → (o + 64) / 32 % 2 ≡ o / 32 % 2
bit_32 o = omega arith

-- the search does not look at the bit
module _ (s : Snapshot) (q : Query) where
  context_same : (home : ℕ) → context_of s (with_reading q) home ≡ context_of s q home
  unfolding context_of
  context_same home =
      let o = q.options in
      let x : FindPathCtx = context_of s q home in
      λ i. record {
        prefix = x.prefix;
        prefer_no_std = eqb (bit_1 o i) 1 || (eqb (map_of s (map_no s q.from.0)).no_std 1 || eqb (crate_data s (crate_of s q.from.0)).no_std 1);
        prefer_prelude = eqb (bit_2 o i) 1;
        prefer_absolute = eqb (bit_4 o i) 1;
        allow_unstable = eqb (bit_8 o i) 1;
        ignore_local_imports = eqb (bit_16 o i) 1;
        fresh = eqb (bit_32 o i) 1;
        is_std_item = x.is_std_item;
        from = x.from;
        from_crate = x.from_crate;
        crate_root = x.crate_root;
        own = x.own;
        max_len = x.max_len;
      }

  module _ (M : Type 0) (charge : Charge M) (t : M) where
    home_same : (item : Item) (h : ℕ) → from_home M charge s (with_reading q) item t h ≡ from_home M charge s q item t h
    unfolding from_home
    home_same item zero = refl
    home_same item (suc home) = ap (λ (x : FindPathCtx). search_item M charge s x item t) (context_same home)

    item_same : (b : Bool) → from_item M charge s (with_reading q) t b ≡ from_item M charge s q t b
    unfolding from_item
    item_same true = refl
    item_same false = home_same _ _

    -- The search, at any meter, is the same with the bit and without it.
    pub search_unread : find_path M charge s (with_reading q) t ≡ find_path M charge s q t
    unfolding find_path
    search_unread = item_same _

  searched_unread : (fuel : ℕ) → searched s (with_reading q) fuel ≡ searched s q fuel
  unfolding searched
  searched_unread fuel = search_unread _ _ _

-- the outcome by what was found and whether it means the item
answered : Bool → Bool → ℕ
answered f b = outcome_by (f && not b) f

record Outcomes (P : Type 0) (r t : ℕ) : Type 0 where
  found : (t ≡ 0) ↔ ((r ≡ 0) × P)
  misleads : (t ≡ 3) ↔ ((r ≡ 0) × (P → ⊥))
  none : (t ≡ 1) ↔ (r ≡ 1)
  refused : (t ≡ 2) ↔ (r ≡ 2)

outcomes : {P : Type 0} (f b : Bool) → P ↔ (b ≡ true) → Outcomes P (flag (not f)) (answered f b)
unfolding answered outcome_by flag
outcomes true true p =
    record {
      found = ((λ _. (refl, p.1 refl)), λ _. refl);
      misleads = ((λ z. absurd (omega arith)), λ z. absurd (z.1 (p.1 refl)));
      none = ((λ z. z), λ z. z);
      refused = ((λ z. z), λ z. z);
    }
outcomes true false p =
    record {
      found = ((λ z. absurd (omega arith)), λ z. absurd (false≢true (p.0 z.1)));
      misleads = ((λ _. (refl, λ z. false≢true (p.0 z))), λ _. refl);
      none = ((λ z. absurd (omega arith)), λ z. absurd (omega arith));
      refused = ((λ z. absurd (omega arith)), λ z. absurd (omega arith));
    }
outcomes false b p =
    record {
      found = ((λ z. absurd (omega arith)), λ z. absurd (omega (arith, z.0)));
      misleads = ((λ z. absurd (omega arith)), λ z. absurd (omega (arith, z.0)));
      none = ((λ z. z), λ z. z);
      refused = ((λ z. z), λ z. z);
    }

module _ (s : Snapshot) (q : Query) (o : Out Tank) (below : q.options < 64) where
  abbrev choice : Choice
  choice = o.choice

  abbrev back : Bool
  back = reads_back s q.from.0 (asked_item s q) choice.kind (take choice.count choice.names)

  abbrev means : Type 0
  means = MeansItem s q (reported s q o)

  means_back : means → (is_builtin_type s q || back) ≡ true
  unfolding reported
  means_back h =
      ⊎_elim (λ e. rw (eq-eqb _ _ e.0, eq-eqb _ _ e.1))
      (λ e. fewer.or_right (is_builtin_type s q) back (exactly_reads s q.from.0 (asked_item s q) choice.kind (take choice.count choice.names)
      (subst (λ (n : ℕ). reads_to s q.from.0 n choice.kind (take choice.count choice.names) ≡ Some (asked_item s q))
      (sym (ns_of_item s q.ns q.definition.0)) e))) h

  back_means : (is_builtin_type s q || back) ≡ true → means
  unfolding reported
  back_means h =
      by_test (is_builtin_type s q)
      (λ e. let f = and_two (eqb q.ns types) (eqb (definition_of s q.definition.0).kind builtin_kind) e in
      inl (eqb-true _ _ f.0, eqb-true _ _ f.1))
      (λ e. inr (subst (λ (n : ℕ). reads_to s q.from.0 n choice.kind (take choice.count choice.names) ≡ Some (asked_item s q))
      (ns_of_item s q.ns q.definition.0)
      (reads_exactly s q.from.0 (asked_item s q) choice.kind (take choice.count choice.names) (or_right _ _ h e))))

  clear : bit q.options 64 ≡ false
  clear = ne_eqb (q.options / 64 % 2) 1 (λ z. omega arith)

  set : bit (q.options + 64) 64 ≡ true
  set = eq-eqb ((q.options + 64) / 64 % 2) 1 (omega arith)

  with_bit : outcome_of s (with_reading q) choice ≡ answered choice.found (is_builtin_type s q || back)
  unfolding misleads answered
  with_bit = ap (λ (b : Bool). outcome_by (b && (choice.found && not (is_builtin_type s q || back))) choice.found) set

  read_outcomes : Outcomes means (outcome_of s q choice) (outcome_of s (with_reading q) choice)
  read_outcomes =
      subst (λ (n : ℕ). Outcomes means (outcome_of s q choice) n) (sym with_bit)
      (subst (λ (n : ℕ). Outcomes means n (answered choice.found (is_builtin_type s q || back))) (sym (outcome_unread s q choice clear))
      (outcomes choice.found (is_builtin_type s q || back) (means_back, back_means)))

  read_as : ReadAs s q (reported s q o) (reported s (with_reading q) o)
  unfolding reported
  read_as =
      let k = read_outcomes in
      record { found = k.found; misleads = k.misleads; none = k.none; refused = k.refused; same = refl }

refused_as : (s : Snapshot) (q : Query) (n : ℕ) → ReadAs s q (refused n) (refused n)
unfolding refused
refused_as s q n =
    record {
      found = ((λ z. absurd (omega arith)), λ z. absurd (omega (arith, z.0)));
      misleads = ((λ z. absurd (omega arith)), λ z. absurd (omega (arith, z.0)));
      none = ((λ z. z), λ z. z);
      refused = ((λ z. z), λ z. z);
      same = refl;
    }

module _ (s : Snapshot) (q : Query) (fuel : ℕ) (below : q.options < 64) where
  unless_as : (n : ℕ) → ReadAs s q (answer_unless s q fuel n) (answer_unless s (with_reading q) fuel n)
  unfolding answer_unless
  unless_as zero =
      subst (λ (o : Out Tank). ReadAs s q (reported s q (searched s q fuel)) (reported s (with_reading q) o)) (sym (searched_unread s q fuel))
      (read_as s q (searched s q fuel) below)
  unless_as (suc n) = refused_as s q (suc n)

  question_as : ReadAs s q (report_by q fuel (accept s)) (report_by (with_reading q) fuel (accept s))
  unfolding report_by question_fault
  question_as = unless_as _

  module _ (words : List ℕ) (e : verdict words ≡ accept s) where
    call_as : (n : ℕ) → ReadAs s q (report_unless words q fuel n) (report_unless words (with_reading q) fuel n)
    unfolding report_unless
    call_as zero = rw e question_as
    call_as (suc n) = refused_as s q (suc n)

-- the options are in range with the bit and without it
fault_unread : (area : ℕ) (q : Query) (fuel : ℕ) → q.options < 64 → call_fault area (with_reading q) fuel ≡ call_fault area q fuel
unfolding call_fault
fault_unread area q fuel h =
    let a : q.options ≤ options_limit = omega arith in
    let b : q.options + 64 ≤ options_limit = omega arith in
    let e : ltb options_limit (q.options + 64) ≡ ltb options_limit q.options = le-ltb _ _ b ∙ sym (le-ltb _ _ a) in
    λ i.
    elim (ltb area area_limit) [
      | true ↦ area_refusal
      | false ↦ elim (ltb fuel_limit fuel) [
        | true ↦ fuel_refusal
        | false ↦ elim (ltb namespace_limit q.ns || (ltb prefix_limit q.prefix || e i)) [
          | true ↦ field_refusal
          | false ↦ elim (eqb q.limit 0 || ltb path_limit q.limit) [ true ↦ limit_refusal | false ↦ 0 ]
        ]
      ]
    ]

-- With bit 64 a report is found exactly where it is found without it and the path means the item, and misleads exactly where it is found and
-- does not; all else stays.
pub read_back : ReadBack
unfolding report_of
read_back words area q fuel s e h =
    subst (λ (n : ℕ). ReadAs s q (report_unless words q fuel (call_fault area q fuel)) (report_unless words (with_reading q) fuel n))
    (sym (fault_unread area q fuel h))
    (call_as s q fuel h words e (call_fault area q fuel))

refused_unread : (words : List ℕ) (q : Query) (fuel n place : ℕ) → verdict words ≡ refuse n place → (k : ℕ)
    → report_unless words (with_reading q) fuel k ≡ report_unless words q fuel k
unfolding report_unless report_by
refused_unread words q fuel n place e zero = rw e refl
refused_unread words q fuel n place e (suc k) = refl

-- Words that are refused get the same refusal with the bit and without it.
pub read_refused : (words : List ℕ) (area : ℕ) (q : Query) (fuel n place : ℕ) → verdict words ≡ refuse n place → q.options < 64
    → report_at words area (with_reading q) fuel ≡ report_at words area q fuel
unfolding report_of
read_refused words area q fuel n place e h =
    ap (report_unless words (with_reading q) fuel) (fault_unread area q fuel h) ∙ refused_unread words q fuel n place e (call_fault area q fuel)
