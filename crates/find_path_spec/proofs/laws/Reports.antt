-- What holds of every report.
use mathlib.Core.Path.{◌≡◌, refl, ap, sym, ◌∙◌, subst}
use mathlib.Core.List.{List}
use Prim.Native.Nat.{ℕ, ◌≤◌, ◌<◌}
use native.Mathlib.Omega.{arith}
use native.Mathlib.Decide.{dec_le}
use lib.ListN.{get_or}
use Rattle.snapshot.specs.Limits.{name_limit}
use Rattle.snapshot.specs.Refusals.{largest_refusal}
use Rattle.snapshot.specs.Records.{Snapshot}
use Rattle.check_rules.specs.Verdict.{accept, verdict}
use Rattle.accept.proofs.Ranges.{accepted_limits}
use Rattle.find_path_spec.specs.declared.Tank.{Tank}
use Rattle.find_path_spec.specs.declared.Query.{Query}
use Rattle.find_path_spec.specs.declared.Question.{Question}
use Rattle.find_path_spec.specs.declared.Report.{Report}
use Rattle.find_path_spec.specs.Meters.{from_tank, filled}
use Rattle.find_path_spec.specs.Report.{refused, reported, searched, searched_listing, report_of}
use Rattle.find_path_spec.specs.laws.Fuels.{IsRefused, Bounded, NamesKnown, Small, TellsFirst}
use Rattle.find_path_spec.proofs.laws.Bounds.{zeros, search_fits}
use Rattle.find_path_spec.proofs.laws.Refusals.{Allowed}
use Rattle.find_path_spec.proofs.laws.Outcomes.{flag_small, outcome_small, outcome_answers, Kind, refusal, answer, kind_of_lem}
use Rattle.find_path_spec.proofs.laws.Known.{searched_known}
use Rattle.find_path_spec.proofs.laws.Told.{searched_told}
use Rattle.find_path_spec.proofs.laws.Fuels.{searched_tells, searched_untold, searched_first}

refused_bounded : (fuel n : ℕ) → Bounded fuel (refused n)
unfolding refused
refused_bounded fuel n =
    record {
      few = omega arith;
      long = refl;
      rest = λ i _. zeros 16 i;
      charges = omega arith;
      flagged = omega arith;
      each = omega arith;
      once = omega arith;
      wide = refl;
      past = λ i _. zeros 17 i;
      untold = λ _. (refl, refl);
    }

searched_bounded : (s : Snapshot) (q : Query) (fuel : ℕ) → Allowed q fuel → Bounded fuel (reported s q (searched s q fuel))
unfolding reported searched
searched_bounded s q fuel a =
    let f = search_fits Tank from_tank s q a.some a.limit (filled fuel) in
    record {
      few = f.few;
      long = f.long;
      rest = f.rest;
      charges = omega (arith, (searched_tells s q fuel).charges);
      flagged = flag_small _;
      each = f.each;
      once = f.once;
      wide = f.wide;
      past = f.past;
      untold = searched_untold s q fuel;
    }

bounded : {words : List ℕ} {q : Query} {fuel : ℕ} (r : Report) → Kind words q fuel r → Bounded fuel r
bounded {fuel = fuel} r (refusal n l e) = rw e (refused_bounded fuel n)
bounded {q = q} {fuel = fuel} r (answer s a l e) = rw e (searched_bounded s q fuel l)

-- Every report has at most sixteen names, a step for each and one more after a keyword, zeros past them, and no more charges than fuel.
pub report_bounded : (words : List ℕ) (area : ℕ) (q : Question) → Bounded q.fuel (report_of words area q)
report_bounded words area q = bounded (report_of words area q) (kind_of_lem words area q)

refused_small : (n : ℕ) → n ≤ largest_refusal → Small (refused n)
unfolding refused
refused_small n h =
    record {
      outcome = omega arith;
      number = h;
      kind = omega arith;
      names = λ i. let z = zeros 16 i in omega arith;
      charges = omega arith;
      left = omega arith;
      sought = omega arith;
      route = λ i. let z = zeros 17 i in omega (arith, z);
      steps = omega arith;
    }

-- names of the snapshot up to the count, zeros past it
searched_names : (words : List ℕ) (s : Snapshot) → verdict words ≡ accept s → (r : Report) → NamesKnown s r
    → ((i : ℕ) → r.count ≤ i → get_or r.names i 0 ≡ 0) → (i : ℕ) → get_or r.names i 0 < name_limit
searched_names words s e r k z i =
    elim (dec_le r.count i) [
      | yes h ↦ omega (arith, z i h)
      | no h ↦ omega (arith, k i (omega arith), (accepted_limits words s e).names)
    ]

searched_small : (words : List ℕ) (s : Snapshot) (q : Query) (fuel : ℕ) → verdict words ≡ accept s → Allowed q fuel
    → Small (reported s q (searched s q fuel))
unfolding reported
searched_small words s q fuel e l =
    let k = searched_known words s e q fuel in
    let b = searched_bounded s q fuel l in
    let t = searched_told words s e q l.some l.limit fuel in
    record {
      outcome = outcome_small s q (searched s q fuel).choice;
      number = omega arith;
      kind = k.kind;
      names = searched_names words s e (reported s q (searched s q fuel)) k.names b.rest;
      charges = omega (arith, b.charges, l.fuel);
      left = t.left;
      sought = omega (arith, t.sought, (accepted_limits words s e).modules);
      route = k.route;
      steps = omega (arith, b.few, b.once);
    }

small : {words : List ℕ} {q : Query} {fuel : ℕ} (r : Report) → Kind words q fuel r → Small r
small r (refusal n h e) = rw e (refused_small n h)
small {words = words} {q = q} {fuel = fuel} r (answer s a l e) = rw e (searched_small words s q fuel a l)

-- Every report has a number up to 46, a kind up to 4, names below 2,048, at most 10,000 charges, a length left up to 15, a module, +1, up to 512,
-- and at most 17 steps at places below 16,384.
pub report_small : (words : List ℕ) (area : ℕ) (q : Question) → Small (report_of words area q)
report_small words area q = small (report_of words area q) (kind_of_lem words area q)

refused_whole : {words : List ℕ} {q : Query} {fuel : ℕ} (r : Report) → Kind words q fuel r → IsRefused r → r ≡ refused r.number
unfolding refused reported
refused_whole r (refusal n l e) h = e ∙ ap refused (sym (ap (λ (z : Report). z.number) e))
refused_whole r (answer s a l e) h = absurd (outcome_answers _ _ _ (sym (ap (λ (z : Report). z.outcome) e) ∙ h))

-- A refusal has its number, and zeros.
pub refusal_zero : (words : List ℕ) (area : ℕ) (q : Question) → IsRefused (report_of words area q)
    → report_of words area q ≡ refused (report_of words area q).number
refusal_zero words area q h = refused_whole (report_of words area q) (kind_of_lem words area q) h

told_first : {words : List ℕ} {q : Query} {fuel : ℕ} (s : Snapshot) → verdict words ≡ accept s → (r : Report) → Kind words q fuel r
    → TellsFirst fuel (searched_listing s q) r
unfolding refused
told_first s a r (refusal n l e) =
    let z = ap (λ (y : Report). y.empty) e in
    record { left = λ h. absurd (omega arith); sought = λ h. absurd (omega arith) }
told_first {q = q} {fuel = fuel} s a r (answer u b l e) =
    let same : u ≡ s = cc (a, b) in
    subst (λ (z : Snapshot). TellsFirst fuel (searched_listing z q) r) same (rw e (searched_first u q fuel))

-- A report that says empty tells of the charge of the search without a tank whose number, from 0, is its fuel.
pub report_first : (words : List ℕ) (area : ℕ) (q : Question) (s : Snapshot) → verdict words ≡ accept s
    → TellsFirst q.fuel (searched_listing s q.query) (report_of words area q)
report_first words area q s e = told_first s e (report_of words area q) (kind_of_lem words area q)
