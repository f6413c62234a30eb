-- One question with two fuels: where its two reports are equal, and what each says where they are not.
use mathlib.Core.Path.{◌≡◌, refl, ap, sym, ◌∙◌}
use mathlib.Core.List.{List, [], ◌∷◌, ◌++◌}
use mathlib.Core.Bool.{false}
use Prim.Native.Nat.{ℕ, ◌+◌, ◌≤◌, ◌<◌}
use native.Mathlib.Omega.{arith}
use lib.ListN.{length, get_or, length-append, get_or-append}
use lib.Seq.{get_or_at}
use Rattle.snapshot.specs.Records.{Snapshot}
use Rattle.check_rules.specs.Verdict.{accept, verdict}
use Rattle.find_path_choice.specs.Choices.{Choice}
use Rattle.find_path_spec.specs.declared.Tank.{Tank}
use Rattle.find_path_spec.specs.declared.Query.{Query}
use Rattle.find_path_spec.specs.declared.Report.{Report}
use Rattle.find_path_spec.specs.Meters.{Spot, filled, counted, listed}
use Rattle.find_path_spec.specs.Charged.{Out}
use Rattle.find_path_spec.specs.Report.{refused, flag, outcome_of, reported, searched, searched_freely, searched_listing}
use Rattle.find_path_spec.specs.laws.Fuels.{IsRefused, Tells, no_spot, SameSearch, TellsFirst, Compared, FuelsCompared}
use Rattle.find_path_spec.specs.Report.{report_at}
use Rattle.find_path_spec.proofs.laws.Outcomes.{Kind, refusal, answer, kind_of_lem}
use Rattle.find_path_spec.proofs.laws.Sim.{Free, Sim, same, dry, search_sim}

-- a report that is not refused is that of a search on an accepted snapshot
pub record Searched (words : List ℕ) (q : Query) (fuel : ℕ) (r : Report) : Type 0 where
  pub snapshot : Snapshot
  pub accepted : verdict words ≡ accept snapshot
  pub answer : r ≡ reported snapshot q (searched snapshot q fuel)

by_kind : (words : List ℕ) (q : Query) (fuel : ℕ) (r : Report) → Kind words q fuel r → (IsRefused r → ⊥) → Searched words q fuel r
unfolding refused
by_kind words q fuel r (refusal n l e) h = absurd (h (ap (λ (z : Report). z.outcome) e))
by_kind words q fuel r (answer s a l e) h = record { snapshot = s; accepted = a; answer = e }

pub not_refused : (words : List ℕ) (area : ℕ) (q : Query) (fuel : ℕ) → (IsRefused (report_at words area q fuel) → ⊥)
    → Searched words q fuel (report_at words area q fuel)
not_refused words area q fuel h = by_kind words q fuel (report_at words area q fuel) (kind_of_lem words area (record { query = q; fuel = fuel })) h

-- the count, against the tank

abbrev Over : ℕ → ℕ → ℕ → ℕ → Type 0
Over F l m n = F < n

counts_free : Free ℕ counted (λ n. n) Over
unfolding counted
counts_free =
    record {
      next = λ left sought n. n + 1;
      goes = λ left sought n. refl;
      grows = λ left sought n. refl;
      meets = λ F left sought n h. omega arith;
      stays = λ F l m left sought n h. omega arith;
    }

abbrev Counts : ℕ → Out Tank → Out ℕ → Type 0
Counts = Sim ℕ (λ n. n) Over

-- what the simulation says of a report
told : (s : Snapshot) (q : Query) (F : ℕ) (a : Out Tank) (c : Out ℕ) → Counts F a c → Tells s q F c (reported s q a)
unfolding reported flag
told s q F a c (same e h) =
    let no = ap flag h.silent in
    record {
      charges = omega (arith, h.spent_is, h.rest);
      empty = ((λ z. absurd (omega arith)), λ l. absurd (omega (arith, h.rest)));
      answer = λ _. record {
        outcome = ap (outcome_of s q) e;
        kind = ap (λ (z : Choice). z.kind) e;
        names = ap (λ (z : Choice). z.names) e;
        count = ap (λ (z : Choice). z.count) e;
        route = ap (λ (z : Choice). z.route) e;
        steps = ap (λ (z : Choice). z.steps) e;
      };
    }
told s q F a c (dry l m h n) =
    let yes' = ap flag h.said in
    record {
      charges = omega (arith, h.all_spent);
      empty = ((λ _. n), λ _. yes');
      answer = λ z. absurd (z yes');
    }

-- the report where the count is within the fuel: no fuel in it
whole : Snapshot → Query → Out ℕ → Report
whole s q c = reported s q (record { choice = c.choice; meter = record { fuel = 0; spent = c.meter; empty = false; left = 0; sought = 0 } })

within : (s : Snapshot) (q : Query) (F : ℕ) (a : Out Tank) (c : Out ℕ) → Counts F a c → c.meter ≤ F → reported s q a ≡ whole s q c
unfolding reported whole
within s q F a c (same e h) l = λ i. record {
  outcome = outcome_of s q (e i);
  number = 0;
  kind = (e i).kind;
  names = (e i).names;
  count = (e i).count;
  charges = h.spent_is i;
  empty = flag (h.silent i);
  left = h.no_left i;
  sought = h.no_sought i;
  route = (e i).route;
  steps = (e i).steps;
}
within s q F a c (dry k m h n) l = absurd (omega arith)

searches_sim : (s : Snapshot) (q : Query) (F : ℕ) → Counts F (searched s q F) (searched_freely s q)
unfolding searched searched_freely filled
searches_sim s q F =
    search_sim ℕ counted (λ n. n) Over counts_free F s q (filled F) 0
    (record { spent_is = refl; rest = omega arith; silent = refl; no_left = refl; no_sought = refl })

-- what the report of a search tells of the search without a tank
pub searched_tells : (s : Snapshot) (q : Query) (F : ℕ) → Tells s q F (searched_freely s q) (reported s q (searched s q F))
searched_tells s q F = told s q F _ _ (searches_sim s q F)

untold : (s : Snapshot) (q : Query) (F : ℕ) (a : Out Tank) (c : Out ℕ) → Counts F a c → (reported s q a).empty ≡ 0
    → ((reported s q a).left ≡ 0) × ((reported s q a).sought ≡ 0)
unfolding reported flag
untold s q F a c (same e h) z = (h.no_left, h.no_sought)
untold s q F a c (dry l m h n) z = let y = ap flag h.said in absurd (omega arith)

-- nothing is told of a first empty tank where none was
pub searched_untold : (s : Snapshot) (q : Query) (F : ℕ) → (reported s q (searched s q F)).empty ≡ 0
    → ((reported s q (searched s q F)).left ≡ 0) × ((reported s q (searched s q F)).sought ≡ 0)
searched_untold s q F z = untold s q F _ _ (searches_sim s q F) z

-- the list of charges, against the tank

abbrev At : ℕ → ℕ → ℕ → List Spot → Type 0
At F l m ps = (F < length ps) × ((get_or ps F no_spot).left ≡ l) × ((get_or ps F no_spot).sought ≡ m)

at_more : (F l m : ℕ) (ps : List Spot) (p : Spot) → At F l m ps → At F l m (ps ++ (p ∷ []))
at_more F l m ps p h =
    let e = get_or-append ps (p ∷ []) no_spot F h.0 in
    (omega (arith, h.0, length-append ps (p ∷ [])), ap (λ (z : Spot). z.left) e ∙ h.1, ap (λ (z : Spot). z.sought) e ∙ h.2)

at_last : (F : ℕ) (ps : List Spot) (p : Spot) → length ps ≡ F → At F p.left p.sought (ps ++ (p ∷ []))
at_last F ps p h =
    let e = get_or_at ps p [] no_spot F h in
    (omega (arith, h, length-append ps (p ∷ [])), ap (λ (z : Spot). z.left) e, ap (λ (z : Spot). z.sought) e)

lists_free : Free (List Spot) listed length At
unfolding listed
lists_free =
    record {
      next = λ left sought ps. ps ++ (record { left = left; sought = sought } ∷ []);
      goes = λ left sought ps. refl;
      grows = λ left sought ps. length-append ps (record { left = left; sought = sought } ∷ []);
      meets = λ F left sought ps h. at_last F ps (record { left = left; sought = sought }) h;
      stays = λ F l m left sought ps h. at_more F l m ps (record { left = left; sought = sought }) h;
    }

abbrev Lists : ℕ → Out Tank → Out (List Spot) → Type 0
Lists = Sim (List Spot) length At

lists_sim : (s : Snapshot) (q : Query) (F : ℕ) → Lists F (searched s q F) (searched_listing s q)
unfolding searched searched_listing filled
lists_sim s q F =
    search_sim (List Spot) listed length At lists_free F s q (filled F) []
    (record { spent_is = refl; rest = omega arith; silent = refl; no_left = refl; no_sought = refl })

told_first : (s : Snapshot) (q : Query) (F : ℕ) (a : Out Tank) (c : Out (List Spot)) → Lists F a c → TellsFirst F c (reported s q a)
unfolding reported flag
told_first s q F a c (same e h) =
    let no = ap flag h.silent in
    record { left = λ z. absurd (omega arith); sought = λ z. absurd (omega arith) }
told_first s q F a c (dry l m h n) = record { left = λ _. n.1 ∙ sym h.left_is; sought = λ _. n.2 ∙ sym h.sought_is }

-- A report that says empty tells of the charge of the search without a tank whose number, from 0, is its fuel.
pub searched_first : (s : Snapshot) (q : Query) (F : ℕ) → TellsFirst F (searched_listing s q) (reported s q (searched s q F))
searched_first s q F = told_first s q F _ _ (lists_sim s q F)

both_whole : (F : ℕ) (a : Out Tank) (c : Out ℕ) (d : Out (List Spot)) → Counts F a c → Lists F a d → c.meter ≤ F → length d.meter ≤ F
    → SameSearch c d
both_whole F a c d (same e h) (same f k) u v = record { choice = sym f ∙ e; count = omega (arith, h.spent_is, k.spent_is) }
both_whole F a c d (same e h) (dry l m i n) u v = absurd (omega (arith, n.0))
both_whole F a c d (dry l m h n) k u v = absurd (omega arith)

-- The search that lists its charges is the one that counts them.
pub listing_counts : (s : Snapshot) (q : Query) → SameSearch (searched_freely s q) (searched_listing s q)
listing_counts s q =
    let n = (searched_freely s q).meter in
    let l = length (searched_listing s q).meter in
    both_whole (n + l) _ _ _ (searches_sim s q (n + l)) (lists_sim s q (n + l)) (omega arith) (omega arith)

-- the second report is on the same snapshot
moved : (words : List ℕ) (q : Query) (G : ℕ) (r : Report) (s : Snapshot) → verdict words ≡ accept s → Searched words q G r
    → r ≡ reported s q (searched s q G)
moved words q G r s e g =
    let same_snapshot : g.snapshot ≡ s = cc (e, g.accepted) in
    g.answer ∙ ap (λ (z : Snapshot). reported z q (searched z q G)) same_snapshot

compared : (words : List ℕ) (area : ℕ) (q : Query) (F G : ℕ) (s : Snapshot) → F < G → verdict words ≡ accept s
    → report_at words area q F ≡ reported s q (searched s q F) → report_at words area q G ≡ reported s q (searched s q G)
    → Compared words area q F G
compared words area q F G s lt e f g =
    let a = searches_sim s q F in
    let b = searches_sim s q G in
    let tf : Tells s q F (searched_freely s q) (report_at words area q F) = rw f (searched_tells s q F) in
    let tg : Tells s q G (searched_freely s q) (report_at words area q G) = rw g (searched_tells s q G) in
    record {
      snapshot = s;
      accepted = e;
      equal = (
        (λ r. omega (arith, tf.charges, tg.charges, ap (λ (z : Report). z.charges) r)),
        λ l. f ∙ within s q F _ _ a l ∙ sym (within s q G _ _ b (omega arith)) ∙ sym g,
      );
      smaller = tf;
      larger = tg;
    }

-- Put one question twice to the same words of a snapshot, with the fuels F < G ≤ 10,000, so that neither report
-- is refused. Let n be the number of charges that the search without a tank makes for it. Then
-- (a) the two reports are equal in every field exactly when n is at most F;
-- (b) each report counts the smaller of its fuel and n;
-- (c) each report says empty exactly when its fuel is below n;
-- (d) a report that does not say empty has the path of the search without a tank, or none where that has none.
pub fuels_compared : FuelsCompared
fuels_compared words area q F G lt le hf hg =
    let f = not_refused words area q F hf in
    let g = not_refused words area q G hg in
    compared words area q F G f.snapshot lt f.accepted f.answer (moved words q G _ f.snapshot f.accepted g)
