-- The import records of accepted words are the words of the snapshot's imports; the records after them do not go by imports.
use Prim.Native.Nat.{ℕ, zero, suc, ◌+◌, ◌*◌, ◌≤◌, ◌<◌}
use mathlib.Core.Path.{◌≡◌, refl, sym, ◌∙◌, ap, ap₂}
use mathlib.Core.List.{List, [], ◌∷◌, append-nil}
use mathlib.Core.Bool.{true, false}
use native.Mathlib.Omega.{arith}
use borrow.Author.Tests.{eqb-true, eqb-false, ltb-true, ltb-false, ne_eqb}
use lib.Dec.{eqb, ltb}
use lib.ListN.{length, get_or}
use Rattle.snapshot.specs.Lists.{any}
use Rattle.snapshot.specs.Words.{kind_of, arguments_at}
use Rattle.snapshot.specs.Sizes.{import_size}
use Rattle.snapshot.specs.Records.{Snapshot, Import, Extern, Member, import_at, extern_at, member_at}
use Rattle.check_rules.specs.Tests.{counts_of, import_range, import_defined, ns_placed, extern_defined, same_extern, member_range, member_defined}
use Rattle.check_rules.specs.Tests.{member_placed}
use Rattle.check_rules.specs.Steps.{Next, on, add_import, add_extern, add_member, import_step, extern_step, member_step}
use Rattle.check_rules.specs.Verdict.{accept, finish, record_step, records}
use Rattle.accept.specs.Valid.{Each, none, more}
use Rattle.accept.proofs.Accepted.{by_test, Taken, judge_on}
use Rattle.accept.proofs.Folds.{records_end}
use Rattle.edit_rules.specs.Entries.{with_lists}
use Rattle.edit_rules.proofs.scope_edits.Stepped.{follows_rise, taking, taken_step, taking_within}
use Rattle.edit_rules.proofs.scope_edits.Folded.{finish_accepts, next_record, records_take, records_after}
use Rattle.import_rules.specs.import_words.Words.{Fits}
use Rattle.import_rules.proofs.import_words.Taken.{import_kind, import_arguments, with_more, more_next}

-- the fold over the import records from a place on
pub record Run (W : List ℕ) (u : Snapshot) (a : ℕ) (s : Snapshot) (xs : List Import) : Type 0 where
  pub fuel : ℕ
  pub enough : length W ≤ fuel + (a + import_size * length xs)
  pub within : a + import_size * length xs ≤ length W
  pub rest : records fuel W (a + import_size * length xs) 11 (with_more s xs) ≡ accept u
  pub fits : Each (Fits s) xs

import_took : (s t : Snapshot) (x : Import) → import_step s x ≡ on t
    → Taken (import_range x) (import_defined (counts_of s) x) false (ns_placed s x.ns x.definition) true (add_import s x) t
unfolding import_step
import_took s t x e = judge_on (import_range x) (import_defined (counts_of s) x) false (ns_placed s x.ns x.definition) true (add_import s x) t e

module _ (W : List ℕ) (u : Snapshot) where
  -- no import record stands there
  run_none : (n a : ℕ) (s : Snapshot) → a ≤ length W → length W ≤ n + a → (a < length W → 11 ≤ kind_of (get_or W a 0)) → records n W a 10 s ≡ accept u
      → Run W u a s []
  run_none n a s within enough late e =
      let to : a + import_size * 0 ≡ a = omega arith in
      record {
        fuel = n;
        enough = omega arith;
        within = omega arith;
        rest = ap₂ (λ j l. records n W j 11 (with_lists s s.scopes l s.externs)) to (append-nil s.imports)
            ∙ records_after W n a 10 11 s u late e;
        fits = none;
      }

  -- one stands there
  run_more : (a : ℕ) (s : Snapshot) (xs : List Import) → kind_of (get_or W a 0) ≡ 10 → Fits s (import_at W a)
      → Run W u (a + import_size) (add_import s (import_at W a)) xs → Run W u a s (import_at W a ∷ xs)
  run_more a s xs k f r =
      let to : a + import_size + import_size * length xs ≡ a + import_size * suc (length xs) = omega arith in
      let m = r.enough in
      let w = r.within in
      record {
        fuel = r.fuel;
        enough = omega arith;
        within = omega arith;
        rest = sym (ap₂ (λ j t. records r.fuel W j 11 t) to (more_next s (import_at W a) xs)) ∙ r.rest;
        fits = more f r.fits;
      }

  pub old_imports : (n a : ℕ) (s : Snapshot) → a ≤ length W → length W ≤ n + a → records n W a 10 s ≡ accept u → (xs : List Import) × Run W u a s xs
  unfolding records
  old_imports zero a s within enough e = ([], run_none zero a s within enough (λ h. absurd (omega arith)) e)
  old_imports (suc n) a s within enough e =
      by_test (ltb a (length W))
      (λ c.
      let h = ltb-true a (length W) c in
      let r = next_record W n a 10 s u h e in
      let t = taking W a 10 s r.state r.step in
      let rise : 10 ≤ kind_of (get_or W a 0) = follows_rise 10 (kind_of (get_or W a 0)) t.order (λ x y. omega arith) in
      by_test (eqb (kind_of (get_or W a 0)) 10)
      (λ d.
      let k = eqb-true (kind_of (get_or W a 0)) 10 d in
      let five = import_arguments W a k in
      let q = import_took s r.state (import_at W a) (sym (import_kind W a (kind_of (get_or W a 0)) s k) ∙ t.step) in
      let p = q.passed in
      let w = taking_within W a 10 s r.state t h in
      let to : a + 1 + arguments_at W a ≡ a + import_size = omega arith in
      let rest : records n W (a + import_size) 10 (add_import s (import_at W a)) ≡ accept u =
      ap (λ j. records n W j 10 (add_import s (import_at W a))) (sym to)
      ∙ ap (λ j. records n W (a + 1 + arguments_at W a) j (add_import s (import_at W a))) (sym k)
      ∙ ap (records n W (a + 1 + arguments_at W a) (kind_of (get_or W a 0))) q.same ∙ r.rest in
      let i = old_imports n (a + import_size) (add_import s (import_at W a)) (omega arith) (omega arith) rest in
      (import_at W a ∷ i.0, run_more a s i.0 k (p.ranged, p.known, p.right) i.1))
      (λ d. let k = eqb-false (kind_of (get_or W a 0)) 10 d in
      ([], run_none (suc n) a s within enough (λ g. omega arith) e)))
      (λ c. ([], run_none (suc n) a s within enough (λ g. let l = ltb-false a (length W) c in absurd (omega arith)) e))

-- The records after the imports: externs and members.

abbrev pub with_these : Snapshot → List Import → Snapshot
with_these s is = with_lists s s.scopes is s.externs

abbrev Apart : (s t : Snapshot) → List Import → (Snapshot → Next) → Type 0
Apart s t is step = (t.imports ≡ s.imports) × (step (with_these s is) ≡ on (with_these t is))

module _ (s t : Snapshot) (is : List Import) where
  extern_apart : (x : Extern) → extern_step s x ≡ on t → Apart s t is (λ s. extern_step s x)
  unfolding extern_step
  extern_apart x e =
      let q = judge_on true (extern_defined (counts_of s) x) (any (same_extern x) s.externs) true true (add_extern s x) t e in
      let p = q.passed in
      (ap (λ (r : Snapshot). r.imports) (sym q.same), rw (p.known, p.new) (ap (λ (r : Snapshot). on (with_these r is)) q.same))

  member_apart : (x : Member) → member_step s x ≡ on t → Apart s t is (λ s. member_step s x)
  unfolding member_step
  member_apart x e =
      let q = judge_on (member_range x) (member_defined (counts_of s) x) false (member_placed s x) true (add_member s x) t e in
      let p = q.passed in (
        ap (λ (r : Snapshot). r.imports) (sym q.same),
        rw (p.ranged, p.known, p.right) (ap (λ (r : Snapshot). on (with_these r is)) q.same),
      )

  record_apart : (W : List ℕ) (a k : ℕ) → 11 ≤ k → record_step k W a s ≡ on t → Apart s t is (record_step k W a)
  unfolding record_step
  record_apart W a k h e =
      let n : (m : ℕ) → m < 11 → eqb k m ≡ false = λ m l. ne_eqb k m (λ x. omega arith) in
      let n1 = n 1 (omega arith) in
      let n2 = n 2 (omega arith) in
      let n3 = n 3 (omega arith) in
      let n4 = n 4 (omega arith) in
      let n5 = n 5 (omega arith) in
      let n6 = n 6 (omega arith) in
      let n7 = n 7 (omega arith) in
      let n8 = n 8 (omega arith) in
      let n9 = n 9 (omega arith) in
      let n10 = n 10 (omega arith) in
      by_test (eqb k 11)
      (λ c. rw (record_step, n1, n2, n3, n4, n5, n6, n7, n8, n9, n10, c)
      (extern_apart (extern_at W a) (rw (record_step, n1, n2, n3, n4, n5, n6, n7, n8, n9, n10, c) at e)))
      (λ c. rw (record_step, n1, n2, n3, n4, n5, n6, n7, n8, n9, n10, c)
      (member_apart (member_at W a) (rw (record_step, n1, n2, n3, n4, n5, n6, n7, n8, n9, n10, c) at e)))

finish_apart : (at : ℕ) (s u : Snapshot) (is : List Import) → finish at s ≡ accept u → finish at (with_these s is) ≡ accept (with_these u is)
unfolding finish
finish_apart at s u is e =
    let q = finish_accepts at s u e in
    rw (finish, q.1) (ap (λ (x : Snapshot). accept (with_these x is)) q.0)

abbrev Ended : List ℕ → ℕ → ℕ → ℕ → (s u : Snapshot) → List Import → Type 0
Ended W n a last s u is = (u.imports ≡ s.imports) × (records n W a last (with_these s is) ≡ accept (with_these u is))

apart_end : (W : List ℕ) (n a last : ℕ) (s u : Snapshot) (is : List Import) → length W ≤ a → records n W a last s ≡ accept u → Ended W n a last s u is
apart_end W n a last s u is h e =
    let f = sym (records_end W a last s n h) ∙ e in (
      ap (λ (x : Snapshot). x.imports) (sym (finish_accepts (length W) s u f).0),
      records_end W a last (with_these s is) n h ∙ finish_apart (length W) s u is f,
    )

pub run_apart : (W : List ℕ) (n a last : ℕ) (s u : Snapshot) (is : List Import) → 11 ≤ last → length W ≤ n + a → records n W a last s ≡ accept u
    → Ended W n a last s u is
run_apart W zero a last s u is late enough e = apart_end W zero a last s u is (omega arith) e
run_apart W (suc n) a last s u is late enough e =
    by_test (ltb a (length W))
    (λ c.
    let h = ltb-true a (length W) c in
    let r = next_record W n a last s u h e in
    let t = taking W a last s r.state r.step in
    let rise : last ≤ kind_of (get_or W a 0) = follows_rise last (kind_of (get_or W a 0)) t.order (λ x y. omega arith) in
    let q = record_apart s r.state is W a (kind_of (get_or W a 0)) (omega arith) t.step in
    let step = taken_step W a last (with_these s is) (with_these r.state is) (record { order = t.order; whole = t.whole; step = q.1 }) in
    let p = run_apart W n (a + 1 + arguments_at W a) (kind_of (get_or W a 0)) r.state u is (omega arith) (omega arith) r.rest in
    (p.0 ∙ q.0, records_take W n a last (with_these s is) (with_these r.state is) h step refl refl ∙ p.1))
    (λ c. apart_end W (suc n) a last s u is (ltb-false a (length W) c) e)

-- what stands before may be lower
pub run_lower : (W : List ℕ) (n a last m : ℕ) (s u : Snapshot) → 6 ≤ last → m ≤ last → length W ≤ n + a → records n W a last s ≡ accept u
    → records n W a m s ≡ accept u
run_lower W zero a last m s u h g enough e = records_after W zero a last m s u (λ l. absurd (omega arith)) e
run_lower W (suc n) a last m s u h g enough e =
    records_after W (suc n) a last m s u
    (λ l.
    let r = next_record W n a last s u l e in
    let t = taking W a last s r.state r.step in
    let rise : last ≤ kind_of (get_or W a 0) = follows_rise last (kind_of (get_or W a 0)) t.order (λ x y. omega arith) in
    omega arith) e
