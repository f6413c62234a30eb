-- The joined words are accepted, as the joined snapshot.
use Prim.Native.Nat.{ℕ, ◌≤◌}
use mathlib.Core.Path.{◌≡◌, refl, sym, ◌∙◌, ap}
use mathlib.Core.List.{List}
use mathlib.Core.Bool.{true, ◌&&◌}
use native.Mathlib.Omega.{arith}
use borrow.Author.Tests.{leb-true}
use lib.Dec.{leb, ltb}
use lib.ListN.{length}
use Rattle.snapshot.specs.Limits.{word_limit, crate_limit, module_limit, name_limit, definition_limit, area_limit}
use Rattle.snapshot.specs.Refusals.{area_refusal, join_refusal}
use Rattle.snapshot.specs.Records.{Snapshot}
use Rattle.check_rules.specs.Tests.{counts_of}
use Rattle.accept.specs.Valid.{Limits}
use Rattle.check_rules.specs.Verdict.{Verdict, refuse, accept, verdict}
use Rattle.accept.proofs.Accepted.{by_test}
use Rattle.accept.proofs.Bools.{and_two, and_five}
use Rattle.accept.proofs.Valid.{accepted_valid}
use Rattle.edit_rules.specs.Written.{snapshot_words}
use Rattle.join_rules.specs.Joined.{together, joined, joined_words, is_within, refused_by, joined_as, join_in, join_by, join_of}
use Rattle.join_rules.proofs.Accepts.{written_accepted}
use Rattle.join_rules.proofs.Sound.{sound, sound_whole}
use Rattle.join_rules.proofs.Wholes.{accepted_whole}

within : (u : Snapshot) → is_within u ≡ true → (length (snapshot_words u) ≤ word_limit) × Limits (counts_of u)
within u e =
    let p = and_five (leb (length (snapshot_words u)) word_limit) (leb (length u.names) name_limit) (leb (length u.crates) crate_limit)
    (leb (length u.modules) module_limit) (leb (length u.definitions) definition_limit) e in (
      leb-true (length (snapshot_words u)) word_limit p.0,
      record {
        names = leb-true (length u.names) name_limit p.1;
        crates = leb-true (length u.crates) crate_limit p.2;
        modules = leb-true (length u.modules) module_limit p.3;
        definitions = leb-true (length u.definitions) definition_limit p.4;
      },
    )

-- The words of two accepted snapshots joined are accepted, as the joined snapshot, where no limit is passed.
pub joined_accepted : (W X : List ℕ) (s t : Snapshot) → verdict W ≡ accept s → verdict X ≡ accept t → is_within (together s t) ≡ true
    → verdict (joined_words s t) ≡ accept (joined s t)
joined_accepted W X s t a b e =
    let l = within (together s t) e in
    let v = accepted_valid W s a in
    let w = accepted_valid X t b in
    let p = accepted_whole W s a in
    let q = accepted_whole X t b in
    written_accepted (together s t) (sound s t v w p q l.1) (sound_whole s t v w p q) l.0

-- what a call that is not refused answers
pub record Accepts (W X Y : List ℕ) : Type 0 where
  pub first : Snapshot
  pub second : Snapshot
  pub one : verdict W ≡ accept first
  pub two : verdict X ≡ accept second
  pub words : Y ≡ joined_words first second
  pub same : verdict Y ≡ accept (joined first second)

refused_not : {C : Type 0} {n : ℕ} {ws : List ℕ} → refused_by n ≡ joined_as ws → C
refused_not e = let z : ◌≡◌ {A = ℕ} 0 1 = cc in absurd (omega arith)

by_verdict : {C : Type 0} (v : Verdict) → ((n at : ℕ) → v ≡ refuse n at → C) → ((s : Snapshot) → v ≡ accept s → C) → C
by_verdict (refuse n at) f g = f n at refl
by_verdict (accept s) f g = g s refl

-- Words that a call answers are accepted: whenever no number refuses the call, the joined words are a snapshot.
pub join_accepted : (area room : ℕ) (W X Y : List ℕ) → join_of area W X room ≡ joined_as Y → Accepts W X Y
unfolding join_of join_by join_in
join_accepted area room W X Y e =
    by_test (ltb area area_limit)
    (λ a. let f : refused_by area_refusal ≡ joined_as Y = rw (join_of, a) at e in refused_not f)
    (λ a.
    let f : join_by room (verdict W) (verdict X) ≡ joined_as Y = rw (join_of, a) at e in
    by_verdict (verdict W)
    (λ n at p. let g : refused_by n ≡ joined_as Y = ap (λ x. join_by room x (verdict X)) (sym p) ∙ f in refused_not g)
    (λ s p.
    by_verdict (verdict X)
    (λ n at q. let g : refused_by n ≡ joined_as Y = ap (λ x. join_by room (accept s) x) (sym q) ∙ ap (λ x. join_by room x (verdict X)) (sym p)
    ∙ f in refused_not g)
    (λ t q.
    let g : join_in room s t ≡ joined_as Y = ap (λ x. join_by room (accept s) x) (sym q) ∙ ap (λ x. join_by room x (verdict X)) (sym p) ∙ f in
    by_test (is_within (together s t) && leb (length (joined_words s t)) room)
    (λ b.
    let h : joined_as (joined_words s t) ≡ joined_as Y = rw (join_in, b) at g in
    let y : joined_words s t ≡ Y = cc in
    let i = and_two (is_within (together s t)) (leb (length (joined_words s t)) room) b in
    record {
      first = s;
      second = t;
      one = p;
      two = q;
      words = sym y;
      same = ap verdict (sym y) ∙ joined_accepted W X s t p q i.0;
    })
    (λ b. let h : refused_by join_refusal ≡ joined_as Y = rw (join_in, b) at g in refused_not h))))
