-- What a call leaves, by what was refused.
use Prim.Native.Nat.{ℕ, ◌+◌, ◌≤◌, ◌<◌}
use mathlib.Core.Path.{◌≡◌, refl, sym, ◌∙◌, ap, ap₂, subst}
use mathlib.Core.List.{List, ◌++◌}
use native.Mathlib.Omega.{arith}
use borrow.Author.Tests.{lt-ltb, le-ltb}
use lib.ListN.{length, drop, get_or-append}
use lib.Seq.{drop_at}
use Rattle.snapshot.specs.Limits.{area_limit}
use Rattle.snapshot.specs.Refusals.{area_refusal}
use Rattle.snapshot.specs.Records.{Snapshot}
use Rattle.check_rules.specs.Verdict.{Verdict, refuse, accept, verdict}
use Rattle.accept.proofs.Valid.{accepted_valid}
use Rattle.answer.specs.Answers.{zeros}
use Rattle.answer.proofs.Areas.{area_small, area_large}
use Rattle.join.specs.numbers.Parts.{part_of}
use Rattle.join.specs.numbers.Numbered.{name_table, definition_table, NumbersIn, Numbered}
use Rattle.join.specs.declared.numbers.tables.New.{New}
use Rattle.join.proofs.numbers.Parts.{part_is}
use Rattle.join.specs.new_numbers.New.{fault_by, numbers_fault, NumbersBy, NewNumbers}

IsRefused : Verdict → Type 0
IsRefused (refuse n at) = Unit
IsRefused (accept s) = ⊥

pub apart : {n at : ℕ} {s : Snapshot} → refuse n at ≡ accept s → ⊥
unfolding IsRefused
apart e = subst IsRefused e tt

pub first_refused : {v : Verdict} (w : Verdict) (A : List ℕ) (n at : ℕ) → refuse n at ≡ v → NumbersBy v w A n
unfolding fault_by
first_refused {v} w A n at e = record { number = ap (λ x. fault_by x w) e; tables = λ s t p q. absurd (apart (e ∙ p)) }

pub second_refused : (s : Snapshot) {w : Verdict} (A : List ℕ) (n at : ℕ) → refuse n at ≡ w → NumbersBy (accept s) w A n
unfolding fault_by
second_refused s {w} A n at e = record { number = ap (fault_by (accept s)) e; tables = λ u t p q. absurd (apart (e ∙ q)) }

module _ (W X A : List ℕ) (first : verdict W ≡ accept (part_of W)) where
  pub by_first : (B : List ℕ) (r : ℕ) → NumbersBy (accept (part_of W)) (verdict X) B r → NumbersBy (verdict W) (verdict X) B r
  by_first B r k = subst (λ v. NumbersBy v (verdict X) B r) (sym first) k

  pub both_numbered : (second : verdict X ≡ accept (part_of X)) (B : List ℕ) (n : New) → Numbered (part_of W) (part_of X) A B n
      → NumbersBy (accept (part_of W)) (verdict X) B 0
  unfolding fault_by
  both_numbered second B n k =
      record {
        number = ap (fault_by (accept (part_of W))) (sym second);
        tables = λ s t p q. (
            let a : part_of W ≡ s = part_is W s (first ∙ p) in
            let b : part_of X ≡ t = part_is X t q in
            subst (λ x. NumbersIn x t B) a (subst (λ x. NumbersIn (part_of W) x B) b k.numbers)
            );
      }

pub numbers_small : (W X A : List ℕ) → length A < area_limit → NewNumbers W X A A area_refusal
unfolding numbers_fault
numbers_small W X A h =
    record {
      number = sym (rw (numbers_fault, lt-ltb _ _ h));
      tables = λ s t g p q. absurd (omega (arith, h, g));
      cleared = λ _. area_small A h;
      rest = refl;
    }

-- the fault of two inputs in an area that serves
fault_large : (W X A : List ℕ) → area_limit ≤ length A → numbers_fault (length A) W X ≡ fault_by (verdict W) (verdict X)
unfolding numbers_fault
fault_large W X A h = rw (numbers_fault, le-ltb _ _ h)

pub numbers_refused : (W X A B C : List ℕ) (r : ℕ) → area_limit ≤ length A → length B ≡ area_limit → B ≡ zeros area_limit
    → (r ≡ 0 → ⊥) → NumbersBy (verdict W) (verdict X) C r → NewNumbers W X A (B ++ drop area_limit A) r
unfolding fault_by
numbers_refused W X A B C r h n z some k =
    record {
      number = k.number ∙ sym (fault_large W X A h);
      tables = λ s t g p q. absurd (some (k.number ∙ ap₂ fault_by p q));
      cleared = λ _. area_large A B h z;
      rest = drop_at B (drop area_limit A) area_limit n;
    }

pub numbers_large : (W X A B : List ℕ) → area_limit ≤ length A → length B ≡ area_limit → NumbersBy (verdict W) (verdict X) B 0
    → NewNumbers W X A (B ++ drop area_limit A) 0
numbers_large W X A B h n k =
    record {
      number = k.number ∙ sym (fault_large W X A h);
      tables = λ s t g p q. (
          let i = k.tables s t p q in
          let l = (accepted_valid X t q).limits in
          record {
            names = λ j u. get_or-append B (drop area_limit A) 0 (name_table + j) (omega (arith, u, n, l.names)) ∙ i.names j u;
            definitions = λ j u. get_or-append B (drop area_limit A) 0 (definition_table + j) (omega (arith, u, n, l.definitions))
                ∙ i.definitions j u;
          }
          );
      cleared = λ z. absurd (z (fault_large W X A h ∙ sym k.number));
      rest = drop_at B (drop area_limit A) area_limit n;
    }
