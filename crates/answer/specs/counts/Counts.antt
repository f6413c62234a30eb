-- An answer that is a count or a refusal, as the two numbers that C gets of it.
use Rattle.std.specs.Prelude.{ℕ, Result, Ok, Err}
use Rattle.snapshot.specs.Refusals.{refusal_number}
use Rattle.snapshot.specs.declared.refusal.Refusal.{Refusal}

-- the number of the refusal, 0 for none, and the count
pub record Counted : Type 0 where
  pub number : ℕ
  pub count : ℕ

-- a new count, or a refusal, beside which n is the count
abbrev pub told : ℕ → Result ℕ Refusal → Counted
told n (Ok m) = record { number = 0; count = m }
told n (Err k) = record { number = refusal_number k; count = n }
