-- What a search by a test answers: P h b says that the test may answer b of the record with its head at h.
use Rattle.hir_def.specs.declared.Place.{Place}
use Rattle.std.specs.Prelude.{ℕ, suc, List, ◌+◌, ◌*◌, ◌≤◌, ◌<◌, ◌≡◌, Bool, true, false, None, Some}
use Rattle.std.specs.Prelude.{Option}
use Rattle.snapshot.specs.Ids.{plus_one}
use Rattle.snapshot.specs.Records.{Scope, scope_at}
use Rattle.snapshot.specs.declared.ids.ModuleId.{ModuleId}
use Rattle.hir_def.specs.Entries.{entry_of}

-- a test that is asked of an owner's records alone: what does not pass, the test does not pass where it is its
unfoldable pub Only : (ℕ → ℕ) → ℕ → (ℕ → Bool → Type 0) → ℕ → Bool → Type 0
Only owner c P h true = P h true
Only owner c P h false = owner h ≡ c → P h false

-- of records of one size from a place on, those with numbers from k up to j don't pass
abbrev pub PassedBy : (ℕ → Bool → Type 0) → ℕ → ℕ → ℕ → ℕ → Type 0
PassedBy P size base k j = (i : ℕ) → k ≤ i → i < j → P (base + size * i) false

-- the record j, with its head at h, is the first that passes, from the number k on
pub record MeetsBy (P : ℕ → Bool → Type 0) (size base n k j h : ℕ) : Type 0 where
  pub head : h ≡ base + size * j
  pub from : k ≤ j
  pub below : j < n
  pub passes : P h true
  pub before : PassedBy P size base k j

-- the next that passes, of n records, from the number k on
unfoldable pub NextBy : (ℕ → Bool → Type 0) → ℕ → ℕ → ℕ → ℕ → Option Place → Type 0
NextBy P size base n k (Some r) = MeetsBy P size base n k r.number r.head
NextBy P size base n k None = PassedBy P size base k n

-- the first that passes
unfoldable pub FirstBy : (ℕ → Bool → Type 0) → ℕ → ℕ → ℕ → Option ℕ → Type 0
FirstBy P size base n (Some h) = (j : ℕ) × MeetsBy P size base n 0 j h
FirstBy P size base n None = PassedBy P size base 0 n

-- what is found in each module is f's entry, and what is around it is the step's, to a smaller number +1
pub record Outwards (F : ModuleId → Option ℕ → Type 0) (S : ModuleId → Option ModuleId → Type 0) (W : List ℕ) (f : ℕ → Option Scope)
    (step : ℕ → ℕ) (from : ℕ) : Type 0 where
  pub falls : (v w : ℕ) → v ≤ from → step v ≡ suc w → w < v
  pub finds : (m : ModuleId) (e : Option ℕ) → m.0 ≤ from → F m e → entry_of scope_at W e ≡ f m.0
  pub steps : (m : ModuleId) (o : Option ModuleId) → m.0 ≤ from → S m o → plus_one o ≡ step m.0
