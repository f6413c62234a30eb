-- What the lookups answer.
use Rattle.hir_def.specs.declared.Place.{Place}
use Rattle.std.specs.Prelude.{ℕ, ◌+◌, ◌-◌, ◌*◌, ◌≤◌, ◌<◌, ◌≡◌, List, [], ◌∷◌, Bool, true, false}
use Rattle.std.specs.Prelude.{Option, None, Some}
use Rattle.snapshot.specs.Lists.{rows}
use Rattle.snapshot.specs.Records.{Definition, definition_at}
use Rattle.snapshot.specs.declared.layout.Layout.{Layout}
use Rattle.hir_def.specs.Finds.{select}
use Rattle.hir_def.specs.declared.Item.{Item}
use Rattle.hir_def.specs.declared.Item.TheVariants.{Mod, Def}

-- an item of the snapshot: its number is in range
abbrev pub Known : Layout → Item → Type 0
Known l (Mod m) = m.0 < l.modules
Known l (Def ns d) = d.0 < l.definitions

-- the record with its head at the place that is answered
abbrev pub entry_of : {R : Type 0} → (List ℕ → ℕ → R) → List ℕ → Option ℕ → Option R
entry_of f W (Some h) = Some (f W h)
entry_of f W None = None

-- the definition with its head at the place has the fields of this one, and is it where it has a kind; one that is not there has no place
pub record ReadsAs (W : List ℕ) (h : ℕ) (x : Definition) : Type 0 where
  pub kind : (definition_at W h).kind ≡ x.kind
  pub first : (definition_at W h).first ≡ x.first
  pub second : (definition_at W h).second ≡ x.second
  pub whole : 0 < x.kind → definition_at W h ≡ x

-- one record where the test says so
abbrev pub one_if : {R : Type 0} → Bool → R → Option R
one_if true x = Some x
one_if false x = None

-- of n records of one size from a place on, the number of those up to and with the one that is answered, or of all
abbrev pub UpTo : ℕ → ℕ → ℕ → Option ℕ → ℕ → Type 0
UpTo size base n (Some h) k = h + size ≡ base + size * k
UpTo size base n None k = k ≡ n

-- the records that pass a test, of those with numbers from k up to n
abbrev pub left_of : {R : Type 0} → (R → Bool) → (ℕ → R) → ℕ → ℕ → List R
left_of p f n k = select p (rows f k (n - k))

-- the record j, with its head at h, is the first of these, and the rest are those after it
pub record Meets {R : Type 0} (p : R → Bool) (f : List ℕ → ℕ → R) (size : ℕ) (W : List ℕ) (base n k j h : ℕ) : Type 0 where
  pub head : h ≡ base + size * j
  pub from : k ≤ j
  pub below : j < n
  pub passes : p (f W h) ≡ true
  pub next : left_of p (λ i. f W (base + size * i)) n k ≡ f W h ∷ left_of p (λ i. f W (base + size * i)) n (j + 1)

-- none is left
pub record Ends {R : Type 0} (p : R → Bool) (f : List ℕ → ℕ → R) (size : ℕ) (W : List ℕ) (base n k : ℕ) : Type 0 where
  pub none : left_of p (λ i. f W (base + size * i)) n k ≡ []

-- the next record that passes the test, of n of one size from a place on, from the number k on
unfoldable pub NextOf : {R : Type 0} → (R → Bool) → (List ℕ → ℕ → R) → ℕ → List ℕ → ℕ → ℕ → ℕ → Option Place → Type 0
NextOf p f size W base n k (Some r) = Meets p f size W base n k r.number r.head
NextOf p f size W base n k None = Ends p f size W base n k
