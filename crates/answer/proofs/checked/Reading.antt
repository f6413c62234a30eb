-- Laws of a path that was found and is read.
use Prim.Native.Nat.{ℕ, ◌/◌, ◌%◌, ◌≤◌, ◌<◌}
use mathlib.Core.Path.{◌≡◌, refl, ◌∙◌, ap}
use mathlib.Core.Bool.{Bool, true, false, ◌&&◌, ◌||◌, not, true≢false, false≢true}
use lib.Dec.{eqb}
use lib.ListN.{take}
use Rattle.snapshot.specs.Limits.{path_limit}
use Rattle.snapshot.specs.Records.{Snapshot}
use Rattle.hir_def.specs.Items.{types, builtin_kind, definition_of, item_of}
use Rattle.hir_def.specs.declared.Item.{Item}
use Rattle.read_back.specs.readings.Reads.{reads_back}
use Rattle.find_path_choice.specs.Choices.{Choice, nothing}
use Rattle.find_path_spec.specs.declared.Query.{Query}
use Rattle.find_path_spec.specs.declared.Tank.{Tank}
use Rattle.find_path_spec.specs.Meters.{from_tank, filled}
use Rattle.find_path_spec.specs.Charged.{Found, found_of}
use Rattle.find_path_spec.specs.Report.{misleads, searched}
use Rattle.find_path_spec.proofs.laws.Bounds.{search_fits}

-- asked for by the bit a, found b, a builtin c, and whether it reads back

unread : (a b c d : Bool) → not (a && (b && not c)) ≡ true → false ≡ (a && (b && not (c || d)))
unread true true true d e = refl
unread true true false d e = absurd (false≢true e)
unread true false c d e = refl
unread false b c d e = refl

read : (a b c d : Bool) → not (a && (b && not c)) ≡ false → not d ≡ (a && (b && not (c || d)))
read true true true d e = absurd (true≢false e)
read true true false d e = refl
read true false c d e = absurd (true≢false e)
read false b c d e = absurd (true≢false e)

no_path : (a : Bool) → false ≡ (a && false)
no_path true = refl
no_path false = refl

-- where there is no path, none misleads
pub nothing_read : (s : Snapshot) (q : Query) → false ≡ misleads s q nothing
unfolding misleads
nothing_read s q = no_path _

module _ (s : Snapshot) (q : Query) (c : Choice) {k : Bool} (e : k ≡ eqb (definition_of s q.definition.0).kind builtin_kind) where
  -- what the code tests
  abbrev builtin : Bool → Bool
  builtin n = eqb q.ns types && n

  abbrev asked : Bool
  asked = eqb (q.options / 64 % 2) 1

  abbrev back : Bool
  back = reads_back s q.from.0 (item_of s q.ns q.definition.0) c.kind (take c.count c.names)

  pub not_read : not (asked && (c.found && not (builtin k))) ≡ true → false ≡ misleads s q c
  unfolding misleads
  not_read t = unread asked c.found (builtin k) back t ∙ ap (λ n. asked && (c.found && not (builtin n || back))) e

  pub is_read : not (asked && (c.found && not (builtin k))) ≡ false → {item : Item} → item ≡ item_of s q.ns q.definition.0
      → {b : Bool} → b ≡ reads_back s q.from.0 item c.kind (take c.count c.names) → not b ≡ misleads s q c
  unfolding misleads
  is_read t {item} i {b} r =
      read asked c.found (builtin k) b t
      ∙ ap (λ d. asked && (c.found && not (builtin k || d))) (r ∙ ap (λ x. reads_back s q.from.0 x c.kind (take c.count c.names)) i)
      ∙ ap (λ n. asked && (c.found && not (builtin n || back))) e

-- a path has at most sixteen names
pub found_few : (s : Snapshot) (q : Query) (fuel : ℕ) → 0 < q.limit → q.limit ≤ path_limit → (f : Found) → f ≡ found_of (searched s q fuel)
    → f.choice.count ≤ 16
unfolding searched
found_few s q fuel a b f e = rw e (search_fits Tank from_tank s q a b (filled fuel)).few
