-- By what an item is known in the index.
use Rattle.std.specs.Prelude.{ℕ, ◌%◌, ◌≡◌, List, Bool, false}
use Rattle.snapshot.specs.Sizes.{scope_size}
use Rattle.snapshot.specs.Records.{Scope, scope_at}
use Rattle.snapshot.specs.Layouts.{scope_base, records_of, item_keys}
use Rattle.snapshot.specs.declared.layout.Layout.{Layout}
use Rattle.record_index.specs.Index.{key_at}
use Rattle.record_index.specs.declared.chains.Chain.TheVariants.{Items}
use Rattle.hir_def.specs.declared.Item.{Item}
use Rattle.hir_def.specs.declared.Item.TheVariants.{Mod, Def}

-- a module by its number, another by its definition's
abbrev pub number_of : Item → ℕ
number_of (Mod m) = m.0
number_of (Def ns d) = d.0

-- a test passes no scope record with another key than the item's
abbrev pub Keyed : List ℕ → Layout → Item → (Scope → Bool) → Type 0
Keyed W l item q = (h : ℕ) → (key_at W l Items h ≡ number_of item % item_keys → ⊥) → q (scope_at W h) ≡ false

abbrev pub scopes_in : List ℕ → Layout → List Scope
scopes_in W l = records_of scope_at scope_size W (scope_base l) l.scopes
