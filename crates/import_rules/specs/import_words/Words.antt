-- A snapshot with other imports, as lists and as words.
use Rattle.std.specs.Prelude.{ℕ, ◌+◌, ◌*◌, ◌-◌, ◌≡◌, List, [], ◌∷◌, ◌++◌, map, Bool, true, not, eqb, length}
use Rattle.snapshot.specs.Sizes.{import_size}
use Rattle.snapshot.specs.Records.{Snapshot, Import}
use Rattle.check_rules.specs.Tests.{counts_of, import_range, import_defined, ns_placed}
use Rattle.hir_def.specs.Finds.{select}
use Rattle.hir_def.specs.Items.{item_of, same_item}
use Rattle.hir_def.specs.declared.Item.{Item}
use Rattle.edit_rules.specs.Entries.{moved_import, moved_extern, with_lists, scopes_end, inserted, cut}
use Rattle.import_rules.specs.Collect.{words_of}

-- what the check asks of an import record: 32, 33, 35
abbrev pub Fits : Snapshot → Import → Type 0
Fits s x = (import_range x ≡ true) × (import_defined (counts_of s) x ≡ true) × (ns_placed s x.ns x.definition ≡ true)

-- imports whose records stand one after the other from a place on
unfoldable pub placed_from : ℕ → List Import → List Import
placed_from at [] = []
placed_from at (x ∷ xs) = moved_import (λ n. at) x ∷ placed_from (at + import_size) xs

-- the imports of the other crates, in their order
abbrev pub is_others : ℕ → Import → Bool
is_others c x = not (eqb x.owner c)

unfoldable pub others_than : ℕ → List Import → List Import
others_than c xs = select (is_others c) xs

-- those and then the new ones of the crate c: `import_info_for` goes by owner, so crates' lists may stand in any order
abbrev pub replaced : Snapshot → ℕ → List Import → List Import
replaced s c xs = others_than c s.imports ++ xs

-- Import records stand where the scopes end. The words with the records of ys in place of the imports of s
unfoldable pub words_with : List ℕ → Snapshot → List Import → List ℕ
words_with W s ys = inserted (scopes_end W) (words_of ys) (cut (scopes_end W) (import_size * length s.imports) W)

-- and the snapshot; the externs stand after the imports
unfoldable pub snapshot_with : List ℕ → Snapshot → List Import → Snapshot
snapshot_with W s ys =
    with_lists s s.scopes (placed_from (scopes_end W) ys)
    (map (moved_extern (λ n. n + import_size * length ys - import_size * length s.imports)) s.externs)

-- an import of the item, whichever crate's
abbrev pub is_of : Snapshot → Item → Import → Bool
is_of s item x = same_item (item_of s x.ns x.definition) item

-- imports but for their places
abbrev pub unplaced : List Import → List Import
unplaced xs = map (moved_import (λ n. 0)) xs
