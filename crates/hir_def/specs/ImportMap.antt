-- The import map of a crate (import_map.rs).
use Rattle.std.specs.Prelude.{ℕ, ◌/◌, ◌%◌, List, Bool, ◌&&◌, eqb}
use Rattle.snapshot.specs.Records.{Snapshot, Import}
use Rattle.hir_def.specs.Finds.{select}
use Rattle.hir_def.specs.Items.{item_of, same_item}
use Rattle.hir_def.specs.declared.Item.{Item}

-- an import of the crate c, of the item
abbrev pub is_import : Snapshot → ℕ → Item → Import → Bool
is_import s c item i = eqb i.owner c && same_item (item_of s i.ns i.definition) item

-- `import_info_for`: the crate's imports of the item, in record order; absent and empty are the same
unfoldable pub import_info_for : Snapshot → ℕ → Item → List Import
import_info_for s c item = select (is_import s c item) s.imports

abbrev pub is_hidden : Import → Bool
is_hidden i = eqb (i.bits % 2) 1

abbrev pub is_unstable : Import → Bool
is_unstable i = eqb (i.bits / 2 % 2) 1
