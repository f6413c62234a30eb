-- Items of a snapshot (lib.rs), and its modules from the crate below. "+1" means number plus one, 0 for none.
use Rattle.std.specs.Prelude.{ℕ, ◌+◌, Bool, true, false, ◌&&◌, not, eqb, get_or}
use Rattle.snapshot.specs.Records.{Snapshot, Crate, Definition}
use Rattle.hir_def.specs.declared.Item.{Item}
use Rattle.hir_def.specs.declared.Item.TheVariants.{Mod, Def}
pub use Rattle.module_tree.specs.rules.Modules.{map_no, crate_of, parent_of, block_of, in_block}
unfoldable pub use Rattle.module_tree.specs.rules.Modules.{module_of, map_of, root_of, own_map, crate_root, or_else, containing}

-- namespaces, with values between them

abbrev pub types : ℕ
types = 0

abbrev pub macros : ℕ
macros = 2

-- kinds of definitions; 4 is any other

abbrev pub module_kind : ℕ
module_kind = 1

abbrev pub variant_kind : ℕ
variant_kind = 2

abbrev pub builtin_kind : ℕ
builtin_kind = 3

abbrev pub macro_kind : ℕ
macro_kind = 5

unfoldable pub definition_of : Snapshot → ℕ → Definition
definition_of s d = get_or s.definitions d (record { kind = 0; first = 0; second = 0; place = 0 })

unfoldable pub crate_data : Snapshot → ℕ → Crate
crate_data s c = get_or s.crates c (record { origin = 0; no_std = 0; edition = 0 })

-- origins 1 core, 2 alloc, 3 std, 4 another language: `CrateOrigin::is_lang`
abbrev pub is_lang : Snapshot → ℕ → Bool
is_lang s c = not (eqb (crate_data s c).origin 0)

-- the item that a module is, and that of a definition in a namespace, by their numbers

abbrev pub module_item : ℕ → Item
module_item m = Mod (record { 0 = m })

abbrev pub defined_item : ℕ → ℕ → Item
defined_item ns d = Def (record { 0 = ns }) (record { 0 = d })

-- An item is a namespace and a definition. A module in types is known by its own number.
unfoldable pub item_of : Snapshot → ℕ → ℕ → Item
item_of s ns d =
    elim (eqb ns types && eqb (definition_of s d).kind module_kind) [ true ↦ module_item (definition_of s d).first | false ↦ defined_item ns d ]

unfoldable pub same_item : Item → Item → Bool
same_item (Mod m) (Mod n) = eqb m.0 n.0
same_item (Mod m) (Def ns d) = false
same_item (Def ns d) (Mod n) = false
same_item (Def ns d) (Def ns' d') = eqb ns.0 ns'.0 && eqb d.0 d'.0

unfoldable pub ns_of : Item → ℕ
ns_of (Mod m) = types
ns_of (Def ns d) = ns.0

-- by the kind and the first field of the definition
unfoldable pub home_by : Snapshot → ℕ → ℕ → ℕ
home_by s kind first =
    elim (eqb kind builtin_kind) [
      | true ↦ 0
      | false ↦ elim (eqb kind variant_kind) [ true ↦ (definition_of s first).first + 1 | false ↦ first + 1 ]
    ]

-- An item's home +1 (`ItemInNs::module`): the definition's module, a module itself, that of a variant's parent; none of a builtin.
unfoldable pub home_of : Snapshot → Item → ℕ
home_of s (Mod m) = m.0 + 1
home_of s (Def ns d) = home_by s (definition_of s d.0).kind (definition_of s d.0).first
