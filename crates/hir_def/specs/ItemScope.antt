-- The scope of a module (item_scope.rs): its entries in record order.
use Rattle.std.specs.Prelude.{ℕ, ◌%◌, List, Bool, true, false, ◌&&◌, ◌||◌, not, eqb, leb}
use Rattle.std.specs.Prelude.{Option}
use Rattle.snapshot.specs.Records.{Snapshot, Scope}
use Rattle.hir_def.specs.Finds.{first_of, reads_of, or_first, select}
use Rattle.hir_def.specs.Items.{types, module_kind, definition_of, item_of, same_item}
use Rattle.hir_def.specs.declared.Item.{Item}

-- The field: 0 or 1, declared there; 2 or 3 means 0 or 1 and deprecated.

abbrev pub is_declared : Scope → Bool
is_declared e = eqb (e.declared % 2) 1

abbrev pub is_deprecated : Scope → Bool
is_deprecated e = leb 2 e.declared

-- declared there, where such entries alone count
abbrev pub counts : Bool → Scope → Bool
counts declared_only e = is_declared e || not declared_only

-- the entry of the module m stands for the item
unfoldable pub is_for : Snapshot → ℕ → Item → Scope → Bool
is_for s m item e = eqb e.owner m && same_item (item_of s e.ns e.definition) item

-- `name_of`: the first entry for the item
unfoldable pub name_of : Snapshot → ℕ → Item → Option Scope
name_of s m item = first_of (is_for s m item) s.scopes

-- `names_of`: the first entry for the item that passes the test
unfoldable pub names_of : Snapshot → ℕ → Item → (Scope → Bool) → Option Scope
names_of s m item p = first_of (λ e. is_for s m item e && p e) s.scopes

-- how many scope records `name_of` and `names_of` read
unfoldable pub name_reads : Snapshot → ℕ → Item → ℕ
name_reads s m item = reads_of (is_for s m item) s.scopes

unfoldable pub names_reads : Snapshot → ℕ → Item → (Scope → Bool) → ℕ
names_reads s m item p = reads_of (λ e. is_for s m item e && p e) s.scopes

-- passes the test and isn't deprecated
abbrev pub is_fresh : (Scope → Bool) → Scope → Bool
is_fresh p e = p e && not (is_deprecated e)

-- By options bit 32: the first entry for the item that isn't deprecated and passes the rule's other tests, if the scope holds one;
-- else, and without the bit, the entry `old`.
unfoldable pub preferred : Bool → Snapshot → ℕ → Item → (Scope → Bool) → Option Scope → Option Scope
preferred true s m item p old = or_first (names_of s m item (is_fresh p)) old
preferred false s m item p old = old

-- how many scope records that reads: with the bit those up to and with such an entry, or all; without it those for `old`
unfoldable pub preferred_reads : Bool → Snapshot → ℕ → Item → (Scope → Bool) → ℕ → ℕ
preferred_reads true s m item p old = names_reads s m item (is_fresh p)
preferred_reads false s m item p old = old

-- the entry of the module m with that namespace and name
abbrev pub is_named : ℕ → ℕ → ℕ → Scope → Bool
is_named m ns name e = eqb e.owner m && (eqb e.ns ns && eqb e.name name)

-- `get` and `type_`: the entry with that namespace and name
unfoldable pub get : Snapshot → ℕ → ℕ → ℕ → Option Scope
get s m ns name = first_of (is_named m ns name) s.scopes

-- a module entry, in types, of the module m
abbrev pub is_module_entry : Snapshot → ℕ → Scope → Bool
is_module_entry s m e = eqb e.owner m && (eqb e.ns types && eqb (definition_of s e.definition).kind module_kind)

-- `modules_in_scope`: the module entries of the types namespace
unfoldable pub modules_in_scope : Snapshot → ℕ → List Scope
modules_in_scope s m = select (is_module_entry s m) s.scopes

-- the module of such an entry
abbrev pub entry_module : Snapshot → Scope → ℕ
entry_module s e = (definition_of s e.definition).first
