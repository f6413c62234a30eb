-- Which entries of a scope are there for a viewer, as the compiler has it. Nothing of the search is in it.
use Rattle.std.specs.Prelude.{ℕ, zero, suc, Bool, true, false, ◌&&◌, eqb}
use Rattle.std.specs.Prelude.{Option, None, Some}
use Rattle.snapshot.specs.Records.{Snapshot, Scope}
use Rattle.module_tree.specs.rules.Modules.{crate_of, parent_of}
use Rattle.module_tree.specs.Privacy.{Privacy}
use Rattle.module_tree.specs.rules.Privately.{privately}
use Rattle.hir_def.specs.Finds.{first_of}
use Rattle.hir_def.specs.Items.{types, module_kind, variant_kind, definition_of, home_by}
use Rattle.hir_def.specs.ItemScope.{is_declared}

-- `Privacy` as a test that computes; proofs/Private.antt: it is privacy
unfoldable pub holds : Snapshot → ℕ → ℕ → ℕ → Bool
holds s zero n v = true
holds s (suc zero) n v = eqb (crate_of s v) n
holds s (suc (suc k)) n v = privately s v n

-- the visibility of the entry holds in the module v
abbrev pub holds_in : Snapshot → ℕ → Scope → Bool
holds_in s v e = holds s e.visibility e.number v

abbrev pub is_variant : Snapshot → ℕ → Bool
is_variant s d = eqb (definition_of s d).kind variant_kind

-- what is declared for a definition in a namespace: for a variant its enum, in types

unfoldable pub declared_ns : Snapshot → ℕ → ℕ → ℕ
declared_ns s ns d = elim (is_variant s d) [ true ↦ types | false ↦ ns ]

unfoldable pub declared_as : Snapshot → ℕ → ℕ
declared_as s d = elim (is_variant s d) [ true ↦ (definition_of s d).first | false ↦ d ]

-- the module +1 in which that is declared: its home, for a module the parent; 0 where there is none
unfoldable pub declared_in : Snapshot → ℕ → ℕ
declared_in s d =
    elim (eqb (definition_of s d).kind module_kind) [
      | true ↦ parent_of s (definition_of s d).first
      | false ↦ home_by s (definition_of s d).kind (definition_of s d).first
    ]

-- the declared entry of the module m for that namespace and definition
abbrev pub is_declaration : ℕ → ℕ → ℕ → Scope → Bool
is_declaration m ns d e = eqb e.owner m && (eqb e.ns ns && (eqb e.definition d && is_declared e))

unfoldable pub declaration_in : Snapshot → ℕ → ℕ → ℕ → Option Scope
declaration_in s ns d zero = None
declaration_in s ns d (suc m) = first_of (is_declaration m ns d) s.scopes

-- the declaration of the entry's item
unfoldable pub declaration_of : Snapshot → Scope → Option Scope
declaration_of s e =
    declaration_in s (declared_ns s e.ns e.definition) (declared_as s e.definition) (declared_in s e.definition)

-- where there is none, as for a crate's root, its test passes
unfoldable pub declaration_holds : Snapshot → ℕ → Option Scope → Bool
declaration_holds s v None = true
declaration_holds s v (Some e) = holds_in s v e

-- its own visibility and its declaration's both hold in the module v
unfoldable pub both_hold : Snapshot → ℕ → Scope → Bool
both_hold s v e = holds_in s v e && declaration_holds s v (declaration_of s e)

-- Both hold in the module whose scope it is. An import of what is private there stands in a def map, and not in the compiler's scope.
unfoldable pub counts : Snapshot → Scope → Bool
counts s e = both_hold s e.owner e

-- it counts, and both hold from the viewer
unfoldable pub seen : Snapshot → ℕ → Scope → Bool
seen s from e = counts s e && both_hold s from e

-- The same by privacy itself; proofs/Private.antt: on an accepted snapshot the test is this.

abbrev pub Holds : Snapshot → ℕ → Scope → Type 0
Holds s v e = Privacy s e.visibility e.number v

abbrev pub DeclarationHolds : Snapshot → ℕ → Option Scope → Type 0
DeclarationHolds s v None = Unit {0}
DeclarationHolds s v (Some e) = Holds s v e

pub record BothHold (s : Snapshot) (v : ℕ) (e : Scope) : Type 0 where
  pub own : Holds s v e
  pub declared : DeclarationHolds s v (declaration_of s e)

pub record Seen (s : Snapshot) (from : ℕ) (e : Scope) : Type 0 where
  pub counts : BothHold s e.owner e
  pub viewer : BothHold s from e
