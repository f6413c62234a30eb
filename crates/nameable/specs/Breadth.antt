-- The modules that paths reach, by the number of their names, each once; and by these a shortest path to an item.
use Rattle.std.specs.Prelude.{ℕ, zero, suc, ◌+◌, List, [], ◌∷◌, ◌++◌, map, Bool, true, false, eqb, ltb, leb, length}
use Rattle.std.specs.Prelude.{Option, None, Some}
use Rattle.snapshot.specs.Lists.{any, rows}
use Rattle.snapshot.specs.Records.{Snapshot}
use Rattle.hir_def.specs.Finds.{first_of, or_first}
use Rattle.hir_def.specs.Items.{types, definition_of, ns_of, same_item, defined_item}
use Rattle.hir_def.specs.declared.Item.{Item}
use Rattle.hir_def.specs.declared.Item.TheVariants.{Mod, Def}
use Rattle.nameable.specs.Seen.{is_variant}
use Rattle.nameable.specs.Paths.{Keyword, supers, crate, Path, keyword, absolute, plain, into, names_in, entries_in, absolutes, firsts, means}

-- a module and a path to it
pub record Way : Type 0 where
  pub path : Path
  pub target : ℕ

unfoldable pub is_met : List Way → ℕ → Bool
is_met ws m = any (λ w. eqb w.target m) ws

-- a path that means a module goes to the end, unless the module has one
unfoldable pub with_meaning : List Way → Path → Option Item → List Way
with_meaning ws p None = ws
with_meaning ws p (Some (Def ns d)) = ws
with_meaning ws p (Some (Mod m)) = elim (is_met ws m.0) [ true ↦ ws | false ↦ ws ++ (record { path = p; target = m.0 } ∷ []) ]

unfoldable pub added : Snapshot → ℕ → List Way → List Path → List Way
added s from ws [] = ws
added s from ws (p ∷ ps) = added s from (with_meaning ws p (means s from types p)) ps

-- Paths that begin with a name, or those that don't: the ones without names, and those of one name that don't begin with a keyword.

abbrev pub keywords : Snapshot → List Keyword
keywords s = supers 0 ∷ crate ∷ rows supers 1 (length s.modules)

unfoldable pub nameless : Bool → Snapshot → List Path
nameless true s = []
nameless false s = map keyword (keywords s)

unfoldable pub single : Bool → Snapshot → ℕ → ℕ → List Path
single true s from ns = map (λ x. plain x.name) (firsts s from ns)
single false s from ns = map (λ x. absolute x.name) (absolutes s from ns)

-- one name more, in the modules reached
unfoldable pub onward : Snapshot → ℕ → ℕ → List Way → List Path
onward s from ns [] = []
onward s from ns (w ∷ ws) = map (λ x. into w.path x.name) (entries_in s from ns w.target) ++ onward s from ns ws

-- The modules reached with at most k names. What was reached before adds nothing again, so each turn's new ones come from the last turn's.
unfoldable pub reached : Bool → Snapshot → ℕ → ℕ → List Way
reached b s from zero = added s from [] (nameless b s)
reached b s from (suc k) = added s from (reached b s from k) (onward s from types (reached b s from k) ++ single b s from types)

unfoldable pub is_item : Item → Option Item → Bool
is_item item None = false
is_item item (Some x) = same_item x item

-- the first of the paths that means the item
unfoldable pub first_to : Snapshot → ℕ → Item → List Path → Option Path
first_to s from item ps = first_of (λ p. is_item item (means s from (ns_of item) p)) ps

-- a path to the item with at most k names, all but the last in modules
unfoldable pub arrives : Bool → Snapshot → ℕ → Item → ℕ → Option Path
arrives b s from item zero = first_to s from item (nameless b s)
arrives b s from item (suc k) =
    or_first (arrives b s from item k)
    (first_to s from item (onward s from (ns_of item) (reached b s from k) ++ single b s from (ns_of item)))

-- each turn but the last reaches a module more
abbrev pub turns : Snapshot → ℕ
turns s = length s.modules + 1

abbrev pub arrival : Bool → Snapshot → ℕ → Item → Option Path
arrival b s from item = arrives b s from item (turns s)

unfoldable pub checked_path : Snapshot → ℕ → Item → Path → Option Path
checked_path s from item p = first_to s from item (p ∷ [])

unfoldable pub variant_after : Snapshot → ℕ → Item → ℕ → Option Path → Option Path
variant_after s from item n None = None
variant_after s from item n (Some p) = checked_path s from item (into p n)

-- a variant by its enum
unfoldable pub by_enum : Bool → Snapshot → ℕ → Item → Option Path
by_enum b s from (Mod m) = None
by_enum b s from (Def ns d) =
    elim (is_variant s d.0) [
      | true ↦ variant_after s from (Def ns d) (definition_of s d.0).second (arrival b s from (defined_item types (definition_of s d.0).first))
      | false ↦ None
    ]

-- the second where it is shorter
unfoldable pub shorter : Option Path → Option Path → Option Path
shorter None q = q
shorter (Some p) None = Some p
shorter (Some p) (Some q) = elim (ltb (names_in q) (names_in p)) [ true ↦ Some q | false ↦ Some p ]

unfoldable pub shortest_of : Bool → Snapshot → ℕ → Item → Option Path
shortest_of b s from item = shorter (arrival b s from item) (by_enum b s from item)

-- of the shortest paths one that does not begin with a name, where there is one
unfoldable pub shortest : Snapshot → ℕ → Item → Option Path
shortest s from item = shorter (shortest_of false s from item) (shortest_of true s from item)

-- a path; there are paths, and each has too many names; there is no path
pub data AnyPath : Type 0 where
  found : Path → AnyPath
  longer : AnyPath
  nowhere : AnyPath

abbrev pub names_limit : ℕ
names_limit = 16

unfoldable pub up_to : ℕ → Option Path → AnyPath
up_to limit None = nowhere
up_to limit (Some p) = elim (leb (names_in p) limit) [ true ↦ found p | false ↦ longer ]

unfoldable pub any_path : Snapshot → ℕ → Item → AnyPath
any_path s from item = up_to names_limit (shortest s from item)
