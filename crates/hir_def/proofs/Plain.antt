-- Where options bit 32 is clear, 2 and 3 in the declared field act as 0 and 1: the lookups are those of the snapshot that has 0 and 1 in
-- their place.
use Prim.Native.Nat.{ℕ, ◌+◌, ◌%◌}
use mathlib.Core.Path.{◌≡◌, refl, ◌∙◌, ap, ap₂}
use mathlib.Core.List.{List, [], ◌∷◌, map}
use mathlib.Core.Bool.{Bool, true, false, ◌&&◌, ◌||◌, not}
use Rattle.std.specs.Prelude.{Option, None, Some}
use native.Mathlib.Omega.{arith}
use lib.Dec.{eqb}
use Rattle.snapshot.specs.Records.{Snapshot, Scope}
use Rattle.hir_def.specs.Finds.{first_of, reads_of}
use Rattle.hir_def.specs.Items.{definition_of, item_of}
use Rattle.hir_def.specs.ItemScope.{counts, is_for, name_of, names_of, name_reads, names_reads}
use Rattle.hir_def.specs.declared.Item.{Item}

-- the entry with 0 or 1 in place of 2 or 3
abbrev pub plain : Scope → Scope
plain e =
    record {
      owner = e.owner;
      ns = e.ns;
      name = e.name;
      definition = e.definition;
      visibility = e.visibility;
      number = e.number;
      declared = e.declared % 2;
      bits = e.bits;
      place = e.place;
    }

-- the snapshot with such entries
abbrev pub plainly : Snapshot → Snapshot
plainly s =
    record {
      names = s.names;
      crates = s.crates;
      dependencies = s.dependencies;
      maps = s.maps;
      modules = s.modules;
      children = s.children;
      preludes = s.preludes;
      definitions = s.definitions;
      scopes = map plain s.scopes;
      imports = s.imports;
      externs = s.externs;
      members = s.members;
    }

abbrev pub plain_of : Option Scope → Option Scope
plain_of None = None
plain_of (Some e) = Some (plain e)

-- a test that does not tell an entry from its plain form finds the same one, after as many records
module _ (p q : Scope → Bool) (h : (e : Scope) → q (plain e) ≡ p e) where
  first_step : (e : Scope) (o : Option Scope) (a : Option Scope) (b : Bool) → o ≡ plain_of a
      → elim b [ true ↦ Some (plain e) | false ↦ o ] ≡ plain_of (elim b [ true ↦ Some e | false ↦ a ])
  first_step e o a true r = refl
  first_step e o a false r = r

  pub first_plain : (xs : List Scope) → first_of q (map plain xs) ≡ plain_of (first_of p xs)
  unfolding first_of
  first_plain [] = refl
  first_plain (e ∷ xs) =
      ap (λ b. elim b [ true ↦ Some (plain e) | false ↦ first_of q (map plain xs) ]) (h e)
      ∙ first_step e (first_of q (map plain xs)) (first_of p xs) (p e) (first_plain xs)

  reads_plain : (xs : List Scope) → reads_of q (map plain xs) ≡ reads_of p xs
  unfolding reads_of
  reads_plain [] = refl
  reads_plain (e ∷ xs) = ap₂ (λ b n. elim b [ true ↦ 1 | false ↦ n + 1 ]) (h e) (reads_plain xs)

module _ (s : Snapshot) (m : ℕ) (item : Item) where
  for_plain : (e : Scope) → is_for (plainly s) m item (plain e) ≡ is_for s m item e
  unfolding is_for item_of definition_of
  for_plain e = refl

  counts_plain : (b : Bool) (e : Scope) → (is_for (plainly s) m item (plain e) && counts b (plain e)) ≡ (is_for s m item e && counts b e)
  counts_plain b e =
      let t : e.declared % 2 % 2 ≡ e.declared % 2 = omega arith in
      ap₂ (λ a n. a && (eqb n 1 || not b)) (for_plain e) t

  pub name_plain : name_of (plainly s) m item ≡ plain_of (name_of s m item)
  unfolding name_of
  name_plain = first_plain (is_for s m item) (is_for (plainly s) m item) for_plain s.scopes

  pub name_reads_plain : name_reads (plainly s) m item ≡ name_reads s m item
  unfolding name_reads
  name_reads_plain = reads_plain (is_for s m item) (is_for (plainly s) m item) for_plain s.scopes

  pub names_plain : (b : Bool) → names_of (plainly s) m item (counts b) ≡ plain_of (names_of s m item (counts b))
  unfolding names_of
  names_plain b = first_plain _ _ (counts_plain b) s.scopes

  pub names_reads_plain : (b : Bool) → names_reads (plainly s) m item (counts b) ≡ names_reads s m item (counts b)
  unfolding names_reads
  names_reads_plain b = reads_plain _ _ (counts_plain b) s.scopes
