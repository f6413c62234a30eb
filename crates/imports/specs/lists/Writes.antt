-- Import records written to a target, or only counted. Only contracts of inner functions and proofs cite it.
use Rattle.std.specs.Prelude.{ℕ, ◌+◌, ◌*◌, ◌^◌, ◌≤◌, ◌<◌, ◌≡◌, List, map, Bool, true, not, eqb, length}
use Rattle.snapshot.specs.Limits.{crate_limit, module_limit, name_limit, definition_limit, namespace_limit}
use Rattle.snapshot.specs.Sizes.{import_size}
use Rattle.snapshot.specs.Records.{Snapshot, Scope, Import, Member}
use Rattle.snapshot.specs.declared.layout.Layout.{Layout}
use Rattle.check_records.specs.chains.Chains.{ChainedBy}
use Rattle.check_records.specs.record_rules.Stands.{counts_in}
use Rattle.accept.specs.Valid.{ScopeFits}
use Rattle.hir_def.specs.Finds.{select}
use Rattle.import_rules.specs.Collect.{is_member_of, member_import, words_of}
use Rattle.answer.specs.counts.Targets.{written}
use Rattle.imports.specs.order.Lists.{Ready}
use Rattle.imports.specs.lists.Threads.{member_heads_base, member_links_base, member_of}
use Rattle.imports.specs.declared.lists.write.NewImport.{NewImport}

-- a new import has no place yet
abbrev pub new_import : ℕ → ℕ → ℕ → ℕ → ℕ → ℕ → Import
new_import c ns d name m bits =
    record { owner = c; ns = ns; definition = d; name = name; container = m; bits = bits; place = 0 }

abbrev pub import_of : NewImport → Import
import_of i = new_import i.krate.0 i.ns i.definition.0 i.name.0 i.module.0 i.bits

-- an import's numbers keep within the limits of a snapshot
pub record Bounded (x : Import) : Type 0 where
  pub owner : x.owner < crate_limit
  pub ns : x.ns ≤ namespace_limit
  pub definition : x.definition < definition_limit
  pub name : x.name < name_limit
  pub container : x.container < module_limit
  pub bits : x.bits ≤ 3

-- the words of imports can be counted, and there is room for them at a place if they are to be written
pub record Space (write : Bool) (at : ℕ) (xs : List Import) (T : List ℕ) : Type 0 where
  pub small : at + import_size * length xs ≤ 2 ^ 50
  pub room : write ≡ true → at + import_size * length xs ≤ length T

pub record Wrote (write : Bool) (at : ℕ) (xs : List Import) (A B : List ℕ) (r : ℕ) : Type 0 where
  pub next : r ≡ at + import_size * length xs
  pub same : B ≡ written write at (words_of xs) A

-- of members those that are no type aliases, as imports
abbrev pub is_kept : Member → Bool
is_kept x = not (eqb x.kind 3)

unfoldable pub kept_imports : ℕ → Scope → List Member → List Import
kept_imports c e xs = map (member_import c e) (select is_kept xs)

-- the members of an entry's definition, as imports
unfoldable pub members_of : Snapshot → ℕ → Scope → List Import
members_of s c e = map (member_import c e) (select (is_member_of e.definition) s.members)

-- an entry of a crate's list, and the members threaded by parent
pub record Listed (W A : List ℕ) (l : Layout) (c : ℕ) (e : Scope) : Type 0 where
  pub ready : Ready W A l
  pub members : ChainedBy l.definitions A (member_heads_base l) (member_links_base l) (λ j. (member_of W l j).parent) l.members
  pub owner : c < l.crates
  pub fits : ScopeFits (counts_in l) e
