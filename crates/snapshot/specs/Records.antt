-- A snapshot as lists of records, in document 01's order of kinds. "+1" means number plus one, 0 for none. A record that a path can be found
-- by knows the place of its head among the words; no test of the check looks at it.
use Rattle.std.specs.Prelude.{ℕ, ◌+◌, ◌/◌, ◌%◌, List, get_or}
use Rattle.snapshot.specs.Lists.{rows}
use Rattle.snapshot.specs.reading.Words.{pay_of, words_of}

-- kind 1: the bytes of the text, and the words that hold them
pub record Name : Type 0 where
  pub bytes : ℕ
  pub text : List ℕ

-- kind 2: origin 0 ordinary, 1 core, 2 alloc, 3 std, 4 other language; whether it supports no_std; its edition
pub record Crate : Type 0 where
  pub origin : ℕ
  pub no_std : ℕ
  pub edition : ℕ

-- kind 3
pub record Dependency : Type 0 where
  pub owner : ℕ
  pub crate : ℕ
  pub sysroot : ℕ

-- kind 4: the block's parent module +1
pub record Map : Type 0 where
  pub crate : ℕ
  pub block : ℕ
  pub no_std : ℕ

-- kind 5: the parent module +1
pub record Module : Type 0 where
  pub map : ℕ
  pub parent : ℕ

-- kind 6
pub record Child : Type 0 where
  pub owner : ℕ
  pub child : ℕ

-- kind 7
pub record Prelude : Type 0 where
  pub map : ℕ
  pub target : ℕ

-- kind 8: 1 module, 2 variant, 3 builtin, 4 other, 5 macro; a module and 0, a variant's parent and name, a builtin's name and 0
pub record Definition : Type 0 where
  pub kind : ℕ
  pub first : ℕ
  pub second : ℕ
  pub place : ℕ

-- kind 9: visibility 0 public, 1 crate, 2 module explicit, 3 module implicit, and its number; bits 1 hidden + 2 unstable
pub record Scope : Type 0 where
  pub owner : ℕ
  pub ns : ℕ
  pub name : ℕ
  pub definition : ℕ
  pub visibility : ℕ
  pub number : ℕ
  pub declared : ℕ
  pub bits : ℕ
  pub place : ℕ

-- kind 10: bits 1 hidden + 2 unstable
pub record Import : Type 0 where
  pub owner : ℕ
  pub ns : ℕ
  pub definition : ℕ
  pub name : ℕ
  pub container : ℕ
  pub bits : ℕ
  pub place : ℕ

-- kind 11
pub record Extern : Type 0 where
  pub owner : ℕ
  pub name : ℕ
  pub target : ℕ
  pub place : ℕ

-- kind 13: a member of a definition, 0 variant, 1 function, 2 constant, 3 type alias; bits 1 hidden + 2 unstable
pub record Member : Type 0 where
  pub parent : ℕ
  pub name : ℕ
  pub definition : ℕ
  pub kind : ℕ
  pub bits : ℕ

pub record Snapshot : Type 0 where
  pub names : List Name
  pub crates : List Crate
  pub dependencies : List Dependency
  pub maps : List Map
  pub modules : List Module
  pub children : List Child
  pub preludes : List Prelude
  pub definitions : List Definition
  pub scopes : List Scope
  pub imports : List Import
  pub externs : List Extern
  pub members : List Member

-- the record with its head at place h

abbrev pub name_at : List ℕ → ℕ → Name
name_at W h =
    record { bytes = pay_of (get_or W h 0); text = rows (λ i. get_or W (h + 1 + i) 0) 0 (words_of (pay_of (get_or W h 0))) }

abbrev pub crate_at : List ℕ → ℕ → Crate
crate_at W h = record { origin = pay_of (get_or W h 0) % 8; no_std = pay_of (get_or W h 0) / 8; edition = get_or W (h + 1) 0 }

abbrev pub dependency_at : List ℕ → ℕ → Dependency
dependency_at W h = record { owner = pay_of (get_or W h 0); crate = get_or W (h + 1) 0; sysroot = get_or W (h + 2) 0 }

abbrev pub map_at : List ℕ → ℕ → Map
map_at W h = record { crate = pay_of (get_or W h 0); block = get_or W (h + 1) 0; no_std = get_or W (h + 2) 0 }

abbrev pub module_at : List ℕ → ℕ → Module
module_at W h = record { map = pay_of (get_or W h 0); parent = get_or W (h + 1) 0 }

abbrev pub child_at : List ℕ → ℕ → Child
child_at W h = record { owner = pay_of (get_or W h 0); child = get_or W (h + 1) 0 }

abbrev pub prelude_at : List ℕ → ℕ → Prelude
prelude_at W h = record { map = pay_of (get_or W h 0); target = get_or W (h + 1) 0 }

abbrev pub definition_at : List ℕ → ℕ → Definition
definition_at W h = record { kind = pay_of (get_or W h 0); first = get_or W (h + 1) 0; second = get_or W (h + 2) 0; place = h }

abbrev pub scope_at : List ℕ → ℕ → Scope
scope_at W h =
    record {
      owner = pay_of (get_or W h 0);
      ns = get_or W (h + 1) 0;
      name = get_or W (h + 2) 0;
      definition = get_or W (h + 3) 0;
      visibility = get_or W (h + 4) 0;
      number = get_or W (h + 5) 0;
      declared = get_or W (h + 6) 0;
      bits = get_or W (h + 7) 0;
      place = h;
    }

abbrev pub import_at : List ℕ → ℕ → Import
import_at W h =
    record {
      owner = pay_of (get_or W h 0);
      ns = get_or W (h + 1) 0;
      definition = get_or W (h + 2) 0;
      name = get_or W (h + 3) 0;
      container = get_or W (h + 4) 0;
      bits = get_or W (h + 5) 0;
      place = h;
    }

abbrev pub extern_at : List ℕ → ℕ → Extern
extern_at W h = record { owner = pay_of (get_or W h 0); name = get_or W (h + 1) 0; target = get_or W (h + 2) 0; place = h }

abbrev pub member_at : List ℕ → ℕ → Member
member_at W h =
    record {
      parent = pay_of (get_or W h 0);
      name = get_or W (h + 1) 0;
      definition = get_or W (h + 2) 0;
      kind = get_or W (h + 3) 0;
      bits = get_or W (h + 4) 0;
    }
