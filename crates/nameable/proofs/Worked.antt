-- Paths on a small workspace, computed.
use Prim.Native.Nat.{ℕ, zero, suc, ◌+◌, ◌*◌}
use mathlib.Core.Path.{◌≡◌, refl}
use mathlib.Core.List.{List, [], ◌∷◌, ◌++◌, map}
use Rattle.std.specs.Prelude.{Option, None, Some, ⊤}
use Rattle.snapshot.specs.Lists.{rows}
use Rattle.check_rules.specs.Verdict.{Verdict, refuse, accept, verdict}
use Rattle.check_rules.specs.Worked.{verdict_on_literals}
use Rattle.module_tree.specs.rules.Modules.{place_of, module_of, map_of, root_of, own_map, crate_root, or_else, containing}
use Rattle.module_tree.specs.rules.Visibility.{last_or, last_to, last, met_or, met_to, met}
use Rattle.module_tree.specs.rules.Privately.{of_root, block_step, module_around, privately}
use Rattle.hir_def.specs.Finds.{first_of, select, or_first}
use Rattle.hir_def.specs.Items.{definition_of, crate_data, item_of, same_item, ns_of, home_by, module_item, defined_item}
use Rattle.hir_def.specs.Nameres.{steps_or, steps_to, steps, prelude_of}
use Rattle.hir_def.specs.declared.Item.{Item}
use Rattle.nameable.specs.Seen.{holds, declared_ns, declared_as, declared_in, declaration_in, declaration_of, declaration_holds, both_hold, counts}
use Rattle.nameable.specs.Seen.{seen}
use Rattle.nameable.specs.Paths.{supers, crate, Path, keyword, absolute, plain, into, names_in, named, entries_in, variants_in, externs_in}
use Rattle.nameable.specs.Paths.{absolutes, entries_over, scopes_from, prelude_entries, firsts, within, above_or, above, keyword_module, module_named}
use Rattle.nameable.specs.Paths.{after, reads, item_in, means, place_in, route_of}
use Rattle.nameable.specs.Breadth.{is_met, with_meaning, added, nameless, single, onward, reached, is_item, first_to, arrives, checked_path}
use Rattle.nameable.specs.Breadth.{variant_after, by_enum, shorter, shortest_of, shortest, AnyPath, found, longer, nowhere, up_to}

-- what a row unfolds to compute paths on words that are written out
unfoldable pub paths_on_literals : ⊤
unfolding up_to shortest shortest_of shorter by_enum variant_after checked_path arrives first_to is_item reached onward single nameless
    added with_meaning is_met means item_in reads after module_named keyword_module above above_or within firsts prelude_entries scopes_from
    entries_over absolutes externs_in variants_in entries_in named names_in seen counts both_hold declaration_holds declaration_of
    declaration_in declared_in declared_as declared_ns holds privately module_around block_step of_root last_or last_to last met_or met_to
    met steps_or steps_to steps prelude_of first_of select or_first item_of same_item ns_of home_by definition_of crate_data module_of
    map_of root_of own_map crate_root or_else containing place_of verdict_on_literals
paths_on_literals = tt

unfoldable pub head : ℕ → ℕ → ℕ
head kind payload = kind * 0x10000000 + payload

-- one byte of text
unfoldable pub letter : ℕ → List ℕ
letter c = head 1 1 ∷ c ∷ []

-- owner, namespace, name, definition, visibility, number, declared, bits
unfoldable pub entry : ℕ → ℕ → ℕ → ℕ → ℕ → ℕ → ℕ → ℕ → List ℕ
entry m ns n d v k i b = head 9 m ∷ ns ∷ n ∷ d ∷ v ∷ k ∷ i ∷ b ∷ []

-- mod p { mod x { pub struct S(u8); pub enum E { V } } pub mod a { use super::x::S as A; pub use super::x::{S as B, E}; } fn f() {} }
-- mod v { use d::h::f as A; fn o() { use crate::p::x::S as A; mod q { mod r { mod t {} } fn f() {} } } }
-- and its dependency `d`: #[doc(hidden)] pub mod h { pub fn f() {} }
-- Modules: 0 the root, 1 p, 2 x, 3 a, 4 v; 5 d, 6 h; 7 the block of o, 8 q, 9 r, 10 t.
-- Names: 0 p, 1 x, 2 S, 3 a, 4 A, 5 B, 6 v, 7 d, 8 h, 9 f, 10 q, 11 r, 12 t, 13 E, 14 V.
-- Definitions: 0 p, 1 x, 2 a, 3 v, 4 S, 5 h, 6 the f of h, 7 q, 8 r, 9 t, 10 the f of q, 11 the f of p, 12 E, 13 V.
-- The def maps hold imports that the compiler refuses: A of a, and of the block, as a constructor.
unfoldable pub workspace : ℕ → List ℕ
workspace edition =
    letter 0x70 ++ letter 0x78 ++ letter 0x53 ++ letter 0x61 ++ letter 0x41 ++ letter 0x42 ++ letter 0x76 ++ letter 0x64
    ++ letter 0x68 ++ letter 0x66 ++ letter 0x71 ++ letter 0x72 ++ letter 0x74 ++ letter 0x45 ++ letter 0x56
    ++ (head 2 0 ∷ edition ∷ head 2 0 ∷ 2021 ∷ head 3 0 ∷ 1 ∷ 0 ∷ [])
    ++ (head 4 0 ∷ 0 ∷ 0 ∷ head 5 0 ∷ 0 ∷ head 5 0 ∷ 1 ∷ head 5 0 ∷ 2 ∷ head 5 0 ∷ 2 ∷ head 5 0 ∷ 1 ∷ [])
    ++ (head 4 1 ∷ 0 ∷ 0 ∷ head 5 1 ∷ 0 ∷ head 5 1 ∷ 6 ∷ [])
    ++ (head 4 0 ∷ 5 ∷ 0 ∷ head 5 2 ∷ 0 ∷ head 5 2 ∷ 8 ∷ head 5 2 ∷ 9 ∷ head 5 2 ∷ 10 ∷ [])
    ++ (head 8 1 ∷ 1 ∷ 0 ∷ head 8 1 ∷ 2 ∷ 0 ∷ head 8 1 ∷ 3 ∷ 0 ∷ head 8 1 ∷ 4 ∷ 0 ∷ head 8 4 ∷ 2 ∷ 0 ∷ head 8 1 ∷ 6 ∷ 0 ∷ head 8 4 ∷ 6 ∷ 0 ∷ [])
    ++ (head 8 1 ∷ 8 ∷ 0 ∷ head 8 1 ∷ 9 ∷ 0 ∷ head 8 1 ∷ 10 ∷ 0 ∷ head 8 4 ∷ 8 ∷ 0 ∷ head 8 4 ∷ 1 ∷ 0 ∷ head 8 4 ∷ 2 ∷ 0 ∷ head 8 2 ∷ 12 ∷ 14 ∷ [])
    ++ entry 0 0 0 0 3 0 1 0 ++ entry 0 0 6 3 3 0 1 0
    ++ entry 1 0 1 1 3 1 1 0 ++ entry 1 0 3 2 0 0 1 0 ++ entry 1 1 9 11 3 1 1 0
    ++ entry 2 0 2 4 0 0 1 0 ++ entry 2 1 2 4 3 2 1 0 ++ entry 2 0 13 12 0 0 1 0
    ++ entry 3 0 4 4 3 3 0 0 ++ entry 3 1 4 4 3 3 0 0 ++ entry 3 0 5 4 0 0 0 0 ++ entry 3 0 13 12 0 0 0 0
    ++ entry 4 1 4 6 3 4 0 0
    ++ entry 5 0 8 5 0 0 1 1 ++ entry 6 1 9 6 0 0 1 0
    ++ entry 7 0 10 7 3 7 1 0 ++ entry 7 1 4 4 3 7 0 0
    ++ entry 8 0 11 8 3 8 1 0 ++ entry 8 1 9 10 3 8 1 0 ++ entry 9 0 12 9 3 9 1 0
    ++ (head 11 0 ∷ 7 ∷ 5 ∷ head 13 12 ∷ 14 ∷ 13 ∷ 0 ∷ 0 ∷ [])

-- the viewing module and the item
pub record Asked : Type 0 where
  pub from : ℕ
  pub item : Item

pub ask : ℕ → Item → Asked
ask m x = record { from = m; item = x }

pub answers : ℕ → Verdict → List Asked → List AnyPath
answers limit (refuse n at) qs = []
answers limit (accept s) qs = map (λ q. up_to limit (shortest s q.from q.item)) qs

pub any_paths : answers 16 (verdict (workspace 2021))
    -- S in `v`: the first entry of `a` is private, the second is not
    (ask 4 (defined_item 0 4)
    -- the f of h, hidden, in `p`
    ∷ ask 1 (defined_item 1 6)
    -- the f of q in `t`, by `super` alone
    ∷ ask 10 (defined_item 1 10)
    -- the constructor of S: in `x`, and in `a`, which imports it and may not
    ∷ ask 2 (defined_item 1 4) ∷ ask 3 (defined_item 1 4)
    -- the private f of p, in `p` and from outside
    ∷ ask 1 (defined_item 1 11) ∷ ask 4 (defined_item 1 11)
    -- a variant
    ∷ ask 4 (defined_item 1 13) ∷ ask 2 (defined_item 0 13)
    -- modules: the one around the block, one in the block, from there and from its child, and one that is private
    ∷ ask 7 (module_item 4) ∷ ask 7 (module_item 8) ∷ ask 9 (module_item 8) ∷ ask 4 (module_item 2) ∷ ask 4 (module_item 5)
    ∷ [])
    ≡ found (into (into (into (keyword crate) 0) 3) 5)
    ∷ found (into (into (absolute 7) 8) 9)
    ∷ found (into (keyword (supers 2)) 9)
    ∷ found (into (keyword (supers 0)) 2) ∷ nowhere
    ∷ found (into (keyword (supers 0)) 9) ∷ nowhere
    ∷ found (into (into (into (into (keyword crate) 0) 3) 13) 14) ∷ found (into (into (keyword (supers 0)) 13) 14)
    ∷ found (keyword (supers 0)) ∷ found (plain 10) ∷ found (keyword (supers 1)) ∷ nowhere ∷ found (absolute 7)
    ∷ []
unfolding answers ask head letter entry workspace paths_on_literals
any_paths = refl

-- The f of h has no entry in types: no module has a path to it.
pub no_entry : answers 16 (verdict (workspace 2021)) (rows (λ m. ask m (defined_item 0 6)) 0 11) ≡ rows (λ m. nowhere) 0 11
unfolding answers ask head letter entry workspace paths_on_literals
no_entry = refl

-- mod p { mod x {} pub use x as y; enum E { V } pub use E::V; pub fn g() {} } mod v { fn o() { use crate::p::g; } }
-- Modules: 0 the root, 1 p, 2 x, 3 v; 4 the block of o. Names: 0 p, 1 x, 2 y, 3 v, 4 E, 5 V, 6 g.
-- Definitions: 0 p, 1 x, 2 v, 3 E, 4 V, 5 g. The def map holds imports that the compiler refuses: y of a private module, V of a private enum.
unfoldable pub private : List ℕ
private =
    letter 0x70 ++ letter 0x78 ++ letter 0x79 ++ letter 0x76 ++ letter 0x45 ++ letter 0x56 ++ letter 0x67
    ++ (head 2 0 ∷ 2021 ∷ head 4 0 ∷ 0 ∷ 0 ∷ head 5 0 ∷ 0 ∷ head 5 0 ∷ 1 ∷ head 5 0 ∷ 2 ∷ head 5 0 ∷ 1 ∷ head 4 0 ∷ 4 ∷ 0 ∷ head 5 1 ∷ 0 ∷ [])
    ++ (head 8 1 ∷ 1 ∷ 0 ∷ head 8 1 ∷ 2 ∷ 0 ∷ head 8 1 ∷ 3 ∷ 0 ∷ head 8 4 ∷ 1 ∷ 0 ∷ head 8 2 ∷ 3 ∷ 5 ∷ head 8 4 ∷ 1 ∷ 0 ∷ [])
    ++ entry 0 0 0 0 3 0 1 0 ++ entry 0 0 3 2 3 0 1 0
    ++ entry 1 0 1 1 3 1 1 0 ++ entry 1 0 2 1 0 0 0 0 ++ entry 1 0 4 3 3 1 1 0 ++ entry 1 1 5 4 0 0 0 0 ++ entry 1 1 6 5 0 0 1 0
    ++ entry 4 1 6 5 3 4 0 0
    ++ (head 13 3 ∷ 5 ∷ 4 ∷ 0 ∷ 0 ∷ [])

-- A module is declared in its parent, and a variant where its enum is, in types; of two paths the shorter one is taken.
pub private_paths : answers 16 (verdict private)
    (ask 1 (module_item 2) ∷ ask 3 (module_item 2) ∷ ask 1 (defined_item 1 4) ∷ ask 3 (defined_item 1 4) ∷ ask 4 (defined_item 1 5) ∷ [])
    ≡ found (into (keyword (supers 0)) 1) ∷ nowhere ∷ found (into (keyword (supers 0)) 5) ∷ nowhere ∷ found (plain 6) ∷ []
unfolding answers ask head letter entry private paths_on_literals
private_paths = refl

-- In edition 2015 there is no `::d`.
pub old_edition : answers 16 (verdict (workspace 2015)) (ask 1 (defined_item 1 6) ∷ ask 4 (module_item 5) ∷ [])
    ≡ found (into (into (plain 7) 8) 9) ∷ found (plain 7) ∷ []
unfolding answers ask head letter entry workspace paths_on_literals
old_edition = refl

-- The variant of four names, where three are allowed.
pub too_long : answers 3 (verdict (workspace 2021)) (ask 4 (defined_item 1 13) ∷ ask 4 (defined_item 0 12) ∷ [])
    ≡ longer ∷ found (into (into (into (keyword crate) 0) 3) 13) ∷ []
unfolding answers ask head letter entry workspace paths_on_literals
too_long = refl

pub readings : Verdict → List Path → List (Option Item)
readings (refuse n at) ps = []
readings (accept s) ps = map (means s 7 1) ps

-- Read in the block, in values: the block's own A, an import of a private constructor, is passed over; `self` is the module around the block, so
-- that `self::q` is nothing; a private name, a variant, nothing after a variant, two steps above the root.
pub block_readings : readings (verdict (workspace 2021))
    (plain 4
    ∷ into (keyword (supers 0)) 4
    ∷ into (into (keyword (supers 0)) 10) 9
    ∷ into (into (into (keyword crate) 0) 3) 4
    ∷ into (into (into (into (keyword (supers 1)) 0) 3) 13) 14
    ∷ into (into (into (into (into (keyword (supers 1)) 0) 3) 13) 14) 9
    ∷ into (keyword (supers 2)) 0
    ∷ [])
    ≡ Some (defined_item 1 6) ∷ Some (defined_item 1 6) ∷ None ∷ None ∷ Some (defined_item 1 13) ∷ None ∷ None ∷ []
unfolding readings head letter entry workspace paths_on_literals
block_readings = refl

pub routes : Verdict → List Path → List (List ℕ)
routes (refuse n at) ps = []
routes (accept s) ps = map (route_of s 1 1) ps

-- The records by which `::d::h::f` is read: the extern and two entries.
pub extern_route : routes (verdict (workspace 2021)) (into (into (absolute 7) 8) 9 ∷ []) ≡ (270 ∷ 214 ∷ 222 ∷ []) ∷ []
unfolding routes route_of place_in head letter entry workspace paths_on_literals
extern_route = refl

unfoldable pub over : (ℕ → List ℕ) → ℕ → ℕ → List ℕ
over f k zero = []
over f k (suc n) = f k ++ over f (k + 1) n

-- Seventeen modules, each but the first in the one before by the name `m`, and in the last a function `f`.
unfoldable pub nested : List ℕ
nested =
    letter 0x6d ++ letter 0x66 ++ (head 2 0 ∷ 2021 ∷ head 4 0 ∷ 0 ∷ 0 ∷ [])
    ++ over (λ k. head 5 0 ∷ k ∷ []) 0 17
    ++ over (λ k. head 8 1 ∷ k ∷ 0 ∷ []) 1 16 ++ (head 8 4 ∷ 16 ∷ 0 ∷ [])
    ++ over (λ k. entry k 0 0 k 0 0 1 0) 0 16 ++ entry 16 1 1 16 0 0 1 0

-- From the root the last module has sixteen names, the function seventeen; from the second module the function has sixteen.
pub many_names : answers 16 (verdict nested) (ask 0 (module_item 16) ∷ ask 0 (defined_item 1 16) ∷ ask 1 (defined_item 1 16) ∷ [])
    ≡ found (into (into (into
    (into (into (into (into (into (into (into (into (into (into (into (into (into (keyword (supers 0)) 0) 0) 0) 0) 0) 0) 0) 0) 0) 0) 0) 0) 0) 0)
    0) 0)
    ∷ longer
    ∷ found (into (into (into
    (into (into (into (into (into (into (into (into (into (into (into (into (into (keyword (supers 0)) 0) 0) 0) 0) 0) 0) 0) 0) 0) 0) 0) 0) 0) 0)
    0) 1)
    ∷ []
unfolding over nested answers ask head letter entry paths_on_literals
many_names = refl
