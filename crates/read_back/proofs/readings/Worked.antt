-- Paths read from modules of a small snapshot with blocks, computed.
use Prim.Native.Nat.{ℕ, ◌+◌, ◌*◌}
use mathlib.Core.Path.{◌≡◌, refl}
use mathlib.Core.List.{List, [], ◌∷◌}
use mathlib.Core.Bool.{Bool, true, false, ◌&&◌}
use Rattle.std.specs.Prelude.{Option, None, Some}
use Rattle.snapshot.specs.Records.{Snapshot}
use Rattle.check_rules.specs.Verdict.{Verdict, refuse, accept, verdict}
use Rattle.check_rules.specs.Worked.{verdict_on_literals}
use Rattle.module_tree.specs.rules.Modules.{place_of, module_of, map_of, root_of, own_map, crate_root, or_else, containing}
use Rattle.module_tree.specs.rules.Visibility.{last_or, last_to, last, met_or, met_to, met, unless, climb_step, climb, in_module, is_visible_from}
use Rattle.hir_def.specs.Finds.{first_of, or_first, first_some}
use Rattle.hir_def.specs.Items.{definition_of, item_of, same_item, module_item, defined_item}
use Rattle.hir_def.specs.ItemScope.{get}
use Rattle.hir_def.specs.Nameres.{steps_or, steps_to, steps, prelude_of}
use Rattle.hir_def.specs.declared.Item.{Item}
use Rattle.read_back.specs.readings.Reads.{outward, scopes_from, stands_for, meaning, entry_or, extern_named, extern_means, in_externs, prelude_means}
use Rattle.read_back.specs.readings.Reads.{in_prelude_of, entry_from, first_name, variant_named, variant_in, later_name, after, looked_in}
use Rattle.read_back.specs.readings.Reads.{follow, plainly, absolutely, parent_means, reads_to}

-- viewing module, namespace, kind of the path, its names, and what it means
pub record Row : Type 0 where
  pub from : ℕ
  pub ns : ℕ
  pub kind : ℕ
  pub names : List ℕ
  pub means : Option Item

pub alike : Option Item → Option Item → Bool
alike None None = true
alike None (Some y) = false
alike (Some x) None = false
alike (Some x) (Some y) = same_item x y

pub agrees : Snapshot → List Row → Bool
agrees s [] = true
agrees s (r ∷ rs) = alike (reads_to s r.from r.ns r.kind r.names) r.means && agrees s rs

pub reads : Verdict → List Row → Bool
reads (refuse n at) rs = false
reads (accept s) rs = agrees s rs

pub head : ℕ → ℕ → ℕ
head kind payload = kind * 0x10000000 + payload

-- In Rust, with the numbers of the modules; the dependency is called `a` and `d`.
--   mod a /* 1 */ { pub fn f() { /* 6 */ } use super::g; }
--   use a::f; enum E { V, V, W } pub fn g() {} struct t; const t; pub(in a) use a::f as h; macro a() {}
--   fn o() { /* 2 */ fn f() {} pub(in c) fn g() {} const t; mod c /* 3 */ {} { /* 4 */ mod e /* 5 */ {} } }
-- the dependency's root /* 7 */ { pub fn f() {} pub(crate) fn t() {} mod prelude /* 8 */ { pub fn f() {} pub fn p() {} pub fn h() {} pub
-- struct d; } } The prelude is that of the crate's own map and of the inner block's. There are two variants `V`, the later definition first
-- among the members, none for `W`, and a function `f` among the members of `E`. The module `c` is an entry of the root in values, and the
-- outer block's root one in types as `p`, which no Rust source gives. Names: 0 `a`, 1 `f`, 2 `E`, 3 `V`, 4 `g`, 5 `W`, 6 `p`, 7 `t`, 8 `h`,
-- 9 `c`, 10 `d`. Definitions: 0 `a`; 1 `a`'s f; 2 the block's f; 3 `E`; 4 `V`; 5 `W`; 6 g; 7 the block's g; 8 the dependency's f; 9 p; 10
-- the type t; 11 the value t;
-- 12 the block's t; 13 `c`; 14 the second `V`; 15 the macro a; 16 the prelude's d; 17 the outer block's root.
pub blocks : List ℕ
blocks =
    head 1 1 ∷ 0x61 ∷ head 1 1 ∷ 0x66 ∷ head 1 1 ∷ 0x45 ∷ head 1 1 ∷ 0x56 ∷ head 1 1 ∷ 0x67 ∷ head 1 1 ∷ 0x57 ∷ head 1 1 ∷ 0x70
    ∷ head 1 1 ∷ 0x74 ∷ head 1 1 ∷ 0x68 ∷ head 1 1 ∷ 0x63 ∷ head 1 1 ∷ 0x64
    ∷ head 2 0 ∷ 2021 ∷ head 2 0 ∷ 2021
    ∷ head 4 0 ∷ 0 ∷ 0 ∷ head 5 0 ∷ 0 ∷ head 5 0 ∷ 1
    ∷ head 4 0 ∷ 1 ∷ 0 ∷ head 5 1 ∷ 0 ∷ head 5 1 ∷ 3
    ∷ head 4 0 ∷ 3 ∷ 0 ∷ head 5 2 ∷ 0 ∷ head 5 2 ∷ 5
    ∷ head 4 0 ∷ 2 ∷ 0 ∷ head 5 3 ∷ 0
    ∷ head 4 1 ∷ 0 ∷ 0 ∷ head 5 4 ∷ 0 ∷ head 5 4 ∷ 8
    ∷ head 6 0 ∷ 1 ∷ head 6 2 ∷ 3 ∷ head 6 4 ∷ 5 ∷ head 6 7 ∷ 8
    ∷ head 7 0 ∷ 8 ∷ head 7 2 ∷ 8
    ∷ head 8 1 ∷ 1 ∷ 0 ∷ head 8 4 ∷ 1 ∷ 0 ∷ head 8 4 ∷ 2 ∷ 0 ∷ head 8 4 ∷ 0 ∷ 0 ∷ head 8 2 ∷ 3 ∷ 3
    ∷ head 8 2 ∷ 3 ∷ 5 ∷ head 8 4 ∷ 0 ∷ 0 ∷ head 8 4 ∷ 2 ∷ 0 ∷ head 8 4 ∷ 7 ∷ 0 ∷ head 8 4 ∷ 8 ∷ 0
    ∷ head 8 4 ∷ 0 ∷ 0 ∷ head 8 4 ∷ 0 ∷ 0 ∷ head 8 4 ∷ 2 ∷ 0 ∷ head 8 1 ∷ 3 ∷ 0 ∷ head 8 2 ∷ 3 ∷ 3
    ∷ head 8 5 ∷ 0 ∷ 0 ∷ head 8 4 ∷ 8 ∷ 0 ∷ head 8 1 ∷ 2 ∷ 0
    -- the root: a, f, E, g, t twice, h for `a` alone, the macro a, c in values, p in types
    ∷ head 9 0 ∷ 0 ∷ 0 ∷ 0 ∷ 3 ∷ 0 ∷ 1 ∷ 0
    ∷ head 9 0 ∷ 1 ∷ 1 ∷ 1 ∷ 3 ∷ 0 ∷ 0 ∷ 0
    ∷ head 9 0 ∷ 0 ∷ 2 ∷ 3 ∷ 0 ∷ 0 ∷ 1 ∷ 0
    ∷ head 9 0 ∷ 1 ∷ 4 ∷ 6 ∷ 0 ∷ 0 ∷ 1 ∷ 0
    ∷ head 9 0 ∷ 0 ∷ 7 ∷ 10 ∷ 0 ∷ 0 ∷ 1 ∷ 0
    ∷ head 9 0 ∷ 1 ∷ 7 ∷ 11 ∷ 0 ∷ 0 ∷ 1 ∷ 0
    ∷ head 9 0 ∷ 1 ∷ 8 ∷ 1 ∷ 2 ∷ 1 ∷ 0 ∷ 0
    ∷ head 9 0 ∷ 2 ∷ 0 ∷ 15 ∷ 0 ∷ 0 ∷ 1 ∷ 0
    ∷ head 9 0 ∷ 1 ∷ 9 ∷ 13 ∷ 0 ∷ 0 ∷ 0 ∷ 0
    ∷ head 9 0 ∷ 0 ∷ 6 ∷ 17 ∷ 0 ∷ 0 ∷ 0 ∷ 0
    -- `a`: f, and g for itself
    ∷ head 9 1 ∷ 1 ∷ 1 ∷ 1 ∷ 0 ∷ 0 ∷ 1 ∷ 0
    ∷ head 9 1 ∷ 1 ∷ 4 ∷ 6 ∷ 3 ∷ 1 ∷ 0 ∷ 0
    -- the outer block: f, g for `c` alone, t, c
    ∷ head 9 2 ∷ 1 ∷ 1 ∷ 2 ∷ 3 ∷ 2 ∷ 1 ∷ 0
    ∷ head 9 2 ∷ 1 ∷ 4 ∷ 7 ∷ 2 ∷ 3 ∷ 1 ∷ 0
    ∷ head 9 2 ∷ 1 ∷ 7 ∷ 12 ∷ 3 ∷ 2 ∷ 1 ∷ 0
    ∷ head 9 2 ∷ 0 ∷ 9 ∷ 13 ∷ 3 ∷ 2 ∷ 1 ∷ 0
    -- the dependency: f, and t for its crate; its prelude: f, p, h, d
    ∷ head 9 7 ∷ 1 ∷ 1 ∷ 8 ∷ 0 ∷ 0 ∷ 1 ∷ 0
    ∷ head 9 7 ∷ 1 ∷ 7 ∷ 8 ∷ 1 ∷ 1 ∷ 1 ∷ 0
    ∷ head 9 8 ∷ 1 ∷ 1 ∷ 9 ∷ 0 ∷ 0 ∷ 1 ∷ 0
    ∷ head 9 8 ∷ 1 ∷ 6 ∷ 9 ∷ 0 ∷ 0 ∷ 1 ∷ 0
    ∷ head 9 8 ∷ 1 ∷ 8 ∷ 9 ∷ 0 ∷ 0 ∷ 0 ∷ 0
    ∷ head 9 8 ∷ 0 ∷ 10 ∷ 16 ∷ 0 ∷ 0 ∷ 1 ∷ 0
    ∷ head 11 0 ∷ 0 ∷ 7 ∷ head 11 0 ∷ 10 ∷ 7
    ∷ head 13 3 ∷ 1 ∷ 6 ∷ 1 ∷ 0 ∷ head 13 3 ∷ 3 ∷ 14 ∷ 0 ∷ 0 ∷ head 13 3 ∷ 3 ∷ 4 ∷ 0 ∷ 0
    ∷ []

pub block_reads : reads (verdict blocks)
    -- `f`: the root's hides the prelude's; the outer block's hides the root's, in the block and in the block within
    (record { from = 0; ns = 1; kind = 0; names = 1 ∷ []; means = Some (defined_item 1 1) }
    ∷ record { from = 2; ns = 1; kind = 0; names = 1 ∷ []; means = Some (defined_item 1 2) }
    ∷ record { from = 4; ns = 1; kind = 0; names = 1 ∷ []; means = Some (defined_item 1 2) }
    -- two blocks outward: `a::f`, `E`
    ∷ record { from = 4; ns = 1; kind = 0; names = 0 ∷ 1 ∷ []; means = Some (defined_item 1 1) }
    ∷ record { from = 4; ns = 0; kind = 0; names = 2 ∷ []; means = Some (defined_item 0 3) }
    -- from `c` and `e`, which are no block's root, not outward: neither a block's `f` nor the root's; in `e` the prelude's
    ∷ record { from = 3; ns = 1; kind = 0; names = 1 ∷ []; means = None }
    ∷ record { from = 5; ns = 1; kind = 0; names = 1 ∷ []; means = Some (defined_item 1 9) }
    -- `self` in a block is the module around it: `self::f`, `self::t`, `self`; in `c` it is `c`
    ∷ record { from = 4; ns = 1; kind = 1; names = 1 ∷ []; means = Some (defined_item 1 1) }
    ∷ record { from = 2; ns = 1; kind = 1; names = 7 ∷ []; means = Some (defined_item 1 11) }
    ∷ record { from = 4; ns = 0; kind = 1; names = []; means = Some (module_item 0) }
    ∷ record { from = 3; ns = 0; kind = 1; names = []; means = Some (module_item 3) }
    -- `super` from `a`, from a block in `a`, from the root, from a block in the root
    ∷ record { from = 1; ns = 0; kind = 2; names = []; means = Some (module_item 0) }
    ∷ record { from = 6; ns = 1; kind = 2; names = 4 ∷ []; means = Some (defined_item 1 6) }
    ∷ record { from = 0; ns = 0; kind = 2; names = []; means = None }
    ∷ record { from = 4; ns = 0; kind = 2; names = []; means = None }
    -- from `c` and `e` it is the block's root, which stands for the crate's: `super`, `super::f`, `super::c`
    ∷ record { from = 3; ns = 0; kind = 2; names = []; means = Some (module_item 0) }
    ∷ record { from = 5; ns = 0; kind = 2; names = []; means = Some (module_item 0) }
    ∷ record { from = 5; ns = 1; kind = 2; names = 1 ∷ []; means = Some (defined_item 1 1) }
    ∷ record { from = 3; ns = 0; kind = 2; names = 9 ∷ []; means = None }
    -- `crate` inside blocks: `crate::a`, `crate::f`; in the dependency its own root
    ∷ record { from = 4; ns = 0; kind = 3; names = 0 ∷ []; means = Some (module_item 1) }
    ∷ record { from = 5; ns = 1; kind = 3; names = 1 ∷ []; means = Some (defined_item 1 1) }
    ∷ record { from = 8; ns = 1; kind = 3; names = 1 ∷ []; means = Some (defined_item 1 8) }
    -- the root's `a` hides the extern `a`, which `::a` means; in `a` nothing hides it
    ∷ record { from = 0; ns = 0; kind = 0; names = 0 ∷ []; means = Some (module_item 1) }
    ∷ record { from = 4; ns = 0; kind = 0; names = 0 ∷ []; means = Some (module_item 1) }
    ∷ record { from = 0; ns = 0; kind = 4; names = 0 ∷ []; means = Some (module_item 7) }
    ∷ record { from = 1; ns = 0; kind = 0; names = 0 ∷ []; means = Some (module_item 7) }
    ∷ record { from = 0; ns = 1; kind = 4; names = 0 ∷ 1 ∷ []; means = Some (defined_item 1 8) }
    -- the extern `d` hides the prelude's; it is one in types alone, and of the first crate alone
    ∷ record { from = 0; ns = 0; kind = 0; names = 10 ∷ []; means = Some (module_item 7) }
    ∷ record { from = 0; ns = 1; kind = 0; names = 10 ∷ 1 ∷ []; means = Some (defined_item 1 8) }
    ∷ record { from = 0; ns = 1; kind = 0; names = 10 ∷ []; means = None }
    ∷ record { from = 0; ns = 1; kind = 4; names = 10 ∷ []; means = None }
    ∷ record { from = 7; ns = 0; kind = 0; names = 10 ∷ []; means = None }
    -- after a keyword neither externs nor the prelude: `crate::d`, `self::p`
    ∷ record { from = 0; ns = 0; kind = 3; names = 10 ∷ []; means = None }
    ∷ record { from = 0; ns = 1; kind = 1; names = 6 ∷ []; means = None }
    -- the prelude of the viewing module's map: the root's, the inner block's, and none of the outer block's
    ∷ record { from = 0; ns = 1; kind = 0; names = 6 ∷ []; means = Some (defined_item 1 9) }
    ∷ record { from = 4; ns = 1; kind = 0; names = 6 ∷ []; means = Some (defined_item 1 9) }
    ∷ record { from = 2; ns = 1; kind = 0; names = 6 ∷ []; means = None }
    -- An entry that is not visible ends it: `h` of the viewing module's own scope, which the scope rule of the search takes, though the prelude has
    -- one; `g` of the block, though the root has one; `a::g`; `d::t`. Elsewhere they are visible.
    ∷ record { from = 0; ns = 1; kind = 0; names = 8 ∷ []; means = None }
    ∷ record { from = 2; ns = 1; kind = 0; names = 4 ∷ []; means = None }
    ∷ record { from = 0; ns = 1; kind = 0; names = 0 ∷ 4 ∷ []; means = None }
    ∷ record { from = 0; ns = 1; kind = 0; names = 10 ∷ 7 ∷ []; means = None }
    ∷ record { from = 1; ns = 1; kind = 3; names = 8 ∷ []; means = Some (defined_item 1 1) }
    ∷ record { from = 4; ns = 1; kind = 0; names = 4 ∷ []; means = Some (defined_item 1 7) }
    ∷ record { from = 1; ns = 1; kind = 1; names = 4 ∷ []; means = Some (defined_item 1 6) }
    ∷ record { from = 8; ns = 1; kind = 2; names = 7 ∷ []; means = Some (defined_item 1 8) }
    -- a variant in types and values and not in macros, the first member of that name; none without a member, nor by one that is a function; nothing
    -- after it, nor after a struct
    ∷ record { from = 0; ns = 0; kind = 0; names = 2 ∷ 3 ∷ []; means = Some (defined_item 0 14) }
    ∷ record { from = 4; ns = 1; kind = 0; names = 2 ∷ 3 ∷ []; means = Some (defined_item 1 14) }
    ∷ record { from = 0; ns = 2; kind = 0; names = 2 ∷ 3 ∷ []; means = None }
    ∷ record { from = 0; ns = 0; kind = 0; names = 2 ∷ 5 ∷ []; means = None }
    ∷ record { from = 0; ns = 1; kind = 0; names = 2 ∷ 1 ∷ []; means = None }
    ∷ record { from = 0; ns = 1; kind = 0; names = 2 ∷ 3 ∷ 1 ∷ []; means = None }
    ∷ record { from = 0; ns = 1; kind = 0; names = 7 ∷ 3 ∷ []; means = None }
    -- a type and a value of one name; the block's value hides the value alone
    ∷ record { from = 0; ns = 0; kind = 0; names = 7 ∷ []; means = Some (defined_item 0 10) }
    ∷ record { from = 0; ns = 1; kind = 0; names = 7 ∷ []; means = Some (defined_item 1 11) }
    ∷ record { from = 2; ns = 0; kind = 0; names = 7 ∷ []; means = Some (defined_item 0 10) }
    ∷ record { from = 2; ns = 1; kind = 0; names = 7 ∷ []; means = Some (defined_item 1 12) }
    -- a macro beside a module; a module in types, by its number, and in values
    ∷ record { from = 4; ns = 2; kind = 0; names = 0 ∷ []; means = Some (defined_item 2 15) }
    ∷ record { from = 2; ns = 0; kind = 0; names = 9 ∷ []; means = Some (module_item 3) }
    ∷ record { from = 2; ns = 1; kind = 0; names = 9 ∷ []; means = Some (defined_item 1 13) }
    -- a block's root that an entry names is a module like any other: `p::f`, and not outward `p::E`
    ∷ record { from = 4; ns = 1; kind = 0; names = 6 ∷ 1 ∷ []; means = Some (defined_item 1 2) }
    ∷ record { from = 4; ns = 0; kind = 0; names = 6 ∷ 2 ∷ []; means = None }
    -- no names
    ∷ record { from = 0; ns = 0; kind = 0; names = []; means = None }
    ∷ record { from = 0; ns = 0; kind = 4; names = []; means = None }
    ∷ []) ≡ true
unfolding reads agrees alike head blocks reads_to parent_means absolutely plainly follow looked_in after later_name variant_in variant_named
    first_name entry_from in_prelude_of prelude_means in_externs extern_means extern_named entry_or meaning stands_for scopes_from outward
    last_or last_to last met_or met_to met unless climb_step climb in_module is_visible_from steps_or steps_to steps prelude_of get first_of
    or_first first_some item_of same_item definition_of module_of map_of root_of own_map crate_root or_else containing place_of
    verdict_on_literals
block_reads = refl
