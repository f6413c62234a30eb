use mathlib.Core.Path.{refl, sym, ◌∙◌, ap}
use native.Mathlib.Omega.{arith}
use lib.ListN.{length-set}
use Rattle.snapshot.specs.Records.{scope_at}
use Rattle.find_path_levels.specs.Levels.{levels_of}
use Rattle.find_path_levels.proofs.Stacks.{chain_wider}
use Rattle.find_path_local.proofs.near.Falling.{kept, kept_rows, noted}
use Rattle.find_path_local.proofs.Nests.{room, head_reads, head_walked, head_space, head_chain, start_few, nesting_start}
use Rattle.find_path_local.proofs.Nests.{loop_size, nesting_call, nesting_known, nesting_next, nesting_done}
use Rattle.find_path_local.proofs.Searches.{one_nothing, module_small, search_none, search_rules, unruled, location_far, location_none}
use Rattle.find_path_local.proofs.Searches.{location_shorter, location_call, location_reads, location_few, location_text, location_steps}
use Rattle.find_path_local.proofs.Searches.{location_some, entry_at, tight_none, made_asked, made_done, row_two, row_entered, owner_known}
use Rattle.find_path_local.proofs.Searches.{owner_call, owner_reads, owner_found, owner_few, owner_steps, owner_text, owner_done}
use Rattle.find_path_choice.specs.Given.{given}
use Rattle.snapshot.specs.Laid.{snap_by}
use Rattle.find_path_local.proofs.+find_path_for_module_local_local_at_location_tight_at.Goals as goal

pub find_path_for_module_local-returns-then-left-eq0 : goal.find_path_for_module_local-returns-then-left-eq0
find_path_for_module_local-returns-then-left-eq0 t c =
    record {
      same = search_none (snap_by c.args.records.now c.args.area.now) c.args.x c.args.left
          (levels_of c.args.area.now c.args.s.place c.args.s.depth) c.args.m.0 c.if-left-eq0.true;
      below = refl;
      rows = c.requires.0.rows;
    }

pub find_path_for_module_local-returns-in-Some : goal.find_path_for_module_local-returns-in-Some
find_path_for_module_local-returns-in-Some t c =
    record {
      same = search_rules (snap_by c.args.records.now c.args.area.now) c.args.x c.args.left
          (levels_of c.args.area.now c.args.s.place c.args.s.depth) c.args.m.0 c.if-left-eq0.false
          c.in-Some.ensures refl;
      below = refl;
      rows = c.requires.0.rows;
    }

pub find_path_for_module_local-is_tight-requires : goal.find_path_for_module_local-is_tight-requires
find_path_for_module_local-is_tight-requires t c = (
  chain_wider c.args.area.now _ _ c.args.s.top _ (omega (arith, c.requires.0.space, c.requires.0.area))
      c.requires.0.chain,
  omega (arith, c.requires.1, c.requires.0.reads.tables.limited.modules),
)

pub find_path_for_module_local-tight_at-requires : goal.find_path_for_module_local-tight_at-requires
find_path_for_module_local-tight_at-requires t c =
    let h = c.if-left-eq0.false in (
      omega (arith, c.decreases),
      (
        omega arith,
        c.requires.0,
        c.requires.1,
        c.is_tight.ensures c.if-is_tight.true,
        unruled (snap_by c.args.records.now c.args.area.now) c.args.x c.args.m.0 c.in_default.ensures,
      ),
    )

pub find_path_for_module_local-invariant_of-sought : goal.find_path_for_module_local-invariant_of-sought
find_path_for_module_local-invariant_of-sought t c = record {
  small = module_small c.args.records.now.words.now c.args.area.now c.args.records.now.layout c.requires.0.reads c.args.m.0 c.requires.1;
}

pub find_path_for_module_local-is_lost-requires : goal.find_path_for_module_local-is_lost-requires
find_path_for_module_local-is_lost-requires t c = (c.requires.0, c.requires.1)

pub find_path_for_module_local-returns-then-is_lost : goal.find_path_for_module_local-returns-then-is_lost
find_path_for_module_local-returns-then-is_lost t c =
    let f = c.is_lost.ensures in
    record { same = sym (f.1 c.if-is_lost.true); below = f.0.below; rows = kept_rows c.requires.0 f.0 }

pub find_path_for_module_local-local_at-r-requires : goal.find_path_for_module_local-local_at-r-requires
find_path_for_module_local-local_at-r-requires t c =
    let h = c.if-left-eq0.false in
    (omega (arith, c.decreases), (omega arith, kept c.requires.0 c.is_lost.ensures.0 c.is_lost.auto.area))

pub find_path_for_module_local-note-requires : goal.find_path_for_module_local-note-requires
find_path_for_module_local-note-requires t c =
    let y = c.requires.0 in
    let h = c.if-left-eq0.false in
    (omega (arith, y.space), omega (arith, y.area, c.is_lost.auto.area, c.local_at-r.auto.area))

pub find_path_for_module_local-returns : goal.find_path_for_module_local-returns
find_path_for_module_local-returns t c =
    noted c.requires.0 c.is_lost.ensures.0 c.args.m.0 c.local_at-r.new.area _ c.if-left-eq0.false
    (unruled (snap_by c.args.records.now c.args.area.now) c.args.x c.args.m.0 c.in_default.ensures) c.local_at-r.ensures c.note.ensures

pub local_at-returns-then-left-eq1 : goal.local_at-returns-then-left-eq1
local_at-returns-then-left-eq1 t c =
    record {
      same = one_nothing (snap_by c.args.records.now c.args.area.now) c.args.x c.if-left-eq1.true
          (levels_of c.args.area.now c.args.s.place c.args.s.depth) c.args.sought.item;
      below = refl;
      rows = c.requires.1.rows;
    }

pub local_at-bounds-area-top-2 : goal.local_at-bounds-area-top-2
local_at-bounds-area-top-2 t c =
    omega (
      arith,
      c.requires.1.space,
      c.requires.0,
      c.requires.1.area,
      length-set c.args.area.now c.args.s.top
          c.code_of-code.result,
    )

pub local_at-locations-n-requires : goal.local_at-locations-n-requires
local_at-locations-n-requires t c = (
  head_reads c.args.records.now.words.now c.args.area.now c.args.records.now.layout c.args.x c.args.left c.args.sought.item c.args.s
      (omega (arith, c.requires.0, c.if-left-eq1.false)) c.requires.1 c.args.sought.small c.code_of-code.result c.code_of-code.ensures.0,
  c.requires.1.from,
  omega (arith, c.requires.1.numbers),
  head_space c.args.records.now.words.now c.args.area.now c.args.records.now.layout c.args.x
      c.args.left c.args.sought.item c.args.s (omega (arith, c.requires.0, c.if-left-eq1.false)) c.requires.1 c.args.sought.small
      c.code_of-code.result
      c.code_of-code.ensures.0,
  head_chain c.args.records.now.words.now c.args.area.now c.args.records.now.layout c.args.x c.args.left
      c.args.sought.item c.args.s (omega (arith, c.requires.0, c.if-left-eq1.false)) c.requires.1 c.args.sought.small c.code_of-code.result
      c.code_of-code.ensures.0,
  head_walked c.args.records.now.words.now c.args.area.now c.args.records.now.layout c.args.x c.args.left
      c.args.sought.item c.args.s (omega (arith, c.requires.0, c.if-left-eq1.false)) c.requires.1 c.args.sought.small c.code_of-code.result
      c.code_of-code.ensures.0,
)

pub local_at-overflow_add-up : goal.local_at-overflow_add-up
local_at-overflow_add-up t c =
    omega (
      arith,
      c.requires.1.space,
      c.requires.0,
      start_few c.args.records.now.words.now c.args.area.now c.args.records.now.layout c.args.x
          c.args.left c.args.sought.item c.args.s (omega (arith, c.requires.0, c.if-left-eq1.false)) c.requires.1 c.args.sought.small
          c.code_of-code.result
          c.code_of-code.ensures.0 _ _ c.locations-n.ensures c.locations-n.auto.area,
    )

pub local_at-loop-k-init : goal.local_at-loop-k-init
local_at-loop-k-init t c =
    nesting_start c.args.records.now.words.now c.args.area.now c.args.records.now.layout c.args.x c.args.left c.args.sought.item c.args.s
    (omega (arith, c.requires.0, c.if-left-eq1.false)) c.requires.1 c.args.sought.small c.code_of-code.result c.code_of-code.ensures.0 _ _
    c.locations-n.ensures
    c.locations-n.auto.area

pub local_at-bounds-area-cursor : goal.local_at-bounds-area-cursor
local_at-bounds-area-cursor t c =
    omega (
      arith,
      room c.args.records.now.words.now c.args.area.now c.args.records.now.layout c.args.x c.args.left c.args.sought.item
          c.args.s (omega (arith, c.requires.0, c.if-left-eq1.false)) c.requires.1 c.args.sought.small c.code_of-code.result c.code_of-code.ensures.0,
      loop_size
          c.args.records.now.words.now c.args.area.now c.args.records.now.layout c.args.x c.args.left c.args.sought.item c.args.s
          (omega (arith, c.requires.0, c.if-left-eq1.false)) c.requires.1 c.args.sought.small c.code_of-code.result c.code_of-code.ensures.0 _ _
          c.locations-n.ensures
          c.locations-n.auto.area c.loop-k.area c.loop-k.best c.loop-k.k c.loop-k.invariant,
    )

pub local_at-location-best-requires : goal.local_at-location-best-requires
local_at-location-best-requires t c = (
  omega (arith, c.decreases),
  (
    c.requires.0,
    nesting_call c.args.records.now.words.now c.args.area.now c.args.records.now.layout c.args.x
        c.args.left c.args.sought.item c.args.s (omega (arith, c.requires.0, c.if-left-eq1.false)) c.requires.1 c.args.sought.small
        c.code_of-code.result
        c.code_of-code.ensures.0 _ _ c.locations-n.ensures c.locations-n.auto.area c.loop-k.area c.loop-k.best c.loop-k.k
        c.loop-k.invariant c.loop-k-test.true,
    nesting_known c.args.records.now.words.now c.args.area.now c.args.records.now.layout c.args.x
        c.args.left c.args.sought.item c.args.s (omega (arith, c.requires.0, c.if-left-eq1.false)) c.requires.1 c.args.sought.small
        c.code_of-code.result
        c.code_of-code.ensures.0 _ _ c.locations-n.ensures c.locations-n.auto.area c.loop-k.area c.loop-k.best c.loop-k.k
        c.loop-k.invariant c.loop-k-test.true c.word-m.ensures,
    omega (arith, c.loop-k.invariant.fits.few, c.requires.1.deep),
  ),
)

pub local_at-loop-k-preserved : goal.local_at-loop-k-preserved
local_at-loop-k-preserved t c =
    nesting_next c.args.records.now.words.now c.args.area.now c.args.records.now.layout c.args.x c.args.left c.args.sought.item c.args.s
    (omega (arith, c.requires.0, c.if-left-eq1.false)) c.requires.1 c.args.sought.small c.code_of-code.result c.code_of-code.ensures.0 _ _
    c.locations-n.ensures
    c.locations-n.auto.area c.loop-k.area c.loop-k.best c.loop-k.k c.loop-k.invariant c.loop-k-test.true
    c.word-m.ensures _ c.location-best.ensures c.location-best.auto.area

pub local_at-returns : goal.local_at-returns
local_at-returns t c =
    nesting_done c.args.records.now.words.now c.args.area.now c.args.records.now.layout c.args.x c.args.left c.args.sought.item c.args.s
    (omega (arith, c.requires.0, c.if-left-eq1.false)) c.requires.1 c.args.sought.small c.code_of-code.result c.code_of-code.ensures.0 _ _
    c.locations-n.ensures
    c.locations-n.auto.area c.loop-k.area c.loop-k.best c.loop-k.k c.loop-k.invariant c.loop-k-test.false

pub location-returns-then-j-word : goal.location-returns-then-j-word
location-returns-then-j-word t c =
    record {
      same = location_far c.args.records.now.words.now c.args.area.now c.args.records.now.layout c.args.x c.args.left c.args.s
          c.requires.0 c.requires.1 (given c.args.best) c.args.sought.item c.args.m.0 c.requires.2 c.length_left-j.ensures
          c.word.ensures c.if-j-word.true;
      below = refl;
      rows = c.requires.1.rows;
    }

pub location-returns-in_default : goal.location-returns-in_default
location-returns-in_default t c =
    record {
      same = location_none c.args.records.now.words.now c.args.area.now c.args.records.now.layout c.args.x c.args.left c.args.s
          c.requires.0 c.requires.1 (given c.args.best) c.args.sought.item c.args.m.0 c.importable_name.ensures.0
          c.in_default.is;
      below = refl;
      rows = c.requires.1.rows;
    }

pub location-find_path_for_module_local-c-requires : goal.location-find_path_for_module_local-c-requires
location-find_path_for_module_local-c-requires t c = (
  omega (
    arith,
    c.decreases,
    location_shorter c.args.records.now.words.now c.args.area.now c.args.records.now.layout c.args.x c.args.left
        c.args.s c.requires.0 c.requires.1 (given c.args.best) c.args.sought.item c.args.m.0 c.length_left-j.ensures,
  ),
  (
    location_call c.args.records.now.words.now c.args.area.now c.args.records.now.layout c.args.x c.args.left c.args.s
        c.requires.0 c.requires.1 (given c.args.best) c.args.sought.item c.args.m.0 c.length_left-j.ensures,
    c.requires.2,
  ),
)

pub location-invariant_of-db-2 : goal.location-invariant_of-db-2
location-invariant_of-db-2 t c = record {
  reads = location_reads c.args.records.now.words.now c.args.area.now c.args.records.now.layout c.args.x c.args.left c.args.s c.requires.0
      c.requires.1 (given c.args.best) c.args.sought.item c.args.m.0 c.length_left-j.ensures _ c.find_path_for_module_local-c.ensures;
}

pub location-offer_entry-requires : goal.location-offer_entry-requires
location-offer_entry-requires t c = (
  entry_at c.args.records.now.words.now c.args.records.now.layout c.importable_name.ensures.1 c.in-Some.is,
  c.requires.3,
  location_few
      c.args.records.now.words.now c.args.area.now c.args.records.now.layout c.args.x c.args.left c.args.s c.requires.0
      c.requires.1 (given c.args.best) c.args.sought.item c.args.m.0 c.length_left-j.ensures _ c.find_path_for_module_local-c.ensures,
  location_text c.args.records.now.words.now c.args.area.now c.args.records.now.layout c.args.x c.args.left c.args.s
      c.requires.0 c.requires.1 (given c.args.best) c.args.sought.item c.args.m.0 c.length_left-j.ensures _
      c.find_path_for_module_local-c.ensures,
  location_steps c.args.records.now.words.now c.args.area.now c.args.records.now.layout
      c.args.x c.args.left c.args.s c.requires.0 c.requires.1 (given c.args.best) c.args.sought.item c.args.m.0
      c.length_left-j.ensures _ c.find_path_for_module_local-c.ensures,
)

pub location-returns : goal.location-returns
location-returns t c =
    location_some c.args.records.now.words.now c.args.area.now c.args.records.now.layout c.args.x c.args.left c.args.s c.requires.0
    c.requires.1 (given c.args.best) c.args.sought.item c.args.m.0 c.length_left-j.ensures _ c.find_path_for_module_local-c.ensures
    c.importable_name.ensures.0 c.in-Some.is c.offer_entry.ensures

pub tight_at-invariant_of-sought : goal.tight_at-invariant_of-sought
tight_at-invariant_of-sought t c = record {
  small = module_small c.args.records.now.words.now c.args.area.now c.args.records.now.layout c.requires.1.reads c.args.m.0 c.requires.2;
}

pub tight_at-local_at-r-requires : goal.tight_at-local_at-r-requires
tight_at-local_at-r-requires t c = (
  omega (arith, c.decreases),
  (
    c.requires.0,
    c.requires.1,
  ),
)

pub tight_at-row_of-made-requires : goal.tight_at-row_of-made-requires
tight_at-row_of-made-requires t c =
    made_asked c.args.records.now.words.now c.args.area.now c.args.records.now.layout c.args.x c.args.left c.args.s c.requires.1
    c.args.m.0 c.requires.2 c.requires.3 c.requires.0 c.requires.4 _ c.local_at-r.auto.area c.local_at-r.ensures

pub tight_at-returns-then-row-eq0 : goal.tight_at-returns-then-row-eq0
tight_at-returns-then-row-eq0 t c =
    made_done c.args.records.now.words.now c.args.area.now c.args.records.now.layout c.args.x c.args.left c.args.s c.requires.1
    c.args.m.0 c.requires.2 c.requires.3 c.requires.0 c.requires.4 _ c.local_at-r.auto.area c.local_at-r.ensures
    c.row_of-made.ensures.0

pub tight_at-returns-then-row-eq1 : goal.tight_at-returns-then-row-eq1
tight_at-returns-then-row-eq1 t c =
    tight_none c.args.records.now.words.now c.args.area.now c.args.records.now.layout c.args.x c.args.left c.args.s c.requires.1
    c.args.m.0 c.requires.2 c.requires.3 c.word-row.ensures c.if-row-eq1.true

pub tight_at-row_place-requires : goal.tight_at-row_place-requires
tight_at-row_place-requires t c =
    row_two c.args.records.now.words.now c.args.area.now c.args.records.now.layout c.args.x c.args.left c.args.s c.requires.1
    c.args.m.0 c.requires.2 c.requires.3 c.word-row.ensures c.if-row-eq0.false c.if-row-eq1.false

pub tight_at-find_path_for_module_local-requires : goal.tight_at-find_path_for_module_local-requires
tight_at-find_path_for_module_local-requires t c =
    let q = c.scope_owner-owner.ensures ∙ ap (λ z. (scope_at c.args.records.now.words.now z).owner) c.row_place.ensures in (
      omega (arith, c.decreases, c.requires.0),
      (
        owner_call c.args.records.now.words.now c.args.area.now c.args.records.now.layout c.args.x
            c.args.left c.args.s c.requires.1 c.args.m.0 c.requires.2 c.requires.3 c.word-row.ensures
            c.if-row-eq0.false c.if-row-eq1.false,
        owner_known c.args.records.now.words.now c.args.area.now c.args.records.now.layout c.args.x
            c.args.left c.args.s c.requires.1 c.args.m.0 c.requires.2 c.requires.3 c.word-row.ensures
            c.if-row-eq0.false c.if-row-eq1.false q,
      ),
    )

pub tight_at-returns-in_err-c : goal.tight_at-returns-in_err-c
tight_at-returns-in_err-c t c =
    let q = c.scope_owner-owner.ensures ∙ ap (λ z. (scope_at c.args.records.now.words.now z).owner) c.row_place.ensures in
    owner_found c.args.records.now.words.now c.args.area.now c.args.records.now.layout c.args.x
    c.args.left c.args.s c.requires.1 c.args.m.0 c.requires.2 c.requires.3 c.word-row.ensures
    c.if-row-eq0.false c.if-row-eq1.false c.requires.0 q _
    c.find_path_for_module_local.ensures c.in_err-c.was

pub tight_at-invariant_of-db : goal.tight_at-invariant_of-db
tight_at-invariant_of-db t c =
    let q = c.scope_owner-owner.ensures ∙ ap (λ z. (scope_at c.args.records.now.words.now z).owner) c.row_place.ensures in
    record {
      reads = owner_reads c.args.records.now.words.now c.args.area.now c.args.records.now.layout c.args.x
          c.args.left c.args.s c.requires.1 c.args.m.0 c.requires.2 c.requires.3 c.word-row.ensures
          c.if-row-eq0.false c.if-row-eq1.false c.requires.0 q _
          c.find_path_for_module_local.ensures;
    }

pub tight_at-from_row-requires : goal.tight_at-from_row-requires
tight_at-from_row-requires t c =
    let q = c.scope_owner-owner.ensures ∙ ap (λ z. (scope_at c.args.records.now.words.now z).owner) c.row_place.ensures in
    let e = c.in_ok-c.was in (
      row_two c.args.records.now.words.now c.args.area.now c.args.records.now.layout c.args.x
          c.args.left c.args.s c.requires.1 c.args.m.0 c.requires.2 c.requires.3 c.word-row.ensures
          c.if-row-eq0.false c.if-row-eq1.false,
      (row_entered c.args.records.now.words.now c.args.area.now c.args.records.now.layout c.args.x
          c.args.left c.args.s c.requires.1 c.args.m.0 c.requires.2 c.requires.3 c.word-row.ensures
          c.if-row-eq0.false c.if-row-eq1.false).fits,
      owner_few c.args.records.now.words.now c.args.area.now c.args.records.now.layout c.args.x
          c.args.left c.args.s c.requires.1 c.args.m.0 c.requires.2 c.requires.3 c.word-row.ensures
          c.if-row-eq0.false c.if-row-eq1.false c.requires.0 q _
          c.find_path_for_module_local.ensures e,
      owner_text c.args.records.now.words.now c.args.area.now c.args.records.now.layout c.args.x
          c.args.left c.args.s c.requires.1 c.args.m.0 c.requires.2 c.requires.3 c.word-row.ensures
          c.if-row-eq0.false c.if-row-eq1.false c.requires.0 q _
          c.find_path_for_module_local.ensures e,
      owner_steps c.args.records.now.words.now c.args.area.now c.args.records.now.layout c.args.x
          c.args.left c.args.s c.requires.1 c.args.m.0 c.requires.2 c.requires.3 c.word-row.ensures
          c.if-row-eq0.false c.if-row-eq1.false c.requires.0 q _
          c.find_path_for_module_local.ensures e,
    )

pub tight_at-returns : goal.tight_at-returns
tight_at-returns t c =
    let q = c.scope_owner-owner.ensures ∙ ap (λ z. (scope_at c.args.records.now.words.now z).owner) c.row_place.ensures in
    owner_done c.args.records.now.words.now c.args.area.now c.args.records.now.layout c.args.x
    c.args.left c.args.s c.requires.1 c.args.m.0 c.requires.2 c.requires.3 c.word-row.ensures
    c.if-row-eq0.false c.if-row-eq1.false c.requires.0 q _
    c.find_path_for_module_local.ensures c.in_ok-c.was c.from_row.ensures
