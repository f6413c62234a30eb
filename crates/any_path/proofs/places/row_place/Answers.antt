use mathlib.Core.Path.{ap, ◌∙◌}
use Rattle.std.specs.Prelude.{Option, option_map}
use native.Mathlib.Omega.{arith}
use Rattle.snapshot.specs.Records.{Scope, Extern}
use Rattle.accept.specs.Opened.{snap_in}
use Rattle.nameable.specs.Paths.{as_named, extern_named, place_in}
use Rattle.any_path.proofs.Placed.{row_small, link_small, place_keyword, place_absolute, place_plain, place_into}
use Rattle.any_path.proofs.places.row_place.Goals as goal

pub overflow_mul-at : goal.overflow_mul-at
overflow_mul-at c = record { fits = omega (arith, row_small _ _ _ _ _ c.requires c.args.view.now.db.reads.tables.limited.modules) }

pub overflow_add-at : goal.overflow_add-at
overflow_add-at c = record { fits = omega (arith, row_small _ _ _ _ _ c.requires c.args.view.now.db.reads.tables.limited.modules) }

pub overflow_add-at-2 : goal.overflow_add-at-2
overflow_add-at-2 c = record { fits = omega (arith, row_small _ _ _ _ _ c.requires c.args.view.now.db.reads.tables.limited.modules) }

pub overflow_add-at-3 : goal.overflow_add-at-3
overflow_add-at-3 c = record { fits = omega (arith, row_small _ _ _ _ _ c.requires c.args.view.now.db.reads.tables.limited.modules) }

pub returns-then-link-eq0 : goal.returns-then-link-eq0
returns-then-link-eq0 c = place_keyword _ _ _ _ _ c.requires c.word-link.ensures c.word.ensures c.if-link-eq0.true

pub returns-then-link-eq1 : goal.returns-then-link-eq1
returns-then-link-eq1 c =
    place_absolute _ _ _ _ _ c.requires c.word-link.ensures c.word.ensures c.if-link-eq1.true
    ((c.entry_place.ensures (snap_in c.args.view.now.db) _).1
    ∙ ap (λ (o : Option Extern). place_in (option_map extern_named o)) c.externs_named.ensures)

pub returns-then-link-eq2 : goal.returns-then-link-eq2
returns-then-link-eq2 c =
    place_plain _ _ _ _ _ c.requires c.word-link.ensures c.word.ensures c.if-link-eq2.true
    (c.place_read.ensures _ _ ∙ ap place_in c.read_plain.ensures)

pub overflow_mul-link : goal.overflow_mul-link
overflow_mul-link c =
    record { fits = omega (arith, link_small _ _ _ _ _ c.requires c.args.view.now.db.reads.tables.limited.modules c.word-link.ensures) }

pub overflow_add-link : goal.overflow_add-link
overflow_add-link c =
    record { fits = omega (arith, link_small _ _ _ _ _ c.requires c.args.view.now.db.reads.tables.limited.modules c.word-link.ensures) }

pub returns : goal.returns
returns c =
    let S = snap_in c.args.view.now.db in
    place_into _ _ _ _ _ c.requires c.word-link.ensures c.word.ensures c.if-link-eq0.false c.if-link-eq1.false c.if-link-eq2.false
    c.word-2.ensures ((c.entry_place-2.ensures S _).0 ∙ ap (λ (o : Option Scope). place_in (option_map (as_named S) o)) c.entry_named.ensures)
