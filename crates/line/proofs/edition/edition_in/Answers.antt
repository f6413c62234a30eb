use native.Mathlib.Omega.{arith}
use Rattle.snapshot.specs.Layouts.{module_row}
use Rattle.snapshot.proofs.Laws.{length_rows}
use Rattle.line.proofs.Laws.{edition_none, edition_there}
use Rattle.accept.specs.Opened.{snap_in}
use Rattle.line.proofs.edition.edition_in.Goals as goal

pub returns-then-db-m : goal.returns-then-db-m
returns-then-db-m c =
    edition_none (snap_in c.args.db.now) c.args.m.0
    (let e = length_rows (module_row c.args.db.now.area.now) c.args.db.now.records.layout.modules in omega (arith, e, c.if-db-m.true))

pub returns : goal.returns
returns c =
    edition_there (snap_in c.args.db.now) c.args.m.0
    (let e = length_rows (module_row c.args.db.now.area.now) c.args.db.now.records.layout.modules in omega (arith, e, c.if-db-m.false))
    c.krate.ensures (c.edition_of.ensures c.args.db.now.area.now)
