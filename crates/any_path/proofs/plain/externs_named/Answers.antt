use mathlib.Core.Path.{◌∙◌}
use Rattle.snapshot.specs.Layouts.{snap_of}
use Rattle.any_path.proofs.Plains.{externs_types, externs_others}
use Rattle.any_path.proofs.plain.externs_named.Goals as goal

pub returns-then-ns-ne-TYPES : goal.returns-then-ns-ne-TYPES
returns-then-ns-ne-TYPES c =
    let from = c.args.view.now.from.0 in
    let W = c.args.view.now.db.records.words.now in
    let A = c.args.view.now.db.area.now in
    let L = c.args.view.now.db.records.layout in
    let S = snap_of W A L in
    externs_others S from c.args.ns c.args.name.0 c.if-ns-ne-TYPES.true

pub returns : goal.returns
returns c =
    let A = c.args.view.now.db.area.now in
    let from = c.args.view.now.from.0 in
    let W = c.args.view.now.db.records.words.now in
    let L = c.args.view.now.db.records.layout in
    let S = snap_of W A L in
    c.extern_named.ensures A
    ∙ externs_types S from c.args.ns c.args.name.0 c.krate.ensures c.if-ns-ne-TYPES.false
