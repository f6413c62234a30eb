use mathlib.Core.Path.{sym, ◌∙◌}
use native.Mathlib.Omega.{arith}
use lib.Seq.{length-take-le}
use Rattle.snapshot.specs.Limits.{area_limit}
use Rattle.accept.proofs.Stable.{checks_small, checks_part}
use Rattle.accept.proofs.check.check.Goals as goal

pub returns-then-area-lt-AREA : goal.returns-then-area-lt-AREA
returns-then-area-lt-AREA c = checks_small c.args.words.now c.args.area.now c.if-area-lt-AREA.true

pub slice_bounds-check_within-end-2 : goal.slice_bounds-check_within-end-2
slice_bounds-check_within-end-2 c =
    sym (length-take-le area_limit c.args.area.now c.if-area-lt-AREA.false)

pub check_within-requires : goal.check_within-requires
check_within-requires c =
    let e = length-take-le area_limit c.args.area.now c.if-area-lt-AREA.false in
    omega arith

pub returns : goal.returns
returns c =
    checks_part c.args.words.now c.args.area.now c.check_within.new.area c.if-area-lt-AREA.false
    (c.check_within.auto.area ∙ length-take-le area_limit c.args.area.now c.if-area-lt-AREA.false) c.check_within.result c.check_within.ensures
