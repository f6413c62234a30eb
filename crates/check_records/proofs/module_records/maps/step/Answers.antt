use mathlib.Core.Path.{refl, sym, ◌∙◌}
use native.Mathlib.Omega.{arith}
use Rattle.check_rules.proofs.Exits.{err_is}
use Rattle.snapshot.proofs.Laws.{refusal_some}
use Rattle.check_records.proofs.module_records.Regions.{map_no_lem, map_on_own, map_on_block, map_crate_small}
use Rattle.check_records.proofs.module_records.maps.step.Goals as goal

pub returns-in_err-judge : goal.returns-in_err-judge
returns-in_err-judge c ms st =
    rw (err_is _ _ c.from_residual.ensures.1) (map_no_lem c.args.words.now c.args.area.now c.args.at c.args.l ms st
    c.in_err-judge.ensures
    c.in_range.ensures
    c.defined.ensures
    c.repeated.ensures
    c.placed.ensures
    (refusal_some _))

pub bounds-area-krate : goal.bounds-area-krate
bounds-area-krate c =
    let e = map_crate_small c.args.words.now c.args.at c.args.l _ _ _ _ c.in_ok-judge.ensures
    refl c.defined.ensures in
    omega (arith, e, c.map_crate-krate.ensures, c.requires.room, c.requires.limited.crates)

pub returns-then-map_block-eq0 : goal.returns-then-map_block-eq0
returns-then-map_block-eq0 c ms st =
    map_on_own c.args.words.now c.args.area.now c.args.at c.args.l ms st
    c.in_ok-judge.ensures
    c.in_range.ensures
    c.defined.ensures
    c.repeated.ensures
    c.placed.ensures
    refl c.requires.fits c.requires.room
    (sym c.map_block.ensures ∙ c.if-map_block-eq0.true) refl
    c.map_crate-krate.ensures

pub returns-else-map_block-eq0 : goal.returns-else-map_block-eq0
returns-else-map_block-eq0 c ms st =
    map_on_block c.args.words.now c.args.area.now c.args.at c.args.l ms st
    c.in_ok-judge.ensures
    c.in_range.ensures
    c.defined.ensures
    c.repeated.ensures
    c.placed.ensures
    refl c.requires.fits (λ e. c.if-map_block-eq0.false (c.map_block.ensures ∙ e))
