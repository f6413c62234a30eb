use native.Mathlib.Omega.{arith}
use Rattle.accept.proofs.Filling.{filled_none, filled_small, filled_more, filled_all}
use Rattle.accept.proofs.finish.fill_roots.Goals as goal

pub loop-m-init : goal.loop-m-init
loop-m-init c = filled_none _ _

pub overflow_add-area : goal.overflow_add-area
overflow_add-area c =
    let l = c.loop-m in
    let h = filled_small c.args.area.now l.area c.args.modules l.m l.invariant c.loop-m-test.true
    c.requires.area_limit_in_bounds.1 c.requires.area_limit_in_bounds.0 c.requires.by_index c.module_map-map.ensures in
    omega arith

pub offset_bounds-area-map : goal.offset_bounds-area-map
offset_bounds-area-map c =
    let l = c.loop-m in
    let h = filled_small c.args.area.now l.area c.args.modules l.m l.invariant c.loop-m-test.true
    c.requires.area_limit_in_bounds.1 c.requires.area_limit_in_bounds.0 c.requires.by_index c.module_map-map.ensures in
    omega arith

pub bounds-area-map : goal.bounds-area-map
bounds-area-map c =
    let l = c.loop-m in
    let h = filled_small c.args.area.now l.area c.args.modules l.m l.invariant c.loop-m-test.true
    c.requires.area_limit_in_bounds.1 c.requires.area_limit_in_bounds.0 c.requires.by_index c.module_map-map.ensures in
    let u = l.invariant.long in
    let v = c.requires.area_limit_in_bounds.0 in
    omega arith

pub loop-m-preserved : goal.loop-m-preserved
loop-m-preserved c =
    let l = c.loop-m in
    filled_more c.args.area.now l.area c.args.modules l.m l.invariant c.loop-m-test.true
    c.requires.area_limit_in_bounds.1 c.requires.area_limit_in_bounds.0 c.requires.by_index c.module_map-map.ensures

pub returns : goal.returns
returns c = filled_all c.args.area.now c.loop-m.area c.args.modules
    c.loop-m.m c.loop-m.invariant c.loop-m-test.false
