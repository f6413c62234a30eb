use Prim.Native.Nat.{◌+◌}
use mathlib.Core.Path.{sym, ◌∙◌, ap}
use native.Mathlib.Omega.{arith}
use lib.ListN.{get_or}
use Rattle.imports.proofs.lists.Writing.{space_first, space_as, wrote_as, going_start, going_next, going_done, over_first}
use Rattle.imports.proofs.lists.Writing.{over_next, over_end, order_known}
use Rattle.imports.proofs.lists.write.put_modules.Goals as goal

pub loop-i-init : goal.loop-i-init
loop-i-init c =
    let a = c.args in (
      omega arith,
      going_start (space_as c.requires.space
          (over_first a.db.now.records.words.now a.db.now.area.now a.db.now.records.layout a.c.0 a.order)),
    )

pub put_module-t-requires : goal.put_module-t-requires
put_module-t-requires c = let a = c.args in
    let i = c.loop-i.i in
    let t = c.loop-i-test.true in
    let e = c.word.ensures ∙ ap (λ b. get_or a.db.now.area.now (b + i) 0) c.order_base-base.ensures in
    let q = over_next a.db.now.records.words.now a.db.now.area.now a.db.now.records.layout a.c.0 a.order i t e in
    let h = order_known a.db.now.area.now a.db.now.records.layout a.order c.requires.threaded.3 i t e in
    let m = c.requires.threaded.0.ready.reads.tables.limited.modules in
    record { threaded = (c.requires.threaded.0, c.requires.threaded.1, omega arith); space = space_first c.loop-i.invariant.1.space q }

pub loop-i-preserved : goal.loop-i-preserved
loop-i-preserved c =
    let a = c.args in
    let i = c.loop-i.i in
    let t = c.loop-i-test.true in
    let e = c.word.ensures ∙ ap (λ b. get_or a.db.now.area.now (b + i) 0) c.order_base-base.ensures in
    let q = over_next a.db.now.records.words.now a.db.now.area.now a.db.now.records.layout a.c.0 a.order i t e in
    (omega arith, going_next c.loop-i.invariant.1 q c.put_module-t.ensures)

pub returns : goal.returns
returns c =
    let a = c.args in
    let z = over_end a.db.now.records.words.now a.db.now.area.now a.db.now.records.layout a.c.0 a.order c.loop-i.i c.loop-i-test.false in
    wrote_as (going_done c.loop-i.invariant.1 z) (sym (over_first a.db.now.records.words.now a.db.now.area.now a.db.now.records.layout a.c.0 a.order))
