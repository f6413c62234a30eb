use Prim.Native.Nat.{◌-◌}
use mathlib.Core.Path.{ap, ◌∙◌}
use native.Mathlib.Omega.{arith}
use Rattle.module_tree.proofs.Reading.{own_read}
use Rattle.module_tree.proofs.modules.own.Goals as goal

pub returns : goal.returns
returns c =
    let e = c.own_map.ensures in
    let p = own_read c.args.db.now.records.words.now c.args.db.now.area.now c.args.db.now.records.layout c.args.db.now.reads.tables c.args.c.0
    c.requires in
    let q = p.0 in
    let r = p.1 in
    (ap (λ x. x - 1) e ∙ q, omega arith)
