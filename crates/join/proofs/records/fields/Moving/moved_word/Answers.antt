use Prim.Native.Nat.{◌+◌, ◌*◌}
use mathlib.Core.Path.{◌∙◌, ap}
use native.Mathlib.Omega.{arith}
use Rattle.join.specs.records.Moves.{numbers_of}
use Rattle.join.proofs.records.Laws.{under, head_is, field_is}
use Rattle.join.proofs.records.fields.Moving.moved_word.Goals as goal

pub overflow_mul-result : goal.overflow_mul-result
overflow_mul-result c =
    omega (
      arith,
      under (head_is (numbers_of c.args.self.now.area.now c.args.self.now.first) c.args.self.now.words.now c.args.at c.args.i
          c.kind-k.ensures c.payload-p.ensures c.field-v.ensures
          c.role_of-role.ensures c.if-i-eq0.true) c.requires,
    )

pub field_to-requires : goal.field_to-requires
field_to-requires c =
    let h = under (head_is (numbers_of c.args.self.now.area.now c.args.self.now.first) c.args.self.now.words.now c.args.at c.args.i
    c.kind-k.ensures c.payload-p.ensures c.field-v.ensures
    c.role_of-role.ensures c.if-i-eq0.true) c.requires in
    omega arith

pub overflow_add-result : goal.overflow_add-result
overflow_add-result c =
    let f = c.field_to.ensures in
    let h = under (head_is (numbers_of c.args.self.now.area.now c.args.self.now.first) c.args.self.now.words.now c.args.at c.args.i
    c.kind-k.ensures c.payload-p.ensures c.field-v.ensures
    c.role_of-role.ensures c.if-i-eq0.true) c.requires in
    omega arith

pub returns-then-i-eq0 : goal.returns-then-i-eq0
returns-then-i-eq0 c =
    ap (λ x. c.kind-k.result * 268435456 + x) c.field_to.ensures
    ∙ head_is (numbers_of c.args.self.now.area.now c.args.self.now.first) c.args.self.now.words.now c.args.at c.args.i
    c.kind-k.ensures c.payload-p.ensures c.field-v.ensures
    c.role_of-role.ensures c.if-i-eq0.true

pub field_to-requires-2 : goal.field_to-requires-2
field_to-requires-2 c =
    under (field_is (numbers_of c.args.self.now.area.now c.args.self.now.first) c.args.self.now.words.now c.args.at c.args.i
    c.kind-k.ensures c.payload-p.ensures c.field-v.ensures
    c.role_of-role.ensures c.if-i-eq0.false c.field.ensures) c.requires

pub returns : goal.returns
returns c =
    c.field_to-2.ensures ∙ field_is (numbers_of c.args.self.now.area.now c.args.self.now.first) c.args.self.now.words.now c.args.at c.args.i
    c.kind-k.ensures c.payload-p.ensures c.field-v.ensures
    c.role_of-role.ensures c.if-i-eq0.false c.field.ensures
