use native.Mathlib.Omega.{arith}
use Rattle.join.specs.records.Moves.{numbers_of}
use Rattle.join.proofs.records.Laws.{under, seen_public, seen_crate, seen_module}
use Rattle.join.proofs.records.fields.Moving.seen_to.Goals as goal

pub returns-then-v-eq0 : goal.returns-then-v-eq0
returns-then-v-eq0 c =
    seen_public (numbers_of c.args.self.now.area.now c.args.self.now.first) c.args.v c.args.n c.if-v-eq0.true

pub overflow_add-result : goal.overflow_add-result
overflow_add-result c =
    omega (arith, under (seen_crate (numbers_of c.args.self.now.area.now c.args.self.now.first) c.args.v c.args.n c.if-v-eq1.true) c.requires)

pub returns-then-v-eq1 : goal.returns-then-v-eq1
returns-then-v-eq1 c =
    seen_crate (numbers_of c.args.self.now.area.now c.args.self.now.first) c.args.v c.args.n c.if-v-eq1.true

pub overflow_add-result-2 : goal.overflow_add-result-2
overflow_add-result-2 c =
    omega (
      arith,
      under (seen_module (numbers_of c.args.self.now.area.now c.args.self.now.first) c.args.v c.args.n c.if-v-eq0.false
          c.if-v-eq1.false) c.requires,
    )

pub returns : goal.returns
returns c =
    seen_module (numbers_of c.args.self.now.area.now c.args.self.now.first) c.args.v c.args.n c.if-v-eq0.false c.if-v-eq1.false
