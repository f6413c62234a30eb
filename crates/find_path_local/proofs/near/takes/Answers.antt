use Prim.Native.Nat.{◌+◌}
use mathlib.Core.Path.{◌∙◌, ap}
use native.Mathlib.Omega.{arith}
use Rattle.snapshot.specs.Limits.{module_limit}
use Rattle.find_path_spec.specs.Walk.{has}
use Rattle.find_path_levels.proofs.Stacks.{chain_wider}
use Rattle.find_path_local.proofs.Searches.{module_small}
use Rattle.find_path_local.proofs.near.takes.Goals as goal

pub locations-n-requires : goal.locations-n-requires
locations-n-requires c =
    let y = c.requires.0 in
    let s = c.args.s in (
      y.reads,
      y.from,
      omega (arith, y.numbers),
      omega (arith, y.space, y.area),
      chain_wider c.args.area.now s.place s.depth s.top (s.top + module_limit) (omega arith) y.chain,
      y.walked,
    )

pub invariant_of-sought : goal.invariant_of-sought
invariant_of-sought c = record {
  small = module_small c.args.records.now.words.now c.args.area.now c.args.records.now.layout c.requires.0.reads c.args.m.0 c.requires.1;
}

pub has-requires : goal.has-requires
has-requires c = omega (arith, c.requires.0.space, c.requires.0.area, c.locations-n.ensures.few, c.locations-n.auto.area)

pub returns : goal.returns
returns c =
    let g = c.locations-n.ensures in
    (record { below = g.below; above = λ i h. g.above i (omega (arith, c.requires.0.space, h)) }, c.has.ensures ∙ ap (λ ms. has ms c.args.c.0) g.run)
