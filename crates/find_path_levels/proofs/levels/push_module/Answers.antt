use native.Mathlib.Omega.{arith}
use Rattle.find_path_levels.proofs.Stacks.{chain_wider, push_seen, push_there, push_place, push_new}
use Rattle.find_path_levels.proofs.levels.push_module.Goals as goal

pub visited-requires : goal.visited-requires
visited-requires c =
    chain_wider c.args.area.now _ _ c.args.s.top _ (omega (arith, c.requires.0.space)) c.requires.0.chain

pub returns-then-visited : goal.returns-then-visited
returns-then-visited c =
    push_seen c.args.area.now _ _ _ _ c.requires.0 c.visited.ensures c.if-visited.true

pub is_placed-requires : goal.is_placed-requires
is_placed-requires c = (c.requires.0.space, c.requires.1, c.requires.0.places)

pub returns-then-is_placed : goal.returns-then-is_placed
returns-then-is_placed c =
    push_there c.args.area.now _ _ _ _ c.requires.0 c.visited.ensures c.if-visited.false c.is_placed.ensures c.if-is_placed.true

pub bounds-area-s : goal.bounds-area-s
bounds-area-s c =
    omega (
      arith,
      c.requires.0.space,
      push_place c.args.area.now _ _ c.args.sought.item _ c.requires.0 c.requires.1
          c.is_placed.ensures c.if-is_placed.false,
    )

pub returns : goal.returns
returns c =
    push_new c.args.area.now _ _ _ _ c.requires.0 c.requires.1 c.visited.ensures c.if-visited.false c.is_placed.ensures c.if-is_placed.false
