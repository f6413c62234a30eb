use native.Mathlib.Omega.{arith}
use Rattle.find_path_levels.proofs.Rows.{place_past, place_found}
use Rattle.find_path_levels.proofs.levels.is_placed.Goals as goal

pub returns-then-n-k : goal.returns-then-n-k
returns-then-n-k c = place_past c.args.area.now c.args.top c.args.n c.args.m.0 c.requires.2 c.word-k.ensures c.if-n-k.true

pub returns : goal.returns
returns c =
    place_found c.args.area.now c.args.top c.args.n c.args.m.0 c.requires.2 c.word-k.ensures (omega (arith, c.if-n-k.false)) c.word.ensures
