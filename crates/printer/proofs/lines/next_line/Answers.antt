use mathlib.Core.Path.{ap}
use mathlib.Core.List.{◌++◌}
use Rattle.printing.proofs.Laws.{put_as}
use Rattle.find_path_spec.specs.Report.{refused}
use Rattle.find_path_spec.specs.Line.{bytes_of, line_in}
use Rattle.printer.proofs.Laws.{turn_reach, turn_refused, turn_line, turn_route}
use Rattle.printer.proofs.lines.next_line.Goals as goal

pub returns-then-is_reach : goal.returns-then-is_reach
returns-then-is_reach c =
    let s = c.args in
    turn_reach s.words.now s.snapshot.now s.c s.at _ _ _ _ _ _
    c.is_reach.ensures
    c.if-is_reach.true
    c.viewer_at-v.ensures c.reach_line_on-n.ensures

pub returns-then-not-is_whole : goal.returns-then-not-is_whole
returns-then-not-is_whole c =
    let s = c.args in
    turn_refused s.words.now s.snapshot.now s.c s.at _ _ _ _ _ _
    c.is_reach.ensures
    c.if-is_reach.false c.is_whole.ensures
    c.if-not-is_whole.true c.requires.0
    (λ u from. put_as (ap (λ n. line_in u from (refused n) ++ bytes_of "\n") c.number.ensures.same) (c.put_refusal-n.ensures u from))

pub returns-then-asks_route : goal.returns-then-asks_route
returns-then-asks_route c =
    let s = c.args in
    turn_route s.words.now s.snapshot.now s.c s.at _ _ _ _ _ _ _
    c.is_whole.ensures
    c.if-not-is_whole.false
    c.question_at-q.ensures
    c.asks_route.ensures
    c.if-asks_route.true c.routed_line_on-n.ensures

pub returns : goal.returns
returns c =
    let s = c.args in
    turn_line s.words.now s.snapshot.now s.c s.at _ _ _ _ _ _ _
    c.is_whole.ensures
    c.if-not-is_whole.false
    c.question_at-q.ensures
    c.asks_route.ensures
    c.if-asks_route.false c.line_on-n.ensures
