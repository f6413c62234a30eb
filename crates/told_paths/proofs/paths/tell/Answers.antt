use mathlib.Core.Path.{◌∙◌}
use native.Mathlib.Omega.{arith}
use Rattle.std.proofs.lemmas.Option.{MatchOption-from_none}
use Rattle.told_paths.proofs.Laws.{step_link_lem, leads_none, leads_long, leads_told, long_few}
use Rattle.told_paths.proofs.paths.tell.Goals as goal

pub returns-in_err-last : goal.returns-in_err-last
returns-in_err-last c = record {
  value = λ z from ns o h. c.from_residual.ensures ∙ leads_none c.args.area.now c.args.n c.args.step c.in_err-last.was z from ns o h;
  count_bound = MatchOption-from_none c.from_residual.result _ c.from_residual.ensures;
}

pub names_in-count-requires : goal.names_in-count-requires
names_in-count-requires c =
    (c.requires.0, step_link_lem c.args.area.now c.args.n c.args.step c.in_ok-last.was c.requires.1, c.requires.2)

pub returns-then-count-gt-LIMIT : goal.returns-then-count-gt-LIMIT
returns-then-count-gt-LIMIT c = let low = step_link_lem c.args.area.now c.args.n c.args.step c.in_ok-last.was c.requires.1 in record {
  value = (λ z from ns o h. leads_long c.args.area.now c.args.n c.args.step c.in_ok-last.was z from ns o h c.if-count-gt-LIMIT.true
      (c.names_in-count.ensures.by_index _) c.long.ensures);
  count_bound = long_few c.long.ensures (omega (arith, c.names_in-count.ensures.upper_bound, low, c.requires.0));
}

pub read-requires : goal.read-requires
read-requires c = (
  c.requires.0,
  step_link_lem c.args.area.now c.args.n c.args.step c.in_ok-last.was c.requires.1,
  c.requires.2,
  omega (arith, c.if-count-gt-LIMIT.false),
  c.names_in-count.ensures.by_index _,
)

pub returns : goal.returns
returns c = record {
  value = (λ z from ns o h. leads_told c.args.area.now c.args.n c.args.step c.in_ok-last.was z from ns o h c.read.ensures.value);
  count_bound = omega (arith, c.read.ensures.count_le_names_limit);
}
