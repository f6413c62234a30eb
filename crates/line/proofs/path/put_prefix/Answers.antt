use mathlib.Core.Path.{sym, ap}
use native.Mathlib.Omega.{arith}
use Rattle.line.proofs.Laws.{no_prefix}
use Rattle.find_path_spec.specs.Line.{bytes_of, joined, prefix_parts}
use Rattle.printing.proofs.Laws.{put_as, put_none}
use Rattle.line.proofs.path.put_prefix.Goals as goal

pub returns-then-kind : goal.returns-then-kind
unfolding joined prefix_parts
returns-then-kind c = let p = c.put.ensures in
    record { put = put_as (ap (λ k. joined (bytes_of "::") (prefix_parts k)) (sym c.if-kind.true)) p; upper_bound = omega (arith, p.next) }

pub returns-then-kind-2 : goal.returns-then-kind-2
unfolding joined prefix_parts
returns-then-kind-2 c = let p = c.put-then-kind-2.ensures in
    record { put = put_as (ap (λ k. joined (bytes_of "::") (prefix_parts k)) (sym c.if-kind-2.true)) p; upper_bound = omega (arith, p.next) }

pub returns-then-kind-3 : goal.returns-then-kind-3
unfolding joined prefix_parts
returns-then-kind-3 c = let p = c.put-then-kind-3.ensures in
    record { put = put_as (ap (λ k. joined (bytes_of "::") (prefix_parts k)) (sym c.if-kind-3.true)) p; upper_bound = omega (arith, p.next) }

pub returns : goal.returns
returns c =
    record { put = put_as (no_prefix c.args.kind c.if-kind.false c.if-kind-2.false c.if-kind-3.false) (put_none _ _); upper_bound = omega arith }
