use mathlib.Core.Bool.{false≢true}
use native.Mathlib.Omega.{arith}
use Rattle.answer.specs.counts.Targets.{written}
use Rattle.imports.proofs.Laws.{walked_threaded, list_small, list_short, list_written, list_unknown}
use Rattle.imports.proofs.list_accepted.Goals as goal

pub returns-then-records-c : goal.returns-then-records-c
returns-then-records-c c =
    list_unknown c.args.records.now.words.now c.args.area.now c.args.records.now.layout c.args.c.0 c.args.target.now c.if-records-c.true

pub invariant_of-db : goal.invariant_of-db
invariant_of-db c = record {
  reads = (walked_threaded c.requires c.thread-n.ensures.0 c.thread-n.ensures.1 c.walk-k.ensures).ready.reads;
}

pub put_modules-count-requires : goal.put_modules-count-requires
put_modules-count-requires c = let t = c.thread-n.ensures in
    let w = c.walk-k.ensures in record {
      threaded = (
        walked_threaded c.requires t.0 t.1 w,
        c.if-records-c.false,
        w.few,
        w.inside,
      );
      space = record { small = list_small c.requires t.0 t.1 w; room = λ e. absurd (false≢true e) };
    }

pub returns-then-target-count : goal.returns-then-target-count
unfolding written
returns-then-target-count c =
    let t = c.thread-n.ensures in
    let p = c.put_modules-count.ensures in
    list_short c.requires c.if-records-c.false t.0 t.1 c.walk-k.ensures
    p.next p.same c.if-target-count.true

pub put_modules-requires : goal.put_modules-requires
put_modules-requires c = let t = c.thread-n.ensures in
    let w = c.walk-k.ensures in
    let p = c.put_modules-count.ensures in
    let g = c.if-target-count.false in record {
      threaded = (
        walked_threaded c.requires t.0 t.1 w,
        c.if-records-c.false,
        w.few,
        w.inside,
      );
      space = record { small = list_small c.requires t.0 t.1 w; room = λ e. omega (arith, p.next, g) };
    }

pub returns : goal.returns
unfolding written
returns c =
    let t = c.thread-n.ensures in
    let p = c.put_modules-count.ensures in
    list_written c.requires
    c.if-records-c.false t.0 t.1
    c.walk-k.ensures
    p.next p.same c.if-target-count.false c.put_modules.ensures.same
