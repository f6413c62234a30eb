use native.Mathlib.Omega.{arith}
use borrow.Author.Tests.{ltb-true}
use Rattle.snapshot.specs.Laid.{snap_by}
use Rattle.find_path_spec.specs.laws.Near.{near}
use Rattle.find_path_spec.proofs.laws.Fewer.{refuted}
use Rattle.find_path_levels.specs.Levels.{levels_of}
use Rattle.find_path_local.proofs.Searches.{searchable_less}
use Rattle.find_path_local.proofs.near.Falling.{kept}
use Rattle.find_path_local.proofs.near.Turning.{nearing_start, nearing_next, nearing_end}
use Rattle.find_path_local.proofs.near.is_far.Goals as goal

pub begin-requires : goal.begin-requires
begin-requires c =
    let y = c.requires.1 in
    (y.reads.tables.limited.modules, y.numbers, omega (arith, y.space, c.requires.0), y.area)

pub loop-d-init : goal.loop-d-init
loop-d-init c =
    nearing_start c.args.records.now.words.now c.args.area.now c.args.records.now.layout c.args.x c.args.left c.args.s c.requires.1 c.begin.ensures
    c.begin.auto.area

pub relax-requires : goal.relax-requires
relax-requires c =
    let v = c.loop-d.invariant in
    let y = c.requires.1 in
    (kept (searchable_less 3 y c.requires.0) v.scratched v.size, omega (arith, c.loop-d-test.true, y.deep))

pub loop-d-preserved : goal.loop-d-preserved
loop-d-preserved c =
    nearing_next c.args.records.now.words.now c.args.area.now c.args.records.now.layout c.args.x c.args.left c.args.s c.requires.1 c.loop-d.invariant
    c.relax.ensures (c.relax.auto.area)

pub returns : goal.returns
returns c =
    let s = c.args.s in
    let A = c.args.area.now in
    let v = c.loop-d.invariant in (
      v.scratched,
      λ e. refuted (near (snap_by c.args.records.now A) c.args.x (levels_of A s.place s.depth) c.args.left c.args.m.0)
          (λ t.
          let b = nearing_end c.args.records.now.words.now A c.args.records.now.layout c.args.x c.args.left s c.requires.1 v c.args.m.0
          (omega (arith, c.loop-d-test.false)) c.requires.2 t in
          let g = ltb-true c.args.left c.word.result e in
          absurd (omega (arith, b, g, c.word.ensures))),
    )
