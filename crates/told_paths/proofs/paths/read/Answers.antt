use mathlib.Core.Path.{refl}
use native.Mathlib.Omega.{arith}
use Rattle.told_paths.proofs.Unwound.{link_less, unwound_start, unwound_more, unwound_next, unwound_keyword, unwound_absolute}
use Rattle.told_paths.proofs.Unwound.{unwound_plain}
use Rattle.told_paths.proofs.paths.read.Goals as goal

pub loop-k-init : goal.loop-k-init
loop-k-init c = unwound_start c.args.area.now c.args.n c.requires.2 c.args.link c.args.name
    c.args.count c.requires.1 c.requires.3 c.requires.4

pub overflow_sub-j : goal.overflow_sub-j
overflow_sub-j c =
    omega (arith, unwound_more c.args.area.now c.args.n c.requires.2 c.loop-k.invariant c.loop-k-test.true)

pub loop-k-smaller : goal.loop-k-smaller
loop-k-smaller c =
    omega (
      arith,
      c.word-k.ensures,
      link_less c.args.area.now c.args.n c.requires.2 c.loop-k-test.true
          c.loop-k.invariant.low,
    )

pub loop-k-preserved : goal.loop-k-preserved
loop-k-preserved c =
    unwound_next c.args.area.now c.args.n c.requires.2 c.loop-k.invariant c.loop-k-test.true refl refl
    c.word-k.ensures c.word-x.ensures

pub returns-then-k-eq0 : goal.returns-then-k-eq0
returns-then-k-eq0 c = record {
  value = unwound_keyword c.args.area.now c.args.n c.requires.2 c.loop-k.invariant c.requires.3 c.requires.4 c.if-k-eq0.true
      c.keyword_kind.ensures c.keyword_supers.ensures;
  count_le_names_limit = c.requires.3;
}

pub returns-then-k-eq1 : goal.returns-then-k-eq1
returns-then-k-eq1 c = record {
  value = unwound_absolute c.args.area.now c.args.n c.requires.2 c.loop-k.invariant c.requires.3 c.requires.4 c.if-k-eq1.true
      refl refl;
  count_le_names_limit = c.requires.3;
}

pub returns : goal.returns
returns c = record {
  value = unwound_plain c.args.area.now c.args.n c.requires.2 c.loop-k.invariant c.requires.3 c.requires.4 c.if-k-eq0.false
      c.if-k-eq1.false (omega (arith, c.loop-k-test.false)) refl refl;
  count_le_names_limit = c.requires.3;
}
