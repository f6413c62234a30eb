use Prim.Native.Nat.{◌-◌}
use mathlib.Core.Path.{ap, ◌∙◌}
use native.Mathlib.Omega.{arith}
use Rattle.snapshot.specs.Words.{pay_of, words_of}
use Rattle.check_records.proofs.record_rules.Indexed.{key_small, names_start, names_hit, names_less, names_miss, names_end}
use Rattle.check_records.proofs.record_rules.names.repeated.Goals as goal

pub overflow_add-key : goal.overflow_add-key
overflow_add-key c =
    let h = key_small _ c.requires.n_le_name_limit.1 in
    omega arith

pub loop-k-init : goal.loop-k-init
loop-k-init c =
    names_start c.args.words.now c.args.area.now c.args.at c.args.n c.requires.chained c.requires.n_le_name_limit.1 c.word-k.ensures

pub same_text-requires : goal.same_text-requires
same_text-requires c =
    let l = c.loop-k in
    let e = c.payload.ensures in (
      omega (arith, c.name_head.ensures, c.type_inv.area (l.k - 1), c.text_words-size.ensures, e),
      c.text_words-size.ensures ∙ ap words_of e,
      c.payload_of-last.ensures ∙ ap pay_of c.field.ensures,
    )

pub returns-then-same_text : goal.returns-then-same_text
returns-then-same_text c =
    let l = c.loop-k in
    names_hit c.args.words.now c.args.area.now c.args.at c.args.n c.requires.chained c.requires.n_le_name_limit.1 l.k l.invariant
    c.loop-k-test.true c.name_head.ensures c.same_text.ensures c.if-same_text.true

pub loop-k-smaller : goal.loop-k-smaller
loop-k-smaller c =
    let l = c.loop-k in
    names_less c.args.words.now c.args.area.now c.args.at c.args.n c.requires.chained c.requires.n_le_name_limit.1 l.k l.invariant
    c.loop-k-test.true c.name_head.ensures c.same_text.ensures c.word-k-in-loop-k.ensures

pub loop-k-preserved : goal.loop-k-preserved
loop-k-preserved c =
    let l = c.loop-k in
    names_miss c.args.words.now c.args.area.now c.args.at c.args.n c.requires.chained c.requires.n_le_name_limit.1 l.k l.invariant
    c.loop-k-test.true c.name_head.ensures c.same_text.ensures c.word-k-in-loop-k.ensures c.if-same_text.false

pub returns : goal.returns
returns c =
    let l = c.loop-k in
    names_end c.args.words.now c.args.area.now c.args.at c.args.n c.requires.chained c.requires.n_le_name_limit.1 l.k l.invariant c.loop-k-test.false
