use Rattle.std.proofs.Common.{◌≡◌, ◌+◌, ◌-◌, set, ap, sym, ◌∙◌, arith, length-set}
use Rattle.streams.specs.case_text.Words.{read_to, copied}
use Rattle.streams.proofs.case_text.Laws.{copied_early, copied_full, copied_next, copied_none}
use Rattle.streams.proofs.case_text.words.Repeat.copy_on.Goals as goal

pub returns-then-i-back : goal.returns-then-i-back
returns-then-i-back c =
    let r = c.args.self.now in
    copied_early c.loop-i.words c.loop-i.i r.back r.heads r.arguments (c.args.from + r.count - c.loop-i.i) c.if-i-back.true ∙ c.loop-i.invariant.1

pub returns-then-words-i : goal.returns-then-words-i
returns-then-words-i c =
    let r = c.args.self.now in
    copied_full c.loop-i.words c.loop-i.i r.back r.heads r.arguments (c.args.from + r.count - c.loop-i.i) c.if-i-back.false c.if-words-i.true
    ∙ c.loop-i.invariant.1

pub loop-i-preserved : goal.loop-i-preserved
loop-i-preserved c =
    let r = c.args.self.now in
    let left = c.args.from + r.count - c.loop-i.i in
    let e : c.args.from + r.count - (c.loop-i.i + 1) ≡ left - 1 = omega arith in
    let after = read_to (set c.loop-i.words c.loop-i.i c.raised.result) (c.loop-i.i + 1) in (
      length-set c.loop-i.words c.loop-i.i c.raised.result ∙ c.loop-i.invariant.0,
      ap (λ m. copied m r.back r.heads r.arguments after) e
          ∙ copied_next c.loop-i.words c.loop-i.i r.back r.heads r.arguments left (omega (arith, c.loop-i-test.true))
          c.if-i-back.false c.if-words-i.false c.raised.result c.raised.ensures ∙ c.loop-i.invariant.1,
    )

pub returns : goal.returns
returns c =
    let r = c.args.self.now in
    let e : c.args.from + r.count ≡ c.loop-i.i = omega arith in
    ap (read_to c.loop-i.words) e
    ∙ sym (copied_none c.loop-i.words c.loop-i.i r.back r.heads r.arguments (c.args.from + r.count - c.loop-i.i) (omega (arith, c.loop-i-test.false)))
    ∙ c.loop-i.invariant.1
