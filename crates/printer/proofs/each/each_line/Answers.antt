use Rattle.std.proofs.Common.{◌/◌, length, Ok, refl, sym, subst, ◌∙◌, arith}
use Rattle.std.specs.Fn.{CalledAt}
use Rattle.std.specs.List.{FoldsTo}
use lib.Seq.{length-take-le}
use Rattle.snapshot.proofs.Laws.{refusal_some}
use Rattle.printer.proofs.Texts.{took_one, took_turns, fault_text, none_printed}
use Rattle.printer.proofs.Laws.{fault_free, refusal_counts}
use Rattle.printer.proofs.each.each_line.Goals as goal

pub slice_bounds-each-end : goal.slice_bounds-each-end
slice_bounds-each-end g c = (refusal_counts _ c.put_refusal-n.ensures).0

pub slice_bounds-each-end-in-Err : goal.slice_bounds-each-end-in-Err
slice_bounds-each-end-in-Err g c = (refusal_counts _ c.put_refusal-n.ensures).1

pub words_in-requires : goal.words_in-requires
words_in-requires g c =
    let f = fault_free c.args.bytes.now c.in_default.ensures in
    (omega (arith, f, c.requires.room.0), omega (arith, f))

pub slice_bounds-words-end : goal.slice_bounds-words-end
slice_bounds-words-end g c =
    let f = fault_free c.args.bytes.now c.in_default.ensures in
    omega (arith, f, c.requires.room.0, c.words_in.auto.words)

pub slice_bounds-words-end-2 : goal.slice_bounds-words-end-2
slice_bounds-words-end-2 g c =
    let f = fault_free c.args.bytes.now c.in_default.ensures in
    sym (length-take-le _ _ (omega (arith, f, c.requires.room.0, c.words_in.auto.words)))

pub each_answer-requires-clause-room : goal.each_answer-requires-clause-room
each_answer-requires-clause-room g c =
    let f = fault_free c.args.bytes.now c.in_default.ensures in
    let e = length-take-le (length c.args.bytes.now / 4) c.words_in.new.words (omega (arith, f, c.requires.room.0, c.words_in.auto.words)) in
    (c.first_question-k.ensures.1, omega (arith, e, f), c.requires.room.1)

pub returns-in-Err : goal.returns-in-Err
returns-in-Err g c =
    let e = fault_text c.args.bytes.now _ _ _ _ (λ z. refusal_some _ (sym c.number.ensures.same ∙ z))
    (c.number.ensures.same ∙ c.in-Err.ensures) c.put_refusal-n.ensures in
    took_one g.F.FnMut _ _ _ _ _ c.each.ensures e

pub returns-then-k-words : goal.returns-then-k-words
returns-then-k-words g c =
    let f = sym c.in_default.ensures in
    took_turns g.F.FnMut _ _ _ _ _ _ c.words_in.ensures.0 c.first_question-k.ensures.0 f c.each_answer.ensures

pub returns : goal.returns
returns g c =
    let f = sym c.in_default.ensures in
    let e = none_printed c.args.bytes.now _ _ c.words_in.ensures.0 c.first_question-k.ensures.0 f c.if-k-words.false in
    subst (λ ts. FoldsTo (λ p t q. CalledAt g.F.FnMut p t (Ok tt) q) c.args.each.now ts c.args.each.now) e refl
