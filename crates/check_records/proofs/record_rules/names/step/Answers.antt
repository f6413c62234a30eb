use mathlib.Core.Path.{refl, ap, ◌∙◌}
use native.Mathlib.Omega.{arith}
use lib.ListN.{length-set}
use Prim.Native.Nat.{◌+◌}
use Rattle.check_rules.proofs.Exits.{err_is}
use Rattle.snapshot.specs.Words.{words_of}
use Rattle.snapshot.proofs.Laws.{refusal_some}
use Rattle.check_records.proofs.record_rules.Indexed.{key_small}
use Rattle.check_records.proofs.record_rules.Tabled.{names_room, name_no, name_on_lem}
use Rattle.check_records.proofs.record_rules.names.step.Goals as goal

pub returns-in_err-judge : goal.returns-in_err-judge
returns-in_err-judge c ms st =
    rw (err_is _ _ c.from_residual.ensures.1) (name_no c.args.words.now c.args.area.now c.args.at c.args.l ms st
    c.in_err-judge.ensures
    c.in_range-range.ensures
    c.repeated-old.ensures
    refl
    (refusal_some _))

pub link-requires : goal.link-requires
link-requires c =
    let r = names_room c.args.l.names _ _ c.in_ok-judge.ensures refl in
    let h = key_small _ c.name_key-key.ensures in
    let e = length-set c.args.area.now c.args.l.names c.args.at in
    let f = c.requires.room in
    (omega arith, omega arith, omega arith)

pub returns : goal.returns
returns c ms st =
    name_on_lem c.args.words.now c.args.area.now c.args.at c.args.l ms st
    c.in_ok-judge.ensures
    c.in_range-range.ensures
    c.repeated-old.ensures
    refl
    refl c.requires.room
    (ap (λ x. c.args.at + 1 + x) (c.text_words.ensures ∙ ap words_of c.payload.ensures)) c.requires.fits
    c.name_key-key.ensures
    c.link.ensures
