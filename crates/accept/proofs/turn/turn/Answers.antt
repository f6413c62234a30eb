use mathlib.Core.Path.{refl, sym, ◌∙◌}
use native.Mathlib.Omega.{arith}
use Rattle.snapshot.specs.Layouts.{snap_with}
use Rattle.snapshot.proofs.KindLaws.{kind_known}
use Rattle.accept.proofs.Turns.{turn_kind, turn_arguments, turn_on, follows_none, stands_up, arguments_few, ready_for, answers_at}
use Rattle.accept.proofs.turn.turn.Goals as goal

pub returns-in_default : goal.returns-in_default
returns-in_default c ms st =
    turn_kind c.args.words.now c.args.at c.args.last (snap_with c.args.words.now c.args.area.now c.args.l ms)
    c.kind.ensures (follows_none _ _ (sym c.of.ensures ∙ c.in_default.is))

pub returns-then-not-follows : goal.returns-then-not-follows
returns-then-not-follows c ms st =
    turn_kind c.args.words.now c.args.at c.args.last (snap_with c.args.words.now c.args.area.now c.args.l ms)
    (sym (kind_known _ (sym c.of.ensures ∙ c.in-Some.is)) ∙ c.kind.ensures) (sym c.follows.ensures ∙ c.if-not-follows.true)

pub arguments_from-requires : goal.arguments_from-requires
arguments_from-requires c =
    let h = arguments_few c.args.words.now c.args.at _ c.arguments-n.ensures in
    let g = c.requires.here in
    let f = c.requires.short in
    omega arith

pub returns-then-not-arguments_from : goal.returns-then-not-arguments_from
returns-then-not-arguments_from c ms st =
    turn_arguments c.args.words.now c.args.at c.args.last (snap_with c.args.words.now c.args.area.now c.args.l ms)
    (sym (kind_known _ (sym c.of.ensures ∙ c.in-Some.is)) ∙ c.kind.ensures) (sym c.follows.ensures
    ∙ c.if-not-follows.false) c.arguments-n.ensures (sym c.arguments_from.ensures ∙ c.if-not-arguments_from.true)

pub by_kind-requires : goal.by_kind-requires
by_kind-requires c = record {
  ready = ready_for c.args.words.now c.args.area.now c.args.l c.args.at _ c.requires c.arguments-n.ensures
      (sym c.arguments_from.ensures ∙ c.if-not-arguments_from.false);
  of_kind = sym (kind_known _ (sym c.of.ensures ∙ c.in-Some.is)) ∙ c.kind.ensures;
}

pub returns : goal.returns
returns c ms st =
    let f = sym c.follows.ensures
    ∙ c.if-not-follows.false in
    answers_at c.args.words.now c.by_kind.new.area c.by_kind.result
    (sym (sym (kind_known _ (sym c.of.ensures ∙ c.in-Some.is)) ∙ c.kind.ensures)) refl
    (turn_on c.args.words.now c.args.at c.args.last (snap_with c.args.words.now c.args.area.now c.args.l ms)
    (sym (kind_known _ (sym c.of.ensures ∙ c.in-Some.is)) ∙ c.kind.ensures) f
    c.arguments-n.ensures
    (sym c.arguments_from.ensures ∙ c.if-not-arguments_from.false))
    (c.by_kind.ensures ms (stands_up c.args.words.now c.args.area.now c.args.at c.args.l ms
    c.args.last _ f st))
