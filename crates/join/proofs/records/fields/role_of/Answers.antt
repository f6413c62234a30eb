use mathlib.Core.Path.{sym, ap, ◌∙◌}
use Rattle.snapshot.proofs.KindLaws.{kind_known}
use Rattle.join.specs.records.Moves.{role_of}
use Rattle.join.proofs.records.Roles.{role_far, role_none, role_given}
use Rattle.join.proofs.records.fields.role_of.Goals as goal

pub returns-in_default : goal.returns-in_default
returns-in_default c = role_none _ _ (sym c.of.ensures ∙ c.in_default.is)

pub returns : goal.returns
returns c =
    role_given _ _ _ _ c.roles-all.ensures.0 c.roles-all.ensures.1 c.if-i-ge8.false
    ∙ ap (λ k. role_of k c.args.i) (sym (kind_known _ (sym c.of.ensures ∙ c.in-Some.is)))

pub returns-then-i-ge8 : goal.returns-then-i-ge8
returns-then-i-ge8 c = role_far _ _ c.if-i-ge8.true
