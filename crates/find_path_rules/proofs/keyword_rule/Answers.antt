use mathlib.Core.Path.{sym, ap, ◌∙◌}
use mathlib.Core.Bool.{not, ◌||◌}
use lib.Dec.{eqb}
use Rattle.std.specs.Prelude.{option_map}
use Rattle.snapshot.specs.PathKinds.{path_kind_number}
use Rattle.find_path_choice.specs.Choices.{keyword}
use Rattle.find_path_choice.specs.Given.{given}
use Rattle.find_path_rules.proofs.RuleLaws.{kind_number, kind_crate, keyword_none, keyword_taken, keyword_left}
use Rattle.accept.specs.Opened.{snap_in}
use Rattle.find_path_rules.proofs.keyword_rule.Goals as goal

pub returns-in_err-kind : goal.returns-in_err-kind
returns-in_err-kind c =
    let n = snap_in c.args.db.now in
    ap given c.from_residual.ensures ∙ keyword_none n c.args.x c.is_kw_kind_relative_to_from.ensures
    (ap (option_map path_kind_number) c.in_err-kind.was)

pub returns-then-x-eq : goal.returns-then-x-eq
returns-then-x-eq c =
    let n = snap_in c.args.db.now in
    c.keyword.ensures ∙ ap keyword (kind_number c.in_ok-kind.kind) ∙ keyword_taken n c.args.x _ c.is_kw_kind_relative_to_from.ensures
    (ap (option_map path_kind_number) c.in_ok-kind.was)
    (ap (λ b. not (eqb c.args.x.prefix 2) || b) (sym (c.eq.ensures ∙ kind_crate c.in_ok-kind.kind)) ∙ c.if-x-eq.true)

pub returns : goal.returns
returns c =
    let n = snap_in c.args.db.now in
    keyword_left n c.args.x _ c.is_kw_kind_relative_to_from.ensures
    (ap (option_map path_kind_number) c.in_ok-kind.was)
    (ap (λ b. not (eqb c.args.x.prefix 2) || b) (sym (c.eq.ensures ∙ kind_crate c.in_ok-kind.kind)) ∙ c.if-x-eq.false)
