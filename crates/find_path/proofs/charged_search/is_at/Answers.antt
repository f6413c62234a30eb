use mathlib.Core.Path.{refl, ◌∙◌}
use native.Mathlib.Omega.{arith}
use Rattle.snapshot.specs.Ids.{plus_one}
use Rattle.hir_def.proofs.Climbs.{some_number, none_number}
use Rattle.find_path.proofs.charged_search.Parts.{at_none, at_some}
use Rattle.accept.specs.Opened.{snap_in}
use Rattle.find_path.proofs.charged_search.is_at.Goals as goal

pub returns-in_default : goal.returns-in_default
returns-in_default c =
    let a = c.args in
    at_none (snap_in a.db.now) (plus_one a.home) a.c.0 (none_number _ refl c.in_default.is)

pub krate-requires : goal.krate-requires
krate-requires c = omega (arith, some_number _ refl c.in-Some.is, c.requires)

pub returns : goal.returns
returns c =
    let a = c.args in
    c.eq.ensures ∙ at_some (snap_in a.db.now) (plus_one a.home) a.c.0
    (some_number _ refl c.in-Some.is) c.krate.ensures
