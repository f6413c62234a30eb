use mathlib.Core.Path.{sym, ap, ◌∙◌}
use Rattle.snapshot.specs.Records.{scope_at}
use Rattle.find_path_rules.specs.rule_lookups.Tests.{test_of}
use Rattle.accept.specs.Opened.{snap_in}
use Rattle.find_path_rules.proofs.rule_lookups.passes.Goals as goal

pub returns-in-Prelude : goal.returns-in-Prelude
unfolding test_of
returns-in-Prelude c =
    c.is_usable.ensures
    ∙ sym (ap (λ r. test_of (snap_in c.args.db.now) c.args.x c.args.item r
    (scope_at c.args.db.now.records.words.now c.args.h)) c.in-Prelude.is)

pub returns-in-Local : goal.returns-in-Local
unfolding test_of
returns-in-Local c =
    c.is_importable.ensures
    ∙ sym (ap (λ r. test_of (snap_in c.args.db.now) c.args.x c.args.item r
    (scope_at c.args.db.now.records.words.now c.args.h)) c.in-Local.is)
