use mathlib.Core.Path.{sym, ap, ◌∙◌}
use Rattle.hir_def.specs.ItemScope.{name_of, name_reads, preferred, preferred_reads}
use Rattle.find_path_rules.specs.rule_lookups.Tests.{test_of}
use Rattle.accept.specs.Opened.{snap_in}
use Rattle.find_path_rules.proofs.rule_lookups.entry_by.Goals as goal

pub returns-then-x : goal.returns-then-x
returns-then-x c =
    let n = snap_in c.args.db.now in
    let m = c.args.m.0 in
    let i = c.args.item in (
      c.fresh_of.ensures.0 ∙ sym (ap (λ t. preferred t n m i (test_of n c.args.x c.args.item c.args.rule) (name_of n m i))
          c.if-x.true),
      c.fresh_of.ensures.1 _
          ∙ sym (ap (λ t. preferred_reads t n m i (test_of n c.args.x c.args.item c.args.rule) (name_reads n m i)) c.if-x.true),
    )

pub returns : goal.returns
unfolding preferred preferred_reads
returns c =
    let n = snap_in c.args.db.now in
    let m = c.args.m.0 in
    let i = c.args.item in (
      c.name_of.ensures.0 c.args.db.now.area.now
          ∙ sym (ap (λ t. preferred t n m i (test_of n c.args.x c.args.item c.args.rule) (name_of n m i)) c.if-x.false),
      c.name_of.ensures.1 c.args.db.now.area.now
          ∙ sym (ap (λ t. preferred_reads t n m i (test_of n c.args.x c.args.item c.args.rule) (name_reads n m i)) c.if-x.false),
    )
