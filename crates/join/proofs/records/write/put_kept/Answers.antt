use mathlib.Core.Bool.{not}
use mathlib.Core.Path.{ap}
use mathlib.Core.Path.{sym}
use Rattle.join.proofs.records.Laws.{wrote_none, wrote_as, space_as, kept_not, kept_is}
use Rattle.join.proofs.records.write.put_kept.Goals as goal

pub returns-then-not-is_kept : goal.returns-then-not-is_kept
returns-then-not-is_kept c =
    wrote_none (kept_not c.args.second.now.area.now c.args.second.now.first c.args.second.now.words.now c.args.at c.args.n c.is_kept.ensures
    (ap not c.if-not-is_kept.true))

pub put_record-requires : goal.put_record-requires
put_record-requires c =
    space_as c.requires (sym (kept_is c.args.second.now.area.now c.args.second.now.first c.args.second.now.words.now c.args.at c.args.n
    c.is_kept.ensures (ap not c.if-not-is_kept.false)))

pub returns : goal.returns
returns c =
    wrote_as c.put_record.ensures (kept_is c.args.second.now.area.now c.args.second.now.first c.args.second.now.words.now c.args.at
    c.args.n c.is_kept.ensures (ap not c.if-not-is_kept.false))
