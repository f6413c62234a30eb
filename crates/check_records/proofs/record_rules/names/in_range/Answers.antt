use Rattle.check_records.proofs.record_rules.Laws.{range_is}
use Rattle.check_records.proofs.record_rules.names.in_range.Goals as goal

pub returns : goal.returns
returns c =
    range_is c.args.words.now c.args.at c.payload-bytes.ensures c.text_words-n.ensures c.padded-clean.ensures
