use Rattle.check_records.proofs.chains.Laws.{key_is}
use Rattle.check_records.proofs.chains.keys.name_key.Goals as goal

pub returns : goal.returns
returns c =
    key_is c.args.words.now c.args.at c.payload-bytes.ensures c.text_words.ensures c.mix.ensures
