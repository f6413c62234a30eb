use Rattle.find_path.proofs.search_parts.Parts.{langs_first, langs_other}
use Rattle.find_path.proofs.search_parts.langs_for.Goals as goal

pub returns-then-nostd : goal.returns-then-nostd
returns-then-nostd c = langs_first c.args.nostd c.if-nostd.true

pub returns : goal.returns
returns c = langs_other c.args.nostd c.if-nostd.false
