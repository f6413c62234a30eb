use Rattle.find_path_choice.proofs.ChoiceLaws.{keyword_same}
use Rattle.find_path_choice.proofs.choices.keyword.Goals as goal

pub returns : goal.returns
returns c = keyword_same c.args.kind c.path_kind_len-text.ensures.0
