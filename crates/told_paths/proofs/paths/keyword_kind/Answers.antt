use Rattle.told_paths.proofs.Unwound.{kind_crate, kind_self, kind_super}
use Rattle.told_paths.proofs.paths.keyword_kind.Goals as goal

pub returns-then-n-eq0 : goal.returns-then-n-eq0
returns-then-n-eq0 c = kind_crate _ c.if-n-eq0.true

pub returns-then-n-eq1 : goal.returns-then-n-eq1
returns-then-n-eq1 c = kind_self _ c.if-n-eq1.true

pub returns : goal.returns
returns c = kind_super _ c.if-n-eq0.false c.if-n-eq1.false
