use Rattle.std.proofs.Common.{rules}
use Rattle.snapshot.specs.Limits.{area_limit}
use Rattle.edits.specs.Edits.{Opens}
use Rattle.edits.proofs.Laws.{opens_by}
use Rattle.edits.proofs.opened.Goals as goal

pub returns : goal.returns
returns c =
    let s = c.args in
    let f = c.in_front.ensures in
    record {
      opens =
          opens_by s.words.now s.count _ _ f.small
          (λ h. let d = f.done h in let k : Opens s.words.now s.count area_limit c.in_front.result = search rules in k);
      area_after = f.cleared;
    }
