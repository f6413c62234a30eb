use Rattle.std.proofs.Common.{◌<◌, subst, arith}
use Rattle.lookups.proofs.asked.Asked.visible.Goals as goal
use Rattle.lookups.proofs.asked.Asked.visible.Goals.{then-kind-gt1+in_ok-module, else-kind-gt1}

pub seen-requires : goal.seen-requires
seen-requires c =
    let l = c.args.self.now.db.records.layout in (
      c.in_ok-viewer.ensures.1,
      λ h.
          elim c.if-kind-gt1.branch [
            | then-kind-gt1+in_ok-module w ↦ subst (λ n. n < l.modules) w.in_ok-module.ensures.0 w.in_ok-module.ensures.1
            | else-kind-gt1 w ↦ absurd (omega (arith, h, w.if-kind-gt1.false))
          ],
    )
