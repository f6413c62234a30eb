use mathlib.Core.Path.{refl}
use native.Mathlib.Omega.{arith}
use Rattle.imports.proofs.lists.Threading.{gathering_start, gathering_skip, gathering_take, gathering_done}
use Rattle.imports.proofs.lists.threads.gather.Goals as goal
use Rattle.imports.proofs.lists.threads.gather.Goals.{then-scope_visibility-eq0, else-scope_visibility-eq0}

pub loop-k-init : goal.loop-k-init
loop-k-init c = gathering_start _ _ _ _

pub loop-k-preserved : goal.loop-k-preserved
loop-k-preserved c =
    elim c.if-scope_visibility-eq0.branch [
      | then-scope_visibility-eq0 w ↦ rw (w.area-is, w.n-is) (gathering_take c.loop-k.invariant c.loop-k-test.true c.scope_visibility.ensures
          c.requires.size (omega (arith, c.requires.reads.tables.whole, c.requires.reads.tables.short)) w.if-scope_visibility-eq0.true refl)
      | else-scope_visibility-eq0 w ↦ rw (w.area-is, w.n-is) (gathering_skip c.loop-k.invariant c.loop-k-test.true c.scope_visibility.ensures
          w.if-scope_visibility-eq0.false)
    ]

pub returns : goal.returns
returns c = gathering_done _ c.loop-k.invariant c.scope_base-base.ensures refl c.loop-k-test.false
