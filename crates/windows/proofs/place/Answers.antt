use Rattle.check_rules.proofs.Exits.{err_is}
use Rattle.windows.proofs.place.Goals as goal

pub returns-in_err-windows : goal.returns-in_err-windows
returns-in_err-windows c =
    rw (err_is _ _ c.from_residual.ensures.1) c.in_err-windows.ensures
