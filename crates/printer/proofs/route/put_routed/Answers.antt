use Rattle.printing.proofs.Laws.{put_as, put_two}
use Rattle.printer.proofs.route.Laws.{routed_whole}
use Rattle.accept.specs.Opened.{snap_in}
use Rattle.printer.proofs.route.put_routed.Goals as goal

pub returns : goal.returns
returns c =
    let s = c.args in
    put_as (routed_whole (snap_in s.db.now) s.from.0 s.r)
    (put_two (put_two c.put_bare-a.ensures.put
    c.put_route-b.ensures.put) c.put.ensures)
