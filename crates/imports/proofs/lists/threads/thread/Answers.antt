use native.Mathlib.Omega.{arith}
use Rattle.imports.proofs.order.Merges.{runs_ready}
use Rattle.imports.proofs.lists.Threading.{scopes_few, entries_required, members_required, threaded_all}
use Rattle.imports.proofs.lists.threads.thread.Goals as goal

pub sort-requires : goal.sort-requires
sort-requires c =
    let g = c.gather-n.ensures in
    let q = (scopes_few c.requires).0 in
    let f = g.few in
    (runs_ready c.requires g.frame (omega arith), omega arith, omega arith)

pub thread_entries-requires : goal.thread_entries-requires
thread_entries-requires c =
    let t = (
    entries_required c.requires c.gather-n.ensures
    c.sort.ensures (rw c.member_links_base.ensures at c.clear.ensures)
    c.clear.auto.area) in
    record { area_len = t.0.1; by_index = t.1 }

pub thread_members-requires : goal.thread_members-requires
thread_members-requires c =
    let t = (
    members_required c.requires
    c.gather-n.ensures
    c.sort.ensures
    (rw c.member_links_base.ensures at c.clear.ensures) c.clear.auto.area
    c.thread_entries.ensures) in
    record { area_len = (t.0.1, t.0.2); by_index = t.1 }

pub returns : goal.returns
returns c = threaded_all
    c.requires
    c.gather-n.ensures
    c.sort.ensures
    (rw c.member_links_base.ensures at c.clear.ensures)
    c.clear.auto.area
    c.thread_entries.ensures c.thread_members.ensures
