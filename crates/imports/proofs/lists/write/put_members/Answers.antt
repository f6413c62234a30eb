use Prim.Native.Nat.{◌+◌, ◌-◌, ◌*◌, ◌<◌}
use mathlib.Core.Path.{refl, sym, ◌∙◌, ap}
use native.Mathlib.Omega.{arith}
use lib.ListN.{get_or}
use Rattle.snapshot.specs.Records.{scope_at}
use Rattle.imports.proofs.lists.Writing.{space_first, space_as, wrote_as, going_start, going_next, going_done, kept_end}
use Rattle.imports.proofs.lists.Writing.{kept_first, kept_next, member_bounded}
use Rattle.imports.proofs.lists.write.put_members.Goals as goal

pub loop-k-init : goal.loop-k-init
loop-k-init c =
    let a = ap (λ b. get_or c.args.db.now.area.now (b + c.scope_definition-d.result.0) 0) c.member_heads_base.ensures in
    let q = kept_first c.requires.listed c.scope_definition-d.ensures (c.word-k.ensures ∙ a) in
    (q.1, going_start (space_as c.requires.space (sym q.0)))

pub put_member-t-requires : goal.put_member-t-requires
put_member-t-requires c = let some : 0 < c.loop-k.k = omega (arith, c.loop-k-test.true) in
    let at = ap (λ b. b + 5 * (c.args.db.now.records.layout.members - c.loop-k.k)) c.member_base-base.ensures in record {
      bounded = member_bounded c.requires.listed c.loop-k.invariant.0 some at;
      space = space_first c.loop-k.invariant.1.space
          (kept_next c.requires.listed c.loop-k.invariant.0 some at refl).0;
    }

pub loop-k-smaller : goal.loop-k-smaller
loop-k-smaller c =
    let some : 0 < c.loop-k.k = omega (arith, c.loop-k-test.true) in
    let at = ap (λ b. b + 5 * (c.args.db.now.records.layout.members - c.loop-k.k)) c.member_base-base.ensures in
    let e = ap (λ b. get_or c.args.db.now.area.now (b + (c.loop-k.k - 1)) 0) c.member_links_base-links.ensures in
    (kept_next c.requires.listed c.loop-k.invariant.0 some at (c.word-k-in-loop-k.ensures ∙ e)).1

pub loop-k-preserved : goal.loop-k-preserved
loop-k-preserved c =
    let some : 0 < c.loop-k.k = omega (arith, c.loop-k-test.true) in
    let at = ap (λ b. b + 5 * (c.args.db.now.records.layout.members - c.loop-k.k)) c.member_base-base.ensures in
    let e = ap (λ b. get_or c.args.db.now.area.now (b + (c.loop-k.k - 1)) 0) c.member_links_base-links.ensures in
    let q = kept_next c.requires.listed c.loop-k.invariant.0 some at (c.word-k-in-loop-k.ensures ∙ e) in
    let h = q.1 in
    (omega arith, going_next c.loop-k.invariant.1 q.0 c.put_member-t.ensures)

pub returns : goal.returns
returns c =
    let a = ap (λ b. get_or c.args.db.now.area.now (b + c.scope_definition-d.result.0) 0) c.member_heads_base.ensures in
    let q = kept_first c.requires.listed c.scope_definition-d.ensures (c.word-k.ensures ∙ a) in
    wrote_as (going_done c.loop-k.invariant.1 (kept_end c.args.db.now.records.words.now c.args.db.now.records.layout c.args.c.0
    (scope_at c.args.db.now.records.words.now c.args.entry) c.loop-k.k c.loop-k-test.false)) q.0
