use Prim.Native.Nat.{ℕ}
use mathlib.Core.Path.{◌≡◌, sym, ap, ◌∙◌}
use mathlib.Core.Bool.{Bool}
use native.Mathlib.Omega.{arith}
use Rattle.std.specs.Prelude.{Option}
use Rattle.snapshot.specs.Records.{Snapshot, Scope}
use Rattle.hir_def.specs.Items.{types, block_of}
use Rattle.hir_def.specs.ItemScope.{get}
use Rattle.hir_def.specs.Nameres.{is_other, ancestor_maps, occupied}
use Rattle.hir_def.proofs.Searches.{block_down}
use Rattle.hir_def.proofs.Climbs.{some_number, none_number}
use Rattle.hir_def.proofs.Ancestors.{any_here, any_end, any_on}
use Rattle.accept.specs.Opened.{snap_in}
use Rattle.hir_def.proofs.nameres.occupied.Goals as goal

-- whether the module's entry of the name is another thing's
abbrev at : Snapshot → ℕ → ℕ → ℕ → Bool
at s m name a = is_other s m (get s a types name)

-- what is read of the entry that is found
read : (s : Snapshot) (m name a : ℕ) {e : Option Scope} {b r : Bool} → e ≡ get s a types name → b ≡ is_other s m e → b ≡ r → at s m name a ≡ r
read s m name a p q t = ap (is_other s m) (sym p) ∙ sym q ∙ t

pub returns-then-is_other : goal.returns-then-is_other
unfolding occupied ancestor_maps
returns-then-is_other c =
    let g = c.loop-m in
    let S = snap_in c.args.db.now in
    let A = c.args.db.now.area.now in
    any_here (block_of S) _ (block_down c.args.db.now.reads) g.a.0 g.invariant.1 (at S c.args.m.0 c.args.name.0)
    (read S _ _ g.a.0 (c.get-e.ensures A) (c.is_other.ensures A) c.if-is_other.true) ∙ sym g.invariant.0

pub returns-in_default : goal.returns-in_default
unfolding occupied ancestor_maps
returns-in_default c =
    let g = c.loop-m in
    let S = snap_in c.args.db.now in
    let A = c.args.db.now.area.now in
    any_end (block_of S) _ (block_down c.args.db.now.reads) g.a.0 g.invariant.1 (at S c.args.m.0 c.args.name.0)
    (read S _ _ g.a.0 (c.get-e.ensures A) (c.is_other.ensures A) c.if-is_other.false)
    (none_number _ c.block.ensures c.in_default.is) ∙ sym g.invariant.0

pub loop-m-smaller : goal.loop-m-smaller
loop-m-smaller c =
    block_down c.args.db.now.reads c.loop-m.a.0 _ c.loop-m.invariant.1 (some_number _ c.block.ensures c.in-Some.is)

pub loop-m-preserved : goal.loop-m-preserved
unfolding occupied ancestor_maps
loop-m-preserved c =
    let g = c.loop-m in
    let S = snap_in c.args.db.now in
    let A = c.args.db.now.area.now in
    let next = some_number _ c.block.ensures c.in-Some.is in
    let d = block_down c.args.db.now.reads g.a.0 _ g.invariant.1 next in
    let k = g.invariant.1 in (
      g.invariant.0 ∙ any_on (block_of S) _ (block_down c.args.db.now.reads) g.a.0 k (at S c.args.m.0 c.args.name.0)
          (read S _ _ g.a.0 (c.get-e.ensures A) (c.is_other.ensures A) c.if-is_other.false) _ next,
      omega (arith, d, k),
    )
