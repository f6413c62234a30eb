use Prim.Native.Nat.{◌+◌, ◌-◌, ◌/◌}
use mathlib.Core.Path.{◌≡◌, refl, ◌∙◌}
use native.Mathlib.Omega.{arith}
use borrow.Author.Rules.{rules}
use borrow.Rule.Slice.PartMut.{mid_len}
use Rattle.record_index.proofs.Chaining.{cleared_all}
use Rattle.record_index.proofs.chains.clear_heads.Goals as goal

pub returns : goal.returns
returns c =
    let a = c.args.heads / 2 in
    let b = (c.args.heads + c.args.keys) / 2 in
    let r = c.requires.room in
    let e : b - a ≡ c.args.keys / 2 = omega (arith, c.requires.whole.0, c.requires.whole.1) in
    cleared_all c.args.area.now _ c.args.heads c.args.keys c.args.end _ _ c.requires.whole.0 c.requires.whole.1 e
    (mid_len a b c.args.area.now (omega (arith, r.fits)) ∙ e) (c.fill.ensures.after (λ y q. search rules)) r.few r.from (omega (arith, r.fits))
