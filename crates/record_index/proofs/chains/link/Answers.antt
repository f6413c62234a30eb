use Prim.Native.Nat.{◌+◌}
use mathlib.Core.Path.{subst}
use Rattle.record_index.specs.Post.{Put}
use Rattle.record_index.proofs.Chaining.{linked}
use Rattle.record_index.proofs.chains.link.Goals as goal

pub returns : goal.returns
returns c =
    let A = c.args.area.now in
    linked A c.put_half.new.area c.put_half-2.new.area c.args.heads c.args.keys c.args.links c.args.key c.args.k c.requires.0.apart c.requires.1
    (subst (λ v. Put A (c.args.links + c.args.k) v c.put_half.new.area) c.half-first.ensures.0 c.put_half.ensures) c.put_half-2.ensures
