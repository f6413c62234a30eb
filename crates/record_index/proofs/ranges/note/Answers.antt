use Prim.Native.Nat.{ℕ, ◌+◌}
use mathlib.Core.Path.{sym, subst}
use mathlib.Core.List.{List}
use lib.ListN.{set}
use Rattle.snapshot.specs.Limits.{crate_limit}
use Rattle.record_index.specs.Post.{Noted}
use Rattle.record_index.proofs.Ranging.{noted_some, noted_none}
use Rattle.record_index.proofs.ranges.note.Goals as goal
use Rattle.record_index.proofs.ranges.note.Goals.{then-word-eq0, else-word-eq0}

pub returns : goal.returns
returns c =
    let A = c.args.area.now in
    let at = c.args.at in
    let o = c.args.c.0 in
    let k = c.args.k in
    let Q = λ (Z : List ℕ). Noted A at o k (set Z (at + crate_limit + o) (k + 1)) in
    elim c.if-word-eq0.branch [
      | then-word-eq0 w ↦ subst Q (sym w.area-is) (noted_none A at o k c.requires.0 c.requires.1 c.word.ensures w.if-word-eq0.true)
      | else-word-eq0 w ↦ subst Q (sym w.area-is) (noted_some A at o k c.requires.0 c.requires.1 c.word.ensures w.if-word-eq0.false)
    ]
