use Prim.Native.Nat.{◌-◌}
use mathlib.Core.Path.{◌≡◌, refl, ◌∙◌}
use native.Mathlib.Omega.{arith}
use lib.ListN.{length, take, drop, length-take, length-drop}
use Rattle.join.proofs.numbers.Finding.{name_hit, name_miss, name_end, names_whole, part_first}
use Rattle.join.proofs.numbers.places.place_of_name.Goals as goal

pub loop-k-init : goal.loop-k-init
loop-k-init c = (omega arith, omega arith, names_whole _ _ _)

pub known-requires : goal.known-requires
known-requires c = (omega arith, simp (length-take, length-drop) (omega arith))

pub returns-then-known : goal.returns-then-known
returns-then-known c =
    let l = c.loop-k in
    let g = c.args in
    let m = g.area.now in
    name_hit g.first.now g.second.now m g.n.0 l.at l.k g.count _ l.invariant.2
    (take (length m - g.n.0) (drop g.n.0 m)) (omega arith) c.known.ensures
    (part_first m g.n.0 (length m - g.n.0) c.requires.1 refl) c.if-known.true

pub loop-k-preserved : goal.loop-k-preserved
loop-k-preserved c =
    let l = c.loop-k in
    let g = c.args in
    let m = g.area.now in
    let z = c.text_words.ensures in
    let b = c.payload.ensures in (
      omega arith,
      omega arith,
      name_miss g.first.now g.second.now m g.n.0 l.at l.k g.count _ l.invariant.2
          (take (length m - g.n.0) (drop g.n.0 m)) (omega arith) c.known.ensures
          (part_first m g.n.0 (length m - g.n.0) c.requires.1 refl) c.if-known.false b z,
    )

pub returns : goal.returns
returns c =
    let l = c.loop-k in
    let g = c.args in
    let e : g.count ≡ l.k = omega arith in
    e ∙ name_end g.first.now g.second.now g.area.now g.n.0 l.at l.k g.count _ l.invariant.2 (omega arith)
