-- An item as a word: the same word is the same item.
use Prim.Native.Nat.{ℕ, ◌+◌, ◌*◌, ◌/◌, ◌%◌}
use mathlib.Core.Path.{◌≡◌, refl, sym, ap}
use mathlib.Core.Bool.{Bool, true, false, ◌&&◌}
use native.Mathlib.Omega.{arith}
use lib.Dec.{eqb}
use borrow.Author.Tests.{eq-eqb, ne_eqb, eqb-true, eqb-false}
use Rattle.accept.proofs.Accepted.{by_test}
use Rattle.hir_def.specs.Items.{same_item, defined_item, module_item}
use Rattle.hir_def.specs.declared.Item.{Item}
use Rattle.hir_def.specs.declared.Item.TheVariants.{Mod, Def}
use Rattle.find_path_levels.specs.Levels.{Small, code_of, item_by, item_at}

-- two tests that hold together
both : (b c : Bool) → (b ≡ true → c ≡ true) → (c ≡ true → b ≡ true) → b ≡ c
both true c f g = sym (f refl)
both false true f g = g refl
both false false f g = refl

-- the item of a word is the item, or another
module _ (w : ℕ) where
  code_same : (item : Item) → Small item → (b : Bool) → eqb (w % 4) 3 ≡ b → same_item (item_by w b) item ≡ eqb w (code_of item)
  unfolding same_item item_by code_of
  code_same (Mod m) h true e =
      let r = eqb-true (w % 4) 3 e in
      both (eqb (w / 4) m.0) (eqb w (4 * m.0 + 3)) (λ t. eq-eqb w (4 * m.0 + 3) (let q = eqb-true (w / 4) m.0 t in omega arith))
      (λ t. eq-eqb (w / 4) m.0 (let q = eqb-true w (4 * m.0 + 3) t in omega arith))
  code_same (Mod m) h false e = let r = eqb-false (w % 4) 3 e in sym (ne_eqb w (4 * m.0 + 3) (λ q. r (omega arith)))
  code_same (Def ns d) h true e =
      let r = eqb-true (w % 4) 3 e in
      let k = h.1 in
      sym (ne_eqb w (4 * d.0 + ns.0) (λ q. omega arith))
  code_same (Def ns d) h false e = by_test (eqb (w % 4) ns.0) (λ t. here (eqb-true (w % 4) ns.0 t)) (λ t. there (eqb-false (w % 4) ns.0 t))
    where
      here : w % 4 ≡ ns.0 → (eqb (w % 4) ns.0 && eqb (w / 4) d.0) ≡ eqb w (4 * d.0 + ns.0)
      here q =
          rw (eq-eqb _ _ q)
          (both (eqb (w / 4) d.0) (eqb w (4 * d.0 + ns.0)) (λ t. eq-eqb w (4 * d.0 + ns.0) (let p = eqb-true (w / 4) d.0 t in omega arith))
          (λ t. eq-eqb (w / 4) d.0 (let p = eqb-true w (4 * d.0 + ns.0) t in let k = h.1 in omega arith)))

      there : (w % 4 ≡ ns.0 → ⊥) → (eqb (w % 4) ns.0 && eqb (w / 4) d.0) ≡ eqb w (4 * d.0 + ns.0)
      there q = rw (ne_eqb _ _ q) (sym (ne_eqb w (4 * d.0 + ns.0) (λ p. q (let k = h.1 in omega arith))))

  pub code_item : (item : Item) → Small item → same_item (item_at w) item ≡ eqb w (code_of item)
  code_item item h = code_same item h (eqb (w % 4) 3) refl

code_back : (item : Item) (w : ℕ) (b : Bool) → Small item → w ≡ code_of item → eqb (w % 4) 3 ≡ b → item_by w b ≡ item
unfolding item_by code_of
code_back (Mod m) w true h e t = let q : w / 4 ≡ m.0 = omega arith in ap module_item q
code_back (Mod m) w false h e t = absurd (eqb-false (w % 4) 3 t (omega arith))
code_back (Def ns d) w true h e t = let r = eqb-true (w % 4) 3 t in let k = h.1 in absurd (omega arith)
code_back (Def ns d) w false h e t =
    let k = h.1 in
    let q : w / 4 ≡ d.0 = omega arith in
    let r : w % 4 ≡ ns.0 = omega arith in
    λ i. defined_item (r i) (q i)

-- the word of an item gives the item back
pub item_back : (item : Item) {w : ℕ} → Small item → w ≡ code_of item → item_at w ≡ item
item_back item {w} h e = code_back item w (eqb (w % 4) 3) h e refl
