-- Laws of what is set for a question, and of charges, for the code.
use Prim.Native.Nat.{ℕ, zero, suc, ◌+◌, ◌-◌}
use mathlib.Core.Path.{◌≡◌, refl, sym, ◌∙◌, ap}
use mathlib.Core.Bool.{Bool, true, false, ◌||◌}
use native.Mathlib.Omega.{arith}
use borrow.Author.Tests.{eq-eqb, ne_eqb}
use lib.Dec.{eqb}
use Rattle.snapshot.specs.Records.{Snapshot}
use Rattle.hir_def.specs.Items.{map_no, map_of, crate_of, crate_data, in_block, crate_root, is_lang, item_of, defined_item, module_item}
use Rattle.hir_def.specs.declared.Item.{Item}
use Rattle.find_path_spec.specs.declared.Tank.{Tank}
use Rattle.find_path_spec.specs.declared.FindPathCtx.{FindPathCtx}
use Rattle.find_path_spec.specs.declared.Query.{Query}
use Rattle.find_path_spec.specs.Rules.{bit, plain_if, module_in, context_of, sought_of}
use Rattle.find_path_spec.specs.Meters.{go, stop, drained, draw, from_tank}

-- what is set, part by part
module _ (s : Snapshot) (q : Query) (home : ℕ) {i a b z b₁ b₂ b₃ b₄ b₅ b₆ : Bool} {p c d r o : ℕ} where
  pub context_same : o ≡ module_in (item_of s q.ns q.definition.0) → i ≡ in_block s home → p ≡ plain_if i q.prefix → c ≡ crate_of s q.from.0
      → a ≡ eqb (map_of s (map_no s q.from.0)).no_std 1 → b ≡ eqb (crate_data s c).no_std 1
      → b₁ ≡ bit q.options 1 → b₂ ≡ bit q.options 2 → b₃ ≡ bit q.options 4 → b₄ ≡ bit q.options 8 → b₅ ≡ bit q.options 16
      → b₆ ≡ bit q.options 32
      → d ≡ crate_of s home → z ≡ is_lang s d → r ≡ crate_root s q.from.0
      → ◌≡◌ {A = FindPathCtx}
      (record {
        prefix = p;
        prefer_no_std = b₁ || (a || b);
        prefer_prelude = b₂;
        prefer_absolute = b₃;
        allow_unstable = b₄;
        ignore_local_imports = b₅;
        fresh = b₆;
        is_std_item = z;
        from = q.from;
        from_crate = record { 0 = c };
        crate_root = record { 0 = r };
        own = o;
        max_len = q.limit;
      })
      (context_of s q home)
  unfolding context_of
  context_same eo ei ep ec ea eb e₁ e₂ e₃ e₄ e₅ e₆ ed ez er =
      let kp = ep ∙ ap (λ t. plain_if t q.prefix) ei in
      let kb = eb ∙ ap (λ k. eqb (crate_data s k).no_std 1) ec in
      let kz = ez ∙ ap (is_lang s) ed in
      λ j.
      record {
        prefix = kp j;
        prefer_no_std = e₁ j || (ea j || kb j);
        prefer_prelude = e₂ j;
        prefer_absolute = e₃ j;
        allow_unstable = e₄ j;
        ignore_local_imports = e₅ j;
        fresh = e₆ j;
        is_std_item = kz j;
        from = q.from;
        from_crate = record { 0 = ec j };
        crate_root = record { 0 = er j };
        own = eo j;
        max_len = q.limit;
      }

pub plain_block : (b : Bool) (p : ℕ) → b ≡ true → 1 ≡ plain_if b p
unfolding plain_if
plain_block b p e = sym (ap (λ t. plain_if t p) e)

pub plain_other : (b : Bool) (p : ℕ) → b ≡ false → p ≡ plain_if b p
unfolding plain_if
plain_other b p e = sym (ap (λ t. plain_if t p) e)

-- a charge by the fuel

pub charge_stops : (left sought : ℕ) (t u : Tank) → u ≡ drained left sought t t.empty → t.fuel ≡ 0 → stop u ≡ from_tank left sought t
unfolding from_tank draw
charge_stops left sought t u e h = ap stop e ∙ ap (draw left sought t) (sym h)

draw_goes : (left sought : ℕ) (t : Tank) (f : ℕ) → (f ≡ 0 → ⊥)
    → go (record { fuel = f - 1; spent = t.spent + 1; empty = t.empty; left = t.left; sought = t.sought }) ≡ draw left sought t f
unfolding draw
draw_goes left sought t zero h = absurd (h refl)
draw_goes left sought t (suc f) h =
    let q : suc f - 1 ≡ f = omega arith in
    ap (λ k. go (record { fuel = k; spent = t.spent + 1; empty = t.empty; left = t.left; sought = t.sought })) q

pub charge_goes : (left sought : ℕ) (t : Tank) → (t.fuel ≡ 0 → ⊥)
    → go (record { fuel = t.fuel - 1; spent = t.spent + 1; empty = t.empty; left = t.left; sought = t.sought }) ≡ from_tank left sought t
unfolding from_tank
charge_goes left sought t h = draw_goes left sought t t.fuel h

pub drained_again : (left sought : ℕ) (t : Tank) → t.empty ≡ true
    → record { fuel = 0; spent = t.spent; empty = true; left = t.left; sought = t.sought } ≡ drained left sought t t.empty
unfolding drained
drained_again left sought t e = ap (drained left sought t) (sym e)

pub drained_first : (left sought : ℕ) (t : Tank) → t.empty ≡ false
    → record { fuel = 0; spent = t.spent; empty = true; left = left; sought = sought } ≡ drained left sought t t.empty
unfolding drained
drained_first left sought t e = ap (drained left sought t) (sym e)

-- what a charge looks for

pub in_module_lem : (item : Item) (m : ℕ) → item ≡ module_item m → m + 1 ≡ module_in item
unfolding module_in
in_module_lem item m e = ap module_in (sym e)

pub in_none : (item : Item) (ns d : ℕ) → item ≡ defined_item ns d → 0 ≡ module_in item
unfolding module_in
in_none item ns d e = ap module_in (sym e)

pub sought_own : (x : FindPathCtx) (item : Item) (m : ℕ) → m ≡ module_in item → m ≡ x.own → 0 ≡ sought_of x item
unfolding sought_of
sought_own x item m e h = sym (rw (sought_of, eq-eqb _ _ (sym e ∙ h)))

pub sought_other : (x : FindPathCtx) (item : Item) (m : ℕ) → m ≡ module_in item → (m ≡ x.own → ⊥) → m ≡ sought_of x item
unfolding sought_of
sought_other x item m e h = e ∙ sym (rw (sought_of, ne_eqb _ _ (λ k. h (e ∙ k))))
