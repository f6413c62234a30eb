-- The laws of keys.
use Prim.Native.Nat.{ℕ, ◌+◌, ◌*◌, ◌<◌}
use mathlib.Core.Path.{◌≡◌, sym, ap, ◌∙◌}
use mathlib.Core.List.{List}
use mathlib.Core.Bool.{Bool, true, false, ◌&&◌}
use lib.Dec.{eqb}
use Rattle.snapshot.specs.Sizes.{definition_size}
use Rattle.snapshot.specs.Records.{definition_at}
use Rattle.snapshot.specs.Layouts.{definition_base}
use Rattle.snapshot.specs.declared.layout.Layout.{Layout}
use Rattle.snapshot.proofs.Laws.{get_d_rows}
use Rattle.record_index.specs.Index.{definition_in, item_number}

module _ (W : List ℕ) (l : Layout) (ns d : ℕ) (known : d < l.definitions) {b : ℕ} (at : b ≡ definition_base l) where
  definition_there : definition_at W (b + definition_size * d) ≡ definition_in W l d
  definition_there =
      ap (λ z. definition_at W (z + definition_size * d)) at
      ∙ sym (get_d_rows (λ k. definition_at W (definition_base l + definition_size * k)) _ l.definitions d known)

  module _ {k : ℕ} (e : k ≡ (definition_at W (b + definition_size * d)).kind) where
    its : {t : Bool} → (eqb ns 0 && eqb k 1) ≡ t → (eqb ns 0 && eqb (definition_in W l d).kind 1) ≡ t
    its h = ap (λ y. eqb ns 0 && eqb y 1) (sym (e ∙ ap (λ x. x.kind) definition_there)) ∙ h

    pub number_module : {m : ℕ} → (eqb ns 0 && eqb k 1) ≡ true → m ≡ (definition_at W (b + definition_size * d)).first → m ≡ item_number W l ns d
    number_module h q = q ∙ ap (λ x. x.first) definition_there
        ∙ sym (ap (λ (t : Bool). elim t [ true ↦ (definition_in W l d).first | false ↦ d ]) (its h))

    pub number_other : (eqb ns 0 && eqb k 1) ≡ false → d ≡ item_number W l ns d
    number_other h = sym (ap (λ (t : Bool). elim t [ true ↦ (definition_in W l d).first | false ↦ d ]) (its h))
