-- Laws of what a step offers, for the code.
use Prim.Native.Nat.{ℕ, ◌<◌, ◌^◌}
use mathlib.Core.Path.{◌≡◌, sym, ◌∙◌, ap, ap₂, subst}
use mathlib.Core.Bool.{Bool, true, false}
use Rattle.std.specs.Prelude.{None, Some}
use Rattle.snapshot.specs.Records.{Snapshot, Scope, Import}
use Rattle.hir_def.specs.ImportMap.{is_unstable}
use Rattle.find_path_choice.specs.Choices.{Choice}
use Rattle.find_path_spec.specs.declared.FindPathCtx.{FindPathCtx}
use Rattle.find_path_choice.specs.Choices.{via_local, via_import, step_by, unstably, try_select}
use Rattle.find_path_spec.specs.Local.{offer, offer_entry, is_importable, entry_if}
use Rattle.find_path_spec.specs.Charged.{offer_import}
use Rattle.find_path_choice.proofs.ChoiceLaws.{taken_true, taken_false}

pub unstably_fits : (c : Choice) {d : Choice} → d ≡ unstably c → c.count < 16 → c.path_text_len < 2 ^ 32 → c.steps < 17
    → (d.count < 16) × (d.path_text_len < 2 ^ 32) × (d.steps < 17)
unfolding unstably
unstably_fits c e h k l = (
  subst (λ (z : Choice). z.count < 16) (sym e) h,
  subst (λ (z : Choice). z.path_text_len < 2 ^ 32) (sym e) k,
  subst
      (λ (z : Choice). z.steps < 17) (sym e) l,
)

module _ (s : Snapshot) (x : FindPathCtx) where
  -- an entry, where it can be imported
  module _ (e : Scope) {a : Bool} (ea : a ≡ is_importable s x e) where
    pub entry_taken : a ≡ true → Some e ≡ entry_if s x (Some e)
    unfolding entry_if
    entry_taken t = taken_true _ _ _ (sym ea ∙ t)

    pub entry_left : a ≡ false → None ≡ entry_if s x (Some e)
    unfolding entry_if
    entry_left t = taken_false _ _ _ (sym ea ∙ t)

  module _ (best c : Choice) where
    pub offer_none : (n via : ℕ) → c.found ≡ false → best ≡ offer s x best c n via
    unfolding offer
    offer_none n via t = taken_false _ best c.found t

    pub offer_some : (n via : ℕ) → c.found ≡ true → try_select s x.prefer_prelude best c n via ≡ offer s x best c n via
    unfolding offer
    offer_some n via t = taken_true _ best c.found t

    pub entry_offered : (e : Scope) {n via : ℕ} → n ≡ e.name → via ≡ step_by via_local e.place → offer s x best c n via ≡ offer_entry s x best c e
    unfolding offer_entry
    entry_offered e en ev = ap₂ (offer s x best c) en ev

    module _ (i : Import) {n via : ℕ} (en : n ≡ i.name) (ev : via ≡ step_by via_import i.place) where
      pub import_stable : is_unstable i ≡ false → offer s x best c n via ≡ offer_import s x best c i
      unfolding offer_import
      import_stable t = ap₂ (offer s x best c) en ev ∙ taken_false _ _ (is_unstable i) t

      pub import_barred : is_unstable i ≡ true → x.allow_unstable ≡ false → best ≡ offer_import s x best c i
      unfolding offer_import
      import_barred t u = taken_false _ best x.allow_unstable u ∙ taken_true _ _ (is_unstable i) t

      pub import_unstable : {d : Choice} → d ≡ unstably c → is_unstable i ≡ true → x.allow_unstable ≡ true
          → offer s x best d n via ≡ offer_import s x best c i
      unfolding offer_import
      import_unstable f t u =
          ap (λ (d : Choice). offer s x best d n via) f ∙ ap₂ (offer s x best (unstably c)) en ev ∙ taken_true _ best x.allow_unstable u
          ∙ taken_true _ _ (is_unstable i) t
