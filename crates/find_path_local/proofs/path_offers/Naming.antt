-- An item that the viewer can import from no module: no local search finds it.
use Prim.Native.Nat.{ℕ, ◌%◌}
use mathlib.Core.Path.{◌≡◌, refl, sym, ap, ◌∙◌}
use mathlib.Core.List.{List, [], append-nil}
use mathlib.Core.Bool.{Bool, true, false, ◌&&◌, true≢false}
use Rattle.std.specs.Prelude.{Option, None, Some, is_some}
use lib.Dec.{eqb}
use Rattle.snapshot.specs.Records.{Snapshot, Scope, scope_at}
use Rattle.snapshot.specs.Layouts.{snap_of, item_keys}
use Rattle.snapshot.specs.declared.layout.Layout.{Layout}
use Rattle.record_index.specs.Index.{key_at}
use Rattle.record_index.specs.declared.chains.Chain.TheVariants.{Items}
use Rattle.accept.proofs.Laws.{and_no}
use Rattle.hir_def.specs.Keys.{number_of}
use Rattle.hir_def.proofs.Along.{keyed_other}
use Rattle.accept.proofs.Bools.{and_left, and_right}
use Rattle.hir_def.specs.Finds.{first_of}
use Rattle.hir_def.specs.Items.{item_of, same_item}
use Rattle.hir_def.specs.ItemScope.{is_for, is_fresh, name_of, names_of, preferred}
use Rattle.hir_def.specs.declared.Item.{Item}
use Rattle.hir_def.proofs.Found.{each_first, first_passes, none_passes}
use Rattle.hir_def.proofs.Fresh.{preferred_has}
use Rattle.find_path_choice.specs.Choices.{nothing}
use Rattle.find_path_spec.specs.declared.FindPathCtx.{FindPathCtx}
use Rattle.find_path_spec.specs.Walk.{Level, visited, find_local_import_locations}
use Rattle.find_path_spec.specs.Local.{LocalSearch, is_importable, entry_if, importable_name, each_location, calculate_best_path_local}
use Rattle.find_path_spec.proofs.laws.Near.{each_skips}
use Rattle.find_path_local.specs.path_offers.Named.{names_importably}

module _ (s : Snapshot) (x : FindPathCtx) (item : Item) where
  -- what is found for the item is not importable, where no entry names it importably
  module _ (none : first_of (names_importably s x item) s.scopes ≡ None) where
    hidden : (p : Scope → Bool) (y : Scope) → ((e : Scope) → p e ≡ true → same_item (item_of s e.ns e.definition) item ≡ true)
        → first_of p s.scopes ≡ Some y → is_importable s x y ≡ false
    hidden p y its e =
        let n = each_first p y (none_passes (names_importably s x item) s.scopes none) e in
        sym (ap (λ b. b && is_importable s x y) (its y (first_passes p s.scopes y e))) ∙ n

    for_item : (m : ℕ) (e : Scope) → is_for s m item e ≡ true → same_item (item_of s e.ns e.definition) item ≡ true
    unfolding is_for
    for_item m e t = and_right (eqb e.owner m) (same_item (item_of s e.ns e.definition) item) t

    left : (o : Option Scope) → ((y : Scope) → o ≡ Some y → is_importable s x y ≡ false) → entry_if s x o ≡ None
    unfolding entry_if
    left None f = refl
    left (Some y) f = rw (entry_if, f y refl)

    pub unnamed : (m : ℕ) → importable_name s x item m ≡ None
    unfolding importable_name names_of name_of
    unnamed m =
        let p = is_importable s x in
        left (preferred x.fresh s m item p (name_of s m item))
        (λ y.
        preferred_has s m item p (name_of s m item) 0 (λ e. is_importable s x e ≡ false) x.fresh y
        (hidden (λ e. is_for s m item e && is_fresh p e) y (λ e t. for_item m e (and_left (is_for s m item e) (is_fresh p e) t)))
        (hidden (is_for s m item) y (λ e t. for_item m e t)))

  pub unfound : (rec : LocalSearch) (left : ℕ) (ls : List Level) → ((m : ℕ) → importable_name s x item m ≡ None)
      → nothing ≡ calculate_best_path_local s x rec left ls item
  unfolding calculate_best_path_local each_location
  unfound rec left ls h =
      let w = find_local_import_locations s x.from.0 (visited ls item) in
      sym (ap (each_location s x rec left ls item [] nothing) (sym (append-nil w)) ∙ each_skips s x rec left ls item [] nothing w [] (λ m _. h m))

-- an entry with another key is not the item's
pub keyed_importably : (W A : List ℕ) (l : Layout) (x : FindPathCtx) (item : Item) {k : ℕ} → k ≡ number_of item % item_keys → (h : ℕ)
    → (key_at W l Items h ≡ k → ⊥) → names_importably (snap_of W A l) x item (scope_at W h) ≡ false
keyed_importably W A l x item q h other =
    sym (and_no _ (keyed_other W A l (scope_at W h).ns (scope_at W h).definition item_keys item (λ o. other (o ∙ sym q))))

pub not_some : {A : Type 0} (o : Option A) → is_some o ≡ false → o ≡ None
not_some None e = refl
not_some (Some y) e = absurd (true≢false e)
