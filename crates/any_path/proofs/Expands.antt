-- One name more after a way, entry by entry.
use Prim.Native.Nat.{ℕ}
use mathlib.Core.Path.{◌≡◌, sym, ap, ◌∙◌}
use mathlib.Core.List.{List, ◌∷◌, map, Memᴰ}
use mathlib.Core.Bool.{true, false, ◌&&◌, true≢false}
use Rattle.std.specs.Prelude.{Option, Some}
use lib.Dec.{eqb}
use Rattle.snapshot.specs.Records.{Snapshot, Scope}
use Rattle.accept.specs.Valid.{Valid}
use Rattle.accept.proofs.Accepted.{by_test}
use Rattle.accept.proofs.Bools.{and_two}
use Rattle.hir_def.specs.Finds.{select}
use Rattle.hir_def.specs.Items.{types, module_kind, definition_of, item_of, module_item, defined_item}
use Rattle.hir_def.specs.ItemScope.{is_module_entry, entry_module}
use Rattle.hir_def.specs.declared.Item.{Item}
use Rattle.nameable.specs.Seen.{seen}
use Rattle.nameable.specs.Paths.{Path, into, Named, is_seen_in, as_named, means}
use Rattle.nameable.specs.Breadth.{Way, with_meaning, added}
use Rattle.nameable.proofs.Reached.{way_to}
use Rattle.nameable.proofs.Lookups.{after_means}
use Rattle.any_path.specs.Rows.{leads_on, with_entry}

-- the paths by the seen entries among these
abbrev pub paths_by : Snapshot → ℕ → ℕ → Path → List Scope → List Path
paths_by s from m p xs = map (λ (x : Named). into p x.name) (map (as_named s) (select (is_seen_in s from types m) xs))

module _ (s : Snapshot) (from m : ℕ) (p : Path) (e : Scope) (xs : List Scope) where
  by_seen : is_seen_in s from types m e ≡ true → paths_by s from m p (e ∷ xs) ≡ into p e.name ∷ paths_by s from m p xs
  unfolding select
  by_seen t = rw (t, select)

  by_unseen : is_seen_in s from types m e ≡ false → paths_by s from m p (e ∷ xs) ≡ paths_by s from m p xs
  unfolding select
  by_unseen t = rw (t, select)

  module _ (ok : Valid s) (there : means s from types p ≡ Some (module_item m)) (listed : Memᴰ e s.scopes) (ws : List Way) where
    its_meaning : is_seen_in s from types m e ≡ true → means s from types (into p e.name) ≡ Some (item_of s e.ns e.definition)
    its_meaning t = after_means s ok from (module_item 0) (way_to p m) there types e listed t

    one_by : is_seen_in s from types m e ≡ true
        → added s from ws (paths_by s from m p (e ∷ xs)) ≡ added s from
        (with_meaning ws (into p e.name) (Some (item_of s e.ns e.definition))) (paths_by s from m p xs)
    unfolding added
    one_by t =
        ap (added s from ws) (by_seen t)
        ∙ ap (λ (o : Option Item). added s from (with_meaning ws (into p e.name) o) (paths_by s from m p xs)) (its_meaning t)

    leads_fields : leads_on s from m e ≡ true
        → (is_seen_in s from types m e ≡ true) × (eqb e.ns types && eqb (definition_of s e.definition).kind module_kind ≡ true)
    leads_fields t =
        let f = and_two (is_module_entry s m e) (seen s from e) t in
        let g = and_two (eqb e.owner m) (eqb e.ns types && eqb (definition_of s e.definition).kind module_kind) f.0 in
        let h = and_two (eqb e.ns types) (eqb (definition_of s e.definition).kind module_kind) g.1 in
        (rw (g.0, h.0) f.1, g.1)

    pub lead_yes : leads_on s from m e ≡ true
        → added s from ws (paths_by s from m p (e ∷ xs)) ≡ added s from (with_meaning ws (into p e.name) (Some (module_item (entry_module s e))))
        (paths_by s from m p xs)
    unfolding item_of
    lead_yes t =
        let f = leads_fields t in
        let is : item_of s e.ns e.definition ≡ module_item (entry_module s e) = rw (item_of, f.1) in
        one_by f.0 ∙ ap (λ (x : Item). added s from (with_meaning ws (into p e.name) (Some x)) (paths_by s from m p xs)) is

    pub lead_no : leads_on s from m e ≡ false → added s from ws (paths_by s from m p (e ∷ xs)) ≡ added s from ws (paths_by s from m p xs)
    unfolding item_of with_meaning
    lead_no t =
        by_test (is_seen_in s from types m e)
        (λ u.
        let f = and_two (eqb e.owner m) (eqb e.ns types && seen s from e) u in
        let g = and_two (eqb e.ns types) (seen s from e) f.1 in
        by_test (eqb (definition_of s e.definition).kind module_kind)
        (λ k. absurd (true≢false (sym (rw (f.0, g.0, k) g.1) ∙ t)))
        (λ k.
        let is : item_of s e.ns e.definition ≡ defined_item e.ns e.definition = rw (item_of, g.0, k) in
        one_by u ∙ ap (λ (x : Item). added s from (with_meaning ws (into p e.name) (Some x)) (paths_by s from m p xs)) is))
        (λ u. ap (added s from ws) (by_unseen u))

    -- the entry's name, and then the others'
    pub entry_by : added s from ws (paths_by s from m p (e ∷ xs)) ≡ added s from (with_entry s from ws (way_to p m) e) (paths_by s from m p xs)
    unfolding with_entry
    entry_by = by_test (leads_on s from m e) (λ t. lead_yes t ∙ rw (t, with_entry)) (λ t. lead_no t ∙ rw (t, with_entry))

module _ (s : Snapshot) (from : ℕ) (ws : List Way) (w : Way) (e : Scope) where
  pub with_lead : leads_on s from w.target e ≡ true
      → with_meaning ws (into w.path e.name) (Some (module_item (entry_module s e))) ≡ with_entry s from ws w e
  unfolding with_entry
  with_lead t = rw (t, with_entry)

  pub with_none : leads_on s from w.target e ≡ false → ws ≡ with_entry s from ws w e
  unfolding with_entry
  with_none t = rw (t, with_entry)
