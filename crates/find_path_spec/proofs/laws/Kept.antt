-- What can be kept of the answers with no levels: where an answer is one of them, and from which it is made.
use mathlib.Core.Path.{◌≡◌, ap, sym, subst, ◌∙◌}
use Prim.Native.Nat.{ℕ, suc, ◌≤◌, ◌<◌}
use native.Mathlib.Nat.{le_antisymm}
use native.Mathlib.Omega.{arith}
use mathlib.Core.List.{List, [], ◌∷◌, ◌++◌}
use mathlib.Core.Bool.{Bool, true, false, true≢false, false≢true}
use mathlib.Core.Logic.{⊎_elim}
use Rattle.std.specs.Prelude.{Some}
use Rattle.snapshot.specs.Records.{Snapshot, Scope}
use Rattle.hir_def.specs.Items.{module_item}
use Rattle.find_path_choice.specs.Choices.{Choice}
use Rattle.find_path_spec.specs.declared.FindPathCtx.{FindPathCtx}
use Rattle.find_path_choice.specs.Choices.{via_local, step_by, nothing, length_left, extended, push}
use Rattle.find_path_spec.specs.Walk.{Level, has}
use Rattle.find_path_spec.specs.Local.{importable_name, location, calculate_best_path_local}
use Rattle.find_path_spec.specs.Search.{search_local}
use Rattle.find_path_spec.specs.laws.Near.{is_some, is_on, ruled, locations, imports, near}
use Rattle.find_path_spec.proofs.laws.Unfold.{length_falls}
use Rattle.find_path_spec.proofs.laws.Fewer.{tested, refuted, less_or}
use Rattle.find_path_spec.proofs.laws.Near.{Location, near_step, near_later, found_near, far_nothing}
use Rattle.find_path_spec.proofs.laws.Frames.{far_under}
use Rattle.find_path_spec.proofs.laws.Tight.{tight_off}
use Rattle.find_path_spec.proofs.laws.Rows.{only, row_of, rows}
use Rattle.find_path_spec.proofs.laws.Loops.{locations_once, select_by, location_by, each_by}

module _ (s : Snapshot) (x : FindPathCtx) where
  -- With no more left than it takes, a search is the one with no levels, if the modules on the levels are farther by numbers that are bounds.
  pub farther : (n : ℕ) (d : ℕ → ℕ) → ((m c : ℕ) → imports s x m c ≡ true → c < n) → ((k m : ℕ) → m < n → near s x [] k m ≡ true → d m ≤ k)
      → (k m : ℕ) → m < n → ((j : ℕ) → near s x [] j m ≡ true → k ≤ j) → (ls : List Level) → ((i : ℕ) → is_on ls i ≡ true → k < d i)
      → search_local s x k ls m ≡ search_local s x k [] m
  farther n d known bounds k m b least ls far =
      let off : (l i : ℕ) → l ≤ k → i < n → near s x [] l i ≡ true → is_on ls i ≡ false =
      λ l i o q e. refuted _ (λ t. let f = far i t in let g = bounds l i q e in omega arith) in
      ⊎_elim
      (λ h. tight_off s x k m (record { reached = h; least = least }) (λ i. i < n) (λ l c _ _ at _. known m c at.entry)
      (λ l i c _ _ _ at _. known i c at.entry) ls
      (λ _. off k m (omega arith) b h) (λ l i o a q _. off l i (omega arith) q a.reached))
      (λ h. far_nothing s x k ls m (far_under s x ls k m h) ∙ sym (far_nothing s x k [] m h))
      (tested (near s x [] k m))

  -- a choice for m that was made from the answer for a location with l left and no levels, by the entry there
  pub record Made (l m : ℕ) (r : Choice) : Type 0 where
    pub from : ℕ
    pub entry : Scope
    pub flag : Bool
    pub at : Location s x [] m from
    pub named : importable_name s x (module_item m) from ≡ Some entry
    pub found : (search_local s x l [] from).found ≡ true
    pub same : r ≡ extended s (search_local s x l [] from) entry.name (step_by via_local entry.place) flag

  module _ (l m : ℕ) (e : near s x [] l m ≡ false) where
    -- a location that is found had the whole length left
    whole_left : (c j : ℕ) → Location s x [] m c → j ≤ l → (search_local s x j [] c).found ≡ true → j ≡ l
    whole_left c j at h f =
        ⊎_elim (λ o. absurd (true≢false (sym (near_later s x [] (suc j) l m (omega arith) (near_step s x [] j m c at (found_near s x j [] c f)))
        ∙ e)))
        (λ o. le_antisymm h o) (less_or j l)

    abbrev Kept : List ℕ → Choice → Type 0
    Kept done best = best.found ≡ true → Made l m best

    made_step : (done : List ℕ) (best : Choice) (c : ℕ) → has done c ≡ false → has (locations s x [] m) c ≡ true → Kept done best
        → Kept (done ++ (c ∷ [])) (location s x (row_of s x) (suc l) (only s x m (done ++ (c ∷ []))) best c (importable_name s x (module_item m) c))
    unfolding imports push
    made_step done best c new in' k =
        location_by s x (Kept done) (row_of s x) (suc l) _ best c (importable_name s x (module_item m) c) k
        (λ a i f.
        let at : Location s x [] m c = record { taken = in'; entry = ap is_some i } in
        let less : length_left (suc l) best < suc l = length_falls (suc l) best (omega arith) in
        let q : length_left (suc l) best ≡ l = whole_left c (length_left (suc l) best) at (omega arith) f in
        let make : (b : Bool) → Made l m (extended s (search_local s x (length_left (suc l) best) [] c) a.name (step_by via_local a.place) b) =
        λ b. record {
          from = c;
          entry = a;
          flag = b;
          at = at;
          named = i;
          found = subst (λ (z : ℕ). (search_local s x z [] c).found ≡ true) q f;
          same = ap (λ (z : ℕ). extended s (search_local s x z [] c) a.name (step_by via_local a.place) b) q;
        } in
        select_by s x (Kept done) best _ a.name _ (λ _ _. make _) (λ _ _ _. make _) (λ _ _. k))

    -- The answer of a round, where it is found, is a location's answer with the name there.
    pub made : ruled s x m ≡ false → (search_local s x (suc l) [] m).found ≡ true → Made l m (search_local s x (suc l) [] m)
    unfolding calculate_best_path_local
    made r f =
        let q = rows s x l m e r in
        subst (Made l m) (sym q)
        (each_by s x Kept (row_of s x) (suc l) [] (module_item m) _ [] nothing _ made_step (λ _ h. h) (locations_once s x.from.0 _)
        (λ o. absurd (false≢true o)) (ap (λ (z : Choice). z.found) (sym q) ∙ f))
