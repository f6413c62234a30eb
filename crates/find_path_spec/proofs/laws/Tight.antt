-- The distance of a module. A search that has just this length left comes to few modules, and no others on its levels play a part.
use mathlib.Core.Path.{◌≡◌, refl, ap, sym, subst}
use Prim.Native.Nat.{ℕ, zero, suc, ◌≤◌, ◌<◌}
use native.Mathlib.Nat.{le_antisymm}
use native.Mathlib.Omega.{arith}
use mathlib.Core.List.{List, [], ◌∷◌}
use mathlib.Core.Bool.{true, false, ◌&&◌, false≢true}
use mathlib.Core.Logic.{◌⊎◌, inl, inr, ⊎_elim}
use Rattle.snapshot.specs.Lists.{any}
use Rattle.snapshot.specs.Records.{Snapshot}
use Rattle.hir_def.specs.Items.{same_item, module_item}
use Rattle.find_path_spec.specs.declared.FindPathCtx.{FindPathCtx}
use Rattle.find_path_choice.specs.Choices.{nothing}
use Rattle.find_path_spec.specs.Walk.{Level, has, visited, find_local_import_locations}
use Rattle.find_path_spec.specs.Search.{search_local}
use Rattle.find_path_spec.specs.laws.Near.{is_on, ruled, locations, near}
use Rattle.find_path_spec.proofs.laws.Fewer.{refuted, or_none_lem, or_both, walk_same}
use Rattle.find_path_spec.proofs.laws.Near.{Location, near_rule, near_step, near_cases, near_none, far_nothing}
use Rattle.find_path_spec.proofs.laws.Frames.{levels_frame}

-- levels without the item have visited nothing for it
off_unvisited : (ls : List Level) (m c : ℕ) → is_on ls m ≡ false → visited ls (module_item m) c ≡ false
unfolding is_on visited any
off_unvisited [] m c e = refl
off_unvisited (l ∷ ls) m c e =
    let (a, b) = or_both (same_item l.item (module_item m)) _ e in
    or_none_lem _ _ (ap (λ t. t && has l.modules c) a) (off_unvisited ls m c b)

module _ (s : Snapshot) (x : FindPathCtx) where
  -- For a module that is on no level the walk is the one past nothing.
  pub walk_off : (ls : List Level) (m : ℕ) → is_on ls m ≡ false
      → locations s x ls m ≡ find_local_import_locations s x.from.0 (λ _. false)
  walk_off ls m e = walk_same s x.from.0 _ _ (λ c. off_unvisited ls m c e)

  -- the least length left with which the module is near
  pub record Distance (k m : ℕ) : Type 0 where
    pub reached : near s x [] k m ≡ true
    pub least : (j : ℕ) → near s x [] j m ≡ true → k ≤ j

  -- With less left than its distance a module is not found.
  pub short_nothing : (k m left : ℕ) (ls : List Level) → Distance k m → left < k → search_local s x left ls m ≡ nothing
  short_nothing k m left ls d h =
      far_nothing s x left ls m (refuted _ (λ n. let o = d.least left (near_none s x ls left m n) in omega arith))

  -- A round that reaches no more of a closed set of modules is the last.
  pub last_round : (M : ℕ → Type 0) → ((m c : ℕ) → M m → Location s x [] m c → M c) → (k : ℕ)
      → ((m : ℕ) → M m → near s x [] (suc k) m ≡ true → near s x [] k m ≡ true) → (j m : ℕ) → M m → near s x [] j m ≡ true → near s x [] k m ≡ true
  unfolding near
  last_round M goes k still zero m w e = absurd (false≢true e)
  last_round M goes k still (suc j) m w e =
      still m w
      (⊎_elim (λ r. near_rule s x [] k m r) (λ (c, at, n). near_step s x [] k m c at (last_round M goes k still j c (goes m c w at) n))
      (near_cases s x [] j m e))

  -- of the locations of a module only those are near in time that are one step nearer
  pub location_distance : (l m c j : ℕ) → Distance (suc l) m → Location s x [] m c → j ≤ l → near s x [] j c ≡ true → (j ≡ l) × Distance l c
  location_distance l m c j d at h n =
      let k = d.least (suc j) (near_step s x [] j m c at n) in
      let e : j ≡ l = le_antisymm h (omega arith) in (
        e,
        record {
          reached = subst (λ i. near s x [] i c ≡ true) e n;
          least = λ i o. let q = d.least (suc i)
              (near_step s x [] i m c at o) in omega arith;
        },
      )

  -- Q holds of what a search for m comes to when its length left is the distance of m
  module _ (k m : ℕ) (d : Distance k m) (Q : ℕ → Type 0)
      (first : (l c : ℕ) → suc l ≤ k → Distance (suc l) m → Location s x [] m c → Distance l c → Q c)
      (next : (l n c : ℕ) → suc l ≤ k → Q n → Distance (suc l) n → Location s x [] n c → Distance l c → Q c) where
    abbrev Comes : ℕ → ℕ → Type 0
    Comes l n = Distance l n × (((l ≡ k) × (n ≡ m)) ⊎ ((l < k) × Q n))

    comes_on : (l n c j : ℕ) → Comes (suc l) n → Location s x [] n c → j ≤ l → near s x [] j c ≡ true → Comes j c
    comes_on l n c j (a, b) at h e =
        let (q, f) = location_distance l n c j a at h e in
        subst (λ i. Comes i c) (sym q) (
          f,
          inr (⊎_elim
              (λ (o, u). (omega arith, first l c (omega arith) (subst (λ z. Distance (suc l) z) u a) (subst (λ z. Location s x [] z c) u at) f))
              (λ (o, u). (omega arith, next l n c (omega arith) u a at f)) b),
        )

    -- with its distance left, a module's search does not depend on levels that are off its way
    pub tight_off : (ls : List Level) → (ruled s x m ≡ false → is_on ls m ≡ false)
        → ((l n : ℕ) → l < k → Distance l n → Q n → ruled s x n ≡ false → is_on ls n ≡ false)
        → search_local s x k ls m ≡ search_local s x k [] m
    unfolding visited any
    tight_off ls off free =
        levels_frame s x Comes comes_on k ls [] m (λ _. (d, inl (refl, refl)))
        (λ l n h (a, b) r c. off_unvisited ls n c
        (⊎_elim (λ (o, u). subst (λ z. is_on ls z ≡ false) (sym u) (off (subst (λ z. ruled s x z ≡ false) u r))) (λ (o, u). free l n o a u r) b))

  -- a height rises from a module, no farther than k, to its locations that are one step nearer
  abbrev pub Rises : ℕ → (ℕ → ℕ) → Type 0
  Rises k h = (l n c : ℕ) → suc l ≤ k → Distance (suc l) n → Location s x [] n c → Distance l c → h n < h c

  -- A search with its distance left is the one with no levels, if what is on the levels is as far or not higher, and the module is on none.
  pub tight : (h : ℕ → ℕ) (k m : ℕ) → Rises k h → Distance k m → (ls : List Level) → (ruled s x m ≡ false → is_on ls m ≡ false)
      → ((l n : ℕ) → Distance l n → ruled s x n ≡ false → is_on ls n ≡ true → (k ≤ l) ⊎ (h n ≤ h m))
      → search_local s x k ls m ≡ search_local s x k [] m
  tight h k m rises d ls off low =
      tight_off k m d (λ n. h m < h n) (λ l c u a at b. rises l m c u a at b) (λ l n c u q a at b. let r = rises l n c u a at b in omega arith) ls off
      (λ l n o a q r. refuted _ (λ t. ⊎_elim (λ z. omega arith) (λ z. omega arith) (low l n a r t)))
