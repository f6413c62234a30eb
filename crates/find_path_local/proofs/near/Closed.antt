-- Numbers under levels are bounds: each step to a rule's answer adds at most 1.
use Prim.Native.Nat.{ℕ, zero, suc, ◌+◌, ◌≤◌, ◌<◌}
use mathlib.Core.Path.{◌≡◌, sym, subst}
use mathlib.Core.List.{List}
use mathlib.Core.Bool.{true, false, false≢true}
use mathlib.Core.Logic.{⊎_elim}
use native.Mathlib.Omega.{arith}
use Rattle.snapshot.specs.Limits.{module_limit}
use Rattle.snapshot.specs.Records.{Snapshot}
use Rattle.accept.specs.Valid.{Each}
use Rattle.hir_def.specs.Items.{module_item}
use Rattle.find_path_spec.specs.declared.FindPathCtx.{FindPathCtx}
use Rattle.find_path_spec.specs.Walk.{Level, has, visited}
use Rattle.find_path_spec.specs.Local.{importable_name}
use Rattle.find_path_spec.specs.laws.Near.{ruled, imports, locations, near}
use Rattle.find_path_spec.proofs.laws.Fewer.{walk_fewer}
use Rattle.find_path_spec.proofs.laws.Near.{near_cases}
use Rattle.find_path_local.specs.distances.Distances.{walk}
use Rattle.find_path_local.specs.near.Numbers.{Nearer, Opened}
use Rattle.find_path_local.proofs.distances.Near.{some_is, import_for}
use Rattle.find_path_local.proofs.distances.Marking.{module_entry}

module _ (s : Snapshot) (x : FindPathCtx) (ls : List Level) (n left : ℕ) (d : ℕ → ℕ) (few : n ≤ module_limit)
    (answers : (m : ℕ) → m < n → ruled s x m ≡ true → d m ≤ 1)
    (closed : (c : ℕ) → c < n → has (walk s x) c ≡ true → d c < left → Each (Opened s x ls d c (d c + 1)) s.scopes)
    (owners : Each (λ e. e.owner < n) s.scopes) where
  walked : (m c : ℕ) → has (locations s x ls m) c ≡ true → has (walk s x) c ≡ true
  walked m c h = walk_fewer s x.from.0 (λ _. false) (visited ls (module_item m)) (λ _ f. absurd (false≢true f)) c h

  owner_known : (m c : ℕ) → imports s x m c ≡ true → c < n
  unfolding imports
  owner_known m c h =
      let (e, k) = some_is (importable_name s x (module_item m) c) h in
      let f = import_for s x (λ e. e.owner < n) owners c m e k in
      let o = f.0 in
      subst (λ z. z < n) f.1 o

  one_more : (m c : ℕ) → m < n → c < n → imports s x m c ≡ true → has (locations s x ls m) c ≡ true → d c < left → d m ≤ d c + 1
  unfolding imports Opened Nearer
  one_more m c b o h t low =
      let (e, k) = some_is (importable_name s x (module_item m) c) h in
      let f = import_for s x (Opened s x ls d c (d c + 1)) (closed c o (walked m c t) low) c m e k in
      let g = module_entry s e c m f.1 f.2 in
      let q = f.0 g.0 (subst (λ z. z < module_limit) (sym g.1) (omega arith))
      (subst (λ z. imports s x z e.owner ≡ true) (sym g.1) (subst (λ z. imports s x m z ≡ true) (sym f.1) h))
      (subst (λ z. has (locations s x ls z) e.owner ≡ true) (sym g.1) (subst (λ z. has (locations s x ls m) z ≡ true) (sym f.1) t))
      in
      subst (λ z. d z ≤ d c + 1) g.1 q

  -- with less left nothing is near
  pub near_bound : (k m : ℕ) → k ≤ left → m < n → near s x ls k m ≡ true → d m ≤ k
  unfolding near
  near_bound zero m l b h = absurd (false≢true h)
  near_bound (suc k) m l b h =
      ⊎_elim (λ r. let q = answers m b r in omega arith)
      (λ (c, at, t).
      let i = owner_known m c at.entry in
      let o = near_bound k c (omega arith) i t in
      let q = one_more m c b i at.entry at.taken (omega arith) in
      omega arith)
      (near_cases s x ls k m h)
