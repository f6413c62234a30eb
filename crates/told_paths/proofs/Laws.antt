-- Laws of paths that are told.
use Rattle.told_paths.specs.declared.arrivals.LastStep.{LastStep}
use Prim.Native.Nat.{ℕ, suc, ◌+◌, ◌≤◌, ◌<◌, ◌^◌}
use mathlib.Core.Path.{◌≡◌, refl, sym, ap, ap₂, subst, ◌∙◌}
use mathlib.Core.List.{List, [], ◌∷◌, ◌++◌, append_assoc}
use Rattle.std.specs.Prelude.{Option, None, Some, option_map}
use Rattle.std.proofs.lemmas.Option.{same_Some}
use native.Mathlib.Omega.{arith}
use borrow.Author.Tests.{leb-true, leb-false, le-leb, lt-leb}
use lib.Dec.{leb}
use lib.ListN.{length, length-append, drop, set, replicate, length-replicate}
use lib.Seq.{set-append_seam, drop-cons}
use Rattle.snapshot.specs.Records.{Snapshot}
use Rattle.snapshot.specs.declared.ids.PathKind.{PathKind}
use Rattle.accept.proofs.Accepted.{by_test}
use Rattle.nameable.specs.Paths.{Path, keyword, absolute, plain, into, names_in, names_of}
use Rattle.nameable.specs.Breadth.{names_limit, shorter}
use Rattle.nameable.proofs.Lists.{none_some}
use Rattle.nameable.proofs.Least as least
use Rattle.any_path.specs.Rows.{path_from, path_at}
use Rattle.told_paths.specs.arrivals.Steps.{Steps, LeadsTo}
use Rattle.told_paths.specs.declared.ToldPath.{ToldPath}
use Rattle.told_paths.specs.Tells.{step_link, kind_of, supers_of, padded, told_long, tell}

pub length_names : (p : Path) → length (names_of p) ≡ names_in p
unfolding names_of names_in
length_names (keyword k) = refl
length_names (absolute n) = refl
length_names (plain n) = refl
length_names (into p n) = omega (arith, length-append (names_of p) (n ∷ []), length_names p)

-- With few names, and with too many.
module _ (p : Path) where
  abbrev pub wholly : ToldPath
  wholly = record { kind = kind_of p; supers = supers_of p; names = padded (names_of p); count = names_in p }

  pub tell_few : names_in p ≤ names_limit → tell p ≡ wholly
  unfolding tell
  tell_few h = rw (tell, le-leb (names_in p) names_limit h)

  tell_many : names_limit < names_in p → tell p ≡ told_long (names_in p)
  unfolding tell
  tell_many h = rw (tell, lt-leb (names_in p) names_limit h)

  by_length : {C : Type 0} → (names_in p ≤ names_limit → C) → (names_limit < names_in p → C) → C
  by_length f g =
      by_test (leb (names_in p) names_limit) (λ e. f (leb-true (names_in p) names_limit e)) (λ e. g (leb-false (names_in p) names_limit e))

  pub tell_count : (tell p).count ≡ names_in p
  unfolding told_long
  tell_count = by_length (λ h. ap (λ (t : ToldPath). t.count) (tell_few h)) (λ h. ap (λ (t : ToldPath). t.count) (tell_many h))

  pub tell_made : {k : PathKind} {u c : ℕ} {N : List ℕ} → names_in p ≤ names_limit → k ≡ kind_of p → u ≡ supers_of p → N ≡ padded (names_of p)
      → c ≡ names_in p
      → record { kind = k; supers = u; names = N; count = c } ≡ tell p
  tell_made h ek eu en ec = (λ i. record { kind = ek i; supers = eu i; names = en i; count = ec i }) ∙ sym (tell_few h)

  pub tell_long : {t : ToldPath} {c : ℕ} → names_limit < c → c ≡ names_in p → t ≡ told_long c → t ≡ tell p
  tell_long h ec et = et ∙ (ap told_long ec ∙ sym (tell_many (omega (arith, h, ec))))

-- one name more after the last
pub pad_more : (xs : List ℕ) (n : ℕ) → length xs < 16 → set (padded xs) (length xs) n ≡ padded (xs ++ (n ∷ []))
unfolding padded
pad_more xs n h =
    let Z : List ℕ = replicate 16 0 in
    let size : length Z ≡ 16 = length-replicate {A = ℕ} 16 0 in
    let more : length (xs ++ (n ∷ [])) ≡ suc (length xs) = length-append xs (n ∷ []) ∙ omega arith in
    let cons = drop-cons Z (length xs) 0 (omega (arith, size, h)) in
    ap (λ (ys : List ℕ). set (xs ++ ys) (length xs) n) cons
    ∙ (set-append_seam xs _ (drop (suc (length xs)) Z) n
    ∙ (sym (append_assoc xs (n ∷ []) (drop (suc (length xs)) Z)) ∙ ap (λ (k : ℕ). (xs ++ (n ∷ [])) ++ drop k Z) (sym more)))

module _ (p : Path) (n : ℕ) {t : ToldPath} (e : t ≡ tell p) where
  told_count : t.count ≡ names_in p
  told_count = ap (λ (u : ToldPath). u.count) e ∙ tell_count p

  pub more_long : {r : ToldPath} {c : ℕ} → names_limit ≤ t.count → c ≡ t.count + 1 → r ≡ told_long c → r ≡ tell (into p n)
  unfolding names_in
  more_long h ec er = let k = told_count in tell_long (into p n) (omega (arith, h, ec)) (omega (arith, ec, k)) er

  pub more_short : {c : ℕ} → t.count < names_limit → c ≡ t.count + 1
      → record { kind = t.kind; supers = t.supers; names = set t.names t.count n; count = c } ≡ tell (into p n)
  unfolding names_in names_of kind_of supers_of
  more_short h ec =
      let k = told_count in
      let whole : t ≡ wholly p = e ∙ tell_few p (omega (arith, k, h)) in
      let size : length (names_of p) ≡ names_in p = length_names p in
      tell_made (into p n) (omega (arith, k, h)) (ap (λ (u : ToldPath). u.kind) whole) (ap (λ (u : ToldPath). u.supers) whole)
      (ap₂ (λ (N : List ℕ) (i : ℕ). set N i n) (ap (λ (u : ToldPath). u.names) whole) (k ∙ sym size)
      ∙ pad_more (names_of p) n (omega (arith, size, k, h)))
      (omega (arith, ec, k))

-- The shorter of two.

-- what is told of none, and of a path
pub told_gone : (o : Option Path) → None ≡ option_map tell o → o ≡ None
told_gone None e = refl
told_gone (Some x) e = absurd (none_some e)

pub told_there : (o : Option Path) {t : ToldPath} → Some t ≡ option_map tell o → (x : Path) × (o ≡ Some x) × (t ≡ tell x)
told_there None e = absurd (none_some (sym e))
told_there (Some x) e = (x, refl, same_Some _ _ e)

module _ (p q : Option Path) {a b : Option ToldPath} (ea : a ≡ option_map tell p) (eb : b ≡ option_map tell q) where
  pub shorter_second : a ≡ None → b ≡ option_map tell (shorter p q)
  unfolding shorter
  shorter_second h = eb ∙ sym (ap (λ (o : Option Path). option_map tell (shorter o q)) (told_gone p (sym h ∙ ea)))

  first_by : (o : Option Path) → option_map tell o ≡ option_map tell (shorter o None)
  unfolding shorter
  first_by None = refl
  first_by (Some x) = refl

  pub shorter_first : b ≡ None → a ≡ option_map tell (shorter p q)
  shorter_first h = ea ∙ (first_by p ∙ sym (ap (λ (o : Option Path). option_map tell (shorter p o)) (told_gone q (sym h ∙ eb))))

  module _ {x y : ToldPath} (ex : a ≡ Some x) (ey : b ≡ Some y) where
    pub shorter_less : y.count < x.count → b ≡ option_map tell (shorter p q)
    shorter_less h =
        let u = told_there p (sym ex ∙ ea) in
        let v = told_there q (sym ey ∙ eb) in
        let cx : x.count ≡ names_in u.0 = ap (λ (t : ToldPath). t.count) u.2 ∙ tell_count u.0 in
        let cy : y.count ≡ names_in v.0 = ap (λ (t : ToldPath). t.count) v.2 ∙ tell_count v.0 in
        let same : shorter p q ≡ q = ap₂ shorter u.1 v.1 ∙ (least.shorter_second u.0 v.0 (omega (arith, h, cx, cy)) ∙ sym v.1) in
        eb ∙ sym (ap (option_map tell) same)

    pub shorter_keeps : x.count ≤ y.count → a ≡ option_map tell (shorter p q)
    shorter_keeps h =
        let u = told_there p (sym ex ∙ ea) in
        let v = told_there q (sym ey ∙ eb) in
        let cx : x.count ≡ names_in u.0 = ap (λ (t : ToldPath). t.count) u.2 ∙ tell_count u.0 in
        let cy : y.count ≡ names_in v.0 = ap (λ (t : ToldPath). t.count) v.2 ∙ tell_count v.0 in
        let same : shorter p q ≡ p = ap₂ shorter u.1 v.1 ∙ (least.shorter_first u.0 v.0 (omega (arith, h, cx, cy)) ∙ sym u.1) in
        ea ∙ sym (ap (option_map tell) same)

-- The path to which a step leads.
module _ (A : List ℕ) (n : ℕ) (q : Option LastStep) where
  pub step_link_lem : {r : LastStep} → q ≡ Some r → step_link q < n + 3 → r.link < n + 3
  unfolding step_link
  step_link_lem {r} e h = let same : step_link q ≡ r.link = ap step_link e in omega (arith, h, same)

  pub leads_none : q ≡ None → (s : Snapshot) (from ns : ℕ) (o : Option Path) → LeadsTo s from ns A n o q → None ≡ option_map tell o
  unfolding LeadsTo
  leads_none e s from ns o h =
      let z : o ≡ None = subst (λ (u : Option LastStep). LeadsTo s from ns A n o u) e h in sym (ap (option_map tell) z)

  module _ {r : LastStep} (e : q ≡ Some r) (s : Snapshot) (from ns : ℕ) (o : Option Path) (h : LeadsTo s from ns A n o q) where
    step_path : o ≡ Some (path_from (path_at A) r.link r.name)
    unfolding LeadsTo
    step_path = let z : Steps s from ns A n o r.link r.name r.at = subst (λ (u : Option LastStep). LeadsTo s from ns A n o u) e h in z.path

    pub leads_told : {t : ToldPath} → t ≡ tell (path_from (path_at A) r.link r.name) → Some t ≡ option_map tell o
    leads_told et = ap Some et ∙ sym (ap (option_map tell) step_path)

    pub leads_long : {t : ToldPath} {c : ℕ} → names_limit < c → c ≡ names_in (path_from (path_at A) r.link r.name) → t ≡ told_long c
        → Some t ≡ option_map tell o
    leads_long l ec et = leads_told (tell_long (path_from (path_at A) r.link r.name) l ec et)

pub long_few : {t : ToldPath} {c : ℕ} → t ≡ told_long c → c < 2 ^ 32 → t.count < 2 ^ 32
unfolding told_long
long_few {t} {c} e h = let z : t.count ≡ c = ap (λ (u : ToldPath). u.count) e in omega (arith, z, h)
