-- A path read back from its last step, row by row.
use Prim.Native.Nat.{ℕ, zero, suc, ◌+◌, ◌-◌, ◌≤◌, ◌<◌}
use mathlib.Core.Path.{◌≡◌, refl, sym, ap, ap₂, ◌∙◌}
use mathlib.Core.List.{List, [], ◌∷◌, ◌++◌, append_assoc}
use native.Mathlib.Omega.{arith}
use lib.ListN.{length, drop, set, length-set, replicate, length-replicate}
use Rattle.snapshot.specs.declared.ids.PathKind.{PathKind}
use Rattle.snapshot.specs.declared.ids.PathKind.TheVariants.{Plain, SelfModule, Super, Crate, Absolute}
use Rattle.nameable.specs.Paths.{Path, keyword, absolute, plain, into, names_in, names_of}
use Rattle.nameable.specs.Breadth.{names_limit}
use Rattle.any_path.specs.Rows.{link_at, name_at, keyword_from, path_from, path_at}
use Rattle.any_path.proofs.Taken.{link_into}
use Rattle.told_paths.proofs.arrivals.Steps.{row_path}
use Rattle.told_paths.specs.Tells.{keyword_kind, kind_of, keyword_supers, supers_of, padded, tell}
use Rattle.told_paths.proofs.Laws.{length_names, tell_made}

-- the names of a path put into a list, the last first
unfoldable pub names_on : Path → List ℕ → List ℕ
names_on (keyword k) N = N
names_on (absolute n) N = set N 0 n
names_on (plain n) N = set N 0 n
names_on (into p n) N = names_on p (set N (names_in p) n)

put_first : (N : List ℕ) (n : ℕ) → 0 < length N → set N 0 n ≡ n ∷ drop 1 N
put_first [] n h = absurd (omega arith)
put_first (x ∷ xs) n h = refl

put_drop : (N : List ℕ) (k n : ℕ) → k < length N → drop k (set N k n) ≡ n ∷ drop (suc k) N
put_drop [] k n h = absurd (omega arith)
put_drop (x ∷ xs) zero n h = refl
put_drop (x ∷ xs) (suc k) n h = put_drop xs k n (omega arith)

names_on_lem : (p : Path) (N : List ℕ) → names_in p ≤ length N → names_on p N ≡ names_of p ++ drop (names_in p) N
unfolding names_on names_of names_in
names_on_lem (keyword k) N h = refl
names_on_lem (absolute n) N h = put_first N n (omega arith)
names_on_lem (plain n) N h = put_first N n (omega arith)
names_on_lem (into p n) N h =
    let k : ℕ = names_in p in
    names_on_lem p (set N k n) (omega (arith, length-set N k n, h))
    ∙ (ap (λ (ys : List ℕ). names_of p ++ ys) (put_drop N k n (omega arith)) ∙ sym (append_assoc (names_of p) (n ∷ []) (drop (suc k) N)))

names_padded : (p : Path) → names_in p ≤ names_limit → names_on p (replicate 16 0) ≡ padded (names_of p)
unfolding padded
names_padded p h =
    names_on_lem p (replicate 16 0) (omega (arith, length-replicate {A = ℕ} 16 0, h)) ∙ ap (λ (k : ℕ). names_of p ++ drop k (replicate 16 0))
    (sym (length_names p))

-- the number of names goes by the link alone
names_any : (f : ℕ → Path) (k x y : ℕ) → names_in (path_from f k x) ≡ names_in (path_from f k y)
unfolding path_from names_in
names_any f zero x y = refl
names_any f (suc zero) x y = refl
names_any f (suc (suc zero)) x y = refl
names_any f (suc (suc (suc j))) x y = refl

names_low : (f : ℕ → Path) (k x : ℕ) → (k ≡ 0 → ⊥) → k ≤ 2 → names_in (path_from f k x) ≡ 1
unfolding path_from names_in
names_low f zero x z h = absurd (z refl)
names_low f (suc zero) x z h = refl
names_low f (suc (suc zero)) x z h = refl
names_low f (suc (suc (suc j))) x z h = absurd (omega arith)

-- keywords by their numbers

pub kind_crate : (n : ℕ) → n ≡ 0 → Crate ≡ keyword_kind (keyword_from n)
unfolding keyword_kind keyword_from
kind_crate n e = rw e

pub kind_self : (n : ℕ) → n ≡ 1 → SelfModule ≡ keyword_kind (keyword_from n)
unfolding keyword_kind keyword_from
kind_self n e = rw e

pub kind_super : (n : ℕ) → (n ≡ 0 → ⊥) → (n ≡ 1 → ⊥) → Super ≡ keyword_kind (keyword_from n)
unfolding keyword_kind keyword_from
kind_super zero a b = absurd (a refl)
kind_super (suc zero) a b = absurd (b refl)
kind_super (suc (suc n)) a b = refl

pub supers_of_number : (n : ℕ) → n - 1 ≡ keyword_supers (keyword_from n)
unfolding keyword_supers keyword_from
supers_of_number zero = refl
supers_of_number (suc n) = omega arith

-- Counting: so many names are counted, those by the link k are left.
pub record Counted (A : List ℕ) (n link count k : ℕ) : Type 0 where
  pub same : (x : ℕ) → names_in (path_from (path_at A) link x) ≡ count + names_in (path_from (path_at A) k x)
  pub few : count + k ≤ link
  pub low : k < n + 3

-- Reading: the names by the link k and the name x are left, j of them.
pub record Unwound (A : List ℕ) (n link name : ℕ) (N : List ℕ) (k x j : ℕ) : Type 0 where
  pub names : names_on (path_from (path_at A) link name) (replicate 16 0) ≡ names_on (path_from (path_at A) k x) N
  pub kind : kind_of (path_from (path_at A) link name) ≡ kind_of (path_from (path_at A) k x)
  pub supers : supers_of (path_from (path_at A) link name) ≡ supers_of (path_from (path_at A) k x)
  pub left : j ≡ names_in (path_from (path_at A) k x)
  pub few : j ≤ names_limit
  pub low : k < n + 3

module _ (A : List ℕ) (n : ℕ) (linked : (i : ℕ) → i < n → link_at A i < i + 3) where
  -- a link to a row
  module _ {k : ℕ} (far : 2 < k) (low : k < n + 3) where
    abbrev row : ℕ
    row = k - 3

    below : row < n
    below = omega (arith, far, low)

    above : row + 3 ≡ k
    above = omega (arith, far)

    abbrev next : Path
    next = path_from (path_at A) (link_at A (k - 3)) (name_at A (k - 3))

    step_path : (x : ℕ) → path_from (path_at A) k x ≡ into next x
    step_path x =
        ap (λ (j : ℕ). path_from (path_at A) j x) (sym above)
        ∙ (link_into (path_at A) row x ∙ ap (λ (p : Path). into p x) (row_path A n linked row below))

    pub link_less : link_at A (k - 3) < k
    link_less = let l = linked row below in omega (arith, l, above)

  pub counted_start : (link : ℕ) → link < n + 3 → Counted A n link 0 link
  counted_start link h = record { same = λ x. omega arith; few = omega arith; low = h }

  pub counted_next : {link count k w : ℕ} → Counted A n link count k → 2 < k → w ≡ link_at A (k - 3) → Counted A n link (count + 1) w
  unfolding names_in
  counted_next {link} {count} {k} {w} inv far ew =
      let less = link_less far inv.low in
      let few = inv.few in
      let low = inv.low in
      record {
        same = λ x.
            let here : names_in (path_from (path_at A) k x) ≡ suc (names_in (next far inv.low)) = ap names_in (step_path far inv.low x) in
            let there : names_in (next far inv.low) ≡ names_in (path_from (path_at A) w x) =
            names_any (path_at A) (link_at A (k - 3)) (name_at A (k - 3)) x ∙ ap (λ (j : ℕ). names_in (path_from (path_at A) j x)) (sym ew) in
            omega (arith, inv.same x, here, there);
        few = omega (arith, less, ew, few);
        low = omega (arith, less, ew, low);
      }

  pub counted_keyword : {link count k : ℕ} → Counted A n link count k → k ≡ 0 → (x : ℕ) → count ≡ names_in (path_from (path_at A) link x)
  unfolding path_from names_in
  counted_keyword {k = k} inv z x =
      let none : names_in (path_from (path_at A) k x) ≡ 0 = ap (λ (j : ℕ). names_in (path_from (path_at A) j x)) z in omega (arith, inv.same x, none)

  pub counted_name : {link count k c : ℕ} → Counted A n link count k → (k ≡ 0 → ⊥) → k ≤ 2 → c ≡ count + 1 → (x : ℕ)
      → c ≡ names_in (path_from (path_at A) link x)
  counted_name {k = k} inv z h ec x = omega (arith, inv.same x, names_low (path_at A) k x z h, ec)

  pub unwound_start : (link name count : ℕ) → link < n + 3 → count ≤ names_limit → count ≡ names_in (path_from (path_at A) link name)
      → Unwound A n link name (replicate 16 0) link name count
  unwound_start link name count low few e = record { names = refl; kind = refl; supers = refl; left = e; few = few; low = low }

  module _ {link name : ℕ} {N : List ℕ} {k x j : ℕ} (inv : Unwound A n link name N k x j) where
    -- a name is left
    pub unwound_more : 2 < k → 0 < j
    unfolding names_in
    unwound_more far = omega (arith, inv.left, ap names_in (step_path far inv.low x))

    pub unwound_next : {M : List ℕ} {w y i : ℕ} → 2 < k → i ≡ j - 1 → M ≡ set N i x → w ≡ link_at A (k - 3) → y ≡ name_at A (k - 3)
        → Unwound A n link name M w y i
    unfolding names_on names_in kind_of supers_of
    unwound_next {M} {w} {y} {i} far ei em ew ey =
        let here = step_path far inv.low x in
        let there : next far inv.low ≡ path_from (path_at A) w y = ap₂ (path_from (path_at A)) (sym ew) (sym ey) in
        let whole : path_from (path_at A) k x ≡ into (path_from (path_at A) w y) x = here ∙ ap (λ (p : Path). into p x) there in
        let count : suc (names_in (path_from (path_at A) w y)) ≡ j = sym (inv.left ∙ ap names_in whole) in
        let at : i ≡ names_in (path_from (path_at A) w y) = omega (arith, count, ei) in
        let less = link_less far inv.low in
        let few = inv.few in
        let low = inv.low in
        record {
          names = inv.names ∙ (ap (λ (p : Path). names_on p N) whole
              ∙ ap (names_on (path_from (path_at A) w y)) (ap (λ (z : ℕ). set N z x) (sym at) ∙ sym em));
          kind = inv.kind ∙ ap kind_of whole;
          supers = inv.supers ∙ ap supers_of whole;
          left = at;
          few = omega (arith, few, ei);
          low = omega (arith, less, ew, low);
        }

    module _ {count : ℕ} (few : count ≤ names_limit) (ec : count ≡ names_in (path_from (path_at A) link name)) where
      told : {d : PathKind} {u : ℕ} {M : List ℕ} → M ≡ names_on (path_from (path_at A) k x) N → d ≡ kind_of (path_from (path_at A) k x)
          → u ≡ supers_of (path_from (path_at A) k x)
          → record { kind = d; supers = u; names = M; count = count } ≡ tell (path_from (path_at A) link name)
      told em ed eu =
          let p : Path = path_from (path_at A) link name in
          tell_made p (omega (arith, few, ec)) (ed ∙ sym inv.kind) (eu ∙ sym inv.supers)
          (em ∙ (sym inv.names ∙ names_padded p (omega (arith, few, ec)))) ec

      pub unwound_keyword : {d : PathKind} {u : ℕ} → k ≡ 0 → d ≡ keyword_kind (keyword_from x) → u ≡ keyword_supers (keyword_from x)
          → record { kind = d; supers = u; names = N; count = count } ≡ tell (path_from (path_at A) link name)
      unfolding names_on kind_of supers_of path_from
      unwound_keyword z ed eu =
          let q : path_from (path_at A) k x ≡ keyword (keyword_from x) = ap (λ (j : ℕ). path_from (path_at A) j x) z in
          told (sym (ap (λ (p : Path). names_on p N) q)) (ed ∙ sym (ap kind_of q)) (eu ∙ sym (ap supers_of q))

      pub unwound_absolute : {d : PathKind} {M : List ℕ} → k ≡ 1 → d ≡ Absolute → M ≡ set N 0 x
          → record { kind = d; supers = 0; names = M; count = count } ≡ tell (path_from (path_at A) link name)
      unfolding names_on kind_of supers_of path_from
      unwound_absolute z ed em =
          let q : path_from (path_at A) k x ≡ absolute x = ap (λ (j : ℕ). path_from (path_at A) j x) z in
          told (em ∙ sym (ap (λ (p : Path). names_on p N) q)) (ed ∙ sym (ap kind_of q)) (sym (ap supers_of q))

      pub unwound_plain : {d : PathKind} {M : List ℕ} → (k ≡ 0 → ⊥) → (k ≡ 1 → ⊥) → k ≤ 2 → d ≡ Plain → M ≡ set N 0 x
          → record { kind = d; supers = 0; names = M; count = count } ≡ tell (path_from (path_at A) link name)
      unfolding names_on kind_of supers_of path_from
      unwound_plain a b h ed em =
          let z : k ≡ 2 = omega (arith, a, b, h) in
          let q : path_from (path_at A) k x ≡ plain x = ap (λ (j : ℕ). path_from (path_at A) j x) z in
          told (em ∙ sym (ap (λ (p : Path). names_on p N) q)) (ed ∙ sym (ap kind_of q)) (sym (ap supers_of q))
