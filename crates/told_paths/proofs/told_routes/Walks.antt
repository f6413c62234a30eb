-- The names of a path, one after the other.
use Rattle.hir_def.specs.declared.Item.{Item}
use Rattle.std.specs.Prelude.{Option}
use Prim.Native.Nat.{ℕ, zero, suc, ◌+◌, ◌≤◌, ◌<◌}
use mathlib.Core.Path.{◌≡◌, refl, sym, ap, ap₂, ◌∙◌}
use mathlib.Core.List.{List, [], ◌∷◌, ◌++◌}
use native.Mathlib.Omega.{arith}
use borrow.Author.Tests.{eq-eqb, ne_eqb}
use lib.ListN.{length, length-append, get_or, set, replicate}
use Rattle.snapshot.specs.Records.{Snapshot}
use Rattle.snapshot.specs.declared.ids.PathKind.{PathKind}
use Rattle.snapshot.specs.declared.ids.PathKind.TheVariants.{Plain, SelfModule, Super, Crate, Absolute}
use Rattle.hir_def.specs.Items.{types}
use Rattle.nameable.specs.Paths.{Keyword, supers, crate, Path, keyword, absolute, plain, into, names_in, names_of, reads, item_in, place_in, route_of}
use Rattle.nameable.specs.Breadth.{names_limit}
use Rattle.told_paths.specs.declared.ToldPath.{ToldPath}
use Rattle.told_paths.specs.Tells.{keyword_kind, kind_of, keyword_supers, supers_of, padded, tell}
use Rattle.told_paths.proofs.Laws.{length_names, wholly, tell_few, pad_more}
use Rattle.told_paths.specs.told_routes.Routes.{keyword_by, first_path, next_path, path_by, ns_of_first}

-- What is told of a path puts it together again.

get_or_left : (xs ys : List ℕ) (i : ℕ) → i < length xs → get_or (xs ++ ys) i 0 ≡ get_or xs i 0
get_or_left [] ys i h = absurd (omega arith)
get_or_left (x ∷ xs) ys zero h = refl
get_or_left (x ∷ xs) ys (suc i) h = get_or_left xs ys i (omega arith)

get_or_last : (xs : List ℕ) (n : ℕ) → get_or (xs ++ (n ∷ [])) (length xs) 0 ≡ n
get_or_last [] n = refl
get_or_last (x ∷ xs) n = get_or_last xs n

keyword_by_lem : (k : Keyword) → keyword_by (keyword_kind k) (keyword_supers k) ≡ k
unfolding keyword_by keyword_kind keyword_supers
keyword_by_lem (supers zero) = refl
keyword_by_lem (supers (suc k)) = refl
keyword_by_lem crate = refl

into_by : (p : Path) (n : ℕ) → next_path (kind_of p) (names_in p) p n ≡ into p n
unfolding next_path first_path kind_of keyword_kind names_in
into_by (keyword (supers zero)) n = refl
into_by (keyword (supers (suc k))) n = refl
into_by (keyword crate) n = refl
into_by (absolute m) n = refl
into_by (plain m) n = refl
into_by (into p m) n = refl

-- the names of the list stand first in N
abbrev Begins : List ℕ → List ℕ → Type 0
Begins xs N = (i : ℕ) → i < length xs → get_or N i 0 ≡ get_or xs i 0

path_by_lem : (p : Path) (N : List ℕ) → Begins (names_of p) N → path_by (kind_of p) (supers_of p) N (names_in p) ≡ p
unfolding path_by kind_of supers_of names_in names_of next_path first_path
path_by_lem (keyword k) N h = ap keyword (keyword_by_lem k)
path_by_lem (absolute n) N h = ap absolute (h 0 (omega arith))
path_by_lem (plain n) N h = ap plain (h 0 (omega arith))
path_by_lem (into p n) N h =
    let size : length (names_of p) ≡ names_in p = length_names p in
    let more = length-append (names_of p) (n ∷ []) in
    let before : path_by (kind_of p) (supers_of p) N (names_in p) ≡ p =
    path_by_lem p N (λ i l. h i (omega (arith, l, more)) ∙ get_or_left (names_of p) (n ∷ []) i l) in
    let last : get_or N (names_in p) 0 ≡ n =
    ap (λ (i : ℕ). get_or N i 0) (sym size) ∙ (h (length (names_of p)) (omega (arith, more)) ∙ get_or_last (names_of p) n) in
    ap₂ (next_path (kind_of p) (names_in p)) before last ∙ into_by p n

pub told_by_lem : (p : Path) {t : ToldPath} → t ≡ tell p → names_in p ≤ names_limit → path_by t.kind t.supers t.names t.count ≡ p
unfolding padded
told_by_lem p {t} e h =
    let whole : t ≡ wholly p = e ∙ tell_few p h in
    ap (λ (u : ToldPath). path_by u.kind u.supers u.names u.count) whole
    ∙ path_by_lem p (padded (names_of p)) (λ i l. get_or_left (names_of p) _ i l)

module _ (s : Snapshot) (from : ℕ) (kind : PathKind) (u : ℕ) (N : List ℕ) where
  abbrev up_to : ℕ → Path
  up_to k = path_by kind u N k

  -- one record more
  abbrev More : ℕ → Path → Path → Type 0
  More ns p q = route_of s from ns q ≡ route_of s from types p ++ (place_in (reads s from ns q) ∷ [])

  first_more : (c : PathKind) (ns : ℕ) (w : Keyword) (n : ℕ) → More ns (keyword w) (first_path c (keyword w) n)
  unfolding route_of first_path
  first_more Plain ns w n = refl
  first_more Absolute ns w n = refl
  first_more SelfModule ns w n = refl
  first_more Super ns w n = refl
  first_more Crate ns w n = refl

  route_more : (ns k : ℕ) → More ns (up_to k) (up_to (suc k))
  unfolding path_by next_path route_of
  route_more ns zero = first_more kind ns (keyword_by kind u) (get_or N 0 0)
  route_more ns (suc k) = refl

  route_size : (ns k : ℕ) → length (route_of s from ns (up_to k)) ≡ k
  unfolding path_by route_of
  route_size ns zero = refl
  route_size ns (suc k) =
      let more = length-append (route_of s from types (up_to k)) (place_in (reads s from ns (up_to (suc k))) ∷ []) in
      ap length (route_more ns k) ∙ omega (arith, more, route_size types k)

-- k names of so many are read: the route, and what is meant
pub record Walked (s : Snapshot) (from ns : ℕ) (kind : PathKind) (u : ℕ) (N : List ℕ) (count : ℕ) (here : Option Item) (route : List ℕ)
    (k : ℕ) : Type 0 where
  pub few : k ≤ count
  pub places : route ≡ padded (route_of s from (ns_of_first ns count k) (path_by kind u N k))
  pub means : here ≡ item_in (reads s from (ns_of_first ns count k) (path_by kind u N k))

module _ (s : Snapshot) (from ns : ℕ) (kind : PathKind) (u : ℕ) (N : List ℕ) (count : ℕ) where
  pub walked_start : {here : Option Item} → here ≡ item_in (reads s from types (keyword (keyword_by kind u)))
      → Walked s from ns kind u N count here (replicate 16 0) 0
  unfolding path_by route_of padded reads
  walked_start e = record { few = omega arith; places = refl; means = e }

  in_types : (k : ℕ) → k < count → ns_of_first ns count k ≡ types
  unfolding ns_of_first
  in_types k h = rw (ns_of_first, ne_eqb k count (λ z. omega (arith, h, z)))

  module _ {here : Option Item} {route : List ℕ} {k : ℕ} (w : Walked s from ns kind u N count here route k) (less : k < count) where
    -- what the next name is read after
    pub walked_here : here ≡ item_in (reads s from types (path_by kind u N k))
    walked_here = w.means ∙ ap (λ (j : ℕ). item_in (reads s from j (path_by kind u N k))) (in_types k less)

    pub walked_next : count ≤ names_limit → {on : Option Item} {place i : ℕ} → i ≡ ns_of_first ns count (k + 1)
        → on ≡ item_in (reads s from i (next_path kind k (path_by kind u N k) (get_or N k 0)))
        → place ≡ place_in (reads s from i (next_path kind k (path_by kind u N k) (get_or N k 0)))
        → Walked s from ns kind u N count on (set route k place) (k + 1)
    unfolding path_by
    walked_next limit {place = place} {i} ei eo ep =
        let j : k + 1 ≡ suc k = omega arith in
        let its : Path = path_by kind u N (suc k) in
        let R : List ℕ = route_of s from types (path_by kind u N k) in
        let size : length R ≡ k = route_size s from kind u N types k in
        let before : route ≡ padded R = w.places ∙ ap (λ (y : ℕ). padded (route_of s from y (path_by kind u N k))) (in_types k less) in
        let set_there : set route k place ≡ padded (R ++ (place ∷ [])) =
        ap₂ (λ (ys : List ℕ) (y : ℕ). set ys y place) before (sym size) ∙ pad_more R place (omega (arith, size, less, limit)) in
        let there : R ++ (place ∷ []) ≡ route_of s from i its =
        ap (λ (y : ℕ). R ++ (y ∷ [])) ep ∙ sym (route_more s from kind u N i k) in
        record {
          few = omega (arith, less);
          places = set_there ∙ (ap padded there ∙ ap₂ (λ (y z : ℕ). padded (route_of s from y (path_by kind u N z))) ei (sym j));
          means = eo ∙ ap₂ (λ (y z : ℕ). item_in (reads s from y (path_by kind u N z))) ei (sym j);
        }

  pub walked_done : {here : Option Item} {route : List ℕ} {k : ℕ} → Walked s from ns kind u N count here route k → count ≤ k
      → route ≡ padded (route_of s from ns (path_by kind u N count))
  unfolding ns_of_first
  walked_done {k = k} w h =
      let f = w.few in
      let e : k ≡ count = omega (arith, f, h) in
      let here : ns_of_first ns count k ≡ ns = rw (ns_of_first, eq-eqb k count e) in
      w.places ∙ ap₂ (λ (y z : ℕ). padded (route_of s from y (path_by kind u N z))) here e
