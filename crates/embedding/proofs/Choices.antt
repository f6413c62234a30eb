-- Names of an embedded snapshot, and choices that are the same but for the numbers of their names and their routes.
use Prim.Native.Nat.{ℕ, zero, suc, ◌+◌, ◌<◌, compare}
use mathlib.Core.Path.{◌≡◌, refl, sym, ◌∙◌, ap, ap₂, subst}
use mathlib.Core.List.{List, [], ◌∷◌}
use mathlib.Core.Bool.{Bool, true, false, ◌&&◌, ◌||◌}
use native.Mathlib.Omega.{arith}
use lib.Dec.{eqb, ltb}
use lib.ListN.{length, get_or, take, set, length-set}
use Rattle.snapshot.specs.Lists.{eq_list}
use Rattle.snapshot.specs.Records.{Snapshot, Name}
use Rattle.find_path_choice.specs.Choices.{Choice}
use Rattle.find_path_choice.specs.Choices.{name_data, name_len, is_prelude, path_kind_len, path_len, nothing, keyword, choice_new, extended, push}
use Rattle.find_path_choice.specs.Choices.{unstably}
use Rattle.find_path_choice.specs.Choices.{compare_bool, and_then, compare_prelude, taken, better, try_select, shorter_if, length_left}
use Rattle.join_rules.specs.Joined.{Numbers}
use Rattle.embedding.specs.Embeds.{Embeds}
use Rattle.embedding.proofs.Lookups.{Along, end, next}

-- a name of the snapshot, and where it goes
abbrev pub Named : Numbers → Snapshot → ℕ → ℕ → Type 0
Named e s n k = (n < length s.names) × (k ≡ e.names n)

-- the second choice, in the larger snapshot, is the first: the same path in other numbers, by a route of as many steps
pub record Alike (e : Numbers) (s : Snapshot) (c d : Choice) : Type 0 where
  pub found : d.found ≡ c.found
  pub kind : d.kind ≡ c.kind
  pub count : d.count ≡ c.count
  pub text : d.path_text_len ≡ c.path_text_len
  pub stable : d.stable ≡ c.stable
  pub prelude : d.has_prelude_segment ≡ c.has_prelude_segment
  pub steps : d.steps ≡ c.steps
  pub wide : length d.names ≡ length c.names
  pub names : Along (Named e s) (take c.count c.names) (take c.count d.names)

-- one element more, where there is room for it
put_along : {A : Type 0} {R : A → A → Type 0} (k : ℕ) (n m : A) (xs zs : List A) → length zs ≡ length xs → R n m → Along R (take k xs) (take k zs)
    → Along R (take (suc k) (set xs k n)) (take (suc k) (set zs k m))
put_along k n m [] [] l r a = end
put_along k n m [] (z ∷ zs) l r a = absurd (omega arith)
put_along k n m (x ∷ xs) [] l r a = absurd (omega arith)
put_along zero n m (x ∷ xs) (z ∷ zs) l r a = next r end
put_along (suc k) n m (x ∷ xs) (z ∷ zs) l r (next h a) = let q : length zs ≡ length xs = omega arith in next h (put_along k n m xs zs q r a)

-- by the same test, the one pair or the other
module _ {e : Numbers} {s : Snapshot} {c d o p : Choice} where
  chosen : (b : Bool) → Alike e s c d → Alike e s o p → Alike e s (elim b [ true ↦ c | false ↦ o ]) (elim b [ true ↦ d | false ↦ p ])
  chosen true r q = r
  chosen false r q = q

  pub by_same : {a b : Bool} → b ≡ a → Alike e s c d → Alike e s o p → Alike e s (elim a [ true ↦ c | false ↦ o ]) (elim b [ true ↦ d | false ↦ p ])
  by_same {a} t r q = subst (λ y. Alike e s (elim a [ true ↦ c | false ↦ o ]) (elim y [ true ↦ d | false ↦ p ])) (sym t) (chosen a r q)

module _ (e : Numbers) (s u : Snapshot) (em : Embeds e s u) where
  -- the texts of names

  pub name_moved : (n : ℕ) → n < length s.names → name_data u (e.names n) ≡ name_data s n
  unfolding name_data
  name_moved n l = em.names n l

  pub name_len_moved : (n : ℕ) → n < length s.names → name_len u (e.names n) ≡ name_len s n
  name_len_moved n l = ap (λ (x : Name). x.bytes) (name_moved n l)

  pub is_prelude_moved : (n : ℕ) → n < length s.names → is_prelude u (e.names n) ≡ is_prelude s n
  unfolding is_prelude
  is_prelude_moved n l = ap (λ (x : Name). eqb x.bytes 7 && eq_list x.text (0x657270 ∷ 0x64756C ∷ 0x65 ∷ [])) (name_moved n l)

  -- choices without names

  pub nothing_alike : Alike e s nothing nothing
  nothing_alike =
      record { found = refl; kind = refl; count = refl; text = refl; stable = refl; prelude = refl; steps = refl; wide = refl; names = end }

  pub keyword_alike : (k : ℕ) → Alike e s (keyword k) (keyword k)
  unfolding keyword
  keyword_alike k =
      record { found = refl; kind = refl; count = refl; text = refl; stable = refl; prelude = refl; steps = refl; wide = refl; names = end }

  -- one name, or one name more

  pub choice_new_alike : (k n t t' : ℕ) → n < length s.names → Alike e s (choice_new s k n t) (choice_new u k (e.names n) t')
  unfolding choice_new
  choice_new_alike k n t t' l =
      record {
        found = refl;
        kind = refl;
        count = refl;
        text = ap (λ i. path_kind_len k + i) (name_len_moved n l);
        stable = refl;
        prelude = is_prelude_moved n l;
        steps = refl;
        wide = refl;
        names = next (l, refl) end;
      }

  module _ {c d : Choice} (a : Alike e s c d) where
    pub path_len_alike : path_len d ≡ path_len c
    unfolding path_len
    path_len_alike = λ i. get_or (0 ∷ 0 ∷ 1 ∷ 1 ∷ 0 ∷ []) (a.kind i) 0 + a.count i

    pub length_left_alike : (left : ℕ) → length_left left d ≡ length_left left c
    unfolding length_left
    length_left_alike left = ap₂ (λ b n. shorter_if b left n) a.found path_len_alike

    pub unstably_alike : Alike e s (unstably c) (unstably d)
    unfolding unstably
    unstably_alike =
        record {
          found = a.found;
          kind = a.kind;
          count = a.count;
          text = a.text;
          stable = refl;
          prelude = a.prelude;
          steps = a.steps;
          wide = a.wide;
          names = a.names;
        }

    module _ (n t t' : ℕ) (l : n < length s.names) where
      extended_names : Along (Named e s) (take (c.count + 1) (set c.names c.count n))
          (take (c.count + 1) (set d.names d.count (e.names n)))
      extended_names =
          let q : suc c.count ≡ c.count + 1 = omega arith in
          subst (λ k. Along (Named e s) (take (c.count + 1) (set c.names c.count n)) (take (c.count + 1) (set d.names k (e.names n))))
          (sym a.count)
          (subst (λ k. Along (Named e s) (take k (set c.names c.count n)) (take k (set d.names c.count (e.names n)))) q
          (put_along c.count n (e.names n) c.names d.names a.wide (l, refl) a.names))

      pub extended_alike : {f g : Bool} → g ≡ f → Alike e s (extended s c n t f) (extended u d (e.names n) t' g)
      unfolding extended
      extended_alike flag =
          record {
            found = refl;
            kind = a.kind;
            count = ap (λ i. i + 1) a.count;
            text = ap₂ (λ i j. i + j) a.text (name_len_moved n l);
            stable = a.stable;
            prelude = flag;
            steps = ap (λ i. i + 1) a.steps;
            wide = length-set d.names d.count (e.names n) ∙ a.wide ∙ sym (length-set c.names c.count n);
            names = extended_names;
          }

      pub push_alike : Alike e s (push s c n t) (push u d (e.names n) t')
      unfolding push
      push_alike = extended_alike (ap₂ (λ i j. i || j) a.prelude (is_prelude_moved n l))

  -- the newcomer is compared alike, and taken alike
  module _ {c d o p : Choice} (a : Alike e s c d) (b : Alike e s o p) (prefer : Bool) (n : ℕ) (l : n < length s.names) where
    pub better_alike : better u prefer d p (e.names n) ≡ better s prefer c o n
    unfolding better
    better_alike =
        let q = path_len_alike a in
        let r = path_len_alike b in
        let k = name_len_moved n l in
        λ i.
        taken
        (and_then (compare_bool (b.stable i) (a.stable i))
        (and_then (compare_prelude prefer (a.prelude i) (b.prelude i)) (compare (q i) (r i + 1))))
        (ltb (b.text i + k i) (a.text i))

    pub try_select_alike : (t t' : ℕ) → Alike e s (try_select s prefer c o n t) (try_select u prefer d p (e.names n) t')
    unfolding try_select
    try_select_alike t t' =
        by_same a.found (by_same better_alike (extended_alike b n t t' l b.prelude) a) (push_alike b n t t' l)
