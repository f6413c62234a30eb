-- The shortest path is a shortest path.
use Prim.Native.Nat.{ℕ, suc, ◌≤◌, ◌<◌}
use mathlib.Core.Path.{◌≡◌, refl, sym, ap, subst, ◌∙◌}
use mathlib.Core.List.Memᴰ
use mathlib.Core.List.{[], ◌∷◌}
use mathlib.Core.Bool.{Bool, true, false, true≢false}
use Rattle.std.specs.Prelude.{Option, None, Some}
use mathlib.Core.Logic.{◌⊎◌, inl, inr, ⊎_elim}
use native.Mathlib.Omega.{arith}
use borrow.Author.Tests.{eq-eqb, lt-ltb, le-ltb, le-leb, lt-leb, ltb-true, ltb-false, leb-true, leb-false}
use lib.Dec.{ltb, leb}
use Rattle.snapshot.specs.Records.{Snapshot}
use Rattle.accept.proofs.Accepted.{by_test}
use Rattle.hir_def.specs.Items.{types, variant_kind, definition_of, ns_of, module_item, defined_item}
use Rattle.hir_def.specs.declared.Item.{Item}
use Rattle.hir_def.specs.declared.Item.TheVariants.{Mod, Def}
use Rattle.hir_def.proofs.Every.{each_in}
use Rattle.nameable.specs.Seen.{is_variant}
use Rattle.nameable.specs.Paths.{Path, keyword, absolute, plain, into, names_in, is_plain, Named, named, variants_in, within, item_in, means, Names}
use Rattle.nameable.specs.Breadth.{arrival, turns, first_to, checked_path, variant_after, by_enum, shorter, shortest_of, shortest, found, longer}
use Rattle.nameable.specs.Breadth.{names_limit, up_to, any_path}
use Rattle.nameable.specs.Right.{Right}
use Rattle.nameable.proofs.Lists.{none_some}
use Rattle.nameable.proofs.Reached.{named_in_lem, into_means, into_from, Plenty, variant_named_lem, variants_def}
use Rattle.nameable.proofs.Arrives.{first_to_lem, to_first, arrives_good, arrives_on, arrives_meets, Flat, never_after}

-- p is right, and as short as any of Q; or there is none of Q
abbrev pub Least : (P Q : Path → Type 0) → Option Path → Type 0
Least P Q None = (q : Path) → Q q → ⊥
Least P Q (Some p) = P p × ((q : Path) → Q q → names_in p ≤ names_in q)

pub shorter_second : (p q : Path) → names_in q < names_in p → shorter (Some p) (Some q) ≡ Some q
unfolding shorter
shorter_second p q h = rw (shorter, lt-ltb (names_in q) (names_in p) h)

pub shorter_first : (p q : Path) → names_in p ≤ names_in q → shorter (Some p) (Some q) ≡ Some p
unfolding shorter
shorter_first p q h = rw (shorter, le-ltb (names_in q) (names_in p) h)

-- a path is told where it has few enough names
pub up_yes : (p : Path) → names_in p ≤ names_limit → up_to names_limit (Some p) ≡ found p
unfolding up_to
up_yes p h = rw (up_to, le-leb (names_in p) names_limit h)

pub up_no : (p : Path) → names_limit < names_in p → up_to names_limit (Some p) ≡ longer
unfolding up_to
up_no p h = rw (up_to, lt-leb (names_in p) names_limit h)

module _ (P Q R : Path → Type 0) where
  pub shorter_least : (a b : Option Path) → Least P Q a → Least P R b → Least P (λ x. Q x ⊎ R x) (shorter a b)
  unfolding shorter
  shorter_least None None f g = λ x. ⊎_elim (f x) (g x)
  shorter_least None (Some q) f g = (g.0, λ x. ⊎_elim (λ h. absurd (f x h)) (g.1 x))
  shorter_least (Some p) None f g = (f.0, λ x. ⊎_elim (f.1 x) (λ h. absurd (g x h)))
  shorter_least (Some p) (Some q) f g =
      by_test (ltb (names_in q) (names_in p))
      (λ t.
      let l : names_in q < names_in p = ltb-true (names_in q) (names_in p) t in
      subst (Least P (λ x. Q x ⊎ R x)) (sym (shorter_second p q l)) (g.0, λ x. ⊎_elim (λ h. omega (arith, f.1 x h)) (g.1 x)))
      (λ t.
      let l : names_in p ≤ names_in q = ltb-false (names_in q) (names_in p) t in
      subst (Least P (λ x. Q x ⊎ R x)) (sym (shorter_first p q l)) (f.0, λ x. ⊎_elim (f.1 x) (λ h. omega (arith, g.1 x h))))

-- the number of a module or of a definition
abbrev number_of : Item → ℕ
number_of (Mod m) = m.0
number_of (Def ns d) = d.0

-- through an enum
abbrev Through : Snapshot → ℕ → Path → Type 0
Through s from (keyword k) = ⊥
Through s from (absolute n) = ⊥
Through s from (plain n) = ⊥
Through s from (into p n) = (k : ℕ) × (d : ℕ) × (means s from types p ≡ Some (defined_item k d))

module _ (s : Snapshot) (from : ℕ) where
  -- the path names the item, and begins with a name or doesn't
  pub record Mine (b : Bool) (item : Item) (q : Path) : Type 0 where
    pub names : Names s from item q
    pub plainly : is_plain q ≡ b

  pub record Flats (b : Bool) (item : Item) (q : Path) : Type 0 where
    pub mine : Mine b item q
    pub flat : Flat s from q

  pub record Enums (b : Bool) (item : Item) (q : Path) : Type 0 where
    pub mine : Mine b item q
    pub through : Through s from q

  -- each path that names something is of one of the two kinds
  either : (q : Path) (ns : ℕ) (x : Item) → means s from ns q ≡ Some x → Flat s from q ⊎ Through s from q
  either (keyword k) ns x e = inl tt
  either (absolute n) ns x e = inl tt
  either (plain n) ns x e = inl tt
  either (into p n) ns x e = let f = into_from s from ns n p x e in by_item f.0 f.1
    where
      by_item : (y : Item) → means s from types p ≡ Some y → Flat s from (into p n) ⊎ Through s from (into p n)
      by_item (Mod m) h = inl (m.0, h)
      by_item (Def k d) h = inr (k.0, d.0, h)

  module _ (plenty : Plenty s from) where
    pub arrival_least : (b : Bool) (item : Item) → Least (Mine b item) (Flats b item) (arrival b s from item)
    arrival_least b item = by_found (arrival b s from item) refl
      where
        by_found : (o : Option Path) → arrival b s from item ≡ o → Least (Mine b item) (Flats b item) o
        by_found None e = λ q h.
            let f = arrives_meets s from plenty item q b h.flat h.mine.plainly h.mine.names in
            never_after s from plenty b item e (names_in q) f.0 f.1
        by_found (Some p) e =
            let g = arrives_good s from item b (turns s) p e in (
              record { names = g.1; plainly = g.0.plainly },
              λ q h. by_test (leb (names_in q) (turns s))
                  (λ t.
                  let f = arrives_meets s from plenty item q b h.flat h.mine.plainly h.mine.names in
                  let a = arrives_on s from item b (names_in q) (turns s) f.0 (leb-true (names_in q) (turns s) t) f.1 in
                  let same : f.0 ≡ p = (let z : Some f.0 ≡ Some p = sym a ∙ e in cc) in
                  let l : names_in f.0 ≤ names_in q = (arrives_good s from item b (names_in q) f.0 f.1).0.short in
                  subst (λ (x : Path). names_in x ≤ names_in q) same l)
                  (λ t. omega (arith, leb-false (names_in q) (turns s) t, g.0.short)),
            )

    -- what a path through an enum to the definition d in a namespace goes by
    record ByEnum (d : ℕ) (p : Path) (n : ℕ) : Type 0 where
      variant : is_variant s d ≡ true
      enum : Names s from (defined_item types (definition_of s d).first) p
      flat : Flat s from p
      name : n ≡ (definition_of s d).second

    -- the member record by which a variant is named
    member_of_lem : (ns n e d : ℕ) → item_in (named n (variants_in s ns e)) ≡ Some (defined_item ns d)
        → ((definition_of s d).kind ≡ 2) × ((definition_of s d).first ≡ e) × ((definition_of s d).second ≡ n) × ((definition_of s e).kind ≡ 4)
    unfolding definition_of
    member_of_lem ns n e d h =
        let v = variant_named_lem s ns n e (defined_item ns d) h in
        let x = v.3.member in
        let a = named_in_lem n (variants_in s ns e) v.0 v.1 in
        let i : defined_item ns x.definition ≡ defined_item ns d = sym (ap (λ (y : Named). y.item) v.3.same) ∙ v.2 in
        let is : x.definition ≡ d = ap number_of i in
        let by : x.name ≡ n = sym (ap (λ (y : Named). y.name) v.3.same) ∙ a.1 in
        let u = each_in plenty.belongs v.3.listed in
        let w = u.variant v.3.kind in (
          ap (λ (y : ℕ). (definition_of s y).kind) (sym is) ∙ w.0,
          ap (λ (y : ℕ). (definition_of s y).first) (sym is) ∙ (w.1 ∙ v.3.parent),
          ap (λ (y : ℕ). (definition_of s y).second) (sym is) ∙ (w.2 ∙ by),
          ap (λ (y : ℕ). (definition_of s y).kind) (sym v.3.parent) ∙ u.parent,
        )

    -- an enum is no variant

    not_through : (p : Path) (e : ℕ) → means s from types p ≡ Some (defined_item types e) → (definition_of s e).kind ≡ 4 → Through s from p → ⊥
    unfolding within
    not_through (keyword k) e h i t = t
    not_through (absolute n) e h i t = t
    not_through (plain n) e h i t = t
    not_through (into p n) e h i t =
        let a = member_of_lem types n t.1 e (sym (into_means s from types n p (defined_item t.0 t.1) t.2) ∙ h) in omega (arith, a.0, i)

    enum_flat : (p : Path) (e : ℕ) → means s from types p ≡ Some (defined_item types e) → (definition_of s e).kind ≡ 4 → Flat s from p
    enum_flat p e h k = ⊎_elim (λ f. f) (λ t. absurd (not_through p e h k t)) (either p types (defined_item types e) h)

    by_enum_lem : (ns d : ℕ) (p : Path) (n : ℕ) → Names s from (defined_item ns d) (into p n) → Through s from (into p n) → ByEnum d p n
    unfolding within ns_of
    by_enum_lem ns d p n h t =
        let k = t.0 in
        let e = t.1 in
        let a = member_of_lem ns n e d (sym (into_means s from ns n p (defined_item k e) t.2) ∙ h) in
        let q : means s from types p ≡ Some (defined_item types e) = t.2 ∙ ap (λ (x : ℕ). Some (defined_item x e)) (plenty.typed p k e t.2) in
        record {
          variant = eq-eqb (definition_of s d).kind variant_kind a.0;
          enum = q ∙ ap (λ (x : ℕ). Some (defined_item types x)) (sym a.1);
          flat = enum_flat p e q a.3;
          name = sym a.2;
        }

    -- of the definition d in a namespace
    module _ (b : Bool) (ns d : ℕ) where
      abbrev enum : Item
      enum = defined_item types (definition_of s d).first

      abbrev variant_name : ℕ
      variant_name = (definition_of s d).second

      enum_yes : is_variant s d ≡ true
          → by_enum b s from (defined_item ns d) ≡ variant_after s from (defined_item ns d) variant_name (arrival b s from enum)
      unfolding by_enum
      enum_yes t = rw (by_enum, t)

      enum_no : is_variant s d ≡ false → by_enum b s from (defined_item ns d) ≡ None
      unfolding by_enum
      enum_no t = rw (by_enum, t)

      -- a path through an enum, taken apart
      record Parts (q : Path) : Type 0 where
        before : Path
        last : ℕ
        whole : q ≡ into before last
        by : ByEnum d before last
        flats : Flats b enum before

      parts : (q : Path) → Enums b (defined_item ns d) q → Parts q
      unfolding is_plain
      parts (keyword k) h = absurd h.through
      parts (absolute n) h = absurd h.through
      parts (plain n) h = absurd h.through
      parts (into p n) h =
          let e = by_enum_lem ns d p n h.mine.names h.through in
          record {
            before = p;
            last = n;
            whole = refl;
            by = e;
            flats = record { mine = record { names = e.enum; plainly = h.mine.plainly }; flat = e.flat };
          }

      after_some : (p : Path) → Least (Mine b enum) (Flats b enum) (Some p) → (o : Option Path)
          → first_to s from (defined_item ns d) (into p variant_name ∷ []) ≡ o → Least (Mine b (defined_item ns d)) (Enums b (defined_item ns d)) o
      unfolding names_in is_plain ns_of
      after_some p g None e = λ q h.
          let f = parts q h in
          let same : means s from ns (into p variant_name) ≡ Some (defined_item ns d) =
          into_means s from ns variant_name p enum g.0.names
          ∙ (sym (into_means s from ns variant_name f.before enum f.by.enum)
          ∙ (ap (λ (x : ℕ). means s from ns (into f.before x)) (sym f.by.name) ∙ (ap (means s from ns) (sym f.whole) ∙ h.mine.names))) in
          let a = to_first s from (defined_item ns d) (Memᴰ.head refl) same in
          none_some (sym e ∙ a.1)
      after_some p g (Some z) e =
          let f = first_to_lem s from (defined_item ns d) (into p variant_name ∷ []) z e in
          let same : z ≡ into p variant_name = Memᴰ.eq_of_singleton f.0 in
          let size : names_in z ≡ suc (names_in p) = ap names_in same in (
            record { names = f.1; plainly = ap is_plain same ∙ g.0.plainly },
            λ q h.
                let k = parts q h in
                let l : names_in p ≤ names_in k.before = g.1 k.before k.flats in
                let other : names_in q ≡ suc (names_in k.before) = ap names_in k.whole in
                omega (arith, l, size, other),
          )

      after_least : (o : Option Path) → Least (Mine b enum) (Flats b enum) o
          → Least (Mine b (defined_item ns d)) (Enums b (defined_item ns d)) (variant_after s from (defined_item ns d) variant_name o)
      unfolding variant_after checked_path
      after_least None g = λ q h. let f = parts q h in g f.before f.flats
      after_least (Some p) g = after_some p g (first_to s from (defined_item ns d) (into p variant_name ∷ [])) refl

      variant_least : Least (Mine b (defined_item ns d)) (Enums b (defined_item ns d)) (by_enum b s from (defined_item ns d))
      variant_least =
          by_test (is_variant s d)
          (λ t.
          subst (Least (Mine b (defined_item ns d)) (Enums b (defined_item ns d))) (sym (enum_yes t))
          (after_least (arrival b s from enum) (arrival_least b enum)))
          (λ t.
          subst (Least (Mine b (defined_item ns d)) (Enums b (defined_item ns d))) (sym (enum_no t))
          (λ q h. let f = parts q h in true≢false (sym f.by.variant ∙ t)))

    no_module_lem : (m : ℕ) (q : Path) → Names s from (module_item m) q → Through s from q → ⊥
    unfolding within ns_of
    no_module_lem m (into p n) h t = variants_def s types n t.1 m (sym (into_means s from types n p (defined_item t.0 t.1) t.2) ∙ h)
    no_module_lem m (keyword k) h t = t
    no_module_lem m (absolute n) h t = t
    no_module_lem m (plain n) h t = t

    enum_least : (b : Bool) (item : Item) → Least (Mine b item) (Enums b item) (by_enum b s from item)
    unfolding by_enum
    enum_least b (Mod m) = λ q h. no_module_lem m.0 q h.mine.names h.through
    enum_least b (Def ns d) = variant_least b ns.0 d.0

    module _ (item : Item) where
      kind_of_lem : (b : Bool) (q : Path) → Mine b item q → Flats b item q ⊎ Enums b item q
      kind_of_lem b q h =
          ⊎_elim (λ f. inl (record { mine = h; flat = f })) (λ t. inr (record { mine = h; through = t })) (either q (ns_of item) item h.names)

      widened : (b : Bool) (o : Option Path) → Least (Mine b item) (λ x. Flats b item x ⊎ Enums b item x) o → Least (Mine b item) (Mine b item) o
      widened b None g = λ q h. g q (kind_of_lem b q h)
      widened b (Some p) g = (g.0, λ q h. g.1 q (kind_of_lem b q h))

      one_least : (b : Bool) → Least (Mine b item) (Mine b item) (shortest_of b s from item)
      unfolding shortest_of
      one_least b =
          widened b (shorter (arrival b s from item) (by_enum b s from item))
          (shorter_least (Mine b item) (Flats b item) (Enums b item) (arrival b s from item) (by_enum b s from item)
          (arrival_least b item) (enum_least b item))

      -- as `Found`, whatever the number of names
      record Best (p : Path) : Type 0 where
        names : Names s from item p
        least : (q : Path) → Names s from item q → names_in p ≤ names_in q
        begins : is_plain p ≡ true → (q : Path) → Names s from item q → is_plain q ≡ false → names_in p < names_in q

      abbrev IsBest : Option Path → Type 0
      IsBest None = (q : Path) → Names s from item q → ⊥
      IsBest (Some p) = Best p

      abbrev Of : Bool → Option Path → Type 0
      Of b o = Least (Mine b item) (Mine b item) o

      by_kind : {C : Type 0} (q : Path) → Names s from item q → (Mine false item q → C) → (Mine true item q → C) → C
      by_kind q h f g =
          by_test (is_plain q) (λ t. g (record { names = h; plainly = t })) (λ t. f (record { names = h; plainly = t }))

      best : (a b : Option Path) → Of false a → Of true b → IsBest (shorter a b)
      unfolding shorter
      best None None f g = λ q h. by_kind q h (f q) (g q)
      best None (Some p) f g =
          record {
            names = g.0.names;
            least = λ q h. by_kind q h (λ k. absurd (f q k)) (g.1 q);
            begins = λ t q h k. absurd (f q (record { names = h; plainly = k }));
          }
      best (Some p) None f g =
          record {
            names = f.0.names;
            least = λ q h. by_kind q h (f.1 q) (λ k. absurd (g q k));
            begins = λ t q h k. absurd (true≢false (sym t ∙ f.0.plainly));
          }
      best (Some p) (Some r) f g =
          by_test (ltb (names_in r) (names_in p))
          (λ t.
          let l : names_in r < names_in p = ltb-true (names_in r) (names_in p) t in
          subst IsBest (sym (shorter_second p r l))
          (record {
            names = g.0.names;
            least = λ q h. by_kind q h (λ k. omega (arith, f.1 q k, l)) (g.1 q);
            begins = λ u q h k. omega (arith, f.1 q (record { names = h; plainly = k }), l);
          }))
          (λ t.
          let l : names_in p ≤ names_in r = ltb-false (names_in r) (names_in p) t in
          subst IsBest (sym (shorter_first p r l))
          (record {
            names = f.0.names;
            least = λ q h. by_kind q h (f.1 q) (λ k. omega (arith, g.1 q k, l));
            begins = λ u q h k. absurd (true≢false (sym u ∙ f.0.plainly));
          }))

      up_right : (o : Option Path) → IsBest o → Right s from item (up_to names_limit o)
      unfolding up_to
      up_right None g = λ a. g a.path a.names
      up_right (Some p) g =
          by_test (leb (names_in p) names_limit)
          (λ t.
          let l : names_in p ≤ names_limit = leb-true (names_in p) names_limit t in
          subst (Right s from item) (sym (up_yes p l)) (record { names = g.names; few = l; least = g.least; keyword = g.begins }))
          (λ t.
          let l : names_limit < names_in p = leb-false (names_in p) names_limit t in
          subst (Right s from item) (sym (up_no p l))
          (record { some = record { path = p; names = g.names }; many = λ q h. omega (arith, g.least q h, l) }))

      -- The answer is right.
      pub any_right : Right s from item (any_path s from item)
      unfolding any_path shortest
      any_right =
          up_right (shorter (shortest_of false s from item) (shortest_of true s from item))
          (best (shortest_of false s from item) (shortest_of true s from item) (one_least false) (one_least true))
