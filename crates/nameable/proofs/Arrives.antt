-- A path to the item with at most k names is found where there is one, but for those through an enum.
use Prim.Native.Nat.{ℕ, zero, suc, ◌+◌, ◌≤◌, ◌<◌}
use mathlib.Core.Path.{◌≡◌, refl, sym, ap, ◌∙◌}
use mathlib.Core.List.Memᴰ
use mathlib.Core.List.{List, [], ◌∷◌, ◌++◌, Memᴰ}
use mathlib.Core.Bool.{Bool, true, false, or-true, true≢false}
use Rattle.std.specs.Prelude.{Option, None, Some}
use mathlib.Core.Logic.{◌⊎◌, inl, inr, ⊎_elim}
use native.Mathlib.Omega.{arith}
use borrow.Author.Tests.{eq-eqb, leb-true, leb-false}
use lib.Dec.{leb}
use lib.ListN.{length}
use Rattle.snapshot.specs.Records.{Snapshot}
use Rattle.accept.proofs.Accepted.{by_test}
use Rattle.module_tree.proofs.Laws.{by_option}
use Rattle.hir_def.specs.Finds.{or_first}
use Rattle.hir_def.specs.Items.{types, ns_of, module_item}
use Rattle.hir_def.specs.declared.Item.{Item}
use Rattle.hir_def.specs.declared.Item.TheVariants.{Mod, Def}
use Rattle.hir_def.proofs.Same.{same_item_lem, same_self}
use Rattle.hir_def.proofs.Every.{each_append, each_in}
use Rattle.nameable.specs.Paths.{Keyword, reads, Path, keyword, absolute, plain, into, names_in, is_plain, named, within, item_in, means, Names}
use Rattle.nameable.specs.Breadth.{Way, is_met, with_meaning, added, nameless, single, onward, reached, is_item, first_to, arrives, arrival}
use Rattle.nameable.specs.Queue.{passing}
use Rattle.nameable.proofs.Lists.{none_some, first_found_lem, first_some_lem, map_in_lem, passing_few, passing_more, passing_less}
use Rattle.nameable.proofs.Reached.{way_to, met_snoc, with_old, with_new, added_keeps, Near, near_more, nameless_near}
use Rattle.nameable.proofs.Reached.{single_near, onward_near, reached_good, into_means, onward_means, absolute_in, plain_in_lem, Plenty}
use Rattle.nameable.proofs.Reached.{reached_meets}

pub is_item_lem : (x : Item) (o : Option Item) → is_item x o ≡ true → o ≡ Some x
unfolding is_item
is_item_lem x None e = absurd (true≢false (sym e))
is_item_lem x (Some y) e = ap Some (same_item_lem y x e)

pub item_is : (x : Item) (o : Option Item) → o ≡ Some x → is_item x o ≡ true
unfolding is_item
item_is x o e = rw e (same_self x)

pub or_first_none : {A : Type 0} (a b : Option A) → a ≡ None → or_first a b ≡ b
unfolding or_first
or_first_none a b e = rw e

or_none_lem : {A : Type 0} (a b : Option A) → or_first a b ≡ None → b ≡ None
unfolding or_first
or_none_lem None b e = e
or_none_lem (Some x) b e = absurd (none_some (sym e))

pub or_first_some : {A : Type 0} (a b : Option A) (x : A) → a ≡ Some x → or_first a b ≡ Some x
unfolding or_first
or_first_some a b x e = rw e

module _ (s : Snapshot) (from : ℕ) (item : Item) where
  pub first_to_lem : (ps : List Path) (q : Path) → first_to s from item ps ≡ Some q → Memᴰ q ps × Names s from item q
  unfolding first_to
  first_to_lem ps q e =
      let f = first_found_lem (λ (p : Path). is_item item (means s from (ns_of item) p)) ps q e in
      (f.0, is_item_lem item (means s from (ns_of item) q) f.1)

  pub to_first : {ps : List Path} {q : Path} → Memᴰ q ps → Names s from item q → (z : Path) × (first_to s from item ps ≡ Some z)
  unfolding first_to
  to_first {q = q} m h = first_some_lem (λ (p : Path). is_item item (means s from (ns_of item) p)) m (item_is item (means s from (ns_of item) q) h)

  module _ (b : Bool) where
    -- what a turn adds to the paths found
    abbrev turn : ℕ → Option Path
    turn k = first_to s from item (onward s from (ns_of item) (reached b s from k) ++ single b s from (ns_of item))

    pub arrives_good : (k : ℕ) (q : Path) → arrives b s from item k ≡ Some q → Near b k q × Names s from item q
    unfolding arrives
    arrives_good zero q e = let f = first_to_lem (nameless b s) q e in (each_in (nameless_near s from b) f.0, f.1)
    arrives_good (suc k) q e =
        by_option (arrives b s from item k)
        (λ z.
        let f = first_to_lem (onward s from (ns_of item) (reached b s from k) ++ single b s from (ns_of item)) q
        (sym (or_first_none (arrives b s from item k) (turn k) z) ∙ e) in
        let near = each_append (onward_near s from b (ns_of item) k (reached_good s from b k)) (single_near s from b (ns_of item) k) in
        (each_in near f.0, f.1))
        (λ x z.
        let g : arrives b s from item k ≡ Some q = z ∙ (sym (or_first_some (arrives b s from item k) (turn k) x z) ∙ e) in
        let f = arrives_good k q g in
        (near_more q f.0, f.1))

    arrives_next : (k : ℕ) (q : Path) → arrives b s from item k ≡ Some q → arrives b s from item (suc k) ≡ Some q
    unfolding arrives
    arrives_next k q e = or_first_some (arrives b s from item k) (turn k) q e

    pub arrives_on : (k j : ℕ) (q : Path) → k ≤ j → arrives b s from item k ≡ Some q → arrives b s from item j ≡ Some q
    arrives_on k zero q h e = let z : k ≡ 0 = omega arith in ap (arrives b s from item) (sym z) ∙ e
    arrives_on k (suc j) q h e =
        by_test (leb k j)
        (λ t. arrives_next j q (arrives_on k j q (leb-true k j t) e))
        (λ t. let l : j < k = leb-false k j t in let z : k ≡ suc j = omega arith in ap (arrives b s from item) (sym z) ∙ e)

    turn_arrives : (k : ℕ) → ((z : Path) × (turn k ≡ Some z)) → (q : Path) × (arrives b s from item (suc k) ≡ Some q)
    unfolding arrives
    turn_arrives k f =
        by_option (arrives b s from item k)
        (λ z. (f.0, or_first_none (arrives b s from item k) (turn k) z ∙ f.1))
        (λ x z. (x, or_first_some (arrives b s from item k) (turn k) x z))

-- a keyword means the same in every namespace
keyword_means : (s : Snapshot) (from ns : ℕ) (k : Keyword) → means s from types (keyword k) ≡ means s from ns (keyword k)
unfolding means reads
keyword_means s from ns k = refl

-- not through an enum: all but its last name are modules
abbrev pub Flat : Snapshot → ℕ → Path → Type 0
Flat s from (keyword k) = Unit {0}
Flat s from (absolute n) = Unit {0}
Flat s from (plain n) = Unit {0}
Flat s from (into p n) = (m : ℕ) × (means s from types p ≡ Some (module_item m))

module _ (s : Snapshot) (from : ℕ) (plenty : Plenty s from) (item : Item) where
  pub arrives_meets : (p : Path) (b : Bool) → Flat s from p → is_plain p ≡ b → Names s from item p → (q : Path)
      × (arrives b s from item (names_in p) ≡ Some q)
  unfolding arrives names_in is_plain nameless within
  arrives_meets (keyword k) true g f e = absurd (true≢false (sym f))
  arrives_meets (keyword k) false g f e = to_first s from item (map_in_lem keyword (plenty.tried k item (keyword_means s from (ns_of item) k ∙ e))) e
  arrives_meets (absolute n) true g f e = absurd (true≢false (sym f))
  arrives_meets (absolute n) false g f e =
      turn_arrives s from item false 0
      (to_first s from item (Memᴰ.append_right (onward s from (ns_of item) (reached false s from 0)) (absolute_in s from (ns_of item) n item e)) e)
  arrives_meets (plain n) false g f e = absurd (true≢false f)
  arrives_meets (plain n) true g f e =
      turn_arrives s from item true 0
      (to_first s from item (Memᴰ.append_right (onward s from (ns_of item) (reached true s from 0)) (plain_in_lem s from (ns_of item) n item e)) e)
  arrives_meets (into p n) b g f e =
      let h : item_in (named n (within s from (ns_of item) (module_item g.0))) ≡ Some item =
      sym (into_means s from (ns_of item) n p (module_item g.0) g.1) ∙ e in
      let o = onward_means s from b (ns_of item) (names_in p) g.0 n item (reached_meets s from plenty p b g.0 f g.1) h in
      turn_arrives s from item b (names_in p) (to_first s from item (Memᴰ.append_left (single b s from (ns_of item)) o.1) o.2)

-- Each turn meets a module more, or no later one does.
module _ (s : Snapshot) (from : ℕ) (plenty : Plenty s from) where
  abbrev met_in : List Way → ℕ
  met_in ws = passing (is_met ws) (length s.modules)

  same_or_more : (ws : List Way) (ps : List Path) → (added s from ws ps ≡ ws) ⊎ (met_in ws < met_in (added s from ws ps))
  unfolding added with_meaning
  same_or_more ws [] = inl refl
  same_or_more ws (p ∷ ps) = by_meaning (same_or_more ws ps) (means s from types p) refl
    where
      by_meaning : (added s from ws ps ≡ ws) ⊎ (met_in ws < met_in (added s from ws ps)) → (o : Option Item) → means s from types p ≡ o
          → (added s from (with_meaning ws p o) ps ≡ ws) ⊎ (met_in ws < met_in (added s from (with_meaning ws p o) ps))
      by_meaning rest None e = rest
      by_meaning rest (Some (Def ns d)) e = rest
      by_meaning rest (Some (Mod m)) e =
          by_test (is_met ws m.0)
          (λ t. rw (with_old ws p m.0 t) rest)
          (λ t.
          let vs : List Way = ws ++ (way_to p m.0 ∷ []) in
          let here : is_met vs m.0 ≡ true = met_snoc ws (way_to p m.0) m.0 ∙ rw (eq-eqb m.0 m.0 refl) (or-true (is_met ws m.0)) in
          let one =
          passing_less (is_met ws) (is_met vs) (λ n h. met_snoc ws (way_to p m.0) n ∙ rw h) m.0 (length s.modules)
          (plenty.known p m.0 e) t here in
          let all = passing_more (is_met vs) (is_met (added s from vs ps)) (λ n h. added_keeps s from vs ps n h) (length s.modules) in
          rw (with_new ws p m.0 t) (inr (omega (arith, one, all))))

  module _ (b : Bool) where
    grow : List Way → List Way
    grow ws = added s from ws (onward s from types ws ++ single b s from types)

    grows : (k : ℕ) → reached b s from (suc k) ≡ grow (reached b s from k)
    unfolding reached grow
    grows k = refl

    still_or_more : (k : ℕ) → ((j : ℕ) × (j < k) × (reached b s from (suc j) ≡ reached b s from j)) ⊎ (k ≤ met_in (reached b s from k))
    unfolding reached
    still_or_more zero = inr (omega arith)
    still_or_more (suc k) =
        ⊎_elim (λ l. inl (l.0, omega (arith, l.1), l.2))
        (λ r.
        ⊎_elim (λ e. inl (k, omega arith, e)) (λ g. inr (omega (arith, r, g)))
        (same_or_more (reached b s from k) (onward s from types (reached b s from k) ++ single b s from types)))
        (still_or_more k)

    pub settles : (j : ℕ) × (j < suc (length s.modules)) × (reached b s from (suc j) ≡ reached b s from j)
    settles =
        ⊎_elim (λ l. l) (λ r. absurd (omega (arith, r, passing_few (is_met (reached b s from (suc (length s.modules)))) (length s.modules))))
        (still_or_more (suc (length s.modules)))

    pub still : (j : ℕ) → reached b s from (suc j) ≡ reached b s from j → (k : ℕ) → j ≤ k → reached b s from k ≡ reached b s from j
    still j e zero h = let z : j ≡ 0 = omega arith in ap (reached b s from) (sym z)
    still j e (suc k) h =
        by_test (leb j k)
        (λ t. grows k ∙ (ap grow (still j e k (leb-true j k t)) ∙ (sym (grows j) ∙ e)))
        (λ t. let l : k < j = leb-false j k t in let z : suc k ≡ j = omega arith in ap (reached b s from) z)

    module _ (item : Item) where
      -- where nothing was found once the modules are settled, nothing is later
      none_on : (j : ℕ) → reached b s from (suc j) ≡ reached b s from j → arrives b s from item (suc j) ≡ None → (k : ℕ) → suc j ≤ k
          → arrives b s from item k ≡ None
      unfolding arrives
      none_on j e h zero l = absurd (omega arith)
      none_on j e h (suc k) l =
          by_test (leb (suc j) k)
          (λ t.
          let ih : arrives b s from item k ≡ None = none_on j e h k (leb-true (suc j) k t) in
          let same : turn s from item b k ≡ turn s from item b j =
          ap (λ (ws : List Way). first_to s from item (onward s from (ns_of item) ws ++ single b s from (ns_of item)))
          (still j e k (omega (arith, leb-true (suc j) k t))) in
          or_first_none (arrives b s from item k) (turn s from item b k) ih ∙ (same ∙ or_none_lem (arrives b s from item j) (turn s from item b j) h))
          (λ t. let z : suc k ≡ suc j = omega (arith, leb-false (suc j) k t) in ap (arrives b s from item) z ∙ h)

      pub never_after : arrival b s from item ≡ None → (k : ℕ) (q : Path) → arrives b s from item k ≡ Some q → ⊥
      never_after h k q e =
          let f = settles in
          let bound : ℕ = length s.modules + 1 in
          let a : arrives b s from item (suc f.0) ≡ None =
          by_option (arrives b s from item (suc f.0)) (λ z. z)
          (λ x z. absurd (none_some (sym h ∙ arrives_on s from item b (suc f.0) bound x (omega (arith, f.1)) z))) in
          by_test (leb k bound)
          (λ t. none_some (sym h ∙ arrives_on s from item b k bound q (leb-true k bound t) e))
          (λ t. none_some (sym (none_on f.0 f.2 a k (omega (arith, leb-false k bound t, f.1))) ∙ e))
