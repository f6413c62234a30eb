-- The modules reached with at most k names are those that a path of at most k names means.
use Prim.Native.Nat.{ℕ, zero, suc, ◌≤◌, ◌<◌}
use mathlib.Core.Path.{◌≡◌, refl, sym, ap, subst, ◌∙◌}
use mathlib.Core.List.Memᴰ
use mathlib.Core.List.{List, [], ◌∷◌, ◌++◌, map, Memᴰ}
use mathlib.Core.Bool.{Bool, true, false, ◌||◌, or-true, true≢false}
use Rattle.std.specs.Prelude.{Option, None, Some}
use native.Mathlib.Omega.{arith}
use borrow.Author.Tests.{eqb-true, eq-eqb}
use lib.Dec.{eqb, ltb}
use lib.ListN.{length}
use Rattle.snapshot.specs.Lists.{any}
use Rattle.snapshot.specs.Records.{Snapshot, Member}
use Rattle.accept.specs.Valid.{Each, more, Belongs}
use Rattle.accept.proofs.Accepted.{by_test}
use Rattle.accept.proofs.Bools.{and_two, each_map, each_snoc}
use Rattle.module_tree.proofs.Laws.{by_option}
use Rattle.hir_def.specs.Finds.{select}
use Rattle.hir_def.specs.Items.{types, macros, module_item, defined_item}
use Rattle.hir_def.specs.declared.Item.{Item}
use Rattle.hir_def.specs.declared.Item.TheVariants.{Mod, Def}
use Rattle.hir_def.proofs.Every.{each_append, each_in}
use Rattle.nameable.specs.Paths.{Keyword, Path, keyword, absolute, plain, into, names_in, is_plain, Named, named, entries_in, is_variant_of}
use Rattle.nameable.specs.Paths.{variant_named, variants_in, absolutes, firsts, within, after, reads, item_in, means}
use Rattle.nameable.specs.Breadth.{Way, is_met, with_meaning, added, keywords, nameless, single, onward, reached}
use Rattle.nameable.proofs.Lists.{none_some, first_found_lem, map_in_lem}

-- every element of a list that is made element by element
pub each_made : {A B : Type 0} {P : B → Type 0} (f : A → B) (xs : List A) → ((x : A) → P (f x)) → Each P (map f xs)
each_made f [] h = Each.none
each_made f (x ∷ xs) h = more (h x) (each_made f xs h)

-- a name means one of the list
pub named_in_lem : (n : ℕ) (xs : List Named) (x : Named) → named n xs ≡ Some x → Memᴰ x xs × (x.name ≡ n)
unfolding named
named_in_lem n xs x e = let f = first_found_lem (λ (y : Named). eqb y.name n) xs x e in (f.0, eqb-true x.name n f.1)

pub item_in_lem : (o : Option Named) (x : Item) → item_in o ≡ Some x → (y : Named) × (o ≡ Some y) × (y.item ≡ x)
unfolding item_in
item_in_lem None x e = absurd (none_some e)
item_in_lem (Some y) x e = let same : y.item ≡ x = cc in (y, refl, same)

pub item_of_lem : (o : Option Named) (y : Named) → o ≡ Some y → item_in o ≡ Some y.item
unfolding item_in
item_of_lem o y e = rw e

-- Ways.

pub met_snoc : (ws : List Way) (w : Way) (m : ℕ) → is_met (ws ++ (w ∷ [])) m ≡ (is_met ws m || eqb w.target m)
unfolding is_met any
met_snoc [] w m = by_test (eqb w.target m) (λ e. rw e) (λ e. rw e)
met_snoc (v ∷ ws) w m = by_test (eqb v.target m) (λ e. rw e) (λ e. rw e (met_snoc ws w m))

pub met_in_lem : (ws : List Way) (m : ℕ) → is_met ws m ≡ true → (w : Way) × Memᴰ w ws × (w.target ≡ m)
unfolding is_met any
met_in_lem [] m e = absurd (true≢false (sym e))
met_in_lem (v ∷ ws) m e =
    by_test (eqb v.target m)
    (λ t. (v, Memᴰ.head refl, eqb-true v.target m t))
    (λ t. let f = met_in_lem ws m (rw t at e) in (f.0, Memᴰ.tail f.1, f.2))

abbrev pub way_to : Path → ℕ → Way
way_to p m = record { path = p; target = m }

module _ (ws : List Way) (p : Path) where
  pub with_old : (m : ℕ) → is_met ws m ≡ true → with_meaning ws p (Some (module_item m)) ≡ ws
  unfolding with_meaning
  with_old m e = rw (with_meaning, e)

  pub with_new : (m : ℕ) → is_met ws m ≡ false → with_meaning ws p (Some (module_item m)) ≡ ws ++ (way_to p m ∷ [])
  unfolding with_meaning
  with_new m e = rw (with_meaning, e)

  pub with_keeps : (o : Option Item) (m : ℕ) → is_met ws m ≡ true → is_met (with_meaning ws p o) m ≡ true
  unfolding with_meaning
  with_keeps None m h = h
  with_keeps (Some (Def ns d)) m h = h
  with_keeps (Some (Mod t)) m h =
      by_test (is_met ws t.0)
      (λ e. rw (with_old t.0 e) h)
      (λ e. rw (with_new t.0 e) (met_snoc ws (way_to p t.0) m ∙ rw h))

  pub with_meets : (m : ℕ) → is_met (with_meaning ws p (Some (module_item m))) m ≡ true
  with_meets m =
      by_test (is_met ws m)
      (λ e. rw (with_old m e) e)
      (λ e. rw (with_new m e) (met_snoc ws (way_to p m) m ∙ rw (eq-eqb m m refl) (or-true (is_met ws m))))

module _ (s : Snapshot) (from : ℕ) where
  pub added_keeps : (ws : List Way) (ps : List Path) (m : ℕ) → is_met ws m ≡ true → is_met (added s from ws ps) m ≡ true
  unfolding added
  added_keeps ws [] m h = h
  added_keeps ws (p ∷ ps) m h =
      added_keeps (with_meaning ws p (means s from types p)) ps m (with_keeps ws p (means s from types p) m h)

  -- a path that means a module has it met
  pub added_meets : {p : Path} (ws : List Way) {ps : List Path} (m : ℕ) → Memᴰ p ps → means s from types p ≡ Some (module_item m)
      → is_met (added s from ws ps) m ≡ true
  unfolding added
  added_meets ws m (Memᴰ.head {x = q} {xs = ps} e) h =
      let f : means s from types q ≡ Some (module_item m) = ap (means s from types) (sym e) ∙ h in
      added_keeps (with_meaning ws q (means s from types q)) ps m (rw f (with_meets ws q m))
  added_meets ws m (Memᴰ.tail {x = q} k) h = added_meets (with_meaning ws q (means s from types q)) m k h

-- a path that begins with a name or doesn't, with at most k names
pub record Near (b : Bool) (k : ℕ) (p : Path) : Type 0 where
  pub short : names_in p ≤ k
  pub plainly : is_plain p ≡ b

-- such a path, and it means the module
pub record Good (s : Snapshot) (from : ℕ) (b : Bool) (k : ℕ) (w : Way) : Type 0 where
  pub near : Near b k w.path
  pub there : means s from types w.path ≡ Some (module_item w.target)

pub near_more : {b : Bool} {k : ℕ} (p : Path) → Near b k p → Near b (suc k) p
near_more p h = record { short = omega arith; plainly = h.plainly }

module _ (s : Snapshot) (from : ℕ) where
  pub nameless_near : (b : Bool) → Each (Near b 0) (nameless b s)
  unfolding nameless names_in is_plain
  nameless_near true = Each.none
  nameless_near false = each_made keyword (keywords s) (λ k. record { short = omega arith; plainly = refl })

  pub single_near : (b : Bool) (ns k : ℕ) → Each (Near b (suc k)) (single b s from ns)
  unfolding single names_in is_plain
  single_near true ns k = each_made (λ (x : Named). plain x.name) (firsts s from ns) (λ x. record { short = omega arith; plainly = refl })
  single_near false ns k = each_made (λ (x : Named). absolute x.name) (absolutes s from ns) (λ x. record { short = omega arith; plainly = refl })

  pub onward_near : (b : Bool) (ns k : ℕ) {ws : List Way} → Each (Good s from b k) ws → Each (Near b (suc k)) (onward s from ns ws)
  unfolding onward names_in is_plain
  onward_near b ns k Each.none = Each.none
  onward_near b ns k (more {x = w} g h) =
      let l : names_in w.path ≤ k = g.near.short in
      each_append
      (each_made (λ (x : Named). into w.path x.name) (entries_in s from ns w.target)
      (λ x. record { short = omega arith; plainly = g.near.plainly }))
      (onward_near b ns k h)

  with_good : (b : Bool) (k : ℕ) {ws : List Way} (p : Path) → Each (Good s from b k) ws → Near b k p → (o : Option Item) → means s from types p ≡ o
      → Each (Good s from b k) (with_meaning ws p o)
  unfolding with_meaning
  with_good b k p h n None e = h
  with_good b k p h n (Some (Def ns d)) e = h
  with_good b k {ws} p h n (Some (Mod m)) e =
      by_test (is_met ws m.0)
      (λ t. rw (with_old ws p m.0 t) h)
      (λ t. rw (with_new ws p m.0 t) (each_snoc h (record { near = n; there = e })))

  added_good : (b : Bool) (k : ℕ) {ws : List Way} {ps : List Path} → Each (Good s from b k) ws → Each (Near b k) ps
      → Each (Good s from b k) (added s from ws ps)
  unfolding added
  added_good b k h Each.none = h
  added_good b k {ws = ws} h (more {x = p} n g) =
      added_good b k {ws = with_meaning ws p (means s from types p)} (with_good b k p h n (means s from types p) refl) g

  -- what is reached is meant
  pub reached_good : (b : Bool) (k : ℕ) → Each (Good s from b k) (reached b s from k)
  unfolding reached
  reached_good b zero = added_good b 0 Each.none (nameless_near b)
  reached_good b (suc k) =
      let g = reached_good b k in
      added_good b (suc k) (each_map (λ w h. record { near = near_more w.path h.near; there = h.there }) g)
      (each_append (onward_near b types k g) (single_near b types k))

  -- the names of a module reached are offered, each after the way to it
  onward_in : (ns : ℕ) {w : Way} {ws : List Way} {x : Named} → Memᴰ w ws → Memᴰ x (entries_in s from ns w.target)
      → Memᴰ (into w.path x.name) (onward s from ns ws)
  unfolding onward
  onward_in ns {x = x} (Memᴰ.head {x = v} {xs = ws} e) m =
      subst (λ (u : Way). Memᴰ x (entries_in s from ns u.target) → Memᴰ (into u.path x.name) (onward s from ns (v ∷ ws))) (sym e)
      (λ k. Memᴰ.append_left (onward s from ns ws) (map_in_lem (λ (y : Named). into v.path y.name) k)) m
  onward_in ns (Memᴰ.tail {x = v} k) m =
      Memᴰ.append_right (map (λ (y : Named). into v.path y.name) (entries_in s from ns v.target)) (onward_in ns k m)

  -- a name more after a path that means something
  pub into_means : (ns n : ℕ) (p : Path) (x : Item) → means s from types p ≡ Some x
      → means s from ns (into p n) ≡ item_in (named n (within s from ns x))
  unfolding means reads after
  into_means ns n p x e = let f = item_in_lem (reads s from types p) x e in rw (f.1, f.2)

  pub into_from : (ns n : ℕ) (p : Path) (y : Item) → means s from ns (into p n) ≡ Some y
      → (x : Item) × (means s from types p ≡ Some x) × (item_in (named n (within s from ns x)) ≡ Some y)
  unfolding means reads after item_in
  into_from ns n p y e =
      by_option (reads s from types p)
      (λ z. absurd (none_some (rw z at e)))
      (λ x z. (x.item, item_of_lem (reads s from types p) x z, rw z at e))

  -- a name in a module that is reached is offered, with the same meaning
  pub onward_means : (b : Bool) (ns k m n : ℕ) (y : Item) → is_met (reached b s from k) m ≡ true → item_in (named n (entries_in s from ns m)) ≡ Some y
      → (p : Path) × Memᴰ p (onward s from ns (reached b s from k)) × (means s from ns p ≡ Some y)
  unfolding within
  onward_means b ns k m n y t e =
      let f = met_in_lem (reached b s from k) m t in
      let g = each_in (reached_good b k) f.1 in
      let i = item_in_lem (named n (entries_in s from ns m)) y e in
      let a = named_in_lem n (entries_in s from ns m) i.0 i.1 in
      let there : means s from types f.0.path ≡ Some (module_item m) = g.there ∙ ap (λ (u : ℕ). Some (module_item u)) f.2 in (
        into f.0.path i.0.name,
        onward_in ns f.1 (subst (λ (u : ℕ). Memᴰ i.0 (entries_in s from ns u)) (sym f.2) a.0),
        into_means ns i.0.name f.0.path (module_item m) there ∙ ap (λ (u : ℕ). item_in (named u (entries_in s from ns m))) a.1 ∙ e,
      )

  pub absolute_in : (ns n : ℕ) (y : Item) → means s from ns (absolute n) ≡ Some y → Memᴰ (absolute n) (single false s from ns)
  unfolding means reads single
  absolute_in ns n y e =
      let i = item_in_lem (named n (absolutes s from ns)) y e in
      let a = named_in_lem n (absolutes s from ns) i.0 i.1 in
      Memᴰ.cast (ap absolute (sym a.1)) (map_in_lem (λ (x : Named). absolute x.name) a.0)

  pub plain_in_lem : (ns n : ℕ) (y : Item) → means s from ns (plain n) ≡ Some y → Memᴰ (plain n) (single true s from ns)
  unfolding means reads single
  plain_in_lem ns n y e =
      let i = item_in_lem (named n (firsts s from ns)) y e in
      let a = named_in_lem n (firsts s from ns) i.0 i.1 in
      Memᴰ.cast (ap plain (sym a.1)) (map_in_lem (λ (x : Named). plain x.name) a.0)

-- What the proof asks of a snapshot and a viewing module (proofs/Plenty.antt: an accepted one has it).
pub record Plenty (s : Snapshot) (from : ℕ) : Type 0 where
  -- every keyword that means something is tried
  pub tried : (k : Keyword) (x : Item) → means s from types (keyword k) ≡ Some x → Memᴰ k (keywords s)
  -- a module that is meant is one of the snapshot's, another thing in types is in types
  pub known : (p : Path) (m : ℕ) → means s from types p ≡ Some (module_item m) → m < length s.modules
  pub typed : (p : Path) (k d : ℕ) → means s from types p ≡ Some (defined_item k d) → k ≡ types
  -- a variant is its enum's
  pub belongs : Each (Belongs s.definitions) s.members

-- a variant of the enum d, by one of its member records
pub record VariantBy (s : Snapshot) (ns d : ℕ) (x : Named) : Type 0 where
  pub member : Member
  pub listed : Memᴰ member s.members
  pub parent : member.parent ≡ d
  pub kind : member.kind ≡ 0
  pub same : x ≡ variant_named s ns member

variants_each : (s : Snapshot) (ns d : ℕ) → Each (VariantBy s ns d) (variants_in s ns d)
unfolding variants_in select
variants_each s ns d =
    by_test (ltb ns macros) (λ t. rw (t, variants_in) (over s.members (λ x m. m))) (λ t. rw (t, variants_in) Each.none)
  where
    over : (xs : List Member) → ((x : Member) → Memᴰ x xs → Memᴰ x s.members)
        → Each (VariantBy s ns d) (map (variant_named s ns) (select (is_variant_of d) xs))
    over [] f = Each.none
    over (x ∷ xs) f =
        let g = over xs (λ y m. f y (Memᴰ.tail m)) in
        by_test (is_variant_of d x)
        (λ t.
        let q = and_two (eqb x.parent d) (eqb x.kind 0) t in
        rw (t, select)
        (more (record {
          member = x;
          listed = f x (Memᴰ.head refl);
          parent = eqb-true x.parent d q.0;
          kind = eqb-true x.kind 0 q.1;
          same = refl;
        }) g))
        (λ t. rw (t, select) g)

pub variant_named_lem : (s : Snapshot) (ns n d : ℕ) (y : Item) → item_in (named n (variants_in s ns d)) ≡ Some y
    → (x : Named) × (named n (variants_in s ns d) ≡ Some x) × (x.item ≡ y) × VariantBy s ns d x
variant_named_lem s ns n d y e =
    let i = item_in_lem (named n (variants_in s ns d)) y e in
    let a = named_in_lem n (variants_in s ns d) i.0 i.1 in
    (i.0, i.1, i.2, each_in (variants_each s ns d) a.0)

-- no variant is a module
pub variants_def : (s : Snapshot) (ns n d m : ℕ) → item_in (named n (variants_in s ns d)) ≡ Some (module_item m) → ⊥
variants_def s ns n d m e =
    let v = variant_named_lem s ns n d (module_item m) e in
    let q : defined_item ns v.3.member.definition ≡ module_item m = sym (ap (λ (x : Named). x.item) v.3.same) ∙ v.2 in
    let z : ◌≡◌ {A = ℕ} 0 1 = cc in omega arith

module _ (s : Snapshot) (from : ℕ) (plenty : Plenty s from) where
  -- what is meant is reached
  pub reached_meets : (p : Path) (b : Bool) (m : ℕ) → is_plain p ≡ b → means s from types p ≡ Some (module_item m)
      → is_met (reached b s from (names_in p)) m ≡ true
  unfolding reached names_in is_plain nameless within
  reached_meets (keyword k) true m f e = absurd (true≢false (sym f))
  reached_meets (keyword k) false m f e = added_meets s from [] m (map_in_lem keyword (plenty.tried k (module_item m) e)) e
  reached_meets (absolute n) true m f e = absurd (true≢false (sym f))
  reached_meets (absolute n) false m f e =
      added_meets s from (reached false s from 0) m
      (Memᴰ.append_right (onward s from types (reached false s from 0)) (absolute_in s from types n (module_item m) e)) e
  reached_meets (plain n) false m f e = absurd (true≢false f)
  reached_meets (plain n) true m f e =
      added_meets s from (reached true s from 0) m
      (Memᴰ.append_right (onward s from types (reached true s from 0)) (plain_in_lem s from types n (module_item m) e)) e
  reached_meets (into p n) b m f e =
      let g = into_from s from types n p (module_item m) e in by_item (λ t h. reached_meets p b t f h) g.0 g.1 g.2
    where
      by_item : ((t : ℕ) → means s from types p ≡ Some (module_item t) → is_met (reached b s from (names_in p)) t ≡ true) → (x : Item)
          → means s from types p ≡ Some x → item_in (named n (within s from types x)) ≡ Some (module_item m)
          → is_met (reached b s from (suc (names_in p))) m ≡ true
      by_item ih (Mod t) h g =
          let o = onward_means s from b types (names_in p) t.0 n (module_item m) (ih t.0 h) g in
          added_meets s from (reached b s from (names_in p)) m (Memᴰ.append_left (single b s from types) o.1) o.2
      by_item ih (Def k d) h g = absurd (variants_def s types n d.0 m g)
