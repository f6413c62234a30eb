-- Laws of a variant by its enum, and of the two runs.
use Rattle.told_paths.specs.declared.arrivals.LastStep.{LastStep}
use Prim.Native.Nat.{ℕ, ◌+◌, ◌≤◌, ◌<◌}
use mathlib.Core.Path.{◌≡◌, refl, sym, ap, ◌∙◌}
use mathlib.Core.List.{List}
use mathlib.Core.Bool.{Bool, true, false, ◌&&◌, not, and_assoc}
use Rattle.std.specs.Prelude.{Option, None, Some, option_map}
use native.Mathlib.Omega.{arith}
use borrow.Author.Tests.{lt-ltb, le-ltb, eq-eqb, ne_eqb, not-true, not-false}
use lib.Dec.{eqb}
use Rattle.snapshot.specs.Records.{Snapshot, Member}
use Rattle.snapshot.specs.Layouts.{snap_of}
use Rattle.snapshot.specs.declared.layout.Layout.{Layout}
use Rattle.accept.specs.Post.{Reads}
use Rattle.module_tree.proofs.Laws.{by_option}
use Rattle.hir_def.specs.Finds.{first_of}
use Rattle.hir_def.specs.Items.{types, macros, variant_kind, definition_of, ns_of, same_item, module_item, defined_item}
use Rattle.hir_def.specs.declared.Item.{Item}
use Rattle.read_back.specs.readings.Reads.{is_variant_named, variant_named as first_variant}
use Rattle.nameable.specs.Paths.{Path, into, Named, named, is_variant_of, variant_named, variants_in, within, item_in, means}
use Rattle.nameable.specs.Breadth.{is_item, first_to, arrival, turns, checked_path, variant_after, by_enum, shorter, shortest_of, shortest}
use Rattle.nameable.specs.Queue.{run}
use Rattle.nameable.proofs.Reached.{into_means}
use Rattle.nameable.proofs.Arrives.{arrives_good}
use Rattle.nameable.proofs.Lookups.{first_mapped, first_same}
use Rattle.any_path.specs.Rows.{run_at, Stays, Grown}
use Rattle.any_path.proofs.Taken.{stays_snap, stays_reads}
use Rattle.told_paths.specs.arrivals.Steps.{LeadsTo}
use Rattle.told_paths.specs.declared.ToldPath.{ToldPath}
use Rattle.told_paths.specs.Tells.{step_link, tell}
use Rattle.told_paths.proofs.Laws.{told_gone, told_there}

pub leads_link : (s : Snapshot) (from ns : ℕ) (A : List ℕ) (n : ℕ) (o : Option Path) (q : Option LastStep) → LeadsTo s from ns A n o q
    → step_link q < n + 3
unfolding LeadsTo step_link
leads_link s from ns A n o (Some q) h = h.linked
leads_link s from ns A n o None h = omega arith

-- The variants of an enum by their name.

module _ (s : Snapshot) (ns d e n : ℕ) where
  abbrev item : Item
  item = defined_item ns d

  abbrev read : Option Item
  read = item_in (named n (variants_in s ns e))

  pub variant_macro : macros ≤ ns → false ≡ is_item (defined_item ns d) (item_in (named n (variants_in s ns e)))
  unfolding variants_in named first_of item_in is_item
  variant_macro h = sym (rw (variants_in, le-ltb ns macros h))

  module _ (low : ns < macros) where
    pub variant_first : named n (variants_in s ns e) ≡ option_map (variant_named s ns) (first_variant s e n)
    unfolding variants_in named first_variant
    variant_first =
        ap (named n) (rw (variants_in, lt-ltb ns macros low))
        ∙ (first_mapped (λ (x : Named). eqb x.name n) (variant_named s ns) (is_variant_of e) s.members
        ∙ ap (option_map (variant_named s ns))
        (first_same (λ (x : Member). is_variant_of e x && eqb x.name n) (is_variant_named e n) s.members
        (λ x i. and_assoc (eqb x.parent e) (eqb x.kind 0) (eqb x.name n))))

    pub variant_none : None ≡ first_variant s e n → false ≡ is_item (defined_item ns d) (item_in (named n (variants_in s ns e)))
    unfolding item_in is_item
    variant_none h = sym (ap (λ (o : Option Named). is_item item (item_in o)) (variant_first ∙ ap (option_map (variant_named s ns)) (sym h)))

    pub variant_some : {x : Member} {y : ℕ} → Some x ≡ first_variant s e n → y ≡ x.definition
        → eqb y d ≡ is_item (defined_item ns d) (item_in (named n (variants_in s ns e)))
    unfolding item_in is_item same_item
    variant_some {x} {y} h ey =
        sym (ap (λ (o : Option Named). is_item item (item_in o)) (variant_first ∙ ap (option_map (variant_named s ns)) (sym h))
        ∙ rw (eq-eqb ns ns refl, ey))

-- A variant by its enum.
module _ (b : Bool) (s : Snapshot) (from ns d : ℕ) where
  abbrev its : Item
  its = defined_item ns d

  other_none : ((definition_of s d).kind ≡ variant_kind → ⊥) → by_enum b s from its ≡ None
  unfolding by_enum
  other_none h = rw (by_enum, ne_eqb (definition_of s d).kind variant_kind h)

  pub enum_other : ((definition_of s d).kind ≡ variant_kind → ⊥) → None ≡ option_map tell (by_enum b s from (defined_item ns d))
  enum_other h = sym (ap (option_map tell) (other_none h))

  module _ (v : (definition_of s d).kind ≡ variant_kind) (e n : ℕ) (ee : e ≡ (definition_of s d).first) (en : n ≡ (definition_of s d).second) where
    abbrev way : Option Path
    way = arrival b s from (defined_item types e)

    enum_path : by_enum b s from its ≡ variant_after s from its n way
    unfolding by_enum
    enum_path = rw (by_enum, eq-eqb (definition_of s d).kind variant_kind v, ee, en)

    abbrev test : Bool
    test = is_item its (item_in (named n (variants_in s ns e)))

    enum_means : (p : Path) → way ≡ Some p → means s from ns (into p n) ≡ item_in (named n (variants_in s ns e))
    unfolding ns_of within
    enum_means p h =
        into_means s from ns n p (defined_item types e) (arrives_good s from (defined_item types e) b (turns s) p h).1

    one_path : (p : Path) → way ≡ Some p → test ≡ true → checked_path s from its (into p n) ≡ Some (into p n)
    unfolding checked_path first_to first_of ns_of
    one_path p h t = rw (first_of, enum_means p h, t)

    no_path : (p : Path) → way ≡ Some p → test ≡ false → checked_path s from its (into p n) ≡ None
    unfolding checked_path first_to first_of ns_of
    no_path p h t = rw (first_of, enum_means p h, t)

    -- it is not this one that the name means
    pub enum_not : {r : Bool} → r ≡ is_item (defined_item ns d) (item_in (named n (variants_in s ns e))) → not r ≡ true
        → None ≡ option_map tell (by_enum b s from (defined_item ns d))
    unfolding variant_after
    enum_not {r} er h =
        let no : test ≡ false = sym er ∙ not-true r h in
        let none_there : variant_after s from its n way ≡ None =
        by_option way (λ z. ap (variant_after s from its n) z) (λ p z. ap (variant_after s from its n) z ∙ no_path p z no) in
        sym (ap (option_map tell) (enum_path ∙ none_there))

    module _ {a : Option ToldPath} (ea : a ≡ option_map tell (arrival b s from (defined_item types e))) where
      -- no path to the enum
      pub enum_nowhere : a ≡ None → None ≡ option_map tell (by_enum b s from (defined_item ns d))
      unfolding variant_after
      enum_nowhere h =
          sym (ap (option_map tell) (enum_path ∙ ap (variant_after s from its n) (told_gone way (sym h ∙ ea))))

      -- one name more
      pub enum_there : {r : Bool} {u t : ToldPath} → r ≡ is_item (defined_item ns d) (item_in (named n (variants_in s ns e))) → not r ≡ false
          → a ≡ Some u → ((p : Path) → u ≡ tell p → t ≡ tell (into p n)) → Some t ≡ option_map tell (by_enum b s from (defined_item ns d))
      unfolding variant_after
      enum_there {r} er hr h et =
          let yes : test ≡ true = sym er ∙ not-false r hr in
          let p = told_there way (sym h ∙ ea) in
          ap Some (et p.0 p.2)
          ∙ sym (ap (option_map tell) (enum_path ∙ (ap (variant_after s from its n) p.1 ∙ one_path p.0 p.1 yes)))

pub enum_module : (b : Bool) (s : Snapshot) (from : ℕ) {item : Item} (m : ℕ) → item ≡ module_item m
    → None ≡ option_map tell (by_enum b s from item)
unfolding by_enum
enum_module b s from m e = sym (ap (λ (i : Item). option_map tell (by_enum b s from i)) e)

pub enum_as : (b : Bool) (s : Snapshot) (from : ℕ) {item : Item} {t : Option ToldPath} (ns d : ℕ) → item ≡ defined_item ns d
    → t ≡ option_map tell (by_enum b s from (defined_item ns d)) → t ≡ option_map tell (by_enum b s from item)
enum_as b s from ns d e et = et ∙ sym (ap (λ (i : Item). option_map tell (by_enum b s from i)) e)

-- The rows of a run, in the area after it.
module _ (W A : List ℕ) (l : Layout) (r : Reads W A l) (from : ℕ) (b : Bool) {B : List ℕ} {n : ℕ}
    (g : Grown l.modules A 0 B n (run b (snap_of W A l) from)) where
  same_snap : snap_of W B l ≡ snap_of W A l
  same_snap = stays_snap W A B l r g.stays

  pub run_same : run_at B n ≡ run b (snap_of W B l) from
  run_same = g.same ∙ ap (λ (u : Snapshot). run b u from) (sym same_snap)

  pub run_reads : Reads W B l
  run_reads = stays_reads W A B l r g.stays

  run_told : (item : Item) {t : Option ToldPath} → t ≡ option_map tell (shortest_of b (snap_of W B l) from item)
      → t ≡ option_map tell (shortest_of b (snap_of W A l) from item)
  run_told item e = e ∙ ap (λ (u : Snapshot). option_map tell (shortest_of b u from item)) same_snap

-- Both runs.
pub both_told : (W A : List ℕ) (l : Layout) (r : Reads W A l) (from : ℕ) {B C : List ℕ} {n m : ℕ}
    → Grown l.modules A 0 B n (run false (snap_of W A l) from) → Grown l.modules B 0 C m (run true (snap_of W B l) from)
    → (item : Item) {a b t : Option ToldPath} → a ≡ option_map tell (shortest_of false (snap_of W B l) from item)
    → b ≡ option_map tell (shortest_of true (snap_of W C l) from item)
    → ((p q : Option Path) → a ≡ option_map tell p → b ≡ option_map tell q → t ≡ option_map tell (shorter p q))
    → (t ≡ option_map tell (shortest (snap_of W A l) from item)) × Stays A C
unfolding shortest
both_told W A l r from {B} g h item ea eb et = (
  et (shortest_of false (snap_of W A l) from item) (shortest_of true (snap_of W A l) from item) (run_told W A l r from false g item ea)
      (run_told W B l (run_reads W A l r from false g) from true h item eb
      ∙ ap (λ (u : Snapshot). option_map tell (shortest_of true u from item)) (same_snap W A l r from false g)),
  λ i k. h.stays i k ∙ g.stays i k,
)
