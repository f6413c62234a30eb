-- Names alone: those that are no modules add nothing.
use Prim.Native.Nat.{ℕ}
use mathlib.Core.Path.{◌≡◌, refl, sym, ap, ap₂, subst, ◌∙◌}
use mathlib.Core.List.{List, [], ◌∷◌, ◌++◌, map, append_assoc}
use mathlib.Core.Bool.{Bool, true, false, ◌&&◌, true≢false}
use Rattle.std.specs.Prelude.{Option, None, Some}
use borrow.Author.Tests.{eq-eqb}
use lib.Dec.{eqb}
use Rattle.snapshot.specs.Records.{Snapshot, Scope, Extern}
use Rattle.accept.specs.Valid.{Each}
use Rattle.accept.proofs.Accepted.{by_test}
use Rattle.accept.proofs.Bools.{each_map, each_snoc}
use Rattle.module_tree.proofs.Laws.{by_option}
use Rattle.hir_def.specs.Finds.{or_first, select}
use Rattle.hir_def.specs.Items.{types, module_kind, definition_of, item_of, module_item}
use Rattle.hir_def.specs.declared.Item.{Item}
use Rattle.hir_def.specs.declared.Item.TheVariants.{Mod, Def}
use Rattle.hir_def.proofs.Lookups.{first_of_hit}
use Rattle.hir_def.proofs.Every.{each_in}
use Rattle.nameable.specs.Seen.{seen}
use Rattle.nameable.specs.Paths.{Path, plain, Named, named, is_seen_in, as_named, extern_named, firsts, reads, means}
use Rattle.nameable.specs.Breadth.{Way, is_met, with_meaning, added, single}
use Rattle.nameable.proofs.Reached.{named_in_lem, item_in_lem, with_old, with_keeps, with_meets}
use Rattle.nameable.proofs.Queue.{first_of_append}
use Rattle.any_path.specs.Rows.{leads_on, name_if}
use Rattle.any_path.specs.Plain.{is_module, names_alone}

pub alone_append : (xs ys : List Named) → names_alone (xs ++ ys) ≡ names_alone xs ++ names_alone ys
unfolding names_alone select
alone_append [] ys = refl
alone_append (x ∷ xs) ys =
    by_test (is_module x.item) (λ t. rw (t, select) (ap (λ (ps : List Path). plain x.name ∷ ps) (alone_append xs ys))) (λ t. rw (t, select)
    (alone_append xs ys))

with_tried : (ws : List Way) (p : Path) (o : Option Item) → ((m : ℕ) → o ≡ Some (module_item m) → is_met ws m ≡ true) → with_meaning ws p o ≡ ws
unfolding with_meaning
with_tried ws p None h = refl
with_tried ws p (Some (Def ns d)) h = refl
with_tried ws p (Some (Mod m)) h = with_old ws p m.0 (h m.0 refl)

module _ (s : Snapshot) (from : ℕ) where
  -- the module that its name means, if it is one, is met
  abbrev Tried : List Way → Named → Type 0
  Tried ws x = (m : ℕ) → means s from types (plain x.name) ≡ Some (module_item m) → is_met ws m ≡ true

  -- where those before it were tried, one that is no module is too: it is the first of its name, or that one stands before it
  other_tried : (ws : List Way) (pre : List Named) (x : Named) (rest : List Named) → firsts s from types ≡ pre ++ (x ∷ rest) → Each (Tried ws) pre
      → is_module x.item ≡ false → Tried ws x
  unfolding means reads named is_module or_first
  other_tried ws pre x rest e h other m is =
      let f = item_in_lem (reads s from types (plain x.name)) (module_item m) is in
      let g : or_first (named x.name pre) (named x.name (x ∷ rest)) ≡ Some f.0 =
      sym (first_of_append (λ (y : Named). eqb y.name x.name) pre (x ∷ rest)) ∙ (ap (named x.name) (sym e) ∙ f.1) in
      by_option (named x.name pre)
      (λ z.
      let here : named x.name (x ∷ rest) ≡ Some x = first_of_hit (λ (y : Named). eqb y.name x.name) x rest (eq-eqb x.name
      x.name refl) in
      let k : named x.name (x ∷ rest) ≡ Some f.0 = ap (λ (o : Option Named). or_first o (named x.name (x ∷ rest))) (sym z) ∙ g in
      let two : Some x ≡ Some f.0 = sym here ∙ k in
      let same : x ≡ f.0 = cc in
      absurd (true≢false (sym (ap (λ (y : Named). is_module y.item) same ∙ ap is_module f.2) ∙ other)))
      (λ y z. let a = named_in_lem x.name pre y z in each_in h a.0 m (ap (λ (n : ℕ). means s from types (plain n)) a.1 ∙ is))

  alone_from : (ws : List Way) (pre rest : List Named) → firsts s from types ≡ pre ++ rest → Each (Tried ws) pre
      → added s from ws (map (λ (x : Named). plain x.name) rest) ≡ added s from ws (names_alone rest)
  unfolding added names_alone select
  alone_from ws pre [] e h = refl
  alone_from ws pre (x ∷ rest) e h =
      let p : Path = plain x.name in
      let us : List Way = with_meaning ws p (means s from types p) in
      let e' : firsts s from types ≡ (pre ++ (x ∷ [])) ++ rest = e ∙ sym (append_assoc pre (x ∷ []) rest) in
      by_test (is_module x.item)
      (λ t.
      let old : Each (Tried us) pre = each_map (λ y g m is. with_keeps ws p (means s from types p) m (g m is)) h in
      let new : Tried us x = λ m is. subst (λ (o : Option Item). is_met (with_meaning ws p o) m ≡ true) (sym is) (with_meets ws p m) in
      rw (t, select) (alone_from us (pre ++ (x ∷ [])) rest e' (each_snoc old new)))
      (λ t.
      let new : Tried ws x = other_tried ws pre x rest e h t in
      let same : us ≡ ws = with_tried ws p (means s from types p) new in
      rw (t, select)
      (ap (λ (vs : List Way). added s from vs (map (λ (y : Named). plain y.name) rest)) same
      ∙ alone_from ws (pre ++ (x ∷ [])) rest e' (each_snoc h new)))

  -- the names alone that mean modules are enough
  pub alone_single : (ws : List Way) → added s from ws (single true s from types) ≡ added s from ws (names_alone (firsts s from types))
  unfolding single
  alone_single ws = alone_from ws [] (firsts s from types) refl Each.none

  -- one record after the other
  module _ {R : Type 0} (f : R → Named) (q : R → Bool) (ws : List Way) (x : R) (xs : List R) where
    alone_one : added s from ws (names_alone (map f (select q (x ∷ xs))))
        ≡ added s from (name_if s from ws (q x && is_module (f x).item) (f x).name) (names_alone (map f (select q xs)))
    unfolding added names_alone select name_if
    alone_one =
        by_test (q x)
        (λ t. by_test (is_module (f x).item) (λ u. rw (t, u, select, name_if)) (λ u. rw (t, u, select, name_if)))
        (λ t. rw (t, select, name_if))

    pub alone_next : {b : Bool} {n : ℕ} → b ≡ (q x && is_module (f x).item) → n ≡ (f x).name
        → added s from ws (names_alone (map f (select q (x ∷ xs)))) ≡ added s from (name_if s from ws b n) (names_alone (map f (select q xs)))
    alone_next eb en =
        alone_one ∙ ap₂ (λ (b : Bool) (n : ℕ). added s from (name_if s from ws b n) (names_alone (map f (select q xs)))) (sym eb)
        (sym en)

  and_last : (o k v t : Bool) → (o && (k && t)) && v ≡ (o && (k && v)) && (k && t)
  and_last true true true true = refl
  and_last true true true false = refl
  and_last true true false true = refl
  and_last true true false false = refl
  and_last true false v t = refl
  and_last false k v t = refl

  is_module_lem : (e : Scope) → is_module (item_of s e.ns e.definition) ≡ (eqb e.ns types && eqb (definition_of s e.definition).kind module_kind)
  unfolding item_of is_module
  is_module_lem e =
      by_test (eqb e.ns types && eqb (definition_of s e.definition).kind module_kind) (λ t. rw (t, item_of)) (λ t. rw (t, item_of))

  -- an entry leads on where it is seen and a module
  pub lead_test : (m : ℕ) (e : Scope) → leads_on s from m e ≡ (is_seen_in s from types m e && is_module (as_named s e).item)
  lead_test m e =
      and_last (eqb e.owner m) (eqb e.ns types) (seen s from e) (eqb (definition_of s e.definition).kind module_kind)
      ∙ ap (λ (t : Bool). is_seen_in s from types m e && t) (sym (is_module_lem e))

pub extern_test : (x : Extern) (b : Bool) → b ≡ (b && is_module (extern_named x).item)
unfolding is_module
extern_test x true = refl
extern_test x false = refl
