-- An accepted snapshot, with a viewing module of it, has what the proof asks.
use Prim.Native.Nat.{ℕ, zero, suc, ◌+◌, ◌≤◌, ◌<◌}
use mathlib.Core.Path.{◌≡◌, refl, sym, ap, subst}
use mathlib.Core.List.Memᴰ
use mathlib.Core.List.{List, [], ◌∷◌, map, Memᴰ}
use mathlib.Core.Bool.{true, false, ◌&&◌}
use Rattle.std.specs.Prelude.{Option, None, Some}
use native.Mathlib.Omega.{arith}
use borrow.Author.Tests.{eqb-true}
use lib.Dec.{eqb, ltb}
use lib.ListN.{length}
use Rattle.snapshot.specs.Lists.{rows}
use Rattle.snapshot.specs.Records.{Snapshot, Scope, Extern, Prelude}
use Rattle.check_rules.specs.Tests.{counts_of, no_definition}
use Rattle.accept.specs.Valid.{Each, more, Valid, ScopeFits, ExternFits}
use Rattle.accept.proofs.Accepted.{by_test}
use Rattle.accept.proofs.Bools.{and_two, each_at}
use Rattle.module_tree.specs.rules.Modules.{map_no, crate_of, parent_of, crate_root}
use Rattle.module_tree.specs.Privacy.{StandsIn, inner, outermost, block}
use Rattle.module_tree.specs.rules.Privately.{module_around}
use Rattle.module_tree.proofs.Laws.{by_number, by_option}
use Rattle.module_tree.proofs.Chains.{parent_fits, block_fits}
use Rattle.module_tree.proofs.Roots.{crate_root_known}
use Rattle.module_tree.proofs.Privately.{around_stands}
use Rattle.hir_def.specs.Finds.{select}
use Rattle.hir_def.specs.Items.{types, macros, module_kind, definition_of, crate_data, item_of, module_item, defined_item}
use Rattle.hir_def.specs.Nameres.{prelude_of}
use Rattle.hir_def.specs.declared.Item.{Item}
use Rattle.hir_def.specs.declared.Item.TheVariants.{Mod, Def}
use Rattle.hir_def.proofs.Every.{each_append, each_in}
use Rattle.nameable.specs.Paths.{Keyword, supers, crate, Path, keyword, absolute, plain, into, Named, named, is_seen_in, as_named, entries_in}
use Rattle.nameable.specs.Paths.{is_variant_of, variant_named, variants_in, extern_named, externs_in, absolutes, entries_over, scopes_from}
use Rattle.nameable.specs.Paths.{prelude_entries, firsts, within, above_or, above, keyword_module, module_named, reads, item_in, means}
use Rattle.nameable.specs.Breadth.{keywords}
use Rattle.nameable.proofs.Lists.{none_some}
use Rattle.nameable.proofs.Reached.{each_made, named_in_lem, item_in_lem, into_from, Plenty}

pub rows_in : {A : Type 0} (f : ℕ → A) (k n i : ℕ) → i < n → Memᴰ (f (k + i)) (rows f k n)
unfolding rows
rows_in f k zero i h = absurd (omega arith)
rows_in f k (suc n) zero h = let z : k + 0 ≡ k = omega arith in Memᴰ.head (ap f z)
rows_in f k (suc n) (suc i) h =
    let z : k + suc i ≡ k + 1 + i = omega arith in Memᴰ.tail (Memᴰ.cast (ap f z) (rows_in f (k + 1) n i (omega arith)))

-- modules of the snapshot, and other things in the namespace
abbrev Fit : Snapshot → ℕ → Item → Type 0
Fit s ns (Mod m) = m.0 < length s.modules
Fit s ns (Def k d) = k.0 ≡ ns

abbrev Fits : Snapshot → ℕ → List Named → Type 0
Fits s ns xs = Each (λ (x : Named). Fit s ns x.item) xs

module _ (s : Snapshot) (ok : Valid s) where
  stands_few : {x m : ℕ} → StandsIn s x m → m < length s.modules → x ≤ m
  stands_few (inner z e) r = omega arith
  stands_few (outermost z y e) r = omega arith
  stands_few (block {m = m} {b = b} z y i) r =
      let l = (block_fits s ok.tree m b r y).0 in let k = stands_few i (omega arith) in omega arith

  pub around_few : (m : ℕ) → m < length s.modules → module_around s m ≤ m
  around_few m r = stands_few (around_stands s ok.tree (suc m) m (omega arith) r) r

  -- each `super` leads to a smaller number
  pub above_few : (k m t : ℕ) → m < length s.modules → above s k m ≡ Some t → k + t ≤ m
  unfolding above above_or
  above_few zero m t r e = let z : m ≡ t = cc in omega arith
  above_few (suc k) m t r e =
      by_number (parent_of s m) (λ z. absurd (none_some (rw z at e)))
      (λ p z.
      let l = (parent_fits s ok.tree m p r z).0 in
      let a = around_few p (omega arith) in
      let i = above_few k (module_around s p) t (omega arith) (rw z at e) in omega arith)

  item_module : (ns d : ℕ) → eqb ns types && eqb (definition_of s d).kind module_kind ≡ true → item_of s ns d ≡ module_item (definition_of s d).first
  unfolding item_of
  item_module ns d t = rw (item_of, t)

  item_other : (ns d : ℕ) → eqb ns types && eqb (definition_of s d).kind module_kind ≡ false → item_of s ns d ≡ defined_item ns d
  unfolding item_of
  item_other ns d t = rw (item_of, t)

  module_known : (d : ℕ) → d < length s.definitions → (definition_of s d).kind ≡ module_kind → (definition_of s d).first < length s.modules
  unfolding definition_of
  module_known d h k = (each_at no_definition d ok.ranges.definitions h).home (λ z. omega (arith, k, z)) (λ z. omega (arith, k, z))

  item_fits : (ns d : ℕ) → d < length s.definitions → Fit s ns (item_of s ns d)
  item_fits ns d h =
      by_test (eqb ns types && eqb (definition_of s d).kind module_kind)
      (λ t.
      let k = eqb-true (definition_of s d).kind module_kind (and_two (eqb ns types) (eqb (definition_of s d).kind module_kind) t).1 in
      subst (Fit s ns) (sym (item_module ns d t)) (module_known d h k))
      (λ t. subst (Fit s ns) (sym (item_other ns d t)) refl)

  module _ (from ns : ℕ) where
    seen_fits : (m : ℕ) {xs : List Scope} → Each (ScopeFits (counts_of s)) xs → Fits s ns (map (as_named s) (select (is_seen_in s from ns m) xs))
    unfolding select
    seen_fits m Each.none = Each.none
    seen_fits m (more {x = e} f h) =
        by_test (is_seen_in s from ns m e)
        (λ t.
        let q = (and_two (eqb e.owner m) _ t).1 in
        let same : e.ns ≡ ns = eqb-true e.ns ns (and_two (eqb e.ns ns) _ q).0 in
        rw (t, select) (more (subst (λ (k : ℕ). Fit s k (item_of s e.ns e.definition)) same
        (item_fits e.ns e.definition f.definition)) (seen_fits m h)))
        (λ t. rw (t, select) (seen_fits m h))

    entries_fit : (m : ℕ) → Fits s ns (entries_in s from ns m)
    unfolding entries_in
    entries_fit m = seen_fits m ok.ranges.scopes

    over_fit : (ms : List ℕ) → Fits s ns (entries_over s from ns ms)
    unfolding entries_over
    over_fit [] = Each.none
    over_fit (m ∷ ms) = each_append (entries_fit m) (over_fit ms)

    prelude_fits : (o : Option Prelude) → Fits s ns (prelude_entries s from ns o)
    unfolding prelude_entries
    prelude_fits None = Each.none
    prelude_fits (Some p) = entries_fit p.target

    owned_fit : {xs : List Extern} → Each (ExternFits (counts_of s)) xs
        → Fits s ns (map extern_named (select (λ (x : Extern). eqb x.owner (crate_of s from)) xs))
    unfolding select
    owned_fit Each.none = Each.none
    owned_fit (more {x = x} f h) =
        by_test (eqb x.owner (crate_of s from)) (λ t. rw (t, select) (more f.target (owned_fit h))) (λ t. rw (t, select) (owned_fit h))

    externs_fit : Fits s ns (externs_in s from ns)
    unfolding externs_in
    externs_fit = by_test (eqb ns types) (λ t. rw (t, externs_in) (owned_fit ok.ranges.externs)) (λ t. rw (t, externs_in) Each.none)

    absolutes_fit : Fits s ns (absolutes s from ns)
    unfolding absolutes
    absolutes_fit =
        by_test (eqb (crate_data s (crate_of s from)).edition 2015) (λ t. rw (t, absolutes) Each.none) (λ t. rw (t, absolutes) externs_fit)

    firsts_fit : Fits s ns (firsts s from ns)
    unfolding firsts
    firsts_fit = each_append (over_fit (scopes_from s from)) (each_append externs_fit (prelude_fits (prelude_of s (map_no s from))))

    variants_fit : (d : ℕ) → Fits s ns (variants_in s ns d)
    unfolding variants_in
    variants_fit d =
        by_test (ltb ns macros)
        (λ t. rw (t, variants_in) (each_made (variant_named s ns) (select (is_variant_of d) s.members) (λ x. refl)))
        (λ t. rw (t, variants_in) Each.none)

    within_fits : (x : Item) → Fits s ns (within s from ns x)
    unfolding within
    within_fits (Mod m) = entries_fit m.0
    within_fits (Def k d) = variants_fit d.0

    named_fits : (n : ℕ) (xs : List Named) (x : Item) → Fits s ns xs → item_in (named n xs) ≡ Some x → Fit s ns x
    named_fits n xs x h e =
        let i = item_in_lem (named n xs) x e in
        let a = named_in_lem n xs i.0 i.1 in subst (Fit s ns) i.2 (each_in h a.0)

  module _ (from : ℕ) (r : from < length s.modules) where
    keyword_known : (k : Keyword) (m : ℕ) → keyword_module s from k ≡ Some m → m < length s.modules
    unfolding keyword_module
    keyword_known (supers k) m e =
        let a = around_few from r in let l = above_few k (module_around s from) m (omega arith) e in omega arith
    keyword_known crate m e = let same : crate_root s from ≡ m = cc in rw (← same) (crate_root_known s ok from r)

    keyword_from_lem : (k : Keyword) (ns : ℕ) (x : Item) → means s from ns (keyword k) ≡ Some x
        → (m : ℕ) × (keyword_module s from k ≡ Some m) × (module_item m ≡ x)
    unfolding means reads module_named item_in
    keyword_from_lem k ns x e =
        by_option (keyword_module s from k)
        (λ z. absurd (none_some (rw z at e)))
        (λ m z. let f : Some (module_item m) ≡ Some x = rw z at e in let same : module_item m ≡ x = cc in (m, z, same))

    meant : (p : Path) (ns : ℕ) (x : Item) → means s from ns p ≡ Some x → Fit s ns x
    unfolding means reads
    meant (keyword k) ns x e = let f = keyword_from_lem k ns x e in subst (Fit s ns) f.2 (keyword_known k f.0 f.1)
    meant (absolute n) ns x e = named_fits from ns n (absolutes s from ns) x (absolutes_fit from ns) e
    meant (plain n) ns x e = named_fits from ns n (firsts s from ns) x (firsts_fit from ns) e
    meant (into p n) ns x e =
        let f = into_from s from ns n p x e in named_fits from ns n (within s from ns f.0) x (within_fits from ns f.0) f.2

    keyword_tried : (k : Keyword) (m : ℕ) → keyword_module s from k ≡ Some m → Memᴰ k (keywords s)
    unfolding keyword_module
    keyword_tried (supers zero) m e = Memᴰ.head refl
    keyword_tried crate m e = Memᴰ.tail (Memᴰ.head refl)
    keyword_tried (supers (suc k)) m e =
        let a = around_few from r in
        let l = above_few (suc k) (module_around s from) m (omega arith) e in
        let z : suc k ≡ 1 + k = omega arith in
        Memᴰ.tail (Memᴰ.tail (Memᴰ.cast (ap supers z) (rows_in supers 1 (length s.modules) k (omega arith))))

    pub plenty : Plenty s from
    plenty =
        record {
          tried = λ k x e. let f = keyword_from_lem k types x e in keyword_tried k f.0 f.1;
          known = λ p m e. meant p types (module_item m) e;
          typed = λ p k d e. meant p types (defined_item k d) e;
          belongs = ok.members;
        }
