-- The first plain name that means an item which is no module: by the first seen entry for the item that its name means.
use Prim.Native.Nat.{ℕ}
use mathlib.Core.Path.{◌≡◌, refl, sym, ap, ap₂, subst, ◌∙◌}
use mathlib.Core.List.{List, [], ◌∷◌, ◌++◌, map, append_assoc}
use mathlib.Core.Bool.{Bool, true, false, ◌&&◌, true≢false}
use Rattle.std.specs.Prelude.{Option, None, Some, option_map}
use borrow.Author.Tests.{eq-eqb}
use lib.Dec.{eqb}
use Rattle.snapshot.specs.Records.{Snapshot, Scope, Prelude}
use Rattle.accept.specs.Valid.{Each, more}
use Rattle.accept.proofs.Accepted.{by_test}
use Rattle.accept.proofs.Bools.{each_map, each_snoc}
use Rattle.module_tree.specs.rules.Modules.{map_no}
use Rattle.module_tree.proofs.Laws.{by_option}
use Rattle.hir_def.specs.Finds.{first_of, first_some, or_first}
use Rattle.hir_def.specs.Items.{ns_of, item_of, same_item, defined_item}
use Rattle.hir_def.specs.ItemScope.{is_for}
use Rattle.hir_def.specs.Nameres.{prelude_of}
use Rattle.hir_def.specs.declared.Item.{Item}
use Rattle.hir_def.proofs.Same.{same_item_lem, ns_of_item}
use Rattle.hir_def.proofs.Every.{each_in}
use Rattle.nameable.specs.Seen.{seen}
use Rattle.nameable.specs.Paths.{Path, plain, Named, named, is_seen_in, as_named, entries_in, externs_in, entries_over, scopes_from, prelude_entries}
use Rattle.nameable.specs.Paths.{firsts}
use Rattle.nameable.specs.Paths.{reads, item_in, means}
use Rattle.nameable.specs.Breadth.{single, is_item, first_to}
use Rattle.nameable.proofs.Lists.{none_some, first_hit, first_miss, first_found_lem}
use Rattle.nameable.proofs.Reached.{named_in_lem}
use Rattle.any_path.proofs.Plains.{map_or, first_or}
use Rattle.nameable.proofs.Arrives.{or_first_none}
use Rattle.nameable.proofs.Lookups.{first_mapped, first_same}
use Rattle.nameable.proofs.Queue.{first_of_append}
use Rattle.told_paths.specs.arrivals.Steps.{is_plain_for, plain_in, plain_in_prelude, plain_entry}
use Rattle.told_paths.proofs.arrivals.Others.{IsModule, externs_modules}

first_map : {A B : Type 0} (p : B → Bool) (f : A → B) (xs : List A) → first_of p (map f xs) ≡ option_map f (first_of (λ x. p (f x)) xs)
unfolding first_of
first_map p f [] = refl
first_map p f (x ∷ xs) = by_test (p (f x)) (λ t. rw (t, first_of)) (λ t. rw (t, first_of) (first_map p f xs))

-- one test more that the one found passes
and_first : {A : Type 0} (p q : A → Bool) (xs : List A) → ((x : A) → first_of p xs ≡ Some x → q x ≡ true)
    → first_of p xs ≡ first_of (λ x. q x && p x) xs
unfolding first_of
and_first p q [] h = refl
and_first p q (x ∷ xs) h =
    by_test (p x)
    (λ t. first_hit p x xs t ∙ sym (first_hit (λ y. q y && p y) x xs (rw (h x (first_hit p x xs t)) t)))
    (λ t.
    first_miss p x xs t
    ∙ (and_first p q xs (λ y e. h y (first_miss p x xs t ∙ e)) ∙ sym (first_miss (λ y. q y && p y) x xs (by_test (q x) (λ u. rw u t) (λ u. rw u)))))

first_each : {A : Type 0} (p : A → Bool) {xs : List A} → Each (λ x. p x ≡ false) xs → first_of p xs ≡ None
unfolding first_of
first_each p Each.none = refl
first_each p (more {x = x} {xs = xs} e h) = first_miss p x xs e ∙ first_each p h

-- Names of a list, each by the first that has it.
module _ (item : Item) (xs : List Named) where
  abbrev is_meant : ℕ → Bool
  is_meant n = is_item item (item_in (named n xs))

  -- the first name that means the item is what it means
  own_from_lem : (pre rest : List Named) → xs ≡ pre ++ rest → Each (λ (y : Named). is_meant y.name ≡ false) pre
      → (x : Named) → first_of (λ (y : Named). is_meant y.name) rest ≡ Some x → named x.name xs ≡ Some x
  unfolding named first_of
  own_from_lem pre [] e h x f = absurd (none_some f)
  own_from_lem pre (y ∷ rest) e h x f =
      by_test (is_meant y.name)
      (λ t.
      let g : Some y ≡ Some x = sym (first_hit (λ (z : Named). is_meant z.name) y rest t) ∙ f in
      let same : y ≡ x = cc in
      let here : named y.name xs ≡ or_first (named y.name pre) (named y.name (y ∷ rest)) =
      ap (named y.name) e ∙ first_of_append (λ (z : Named). eqb z.name y.name) pre (y ∷ rest) in
      let hit : named y.name (y ∷ rest) ≡ Some y = first_hit (λ (z : Named). eqb z.name y.name) y rest (eq-eqb y.name y.name refl) in
      let none_before : named y.name pre ≡ None =
      by_option (named y.name pre) (λ z. z)
      (λ w z.
      let i = named_in_lem y.name pre w z in
      absurd (true≢false (sym t ∙ (ap is_meant (sym i.1) ∙ each_in h i.0)))) in
      subst (λ (z : Named). named z.name xs ≡ Some z) same
      (here ∙ (or_first_none (named y.name pre) (named y.name (y ∷ rest)) none_before ∙ hit)))
      (λ t.
      own_from_lem (pre ++ (y ∷ [])) rest (e ∙ sym (append_assoc pre (y ∷ []) rest)) (each_snoc h t) x
      (sym (first_miss (λ (z : Named). is_meant z.name) y rest t) ∙ f))

  own : (x : Named) → first_of (λ (y : Named). is_meant y.name) xs ≡ Some x → named x.name xs ≡ Some x
  own x f = own_from_lem [] xs refl Each.none x f

  abbrev is_own : Named → Bool
  is_own x = same_item x.item item && is_meant x.name

  -- and its item is the item
  own_first : first_of (λ (y : Named). is_meant y.name) xs ≡ first_of is_own xs
  unfolding item_in is_item
  own_first =
      and_first (λ (y : Named). is_meant y.name) (λ (y : Named). same_item y.item item) xs
      (λ x f.
      let t = (first_found_lem (λ (y : Named). is_meant y.name) xs x f).1 in
      sym (ap (λ (o : Option Named). is_item item (item_in o)) (own x f)) ∙ t)

tests_same : (o n v i t : Bool) → (i ≡ true → n ≡ true) → (o && (n && v)) && (i && t) ≡ ((o && i) && v) && t
tests_same false n v i t h = refl
tests_same true true true false t h = refl
tests_same true true false false t h = refl
tests_same true false v false t h = refl
tests_same true true v true t h = refl
tests_same true false v true t h = absurd (true≢false (sym (h refl)))

module _ (s : Snapshot) (from k d : ℕ) where
  abbrev item : Item
  item = defined_item k d

  abbrev all : List Named
  all = firsts s from k

  abbrev test : Named → Bool
  test = is_own item all

  entry_same : (m : ℕ) (e : Scope) → is_seen_in s from k m e && test (as_named s e) ≡ is_plain_for s from m item e
  unfolding is_for means reads ns_of
  entry_same m e =
      tests_same (eqb e.owner m) (eqb e.ns k) (seen s from e) (same_item (item_of s e.ns e.definition) item)
      (is_item item (item_in (named e.name all)))
      (λ t.
      let same : item_of s e.ns e.definition ≡ item = same_item_lem (item_of s e.ns e.definition) item t in
      eq-eqb e.ns k (sym (ns_of_item s e.ns e.definition) ∙ ap ns_of same))

  module_first : (m : ℕ) → first_of test (entries_in s from k m) ≡ option_map (as_named s) (plain_in s from item m)
  unfolding entries_in plain_in
  module_first m =
      first_mapped test (as_named s) (is_seen_in s from k m) s.scopes
      ∙ ap (option_map (as_named s))
      (first_same (λ (e : Scope). is_seen_in s from k m e && test (as_named s e)) (is_plain_for s from m item) s.scopes (λ e i. entry_same m e))

  scopes_first : (ms : List ℕ) → first_of test (entries_over s from k ms) ≡ option_map (as_named s) (first_some (plain_in s from item) ms)
  unfolding entries_over first_of first_some
  scopes_first [] = refl
  scopes_first (m ∷ ms) =
      first_of_append test (entries_in s from k m) (entries_over s from k ms)
      ∙ (ap₂ or_first (module_first m) (scopes_first ms)
      ∙ (map_or (as_named s) (plain_in s from item m) (first_some (plain_in s from item) ms)
      ∙ ap (option_map (as_named s)) (sym (first_or (plain_in s from item) m ms))))

  prelude_first : (o : Option Prelude) → first_of test (prelude_entries s from k o) ≡ option_map (as_named s) (plain_in_prelude s from item o)
  unfolding prelude_entries plain_in_prelude first_of
  prelude_first None = refl
  prelude_first (Some p) = module_first p.target

  externs_first : first_of test (externs_in s from k) ≡ None
  unfolding same_item
  externs_first = first_each test (each_map (λ (x : Named) (h : IsModule x). rw h.1) (externs_modules s from k))

  all_first : first_of test (firsts s from k) ≡ option_map (as_named s) (plain_entry s from (defined_item k d))
  unfolding firsts plain_entry or_first
  all_first =
      let p : Option Prelude = prelude_of s (map_no s from) in
      first_of_append test (entries_over s from k (scopes_from s from)) (externs_in s from k ++ prelude_entries s from k p)
      ∙ (ap₂ or_first (scopes_first (scopes_from s from))
      (first_of_append test (externs_in s from k) (prelude_entries s from k p) ∙ (ap₂ or_first externs_first (prelude_first p)))
      ∙ map_or (as_named s) (first_some (plain_in s from item) (scopes_from s from)) (plain_in_prelude s from item p))

  meant_first : first_of (λ (x : Named). is_meant item all x.name) all ≡ option_map (as_named s) (plain_entry s from item)
  meant_first = own_first item all ∙ all_first

  name_after : (o : Option Scope) → option_map (λ (x : Named). plain x.name) (option_map (as_named s) o)
      ≡ option_map (λ (e : Scope). plain e.name) o
  name_after None = refl
  name_after (Some e) = refl

  -- the first plain name
  pub plain_first : first_to s from (defined_item k d) (single true s from k)
      ≡ option_map (λ e. plain e.name) (plain_entry s from (defined_item k d))
  unfolding first_to single means reads ns_of
  plain_first =
      first_map (λ (p : Path). is_item item (means s from k p)) (λ (x : Named). plain x.name) all
      ∙ (ap (option_map (λ (x : Named). plain x.name)) meant_first ∙ name_after (plain_entry s from item))

  -- it is read by that entry
  pub plain_reads : (e : Scope) → plain_entry s from (defined_item k d) ≡ Some e → reads s from k (plain e.name) ≡ Some (as_named s e)
  unfolding reads
  plain_reads e h = own item all (as_named s e) (meant_first ∙ ap (option_map (as_named s)) h)
