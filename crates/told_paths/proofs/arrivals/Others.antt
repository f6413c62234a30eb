-- The first path to what is no module: no keyword and no extern means it.
use Prim.Native.Nat.{ℕ, zero, suc}
use mathlib.Core.Path.{◌≡◌, refl, sym, ap, ◌∙◌}
use mathlib.Core.List.{List, [], ◌∷◌, ◌++◌, map, append-nil, append_assoc}
use mathlib.Core.Bool.{Bool, true, false}
use Rattle.std.specs.Prelude.{Option, None, Some}
use lib.Dec.{eqb}
use Rattle.snapshot.specs.Records.{Snapshot, Extern}
use Rattle.accept.specs.Valid.{Each}
use Rattle.accept.proofs.Accepted.{by_test}
use Rattle.module_tree.proofs.Laws.{by_option}
use Rattle.hir_def.specs.Finds.{first_of, or_first, select}
use Rattle.hir_def.specs.Items.{types, crate_of, crate_data, ns_of, same_item, module_item, defined_item}
use Rattle.hir_def.specs.declared.Item.{Item}
use Rattle.hir_def.proofs.Every.{each_in}
use Rattle.nameable.specs.Paths.{Keyword, Path, keyword, absolute, Named, named, extern_named, externs_in, absolutes, keyword_module, module_named}
use Rattle.nameable.specs.Paths.{reads}
use Rattle.nameable.specs.Paths.{item_in, means}
use Rattle.nameable.specs.Breadth.{Way, added, keywords, nameless, single, onward, reached, is_item, first_to, arrival, turns}
use Rattle.nameable.specs.Queue.{run}
use Rattle.nameable.proofs.Reached.{each_made, named_in_lem, Plenty}
use Rattle.nameable.proofs.Queue.{onward_append, reached_end, first_append, arrival_order, run_reached}

-- a test that fails for each finds nothing
pub first_nothing : {A B : Type 0} (p : B → Bool) (f : A → B) (xs : List A) → ((x : A) → p (f x) ≡ false) → first_of p (map f xs) ≡ None
unfolding first_of
first_nothing p f [] h = refl
first_nothing p f (x ∷ xs) h = rw (h x, first_of) (first_nothing p f xs h)

or_same : {A : Type 0} (a b : Option A) → or_first a (or_first a b) ≡ or_first a b
unfolding or_first
or_same None b = refl
or_same (Some x) b = refl

-- modules alone
abbrev pub IsModule : Named → Type 0
IsModule x = (m : ℕ) × (x.item ≡ module_item m)

module _ (s : Snapshot) (from ns : ℕ) where
  pub externs_modules : Each IsModule (externs_in s from ns)
  unfolding externs_in
  externs_modules =
      by_test (eqb ns types)
      (λ t. rw (t, externs_in) (each_made extern_named (select (λ (x : Extern). eqb x.owner (crate_of s from)) s.externs)
      (λ x. (x.target, refl))))
      (λ t. rw (t, externs_in) Each.none)

  absolutes_modules : Each IsModule (absolutes s from ns)
  unfolding absolutes
  absolutes_modules =
      by_test (eqb (crate_data s (crate_of s from)).edition 2015) (λ t. rw (t, absolutes) Each.none) (λ t. rw (t, absolutes) externs_modules)

-- a name among modules means nothing else
pub named_module : (k d n : ℕ) (xs : List Named) → Each IsModule xs → is_item (defined_item k d) (item_in (named n xs)) ≡ false
unfolding is_item item_in same_item
named_module k d n xs h =
    by_option (named n xs)
    (λ z. rw z)
    (λ x z. let f = each_in h (named_in_lem n xs x z).0 in rw (z, f.1))

module _ (s : Snapshot) (from k d : ℕ) where
  abbrev item : Item
  item = defined_item k d

  keyword_not : (w : Keyword) → is_item item (means s from (ns_of item) (keyword w)) ≡ false
  unfolding is_item means reads module_named item_in same_item
  keyword_not w = by_option (keyword_module s from w) (λ z. rw z) (λ m z. rw z)

  nameless_none : (b : Bool) → first_to s from item (nameless b s) ≡ None
  unfolding nameless first_to first_of
  nameless_none true = refl
  nameless_none false = first_nothing (λ (p : Path). is_item item (means s from (ns_of item) p)) keyword (keywords s) keyword_not

  absolute_none : first_to s from item (single false s from k) ≡ None
  unfolding single first_to ns_of means reads
  absolute_none =
      first_nothing (λ (p : Path). is_item item (means s from k p)) (λ (x : Named). absolute x.name) (absolutes s from k)
      (λ x. named_module k d x.name (absolutes s from k) (absolutes_modules s from k))

  abbrev past : List Way → Option Path
  past ws = first_to s from item (onward s from k ws)

  reached_start : (b : Bool) (j : ℕ) → (vs : List Way) × (reached b s from j ≡ reached b s from 0 ++ vs)
  reached_start b zero = ([], sym (append-nil (reached b s from 0)))
  reached_start b (suc j) =
      let f = reached_start b j in
      let g = reached_end s from b j in
      (f.0 ++ g.0, g.1 ∙ (ap (λ (ws : List Way). ws ++ g.0) f.1 ∙ append_assoc (reached b s from 0) f.0 g.0))

  -- the first rows stand at the front of the run
  past_again : (b : Bool) → Plenty s from → or_first (past (reached b s from 0)) (past (run b s from)) ≡ past (run b s from)
  past_again b plenty =
      let f = reached_start b (turns s) in
      let a : List Way = reached b s from 0 in
      let split : past (run b s from) ≡ or_first (past a) (past f.0) =
      ap past (run_reached s from plenty b ∙ f.1)
      ∙ (ap (first_to s from item) (onward_append s from k a f.0) ∙ first_append s from item (onward s from k a) (onward s from k f.0)) in
      ap (or_first (past a)) split ∙ (or_same (past a) (past f.0) ∙ sym split)

  pub arrival_keywords : Plenty s from → arrival false s from (defined_item k d) ≡ first_to s from (defined_item k d)
      (onward s from k (run false s from))
  unfolding ns_of or_first
  arrival_keywords plenty =
      arrival_order s from false item plenty
      ∙ (ap (λ (o : Option Path). or_first o (or_first (past (reached false s from 0))
      (or_first (first_to s from item (single false s from k)) (past (run false s from)))))
      (nameless_none false)
      ∙ (ap (λ (o : Option Path). or_first (past (reached false s from 0)) (or_first o (past (run false s from)))) absolute_none
      ∙ past_again false plenty))

  pub arrival_plainly : Plenty s from → arrival true s from (defined_item k d)
      ≡ or_first (first_to s from (defined_item k d) (single true s from k)) (first_to s from (defined_item k d) (onward s from k (run true s from)))
  unfolding ns_of or_first reached added nameless onward first_to first_of
  arrival_plainly plenty = arrival_order s from true item plenty
