-- Import records as words: the check takes them, one after the other.
use Prim.Native.Nat.{ℕ, zero, suc, ◌+◌, ◌-◌, ◌*◌, ◌/◌, ◌%◌, ◌≤◌, ◌<◌}
use mathlib.Core.Path.{◌≡◌, refl, sym, ◌∙◌, ap, ap₂}
use mathlib.Core.List.{List, [], ◌∷◌, ◌++◌, append-nil}
use mathlib.Core.Bool.{true}
use native.Mathlib.Omega.{arith}
use native.Mathlib.Nat.{add-zero}
use borrow.Author.Tests.{le-leb, leb-true, ltb-true}
use lib.Dec.{leb, ltb}
use lib.ListN.{length, get_or, get_or-append}
use lib.Seq.{append_snoc, get_or-append-add}
use Rattle.snapshot.specs.Words.{kind_of, pay_of, arguments_of, arguments_at}
use Rattle.snapshot.specs.Sizes.{import_size}
use Rattle.snapshot.specs.Records.{Snapshot, Import, import_at}
use Rattle.check_rules.specs.Tests.{counts_of}
use Rattle.check_rules.specs.Steps.{on, add_import, import_step}
use Rattle.check_rules.specs.Verdict.{follows, arguments_from, record_step, records}
use Rattle.accept.specs.Valid.{Each, more, Limits}
use Rattle.accept.proofs.Bools.{and_two, and_four}
use Rattle.edit_rules.specs.Entries.{moved_import, with_lists}
use Rattle.edit_rules.proofs.scope_edits.Stepped.{Taking, taken_step, arguments_same}
use Rattle.edit_rules.proofs.scope_edits.Folded.{records_take}
use Rattle.edit_rules.proofs.scope_edits.Inserted.{kind_none}
use Rattle.import_rules.specs.Collect.{import_words, words_of}
use Rattle.import_rules.specs.import_words.Words.{Fits, placed_from}

-- a field is an argument: its word is of kind 0
pub record Small (x : Import) : Type 0 where
  pub owner : x.owner < 268435456
  pub ns : x.ns < 268435456
  pub definition : x.definition < 268435456
  pub name : x.name < 268435456
  pub container : x.container < 268435456
  pub bits : x.bits < 268435456

pub fits_small : (s : Snapshot) (x : Import) → Limits (counts_of s) → Fits s x → Small x
fits_small s x l f =
    let r = and_two (leb x.ns 2) (leb x.bits 3) f.0 in
    let k = and_four (ltb x.owner (length s.crates)) (ltb x.definition (length s.definitions)) (ltb x.name (length s.names))
    (ltb x.container (length s.modules)) f.1 in
    let a = leb-true x.ns 2 r.0 in
    let b = leb-true x.bits 3 r.1 in
    let c = ltb-true x.owner (length s.crates) k.0 in
    let d = ltb-true x.definition (length s.definitions) k.1 in
    let e = ltb-true x.name (length s.names) k.2 in
    let g = ltb-true x.container (length s.modules) k.3 in
    let m = l.crates in
    let n = l.definitions in
    let o = l.names in
    let p = l.modules in
    record {
      owner = omega arith;
      ns = omega arith;
      definition = omega arith;
      name = omega arith;
      container = omega arith;
      bits = omega arith;
    }

follows_import : (last : ℕ) → last ≤ 10 → follows last 10 ≡ true
follows_import last h = rw (le-leb last 10 h)

-- the step of an import record
pub import_kind : (W : List ℕ) (a k : ℕ) (s : Snapshot) → k ≡ 10 → record_step k W a s ≡ import_step s (import_at W a)
unfolding record_step
import_kind W a k s e = rw e

pub import_arguments : (W : List ℕ) (a : ℕ) → kind_of (get_or W a 0) ≡ 10 → arguments_at W a ≡ import_size - 1
unfolding arguments_of
import_arguments W a e = ap (λ k. arguments_of k (pay_of (get_or W a 0))) e

import_takes : (s : Snapshot) (x : Import) → Fits s x → import_step s x ≡ on (add_import s x)
unfolding import_step
import_takes s x f = rw (import_step, f.0, f.1, f.2)

words_arguments : (x : Import) → Small x → arguments_from (import_words x) 1 5 ≡ true
unfolding arguments_from
words_arguments x h =
    rw (
      kind_none x.ns h.ns,
      kind_none x.definition h.definition,
      kind_none x.name h.name,
      kind_none x.container h.container,
      kind_none x.bits h.bits,
    )

-- the words of an import at a place
module _ (x : Import) (small : Small x) (X : List ℕ) (p : ℕ) (at : (i : ℕ) → i < import_size → get_or X (p + i) 0 ≡ get_or (import_words x) i 0)
    (fits : p + import_size ≤ length X)
  where
    head_is : get_or X p 0 ≡ 0xA0000000 + x.owner
    head_is = ap (λ j. get_or X j 0) (sym (add-zero p)) ∙ at 0 (omega arith)

    kind_is : kind_of (get_or X p 0) ≡ 10
    kind_is = let h = small.owner in let e : (0xA0000000 + x.owner) / 268435456 ≡ 10 = omega arith in ap kind_of head_is ∙ e

    import_is : import_at X p ≡ moved_import (λ n. p) x
    import_is =
        let h = small.owner in
        let e : (0xA0000000 + x.owner) % 268435456 ≡ x.owner = omega arith in
        let o : pay_of (get_or X p 0) ≡ x.owner = ap pay_of head_is ∙ e in
        let f = at 1 (omega arith) in
        let g = at 2 (omega arith) in
        let k = at 3 (omega arith) in
        let l = at 4 (omega arith) in
        let m = at 5 (omega arith) in
        λ i. record { owner = o i; ns = f i; definition = g i; name = k i; container = l i; bits = m i; place = p }

    arguments_stand : arguments_from X (p + 1) 5 ≡ true
    arguments_stand =
        arguments_same (import_words x) X 1 (p + 1) 5
        (λ d h. let a : p + 1 + d ≡ p + (1 + d) = omega arith in ap (λ j. get_or X j 0) a ∙ at (1 + d) (omega arith))
        (omega arith) (words_arguments x small)

    import_taken : (last : ℕ) (s : Snapshot) → last ≤ 10 → Fits s x → Taking X p last s (add_import s (moved_import (λ n. p) x))
    import_taken last s low f =
        record {
          order = ap (follows last) kind_is ∙ follows_import last low;
          whole = ap (arguments_from X (p + 1)) (import_arguments X p kind_is) ∙ arguments_stand;
          step = import_kind X p (kind_of (get_or X p 0)) s kind_is ∙ ap (import_step s) import_is ∙ import_takes s (moved_import (λ n. p) x) f;
        }

    pub over_import : (n last : ℕ) (s : Snapshot) → last ≤ 10 → Fits s x
        → records (suc n) X p last s ≡ records n X (p + import_size) 10 (add_import s (moved_import (λ n. p) x))
    over_import n last s low f =
        let t = add_import s (moved_import (λ n. p) x) in
        let to : p + 1 + (import_size - 1) ≡ p + import_size = omega arith in
        records_take X n p last s t (omega arith) (taken_step X p last s t (import_taken last s low f)) (import_arguments X p kind_is) kind_is
        ∙ ap (λ j. records n X j 10 t) to

-- the words of imports

pub words_length : (xs : List Import) → length (words_of xs) ≡ import_size * length xs
unfolding words_of
words_length [] = refl
words_length (x ∷ xs) = let e = words_length xs in omega arith

pub words_append : (xs ys : List Import) → words_of (xs ++ ys) ≡ words_of xs ++ words_of ys
unfolding words_of
words_append [] ys = refl
words_append (x ∷ xs) ys = ap (λ l. import_words x ++ l) (words_append xs ys)

pub words_first : (x : Import) (xs : List Import) (i : ℕ) → i < import_size → get_or (words_of (x ∷ xs)) i 0 ≡ get_or (import_words x) i 0
unfolding words_of
words_first x xs i h = get_or-append (import_words x) (words_of xs) 0 i h

pub words_later : (x : Import) (xs : List Import) (i : ℕ) → get_or (words_of (x ∷ xs)) (import_size + i) 0 ≡ get_or (words_of xs) i 0
unfolding words_of
words_later x xs i = get_or-append-add (import_words x) (words_of xs) i 0

-- a snapshot with more imports
abbrev pub with_more : Snapshot → List Import → Snapshot
with_more s xs = with_lists s s.scopes (s.imports ++ xs) s.externs

pub more_next : (s : Snapshot) (x : Import) (xs : List Import) → with_more (add_import s x) xs ≡ with_more s (x ∷ xs)
more_next s x xs = ap (λ l. with_lists s s.scopes l s.externs) (append_snoc s.imports x xs)

-- the fold over them
pub record Over (X : List ℕ) (n b last : ℕ) (s : Snapshot) (xs : List Import) : Type 0 where
  pub fuel : ℕ
  pub before : ℕ
  pub low : before ≤ 10
  pub enough : length X ≤ fuel + (b + import_size * length xs)
  pub same : records n X b last s ≡ records fuel X (b + import_size * length xs) before (with_more s (placed_from b xs))

over_next : (X : List ℕ) (n b last : ℕ) (s : Snapshot) (x : Import) (xs : List Import)
    → records (suc n) X b last s ≡ records n X (b + import_size) 10 (add_import s (moved_import (λ n. b) x))
    → Over X n (b + import_size) 10 (add_import s (moved_import (λ n. b) x)) xs
    → Over X (suc n) b last s (x ∷ xs)
unfolding placed_from
over_next X n b last s x xs e r =
    let to : b + import_size + import_size * length xs ≡ b + import_size * suc (length xs) = omega arith in
    record {
      fuel = r.fuel;
      before = r.before;
      low = r.low;
      enough = let m = r.enough in omega arith;
      same = e ∙ r.same ∙ ap₂ (λ j t. records r.fuel X j r.before t) to
          (more_next s (moved_import (λ n. b) x) (placed_from (b + import_size) xs));
    }

pub over_imports : (X : List ℕ) (xs : List Import) (n b last : ℕ) (s : Snapshot) → Limits (counts_of s) → last ≤ 10 → Each (Fits s) xs
    → ((i : ℕ) → i < import_size * length xs → get_or X (b + i) 0 ≡ get_or (words_of xs) i 0) → b + import_size * length xs ≤ length X
    → length X ≤ n + b
    → Over X n b last s xs
unfolding placed_from
over_imports X [] n b last s lim low fits at within enough =
    let e : b ≡ b + import_size * 0 = omega arith in
    record {
      fuel = n;
      before = last;
      low = low;
      enough = omega arith;
      same = ap₂ (λ j l. records n X j last (with_lists s s.scopes l s.externs)) e (sym (append-nil s.imports));
    }
over_imports X (x ∷ xs) zero b last s lim low fits at within enough = absurd (omega arith)
over_imports X (x ∷ xs) (suc n) b last s lim low (more f fs) at within enough =
    over_next X n b last s x xs
    (over_import x (fits_small s x lim f) X b (λ i h. at i (omega arith) ∙ words_first x xs i h) (omega arith) n last s low f)
    (over_imports X xs n (b + import_size) 10 (add_import s (moved_import (λ n. b) x)) lim (omega arith) fs
    (λ i h. let q : b + import_size + i ≡ b + (import_size + i) = omega arith in
    ap (λ j. get_or X j 0) q ∙ at (import_size + i) (omega arith) ∙ words_later x xs i) (omega arith) (omega arith))
