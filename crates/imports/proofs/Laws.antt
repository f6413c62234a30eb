-- What the entry point leaves, by the definition of a listing.
use Prim.Native.Nat.{ℕ, ◌+◌, ◌*◌, ◌^◌, ◌≤◌, ◌<◌}
use mathlib.Core.Path.{◌≡◌, refl, sym, ◌∙◌, ap, ap₂, subst}
use mathlib.Core.List.{List, ◌++◌}
use mathlib.Core.Bool.{true}
use native.Mathlib.Omega.{arith}
use native.Mathlib.Nat.{zero-add}
use borrow.Author.Tests.{lt-ltb, le-ltb, le-leb, lt-leb}
use lib.ListN.{length, get_or, drop}
use lib.Seq.{sets, sets-eq}
use Rattle.snapshot.specs.Sizes.{import_size}
use Rattle.snapshot.specs.Records.{Snapshot, crate_at}
use Rattle.snapshot.specs.Layouts.{crate_base, snap_of}
use Rattle.snapshot.specs.declared.layout.Layout.{Layout}
use Rattle.snapshot.proofs.Laws.{length_rows}
use Rattle.check_rules.specs.Verdict.{refuse, verdict}
use Rattle.accept.specs.Post.{Reads}
use Rattle.accept.proofs.Stable.{snap_stays}
use Rattle.answer.specs.Answers.{zeros}
use Rattle.answer.proofs.Areas.{area_small, area_large}
use Rattle.import_rules.specs.Collect.{modules_from, imports_over, collected, words_of}
use Rattle.imports.specs.order.Rooms.{entries_room}
use Rattle.imports.specs.order.Lists.{Ready}
use Rattle.import_rules.proofs.import_words.Taken.{words_length}
use Rattle.imports.specs.lists.Threads.{Threaded}
use Rattle.imports.specs.lists.Walks.{order_base, order_at, Walked}
use Rattle.answer.specs.counts.Targets.{written}
use Rattle.imports.proofs.lists.Walks.{threaded_kept}
use Rattle.imports.proofs.lists.Writing.{over_small}
use Rattle.imports.specs.Listings.{Listing, refused_by, listed, list_in, list_by, list_of, number_in, words_in, Lists, ListsIn}
use Rattle.answer.specs.counts.Counts.{Counted}

-- a refusal
pub lists_not : {T : List ℕ} {e : Listing} (k : ℕ) → e ≡ refused_by k → Lists T e T (record { number = k; count = 0 })
unfolding number_in words_in
lists_not {T} k q = subst (λ x. Lists T x T (record { number = k; count = 0 })) (sym q) (record { number = refl; count = refl; target = refl })

module _ (c room : ℕ) (s : Snapshot) where
  pub crate_unknown : length s.crates ≤ c → list_in c room s ≡ refused_by 23
  unfolding list_in
  crate_unknown h = rw (list_in, le-ltb _ _ h)

  module _ (known : c < length s.crates) where
    pub target_short : room < length (words_of (collected s c)) → list_in c room s ≡ refused_by 45
    unfolding list_in
    target_short h = rw (list_in, lt-ltb _ _ known, lt-leb _ _ h)

    pub target_long : length (words_of (collected s c)) ≤ room → list_in c room s ≡ listed (words_of (collected s c))
    unfolding list_in
    target_long h = rw (list_in, lt-ltb _ _ known, le-leb _ _ h)

-- the modules in order, listed over the tables as they then are, are the crate's list
module _ {W A B C : List ℕ} {l : Layout} {n c k : ℕ} (r : Ready W A l) (t : Threaded W B l n) (low : (i : ℕ) → i < entries_room
    → get_or B i 0 ≡ get_or A i 0) (w : Walked W B l c C k) where
  snap_walked : snap_of W C l ≡ snap_of W B l
  snap_walked = snap_stays W B C l t.ready.reads.tables (λ i a b. w.below i (omega arith))

  snap_threaded : snap_of W B l ≡ snap_of W A l
  snap_threaded = snap_stays W A B l r.reads.tables (λ i a b. low i b)

  pub walked_threaded : Threaded W C l n
  walked_threaded = threaded_kept t w.size w.below

  pub list_same : imports_over (snap_of W C l) c (order_at C l k) ≡ collected (snap_of W A l) c
  unfolding collected
  list_same =
      ap (imports_over (snap_of W C l) c) w.same ∙ ap (λ s. imports_over s c (modules_from (snap_of W B l) c)) (snap_walked)
      ∙ ap (λ s. imports_over s c (modules_from s c)) snap_threaded

  pub list_small : 0 + import_size * length (imports_over (snap_of W C l) c (order_at C l k)) ≤ 2 ^ 50
  list_small =
      let f = w.few in
      let b = length_rows (λ i. get_or C (order_base l + i) 0) k in
      let a = over_small walked_threaded.ready c (order_at C l k) (omega arith) in
      omega arith

-- the words of the list, stored from the front on
pub stored_front : (ws T : List ℕ) → length ws ≤ length T → sets T 0 ws ≡ ws ++ drop (length ws) T
stored_front ws T h = let q : 0 + length ws ≤ length T = omega arith in sets-eq ws T 0 q ∙ ap (λ n. ws ++ drop n T) (zero-add (length ws))

module _ {W A B C : List ℕ} {l : Layout} {n c k count : ℕ} (r : Ready W A l) (known : c < l.crates) (t : Threaded W B l n)
    (low : (i : ℕ) → i < entries_room → get_or B i 0 ≡ get_or A i 0) (w : Walked W B l c C k)
    (e : count ≡ 0 + import_size * length (imports_over (snap_of W C l) c (order_at C l k)))
  where
    in_crates : c < length (snap_of W A l).crates
    in_crates = omega (arith, length_rows (λ j. crate_at W (crate_base l + 2 * j)) l.crates)

    counted : count ≡ length (words_of (collected (snap_of W A l) c))
    counted = let a = words_length (collected (snap_of W A l) c) in let b = ap length (list_same r t low w) in omega arith

    pub list_short : {X T : List ℕ} → X ≡ T → length X < count → Lists T (list_in c (length T) (snap_of W A l)) X (record { number = 45; count = 0 })
    list_short {X} {T} x h =
        let a = counted in
        subst (λ y. Lists T (list_in c (length T) (snap_of W A l)) y (record { number = 45; count = 0 })) (sym x)
        (lists_not 45 (target_short c (length T) (snap_of W A l) in_crates (omega (arith, ap length x))))

    pub list_written : {X Y T : List ℕ} → X ≡ T → count ≤ length X → Y ≡ written true 0 (words_of (imports_over (snap_of W C l) c (order_at C l k))) X
        → Lists T (list_in c (length T) (snap_of W A l)) Y (record { number = 0; count = count })
    unfolding number_in words_in written
    list_written {X} {Y} {T} x h y =
        let ws = words_of (collected (snap_of W A l) c) in
        let a = counted in
        let fits : length ws ≤ length T = omega (arith, ap length x) in
        subst (λ z. Lists T z Y (record { number = 0; count = count })) (sym (target_long c (length T) (snap_of W A l) in_crates fits))
        (record {
          number = refl;
          count = a;
          target = y ∙ ap₂ (λ u v. sets v 0 (words_of u)) (list_same r t low w) x ∙ stored_front ws T fits;
        })

pub list_unknown : (W A : List ℕ) (l : Layout) (c : ℕ) (T : List ℕ) → l.crates ≤ c
    → Lists T (list_in c (length T) (snap_of W A l)) T (record { number = 23; count = 0 })
list_unknown W A l c T h = lists_not 23 (crate_unknown c (length T) (snap_of W A l)
    (omega (arith, length_rows (λ j. crate_at W (crate_base l + 2 * j)) l.crates)))

-- the check before it

module _ (W T : List ℕ) (c : ℕ) where
  pub checked_not : {k at : ℕ} → refuse k at ≡ verdict W → Lists T (list_by c (length T) (verdict W)) T (record { number = k; count = 0 })
  unfolding list_by
  checked_not {k} {at} e = lists_not k (ap (list_by c (length T)) (sym e))

  pub checked_done : {A : List ℕ} {l : Layout} {X : List ℕ} {r : Counted} → Reads W A l → Lists T (list_in c (length T) (snap_of W A l)) X r
      → Lists T (list_by c (length T) (verdict W)) X r
  unfolding list_by
  checked_done {A} {l} {X} {r} q h = subst (λ v. Lists T (list_by c (length T) v) X r) (sym q.same) h

-- the work area

pub lists_small : (W A T : List ℕ) (c : ℕ) → length A < 16384 → ListsIn W A c T T A (record { number = 20; count = 0 })
unfolding list_of
lists_small W A T c h = record { list = lists_not 20 (rw (list_of, lt-ltb _ _ h)); area = area_small A h }

pub lists_large : (W A T X B : List ℕ) (c : ℕ) (r : Counted) → 16384 ≤ length A → B ≡ zeros 16384 → Lists T (list_by c (length T) (verdict W)) X r
    → ListsIn W A c T X (B ++ drop 16384 A) r
unfolding list_of
lists_large W A T X B c r h z q =
    record {
      list = subst (λ e. Lists T e X r)
          (sym (let e : list_of (length A) W c (length T) ≡ list_by c (length T) (verdict W) = rw (list_of, le-ltb _ _ h) in e)) q;
      area = area_large A B h z;
    }
