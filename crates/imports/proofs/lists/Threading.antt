-- Gathering the public entries, and threading by a key.
use Prim.Native.Nat.{ℕ, ◌+◌, ◌-◌, ◌*◌, ◌≤◌, ◌<◌}
use mathlib.Core.Path.{◌≡◌, refl, sym, ◌∙◌, ap, ap₂}
use mathlib.Core.List.{List, [], ◌∷◌, ◌++◌, append_assoc, append-nil}
use native.Mathlib.Omega.{arith}
use borrow.Author.Tests.{eq-eqb, ne_eqb}
use lib.Dec.{eqb}
use lib.ListN.{length, get_or, set, length-set}
use lib.Seq.{get_or-set_same, get_or-set_other}
use Rattle.snapshot.specs.Sizes.{scope_size}
use Rattle.snapshot.specs.Lists.{rows}
use Rattle.snapshot.specs.Records.{Scope, scope_at}
use Rattle.snapshot.specs.Layouts.{word_count, scope_base, snap_of}
use Rattle.snapshot.specs.declared.layout.Layout.{Layout}
use Rattle.snapshot.proofs.Laws.{rows_next, rows_none, rows_put, rows_ext, rows_whole}
use Rattle.check_records.specs.chains.Chains.{Cleared, linked}
use Rattle.check_records.proofs.chains.Laws.{chained_none, chained_kept, chained_linked, linked_other}
use Rattle.check_records.specs.record_rules.Stands.{counts_in}
use Rattle.accept.specs.Post.{Reads}
use Rattle.accept.specs.Valid.{Each, ScopeFits}
use Rattle.accept.proofs.Bools.{each_rows}
use Rattle.accept.proofs.Stable.{snap_stays, reads_stay}
use Rattle.accept.proofs.Valid.{accepted_valid}
use Rattle.accept.proofs.Reading.{ranges_read, member_read}
use Rattle.hir_def.specs.Finds.{select}
use Rattle.hir_def.proofs.Found.{each_select}
use Rattle.find_path_spec.proofs.laws.Walks.{select_hit, select_miss}
use Rattle.import_rules.specs.Collect.{entry_before, is_public_in, sort_into, entries_of}
use Rattle.imports.specs.order.Rooms.{entries_room, heads_room, spare_room}
use Rattle.imports.specs.order.Lists.{entries_at, Runs, Ready, Sorts}
use Rattle.imports.proofs.order.Merges.{runs_none, runs_set}
use Rattle.imports.proofs.order.Orders.{entry_order}
use Rattle.imports.proofs.order.Sorts.{sorted_select}
use Rattle.imports.specs.lists.Threads.{member_heads_base, member_links_base, keyed, is_public, public_in, entry_of, member_of, Gathered, Threads}
use Rattle.imports.specs.lists.Threads.{Threaded}
use Rattle.import_rules.proofs.import_words.Fitting.{each_sort}
use Rattle.imports.proofs.lists.Keyed.{select_both, keyed_rows}

-- gathering: n of the first k of so many records were taken
pub record Gathering (W A : List ℕ) (base count : ℕ) (B : List ℕ) (k n : ℕ) : Type 0 where
  pub frame : Runs A B entries_room heads_room
  pub few : n ≤ k
  pub upto : k ≤ count
  pub left : select is_public (rows (λ j. scope_at W (base + scope_size * j)) 0 count)
      ≡ entries_at W B entries_room n ++ select is_public (rows (λ j. scope_at W (base + scope_size * j)) k (count - k))

pub gathering_start : (W A : List ℕ) (base count : ℕ) → Gathering W A base count A 0 0
unfolding rows
gathering_start W A base count =
    record {
      frame = runs_none A entries_room heads_room;
      few = omega arith;
      upto = omega arith;
      left = rows_whole (select is_public) (λ j. scope_at W (base + scope_size * j)) count;
    }

module _ {W A B : List ℕ} {base count k n : ℕ} (g : Gathering W A base count B k n) (more : k < count) {v : ℕ}
    (e : v ≡ (scope_at W (base + scope_size * k)).visibility) where
  record_at : ℕ → Scope
  record_at j = scope_at W (base + scope_size * j)

  pub gathering_skip : (v ≡ 0 → ⊥) → Gathering W A base count B (k + 1) n
  unfolding record_at
  gathering_skip h =
      let f = g.few in
      record {
        frame = g.frame;
        few = omega arith;
        upto = omega arith;
        left =
            g.left ∙ ap (λ r. entries_at W B entries_room n ++ select is_public r) (rows_next record_at k count more)
            ∙ ap (λ r. entries_at W B entries_room n ++ r) (select_miss is_public (record_at k) _ (ap (λ x. eqb x 0) (sym e) ∙ ne_eqb v 0 h));
      }

  pub gathering_take : {at : ℕ} → length A ≡ 16384 → count ≤ 2048 → v ≡ 0 → at ≡ base + scope_size * k
      → Gathering W A base count (set B (entries_room + n) at) (k + 1) (n + 1)
  unfolding record_at
  gathering_take {at} size small h q =
      let f = g.few in
      let z = g.frame.size in
      let left = select is_public (rows record_at (k + 1) (count - (k + 1))) in
      let put : entries_at W (set B (entries_room + n) at) entries_room (n + 1) ≡ entries_at W B entries_room n ++ (record_at k ∷ []) =
      rows_put _ _ n (record_at k)
      (λ j p. ap (scope_at W) (get_or-set_other B (entries_room + n) (entries_room + j) at 0 (λ r. omega arith)))
      (ap (scope_at W) (get_or-set_same B (entries_room + n) at 0 (omega arith) ∙ q)) in
      record {
        frame = runs_set A B entries_room heads_room (entries_room + n) at g.frame (omega arith) (omega arith);
        few = omega arith;
        upto = omega arith;
        left =
            g.left ∙ ap (λ r. entries_at W B entries_room n ++ select is_public r) (rows_next record_at k count more)
            ∙ ap (λ r. entries_at W B entries_room n ++ r) (select_hit is_public (record_at k) _ (ap (λ x. eqb x 0) (sym e) ∙ eq-eqb v 0 h))
            ∙ sym (append_assoc (entries_at W B entries_room n) (record_at k ∷ []) left)
            ∙ ap (λ r. r ++ left) (sym put);
      }

pub gathering_done : {W A B : List ℕ} {base count k n : ℕ} (l : Layout) → Gathering W A base count B k n → base ≡ scope_base l
    → count ≡ l.scopes → count ≤ k → Gathered W A l B n
unfolding select
gathering_done {W} {A} {B} {base} {count} {k} {n} l g eb ec h =
    let f = g.few in
    let u = g.upto in
    record {
      frame = g.frame;
      few = omega arith;
      same =
          sym (ap₂ (λ x y. select is_public (rows (λ j. scope_at W (x + scope_size * j)) 0 y)) (sym eb) (sym ec) ∙ g.left
          ∙ ap (λ r. entries_at W B entries_room n ++ select is_public r) (rows_none (λ j. scope_at W (base + scope_size * j)) k count h)
          ∙ append-nil (entries_at W B entries_room n));
    }

-- threading

pub threads_none : {count heads links : ℕ} (key : ℕ → ℕ) (A : List ℕ) → ((b : ℕ) → b < count → get_or A (heads + b) 0 ≡ 0)
    → Threads count heads links key 0 A A
threads_none {count} {heads} {links} key A z = record { chained = chained_none A heads links key z; size = refl; other = λ i p q. refl }

pub threads_more : {count heads links : ℕ} {key : ℕ → ℕ} {j b : ℕ} {A B C : List ℕ} → Threads count heads links key j A B
    → heads + count ≤ links → links + j < length A
    → b < count → b ≡ key j → C ≡ linked B heads links b j → Threads count heads links key (j + 1) A C
unfolding linked
threads_more {count} {heads} {links} {key} {j} {b} {A} {B} {C} t apart fits small e q =
    let z = t.size in
    rw q
    (record {
      chained = chained_linked B heads links b j key t.chained apart (omega arith) small (sym e);
      size = length-set (set B (links + j) (get_or B (heads + b) 0)) (heads + b) (j + 1) ∙ length-set B (links + j) (get_or B (heads + b) 0) ∙ t.size;
      other = λ i p r. linked_other B heads links b j i (p b small) (r j (omega arith)) ∙ t.other i p (λ k u. r k (omega arith));
    })

-- the thread's words, and none of them below
pub threads_low : {count heads links n : ℕ} {key : ℕ → ℕ} {A B : List ℕ} → Threads count heads links key n A B → (i : ℕ) → i < heads
    → heads + count ≤ links → get_or B i 0 ≡ get_or A i 0
threads_low t i h g = t.other i (λ b p e. omega arith) (λ j p e. omega arith)

pub threads_high : {count heads links n : ℕ} {key : ℕ → ℕ} {A B : List ℕ} → Threads count heads links key n A B → (i : ℕ)
    → links + n ≤ i → heads + count ≤ links → get_or B i 0 ≡ get_or A i 0
threads_high t i h g = t.other i (λ b p e. omega arith) (λ j p e. omega arith)

-- the owner of an entry as it is read while the threads are made
pub owner_at_lem : {count : ℕ} {key : ℕ → ℕ} (W A : List ℕ) {B : List ℕ} (n : ℕ) {j at m : ℕ} → Threads count heads_room spare_room key j A B
    → heads_room + count ≤ spare_room → n ≤ 2048 → j < n
    → at ≡ get_or B (entries_room + (n - 1 - j)) 0 → m ≡ (scope_at W at).owner → m ≡ (entry_of W A n j).owner
owner_at_lem W A n {j} t apart few h e q = q ∙ ap (λ x. (scope_at W x).owner) (e ∙ threads_low t (entries_room + (n - 1 - j)) (omega arith) apart)

-- the same key by other words
pub threads_key : {count heads links n : ℕ} {key : ℕ → ℕ} {A B : List ℕ} (other : ℕ → ℕ) → Threads count heads links key n A B
    → ((j : ℕ) → j < n → other j ≡ key j)
    → Threads count heads links other n A B
threads_key {count} {heads} {links} {n} {key} {A} {B} other t e =
    record { chained = chained_kept B B heads links key other n t.chained (λ b h. refl) (λ i h. refl) e; size = t.size; other = t.other }

-- what stands in the threads

module _ {W A : List ℕ} {l : Layout} (r : Reads W A l) where
  public_fits : Each (ScopeFits (counts_in l)) (public_in (snap_of W A l))
  public_fits = each_sort _ Each.none (each_select is_public (ranges_read W A l (accepted_valid W (snap_of W A l) r.same)).scopes)

  pub entries_fit : (m : ℕ) → Each (ScopeFits (counts_in l)) (entries_of (snap_of W A l) m)
  unfolding entries_of
  entries_fit m = each_sort _ Each.none (each_select (is_public_in m) (ranges_read W A l (accepted_valid W (snap_of W A l) r.same)).scopes)

pub threaded_fits : {W A : List ℕ} {l : Layout} {n : ℕ} → Threaded W A l n → (j : ℕ) → j < n → ScopeFits (counts_in l) (entry_of W A n j)
threaded_fits {W} {A} {l} {n} t j h =
    each_rows {P = ScopeFits (counts_in l)} (λ i. scope_at W (get_or A (entries_room + i) 0)) n (n - 1 - j) (rw t.list (public_fits t.ready.reads))
    (omega arith)

-- the thread of a module has its entries in order
pub threaded_keyed : {W A : List ℕ} {l : Layout} {n : ℕ} → Threaded W A l n → (m : ℕ)
    → keyed (λ j. (entry_of W A n j).owner) m (entry_of W A n) n ≡ entries_of (snap_of W A l) m
unfolding entries_of
threaded_keyed {W} {A} {l} {n} t m =
    let s = snap_of W A l in
    keyed_rows (λ (e : Scope). e.owner) (λ i. scope_at W (get_or A (entries_room + i) 0)) m n
    ∙ ap (select (λ e. eqb e.owner m)) t.list
    ∙ sorted_select _ (entry_order s) (λ e. eqb e.owner m) (select is_public s.scopes)
    ∙ ap (sort_into _ []) (select_both (λ e. eqb e.owner m) is_public s.scopes)

-- all of it, from the checked words

-- the words of the tables, and those of the entries
pub kept_ready : {W A B : List ℕ} {l : Layout} → Ready W A l → length B ≡ length A → ((i : ℕ) → i < entries_room → get_or B i 0 ≡ get_or A i 0)
    → Ready W B l
kept_ready {W} {A} {B} {l} r size low = record { reads = reads_stay W A B l r.reads (λ i a b. low i b); size = size ∙ r.size }

-- the links of the members' threads lie in the area
pub scopes_few : {W A : List ℕ} {l : Layout} → Ready W A l → (l.scopes ≤ 2048) × (member_links_base l + l.members ≤ 16384) × (word_count l ≤ 16384)
scopes_few r = (
  omega (arith, r.reads.tables.whole, r.reads.tables.short),
  omega (arith, r.reads.tables.whole, r.reads.tables.short),
  omega (arith, r.reads.tables.whole, r.reads.tables.short),
)

module _ {W A B C D : List ℕ} {l : Layout} {n : ℕ} (r : Ready W A l) (g : Gathered W A l B n) (so : Sorts W B l C entries_room n)
    (cl : Cleared C D heads_room (member_links_base l)) (size : length D ≡ length C) where
  entries_few : n ≤ 2048
  entries_few = let q = (scopes_few r).0 in let f = g.few in omega arith

  low_d : (i : ℕ) → i < entries_room → get_or D i 0 ≡ get_or A i 0
  low_d i h = cl.before i (omega arith) ∙ so.frame.below i h ∙ g.frame.below i h

  ready_d : Ready W D l
  ready_d = kept_ready r (size ∙ so.frame.size ∙ g.frame.size) low_d

  list_d : entries_at W D entries_room n ≡ public_in (snap_of W D l)
  list_d =
      let q = entries_few in
      rows_ext _ _ n (λ i h. ap (scope_at W) (cl.before (entries_room + i) (omega arith))) ∙ so.same
      ∙ ap₂ (λ o xs. sort_into o [] xs) (ap entry_before (snap_stays W A B l r.reads.tables (λ i a b. g.frame.below i b)
      ∙ sym (snap_stays W A D l r.reads.tables (λ i a b. low_d i b)))) g.same

  pub entries_required : ((length D ≡ 16384) × (entries_room + n ≤ heads_room)) × (((b : ℕ) → b < 512 → get_or D (heads_room + b) 0 ≡ 0)
      × ((j : ℕ) → j < n → (entry_of W D n j).owner < 512))
  entries_required = (
    (ready_d.size, let q = entries_few in omega arith),
    (
      λ b h. cl.zero (heads_room + b) (omega arith) (omega arith),
      λ j h.
          let f = (each_rows {P = ScopeFits (counts_in l)} (λ i. scope_at W (get_or D (entries_room + i) 0)) n (n - 1 - j)
          (rw list_d (public_fits ready_d.reads)) (omega arith)).owner in
          let q = r.reads.tables.limited.modules in
          omega arith,
    ),
  )

  module _ {E : List ℕ} (te : Threads 512 heads_room spare_room (λ j. (entry_of W D n j).owner) n D E) where
    high_e : (i : ℕ) → member_heads_base l ≤ i → get_or E i 0 ≡ get_or D i 0
    high_e i h = let f = g.few in threads_high te i (omega arith) (omega arith)

    pub members_required : ((length E ≡ 16384) × (member_links_base l + l.members ≤ 16384) × (word_count l ≤ 16384))
        × (((b : ℕ) → b < l.definitions → get_or E (member_heads_base l + b) 0 ≡ 0)
        × ((j : ℕ) → j < l.members → (member_of W l j).parent < l.definitions))
    members_required =
        let q = scopes_few r in (
          (te.size ∙ ready_d.size, q.1, q.2),
          (
            λ b h. high_e (member_heads_base l + b) (omega arith) ∙ cl.zero (member_heads_base l + b) (omega arith) (omega arith),
            λ j h. (member_read W A l (accepted_valid W (snap_of W A l) r.reads.same) (l.members - 1 - j) (omega arith)).parent,
          ),
        )

    pub threaded_all : {F : List ℕ} → Threads l.definitions (member_heads_base l) (member_links_base l)
        (λ j. (member_of W l j).parent) l.members E F → Threaded W F l n
        × ((i : ℕ) → i < entries_room → get_or F i 0 ≡ get_or A i 0)
    threaded_all {F} tm =
        let q = entries_few in
        let low : ((i : ℕ) → i < heads_room → get_or F i 0 ≡ get_or D i 0) = λ i h. threads_low tm i (omega arith) (omega arith)
        ∙ threads_low te i h (omega arith) in
        let f = g.few in
        let mid : ((i : ℕ) → i < member_heads_base l → get_or F i 0 ≡ get_or E i 0) = λ i h. threads_low tm i h (omega arith) in (
          record {
            ready = kept_ready ready_d (tm.size ∙ te.size) (λ i h. low i (omega arith));
            few = g.few;
            list =
                rows_ext _ _ n (λ i h. ap (scope_at W) (low (entries_room + i) (omega arith))) ∙ list_d
                ∙ ap public_in (sym (snap_stays W D F l ready_d.reads.tables (λ i a b. low i (omega arith))));
            entries =
                chained_kept E F heads_room spare_room _ _ n te.chained (λ b h. mid (heads_room + b) (omega arith))
                (λ i h. mid (spare_room + i) (omega arith))
                (λ i h. ap (λ x. (scope_at W x).owner) (low (entries_room + (n - 1 - i)) (omega arith)));
            members = tm.chained;
          },
          λ i h. low i (omega arith) ∙ low_d i h,
        )
