-- The walk over the modules: the pile, the marks and the order in the work area are those of the definition.
use Prim.Native.Nat.{ℕ, zero, suc, ◌+◌, ◌-◌, ◌*◌, ◌≤◌, ◌<◌}
use mathlib.Core.Path.{◌≡◌, refl, sym, ◌∙◌, ap, ap₂, subst}
use mathlib.Core.List.{List, [], ◌∷◌, ◌++◌, append_assoc, append-nil}
use mathlib.Core.Bool.{Bool, true, false, ◌||◌, not}
use native.Mathlib.Omega.{arith}
use native.Mathlib.Numerals.{add-one}
use borrow.Author.Tests.{eq-eqb, ne_eqb, eqb-true}
use lib.Dec.{eqb}
use lib.ListN.{length, get_or, set, length-set}
use lib.Seq.{get_or-set_same, get_or-set_other}
use Rattle.snapshot.specs.Sizes.{scope_size}
use Rattle.snapshot.specs.Lists.{rows, any}
use Rattle.snapshot.specs.Records.{Snapshot, Scope, scope_at}
use Rattle.snapshot.specs.Layouts.{scope_base, snap_of}
use Rattle.snapshot.specs.declared.layout.Layout.{Layout}
use Rattle.snapshot.proofs.Laws.{rows_ext, rows_put, rows_snoc, length_rows}
use Rattle.check_records.specs.chains.Chains.{Marked, Last, Cleared}
use Rattle.check_records.proofs.chains.Laws.{chained_kept, marked_none, marked_kept, marked_more}
use Rattle.accept.specs.Post.{Reads}
use Rattle.check_records.specs.record_rules.Stands.{counts_in}
use Rattle.accept.specs.Valid.{Each, more, ScopeFits}
use Rattle.accept.proofs.Accepted.{by_test}
use Rattle.accept.proofs.Bools.{each_map, each_snoc}
use Rattle.accept.proofs.Stable.{snap_stays, reads_stay}
use Rattle.module_tree.proofs.Reading.{root_read}
use Rattle.hir_def.specs.Items.{module_kind, definition_of, root_of, own_map}
use Rattle.hir_def.proofs.Fits.{module_known}
use Rattle.import_rules.specs.Collect.{entries_of, piled, visits, modules_from}
use Rattle.imports.specs.order.Rooms.{entries_room, heads_room, spare_room}
use Rattle.imports.specs.order.Lists.{Ready, waiting}
use Rattle.imports.proofs.order.Visits.{entries_few, visits_same, waiting_all, length_piled}
use Rattle.imports.specs.lists.Threads.{member_heads_base, member_links_base, rest, public_in, entry_of, Threaded}
use Rattle.imports.specs.lists.Walks.{marks_base, order_base, pile_base, down_from, pile_at, order_at, seen_at, turns_at, walk_at, Pushed, Walking}
use Rattle.imports.specs.lists.Walks.{Turned, Walked}
use Rattle.imports.specs.declared.lists.walk.Turn.{Turn}
use Rattle.imports.proofs.lists.Keyed.{rest_first, rest_next, rest_none}
use Rattle.imports.proofs.lists.Threading.{threaded_fits, threaded_keyed, entries_fit}

-- the words of the lists past the threads lie in the area
pub few_words : {W A : List ℕ} {l : Layout} → Ready W A l → pile_base l + l.scopes + 1 ≤ 16384
few_words r = omega (arith, r.reads.tables.whole, r.reads.tables.short)

down_ext : {X : Type 0} (f g : ℕ → X) (n : ℕ) → ((i : ℕ) → i < n → f i ≡ g i) → down_from f n ≡ down_from g n
unfolding down_from
down_ext f g zero h = refl
down_ext f g (suc n) h = ap₂ (λ x r. x ∷ r) (h n (omega arith)) (down_ext f g n (λ i p. h i (omega arith)))

down_next : {X : Type 0} (f : ℕ → X) (n : ℕ) → down_from f (n + 1) ≡ f n ∷ down_from f n
unfolding down_from
down_next f n = ap (down_from f) (add-one n)

length_down : {X : Type 0} (f : ℕ → X) (n : ℕ) → length (down_from f n) ≡ n
unfolding down_from
length_down f zero = refl
length_down f (suc n) = ap suc (length_down f n)

piled_joined : (s : Snapshot) (x : Scope) (r : List Scope) (ws : List ℕ) → piled s r (piled s (x ∷ []) ws) ≡ piled s (x ∷ r) ws
unfolding piled
piled_joined s x r ws = refl

-- the threads stay
pub threaded_kept : {W A B : List ℕ} {l : Layout} {n : ℕ} → Threaded W A l n → length B ≡ length A
    → ((i : ℕ) → i < marks_base l → get_or B i 0 ≡ get_or A i 0) → Threaded W B l n
threaded_kept {W} {A} {B} {l} {n} t size below =
    let r = t.ready in
    let f = t.few in
    let z = few_words r in
    let q : snap_of W B l ≡ snap_of W A l = snap_stays W A B l r.reads.tables (λ i u v. below i (omega arith)) in
    let small : l.scopes ≤ 2048 = omega (arith, r.reads.tables.whole, r.reads.tables.short) in
    record {
      ready = record { reads = reads_stay W A B l r.reads (λ i u v. below i (omega arith)); size = size ∙ r.size };
      few = t.few;
      list = rows_ext _ _ n (λ i h. ap (scope_at W) (below (entries_room + i) (omega arith))) ∙ t.list ∙ ap public_in (sym q);
      entries =
          chained_kept A B heads_room spare_room _ _ n t.entries (λ b h. below (heads_room + b) (omega arith))
          (λ i h. below (spare_room + i) (omega arith))
          (λ i h. ap (λ x. (scope_at W x).owner) (below (entries_room + (n - 1 - i)) (omega arith)));
      members =
          chained_kept A B (member_heads_base l) (member_links_base l) _ _ l.members t.members (λ b h. below (member_heads_base l + b) (omega arith))
          (λ i h. below (member_links_base l + i) (omega arith)) (λ i h. refl);
    }

-- one module put on the pile, or none

module _ {W A : List ℕ} {l : Layout} (r : Ready W A l) (entry t : ℕ) {d k : ℕ} (ed : d ≡ (scope_at W entry).definition)
    (ek : k ≡ (definition_of (snap_of W A l) d).kind) where
  piled_kind : (b : Bool) → eqb k module_kind ≡ b → eqb (definition_of (snap_of W A l) (scope_at W entry).definition).kind module_kind ≡ b
  piled_kind b e = ap (λ x. eqb (definition_of (snap_of W A l) x).kind module_kind) (sym ed) ∙ ap (λ x. eqb x module_kind) (sym ek) ∙ e

  pub pushed_none : (k ≡ module_kind → ⊥) → Pushed l t (piled (snap_of W A l) (scope_at W entry ∷ []) (pile_at A l t)) A A t
  unfolding piled
  pushed_none h = record { same = sym (rw (piled, piled_kind false (ne_eqb k module_kind h))); grows = omega arith; size = refl; below = λ i p. refl }

  pub pushed_one : {m at : ℕ} → t ≤ l.scopes → at ≡ pile_base l + t → k ≡ module_kind → m ≡ (definition_of (snap_of W A l) d).first
      → Pushed l t (piled (snap_of W A l) (scope_at W entry ∷ []) (pile_at A l t)) A (set A at m) (t + 1)
  unfolding piled
  pushed_one {m} {at} few ea h e =
      let fits = few_words r in
      let size = r.size in
      let q : m ≡ (definition_of (snap_of W A l) (scope_at W entry).definition).first = e ∙ ap (λ x. (definition_of (snap_of W A l) x).first) ed in
      rw ea
      (record {
        same =
            down_next (λ i. get_or (set A (pile_base l + t) m) (pile_base l + i) 0) t
            ∙ ap₂ (λ x r. x ∷ r) (get_or-set_same A (pile_base l + t) m 0 (omega arith) ∙ q)
            (down_ext _ _ t (λ i p. get_or-set_other A (pile_base l + t) (pile_base l + i) m 0 (λ z. omega arith)))
            ∙ sym (rw (piled, piled_kind true (eq-eqb k module_kind h)));
        grows = omega arith;
        size = length-set A (pile_base l + t) m;
        below = λ i p. get_or-set_other A (pile_base l + t) i m 0 (λ z. omega arith);
      })

-- the modules of a module's entries put on the pile, one after the other

abbrev pub owner_of : List ℕ → List ℕ → ℕ → ℕ → ℕ
owner_of W A n j = (entry_of W A n j).owner

abbrev pub rest_at : List ℕ → List ℕ → ℕ → ℕ → List Scope
rest_at W A n at = rest (owner_of W A n) (entry_of W A n) at

-- the thread of a module, from its head on
pub thread_of : {W A : List ℕ} {l : Layout} {n m at : ℕ} → Threaded W A l n → m < 512 → at ≡ get_or A (heads_room + m) 0
    → (rest_at W A n at ≡ entries_of (snap_of W A l) m) × (at ≤ n)
thread_of {W} {A} {l} {n} {m} {at} th small e =
    let h : Last (owner_of W A n) m n at = rw e (th.entries.first m small) in
    (rest_first (owner_of W A n) (entry_of W A n) h ∙ threaded_keyed th m, h.within)

-- a number of a thread, one more
module _ {W A : List ℕ} {l : Layout} {n at : ℕ} (th : Threaded W A l n) (within : at ≤ n) (some : 0 < at) where
  pub thread_fits : ScopeFits (counts_in l) (entry_of W A n (at - 1))
  thread_fits = threaded_fits th (at - 1) (omega arith)

  pub thread_word : {entry : ℕ} → entry ≡ get_or A (entries_room + (n - at)) 0 → scope_at W entry ≡ entry_of W A n (at - 1)
  thread_word e = let q : n - at ≡ n - 1 - (at - 1) = omega arith in ap (scope_at W) (e ∙ ap (λ x. get_or A (entries_room + x) 0) q)

  pub thread_next : {next : ℕ} → next ≡ get_or A (spare_room + (at - 1)) 0 → (rest_at W A n at ≡ entry_of W A n (at - 1) ∷ rest_at W A n next)
      × (next < at)
  thread_next {next} e =
      let last : Last (owner_of W A n) (owner_of W A n (at - 1)) (at - 1) next = rw e (th.entries.next (at - 1) (omega arith)) in
      let h = last.within in
      (rest_next (owner_of W A n) (entry_of W A n) at some last, omega arith)

pub record Pushing (W A : List ℕ) (l : Layout) (n t first : ℕ) (B : List ℕ) (at u : ℕ) : Type 0 where
  pub within : at ≤ n
  pub left : piled (snap_of W A l) (rest_at W A n at) (pile_at B l u) ≡ piled (snap_of W A l) (rest_at W A n first) (pile_at A l t)
  pub room : u + length (rest_at W A n at) ≤ l.scopes + 1
  pub size : length B ≡ length A
  pub below : (i : ℕ) → i < pile_base l + t → get_or B i 0 ≡ get_or A i 0
  pub high : t ≤ u

module _ {W A : List ℕ} {l : Layout} {n t : ℕ} (th : Threaded W A l n) where
  pub pushing_start : {m at : ℕ} → m < 512 → t + length (entries_of (snap_of W A l) m) ≤ l.scopes + 1 → at ≡ get_or A (heads_room + m) 0
      → Pushing W A l n t at A at t
  pushing_start {m} {at} small fits e =
      let q = thread_of th small e in
      record { within = q.1; left = refl; room = rw q.0 fits; size = refl; below = λ i p. refl; high = omega arith }

  module _ {B : List ℕ} {first at u : ℕ} (g : Pushing W A l n t first B at u) where
    pub pushing_threaded : Threaded W B l n
    pushing_threaded = threaded_kept th g.size (λ i p. g.below i (omega arith))

    pushing_snap : snap_of W B l ≡ snap_of W A l
    pushing_snap = snap_stays W A B l th.ready.reads.tables (λ i a b. g.below i (omega arith))

    module _ (some : 0 < at) where
      small_n : n ≤ 2048
      small_n = let f = th.few in omega (arith, th.ready.reads.tables.whole, th.ready.reads.tables.short)

      entry_same : {entry : ℕ} → entry ≡ get_or B (entries_room + (n - at)) 0 → scope_at W entry ≡ entry_of W A n (at - 1)
      entry_same e = let w = g.within in let z = small_n in thread_word th w some (e ∙ g.below (entries_room + (n - at)) (omega arith))

      pub entry_known : {entry : ℕ} → entry ≡ get_or B (entries_room + (n - at)) 0 → (scope_at W entry).definition < l.definitions
      entry_known e = subst (λ x. x.definition < l.definitions) (sym (entry_same e)) (thread_fits th g.within some).definition

      pub pushing_room : u ≤ l.scopes
      pushing_room = let h = g.room in let e = ap length (thread_next th g.within some refl).0 in omega arith

      pub pushing_next : {entry v next : ℕ} {C : List ℕ} → entry ≡ get_or B (entries_room + (n - at)) 0
          → Pushed l u (piled (snap_of W B l) (scope_at W entry ∷ []) (pile_at B l u)) B C v → next ≡ get_or C (spare_room + (at - 1)) 0
          → Pushing W A l n t first C next v
      pushing_next {entry} {v} {next} {C} e p q =
          let w = g.within in
          let b = g.high in
          let c = p.grows in
          let z = small_n in
          let d : next ≡ get_or A (spare_room + (at - 1)) 0 = q ∙ p.below (spare_room + (at - 1)) (omega arith)
          ∙ g.below (spare_room + (at - 1)) (omega arith) in
          let h = (thread_next th w some d).1 in
          let more : rest_at W A n at ≡ scope_at W entry ∷ rest_at W A n next = (thread_next th w some d).0
          ∙ ap (λ x. x ∷ rest_at W A n next) (sym (entry_same e)) in
          let one : pile_at C l v ≡ piled (snap_of W A l) (scope_at W entry ∷ []) (pile_at B l u) = p.same
          ∙ ap (λ s. piled s (scope_at W entry ∷ []) (pile_at B l u)) pushing_snap in
          record {
            within = omega arith;
            left =
                ap (piled (snap_of W A l) (rest_at W A n next)) one
                ∙ piled_joined (snap_of W A l) (scope_at W entry) (rest_at W A n next) (pile_at B l u)
                ∙ ap (λ r. piled (snap_of W A l) r (pile_at B l u)) (sym more) ∙ g.left;
            room =
                let x = g.room in
                let y = ap length more in
                let k = length_piled (snap_of W A l) (scope_at W entry ∷ []) (pile_at B l u) in
                let i = ap length one in
                let j = length_down (λ i. get_or C (pile_base l + i) 0) v in
                let o = length_down (λ i. get_or B (pile_base l + i) 0) u in
                omega arith;
            size = p.size ∙ g.size;
            below = λ i k. p.below i (omega arith) ∙ g.below i k;
            high = omega arith;
          }

      -- the turns end
      pub pushing_falls : {v next : ℕ} {C : List ℕ} {pile : List ℕ} → Pushed l u pile B C v → next ≡ get_or C (spare_room + (at - 1)) 0 → next < at
      pushing_falls {v} {next} {C} p q =
          let w = g.within in
          let z = small_n in
          let b = g.high in
          (thread_next th w some (q ∙ p.below (spare_room + (at - 1)) (omega arith) ∙ g.below (spare_room + (at - 1)) (omega arith))).1

    pub pushing_done : {m : ℕ} → m < 512 → first ≡ get_or A (heads_room + m) 0
        → at ≡ 0 → Pushed l t (piled (snap_of W A l) (entries_of (snap_of W A l) m) (pile_at A l t)) A B u
    unfolding piled
    pushing_done small e z =
        record {
          same =
              ap (λ r. piled (snap_of W A l) r (pile_at B l u)) (sym (rest_none (owner_of W A n) (entry_of W A n) at z)) ∙ g.left
              ∙ ap (λ r. piled (snap_of W A l) r (pile_at A l t)) (thread_of th small e).0;
          grows = g.high;
          size = g.size;
          below = g.below;
        }

-- a turn

any_down : (p : ℕ → Bool) (f : ℕ → ℕ) (n : ℕ) → any p (down_from f n) ≡ any p (rows f 0 n)
unfolding any down_from rows
any_down p f zero = refl
any_down p f (suc n) = ap (λ x. p (f n) || x) (any_down p f n) ∙ swapped (rows f 0 n) ∙ ap (any p) (sym (rows_snoc f n) ∙ ap (rows f 0) (add-one n))
  where
    left : (a b c : Bool) → (a || (b || c)) ≡ (b || (a || c))
    left true true c = refl
    left true false c = refl
    left false b c = refl

    swapped : (xs : List ℕ) → (p (f n) || any p xs) ≡ any p (xs ++ (f n ∷ []))
    swapped [] = refl
    swapped (x ∷ xs) = left (p (f n)) (p x) (any p xs) ∙ ap (λ y. p x || y) (swapped xs)

each_piled : (s : Snapshot) (top : ℕ) {es : List Scope} {ws : List ℕ}
    → Each (λ e. (definition_of s e.definition).kind ≡ module_kind → (definition_of s e.definition).first < top) es
    → Each (λ m. m < top) ws → Each (λ m. m < top) (piled s es ws)
unfolding piled
each_piled s top Each.none h = h
each_piled s top {ws = ws} (more {x = e} p g) h =
    by_test (eqb (definition_of s e.definition).kind module_kind)
    (λ t. each_piled s top g (rw t (more (p (eqb-true (definition_of s e.definition).kind module_kind t)) h)))
    (λ t. each_piled s top g (rw t h))

each_head : {X : Type 0} {P : X → Type 0} {x : X} {xs : List X} → Each P (x ∷ xs) → P x
each_head (more p h) = p

each_tail : {X : Type 0} {P : X → Type 0} {x : X} {xs : List X} → Each P (x ∷ xs) → Each P xs
each_tail (more p h) = h

visits_old : (n : ℕ) (s : Snapshot) (seen : List ℕ) (m : ℕ) (ws : List ℕ) → any (eqb m) seen ≡ true → visits (suc n) s seen (m ∷ ws)
    ≡ visits n s seen ws
unfolding visits
visits_old n s seen m ws h = rw (visits, h)

visits_new : (n : ℕ) (s : Snapshot) (seen : List ℕ) (m : ℕ) (ws : List ℕ) → any (eqb m) seen ≡ false
    → visits (suc n) s seen (m ∷ ws) ≡ m ∷ visits n s (m ∷ seen) (piled s (entries_of s m) ws)
unfolding visits
visits_new n s seen m ws h = rw (visits, h)

module _ {W A : List ℕ} {l : Layout} {n k : ℕ} (t : ℕ) (w : Walking W A l n k (t + 1)) {base m : ℕ} (eb : base ≡ pile_base l)
    (er : m ≡ get_or A (base + t) 0) where
  em : m ≡ get_or A (pile_base l + t) 0
  em = er ∙ ap (λ x. get_or A (x + t) 0) eb

  abbrev s : Snapshot
  s = snap_of W A l

  pile_top : pile_at A l (t + 1) ≡ m ∷ pile_at A l t
  pile_top = down_next (λ i. get_or A (pile_base l + i) 0) t ∙ ap (λ x. x ∷ pile_at A l t) (sym em)

  modules_few : l.modules ≤ 512
  modules_few = w.threaded.ready.reads.tables.limited.modules

  pub turn_known : m < l.modules
  turn_known = each_head (rw pile_top at w.inside)

  pub turn_mark : m < 512
  turn_mark = let a = turn_known in let b = modules_few in omega arith

  -- its mark is a word of the area
  pub turn_place : {marks : ℕ} → marks ≡ marks_base l → (marks + m < 16384) × (length A ≡ 16384)
  turn_place e = (omega (arith, turn_mark, few_words w.threaded.ready, e), w.threaded.ready.size)

  met : (b : Bool) → not (eqb (get_or A (marks_base l + m) 0) 0) ≡ b → any (eqb m) (seen_at A l k) ≡ b
  met b e = any_down (eqb m) (λ i. get_or A (order_base l + i) 0) k ∙ sym (w.marked.same m turn_mark) ∙ e

  turns : turns_at W A l k (t + 1) ≡ suc (turns_at W A l k t)
  turns = omega arith

  pub turn_old : {marks : ℕ} → marks ≡ marks_base l → (get_or A (marks + m) 0 ≡ 0 → ⊥) → Turned W A l n k t A (record { order = k; top = t })
  turn_old {marks} ek h =
      let seen = met true (ap not (ne_eqb (get_or A (marks_base l + m) 0) 0 (λ z. h (ap (λ x. get_or A (x + m) 0) ek ∙ z)))) in
      let r = w.room in
      record {
        walking = record {
          threaded = w.threaded;
          marked = w.marked;
          inside = each_tail (rw pile_top at w.inside);
          taken =
              w.taken;
          room = omega arith;
        };
        same =
            ap (λ x. order_at A l k ++ x)
            (sym (ap₂ (λ a b. visits a s (seen_at A l k) b) turns pile_top
            ∙ visits_old (turns_at W A l k t) s (seen_at A l k) m (pile_at A l t) seen));
        falls = omega arith;
        size = refl;
        below = λ i p. refl;
      }

  module _ {C : List ℕ} {marks order : ℕ} (ek : marks ≡ marks_base l) (eo : order ≡ order_base l) (free : get_or A (marks + m) 0 ≡ 0)
      (ed : C ≡ set (set A (marks + m) 1) (order + k) m)
    where
      new : get_or A (marks_base l + m) 0 ≡ 0
      new = ap (λ x. get_or A (x + m) 0) (sym ek) ∙ free

      ec : C ≡ set (set A (marks_base l + m) 1) (order_base l + k) m
      ec = ed ∙ ap₂ (λ x y. set (set A (x + m) 1) (y + k) m) ek eo

      unseen : any (eqb m) (seen_at A l k) ≡ false
      unseen = met false (ap not (eq-eqb (get_or A (marks_base l + m) 0) 0 new))

      k_few : k ≤ l.scopes
      k_few = let r = w.room in let q = turns in omega arith

      room_for : pile_base l + l.scopes + 1 ≤ 16384
      room_for = few_words w.threaded.ready

      long : length A ≡ 16384
      long = w.threaded.ready.size

      size_c : length C ≡ length A
      size_c = rw ec (length-set (set A (marks_base l + m) 1) (order_base l + k) m ∙ length-set A (marks_base l + m) 1)

      other : (i : ℕ) → (i ≡ marks_base l + m → ⊥) → (i ≡ order_base l + k → ⊥) → get_or C i 0 ≡ get_or A i 0
      other i p q = rw ec (get_or-set_other (set A (marks_base l + m) 1) (order_base l + k) i m 0 q ∙ get_or-set_other A (marks_base l + m) i 1 0 p)

      put : get_or C (order_base l + k) 0 ≡ m
      put = let f = room_for in let h = k_few in let z = long in rw ec (get_or-set_same (set A (marks_base l + m) 1) (order_base l + k)
          m 0 (simp length-set (omega arith)))

      pub new_threaded : Threaded W C l n
      new_threaded = threaded_kept w.threaded size_c (λ i p. other i (λ e. omega arith) (λ e. omega arith))

      snap_c : snap_of W C l ≡ s
      snap_c = let f = room_for in snap_stays W A C l w.threaded.ready.reads.tables (λ i a b. other i (λ e. omega arith) (λ e. omega arith))

      few_entries : length (entries_of s m) + waiting (m ∷ seen_at A l k) s.scopes ≤ waiting (seen_at A l k) s.scopes
      few_entries = entries_few m s (seen_at A l k) unseen

      pub new_room : t + length (entries_of (snap_of W C l) m) ≤ l.scopes + 1
      new_room = rw snap_c (let a = few_entries in let r = w.room in omega arith)

      module _ {B : List ℕ} {u : ℕ} (p : Pushed l t (piled (snap_of W C l) (entries_of (snap_of W C l) m) (pile_at C l t)) C B u) where
        order_b : (i : ℕ) → i < k + 1 → get_or B (order_base l + i) 0 ≡ get_or C (order_base l + i) 0
        order_b i h = let q = k_few in p.below (order_base l + i) (omega arith)

        low : (i : ℕ) → i < marks_base l → get_or B i 0 ≡ get_or A i 0
        low i h = p.below i (omega arith) ∙ other i (λ e. omega arith) (λ e. omega arith)

        snap_b : snap_of W B l ≡ s
        snap_b = let f = room_for in snap_stays W A B l w.threaded.ready.reads.tables (λ i a b. low i (omega arith))

        seen_b : seen_at B l (k + 1) ≡ m ∷ seen_at A l k
        seen_b =
            down_next (λ i. get_or B (order_base l + i) 0) k
            ∙ ap₂ (λ x r. x ∷ r) (order_b k (omega arith) ∙ put)
            (down_ext _ _ k (λ i h. order_b i (omega arith) ∙ (let q = turn_mark in other (order_base l + i) (λ e. omega arith) (λ e. omega arith))))

        pile_c : pile_at C l t ≡ pile_at A l t
        pile_c = let q = turn_mark in let h = k_few in down_ext _ _ t (λ i r. other (pile_base l + i) (λ e. omega arith) (λ e. omega arith))

        pile_b : pile_at B l u ≡ piled s (entries_of s m) (pile_at A l t)
        pile_b = p.same ∙ ap₂ (λ x y. piled x (entries_of x m) y) snap_c pile_c

        order_new : order_at B l (k + 1) ≡ order_at A l k ++ (m ∷ [])
        order_new =
            rows_put _ _ k m (λ i h. order_b i (omega arith) ∙ (let q = turn_mark in other (order_base l + i) (λ e. omega arith) (λ e. omega arith)))
            (order_b k (omega arith) ∙ put)

        marked_b : Marked B (marks_base l) (λ i. get_or B (order_base l + i) 0) (k + 1)
        marked_b =
            let f = room_for in
            let z = long in
            let q = turn_mark in
            marked_kept (set A (marks_base l + m) 1) B (marks_base l) (λ i. get_or C (order_base l + i) 0) _ (k + 1)
            (marked_more A (marks_base l) (λ i. get_or C (order_base l + i) 0) k m
            (marked_kept A A (marks_base l) _ _ k w.marked (λ x h. refl) (λ i h. other (order_base l + i) (λ e. omega arith) (λ e. omega arith)))
            (omega arith) put)
            (λ x h. p.below (marks_base l + x) (omega arith)
            ∙ rw ec (get_or-set_other (set A (marks_base l + m) 1) (order_base l + k) (marks_base l + x) m 0 (λ e. omega arith)))
            (λ i h. order_b i h)

        turns_b : turns_at W B l (k + 1) u ≤ turns_at W A l k t
        turns_b =
            let a = length_down (λ i. get_or B (pile_base l + i) 0) u in
            let b = ap length pile_b in
            let c = length_piled s (entries_of s m) (pile_at A l t) in
            let d = length_down (λ i. get_or A (pile_base l + i) 0) t in
            let e = few_entries in
            rw seen_b (omega arith)

        inside_b : Each (λ x. x < l.modules) (pile_at B l u)
        inside_b =
            rw pile_b
            (each_piled s l.modules (each_map (λ e f q. module_known W A l w.threaded.ready.reads e.definition f.definition q)
            (entries_fit w.threaded.ready.reads m))
            (each_tail (rw pile_top at w.inside)))

        pub turn_new : Turned W A l n k t B (record { order = k + 1; top = u })
        turn_new =
            let r = w.room in
            let q = turns_b in
            let z = turns in
            record {
              walking = record {
                threaded = threaded_kept w.threaded (p.size ∙ size_c) low;
                marked = marked_b;
                inside =
                    inside_b;
                taken = rw order_new (each_snoc w.taken turn_known);
                room = omega arith;
              };
              same =
                  ap₂ (λ a b. a ++ b) order_new
                  (sym (visits_same (turns_at W B l (k + 1) u) (turns_at W A l k t) (snap_of W B l) (seen_at B l (k + 1)) (pile_at B l u)
                  (let a = length_down (λ i. get_or B (pile_base l + i) 0) u in omega arith) q)
                  ∙ ap₂ (λ a b. visits (turns_at W A l k t) a (seen_at B l (k + 1)) b) snap_b pile_b
                  ∙ ap (λ a. visits (turns_at W A l k t) s a (piled s (entries_of s m) (pile_at A l t))) seen_b)
                  ∙ append_assoc (order_at A l k) (m ∷ [])
                  (visits (turns_at W A l k t) s (m ∷ seen_at A l k) (piled s (entries_of s m) (pile_at A l t)))
                  ∙ ap (λ x. order_at A l k ++ x)
                  (sym (ap₂ (λ a b. visits a s (seen_at A l k) b) turns pile_top ∙ visits_new (turns_at W A l k t) s (seen_at A l k) m
                  (pile_at A l t) unseen));
              falls = omega arith;
              size = p.size ∙ size_c;
              below = low;
            }

-- the whole walk

module _ {W A D : List ℕ} {l : Layout} {n marks to : ℕ} (th : Threaded W A l n) (em : marks ≡ marks_base l) (cl : Cleared A D marks to) where
  low_kept : (i : ℕ) → i < marks_base l → get_or D i 0 ≡ get_or A i 0
  low_kept i h = cl.before i (omega arith)

  pub cleared_reads : Reads W D l
  cleared_reads = reads_stay W A D l th.ready.reads (λ i a b. low_kept i (omega arith))

  cleared_snap : snap_of W D l ≡ snap_of W A l
  cleared_snap = snap_stays W A D l th.ready.reads.tables (λ i a b. low_kept i (omega arith))

  pub root_of_lem : (c : ℕ) {own m : ℕ} → own ≡ own_map (snap_of W D l) c → m ≡ root_of (snap_of W D l) own
      → m ≡ root_of (snap_of W A l) (own_map (snap_of W A l) c)
  root_of_lem c {own} eo er = er ∙ ap (root_of (snap_of W D l)) eo ∙ ap (λ s. root_of s (own_map s c)) cleared_snap

  pub root_inside : {own m : ℕ} → own < l.maps → m ≡ root_of (snap_of W D l) own → m < l.modules
  root_inside {own} h er = omega (arith, cleared_reads.tables, root_read W D l cleared_reads.tables own h, cleared_reads.tables.rooted own h)

pub walking_start : {W A : List ℕ} {l : Layout} {n : ℕ} {B C : List ℕ} {m base marks to : ℕ} → Threaded W A l n → marks ≡ marks_base l
    → to ≡ marks + 512 → Cleared A B marks to → length B ≡ length A
    → base ≡ pile_base l → C ≡ set B base m → m < l.modules → Walking W C l n 0 1
unfolding down_from rows
walking_start {W} {A} {l} {n} {B} {C} {m} {base} {marks} {to} th ek et cl size eb ec inside =
    let z = few_words th.ready in
    let y = th.ready.size in
    let q : C ≡ set B (pile_base l) m = ec ∙ ap (λ x. set B x m) eb in
    let low : ((i : ℕ) → i < marks_base l → get_or C i 0 ≡ get_or A i 0) = λ i h. ap (λ x. get_or x i 0) q
    ∙ get_or-set_other B (pile_base l) i m 0 (λ e. omega arith) ∙ cl.before i (omega arith) in
    let top : get_or C (pile_base l + 0) 0 ≡ m = let d : pile_base l + 0 ≡ pile_base l = omega arith in ap₂ (λ x i. get_or x i 0) q d
    ∙ get_or-set_same B (pile_base l) m 0 (omega arith) in
    record {
      threaded = threaded_kept th (ap length q ∙ length-set B (pile_base l) m ∙ size) low;
      marked =
          marked_none C (marks_base l) _
          (λ x h. ap (λ y. get_or y (marks_base l + x) 0) q ∙ get_or-set_other B (pile_base l) (marks_base l + x) m 0 (λ e. omega arith)
          ∙ cl.zero (marks_base l + x) (omega arith) (omega arith));
      taken = Each.none;
      inside = more {x = get_or C (pile_base l + 0) 0} (subst (λ x. x < l.modules) (sym top) inside) Each.none;
      room = let a = waiting_all (snap_of W C l).scopes in let b = length_rows (λ k. scope_at W (scope_base l + scope_size * k))
          l.scopes in omega arith;
    }

walk_whole : (W A C : List ℕ) (l : Layout) (c m : ℕ) → snap_of W C l ≡ snap_of W A l → get_or C (pile_base l + 0) 0 ≡ m
    → m ≡ root_of (snap_of W A l) (own_map (snap_of W A l) c)
    → walk_at W C l 0 1 ≡ modules_from (snap_of W A l) c
unfolding down_from modules_from rows
walk_whole W A C l c m q e r =
    let a = waiting_all (snap_of W C l).scopes in
    let b = length_rows (λ k. scope_at W (scope_base l + scope_size * k)) l.scopes in
    sym (visits_same (turns_at W C l 0 1) (length (snap_of W A l).scopes + 1) (snap_of W C l) [] (pile_at C l 1) (omega arith) (omega arith))
    ∙ ap₂ (λ x y. visits (length (snap_of W A l).scopes + 1) x [] (y ∷ [])) q (e ∙ r)

pub record Going (W A : List ℕ) (l : Layout) (n k₀ t₀ : ℕ) (B : List ℕ) (k t : ℕ) : Type 0 where
  pub walking : Walking W B l n k t
  pub same : walk_at W B l k t ≡ walk_at W A l k₀ t₀
  pub size : length B ≡ length A
  pub below : (i : ℕ) → i < marks_base l → get_or B i 0 ≡ get_or A i 0

pub going_start : {W A : List ℕ} {l : Layout} {n k t : ℕ} → Walking W A l n k t → Going W A l n k t A k t
going_start w = record { walking = w; same = refl; size = refl; below = λ i h. refl }

module _ {W A : List ℕ} {l : Layout} {n k₀ t₀ : ℕ} {B : List ℕ} {k t : ℕ} (g : Going W A l n k₀ t₀ B k t) (some : (t ≡ 0 → ⊥)) where
  topped : t - 1 + 1 ≡ t
  topped = omega arith

  pub going_top : Walking W B l n k (t - 1 + 1)
  going_top = rw topped g.walking

  module _ {C : List ℕ} {r : Turn} (u : Turned W B l n k (t - 1) C r) where
    pub going_next : Going W A l n k₀ t₀ C r.order r.top
    going_next =
        record {
          walking = u.walking;
          same = u.same ∙ ap (walk_at W B l k) topped ∙ g.same;
          size = u.size ∙ g.size;
          below = λ i h. u.below i h ∙ g.below i h;
        }

    pub going_falls : turns_at W C l r.order r.top < turns_at W B l k t
    going_falls = let q = u.falls in let e = topped in omega arith

visits_none : (n : ℕ) (s : Snapshot) (seen : List ℕ) → visits n s seen [] ≡ []
unfolding visits
visits_none zero s seen = refl
visits_none (suc n) s seen = refl

pub going_done : {W A B D C : List ℕ} {l : Layout} {n k t base marks to : ℕ} (c : ℕ) {m : ℕ} → Threaded W A l n → marks ≡ marks_base l
    → Cleared A D marks to → length D ≡ length A
    → base ≡ pile_base l → C ≡ set D base m → m ≡ root_of (snap_of W A l) (own_map (snap_of W A l) c) → Going W C l n 0 1 B k t
    → t ≡ 0 → Walked W A l c B k
unfolding down_from
going_done {W} {A} {B} {D} {C} {l} {n} {k} {t} {base} {marks} {to} c {m} th ek cl size eb ec em g e =
    let z = few_words th.ready in
    let y = th.ready.size in
    let r = g.walking.room in
    let q : C ≡ set D (pile_base l) m = ec ∙ ap (λ x. set D x m) eb in
    let low : ((i : ℕ) → i < marks_base l → get_or C i 0 ≡ get_or A i 0) = λ i h. ap (λ x. get_or x i 0) q
    ∙ get_or-set_other D (pile_base l) i m 0 (λ e. omega arith) ∙ cl.before i (omega arith) in
    let top : get_or C (pile_base l + 0) 0 ≡ m = let d : pile_base l + 0 ≡ pile_base l = omega arith in ap₂ (λ x i. get_or x i 0) q d
    ∙ get_or-set_same D (pile_base l) m 0 (omega arith) in
    record {
      same =
          sym (ap (λ x. order_at B l k ++ visits (turns_at W B l k x) (snap_of W B l) (seen_at B l k) (pile_at B l x)) e
          ∙ ap (λ x. order_at B l k ++ x) (visits_none (turns_at W B l k 0) (snap_of W B l) (seen_at B l k)) ∙ append-nil (order_at B l k))
          ∙ g.same ∙ walk_whole W A C l c m (snap_stays W A C l th.ready.reads.tables (λ i a b. low i (omega arith))) top em;
      few = omega arith;
      inside = g.walking.taken;
      size = g.size ∙ ap length q ∙ length-set D (pile_base l) m ∙ size;
      below = λ i h. g.below i h ∙ low i h;
    }
