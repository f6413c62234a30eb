-- The steps of all entries, by rounds: the modules with the number 1 first, then those with 2, and so on.
use Prim.Native.Nat.{ℕ, ◌+◌, ◌*◌, ◌≤◌, ◌<◌}
use mathlib.Core.Path.{◌≡◌, refl, ap, ap₂, sym, ◌∙◌, subst}
use mathlib.Core.List.{List, [], ◌∷◌, ◌++◌}
use mathlib.Core.Bool.{Bool, true, false, ◌&&◌, ◌||◌, true≢false, false≢true}
use native.Mathlib.Omega.{arith}
use lib.Dec.{eqb, ltb}
use lib.ListN.{length, get_or, set, take, replicate, length-replicate, get_or-replicate, get_or-eq_default}
use lib.Seq.{get_or-set_same, get_or-set_other, take-set-le}
use borrow.Author.Tests.{eqb-true, eqb-false, ltb-true, ltb-false, lt-ltb}
use Rattle.snapshot.specs.Sizes.{scope_size}
use Rattle.snapshot.specs.Limits.{module_limit, area_limit}
use Rattle.snapshot.specs.Records.{Snapshot, Scope, scope_at}
use Rattle.snapshot.specs.Layouts.{table_words, scope_base, snap_of}
use Rattle.snapshot.specs.declared.layout.Layout.{Layout}
use Rattle.check_records.specs.record_rules.Stands.{counts_in}
use Rattle.accept.specs.Post.{Reads}
use Rattle.accept.specs.Valid.{Each, ScopeFits}
use Rattle.accept.proofs.Accepted.{by_test}
use Rattle.accept.proofs.Bools.{each_map, each_rows}
use Rattle.accept.proofs.Valid.{accepted_valid}
use Rattle.accept.proofs.Reading.{scope_read}
use Rattle.hir_def.specs.Entries.{Known}
use Rattle.hir_def.specs.Items.{module_item}
use Rattle.hir_def.specs.ItemScope.{is_module_entry, entry_module}
use Rattle.hir_def.proofs.Fits.{item_known}
use Rattle.find_path_spec.specs.declared.FindPathCtx.{FindPathCtx}
use Rattle.std.specs.Prelude.{Option, None}
use Rattle.hir_def.specs.Entries.{entry_of}
use Rattle.find_path_spec.specs.Local.{importable_name}
use Rattle.find_path_spec.specs.laws.Near.{is_some, ruled, imports}
use Rattle.find_path_spec.proofs.laws.Tables.{same_snap, same_reads}
use Rattle.find_path_local.specs.distances.Distances.{distance, Stepped, Nearer, Relaxed, Opened, Tried, walk, Onward, Closed, distances_end}
use Rattle.find_path_local.specs.distances.Post.{Ready, Marked, Lowers, Steps, Turned, Round, Bounded, Sifted}
use Rattle.find_path_local.proofs.distances.Lowering.{rows_each, lowers_same, lowers_then, lowers_snap, set_lowers, distances_less}
use Rattle.snapshot.specs.Lists.{any}
use Rattle.snapshot.proofs.Laws.{rows_put, rows_ext}
use Rattle.find_path_spec.specs.Walk.{has}
use Rattle.find_path_spec.proofs.laws.Walks.{has_snoc}
use Rattle.find_path_levels.specs.Levels.{run_at}
use Rattle.find_path_levels.specs.walk_once.Walked.{walk_at, walk_count, Walked}
use Rattle.find_path_levels.proofs.Rows.{take_less, agree}
use Rattle.find_path_local.proofs.Knowns.{locations_there}
use Rattle.find_path_local.proofs.distances.Marking.{module_entry, imported_each}
use Rattle.find_path_local.proofs.distances.Near.{closed_bounds}

or_both : (a b : Bool) → (a || b) ≡ false → (a ≡ false) × (b ≡ false)
or_both true b e = absurd (true≢false e)
or_both false b e = (refl, e)

-- a number stays, or not
pub by_same : {C : Type 0} (a b : ℕ) → (a ≡ b → C) → ((a ≡ b → ⊥) → C) → C
by_same a b f g = by_test (eqb a b) (λ t. f (eqb-true a b t)) (λ t. g (eqb-false a b t))

-- nothing is changed
pub steps_none : (A : List ℕ) (d : ℕ) → Steps A d A false
steps_none A d = record { lowers = lowers_same A; beyond = λ i h. refl; changed = λ m n. absurd (n refl); same = λ e. refl }

pub steps_then : {A B C : List ℕ} {d : ℕ} {r t : Bool} → Steps A d B r → Steps B d C t → Steps A d C (r || t)
steps_then {A} {B} {C} {d} {r} {t} f g =
    record {
      lowers = lowers_then f.lowers g.lowers;
      beyond = λ i h. g.beyond i h ∙ f.beyond i h;
      changed = λ m n.
          by_same (distance C m) (distance B m)
          (λ e. let q = f.changed m (λ z. n (e ∙ z)) in (omega (arith, e, q.0), q.1))
          (λ z. let q = g.changed m z in let b = distances_less f.lowers m in (q.0, omega (arith, q.1, b)));
      same = λ e. let (a, o) = or_both r t e in g.same o ∙ f.same a;
    }

-- one number becomes d
module _ (A : List ℕ) (m d : ℕ) (size : length A ≡ area_limit) (known : m < module_limit) (some : 0 < d) (more : d < distance A m) where
  abbrev pub B : List ℕ
  B = set A (table_words + m) d

  pub set_here : distance B m ≡ d
  set_here = get_or-set_same A (table_words + m) d 0 (omega arith)

  pub steps_set : Steps A d B true
  steps_set =
      record {
        lowers = set_lowers A (table_words + m) d (omega arith) (omega arith) (omega arith) some;
        beyond = λ i h. get_or-set_other A (table_words + m) i d 0 (λ q. omega arith);
        changed = λ i n.
            by_same i m
            (λ e. subst (λ y. (distance B y ≡ d) × (d < distance A y)) (sym e) (set_here, more))
            (λ z. absurd (n (get_or-set_other A (table_words + m) (table_words + i) d 0 (λ q. z (omega arith)))));
        same = λ e. absurd (true≢false e);
      }

-- the entry with its head at h
module _ (s : Snapshot) (x : FindPathCtx) (A : List ℕ) (d : ℕ) (e : Scope) {m : ℕ} (q : m ≡ entry_module s e) where
  pub nearer_low : {u : ℕ} → u ≡ distance A m → u ≤ d → Nearer s x (distance A) d e
  unfolding Nearer
  nearer_low p h i = subst (λ y. distance A y ≤ d) q (omega (arith, p, h))

  pub nearer_hidden : {c : ℕ} (W : List ℕ) {o : Option ℕ} → c ≡ e.owner → entry_of scope_at W o ≡ importable_name s x (module_item m) c → o ≡ None
      → Nearer s x (distance A) d e
  unfolding Nearer imports
  nearer_hidden {c} W p f n i =
      absurd (true≢false (sym i ∙ ap₂ (λ y z. is_some (importable_name s x (module_item y) z)) (sym q) (sym p)
      ∙ ap is_some (sym f ∙ ap (entry_of scope_at W) n)))

  pub nearer_here : length A ≡ area_limit → m < module_limit → 0 < d → d < distance A m → Nearer s x (distance (set A (table_words + m) d)) d e
  unfolding Nearer
  nearer_here size known some more i =
      subst (λ y. distance (set A (table_words + m) d) y ≤ d) q (omega (arith, set_here A m d size known some more))

  pub nearer_tried : {c : ℕ} (T : List ℕ) → Tried s x T → c ≡ e.owner → get_or T m 0 ≡ c + 1 → Nearer s x (distance A) d e
  unfolding Nearer Tried
  nearer_tried {c} T f p h i = absurd (true≢false (sym i ∙ ap₂ (imports s x) (sym q) (sym p) ∙ f m c h))

-- where no lookup failed yet, where one more did, and in the same snapshot
module _ (s : Snapshot) (x : FindPathCtx) where
  pub tried_start : (n : ℕ) → Tried s x (replicate n 0)
  unfolding Tried
  tried_start n m c h =
      let zeros : List ℕ = replicate n 0 in
      let none : get_or zeros m 0 ≡ 0 =
      by_test (ltb m n) (λ t. get_or-replicate n m 0 0 (ltb-true m n t))
      (λ t.
      let long : length zeros ≡ n = length-replicate n 0 in
      let past = ltb-false m n t in
      get_or-eq_default zeros 0 (omega arith)) in
      absurd (omega arith)

  pub tried_set : (T : List ℕ) {m : ℕ} (c : ℕ) {w : ℕ} (W : List ℕ) {o : Option ℕ} → Tried s x T → m < length T → w ≡ c + 1
      → entry_of scope_at W o ≡ importable_name s x (module_item m) c → o ≡ None → Tried s x (set T m w)
  unfolding Tried imports
  tried_set T {m} c {w} W f h e g n i k t =
      by_same i m
      (λ a.
      let b : get_or (set T m w) m 0 ≡ k + 1 = ap (λ y. get_or (set T m w) y 0) (sym a) ∙ t in
      let p : k ≡ c = omega (arith, b, e, get_or-set_same T m w 0 h) in
      ap₂ (λ y z. is_some (importable_name s x (module_item y) z)) a p ∙ ap is_some (sym g ∙ ap (entry_of scope_at W) n))
      (λ a. f i k (sym (get_or-set_other T m i w 0 a) ∙ t))

pub tried_snap : {s t : Snapshot} (x : FindPathCtx) (T : List ℕ) → s ≡ t → Tried s x T → Tried t x T
tried_snap x T e f = subst (λ (z : Snapshot). Tried z x T) e f

-- of lower numbers
pub nearer_down : (s : Snapshot) (x : FindPathCtx) (d : ℕ) (A B : List ℕ) → Lowers A B → (e : Scope) → Nearer s x (distance A) d e
    → Nearer s x (distance B) d e
unfolding Nearer
nearer_down s x d A B f e q i = let a = q i in let b = distances_less f (entry_module s e) in omega arith

pub relaxed_down : (s : Snapshot) (x : FindPathCtx) (d : ℕ) (A B : List ℕ) → Lowers A B → (e : Scope) → Relaxed s x (distance A) d e
    → Relaxed s x (distance B) d e
relaxed_down s x d A B f e q t = nearer_down s x d A B f e (q t)

pub opened_down : (s : Snapshot) (x : FindPathCtx) (m d : ℕ) (A B : List ℕ) → Lowers A B
    → Each (Opened s x (distance A) m d) s.scopes → Each (Opened s x (distance B) m d) s.scopes
unfolding Opened
opened_down s x m d A B f h = each_map (λ e q t. nearer_down s x d A B f e (q t)) h

pub opened_all : (s : Snapshot) (x : FindPathCtx) (m d : ℕ) (A : List ℕ)
    → Each (λ e. is_module_entry s m e ≡ true → Relaxed s x (distance A) d e) s.scopes → Each (Opened s x (distance A) m d) s.scopes
unfolding Opened Nearer
opened_all s x m d A h =
    each_map (λ e q t i. q t i i) (imported_each s x (λ n c. imports s x n c ≡ true → distance A n ≤ d) m h)

-- a number that is not between d and 16
pub far_left : (d w : ℕ) → (ltb d w && ltb w 16) ≡ false → d < w → 16 ≤ w
far_left d w e h = ltb-false w 16 (ap (λ b. b && ltb w 16) (sym (lt-ltb d w h)) ∙ e)

-- a turn
module _ (s : Snapshot) (x : FindPathCtx) (A : List ℕ) (m d : ℕ) {w : ℕ} (p : w ≡ distance A m) where
  pub turned_here : {B : List ℕ} {r : Bool} → w ≡ d → Steps A (d + 1) B r → Each (Opened s x (distance B) m (d + 1)) s.scopes → Turned s x A m d B r
  turned_here e f h = record { steps = f; opened = λ _. h; done = λ _ q. absurd (omega (arith, e, p, q)) }

  pub turned_past : {r : Bool} → (w ≡ d → ⊥) → (r ≡ false → d < w → 16 ≤ w) → Turned s x A m d A r
  turned_past {r} n f =
      record {
        steps = record { lowers = lowers_same A; beyond = λ i h. refl; changed = λ i z. absurd (z refl); same = λ _. refl };
        opened = λ e. absurd (n (p ∙ e));
        done = λ e q. let a = f e (omega (arith, p, q)) in omega (arith, p, a);
      }

-- one module more of a list
pub has_more : {P : Type 0} (ms : List ℕ) (m i : ℕ) → (has ms i ≡ true → P) → (i ≡ m → P) → has (ms ++ (m ∷ [])) i ≡ true → P
has_more ms m i f g h =
    by_test (has ms i) f (λ t. g (eqb-true i m (sym (ap (λ b. b || eqb i m) t) ∙ sym (has_snoc ms m i) ∙ h)))

-- a round, module by module
module _ (W A₀ : List ℕ) (l : Layout) (x : FindPathCtx) (d : ℕ) where
  abbrev S : Snapshot
  S = snap_of W A₀ l

  pub round_start : {ms : List ℕ} → ms ≡ [] → Round S x A₀ ms d A₀ false
  unfolding has any
  round_start {ms} e =
      let none : (m : ℕ) → has ms m ≡ true → ⊥ = λ m h. false≢true (ap (λ z. has z m) (sym e) ∙ h) in
      record { steps = steps_none A₀ (d + 1); opened = λ m h. absurd (none m h); done = λ e m h. absurd (none m h) }

  at_start : {A ms : List ℕ} {more : Bool} → Round S x A₀ ms d A more → (i : ℕ) → distance A₀ i ≡ d → distance A i ≡ d
  at_start {A} v i e = by_same (distance A i) (distance A₀ i) (λ q. q ∙ e) (λ n. let q = v.steps.changed i n in absurd (omega (arith, q.1, e)))

  module _ (r₀ : Reads W A₀ l) {A ms ns : List ℕ} {m : ℕ} {more : Bool} (v : Round S x A₀ ms d A more) (n : ns ≡ ms ++ (m ∷ [])) where
    pub round_next : {B : List ℕ} {r : Bool} → Turned (snap_of W A l) x A m d B r → Round S x A₀ ns d B (more || r)
    round_next {B} {r} f =
        let sn : snap_of W A l ≡ S = lowers_snap W l v.steps.lowers r₀ in
        record {
          steps = steps_then v.steps f.steps;
          opened = λ i h e.
              has_more ms m i (λ t. opened_down S x i (d + 1) A B f.steps.lowers (v.opened i t e))
              (λ t.
              subst (λ j. Each (Opened S x (distance B) j (d + 1)) S.scopes) (sym t)
              (subst (λ (z : Snapshot). Each (Opened z x (distance B) m (d + 1)) z.scopes) sn
              (f.opened (at_start v m (ap (distance A₀) (sym t) ∙ e)))))
              (ap (λ z. has z i) (sym n) ∙ h);
          done = λ e i h q. let (a, o) = or_both more r e in
              has_more ms m i (λ t. v.done a i t q)
              (λ t.
              let z : distance A m ≡ distance A₀ m = ap (λ (Y : List ℕ). distance Y m) (v.steps.same a) in
              let y : distance A₀ i ≡ distance A₀ m = ap (distance A₀) t in
              let g = f.done o (omega (arith, z, y, q)) in omega (arith, z, y, g)) (ap (λ z. has z i) (sym n) ∙ h);
        }

-- one word more of a run
pub run_more : (A : List ℕ) (at n : ℕ) {v : ℕ} → v ≡ get_or A (at + n) 0 → run_at A at (n + 1) ≡ run_at A at n ++ (v ∷ [])
run_more A at n {v} e = rows_put (λ i. get_or A (at + i) 0) (λ i. get_or A (at + i) 0) n v (λ _ _. refl) (sym e)

-- the walk stays where the words past the numbers do
pub walked_beyond : (s : Snapshot) (from : ℕ) (A B : List ℕ) → Walked s from A → ((i : ℕ) → distances_end ≤ i → get_or B i 0 ≡ get_or A i 0)
    → Walked s from B
walked_beyond s from A B w h =
    let q = h walk_count (omega arith) in
    record {
      same =
          ap (run_at B walk_at) q
          ∙ rows_ext (λ i. get_or B (walk_at + i) 0) (λ i. get_or A (walk_at + i) 0) (get_or A walk_count 0)
          (λ i _. h (walk_at + i) (omega arith)) ∙ w.same;
      few = omega (arith, q, w.few);
    }

-- a module of the walk is there
pub walk_known : (W A : List ℕ) (l : Layout) (from k n : ℕ) {m : ℕ} → Reads W A l → from < l.modules → Walked (snap_of W A l) from A
    → n ≡ get_or A walk_count 0 → k < n → m ≡ get_or A (walk_at + k) 0 → m < l.modules
walk_known W A l from k n {m} r f w c h e =
    let g : ℕ → ℕ = λ i. get_or A (walk_at + i) 0 in
    let a = locations_there W A l r from (λ _. false) f in
    let b : Each (λ i. i < l.modules) (run_at A walk_at n) = subst (λ z. Each (λ i. i < l.modules) (run_at A walk_at z)) (sym c)
    (subst (Each (λ i. i < l.modules)) (sym w.same) a) in
    subst (λ i. i < l.modules) (sym e) (each_rows g n k b h)

-- the record k
abbrev pub entry_at : List ℕ → Layout → ℕ → Scope
entry_at W l k = scope_at W (scope_base l + scope_size * k)

-- between two rounds: all steps from modules with a smaller number than d are made
pub record Settling (W A₀ : List ℕ) (l : Layout) (x : FindPathCtx) (A : List ℕ) (d : ℕ) : Type 0 where
  pub marked : Marked W A₀ l x A
  pub size : length A ≡ length A₀
  pub beyond : (i : ℕ) → distances_end ≤ i → get_or A i 0 ≡ get_or A₀ i 0
  pub closed : (k : ℕ) → k < l.scopes → distance A (entry_at W l k).owner < d → Onward (snap_of W A₀ l) x (distance A) (entry_at W l k)

module _ (W A₀ : List ℕ) (l : Layout) (x : FindPathCtx) (y : Ready W A₀ l) where
  abbrev S₀ : Snapshot
  S₀ = snap_of W A₀ l

  fits : (k : ℕ) → k < l.scopes → ScopeFits (counts_in l) (entry_at W l k)
  fits k h = scope_read W A₀ l (accepted_valid W S₀ y.reads.same) k h

  pub settling_start : {A : List ℕ} → Marked W A₀ l x A → length A ≡ length A₀ → ((i : ℕ) → distances_end ≤ i → get_or A i 0 ≡ get_or A₀ i 0)
      → Settling W A₀ l x A 1
  settling_start f z o =
      record {
        marked = f;
        size = z;
        beyond = o;
        closed = λ k h q. let a = (f.far (entry_at W l k).owner (fits k h).owner).0 in absurd (omega arith);
      }

  module _ {A : List ℕ} {d : ℕ} (v : Settling W A₀ l x A d) where
    pub settling_ready : Ready W A l
    settling_ready = record { reads = same_reads W A₀ A l v.marked.tables y.reads; area = v.size ∙ y.area }

    pub settling_snap : snap_of W A l ≡ S₀
    settling_snap = same_snap W A₀ A l v.marked.tables y.reads

    pub settling_walked : Walked (snap_of W A₀ l) x.from.0 A₀ → Walked (snap_of W A l) x.from.0 A
    settling_walked w =
        subst (λ (s : Snapshot). Walked s x.from.0 A) (sym settling_snap) (walked_beyond S₀ x.from.0 A₀ A w v.beyond)

    -- no step is larger than 16
    step_far : (k : ℕ) → k < l.scopes → 15 ≤ distance A (entry_at W l k).owner → Stepped S₀ x (distance A) (entry_at W l k)
    unfolding Stepped
    step_far k h q m p i =
        let e = entry_at W l k in
        let b : m < l.modules = subst (Known l) p (item_known W A₀ l y.reads e.ns e.definition (fits k h).definition) in
        let a = (v.marked.far m b).1 in
        omega arith

    all_bounded : ((k : ℕ) → k < l.scopes → Onward S₀ x (distance A) (entry_at W l k)) → Bounded W A₀ l x A
    all_bounded h =
        let c : Closed S₀ x l.modules (distance A) = record { answers = v.marked.answers; steps = rows_each (entry_at W l) l.scopes h } in
        record {
          bounds = closed_bounds S₀ x l.modules (distance A) c (rows_each (entry_at W l) l.scopes (λ k o. (fits k o).owner));
          beyond = v.beyond;
          tables = v.marked.tables;
        }

    pub settling_end : 15 ≤ d → Bounded W A₀ l x A
    settling_end h =
        all_bounded (λ k o. by_test (ltb (distance A (entry_at W l k).owner) d) (λ t. v.closed k o (ltb-true _ _ t))
        (λ t _. step_far k o (let a = ltb-false (distance A (entry_at W l k).owner) d t in omega arith)))

    module _ {B : List ℕ} {r : Bool} (f : Round (snap_of W A l) x A (walk (snap_of W A l) x) d B r) where
      abbrev sn : snap_of W A l ≡ S₀
      sn = settling_snap

      less : (m : ℕ) → distance B m ≤ distance A m
      less = distances_less f.steps.lowers

      walked : (m : ℕ) → has (walk S₀ x) m ≡ true → has (walk (snap_of W A l) x) m ≡ true
      walked m h = ap (λ (s : Snapshot). has (walk s x) m) sn ∙ h

      opens : (k m : ℕ) → k < l.scopes → has (walk S₀ x) m ≡ true → distance A m ≡ d → Opened S₀ x (distance B) m (d + 1) (entry_at W l k)
      opens k m o h e =
          each_rows (entry_at W l) l.scopes k
          (subst (λ (s : Snapshot). Each (Opened s x (distance B) m (d + 1)) s.scopes) sn (f.opened m (walked m h) e)) o

      stepped : (k : ℕ) → k < l.scopes → distance B (entry_at W l k).owner < d + 1 → Onward S₀ x (distance B) (entry_at W l k)
      unfolding Stepped Opened Nearer
      stepped k o low w m p i =
          let e = entry_at W l k in
          let z : distance B e.owner ≡ distance A e.owner =
          by_same (distance B e.owner) (distance A e.owner) (λ q. q) (λ n. let q = f.steps.changed e.owner n in absurd (omega (arith, q.0, low))) in
          by_same (distance A e.owner) d
          (λ t.
          let g = module_entry S₀ e e.owner m refl p in
          let b = opens k e.owner o w t g.0 (subst (λ (j : ℕ). imports S₀ x j e.owner ≡ true) (sym g.1) i) in
          let c : distance B m ≤ d + 1 = subst (λ (j : ℕ). distance B j ≤ d + 1) g.1 b in
          omega (arith, c, z, t))
          (λ n.
          let b = v.closed k o (omega (arith, z, low, n)) w m p i in
          let c = less m in
          omega (arith, b, c, z))

      pub settling_next : length B ≡ length A → Settling W A₀ l x B (d + 1)
      settling_next z =
          record {
            marked =
                record {
                  far = λ m h. let a = v.marked.far m h in let b = less m in (f.steps.lowers.some (table_words + m) a.0, omega (arith, a.1, b));
                  answers = λ m h o. let a = v.marked.answers m h o in let b = less m in omega arith;
                  tables = f.steps.lowers.tables ∙ v.marked.tables;
                };
            size = z ∙ v.size;
            beyond = λ i h. f.steps.beyond i h ∙ v.beyond i h;
            closed = stepped;
          }

      -- no number between d and 16 is left
      pub settling_stop : r ≡ false → Bounded W A₀ l x B
      settling_stop e =
          let q = f.steps.same e in
          let c : (k : ℕ) → k < l.scopes → Onward S₀ x (distance A) (entry_at W l k) =
          λ k o w.
          by_test (ltb d (distance A (entry_at W l k).owner))
          (λ t. step_far k o (let a = f.done e (entry_at W l k).owner (walked (entry_at W l k).owner w) (ltb-true _ _ t) in omega arith))
          (λ t.
          subst (λ (Y : List ℕ). Stepped S₀ x (distance Y) (entry_at W l k)) q
          (stepped k o (let a = ltb-false d (distance A (entry_at W l k).owner) t in
          let b = less (entry_at W l k).owner in omega arith) w))
          in
          subst (Bounded W A₀ l x) (sym q) (all_bounded c)

-- marks stay where the words before the walk do
pub marked_again : (W A₀ A₁ B : List ℕ) (l : Layout) (x : FindPathCtx) → Reads W A₀ l → Marked W A₀ l x A₁ → take walk_at B ≡ take walk_at A₁
    → Marked W B l x B
marked_again W A₀ A₁ B l x r f e =
    let t : take table_words B ≡ take table_words A₁ = take_less B A₁ table_words walk_at (omega arith) e in
    let sn : snap_of W B l ≡ snap_of W A₀ l = same_snap W A₀ B l (t ∙ f.tables) r in
    let few = r.tables.limited.modules in
    let d : (m : ℕ) → m < l.modules → distance B m ≡ distance A₁ m = λ m h. agree B A₁ walk_at e (table_words + m) (omega arith) in
    record {
      far = λ m h. let a = f.far m h in let q = d m h in (omega (arith, a.0, q), omega (arith, a.1, q));
      answers = λ m h o. let a = f.answers m h (ap (λ (s : Snapshot). ruled s x m) (sym sn) ∙ o) in let q = d m h in omega (arith, a, q);
      tables = refl;
    }

-- a module that no rule answers for is far
module _ (W A : List ℕ) (l : Layout) (x : FindPathCtx) (m : ℕ) (room : table_words + m < length A) (known : m < module_limit)
    (none : ruled (snap_of W A l) x m ≡ false) where
  abbrev Without : List ℕ
  Without = set A (table_words + m) 16

  here : distance Without m ≡ 16
  here = get_or-set_same A (table_words + m) 16 0 room

  others : (n : ℕ) → (n ≡ m → ⊥) → distance Without n ≡ distance A n
  others n o = get_or-set_other A (table_words + m) (table_words + n) 16 0 (λ e. o (omega arith))

  same : take table_words Without ≡ take table_words A
  same = take-set-le table_words A (table_words + m) 16 (omega arith)

  pub sifted : Sifted W A l x Without
  sifted = record { marks = marks; beyond = λ i h. get_or-set_other A (table_words + m) i 16 0 (λ q. omega arith); tables = same }
    where
      marks : (B : List ℕ) → Reads W B l → Marked W B l x A → Marked W B l x Without
      marks B r f =
          record {
            far = λ n h.
                by_same n m (λ e. subst (λ z. (0 < distance Without z) × (distance Without z ≤ 16)) (sym e)
                (omega (arith, here), omega (arith, here)))
                (λ o. let p = others n o in let a = f.far n h in (omega (arith, p, a.0), omega (arith, p, a.1)));
            answers = λ n h t.
                by_same n m
                (λ e. absurd (true≢false (sym t ∙ ap (ruled (snap_of W B l) x) e
                ∙ subst (λ (s : Snapshot). ruled s x m ≡ false) (same_snap W B A l f.tables r) none)))
                (λ o. let p = others n o in let a = f.answers n h t in omega (arith, p, a));
            tables = same ∙ f.tables;
          }

pub sifted_none : (W A : List ℕ) (l : Layout) (x : FindPathCtx) → Sifted W A l x A
sifted_none W A l x = record { marks = λ B r f. f; beyond = λ i h. refl; tables = refl }

pub sifted_then : {W A B C : List ℕ} {l : Layout} {x : FindPathCtx} → Sifted W A l x B → Sifted W B l x C → Sifted W A l x C
sifted_then f g =
    record { marks = λ Z r h. g.marks Z r (f.marks Z r h); beyond = λ i h. g.beyond i h ∙ f.beyond i h; tables = g.tables ∙ f.tables }
