-- The steps from module to module, by rounds, give bounds.
use Prim.Native.Nat.{ℕ, ◌+◌, ◌≤◌, ◌<◌}
use mathlib.Core.Path.{◌≡◌, ap, sym, ◌∙◌, subst}
use mathlib.Core.List.{List, [], ◌∷◌, ◌++◌}
use mathlib.Core.Bool.{true, false≢true}
use native.Mathlib.Omega.{arith}
use lib.ListN.{length, set}
use lib.Seq.{get_or-set_same, get_or-set_other}
use borrow.Author.Count.{below_more}
use Rattle.snapshot.specs.Lists.{any}
use Rattle.snapshot.specs.Limits.{module_limit, area_limit}
use Rattle.snapshot.specs.Records.{Snapshot}
use Rattle.snapshot.specs.Layouts.{table_words, snap_of}
use Rattle.snapshot.specs.declared.layout.Layout.{Layout}
use Rattle.accept.specs.Valid.{Each}
use Rattle.accept.proofs.Bools.{each_map}
use Rattle.accept.proofs.Reading.{ranges_read}
use Rattle.accept.proofs.Valid.{accepted_valid}
use Rattle.find_path_spec.specs.declared.FindPathCtx.{FindPathCtx}
use Rattle.find_path_spec.specs.Walk.{Level, has}
use Rattle.find_path_spec.specs.laws.Near.{ruled, near}
use Rattle.find_path_spec.proofs.laws.Fewer.{or_left}
use Rattle.find_path_levels.specs.declared.Stack.{Stack}
use Rattle.find_path_levels.specs.Levels.{levels_of}
use Rattle.find_path_levels.specs.walk_once.Walked.{walk_end}
use Rattle.find_path_levels.proofs.Rows.{agree}
use Rattle.find_path_local.specs.Post.{Searchable}
use Rattle.find_path_local.specs.distances.Distances.{distance, walk}
use Rattle.find_path_local.specs.tight_rows.Rows.{rows_at}
use Rattle.find_path_local.specs.near.Numbers.{number, Opened}
use Rattle.find_path_local.specs.near.Post.{Scratched, Begun, Falls, Turned}
use Rattle.find_path_local.proofs.distances.Relaxing.{by_same, has_more}
use Rattle.find_path_local.proofs.near.Closed.{near_bound}
use Rattle.find_path_local.proofs.near.Falling.{scratched_none, scratched_then, scratched_set, kept_snap, kept_levels}
use Rattle.find_path_local.proofs.near.Falling.{falls_none, falls_less, falls_on, opened_down}

-- the numbers begin
pub begun_start : (top : ℕ) (A : List ℕ) → Begun top 0 A A
begun_start top A = record { scratched = scratched_none top A; some = λ m h. absurd (omega arith); one = λ m h. absurd (omega arith) }

module _ (top m : ℕ) (A₀ A : List ℕ) (v : Begun top m A₀ A) (low : walk_end ≤ top) (room : top + module_limit ≤ rows_at)
    (size : length A ≡ area_limit) (few : m < module_limit) where
  pub begun_next : {w : ℕ} → 0 < w → (distance A m ≤ 1 → w ≤ 1) → Begun top (m + 1) A₀ (set A (top + m) w)
  begun_next {w} some one =
      let B = set A (top + m) w in
      let here : number B top m ≡ w = get_or-set_same A (top + m) w 0 (omega arith) in
      let old : (i : ℕ) → i < m → number B top i ≡ number A top i = λ i h. get_or-set_other A (top + m) (top + i) w 0 (λ q. omega arith) in
      let read : distance A m ≡ distance A₀ m = agree A A₀ top v.scratched.below (table_words + m) (omega arith) in
      record {
        scratched = scratched_then v.scratched (scratched_set top A (top + m) w (omega arith) (omega arith));
        some = below_more (λ i. 0 < number B top i) m (λ i h. let a = v.some i h in let b = old i h in omega (arith, a, b))
            (omega (arith, here, some));
        one =
            below_more (λ i. distance A₀ i ≤ 1 → number B top i ≤ 1) m
            (λ i h o. let a = v.one i h o in let b = old i h in omega (arith, a, b))
            (λ o. let a = one (omega (arith, read, o)) in omega (arith, here, a));
      }

-- a round, module by module
module _ (s : Snapshot) (x : FindPathCtx) (ls : List Level) (top d : ℕ) (A₀ : List ℕ) where
  pub turned_start : {ms : List ℕ} → ms ≡ [] → Turned s x ls ms top d A₀ A₀
  unfolding has any
  turned_start {ms} e =
      record { falls = falls_none top (d + 1) A₀; opened = λ c b h. absurd (false≢true (ap (λ z. has z c) (sym e) ∙ h)) }

  module _ {A ms ns : List ℕ} {m : ℕ} (v : Turned s x ls ms top d A₀ A) (n : ns ≡ ms ++ (m ∷ [])) (known : m < module_limit) where
    at_start : number A₀ top m ≡ d → number A top m ≡ d
    at_start e =
        by_same (number A top m) (number A₀ top m) (λ q. q ∙ e) (λ n. let q = v.falls.changed m known n in absurd (omega (arith, q.1, e)))

    pub turned_next : {B : List ℕ} → Falls top (d + 1) A B → (number A top m ≡ d → Each (Opened s x ls (number B top) m (d + 1)) s.scopes)
        → Turned s x ls ns top d A₀ B
    turned_next {B} f g =
        record {
          falls = falls_on top (d + 1) A₀ A B v.falls f;
          opened = λ c b h e.
              has_more ms m c (λ t. opened_down s x ls top c (d + 1) (d + 1) A B f (v.opened c b t e))
              (λ t. subst (λ j. Each (Opened s x ls (number B top) j (d + 1)) s.scopes) (sym t) (g (at_start (ap (number A₀ top) (sym t) ∙ e))))
              (ap (λ z. has z c) (sym n) ∙ h);
        }

-- between two rounds: all steps from modules with a smaller number than d are made
pub record Nearing (W A₀ : List ℕ) (l : Layout) (x : FindPathCtx) (s : Stack) (A : List ℕ) (d : ℕ) : Type 0 where
  pub scratched : Scratched s.top A₀ A
  pub size : length A ≡ length A₀
  pub some : (m : ℕ) → m < l.modules → 0 < number A s.top m
  pub answers : (m : ℕ) → m < l.modules → ruled (snap_of W A₀ l) x m ≡ true → number A s.top m ≤ 1
  pub closed : (c : ℕ) → c < l.modules → has (walk (snap_of W A₀ l) x) c ≡ true → number A s.top c < d
      → Each (Opened (snap_of W A₀ l) x (levels_of A₀ s.place s.depth) (number A s.top) c (number A s.top c + 1)) (snap_of W A₀ l).scopes

module _ (W A₀ : List ℕ) (l : Layout) (x : FindPathCtx) (left : ℕ) (s : Stack) (y : Searchable W A₀ l x left s) where
  abbrev S : Snapshot
  S = snap_of W A₀ l

  abbrev ls : List Level
  ls = levels_of A₀ s.place s.depth

  few : l.modules ≤ module_limit
  few = y.reads.tables.limited.modules

  pub nearing_start : {A : List ℕ} → Begun s.top l.modules A₀ A → length A ≡ length A₀ → Nearing W A₀ l x s A 1
  unfolding near
  nearing_start f z =
      record {
        scratched = f.scratched;
        size = z;
        some = f.some;
        answers = λ m h t. f.one m h (y.bounds 1 m h (or_left (ruled S x m) _ t));
        closed = λ c h o q. let a = f.some c h in absurd (omega arith);
      }

  module _ {A : List ℕ} {d : ℕ} (v : Nearing W A₀ l x s A d) where
    module _ {B : List ℕ} (f : Turned (snap_of W A l) x (levels_of A s.place s.depth) (walk (snap_of W A l) x) s.top d A B) where
      turned : Turned S x ls (walk S x) s.top d A B
      turned =
          subst (λ (z : Snapshot). Turned z x ls (walk z x) s.top d A B) (kept_snap y v.scratched)
          (subst (λ (z : List Level). Turned (snap_of W A l) x z (walk (snap_of W A l) x) s.top d A B) (kept_levels y v.scratched) f)

      closed_next : (c : ℕ) → c < l.modules → has (walk S x) c ≡ true → number B s.top c < d + 1
          → Each (Opened S x ls (number B s.top) c (number B s.top c + 1)) S.scopes
      closed_next c h o low =
          let b : c < module_limit = omega (arith, h, few) in
          let z : number B s.top c ≡ number A s.top c =
          by_same (number B s.top c) (number A s.top c) (λ q. q) (λ n. let q = turned.falls.changed c b n in absurd (omega (arith, q.0, low))) in
          by_same (number A s.top c) d
          (λ t.
          subst (λ k. Each (Opened S x ls (number B s.top) c k) S.scopes) (ap (λ k. k + 1) (sym t ∙ sym z)) (turned.opened c b o t))
          (λ n.
          let a = v.closed c h o (omega (arith, z, low, n)) in
          subst (λ k. Each (Opened S x ls (number B s.top) c k) S.scopes) (ap (λ k. k + 1) (sym z))
          (opened_down S x ls s.top c (number A s.top c + 1) (d + 1) A B turned.falls a))

      pub nearing_next : length B ≡ length A → Nearing W A₀ l x s B (d + 1)
      nearing_next z =
          record {
            scratched = scratched_then v.scratched f.falls.scratched;
            size = z ∙ v.size;
            some = λ m h.
                by_same (number B s.top m) (number A s.top m) (λ e. let a = v.some m h in omega (arith, a, e))
                (λ n. let q = f.falls.changed m (omega (arith, h, few)) n in omega (arith, q.0));
            answers = λ m h t. let a = v.answers m h t in let b = falls_less f.falls m (omega (arith, h, few)) in omega (arith, a, b);
            closed = closed_next;
          }

    -- what is near has no larger number
    pub nearing_end : (m : ℕ) → left ≤ d → m < l.modules → near S x ls left m ≡ true → number A s.top m ≤ left
    nearing_end m e b h =
        near_bound S x ls l.modules left (number A s.top) few v.answers (λ c q o low. v.closed c q o (omega arith))
        (each_map (λ e f. f.owner) (ranges_read W A₀ l (accepted_valid W S y.reads.same)).scopes) left m (omega arith) b h
