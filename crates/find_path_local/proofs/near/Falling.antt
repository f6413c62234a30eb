-- Numbers at the top fall, and what lies below it stays.
use Prim.Native.Nat.{ℕ, ◌+◌, ◌≤◌, ◌<◌}
use mathlib.Core.Path.{◌≡◌, refl, ap, ap₂, sym, ◌∙◌, subst}
use mathlib.Core.List.{List}
use mathlib.Core.Bool.{Bool, true, false, true≢false}
use native.Mathlib.Omega.{arith}
use lib.ListN.{length, set}
use lib.Seq.{get_or-set_same, get_or-set_other, take-set-le}
use Rattle.std.specs.Prelude.{Option, None}
use Rattle.snapshot.specs.Limits.{module_limit, area_limit}
use Rattle.snapshot.specs.Records.{Snapshot, Scope, scope_at}
use Rattle.snapshot.specs.Layouts.{snap_of}
use Rattle.snapshot.specs.declared.layout.Layout.{Layout}
use Rattle.accept.specs.Valid.{Each}
use Rattle.accept.proofs.Bools.{each_map}
use Rattle.hir_def.specs.Entries.{entry_of}
use Rattle.hir_def.specs.Items.{module_item}
use Rattle.hir_def.specs.ItemScope.{is_module_entry, entry_module}
use Rattle.hir_def.specs.declared.Item.{Item}
use Rattle.find_path_choice.specs.declared.Choice.{Choice as Path}
use Rattle.find_path_spec.specs.declared.FindPathCtx.{FindPathCtx}
use Rattle.find_path_spec.specs.Walk.{Level, has}
use Rattle.find_path_spec.specs.Local.{importable_name, calculate_best_path_local}
use Rattle.find_path_spec.specs.Search.{search_local}
use Rattle.find_path_spec.specs.laws.Near.{is_some, ruled, imports, locations}
use Rattle.find_path_levels.specs.declared.Stack.{Stack}
use Rattle.find_path_levels.specs.Levels.{levels_of}
use Rattle.find_path_levels.proofs.Rows.{agree, take_less}
use Rattle.find_path_levels.proofs.Stacks.{levels_same, chain_same, snap_at, reads_at}
use Rattle.find_path_local.specs.Post.{Searchable, Answered}
use Rattle.find_path_local.specs.distances.Distances.{distances_end}
use Rattle.find_path_local.specs.tight_rows.Rows.{rows_at, Rows}
use Rattle.find_path_local.specs.near.Numbers.{number, Nearer, Relaxed, Opened}
use Rattle.find_path_local.specs.near.Post.{Scratched, Falls}
use Rattle.find_path_local.proofs.distances.Marking.{imported_each}
use Rattle.find_path_local.proofs.distances.Relaxing.{by_same}
use Rattle.find_path_local.proofs.tight_rows.Keeping.{rows_at_lem}
use Rattle.find_path_local.proofs.Searches.{bounds_at, walked_kept, search_on}

pub scratched_none : (top : ℕ) (A : List ℕ) → Scratched top A A
scratched_none top A = record { below = refl; above = λ i h. refl }

pub scratched_then : {top : ℕ} {A B C : List ℕ} → Scratched top A B → Scratched top B C → Scratched top A C
scratched_then f g = record { below = g.below ∙ f.below; above = λ i h. g.above i h ∙ f.above i h }

pub scratched_lower : {top u : ℕ} {A B : List ℕ} → u ≤ top → Scratched top A B → Scratched u A B
scratched_lower {top} {u} {A} {B} h f = record { below = take_less B A u top h f.below; above = f.above }

pub scratched_set : (top : ℕ) (A : List ℕ) (at v : ℕ) → top ≤ at → at < rows_at → Scratched top A (set A at v)
scratched_set top A at v h k =
    record { below = take-set-le top A at v h; above = λ i o. get_or-set_other A at i v 0 (λ q. omega arith) }

-- a search can go on
module _ {W A B : List ℕ} {l : Layout} {x : FindPathCtx} {left : ℕ} {s : Stack} (y : Searchable W A l x left s) (f : Scratched s.top A B) where
  pub kept_snap : snap_of W B l ≡ snap_of W A l
  kept_snap = snap_at W A B l s.top y.reads y.tables f.below

  pub kept_levels : levels_of B s.place s.depth ≡ levels_of A s.place s.depth
  kept_levels = sym (levels_same A B s.top (sym f.below) s.depth s.place y.chain)

  pub kept_rows : Rows W B l x
  kept_rows = rows_at_lem W A B l x y.reads y.rows (take_less B A distances_end s.top (omega (arith, y.numbers)) f.below) f.above

  pub kept : length B ≡ length A → Searchable W B l x left s
  kept z =
      record {
        reads = reads_at W A B l s.top y.reads y.tables f.below;
        from = y.from;
        area = z ∙ y.area;
        tables = y.tables;
        numbers = y.numbers;
        bounds = bounds_at B y f.below;
        walked = walked_kept B y f.below;
        rows = kept_rows;
        space = y.space;
        deep = y.deep;
        chain = chain_same A B s.top (sym f.below) s.depth s.place y.chain;
        under = y.under;
      }

  pub kept_best : (item : Item) → calculate_best_path_local (snap_of W B l) x (search_local (snap_of W B l) x) left (levels_of B s.place s.depth) item
      ≡ calculate_best_path_local (snap_of W A l) x (search_local (snap_of W A l) x) left (levels_of A s.place s.depth) item
  kept_best item =
      ap (λ (z : Snapshot). calculate_best_path_local z x (search_local z x) left (levels_of B s.place s.depth) item) kept_snap
      ∙ ap (λ (z : List Level). calculate_best_path_local (snap_of W A l) x (search_local (snap_of W A l) x) left z item) kept_levels

  -- a search for a module after it, and its note
  pub noted : (m : ℕ) (C D : List ℕ) {r : Option Path} → (left ≡ 0 → ⊥) → ruled (snap_of W A l) x m ≡ false
      → Answered W B l x s.top (calculate_best_path_local (snap_of W B l) x (search_local (snap_of W B l) x) left (levels_of B s.place s.depth)
      (module_item m)) C r
      → Scratched s.top C D → Answered W A l x s.top (search_local (snap_of W A l) x left (levels_of A s.place s.depth) m) D r
  noted m C D some u a g =
      record {
        same = search_on (snap_of W A l) x left (levels_of A s.place s.depth) m some u (a.same ∙ kept_best (module_item m));
        below = g.below ∙ a.below ∙ f.below;
        rows =
            rows_at_lem W C D l x (reads_at W A C l s.top y.reads y.tables (a.below ∙ f.below)) a.rows
            (take_less D C distances_end s.top (omega (arith, y.numbers)) g.below) g.above;
      }

-- numbers that fall
pub falls_none : (top d : ℕ) (A : List ℕ) → Falls top d A A
falls_none top d A = record { scratched = scratched_none top A; changed = λ m h n. absurd (n refl) }

module _ {top d : ℕ} {A B : List ℕ} (f : Falls top d A B) where
  pub falls_less : (m : ℕ) → m < module_limit → number B top m ≤ number A top m
  falls_less m h = by_same (number B top m) (number A top m) (λ e. omega (arith, e)) (λ n. let q = f.changed m h n in omega (arith, q.0, q.1))

  pub falls_then : {C : List ℕ} → Falls top d B C → Falls top d A C
  falls_then {C} g =
      record {
        scratched = scratched_then f.scratched g.scratched;
        changed = λ m h n.
            by_same (number C top m) (number B top m)
            (λ e. let q = f.changed m h (λ z. n (e ∙ z)) in (omega (arith, e, q.0), q.1))
            (λ z. let q = g.changed m h z in let b = falls_less m h in (q.0, omega (arith, q.1, b)));
      }

pub falls_on : (top d : ℕ) (A B C : List ℕ) → Falls top d A B → Falls top d B C → Falls top d A C
falls_on top d A B C f g = falls_then f g

-- past the numbers
pub falls_past : (top d : ℕ) (A B : List ℕ) → Scratched (top + module_limit) A B → Falls top d A B
falls_past top d A B f =
    record {
      scratched = scratched_lower (omega arith) f;
      changed = λ m h n. absurd (n (agree B A (top + module_limit) f.below (top + m) (omega arith)));
    }

-- one number becomes d
module _ (top : ℕ) (A : List ℕ) (m d : ℕ) (room : top + module_limit ≤ rows_at) (size : length A ≡ area_limit) (known : m < module_limit)
    (more : d < number A top m) where
  pub put_here : number (set A (top + m) d) top m ≡ d
  put_here = get_or-set_same A (top + m) d 0 (omega arith)

  pub falls_set : Falls top d A (set A (top + m) d)
  falls_set =
      record {
        scratched = scratched_set top A (top + m) d (omega arith) (omega arith);
        changed = λ i h n.
            by_same i m
            (λ e. subst (λ y. (number (set A (top + m) d) top y ≡ d) × (d < number A top y)) (sym e) (put_here, more))
            (λ z. absurd (n (get_or-set_other A (top + m) (top + i) d 0 (λ q. z (omega arith)))));
      }

-- the entry with its head at h
module _ (s : Snapshot) (x : FindPathCtx) (ls : List Level) (d : ℕ → ℕ) (k : ℕ) (e : Scope) {m : ℕ} (q : m ≡ entry_module s e) where
  pub nearer_low : d m ≤ k → Nearer s x ls d k e
  unfolding Nearer
  nearer_low h b i t = subst (λ y. d y ≤ k) q h

  pub nearer_hidden : {c : ℕ} (W : List ℕ) {o : Option ℕ} → c ≡ e.owner → entry_of scope_at W o ≡ importable_name s x (module_item m) c → o ≡ None
      → Nearer s x ls d k e
  unfolding Nearer imports
  nearer_hidden {c} W p f n b i t =
      absurd (true≢false (sym i ∙ ap₂ (λ y z. is_some (importable_name s x (module_item y) z)) (sym q) (sym p)
      ∙ ap is_some (sym f ∙ ap (entry_of scope_at W) n)))

  pub nearer_untaken : {c : ℕ} {r : Bool} → c ≡ e.owner → r ≡ has (locations s x ls m) c → r ≡ false → Nearer s x ls d k e
  unfolding Nearer
  nearer_untaken p f n b i t = absurd (true≢false (sym t ∙ ap₂ (λ y z. has (locations s x ls y) z) (sym q) (sym p) ∙ sym f ∙ n))

-- of lower numbers
pub nearer_down : (s : Snapshot) (x : FindPathCtx) (ls : List Level) (top k d : ℕ) (A B : List ℕ) → Falls top d A B → (e : Scope)
    → Nearer s x ls (number A top) k e → Nearer s x ls (number B top) k e
unfolding Nearer
nearer_down s x ls top k d A B f e q b i t = let a = q b i t in let z = falls_less f (entry_module s e) b in omega arith

pub relaxed_down : (s : Snapshot) (x : FindPathCtx) (ls : List Level) (top k d : ℕ) (A B : List ℕ) → Falls top d A B → (e : Scope)
    → Relaxed s x ls (number A top) k e → Relaxed s x ls (number B top) k e
relaxed_down s x ls top k d A B f e q t = nearer_down s x ls top k d A B f e (q t)

pub opened_down : (s : Snapshot) (x : FindPathCtx) (ls : List Level) (top c k d : ℕ) (A B : List ℕ) → Falls top d A B
    → Each (Opened s x ls (number A top) c k) s.scopes → Each (Opened s x ls (number B top) c k) s.scopes
unfolding Opened
opened_down s x ls top c k d A B f h = each_map (λ e q t. nearer_down s x ls top k d A B f e (q t)) h

pub opened_all : (s : Snapshot) (x : FindPathCtx) (ls : List Level) (d : ℕ → ℕ) (c k : ℕ)
    → Each (λ e. is_module_entry s c e ≡ true → Relaxed s x ls d k e) s.scopes → Each (Opened s x ls d c k) s.scopes
unfolding Opened Nearer
opened_all s x ls d c k h =
    each_map (λ e q t b i o. q t i b i o)
    (imported_each s x (λ m a. m < module_limit → imports s x m a ≡ true → has (locations s x ls m) a ≡ true → d m ≤ k) c h)
