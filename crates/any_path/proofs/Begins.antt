-- The modules that paths without names mean.
use Prim.Native.Nat.{ℕ, zero, suc, ◌+◌, ◌-◌, ◌≤◌, ◌<◌}
use mathlib.Core.Path.{◌≡◌, refl, sym, ap, ap₂, subst, ◌∙◌}
use mathlib.Core.List.{List, ◌∷◌, map}
use mathlib.Core.Bool.{false}
use Rattle.std.specs.Prelude.{Option, None, Some}
use native.Mathlib.Omega.{arith}
use lib.ListN.{length}
use Rattle.snapshot.specs.Lists.{rows}
use Rattle.snapshot.specs.Limits.{module_limit}
use Rattle.snapshot.specs.Records.{Snapshot}
use Rattle.snapshot.specs.Layouts.{snap_of}
use Rattle.snapshot.specs.declared.layout.Layout.{Layout}
use Rattle.accept.specs.Post.{Reads}
use Rattle.accept.specs.Valid.{Valid}
use Rattle.accept.proofs.Valid.{accepted_valid}
use Rattle.module_tree.specs.rules.Modules.{parent_of, crate_root}
use Rattle.module_tree.specs.rules.Privately.{module_around}
use Rattle.module_tree.proofs.Laws.{by_number}
use Rattle.module_tree.proofs.Chains.{parent_fits}
use Rattle.module_tree.proofs.Roots.{crate_root_known}
use Rattle.module_tree.proofs.Reading.{length_modules}
use Rattle.hir_def.specs.Items.{types, module_item}
use Rattle.hir_def.specs.declared.Item.{Item}
use Rattle.nameable.specs.Paths.{Keyword, supers, crate, Path, keyword, above_or, above, keyword_module, module_named, reads, item_in, means}
use Rattle.nameable.specs.Breadth.{Way, with_meaning, added, nameless}
use Rattle.nameable.specs.Queue.{begun}
use Rattle.nameable.proofs.Lists.{none_some}
use Rattle.nameable.proofs.Plenty.{around_few, above_few}
use Rattle.any_path.specs.Rows.{row_at, path_from, keyword_from, path_at, run_at, Run, Grown, Offered}
use Rattle.any_path.proofs.Taken.{unchanged, as_run, grown_then, stays_snap}

-- no row is there yet
pub run_empty : (modules : ℕ) (A : List ℕ) → row_at module_limit ≤ length A → Run modules A 0
run_empty modules A h = record { space = h; linked = λ i l. absurd (omega arith); few = omega arith }

-- a path that means a module was offered, the others are left
pub added_offered : (s : Snapshot) (from : ℕ) {modules : ℕ} {A B : List ℕ} {n r : ℕ} (p : Path) (t : ℕ) (ps : List Path)
    → means s from types p ≡ Some (module_item t) → Grown modules A n B r (with_meaning (run_at A n) p (Some (module_item t)))
    → added s from (run_at A n) (p ∷ ps) ≡ added s from (run_at B r) ps
unfolding added
added_offered s from {A = A} {n = n} p t ps e g =
    ap (λ (o : Option Item). added s from (with_meaning (run_at A n) p o) ps) e ∙ ap (λ (ws : List Way). added s from ws ps) (sym g.same)

module _ (s : Snapshot) (from : ℕ) where
  -- a keyword means its module
  pub keyword_means : (k : Keyword) (m : ℕ) → keyword_module s from k ≡ Some m → means s from types (keyword k) ≡ Some (module_item m)
  unfolding means reads module_named item_in
  keyword_means k m e = rw e

  keyword_nothing : (k : Keyword) → keyword_module s from k ≡ None → means s from types (keyword k) ≡ None
  unfolding means reads module_named item_in
  keyword_nothing k e = rw e

  -- keywords without meaning add nothing
  supers_nothing : (ws : List Way) (k n : ℕ) → ((i : ℕ) → k ≤ i → keyword_module s from (supers i) ≡ None)
      → added s from ws (map keyword (rows supers k n)) ≡ ws
  unfolding rows added with_meaning
  supers_nothing ws k zero h = refl
  supers_nothing ws k (suc n) h =
      ap (λ (o : Option Item). added s from (with_meaning ws (keyword (supers k)) o) (map keyword (rows supers (k + 1) n)))
      (keyword_nothing (supers k) (h k (omega arith)))
      ∙ supers_nothing ws (k + 1) n (λ i q. h i (omega arith))

-- `super` so many times, and then more
above_on : (s : Snapshot) (k a m : ℕ) → above s k a ≡ Some m → (j : ℕ) → above s (k + j) a ≡ above s j m
unfolding above above_or
above_on s zero a m e j = let z : 0 + j ≡ j = omega arith in let same : a ≡ m = cc in ap₂ (above s) z same
above_on s (suc k) a m e j =
    let z : suc k + j ≡ suc (k + j) = omega arith in
    ap (λ (i : ℕ). above s i a) z
    ∙ by_number (parent_of s a) (λ y. absurd (none_some (rw y at e))) (λ p y. rw y (above_on s k (module_around s p) m (rw y at e) j))

module _ (s : Snapshot) (k a m : ℕ) (here : above s k a ≡ Some m) where
  -- one time more
  pub above_next : (p : ℕ) → parent_of s m ≡ suc p → above s (k + 1) a ≡ Some (module_around s p)
  unfolding above above_or
  above_next p e = above_on s k a m here 1 ∙ rw e

  -- no more than that
  pub above_end : parent_of s m ≡ 0 → (i : ℕ) → k + 1 ≤ i → above s i a ≡ None
  unfolding above above_or
  above_end e i h =
      let j : ℕ = i - (k + 1) in
      let z : i ≡ k + suc j = omega arith in
      ap (λ (q : ℕ). above s q a) z ∙ (above_on s k a m here (suc j) ∙ rw e)

-- `super` was tried k times from the module in which the viewer stands, and is at m; c rows are in the area B.
pub record Climbing (W A : List ℕ) (l : Layout) (from n : ℕ) (B : List ℕ) (c m k : ℕ) : Type 0 where
  pub grown : Grown l.modules A n B c (run_at B c)
  pub here : above (snap_of W A l) k (module_around (snap_of W A l) from) ≡ Some m
  pub known : m < l.modules
  pub rest : added (snap_of W A l) from (run_at A n) (map keyword (rows supers 1 (length (snap_of W A l).modules)))
      ≡ added (snap_of W A l) from (run_at B c) (map keyword (rows supers (k + 1) (length (snap_of W A l).modules - k)))

module _ (W A : List ℕ) (l : Layout) (r : Reads W A l) (from n : ℕ) (inside : from < l.modules) where
  abbrev s : Snapshot
  s = snap_of W A l

  abbrev start : ℕ
  start = module_around s from

  abbrev size : ℕ
  size = length s.modules

  valid : Valid s
  valid = accepted_valid W s r.same

  start_few : start < size
  start_few = let e = length_modules W A l in omega (arith, around_few s valid from (omega (arith, e)), e)

  pub climbing_start : Run l.modules A n → {m : ℕ} → m ≡ module_around (snap_of W A l) from → m < l.modules → Climbing W A l from n A n m 0
  unfolding above
  climbing_start run e known =
      let one : 1 ≡ 0 + 1 = omega arith in
      let all : size ≡ size - 0 = omega arith in
      record {
        grown = unchanged l.modules A n run;
        here = ap Some (sym e);
        known = known;
        rest = ap₂ (λ (i j : ℕ). added s from (run_at A n) (map keyword (rows supers i j))) one all;
      }

  module _ {B : List ℕ} {c m k : ℕ} (inv : Climbing W A l from n B c m k) where
    pub climbing_few : k < l.modules
    climbing_few = let e = length_modules W A l in omega (arith, above_few s valid k start m start_few inv.here, start_few, e)

    same_snap : snap_of W B l ≡ s
    same_snap = stays_snap W A B l r inv.grown.stays

    module _ (p : ℕ) (e : parent_of (snap_of W B l) m ≡ suc p) where
      its_parent : parent_of s m ≡ suc p
      its_parent = ap (λ (u : Snapshot). parent_of u m) (sym same_snap) ∙ e

      pub parent_less : p < m
      parent_less = let z = length_modules W A l in (parent_fits s valid.tree m p (omega (arith, z, inv.known)) its_parent).0

      -- the module around it is smaller
      pub climbing_less : module_around (snap_of W B l) p < m
      climbing_less =
          let z = length_modules W A l in
          let same : module_around (snap_of W B l) p ≡ module_around s p = ap (λ (u : Snapshot). module_around u p) same_snap in
          omega (arith, same, around_few s valid p (omega (arith, z, inv.known, parent_less)), parent_less)

      pub climbing_next : {C : List ℕ} {q t : ℕ} → t ≡ module_around (snap_of W B l) p → t < l.modules → Offered l.modules B c t 0 (k + 1 + 1) C q
          → Climbing W A l from n C q t (k + 1)
      unfolding path_from keyword_from rows keyword_module
      climbing_next {C} {q} {t} et known g =
          let above' : above s (k + 1) start ≡ Some t =
          above_next s k start m inv.here p its_parent ∙ ap Some (sym (et ∙ ap (λ (u : Snapshot). module_around u p) same_snap)) in
          let few = above_few s valid (k + 1) start t start_few above' in
          let z : size - k ≡ suc (size - (k + 1)) = omega (arith, few, start_few) in
          let x : k + 1 + 1 ≡ suc (k + 1) = omega arith in
          let path : path_from (path_at B) 0 (k + 1 + 1) ≡ keyword (supers (k + 1)) = ap (λ (j : ℕ). keyword (keyword_from j)) x in
          let offered = subst (λ (v : Path). Grown l.modules B c C q (with_meaning (run_at B c) v (Some (module_item t)))) path g in
          record {
            grown = grown_then inv.grown (as_run g);
            here = above';
            known = known;
            rest = inv.rest
                ∙ (ap (λ (j : ℕ). added s from (run_at B c) (map keyword (rows supers (k + 1) j))) z
                ∙ added_offered s from (keyword (supers (k + 1))) t (map keyword (rows supers (k + 1 + 1) (size - (k + 1))))
                (keyword_means s from (supers (k + 1)) t above') offered);
          }

    pub climbing_done : parent_of (snap_of W B l) m ≡ 0
        → Grown l.modules A n B c (added (snap_of W A l) from (run_at A n) (map keyword (rows supers 1 (length (snap_of W A l).modules))))
    unfolding keyword_module
    climbing_done e =
        let top : parent_of s m ≡ 0 = ap (λ (u : Snapshot). parent_of u m) (sym same_snap) ∙ e in
        subst (Grown l.modules A n B c)
        (sym (inv.rest ∙ supers_nothing s from (run_at B c) (k + 1) (size - k) (above_end s k start m inv.here top)))
        inv.grown

pub root_below : (W A : List ℕ) (l : Layout) → Reads W A l → (from : ℕ) → from < l.modules → crate_root (snap_of W A l) from < l.modules
root_below W A l r from h =
    let e = length_modules W A l in
    omega (arith, e, crate_root_known (snap_of W A l) (accepted_valid W (snap_of W A l) r.same) from (omega (arith, e, h)))

-- `self`, `crate` and each `super` were offered
pub begin_done : (W A : List ℕ) (l : Layout) → Reads W A l → (from : ℕ) {B C D : List ℕ} {n c q : ℕ} (a root : ℕ)
    → a ≡ module_around (snap_of W A l) from → root ≡ crate_root (snap_of W A l) from
    → Offered l.modules A 0 a 0 1 B n → Offered l.modules B n root 0 0 C c
    → Grown l.modules C c D q (added (snap_of W C l) from (run_at C c) (map keyword (rows supers 1 (length (snap_of W C l).modules))))
    → Grown l.modules A 0 D q (begun false (snap_of W A l) from)
unfolding begun nameless run_at rows path_from keyword_from keyword_module above
begin_done W A l r from {B} {C} {D} {n} {c} {q} a root ea er f g h =
    let s : Snapshot = snap_of W A l in
    let two = grown_then (as_run f) (as_run g) in
    let ups : Snapshot → List Path = λ (u : Snapshot). map keyword (rows supers 1 (length u.modules)) in
    let same : added (snap_of W C l) from (run_at C c) (ups (snap_of W C l)) ≡ begun false s from =
    ap (λ (u : Snapshot). added u from (run_at C c) (ups u)) (stays_snap W A C l r two.stays)
    ∙ sym (added_offered s from (keyword (supers 0)) a (keyword crate ∷ ups s) (keyword_means s from (supers 0) a (ap Some (sym ea))) f
    ∙ added_offered s from (keyword crate) root (ups s) (keyword_means s from crate root (ap Some (sym er))) g) in
    subst (Grown l.modules A 0 D q) same (grown_then two h)
