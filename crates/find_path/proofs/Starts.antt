-- The whole search, step by step, and the runs of an item's search.
use mathlib.Core.Path.{◌≡◌, sym, ◌∙◌, ap, ap₂}
use Prim.Native.Nat.{ℕ, zero, suc, ◌+◌, ◌<◌, ◌^◌}
use native.Mathlib.Omega.{arith}
use mathlib.Core.List.{List, [], ◌∷◌}
use mathlib.Core.Bool.{Bool, true, false, ◌&&◌}
use Rattle.std.specs.Prelude.{None, Some}
use lib.Dec.{eqb}
use borrow.Author.Tests.{eqb-true}
use Rattle.snapshot.specs.Limits.{word_limit}
use Rattle.snapshot.specs.Records.{Snapshot, Definition, definition_at}
use Rattle.snapshot.specs.Layouts.{snap_of}
use Rattle.snapshot.specs.declared.layout.Layout.{Layout}
use Rattle.accept.specs.Post.{Reads}
use Rattle.accept.proofs.Bools.{and_right}
use Rattle.hir_def.specs.Items.{definition_of, item_of, home_of}
use Rattle.hir_def.specs.Entries.{Known, ReadsAs}
use Rattle.hir_def.specs.declared.Item.{Item}
use Rattle.hir_def.specs.declared.Item.TheVariants.{Mod, Def}
use Rattle.hir_def.proofs.Fits.{definition_fits, home_fits}
use Rattle.find_path_choice.specs.declared.Choice.{Choice as Path}
use Rattle.find_path_choice.specs.Given.{chosen, given}
use Rattle.find_path_spec.specs.declared.Tank.{Tank}
use Rattle.find_path_spec.specs.declared.Found.{Found as CodeFound}
use Rattle.find_path_spec.specs.declared.FindPathCtx.{FindPathCtx}
use Rattle.find_path_spec.specs.declared.Query.{Query}
use Rattle.find_path_choice.specs.Choices.{Choice, via_builtin, via_variant, step_by, nothing, choice_new, push}
use Rattle.find_path_spec.specs.Rules.{context_of, first_found, scope_rule, prelude_rule}
use Rattle.find_path_spec.specs.Meters.{from_tank, filled}
use Rattle.find_path_spec.specs.Charged.{Out, Found, found_of, given_found, variant_of, push_variant}
use Rattle.find_path_spec.specs.Search.{builtin_choice, from_home, from_item, find_path}
use Rattle.find_path_spec.specs.Report.{searched}
use Rattle.find_path_spec.specs.Conditions.{Prepared, Searched}
use Rattle.find_path_spec.proofs.laws.Tanks.{item_sum}
use Rattle.find_path_spec.proofs.laws.Tables.{names_short, same_snap}
use Rattle.find_path.specs.charged_search.Parts.{best_path, Begun}
use Rattle.find_path.specs.search_parts.Parts.{straight}
use Rattle.find_path.specs.Parts.{items, names}
use Rattle.find_path.proofs.charged_search.Parts.{found}
use Rattle.find_path.proofs.charged_search.Holding.{Offered}
use Rattle.find_path.proofs.charged_search.Runs.{later}
use Rattle.find_path.proofs.Items.{plain_fits, enum_found, enum_none}

pub begun : {W A : List ℕ} {l : Layout} {x : FindPathCtx} → Prepared W A l x → Begun W A l x x.max_len
begun p = record { ready = p; some = p.some; limit = p.limit }

pub straight_known : (l : Layout) (b : Bool) (item : Item) {m : ℕ} → straight b item ≡ suc m → Known l item → m < l.modules
unfolding straight
straight_known l true item {m} e h = let z : 0 ≡ suc m = e in absurd (omega (arith, z))
straight_known l false (Mod n) {m} e h = let z : n.0 + 1 ≡ suc m = e in omega (arith, z, h)
straight_known l false (Def n d) {m} e h = let z : 0 ≡ suc m = e in absurd (omega (arith, z))

-- the path of an enum can be offered with a name
pub enum_offered : (W A : List ℕ) (l : Layout) (x : FindPathCtx) (i : Item) (t : Tank) (r : Found) → Prepared W A l x
    → variant_of (snap_of W A l) i ≡ None → r ≡ found_of (items (snap_of W A l) x i t) → Offered r.choice
enum_offered W A l x i t r a h e =
    let q = plain_fits (snap_of W A l) x i t h a.some in
    let f = q.few in
    let u = q.text (names_short W A l a.reads) in
    let p = ap (λ (y : Found). y.choice.count) e in
    let w = ap (λ (y : Found). y.choice.path_text_len) e in
    let z = ap (λ (y : Found). y.choice.steps) e in
    record {
      few = omega (arith, a.limit, f, p);
      text = omega (arith, a.limit, f, p, u, w);
      steps = omega (arith, a.limit, z, q.once, f);
    }

pub tank_stays : (s : Snapshot) (x : FindPathCtx) (i : Item) (t : Tank) (r : Found) → r ≡ found_of (items s x i t) → t.fuel + t.spent < 2 ^ 32
    → r.meter.fuel + r.meter.spent < 2 ^ 32
tank_stays s x i t r e h =
    let k = item_sum s x i t in
    let p = ap (λ (y : Found). y.meter.fuel + y.meter.spent) e in
    omega (arith, k, p, h)

-- a variant by its enum, and else by itself
module _ {W A₀ B : List ℕ} {l : Layout} {x : FindPathCtx} (p : Prepared W A₀ l x) (item : Item) (t : Tank) {c : Choice}
    (e : c ≡ first_found (scope_rule (snap_of W A₀ l) x item ∷ prelude_rule (snap_of W A₀ l) x item ∷ [])) (f : c.found ≡ false)
    (v : Definition) (h : Some v ≡ variant_of (snap_of W A₀ l) item) {i : Item} (g : i ≡ item_of (snap_of W A₀ l) 0 v.first) {o : CodeFound}
    (d : Searched A₀ (items (snap_of W A₀ l) x i t) B o) where
  parent_same : given_found o ≡ found_of (items (snap_of W A₀ l) x (item_of (snap_of W A₀ l) 0 v.first) t)
  parent_same = d.same ∙ ap (λ (y : Item). found_of (items (snap_of W A₀ l) x y t)) g

  pub enum_run : {n : ℕ} {b r : Path} → o.choice ≡ Some b → n ≡ v.second
      → chosen r ≡ push (snap_of W B l) (chosen b) n (step_by via_variant v.place)
      → Searched A₀ (names (snap_of W A₀ l) x item t) B (record { choice = Some r; meter = o.meter })
  unfolding push_variant
  enum_run {n} {b} k m q =
      let g : given o.choice ≡ chosen b = ap given k in
      record {
        same =
            ap (λ (y : Choice). found y o.meter)
            (q ∙ ap (λ (s : Snapshot). push s (chosen b) n (step_by via_variant v.place)) (same_snap W A₀ B l d.tables p.reads)
            ∙ ap (λ (n : ℕ). push (snap_of W A₀ l) (chosen b) n (step_by via_variant v.place)) m
            ∙ ap (λ (y : Choice). push (snap_of W A₀ l) y v.second (step_by via_variant v.place)) (sym g))
            ∙ enum_found (snap_of W A₀ l) x item t e v f h parent_same (ap (λ (y : Choice). y.found) g);
        tables = d.tables;
      }

  pub else_run : {D : List ℕ} {r : CodeFound} → o.choice ≡ None → Searched B (best_path (snap_of W B l) x x.max_len item o.meter) D r
      → Searched A₀ (names (snap_of W A₀ l) x item t) D r
  else_run k q =
      let y = later W A₀ B l x p d.tables (λ (s : Snapshot). best_path s x x.max_len item o.meter) q in
      record {
        same = y.same ∙ ap found_of (enum_none (snap_of W A₀ l) x item t e v f h parent_same (ap (λ z. (given z).found) k));
        tables = y.tables;
      }

-- the whole search
abbrev pub full : ℕ → Tank
full fuel = record { fuel = fuel; spent = 0; empty = false; left = 0; sought = 0 }

module _ (s : Snapshot) (q : Query) (fuel : ℕ) where
  abbrev from : Bool → Out Tank
  from = from_item Tank from_tank s q (full fuel)

  -- the test for a builtin
  abbrev builtin : ℕ → Bool
  builtin k = eqb q.ns 0 && eqb k 3

  by_builtin : (b : Bool) {k : ℕ} → k ≡ (definition_of s q.definition.0).kind → builtin k ≡ b → from b ≡ searched s q fuel
  unfolding searched find_path filled
  by_builtin b e h = ap from (sym h ∙ ap builtin e)

  pub start_builtin : {k : ℕ} {c : Choice} → k ≡ (definition_of s q.definition.0).kind → builtin k ≡ true
      → c ≡ builtin_choice s (definition_of s q.definition.0) → found c (full fuel) ≡ found_of (searched s q fuel)
  unfolding from_item
  start_builtin e h g = ap (λ (y : Choice). found y (full fuel)) g ∙ ap found_of (by_builtin true e h)

  by_home : {k : ℕ} (item : Item) (h : ℕ) → k ≡ (definition_of s q.definition.0).kind
      → builtin k ≡ false → item ≡ item_of s q.ns q.definition.0
      → h ≡ home_of s item → from_home Tank from_tank s q item (full fuel) h ≡ searched s q fuel
  unfolding from_item
  by_home item h e f g k =
      ap (from_home Tank from_tank s q item (full fuel)) k
      ∙ ap (λ (y : Item). from_home Tank from_tank s q y (full fuel) (home_of s y)) g
      ∙ by_builtin false e f

  pub start_none : {k : ℕ} (item : Item) (h : ℕ) → k ≡ (definition_of s q.definition.0).kind → builtin k ≡ false
      → item ≡ item_of s q.ns q.definition.0 → h ≡ home_of s item → h ≡ 0 → found nothing (full fuel) ≡ found_of (searched s q fuel)
  unfolding from_home
  start_none item zero e f g k z = ap found_of (by_home item zero e f g k)
  start_none item (suc m) e f g k z = absurd (omega arith)

  pub start_item : {k : ℕ} {x : FindPathCtx} (item : Item) (h : ℕ) → k ≡ (definition_of s q.definition.0).kind → builtin k ≡ false
      → item ≡ item_of s q.ns q.definition.0 → h ≡ home_of s item → {m : ℕ} → h ≡ suc m → x ≡ context_of s q m
      → items s x item (full fuel) ≡ searched s q fuel
  unfolding from_home
  start_item item zero e f g k z n = absurd (omega (arith, z))
  start_item item (suc m) e f g k {m = p} z n =
      let u : p ≡ m = omega (arith, z) in
      ap (λ (y : FindPathCtx). items s y item (full fuel)) (n ∙ ap (context_of s q) u) ∙ by_home item (suc m) e f g k

-- a builtin by its test
pub builtin_kind_lem : (s : Snapshot) (ns d : ℕ) {k : ℕ} → k ≡ (definition_of s d).kind → (eqb ns 0 && eqb k 3) ≡ true → (definition_of s d).kind ≡ 3
builtin_kind_lem s ns d {k} e f = sym e ∙ eqb-true k 3 (and_right (eqb ns 0) (eqb k 3) f)

-- a builtin's definition as it is read, its name and its place; the home of an item that has one
module _ (W A : List ℕ) (l : Layout) (r : Reads W A l) where
  module _ (d : ℕ) (i : d < l.definitions) (k : (definition_of (snap_of W A l) d).kind ≡ 3) {h : ℕ}
      (e : ReadsAs W h (definition_of (snap_of W A l) d)) where
    builtin_read : definition_at W h ≡ definition_of (snap_of W A l) d
    builtin_read = e.whole (omega (arith, k))

    pub builtin_at : h < word_limit
    builtin_at = let p = ap (λ (y : Definition). y.place) builtin_read in omega (arith, p, (definition_fits W A l r d i).place)

    pub builtin_name : {n : ℕ} → n ≡ (definition_at W h).first → n < l.names
    builtin_name g = omega (arith, g, e.first, (definition_fits W A l r d i).builtin k)

    pub builtin_same : {n t : ℕ} {c : Choice} → n ≡ (definition_at W h).first → t ≡ step_by via_builtin h → c ≡ choice_new (snap_of W A l) 0 n t
        → c ≡ builtin_choice (snap_of W A l) (definition_of (snap_of W A l) d)
    unfolding builtin_choice
    builtin_same g u q = q ∙ ap₂ (choice_new (snap_of W A l) 0) g u ∙ ap (builtin_choice (snap_of W A l)) builtin_read

  pub home_there : (item : Item) {h m : ℕ} → Known l item → h ≡ home_of (snap_of W A l) item → h ≡ suc m → m < l.modules
  home_there item {m = m} k e z = home_fits W A l r item m k (sym e ∙ z)

pub context_from : (s : Snapshot) (q : Query) (h : ℕ) {x : FindPathCtx} → x ≡ context_of s q h → x.from.0 ≡ q.from.0
unfolding context_of
context_from s q h e = ap (λ (y : FindPathCtx). y.from.0) e

pub context_limit : (s : Snapshot) (q : Query) (h : ℕ) {x : FindPathCtx} → x ≡ context_of s q h → x.max_len ≡ q.limit
unfolding context_of
context_limit s q h e = ap (λ (y : FindPathCtx). y.max_len) e
