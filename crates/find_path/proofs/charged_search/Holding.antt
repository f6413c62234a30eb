-- What the search passes on stays in range.
use Rattle.std.specs.Prelude.{Result, Ok}
use mathlib.Core.Path.{◌≡◌, refl, sym, ◌∙◌, ap}
use Prim.Native.Nat.{ℕ, zero, suc, ◌+◌, ◌≤◌, ◌<◌, ◌^◌}
use native.Mathlib.Omega.{arith}
use mathlib.Core.List.{List, [], ◌∷◌}
use mathlib.Core.Bool.{Bool, true, false}
use Rattle.snapshot.specs.Limits.{path_limit}
use Rattle.snapshot.specs.Records.{Snapshot, Dependency, Import}
use Rattle.snapshot.specs.Layouts.{snap_of}
use Rattle.snapshot.specs.declared.layout.Layout.{Layout}
use Rattle.accept.specs.Post.{Reads}
use Rattle.hir_def.specs.Items.{home_of}
use Rattle.hir_def.specs.Nameres.{lang_of}
use Rattle.hir_def.specs.Entries.{Known}
use Rattle.hir_def.proofs.Fits.{home_fits}
use Rattle.hir_def.specs.ImportMap.{import_info_for, is_hidden, is_unstable}
use Rattle.hir_def.specs.declared.Item.{Item}
use Rattle.hir_def.specs.declared.Item.TheVariants.{Mod, Def}
use Rattle.find_path_choice.specs.Choices.{Choice}
use Rattle.find_path_spec.specs.declared.Tank.{Tank}
use Rattle.find_path_spec.specs.declared.FindPathCtx.{FindPathCtx}
use Rattle.find_path_choice.specs.Choices.{nothing, extended, push, unstably, better, try_select, length_left}
use Rattle.find_path_spec.specs.Rules.{module_in}
use Rattle.find_path_spec.specs.Local.{offer}
use Rattle.find_path_spec.specs.Meters.{go, draw, from_tank}
use Rattle.find_path_spec.specs.Conditions.{charged_by}
use Rattle.find_path_spec.specs.Charged.{Out, Found, found_of, one_or_none, offer_import, find_import, find_imports, find_in_dep, find_in_deps}
use Rattle.find_path_spec.proofs.laws.Unfold.{length_falls}
use Rattle.find_path_spec.proofs.laws.Tanks.{module_sum}
use Rattle.find_path_spec.proofs.laws.Bounds.{module_search_fits}
use Rattle.find_path_spec.proofs.laws.Tables.{names_short}
use Rattle.find_path.specs.charged_search.Parts.{modules, one_import, imports, dependencies, in_lang, Held}

abbrev Few : ℕ → Choice → Type 0
Few n c = c.count ≤ n

either_few : (n : ℕ) (b : Bool) (c d : Choice) → Few n c → Few n d → Few n (elim b [ true ↦ c | false ↦ d ])
either_few n true c d f g = f
either_few n false c d f g = g

module _ (s : Snapshot) (x : FindPathCtx) where
  offer_few : (left : ℕ) (best c : Choice) (n via : ℕ) → best.count ≤ left → c.count < left → Few left (offer s x best c n via)
  unfolding offer try_select push extended
  offer_few left best c n via f g =
      either_few left c.found _ _
      (either_few left best.found _ _
      (either_few left (better s x.prefer_prelude best c n) (extended s c n via c.has_prelude_segment) best (omega arith) f) (omega arith))
      f

  import_few : (left : ℕ) (best c : Choice) (i : Import) → best.count ≤ left → c.count < left → Few left (offer_import s x best c i)
  unfolding offer_import unstably
  import_few left best c i f g =
      either_few left (is_unstable i) _ _
      (either_few left x.allow_unstable _ _ (offer_few left best (unstably c) i.name _ f g) f)
      (offer_few left best c i.name _ f g)

  pub held_import : (left : ℕ) (o : Out Tank) (i : Import) (b : Bool) → 0 < left → Held left o
      → Held left (one_import s x left o i b)
  unfolding find_import
  held_import left o i true h f = f
  held_import left o i false h f =
      let n = length_left left o.choice in
      let k = length_falls left o.choice h in
      let q = module_search_fits Tank from_tank s x n i.container o.meter in
      record {
        few = import_few left o.choice _ i f.few (omega (arith, q.few, k));
        tank = omega (arith, f.tank, module_sum s x n i.container o.meter);
      }

  pub held_imports : (left : ℕ) (o : Out Tank) (is : List Import) → 0 < left → Held left o → Held left (imports s x left o is)
  unfolding find_imports
  held_imports left o [] h f = f
  held_imports left o (i ∷ is) h f = held_imports left (one_import s x left o i (is_hidden i)) is h (held_import left o i (is_hidden i) h f)

  pub held_deps : (left : ℕ) (item : Item) (o : Out Tank) (ds : List Dependency) → 0 < left → Held left o
      → Held left (dependencies s x left item o ds)
  unfolding find_in_deps find_in_dep
  held_deps left item o [] h f = f
  held_deps left item o (d ∷ ds) h f =
      held_deps left item (imports s x left o (import_info_for s d.crate item)) ds h (held_imports left o (import_info_for s d.crate item) h f)

  pub held_lang : (left : ℕ) (item : Item) (o : Out Tank) (n : ℕ) (b : Bool) → 0 < left → Held left o
      → Held left (in_lang s x left item o n b)
  unfolding in_lang
  held_lang left item o n true h f = f
  held_lang left item o n false h f = held_deps left item o (one_or_none (lang_of s x.from_crate.0 n)) h f

-- the choice of a module search for an import can be offered
pub record Offered (c : Choice) : Type 0 where
  pub few : c.count < 16
  pub text : c.path_text_len < 2 ^ 32
  pub steps : c.steps < 17

pub offered : (W A : List ℕ) (l : Layout) (x : FindPathCtx) (left n m : ℕ) (t : Tank) (r : Found) → Reads W A l → left ≤ path_limit → n < left
    → r ≡ found_of (modules (snap_of W A l) x n m t) → Offered r.choice
offered W A l x left n m t r a h k e =
    let q = module_search_fits Tank from_tank (snap_of W A l) x n m t in
    let f = q.few in
    let u = q.text (names_short W A l a) in
    let p = ap (λ (y : Found). y.choice.count) e in
    let w = ap (λ (y : Found). y.choice.path_text_len) e in
    let z = ap (λ (y : Found). y.choice.steps) e in
    record { few = omega arith; text = omega arith; steps = omega (arith, z, q.once, f, k, h) }

-- a charge keeps what the tank holds and has given, taken together
draw_sum : (left sought : ℕ) (t : Tank) (f : ℕ) (u : Tank) → go u ≡ draw left sought t f → u.fuel + u.spent ≡ f + t.spent
unfolding draw
draw_sum left sought t zero u e = let z : ◌≡◌ {A = ℕ} 0 1 = cc in absurd (omega arith)
draw_sum left sought t (suc f) u e =
    let k : u ≡ record { fuel = f; spent = t.spent + 1; empty = t.empty; left = t.left; sought = t.sought } = cc in
    let p = ap (λ (y : Tank). y.fuel + y.spent) k in
    omega (arith, p)

pub charge_sum : (left sought : ℕ) (t : Tank) {d : Result Tank Tank} {u : Tank} → charged_by d ≡ from_tank left sought t → d ≡ Ok u
    → t.fuel + t.spent < 2 ^ 32 → u.fuel + u.spent < 2 ^ 32
unfolding charged_by from_tank
charge_sum left sought t {d} {u} e h k =
    let q = draw_sum left sought t t.fuel u (sym (ap charged_by h) ∙ e) in
    omega (arith, q, k)

-- a module that is looked for is one of the snapshot
pub module_small : (W A : List ℕ) (l : Layout) (item : Item) → Reads W A l → Known l item → module_in item < 2 ^ 32
unfolding module_in
module_small W A l (Mod m) r k = omega (arith, k, r.tables.limited.modules)
module_small W A l (Def ns d) r k = omega arith

pub held_nothing : (left : ℕ) (t : Tank) → t.fuel + t.spent < 2 ^ 32 → Held left (record { choice = nothing; meter = t })
held_nothing left t h = record { few = omega arith; tank = h }

-- the home of an item, +1
home_by_lem : (n : ℕ) (h : ℕ) → ((m : ℕ) → h ≡ suc m → m < n) → h ≤ n
home_by_lem n zero f = omega arith
home_by_lem n (suc m) f = let q = f m refl in omega arith

pub home_below : (W A : List ℕ) (l : Layout) (item : Item) {h : ℕ} → Reads W A l → Known l item → h ≡ home_of (snap_of W A l) item → h ≤ l.modules
home_below W A l item {h} r k e = home_by_lem l.modules h (λ m q. home_fits W A l r item m k (sym e ∙ q))
