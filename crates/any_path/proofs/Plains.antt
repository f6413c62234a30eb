-- What a name alone means, and the names alone offered one after the other.
use Prim.Native.Nat.{ℕ, suc, ◌+◌, ◌-◌, ◌*◌, ◌≤◌, ◌<◌}
use mathlib.Core.Path.{◌≡◌, refl, sym, ap, ap₂, subst, ◌∙◌}
use mathlib.Core.List.{List, [], ◌∷◌, ◌++◌, map}
use mathlib.Core.Bool.{Bool, true, false, ◌&&◌}
use Rattle.std.specs.Prelude.{Option, None, Some, option_map}
use native.Mathlib.Omega.{arith}
use borrow.Author.Tests.{eq-eqb, ne_eqb}
use lib.Dec.{eqb}
use lib.ListN.{length}
use Rattle.snapshot.specs.Ids.{plus_one}
use Rattle.snapshot.specs.Lists.{rows}
use Rattle.snapshot.specs.Limits.{word_limit}
use Rattle.snapshot.specs.Records.{Snapshot, Scope, Extern, Prelude, scope_at, extern_at}
use Rattle.snapshot.specs.Sizes.{scope_size, extern_size}
use Rattle.snapshot.specs.Layouts.{scope_base, extern_base, snap_of}
use Rattle.snapshot.specs.declared.ids.DefinitionId.{DefinitionId}
use Rattle.snapshot.specs.declared.ids.ModuleId.{ModuleId}
use Rattle.snapshot.specs.declared.ids.Namespace.{Namespace}
use Rattle.snapshot.specs.declared.layout.Layout.{Layout}
use Rattle.snapshot.proofs.Laws.{rows_next, rows_none, rows_whole}
use Rattle.accept.specs.Post.{Reads}
use Rattle.accept.specs.Valid.{Each, Valid}
use Rattle.accept.proofs.Accepted.{by_test}
use Rattle.accept.proofs.Trees.{accepted_tree}
use Rattle.accept.proofs.Valid.{accepted_valid}
use Rattle.module_tree.specs.rules.Modules.{map_no, crate_of}
use Rattle.module_tree.specs.rules.Privately.{block_step}
use Rattle.module_tree.proofs.Laws.{Falls}
use Rattle.module_tree.proofs.Reading.{length_modules}
use Rattle.module_tree.proofs.Laws.{by_option}
use Rattle.hir_def.specs.Finds.{first_of, first_some, or_first, select}
use Rattle.hir_def.specs.Items.{types, module_item}
use Rattle.hir_def.specs.Nameres.{steps_or, steps, prelude_of}
use Rattle.hir_def.specs.declared.Item.{Item}
use Rattle.hir_def.specs.declared.Item.TheVariants.{Mod, Def}
use Rattle.hir_def.proofs.Laws.{steps_more}
use Rattle.hir_def.proofs.Every.{each_append, each_in, each_map_select}
use Rattle.nameable.specs.Paths.{Path, plain, Named, named, is_seen_in, as_named, entries_in, extern_named, externs_in, entries_over, scopes_from}
use Rattle.nameable.specs.Paths.{prelude_entries, firsts, reads, item_in, means, place_in}
use Rattle.nameable.specs.Breadth.{Way, with_meaning, added, single}
use Rattle.nameable.specs.Queue.{seen_named}
use Rattle.nameable.proofs.Plenty.{plenty}
use Rattle.nameable.proofs.Reached.{named_in_lem}
use Rattle.nameable.proofs.Queue.{added_append, first_of_append}
use Rattle.nameable.proofs.Lookups.{named_seen, first_mapped}
use Rattle.read_back.specs.readings.Reads.{extern_named as extern_of_name}
use Rattle.any_path.proofs.seen_entries.Laws.{step_falls}
use Rattle.any_path.specs.Rows.{path_from, run_at, Run, Stays, Grown, Offered, leads_on, name_if}
use Rattle.any_path.specs.Plain.{scopes_named, externs_named, named_in, prelude_named, module_no, module_in, is_module, names_alone}
use Rattle.any_path.proofs.Taken.{unchanged, as_run, grown_then, stays_snap}
use Rattle.any_path.proofs.Alone.{alone_append, alone_single, alone_next, lead_test, extern_test}

named_append : (n : ℕ) (xs ys : List Named) → named n (xs ++ ys) ≡ or_first (named n xs) (named n ys)
unfolding named
named_append n xs ys = first_of_append (λ (x : Named). eqb x.name n) xs ys

pub map_or : {A B : Type 0} (f : A → B) (o p : Option A) → or_first (option_map f o) (option_map f p) ≡ option_map f (or_first o p)
unfolding or_first
map_or f None p = refl
map_or f (Some x) p = refl

pub first_or : {A B : Type 0} (f : A → Option B) (x : A) (xs : List A) → first_some f (x ∷ xs) ≡ or_first (f x) (first_some f xs)
unfolding first_some or_first
first_or f x xs = by_option (f x) (λ e. rw (first_some, e)) (λ y e. rw (first_some, e))

module _ (s : Snapshot) (from ns n : ℕ) where
  over_named : (ms : List ℕ) → named n (entries_over s from ns ms) ≡ option_map (as_named s) (first_some (λ m. seen_named s from ns m n) ms)
  unfolding entries_over named first_of first_some
  over_named [] = refl
  over_named (m ∷ ms) =
      named_append n (entries_in s from ns m) (entries_over s from ns ms)
      ∙ (ap₂ or_first (named_seen s from ns m n) (over_named ms)
      ∙ (map_or (as_named s) (seen_named s from ns m n) (first_some (λ m. seen_named s from ns m n) ms)
      ∙ ap (option_map (as_named s)) (sym (first_or (λ m. seen_named s from ns m n) m ms))))

  pub externs_read : named n (externs_in s from ns) ≡ option_map extern_named (externs_named s from ns n)
  unfolding named externs_in externs_named extern_of_name first_of
  externs_read =
      by_test (eqb ns types)
      (λ t.
      rw (t, externs_in, externs_named)
      (first_mapped (λ (x : Named). eqb x.name n) extern_named (λ (x : Extern). eqb x.owner (crate_of s from)) s.externs))
      (λ t. rw (t, externs_in, externs_named))

  prelude_named_lem : (o : Option Prelude) → named n (prelude_entries s from ns o) ≡ option_map (as_named s) (named_in s from ns n o)
  unfolding prelude_entries named_in named first_of
  prelude_named_lem None = refl
  prelude_named_lem (Some p) = named_seen s from ns p.target n

  three : reads s from ns (plain n)
      ≡ or_first (option_map (as_named s) (scopes_named s from ns n))
      (or_first (option_map extern_named (externs_named s from ns n)) (option_map (as_named s) (prelude_named s from ns n)))
  unfolding reads firsts scopes_named prelude_named
  three =
      let a : List Named = entries_over s from ns (scopes_from s from) in
      let b : List Named = externs_in s from ns in
      let c : List Named = prelude_entries s from ns (prelude_of s (map_no s from)) in
      named_append n a (b ++ c)
      ∙ ap₂ or_first (over_named (scopes_from s from))
      (named_append n b c ∙ ap₂ or_first externs_read (prelude_named_lem (prelude_of s (map_no s from))))

  pub plain_scope : (e : Scope) → scopes_named s from ns n ≡ Some e → Some (as_named s e) ≡ reads s from ns (plain n)
  unfolding or_first
  plain_scope e h = sym (three ∙ rw h)

  module _ (no : scopes_named s from ns n ≡ None) where
    pub plain_extern : (x : Extern) → externs_named s from ns n ≡ Some x → Some (extern_named x) ≡ reads s from ns (plain n)
    unfolding or_first
    plain_extern x h = sym (three ∙ rw (no, h))

    pub plain_prelude : externs_named s from ns n ≡ None → option_map (as_named s) (prelude_named s from ns n) ≡ reads s from ns (plain n)
    unfolding or_first
    plain_prelude h = sym (three ∙ rw (no, h))

  pub externs_types : {c : ℕ} → c ≡ crate_of s from → ns ≡ types → extern_of_name s c n ≡ externs_named s from ns n
  unfolding externs_named
  externs_types k e = ap (λ (c : ℕ). extern_of_name s c n) k ∙ rw (externs_named, eq-eqb ns types e)

  pub externs_others : (ns ≡ types → ⊥) → None ≡ externs_named s from ns n
  unfolding externs_named
  externs_others e = rw (externs_named, ne_eqb ns types e)

  module _ {k : ℕ} (at : k ≡ map_no s from) where
    pub prelude_there : (p : Prelude) {t : ℕ} → prelude_of s k ≡ Some p → t ≡ p.target → seen_named s from ns t n ≡ prelude_named s from ns n
    unfolding prelude_named named_in
    prelude_there p e et =
        ap (λ (m : ℕ). seen_named s from ns m n) et ∙ ap (named_in s from ns n) (sym (ap (prelude_of s) (sym at) ∙ e))

    pub prelude_gone : prelude_of s k ≡ None → None ≡ prelude_named s from ns n
    unfolding prelude_named named_in
    prelude_gone e = ap (named_in s from ns n) (sym (ap (prelude_of s) (sym at) ∙ e))

-- The module of what is read.

pub mod_is : (m : ModuleId) {i j : Item} → i ≡ Mod m → i ≡ j → plus_one (Some m) ≡ module_no j
unfolding plus_one module_no
mod_is m e f = let z : m.0 + 1 ≡ suc m.0 = omega arith in z ∙ ap module_no (sym e ∙ f)

pub def_is : {ns : Namespace} {d : DefinitionId} {i j : Item} → i ≡ Def ns d → i ≡ j → plus_one None ≡ module_no j
unfolding plus_one module_no
def_is e f = ap module_no (sym e ∙ f)

pub mod_no : (m : ModuleId) {t : ℕ} → m.0 ≡ t → plus_one (Some m) ≡ suc t
unfolding plus_one
mod_no m e = omega (arith, e)

-- A name alone is offered.
module _ (s : Snapshot) (from n : ℕ) where
  module_meant : (o : Option Named) (t : ℕ) → module_in o ≡ suc t → item_in o ≡ Some (module_item t)
  unfolding module_in module_no item_in
  module_meant None t e = absurd (omega arith)
  module_meant (Some x) t e = by x.item e
    where
      by : (y : Item) → module_no y ≡ suc t → Some y ≡ Some (module_item t)
      by (Def ns d) h = absurd (omega arith)
      by (Mod m) h = let same : m.0 ≡ t = omega arith in ap (λ (j : ℕ). Some (module_item j)) same

  no_module_lem : (ws : List Way) (p : Path) (o : Option Named) → module_in o ≡ 0 → with_meaning ws p (item_in o) ≡ ws
  unfolding module_in module_no item_in with_meaning
  no_module_lem ws p None e = refl
  no_module_lem ws p (Some x) e = by x.item e
    where
      by : (y : Item) → module_no y ≡ 0 → with_meaning ws p (Some y) ≡ ws
      by (Def ns d) h = refl
      by (Mod m) h = absurd (omega arith)

  pub plain_means : (t : ℕ) → module_in (reads s from types (plain n)) ≡ suc t → means s from types (plain n) ≡ Some (module_item t)
  unfolding means
  plain_means t e = module_meant (reads s from types (plain n)) t e

  pub plain_offered : {modules : ℕ} {A B : List ℕ} {k r t x : ℕ} → module_in (reads s from types (plain n)) ≡ suc t → x ≡ n
      → Offered modules A k t 2 x B r → Grown modules A k B r (added s from (run_at A k) (plain n ∷ []))
  unfolding added path_from
  plain_offered {modules} {A} {B} {k} {r} {t} {x} e ex g =
      subst (Grown modules A k B r)
      (ap (λ (y : ℕ). with_meaning (run_at A k) (plain y) (Some (module_item t))) ex
      ∙ ap (with_meaning (run_at A k) (plain n)) (sym (plain_means t e)))
      g

  pub plain_passed : {modules : ℕ} {A : List ℕ} {k : ℕ} → Run modules A k → module_in (reads s from types (plain n)) ≡ 0
      → Grown modules A k A k (added s from (run_at A k) (plain n ∷ []))
  unfolding added means
  plain_passed {modules} {A} {k} run e =
      subst (Grown modules A k A k) (sym (no_module_lem (run_at A k) (plain n) (reads s from types (plain n)) e)) (unchanged modules A k run)

-- Its module is one of the snapshot's, and its record is among the words.

module _ (s : Snapshot) (ok : Valid s) (from ns : ℕ) where
  abbrev Placed : Named → Type 0
  Placed x = x.place < word_limit

  entries_placed : (m : ℕ) → Each Placed (entries_in s from ns m)
  unfolding entries_in
  entries_placed m = each_map_select (is_seen_in s from ns m) (as_named s) (λ e h t. h.place) ok.ranges.scopes

  over_placed : (ms : List ℕ) → Each Placed (entries_over s from ns ms)
  unfolding entries_over
  over_placed [] = Each.none
  over_placed (m ∷ ms) = each_append (entries_placed m) (over_placed ms)

  externs_placed : Each Placed (externs_in s from ns)
  unfolding externs_in
  externs_placed =
      by_test (eqb ns types)
      (λ t. rw (t, externs_in) (each_map_select (λ (x : Extern). eqb x.owner (crate_of s from)) extern_named (λ x h t. h.place) ok.ranges.externs))
      (λ t. rw (t, externs_in) Each.none)

  prelude_placed : (o : Option Prelude) → Each Placed (prelude_entries s from ns o)
  unfolding prelude_entries
  prelude_placed None = Each.none
  prelude_placed (Some p) = entries_placed p.target

  firsts_placed : Each Placed (firsts s from ns)
  unfolding firsts
  firsts_placed = each_append (over_placed (scopes_from s from)) (each_append externs_placed (prelude_placed (prelude_of s (map_no s from))))

  plain_placed : (n : ℕ) → place_in (reads s from ns (plain n)) < word_limit
  unfolding reads place_in
  plain_placed n =
      by_option (named n (firsts s from ns))
      (λ e. rw e (omega arith))
      (λ x e. rw e (each_in firsts_placed (named_in_lem n (firsts s from ns) x e).0))

module _ (W A : List ℕ) (l : Layout) (r : Reads W A l) (from n : ℕ) where
  pub plain_known : from < l.modules → {t : ℕ} → module_in (reads (snap_of W A l) from types (plain n)) ≡ suc t → t < l.modules
  plain_known h {t} e =
      let z = length_modules W A l in
      let ok = accepted_valid W (snap_of W A l) r.same in
      let k = (plenty (snap_of W A l) ok from (omega (arith, z, h))).known (plain n) t (plain_means (snap_of W A l) from n t e) in
      omega (arith, z, k)

  pub plain_place : {h : ℕ} {o : Option Named} → o ≡ reads (snap_of W A l) from types (plain n) → h ≡ place_in o → h < word_limit
  plain_place e f =
      let k = plain_placed (snap_of W A l) (accepted_valid W (snap_of W A l) r.same) from types n in
      let z = f ∙ ap place_in e in
      omega (arith, z, k)

-- a name alone, where the test says so
module _ (s : Snapshot) (from : ℕ) {modules : ℕ} {A : List ℕ} {k : ℕ} {b : Bool} (n : ℕ) where
  pub name_tried : {B : List ℕ} {r x : ℕ} → b ≡ true → x ≡ n → Grown modules A k B r (added s from (run_at A k) (plain x ∷ []))
      → Grown modules A k B r (name_if s from (run_at A k) b n)
  unfolding name_if
  name_tried {B} {r} t ex g = rw (t, name_if) (subst (λ (y : ℕ). Grown modules A k B r (added s from (run_at A k) (plain y ∷ []))) ex g)

  pub name_passed : b ≡ false → Run modules A k → Grown modules A k A k (name_if s from (run_at A k) b n)
  unfolding name_if
  name_passed t run = rw (t, name_if) (unchanged modules A k run)

-- Records from number k on are left, with c rows in the area B.
pub record Trying {R : Type 0} (f : R → Named) (q : R → Bool) (each : ℕ → R) (all modules : ℕ) (s : Snapshot) (from : ℕ)
    (A : List ℕ) (n : ℕ) (B : List ℕ) (c k : ℕ) : Type 0 where
  pub grown : Grown modules A n B c (run_at B c)
  pub rest : added s from (run_at A n) (names_alone (map f (select q (rows each 0 all))))
      ≡ added s from (run_at B c) (names_alone (map f (select q (rows each k (all - k)))))

module _ {R : Type 0} (f : R → Named) (q : R → Bool) (each : ℕ → R) (all modules : ℕ) (s : Snapshot) (from : ℕ) (A : List ℕ) (n : ℕ) where
  abbrev names : List R → List Path
  names xs = names_alone (map f (select q xs))

  pub trying_start : Run modules A n → Trying f q each all modules s from A n A n 0
  trying_start run =
      record { grown = unchanged modules A n run; rest = rows_whole (λ (xs : List R). added s from (run_at A n) (names xs)) each all }

  module _ {B : List ℕ} {c k : ℕ} (inv : Trying f q each all modules s from A n B c k) where
    pub trying_next : {C : List ℕ} {p x : ℕ} {b : Bool} {u : Snapshot} → k < all → u ≡ s → b ≡ (q (each k) && is_module (f (each k)).item)
        → x ≡ (f (each k)).name
        → Grown modules B c C p (name_if u from (run_at B c) b x) → Trying f q each all modules s from A n C p (k + 1)
    trying_next {C} {p} {x} {b} {u} less eu eb ex g =
        let left : List R = rows each (k + 1) (all - (k + 1)) in
        let one : name_if s from (run_at B c) b x ≡ run_at C p = ap (λ (v : Snapshot). name_if v from (run_at B c) b x) (sym eu) ∙ sym g.same in
        record {
          grown = grown_then inv.grown (as_run g);
          rest = inv.rest
              ∙ (ap (λ (xs : List R). added s from (run_at B c) (names xs)) (rows_next each k all less)
              ∙ (alone_next s from f q (run_at B c) (each k) left eb ex ∙ ap (λ (ws : List Way). added s from ws (names left)) one));
        }

    pub trying_done : all ≤ k → Grown modules A n B c (added s from (run_at A n) (names_alone (map f (select q (rows each 0 all)))))
    unfolding added names_alone select
    trying_done end =
        subst (Grown modules A n B c)
        (sym (inv.rest ∙ ap (λ (xs : List R). added s from (run_at B c) (names xs)) (rows_none each k all end)))
        inv.grown

-- the record of a number, where the loop has its head
module _ (W : List ℕ) (l : Layout) (k : ℕ) {b h : ℕ} where
  module _ (eb : b ≡ scope_base l) (eh : h ≡ b + scope_size * k) where
    scope_here : scope_at W h ≡ scope_at W (scope_base l + scope_size * k)
    scope_here = ap (scope_at W) (eh ∙ ap (λ (z : ℕ). z + scope_size * k) eb)

    pub lead_here : (u s : Snapshot) (from m : ℕ) → u ≡ s
        → leads_on u from m (scope_at W h)
        ≡ (is_seen_in s from types m (scope_at W (scope_base l + scope_size * k))
        && is_module (as_named s (scope_at W (scope_base l + scope_size * k))).item)
    lead_here u s from m e =
        ap₂ (λ (v : Snapshot) (x : Scope). leads_on v from m x) e scope_here ∙ lead_test s from m (scope_at W (scope_base l + scope_size * k))

    pub name_here : (scope_at W h).name ≡ (scope_at W (scope_base l + scope_size * k)).name
    name_here = ap (λ (x : Scope). x.name) scope_here

  module _ (eb : b ≡ extern_base l) (eh : h ≡ b + extern_size * k) where
    extern_there : extern_at W h ≡ extern_at W (extern_base l + extern_size * k)
    extern_there = ap (extern_at W) (eh ∙ ap (λ (z : ℕ). z + extern_size * k) eb)

    pub owned_here : {c d : ℕ} → c ≡ d
        → eqb (extern_at W h).owner c
        ≡ (eqb (extern_at W (extern_base l + extern_size * k)).owner d
        && is_module (extern_named (extern_at W (extern_base l + extern_size * k))).item)
    owned_here {c} {d} e =
        ap₂ (λ (x : Extern) (z : ℕ). eqb x.owner z) extern_there e
        ∙ extern_test (extern_at W (extern_base l + extern_size * k)) (eqb (extern_at W (extern_base l + extern_size * k)).owner d)

    pub extern_here : (extern_at W h).name ≡ (extern_at W (extern_base l + extern_size * k)).name
    extern_here = ap (λ (x : Extern). x.name) extern_there

-- The scopes from the module m on are left, with c rows in the area B.
pub record Around (W A : List ℕ) (l : Layout) (from n : ℕ) (B : List ℕ) (c m : ℕ) : Type 0 where
  pub grown : Grown l.modules A n B c (run_at B c)
  pub known : m < l.modules
  pub rest : added (snap_of W A l) from (run_at A n) (names_alone (entries_over (snap_of W A l) from types (scopes_from (snap_of W A l) from)))
      ≡ added (snap_of W A l) from (run_at B c) (names_alone (entries_over (snap_of W A l) from types (scopes_from (snap_of W A l) m)))

module _ (W A : List ℕ) (l : Layout) (r : Reads W A l) (from n : ℕ) where
  abbrev s : Snapshot
  s = snap_of W A l

  abbrev over : List ℕ → List Path
  over ms = names_alone (entries_over s from types ms)

  falls : Falls (block_step s) (length s.modules)
  falls = step_falls s (accepted_tree W s r.same)

  pub around_start : from < l.modules → Run l.modules A n → Around W A l from n A n from
  around_start known run = record { grown = unchanged l.modules A n run; known = known; rest = refl }

  module _ {B C : List ℕ} {c p m : ℕ} (inv : Around W A l from n B c m)
      (g : Grown l.modules B c C p (added (snap_of W B l) from (run_at B c) (names_alone (entries_in (snap_of W B l) from types m)))) where
    pub around_stays : Stays A C
    around_stays = (grown_then inv.grown (as_run g)).stays

    same_snap : snap_of W C l ≡ s
    same_snap = stays_snap W A C l r around_stays

    inside : m < length s.modules
    inside = let e = length_modules W A l in omega (arith, e, inv.known)

    -- this scope, and then the others
    one : (ms : List ℕ) → added s from (run_at B c) (over (m ∷ ms)) ≡ added s from (run_at C p) (over ms)
    unfolding entries_over
    one ms =
        ap (added s from (run_at B c)) (alone_append (entries_in s from types m) (entries_over s from types ms))
        ∙ (added_append s from (run_at B c) (names_alone (entries_in s from types m)) (over ms)
        ∙ ap (λ (ws : List Way). added s from ws (over ms))
        (ap (λ (u : Snapshot). added u from (run_at B c) (names_alone (entries_in u from types m))) (sym (stays_snap W A B l r inv.grown.stays))
        ∙ sym g.same))

    module _ {b : ℕ} (e : block_step (snap_of W C l) m ≡ suc b) where
      its_block : block_step s m ≡ suc b
      its_block = ap (λ (u : Snapshot). block_step u m) (sym same_snap) ∙ e

      pub around_less : b < m
      around_less = falls m b inside its_block

      pub around_next : Around W A l from n C p b
      unfolding scopes_from steps_or
      around_next =
          let on : steps (block_step s) m ≡ b ∷ steps (block_step s) b =
          steps_more (block_step s) (length s.modules) falls m inside ∙ ap (steps_or (steps (block_step s))) its_block in
          record {
            grown = grown_then inv.grown (as_run g);
            known = omega (arith, inv.known, around_less);
            rest = inv.rest ∙ (ap (λ (ms : List ℕ). added s from (run_at B c) (over (m ∷ ms))) on ∙ one (b ∷ steps (block_step s) b));
          }

    pub around_done : block_step (snap_of W C l) m ≡ 0
        → Grown l.modules A n C p
        (added (snap_of W A l) from (run_at A n) (names_alone (entries_over (snap_of W A l) from types (scopes_from (snap_of W A l) from))))
    unfolding scopes_from steps_or entries_over names_alone select added
    around_done e =
        let end : steps (block_step s) m ≡ [] =
        steps_more (block_step s) (length s.modules) falls m inside
        ∙ ap (steps_or (steps (block_step s))) (ap (λ (u : Snapshot). block_step u m) (sym same_snap) ∙ e) in
        subst (Grown l.modules A n C p)
        (sym (inv.rest ∙ (ap (λ (ms : List ℕ). added s from (run_at B c) (over (m ∷ ms))) end ∙ one [])))
        (as_run (grown_then inv.grown g))

  pub prelude_passed : Run l.modules A n → prelude_of (snap_of W A l) (map_no (snap_of W A l) from) ≡ None
      → Grown l.modules A n A n
      (added (snap_of W A l) from (run_at A n)
      (names_alone (prelude_entries (snap_of W A l) from types (prelude_of (snap_of W A l) (map_no (snap_of W A l) from)))))
  unfolding prelude_entries names_alone select added
  prelude_passed run e =
      subst (λ (o : Option Prelude). Grown l.modules A n A n (added s from (run_at A n) (names_alone (prelude_entries s from types o)))) (sym e)
      (unchanged l.modules A n run)

  pub prelude_offered : {B : List ℕ} {c t : ℕ} (p : Prelude) → prelude_of (snap_of W A l) (map_no (snap_of W A l) from) ≡ Some p → t ≡ p.target
      → Grown l.modules A n B c (added (snap_of W A l) from (run_at A n) (names_alone (entries_in (snap_of W A l) from types t)))
      → Grown l.modules A n B c
      (added (snap_of W A l) from (run_at A n)
      (names_alone (prelude_entries (snap_of W A l) from types (prelude_of (snap_of W A l) (map_no (snap_of W A l) from)))))
  unfolding prelude_entries
  prelude_offered {B} {c} p e et g =
      subst (λ (o : Option Prelude). Grown l.modules A n B c (added s from (run_at A n) (names_alone (prelude_entries s from types o)))) (sym e)
      (subst (λ (m : ℕ). Grown l.modules A n B c (added s from (run_at A n) (names_alone (entries_in s from types m)))) et g)

  -- the three of them
  pub plains_done : {B C D : List ℕ} {c p q : ℕ}
      → Grown l.modules A n B c
      (added (snap_of W A l) from (run_at A n) (names_alone (entries_over (snap_of W A l) from types (scopes_from (snap_of W A l) from))))
      → Grown l.modules B c C p (added (snap_of W B l) from (run_at B c) (names_alone (externs_in (snap_of W B l) from types)))
      → Grown l.modules C p D q
      (added (snap_of W C l) from (run_at C p)
      (names_alone (prelude_entries (snap_of W C l) from types (prelude_of (snap_of W C l) (map_no (snap_of W C l) from)))))
      → Grown l.modules A n D q (added (snap_of W A l) from (run_at A n) (single true (snap_of W A l) from types))
  unfolding firsts
  plains_done {B} {C} {D} {c} {p} {q} f g h =
      let two = grown_then f g in
      let x : List Path = over (scopes_from s from) in
      let y : List Path = names_alone (externs_in s from types) in
      let z : Snapshot → List Path = λ (u : Snapshot). names_alone (prelude_entries u from types (prelude_of u (map_no u from))) in
      let split : names_alone (firsts s from types) ≡ x ++ (y ++ z s) =
      alone_append (entries_over s from types (scopes_from s from))
      (externs_in s from types ++ prelude_entries s from types (prelude_of s (map_no s from)))
      ∙ ap (λ (ps : List Path). x ++ ps) (alone_append (externs_in s from types) (prelude_entries s from types (prelude_of s (map_no s from)))) in
      let gs : run_at C p ≡ added s from (run_at B c) y =
      g.same ∙ ap (λ (u : Snapshot). added u from (run_at B c) (names_alone (externs_in u from types))) (stays_snap W A B l r f.stays) in
      let whole : added s from (run_at A n) (single true s from types) ≡ added (snap_of W C l) from (run_at C p) (z (snap_of W C l)) =
      alone_single s from (run_at A n)
      ∙ (ap (added s from (run_at A n)) split
      ∙ (added_append s from (run_at A n) x (y ++ z s)
      ∙ (ap (λ (ws : List Way). added s from ws (y ++ z s)) (sym f.same)
      ∙ (added_append s from (run_at B c) y (z s)
      ∙ (ap (λ (ws : List Way). added s from ws (z s)) (sym gs)
      ∙ ap (λ (u : Snapshot). added u from (run_at C p) (z u)) (sym (stays_snap W A C l r two.stays))))))) in
      subst (Grown l.modules A n D q) (sym whole) (grown_then two h)
