-- Laws of the rules, for the code.
use Prim.Native.Nat.{ℕ, zero, suc}
use mathlib.Core.Path.{◌≡◌, refl, sym, ◌∙◌, ap, ap₂}
use mathlib.Core.List.{List, [], ◌∷◌}
use mathlib.Core.Bool.{Bool, true, false, ◌||◌, not}
use Rattle.std.specs.Prelude.{Option, None, Some, ℕ}
use native.Mathlib.Omega.{arith}
use lib.Dec.{eqb}
use borrow.Author.Tests.{eq-eqb, ne_eqb}
use Rattle.snapshot.specs.Records.{Snapshot, Scope, Prelude, Extern, scope_at}
use Rattle.snapshot.specs.Layouts.{snap_of}
use Rattle.snapshot.specs.declared.layout.Layout.{Layout}
use Rattle.check_records.specs.record_rules.Stands.{counts_in}
use Rattle.accept.specs.Post.{Reads}
use Rattle.accept.specs.Valid.{ScopeFits}
use Rattle.accept.proofs.Valid.{accepted_valid}
use Rattle.accept.proofs.Reading.{ranges_read}
use denote.Enum.Bare.{sameb}
use denote.Enum.Declared.{tag_of}
use Rattle.snapshot.specs.contracts.ids.PathKind.{the_type}
use Rattle.snapshot.specs.declared.ids.PathKind.{PathKind}
use Rattle.snapshot.specs.declared.ids.PathKind.TheVariants.{Plain, SelfModule, Super, Crate, Absolute}
use Rattle.snapshot.specs.PathKinds.{path_kind_number}
use Rattle.hir_def.specs.Finds.{first_some}
use Rattle.hir_def.specs.Items.{map_no, crate_of, in_block, parent_of, root_of, crate_root}
use Rattle.hir_def.specs.ItemScope.{counts, name_of, names_of, is_fresh, preferred}
use Rattle.hir_def.specs.Nameres.{scope_entry, occupied, prelude_of, extern_of}
use Rattle.hir_def.specs.declared.Item.{Item}
use Rattle.hir_def.specs.Entries.{entry_of}
use Rattle.hir_def.proofs.Found.{each_first}
use Rattle.hir_def.proofs.Fresh.{preferred_has}
use Rattle.find_path_choice.specs.Choices.{Choice}
use Rattle.find_path_spec.specs.declared.FindPathCtx.{FindPathCtx}
use Rattle.find_path_choice.specs.Choices.{via_scope, via_extern, step_by, nothing, keyword, choice_new}
use Rattle.find_path_spec.specs.Conditions.{EntryFits}
use Rattle.find_path_spec.specs.Rules.{prefix_path_kind, first_found, single, find_in_scope, may_be_in_scope}
use Rattle.find_path_spec.specs.Rules.{scope_rule, is_usable, prelude_entry, in_prelude, find_in_prelude, extern_kind}
use Rattle.find_path_spec.specs.Rules.{extern_name, root_rule, parent_kind, is_kw_kind_relative_to_from, keyword_of}
use Rattle.find_path_choice.proofs.ChoiceLaws.{taken_true, taken_false}

-- the code's number of a path kind, and its test for `crate`
pub kind_number : (k : PathKind) → tag_of the_type k ≡ path_kind_number k
kind_number Plain = refl
kind_number SelfModule = refl
kind_number Super = refl
kind_number Crate = refl
kind_number Absolute = refl

pub kind_crate : (k : PathKind) → sameb the_type k Crate ≡ eqb (path_kind_number k) 3
kind_crate Plain = refl
kind_crate SelfModule = refl
kind_crate Super = refl
kind_crate Crate = refl
kind_crate Absolute = refl

pub prefix_other : (p : ℕ) → (p ≡ 0 → ⊥) → (p ≡ 2 → ⊥) → 0 ≡ prefix_path_kind p
unfolding prefix_path_kind
prefix_other zero a b = absurd (a refl)
prefix_other (suc zero) a b = refl
prefix_other (suc (suc zero)) a b = absurd (b refl)
prefix_other (suc (suc (suc p))) a b = refl

-- the first of the choices
module _ {c d : Choice} (cs : List Choice) (e : c ≡ d) where
  pub first_hit : c.found ≡ true → c ≡ first_found (d ∷ cs)
  unfolding first_found
  first_hit t = taken_true c (first_found cs) c.found t ∙ ap (λ z. first_found (z ∷ cs)) e

  pub first_miss : c.found ≡ false → first_found cs ≡ first_found (d ∷ cs)
  unfolding first_found
  first_miss t = taken_false c (first_found cs) c.found t ∙ ap (λ z. first_found (z ∷ cs)) e

pub single_last : (s : Snapshot) (x : FindPathCtx) (k rule : ℕ) (o : Option Scope) → single s x k rule o ≡ first_found (single s x k rule o ∷ [])
unfolding single first_found choice_new
single_last s x k rule None = refl
single_last s x k rule (Some e) = refl

-- what is found in one of several places
some_first : {A B : Type 0} {P : B → Type 0} (f : A → Option B) → ((x : A) (y : B) → f x ≡ Some y → P y) → (xs : List A) (y : B)
    → first_some f xs ≡ Some y → P y
unfolding first_some
some_first f g [] y e = let z : ◌≡◌ {A = ℕ} 0 1 = cc in absurd (omega arith)
some_first {A} {B} {P} f g (x ∷ xs) y e = by (f x) refl (λ k. some_first f g xs y k) e
  where
    by : (o : Option B) → f x ≡ o → (first_some f xs ≡ Some y → P y) → elim o [ Some z ↦ Some z | None ↦ first_some f xs ] ≡ Some y → P y
    by None h rec k = rec k
    by (Some z) h rec k = g x y (h ∙ k)

module _ (W A : List ℕ) (l : Layout) (r : Reads W A l) where
  names_fit : (m : ℕ) (item : Item) (p : Scope → Bool) (y : Scope) → names_of (snap_of W A l) m item p ≡ Some y → ScopeFits (counts_in l) y
  unfolding names_of
  names_fit m item p y e = each_first _ y (ranges_read W A l (accepted_valid W (snap_of W A l) r.same)).scopes e

  scope_entry_fits : (m : ℕ) (item : Item) (b fresh : Bool) (y : Scope) → scope_entry (snap_of W A l) m item b fresh ≡ Some y
      → ScopeFits (counts_in l) y
  unfolding scope_entry
  scope_entry_fits m item b fresh y e =
      some_first _
      (λ a z h. preferred_has (snap_of W A l) a item (counts b) (names_of (snap_of W A l) a item (counts b)) 0 (ScopeFits (counts_in l)) fresh z
      (names_fit a item (is_fresh (counts b)) z) (names_fit a item (counts b) z) h)
      _ y e

  pub scope_below : (x : FindPathCtx) (item : Item) (e : Option ℕ) → entry_of scope_at W e ≡ find_in_scope (snap_of W A l) x item → EntryFits W l e
  unfolding find_in_scope
  scope_below x item (Some h) q = scope_entry_fits x.from.0 item x.ignore_local_imports x.fresh (scope_at W h) (sym q)
  scope_below x item None q = tt

module _ (s : Snapshot) (x : FindPathCtx) where
  pub scope_out : (item : Item) → may_be_in_scope s x ≡ false → nothing ≡ scope_rule s x item
  unfolding scope_rule
  scope_out item e = taken_false _ nothing (may_be_in_scope s x) e

  pub scope_in : (item : Item) {k : ℕ} {o : Option Scope} → k ≡ prefix_path_kind x.prefix → o ≡ find_in_scope s x item → may_be_in_scope s x ≡ true
      → single s x k via_scope o ≡ scope_rule s x item
  unfolding scope_rule
  scope_in item e f t = ap₂ (λ k o. single s x k via_scope o) e f ∙ taken_true _ nothing (may_be_in_scope s x) t

  -- a prelude's entry
  module _ (item : Item) (e : Scope) {a : Bool} (ea : a ≡ is_usable s x item e) where
    pub entry_taken : a ≡ true → Some e ≡ prelude_entry s x item (Some e)
    unfolding prelude_entry
    entry_taken t = taken_true _ _ _ (sym ea ∙ t)

    pub entry_left : a ≡ false → None ≡ prelude_entry s x item (Some e)
    unfolding prelude_entry
    entry_left t = taken_false _ _ _ (sym ea ∙ t)

  pub prelude_none : (item : Item) {k : ℕ} → k ≡ map_no s x.from.0 → None ≡ prelude_of s k → None ≡ find_in_prelude s x item
  unfolding find_in_prelude in_prelude
  prelude_none item e f = ap (in_prelude s x item) (f ∙ ap (prelude_of s) e)

  pub prelude_some : (item : Item) (p : Prelude) {k t : ℕ} {o : Option Scope} → k ≡ map_no s x.from.0 → Some p ≡ prelude_of s k → t ≡ p.target
      → o ≡ preferred x.fresh s t item (is_usable s x item) (name_of s t item) → prelude_entry s x item o ≡ find_in_prelude s x item
  unfolding find_in_prelude in_prelude
  prelude_some item p e f g h =
      ap (prelude_entry s x item) (h ∙ ap (λ t. preferred x.fresh s t item (is_usable s x item) (name_of s t item)) g)
      ∙ ap (in_prelude s x item) (f ∙ ap (prelude_of s) e)

  -- an extern's name
  pub extern_some : (m : ℕ) (e : Extern) {n via : ℕ} {o : Bool} (t : Bool) → n ≡ e.name → via ≡ step_by via_extern e.place
      → o ≡ occupied s x.from.0 m n → o || x.prefer_absolute ≡ t → choice_new s (extern_kind s x t) n via ≡ extern_name s x m (Some e)
  unfolding extern_name
  extern_some m e {via = via} t en ev eo et =
      ap₂ (λ k n. choice_new s (extern_kind s x k) n via) (sym et ∙ ap (λ o. o || x.prefer_absolute) (eo ∙ ap (occupied s x.from.0 m) en)) en
      ∙ ap (choice_new s (extern_kind s x (occupied s x.from.0 m e.name || x.prefer_absolute)) e.name) ev

  module _ (b : Bool) (m : ℕ) {r : ℕ} (er : r ≡ crate_root s m) where
    pub root_other : (r ≡ m → ⊥) → nothing ≡ root_rule s x b m
    unfolding root_rule
    root_other h = taken_false _ nothing (eqb (crate_root s m) m) (ne_eqb _ m (λ e. h (er ∙ e)))

    at_root : r ≡ m → eqb (crate_root s m) m ≡ true
    at_root e = eq-eqb _ m (sym er ∙ e)

    pub root_crate : r ≡ m → not b || eqb m x.crate_root.0 ≡ true → keyword 3 ≡ root_rule s x b m
    unfolding root_rule
    root_crate e t = taken_true (keyword 3) _ (not b || eqb m x.crate_root.0) t ∙ taken_true _ nothing (eqb (crate_root s m) m) (at_root e)

    pub root_extern : r ≡ m → not b || eqb m x.crate_root.0 ≡ false → {o : Option Extern} → o ≡ extern_of s x.from_crate.0 m
        → extern_name s x m o ≡ root_rule s x b m
    unfolding root_rule
    root_extern e t eo =
        ap (extern_name s x m) eo ∙ taken_false (keyword 3) _ (not b || eqb m x.crate_root.0) t
        ∙ taken_true _ nothing (eqb (crate_root s m) m) (at_root e)

  pub parent_none : (m p : ℕ) → p ≡ 0 → None ≡ parent_kind s x m p
  unfolding parent_kind
  parent_none m zero h = refl
  parent_none m (suc q) h = absurd (omega arith)

  pub parent_no : (m p : ℕ) {q : ℕ} → p ≡ suc q → (q ≡ m → ⊥) → None ≡ parent_kind s x m p
  unfolding parent_kind
  parent_no m zero e h = refl
  parent_no m (suc q) e h = taken_false _ None (eqb m q) (ne_eqb m q (λ z. h (omega (arith, e, z))))

  module _ (m : ℕ) {k r : ℕ} (ek : k ≡ map_no s x.from.0) (er : r ≡ root_of s k) where
    rooted : r ≡ root_of s (map_no s x.from.0)
    rooted = er ∙ ap (root_of s) ek

    pub parent_crate : (p : ℕ) {q : ℕ} → p ≡ suc q → q ≡ m → m ≡ r → Some 3 ≡ parent_kind s x m p
    unfolding parent_kind
    parent_crate zero e g f = absurd (omega arith)
    parent_crate (suc q) e g f =
        let same : m ≡ q = omega arith in
        taken_true (Some 3) (Some 2) _ (eq-eqb q _ (sym same ∙ f ∙ rooted)) ∙ taken_true _ None (eqb m q) (eq-eqb m q same)

    pub parent_super : (p : ℕ) {q : ℕ} → p ≡ suc q → q ≡ m → (m ≡ r → ⊥) → Some 2 ≡ parent_kind s x m p
    unfolding parent_kind
    parent_super zero e g f = absurd (omega arith)
    parent_super (suc q) e g f =
        let same : m ≡ q = omega arith in
        taken_false (Some 3) (Some 2) _ (ne_eqb q _ (λ z. f (same ∙ z ∙ sym rooted))) ∙ taken_true _ None (eqb m q) (eq-eqb m q same)

  module _ (m : ℕ) {c d : ℕ} {a b : Bool} (ec : c ≡ crate_of s m) (ed : d ≡ crate_of s x.from.0) (ea : a ≡ in_block s m)
      (eb : b ≡ in_block s x.from.0) where
    apart : not (eqb c d) || (a || b) ≡ (not (eqb (crate_of s m) (crate_of s x.from.0)) || (in_block s m || in_block s x.from.0))
    apart = cc

    pub kw_none : not (eqb c d) || (a || b) ≡ true → None ≡ is_kw_kind_relative_to_from s x m
    unfolding is_kw_kind_relative_to_from
    kw_none t = taken_true None _ _ (sym apart ∙ t)

    pub kw_self : not (eqb c d) || (a || b) ≡ false → m ≡ x.from.0 → Some 1 ≡ is_kw_kind_relative_to_from s x m
    unfolding is_kw_kind_relative_to_from
    kw_self t e = taken_true (Some 1) _ (eqb m x.from.0) (eq-eqb m _ e) ∙ taken_false None _ _ (sym apart ∙ t)

    pub kw_parent : not (eqb c d) || (a || b) ≡ false → (m ≡ x.from.0 → ⊥) → parent_kind s x m (parent_of s x.from.0)
        ≡ is_kw_kind_relative_to_from s x m
    unfolding is_kw_kind_relative_to_from
    kw_parent t e = taken_false (Some 1) _ (eqb m x.from.0) (ne_eqb m _ e) ∙ taken_false None _ _ (sym apart ∙ t)

  pub keyword_none : {k : Option ℕ} {o : Option ℕ} → k ≡ o → k ≡ None → nothing ≡ keyword_of s x o
  unfolding keyword_of
  keyword_none q e = ap (keyword_of s x) (sym e ∙ q)

  module _ (n : ℕ) {k : Option ℕ} {o : Option ℕ} (q : k ≡ o) (e : k ≡ Some n) where
    kind_told : Some n ≡ o
    kind_told = sym e ∙ q

    pub keyword_taken : not (eqb x.prefix 2) || eqb n 3 ≡ true → keyword n ≡ keyword_of s x o
    unfolding keyword_of
    keyword_taken t = taken_true (keyword n) nothing _ t ∙ ap (keyword_of s x) kind_told

    pub keyword_left : not (eqb x.prefix 2) || eqb n 3 ≡ false → nothing ≡ keyword_of s x o
    unfolding keyword_of
    keyword_left t = taken_false (keyword n) nothing _ t ∙ ap (keyword_of s x) kind_told
