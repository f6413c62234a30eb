-- What is found in accepted words is in range.
use Prim.Native.Nat.{ℕ, suc, ◌+◌, ◌*◌, ◌^◌, ◌<◌}
use mathlib.Core.Path.{◌≡◌, refl, sym, subst, ap, ◌∙◌}
use mathlib.Core.List.{List, reverse_aux}
use mathlib.Core.Bool.{Bool, ◌&&◌}
use Rattle.std.specs.Prelude.{Some}
use native.Mathlib.Omega.{arith}
use lib.Dec.{eqb}
use lib.ListN.{length}
use borrow.Author.Tests.{eqb-true, eqb-false}
use Rattle.snapshot.specs.Sizes.{definition_size, scope_size, import_size}
use Rattle.snapshot.specs.Records.{Scope, Import, scope_at, import_at, extern_at, definition_at}
use Rattle.snapshot.specs.Layouts.{word_count, definition_base, scope_base, import_base, snap_of}
use Rattle.snapshot.specs.declared.layout.Layout.{Layout}
use Rattle.snapshot.proofs.Laws.{length_rows}
use Rattle.check_records.specs.record_rules.Stands.{counts_in}
use Rattle.accept.specs.Post.{Reads}
use Rattle.accept.specs.Valid.{Each, more, ScopeFits, ImportFits, ExternFits, DefinitionFits, Ranges, Valid}
use Rattle.accept.proofs.Accepted.{by_test}
use Rattle.accept.proofs.Bools.{and_right}
use Rattle.accept.proofs.Valid.{accepted_valid}
use Rattle.accept.proofs.Reading.{ranges_read, definition_read, scope_read, import_read}
use Rattle.hir_def.specs.Items.{definition_of, item_of, home_of}
use Rattle.hir_def.specs.ItemScope.{name_of, names_of, is_fresh, preferred, get}
use Rattle.hir_def.specs.Nameres.{extern_of}
use Rattle.hir_def.specs.Entries.{Known, Meets}
use Rattle.hir_def.specs.Spans.{Covers}
use Rattle.hir_def.specs.declared.Item.{Item}
use Rattle.hir_def.specs.declared.Span.{Span}
use Rattle.hir_def.specs.declared.Item.TheVariants.{Mod, Def}
use Rattle.hir_def.proofs.Found.{each_first}
use Rattle.hir_def.proofs.Fresh.{preferred_has}
use Rattle.hir_def.proofs.Lookups.{definition_same, item_module, item_other, home_builtin, home_variant, home_other}

pub each_back : {R : Type 0} {P : R → Type 0} {xs ys : List R} → Each P xs → Each P ys → Each P (reverse_aux xs ys)
each_back Each.none h = h
each_back (more q g) h = each_back g (more q h)

module _ (W A : List ℕ) (l : Layout) (r : Reads W A l) where
  -- the lookups ask that the words are few
  pub few_words : word_count l < 2 ^ 32
  few_words = omega (arith, r.tables.whole, r.tables.short)

  valid : Valid (snap_of W A l)
  valid = accepted_valid W (snap_of W A l) r.same

  ranges : Ranges (counts_in l) (snap_of W A l)
  ranges = ranges_read W A l valid

  -- the record that a lookup places
  pub name_fits : (m h : ℕ) (item : Item) → Some (scope_at W h) ≡ name_of (snap_of W A l) m item → ScopeFits (counts_in l) (scope_at W h)
  unfolding name_of
  name_fits m h item e = each_first _ _ ranges.scopes (sym e)

  pub names_fits : (m h : ℕ) (item : Item) (p : Scope → Bool) → Some (scope_at W h) ≡ names_of (snap_of W A l) m item p
      → ScopeFits (counts_in l) (scope_at W h)
  unfolding names_of
  names_fits m h item p e = each_first _ _ ranges.scopes (sym e)

  pub preferred_fits : (b : Bool) (m h : ℕ) (item : Item) (p : Scope → Bool)
      → Some (scope_at W h) ≡ preferred b (snap_of W A l) m item p (name_of (snap_of W A l) m item)
      → ScopeFits (counts_in l) (scope_at W h)
  preferred_fits b m h item p e =
      preferred_has (snap_of W A l) m item p (name_of (snap_of W A l) m item) 0 (ScopeFits (counts_in l)) b (scope_at W h)
      (λ f. names_fits m h item (is_fresh p) (sym f)) (λ f. name_fits m h item (sym f)) (sym e)

  pub get_fits : (m ns name h : ℕ) → Some (scope_at W h) ≡ get (snap_of W A l) m ns name → ScopeFits (counts_in l) (scope_at W h)
  unfolding get
  get_fits m ns name h e = each_first _ _ ranges.scopes (sym e)

  pub extern_fits : (c m h : ℕ) → Some (extern_at W h) ≡ extern_of (snap_of W A l) c m → ExternFits (counts_in l) (extern_at W h)
  unfolding extern_of
  extern_fits c m h e = each_first {P = ExternFits (counts_in l)} _ _ (search (ranges.externs, each_back, Each.none)) (sym e)

  -- the scope record of a number
  pub scope_fits : {j h b : ℕ} → j < l.scopes → b ≡ scope_base l → h ≡ b + scope_size * j → ScopeFits (counts_in l) (scope_at W h)
  scope_fits {j} i eb eh =
      subst (λ h. ScopeFits (counts_in l) (scope_at W h)) (sym (eh ∙ ap (λ x. x + scope_size * j) eb)) (scope_read W A l valid j i)

  pub spanned_fits : {s : Span} {j : ℕ} → Covers s (scope_base l) scope_size l.scopes → j < s.count
      → ScopeFits (counts_in l) (scope_at W (s.base + s.size * j))
  spanned_fits {s} {j} at i =
      scope_fits {j = j} (subst (λ n. j < n) at.counts i) at.starts (ap (λ z. s.base + z * j) at.sized)

  -- the record that an enumeration meets
  pub module_meets : {p : Scope → Bool} {k j h : ℕ} → Meets p scope_at scope_size W (scope_base l) l.scopes k j h
      → ScopeFits (counts_in l) (scope_at W h)
  module_meets {j = j} x = subst (λ h. ScopeFits (counts_in l) (scope_at W h)) (sym x.head) (scope_read W A l valid j x.below)

  pub import_meets : {p : Import → Bool} {k j h : ℕ} → Meets p import_at import_size W (import_base l) l.imports k j h
      → ImportFits (counts_in l) (import_at W h)
  import_meets {j = j} x = subst (λ h. ImportFits (counts_in l) (import_at W h)) (sym x.head) (import_read W A l valid j x.below)

  -- a definition that is there
  pub definition_fits : (d : ℕ) → d < l.definitions → DefinitionFits (counts_in l) (definition_of (snap_of W A l) d)
  definition_fits d h = subst (DefinitionFits (counts_in l)) (definition_same W A l d h refl) (definition_read W A l valid d h)

  pub module_known : (d : ℕ) → d < l.definitions → (definition_of (snap_of W A l) d).kind ≡ 1 → (definition_of (snap_of W A l) d).first < l.modules
  module_known d h k = (definition_fits d h).home (λ z. omega arith) (λ z. omega arith)

  -- a module by its definition, or a definition
  pub item_known : (ns d : ℕ) → d < l.definitions → Known l (item_of (snap_of W A l) ns d)
  item_known ns d h =
      let S = snap_of W A l in
      by_test (eqb ns 0 && eqb (definition_of S d).kind 1)
      (λ t.
      subst (Known l) (item_module S ns d refl t refl) (module_known d h (eqb-true _ _ (and_right (eqb ns 0) (eqb (definition_of S d).kind 1) t))))
      (λ t. subst (Known l) (item_other S ns d refl t) h)

  -- the enum of a variant is a definition of kind 4
  parent_home : (d : ℕ) → d < l.definitions → (definition_of (snap_of W A l) d).kind ≡ 2
      → (definition_of (snap_of W A l) (definition_of (snap_of W A l) d).first).first < l.modules
  unfolding definition_of
  parent_home d h k =
      let S = snap_of W A l in
      let u : d < length S.definitions = rw (length_rows (λ i. definition_at W (definition_base l + definition_size * i)) l.definitions) h in
      let e = valid.enums d u k in
      let q = e.1 in
      let p : (definition_of S d).first < l.definitions = omega (arith, e.0) in
      (definition_fits (definition_of S d).first p).home (λ z. omega (arith, q, z)) (λ z. omega (arith, q, z))

  pub home_fits : (item : Item) (m : ℕ) → Known l item → home_of (snap_of W A l) item ≡ suc m → m < l.modules
  unfolding home_of
  home_fits (Mod n) m h e = omega arith
  home_fits (Def ns d) m h e =
      let S = snap_of W A l in
      let x = definition_of S d.0 in
      by_test (eqb x.kind 3)
      (λ t. let z = home_builtin S x.kind x.first (eqb-true _ _ t) in absurd (omega (arith, z, e)))
      (λ t.
      by_test (eqb x.kind 2)
      (λ u.
      let z = home_variant S x.kind x.first (eqb-false _ _ t) (eqb-true _ _ u) refl refl in
      omega (arith, z, e, parent_home d.0 h (eqb-true _ _ u)))
      (λ u.
      let z = home_other S x.kind x.first (eqb-false _ _ t) (eqb-false _ _ u) in
      omega (arith, z, e, (definition_fits d.0 h).home (eqb-false _ _ u) (eqb-false _ _ t))))
