-- The crates around a crate: its externs, its dependencies by language, and the order of the sysroot.
use Prim.Native.Nat.{ℕ, ◌<◌}
use mathlib.Core.Path.{◌≡◌, sym, ◌∙◌, ap, ap₂, subst}
use mathlib.Core.List.{List, ◌∷◌, ◌++◌, reverse_aux}
use mathlib.Core.Bool.{Bool, ◌&&◌, not}
use Rattle.std.specs.Prelude.{Some}
use lib.Dec.{eqb}
use lib.ListN.{length}
use Rattle.snapshot.specs.Records.{Snapshot, Crate, Extern, Dependency}
use Rattle.check_rules.specs.Tests.{counts_of}
use Rattle.accept.specs.Valid.{Valid, none, DependencyFits, ExternFits}
use Rattle.accept.proofs.Accepted.{by_test}
use Rattle.hir_def.specs.Finds.{first_of, select}
use Rattle.hir_def.specs.Items.{crate_data}
use Rattle.hir_def.specs.Nameres.{is_extern, extern_of, is_dependency, is_sysroot, is_lang_sysroot, lang_of, sysroot_first}
use Rattle.hir_def.proofs.Fits.{each_back}
use Rattle.find_path_spec.proofs.laws.Walks.{select_hit, select_miss}
use Rattle.join_rules.specs.Joined.{Numbers, dependency_to}
use Rattle.embedding.specs.Embeds.{Within, done, ours, theirs, ExternAlike, Embeds}
use Rattle.embedding.proofs.Chains.{eqb_moved}
use Rattle.embedding.proofs.Lookups.{Both, neither, each, Along, end, next, Hit, first_hit, first_miss, first_within, outside_not}
use Rattle.embedding.proofs.Scopes.{dependencies_moved}

-- lists that are read backwards
within_back : {A : Type 0} {Alike : A → A → Type 0} {Others : A → Type 0} {xs zs ys ws : List A} → Within Alike Others xs zs
    → Within Alike Others ys ws
    → Within Alike Others (reverse_aux xs ys) (reverse_aux zs ws)
within_back done k = k
within_back (ours a r) k = within_back r (ours a k)
within_back (theirs o r) k = within_back r (theirs o k)

-- a test that tells alike elements alike
module _ {A : Type 0} {R : A → A → Type 0} (p q : A → Bool) (same : (x z : A) → R x z → q z ≡ p x) where
  pub first_along : {xs zs : List A} → Along R xs zs → Both R (first_of p xs) (first_of q zs)
  unfolding first_of
  first_along end = neither
  first_along (next {x = x} {z = z} {xs = xs} {zs = zs} h r) =
      by_test (p x)
      (λ t. subst (λ o. Both R (first_of p (x ∷ xs)) o) (sym (first_hit q z zs (same x z h ∙ t)))
      (subst (λ o. Both R o (Some z)) (sym (first_hit p x xs t)) (each h)))
      (λ t. subst (λ o. Both R (first_of p (x ∷ xs)) o) (sym (first_miss q z zs (same x z h ∙ t)))
      (subst (λ o. Both R o (first_of q zs)) (sym (first_miss p x xs t)) (first_along r)))

  pub select_along : {xs zs : List A} → Along R xs zs → Along R (select p xs) (select q zs)
  unfolding select
  select_along end = end
  select_along (next {x = x} {z = z} {xs = xs} {zs = zs} h r) =
      by_test (p x)
      (λ t. subst (λ y. Along R (select p (x ∷ xs)) y) (sym (select_hit q z zs (same x z h ∙ t)))
      (subst (λ y. Along R y (z ∷ select q zs)) (sym (select_hit p x xs t)) (next h (select_along r))))
      (λ t. subst (λ y. Along R (select p (x ∷ xs)) y) (sym (select_miss q z zs (same x z h ∙ t)))
      (subst (λ y. Along R y (select q zs)) (sym (select_miss p x xs t)) (select_along r)))

along_append : {A : Type 0} {R : A → A → Type 0} {xs zs ys ws : List A} → Along R xs zs → Along R ys ws → Along R (xs ++ ys) (zs ++ ws)
along_append end k = k
along_append (next h r) k = next h (along_append r k)

module _ (e : Numbers) (s u : Snapshot) (em : Embeds e s u) (v : Valid s) (c : ℕ) (l : c < length s.crates) where
  -- the extern of a crate that names a module, found from the end
  pub extern_moved : (m : ℕ) → m < length s.modules
      → Both (Hit (ExternFits (counts_of s)) (ExternAlike e) (is_extern c m)) (extern_of s c m) (extern_of u (e.crates c) (e.modules m))
  unfolding extern_of
  extern_moved m h =
      first_within (is_extern c m) (is_extern (e.crates c) (e.modules m))
      (λ x z f a.
      ap (λ (y : Extern). eqb y.owner (e.crates c) && eqb y.target (e.modules m)) a
      ∙ ap₂ (λ i j. i && j) (eqb_moved e.crates (length s.crates) em.crates_apart x.owner c f.owner l)
      (eqb_moved e.modules (length s.modules) em.modules_apart x.target m f.target h))
      (λ z o. ap (λ i. i && eqb z.target (e.modules m)) (outside_not e.crates (length s.crates) z.owner c o l))
      (each_back v.ranges.externs none) (within_back em.externs done)

  -- a dependency of the crate, and its like
  abbrev pub DependencyHit : Dependency → Dependency → Type 0
  DependencyHit x z = Hit (DependencyFits (counts_of s)) (λ a b. b ≡ dependency_to e a) (is_dependency c) x z

  -- the sysroot's crate of a language
  pub lang_moved : (lang : ℕ) → Both DependencyHit (lang_of s c lang) (lang_of u (e.crates c) lang)
  unfolding lang_of
  lang_moved lang =
      first_along (is_lang_sysroot s lang) (is_lang_sysroot u lang)
      (λ x z h.
      ap (λ (y : Dependency). is_sysroot y && eqb (crate_data u y.crate).origin lang) h.1
      ∙ ap (λ (k : Crate). is_sysroot x && eqb k.origin lang) (em.crates x.crate h.0.crate))
      (dependencies_moved e s u em v c l)

  -- the dependencies in the order of the sysroot
  pub sysroot_first_moved : Along DependencyHit (sysroot_first s c) (sysroot_first u (e.crates c))
  unfolding sysroot_first
  sysroot_first_moved =
      let d = dependencies_moved e s u em v c l in
      along_append (select_along is_sysroot is_sysroot (λ x z h. ap is_sysroot h.1) d)
      (select_along (λ y. not (is_sysroot y)) (λ y. not (is_sysroot y)) (λ x z h. ap (λ y. not (is_sysroot y)) h.1) d)
