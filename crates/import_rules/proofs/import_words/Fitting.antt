-- What is collected for a crate passes the tests of an import record.
use Prim.Native.Nat.{ℕ, ◌≤◌, ◌<◌}
use mathlib.Core.Path.{◌≡◌, refl, sym, ◌∙◌, ap}
use mathlib.Core.List.{List, [], ◌∷◌, ◌++◌, map}
use mathlib.Core.Bool.{Bool, true, ◌&&◌, ◌||◌, not}
use native.Mathlib.Omega.{arith}
use borrow.Author.Tests.{eqb-true, eq-eqb, le-leb, lt-ltb}
use lib.Dec.{eqb, leb, ltb}
use lib.ListN.{length}
use Rattle.snapshot.specs.Records.{Snapshot, Scope, Import, Member}
use Rattle.check_rules.specs.Tests.{counts_of}
use Rattle.check_rules.specs.Verdict.{accept, verdict}
use Rattle.accept.specs.Valid.{Each, none, more, ScopeFits, MemberFits, MacroOnly, Belongs, definition_in}
use Rattle.accept.proofs.Accepted.{by_test}
use Rattle.accept.proofs.Bools.{and_two}
use Rattle.accept.proofs.Valid.{accepted_valid}
use Rattle.edit_rules.proofs.scope_edits.Lists.{each_both}
use Rattle.hir_def.specs.Finds.{select}
use Rattle.hir_def.proofs.Found.{each_select}
use Rattle.hir_def.proofs.Every.{each_append, each_map_select}
use Rattle.import_rules.specs.Collect.{insert_by, sort_into, entry_before, is_public_in, entries_of, modules_from, is_member_of, member_ns}
use Rattle.import_rules.specs.Collect.{member_import}
use Rattle.import_rules.specs.Collect.{entry_import, imports_of, imports_in, imports_over, collected}
use Rattle.import_rules.specs.import_words.Words.{Fits}

-- lists: what every element has, every element of them sorted has

each_insert : {A : Type 0} {P : A → Type 0} (before : A → A → Bool) (x : A) {ys : List A} → P x → Each P ys → Each P (insert_by before x ys)
unfolding insert_by
each_insert before x p none = more p none
each_insert before x p (more {x = y} q qs) =
    by_test (before x y) (λ t. rw (t, insert_by) (more p (more q qs))) (λ t. rw (t, insert_by) (more q (each_insert before x p qs)))

pub each_sort : {A : Type 0} {P : A → Type 0} (before : A → A → Bool) {ys xs : List A} → Each P ys → Each P xs → Each P (sort_into before ys xs)
unfolding sort_into
each_sort before r none = r
each_sort before {ys = ys} r (more {x = x} p ps) = each_sort before {ys = insert_by before x ys} (each_insert before x p r) ps

-- whatever their order
pub each_entries : {P : Scope → Type 0} (s : Snapshot) (m : ℕ) → Each P s.scopes → Each P (entries_of s m)
unfolding entries_of
each_entries s m h = each_sort (entry_before s) none (each_select (is_public_in m) h)

-- an entry and a member of an accepted snapshot

abbrev pub Entry : Snapshot → Scope → Type 0
Entry s e = ScopeFits (counts_of s) e × MacroOnly s.definitions e.ns e.definition

abbrev pub Part : Snapshot → Member → Type 0
Part s x = MemberFits (counts_of s) x × Belongs s.definitions x

-- the tests
ranged_is : (ns bits : ℕ) → ns ≤ 2 → bits ≤ 3 → leb ns 2 && leb bits 3 ≡ true
ranged_is ns bits a b = rw (le-leb ns 2 a, le-leb bits 3 b)

known_is : (a b c d i j k l : ℕ) → a < i → b < j → c < k → d < l → ltb a i && ltb b j && ltb c k && ltb d l ≡ true
known_is a b c d i j k l p q r t = rw (lt-ltb a i p, lt-ltb b j q, lt-ltb c k r, lt-ltb d l t)

right_is : (ns k : ℕ) → (ns ≡ 2 → k ≡ 5) → not (eqb ns 2) || eqb k 5 ≡ true
right_is ns k h = by_test (eqb ns 2) (λ t. rw (t, eq-eqb k 5 (h (eqb-true ns 2 t)))) (λ t. rw t)

no_both : (s : Snapshot) {a b : ℕ} → a ≡ b → (definition_in s.definitions a).kind ≡ 4 → (definition_in s.definitions b).kind ≡ 5 → ⊥
no_both s e f g = let h = sym f ∙ ap (λ d. (definition_in s.definitions d).kind) e ∙ g in omega arith

module _ (s : Snapshot) (c : ℕ) (known : c < length s.crates) (e : Scope) (f : Entry s e) where
  entry_fits : Fits s (entry_import c e)
  entry_fits =
      let g = f.0 in (
        ranged_is e.ns e.bits g.ns g.bits,
        known_is c e.definition e.name e.owner (length s.crates) (length s.definitions) (length s.names) (length s.modules)
            known g.definition g.name g.owner,
        right_is e.ns _ f.1,
      )

  -- a variant goes to types, another member to the namespace of the entry
  ns_small : (k : ℕ) → member_ns e.ns k ≤ 2
  unfolding member_ns
  ns_small k = let g = f.0.ns in by_test (eqb k 0) (λ t. rw (t, member_ns) (omega arith)) (λ t. rw (t, member_ns) g)

  ns_macros : (k : ℕ) → member_ns e.ns k ≡ 2 → e.ns ≡ 2
  unfolding member_ns
  ns_macros k h = by_test (eqb k 0) (λ t. let z : 0 ≡ 2 = rw (member_ns, t) at h in absurd (omega arith)) (λ t. rw (member_ns, t) at h)

  -- its parent is of kind 4, and so no macro
  member_fits : (x : Member) → Part s x → is_member_of e.definition x ≡ true → Fits s (member_import c e x)
  member_fits x p t =
      let g = f.0 in
      let m = p.0 in
      let d : x.parent ≡ e.definition = eqb-true x.parent e.definition (and_two (eqb x.parent e.definition) _ t).0 in (
        ranged_is (member_ns e.ns x.kind) x.bits (ns_small x.kind) m.bits,
        known_is c x.definition x.name e.owner (length s.crates) (length s.definitions) (length s.names) (length s.modules)
            known m.definition m.name g.owner,
        right_is (member_ns e.ns x.kind) (definition_in s.definitions x.definition).kind
            (λ h. absurd (no_both s d p.1.parent (f.1 (ns_macros x.kind h)))),
      )

-- of any entries, in any order, and over any modules

module _ (s : Snapshot) (c : ℕ) (known : c < length s.crates) (scopes : Each (Entry s) s.scopes) (members : Each (Part s) s.members) where
  of_fits : (e : Scope) → Entry s e → Each (Fits s) (imports_of s c e)
  unfolding imports_of
  of_fits e f =
      each_append (each_map_select (is_member_of e.definition) (member_import c e) (member_fits s c known e f) members)
      (more (entry_fits s c known e f) none)

  in_fits : {es : List Scope} → Each (Entry s) es → Each (Fits s) (imports_in s c es)
  unfolding imports_in
  in_fits none = none
  in_fits (more {x = e} f fs) = each_append (of_fits e f) (in_fits fs)

  over_fits : (ms : List ℕ) → Each (Fits s) (imports_over s c ms)
  unfolding imports_over
  over_fits [] = none
  over_fits (m ∷ ms) = each_append (in_fits (each_entries s m scopes)) (over_fits ms)

-- every import that is collected passes the check's tests
pub collected_fits : (W : List ℕ) (s : Snapshot) (c : ℕ) → verdict W ≡ accept s → c < length s.crates → Each (Fits s) (collected s c)
unfolding collected
collected_fits W s c acc known =
    let v = accepted_valid W s acc in
    over_fits s c known (each_both v.ranges.scopes v.scopes) (each_both v.ranges.members v.members) (modules_from s c)

-- and is the crate's
abbrev pub Owned : ℕ → Import → Type 0
Owned c x = x.owner ≡ c

module _ (s : Snapshot) (c : ℕ) where
  of_owned : (e : Scope) (ms : List Member) → Each (Owned c) (map (member_import c e) ms ++ (entry_import c e ∷ []))
  of_owned e [] = more refl none
  of_owned e (m ∷ ms) = more refl (of_owned e ms)

  in_owned : (es : List Scope) → Each (Owned c) (imports_in s c es)
  unfolding imports_in imports_of
  in_owned [] = none
  in_owned (e ∷ es) = each_append (of_owned e (select (is_member_of e.definition) s.members)) (in_owned es)

  over_owned : (ms : List ℕ) → Each (Owned c) (imports_over s c ms)
  unfolding imports_over
  over_owned [] = none
  over_owned (m ∷ ms) = each_append (in_owned (entries_of s m)) (over_owned ms)

  pub collected_owned : Each (Owned c) (collected s c)
  unfolding collected
  collected_owned = over_owned (modules_from s c)
