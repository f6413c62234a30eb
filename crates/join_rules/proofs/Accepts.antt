-- A valid snapshot, written out, is accepted, with each record at its place.
use Prim.Native.Nat.{ℕ, zero, suc, ◌+◌, ◌*◌, ◌≤◌, ◌<◌}
use mathlib.Core.Path.{◌≡◌, refl, sym, ◌∙◌, ap, subst}
use mathlib.Core.List.{List, [], ◌∷◌, ◌++◌}
use mathlib.Core.Bool.{Bool, true, false, ◌&&◌, ◌||◌, not}
use native.Mathlib.Omega.{arith}
use native.Mathlib.Nat.{add-zero, zero-add}
use borrow.Author.Tests.{le-leb, lt-ltb, lt-leb, eq-eqb, ne_eqb, eqb-true, eqb-false, leb-false}
use lib.Dec.{eqb, leb, ltb}
use lib.ListN.{length, get_or, take, length-append}
use lib.Seq.{get_or-take}
use Rattle.snapshot.specs.Lists.{any}
use Rattle.snapshot.specs.Limits.{word_limit, definition_limit}
use Rattle.snapshot.specs.Sizes.{definition_size, scope_size, import_size, extern_size}
use Rattle.snapshot.specs.Records.{Definition, Scope, Import, Extern, Member, Snapshot}
use Rattle.check_rules.specs.Tests.{counts_of, no_map, no_module, no_definition, is_own, is_in, definition_range, definition_defined, same_definition}
use Rattle.check_rules.specs.Tests.{definition_repeated, definition_placed, scope_range, scope_defined, same_entry, same_extern, is_member}
use Rattle.check_rules.specs.Tests.{member_placed}
use Rattle.check_rules.specs.Tests.{maps_filled, crates_own}
use Rattle.check_rules.specs.Steps.{add_definition, add_scope, add_import, add_extern}
use Rattle.accept.specs.Valid.{Valid, map_in, definition_in, crate_in, block_in, DefinitionFits, ScopeFits, Belongs}
use Rattle.check_rules.specs.Verdict.{verdict, accept, finish}
use Rattle.accept.proofs.Accepted.{by_test}
use Rattle.accept.proofs.Bools.{each_at}
use Rattle.accept.proofs.Folds.{records_end}
use Rattle.edit_rules.specs.Entries.{scope_words, moved_scope, moved_import, moved_extern}
use Rattle.edit_rules.specs.Written.{definition_words, import_words, extern_words, member_words, each_words, kinds_words, snapshot_words}
use Rattle.edit_rules.specs.Written as written
use Rattle.edit_rules.proofs.scope_edits.Split.{verdict_is}
use Rattle.join_rules.specs.Joined.{definition_put, placed_by, placed, kind_base}
use Rattle.join_rules.proofs.Lists.{any_has, all_rows, before_length, before_any, placed_length, placed_at, placed_field, placed_words}
use Rattle.join_rules.proofs.Lists.{sized_length}
use Rattle.join_rules.proofs.Runs.{At, at_left, at_right, Goes, Small, goes_then, each_goes}
use Rattle.join_rules.proofs.Taken.{definition_goes, scope_goes, import_goes, extern_goes, member_goes}
use Rattle.join_rules.proofs.Stages.{Whole, DefinitionWhole, lists, names_go, crates_go, dependencies_go, tree_go, children_go, preludes_go}

abbrev no_scope : Scope
no_scope = record { owner = 0; ns = 0; name = 0; definition = 0; visibility = 0; number = 0; declared = 0; bits = 0; place = 0 }

abbrev no_import : Import
no_import = record { owner = 0; ns = 0; definition = 0; name = 0; container = 0; bits = 0; place = 0 }

abbrev no_extern : Extern
no_extern = record { owner = 0; name = 0; target = 0; place = 0 }

abbrev no_member : Member
no_member = record { parent = 0; name = 0; definition = 0; kind = 0; bits = 0 }

abbrev scope_put : ℕ → Scope → Scope
scope_put at = moved_scope (λ n. at)

abbrev import_put : ℕ → Import → Import
import_put at = moved_import (λ n. at)

abbrev extern_put : ℕ → Extern → Extern
extern_put at = moved_extern (λ n. at)

-- two elements that are not the same by a test of two numbers
apart : (a b c d : ℕ) → (a ≡ c → b ≡ d → ⊥) → eqb a c && eqb b d ≡ false
apart a b c d h =
    by_test (eqb a c) (λ s. by_test (eqb b d) (λ t. absurd (h (eqb-true a c s) (eqb-true b d t))) (λ t. rw (s, t))) (λ s. rw s)

module _ (X : List ℕ) (u : Snapshot) (v : Valid u) (w : Whole u) where
  abbrev ds : List Definition
  ds = placed_by definition_put definition_size (kind_base u 6) u.definitions

  abbrev ss : List Scope
  ss = placed_by scope_put scope_size (kind_base u 7) u.scopes

  abbrev is : List Import
  is = placed_by import_put import_size (kind_base u 8) u.imports

  abbrev es : List Extern
  es = placed_by extern_put extern_size (kind_base u 9) u.externs

  abbrev stage : List Definition → List Scope → List Import → List Extern → List Member → Snapshot
  stage a b c d e = lists u.names u.crates u.dependencies u.maps u.modules u.children u.preludes a b c d e

  -- definitions

  module _ (zs : List Definition) (i : ℕ) (q : ℕ) (li : i < length u.definitions) (few : length zs ≡ i)
      (kinds : (j : ℕ) → j < i → (get_or zs j no_definition).kind ≡ (definition_in u.definitions j).kind)
      (firsts : (j : ℕ) → j < i → (get_or zs j no_definition).first ≡ (definition_in u.definitions j).first)
      (none_before : (t : Definition → Bool) → ((j : ℕ) → j < i → t (get_or zs j no_definition) ≡ false) → any t zs ≡ false)
    where
      abbrev x : Definition
      x = get_or u.definitions i no_definition

      abbrev y : Definition
      y = definition_put q x

      fits : DefinitionFits (counts_of u) x
      fits = each_at no_definition i v.ranges.definitions li

      whole : DefinitionWhole u.names x
      whole = each_at no_definition i w.definitions li

      definition_range_lem : definition_range (stage zs [] [] [] []) y ≡ true
      definition_range_lem =
          let a = le-leb 1 x.kind fits.known in
          let b = le-leb x.kind 5 fits.kind in
          by_test (eqb x.kind 2)
          (λ c. let e = eqb-true x.kind 2 c in rw (a, b, c, ne_eqb x.kind 3 (λ z. omega arith)))
          (λ c.
          let d = eq-eqb x.second 0 (whole.second (eqb-false x.kind 2 c)) in
          by_test (eqb x.kind 3)
          (λ e. let z = eqb-true x.kind 3 e in rw (a, b, c, d, e, lt-leb (length u.names) x.first (fits.builtin z), whole.builtin z))
          (λ e. rw (a, b, c, d, e)))

      definition_defined_lem : definition_defined (counts_of (stage zs [] [] [] [])) y ≡ true
      definition_defined_lem =
          by_test (eqb x.kind 2)
          (λ c.
          let e = eqb-true x.kind 2 c in
          let f = (v.enums i li e).0 in
          rw (
            c,
            ne_eqb x.kind 3 (λ z. omega arith),
            lt-ltb x.first (length zs) (omega arith),
            lt-ltb x.second
                (length u.names) (fits.variant e).1,
          ))
          (λ c. by_test (eqb x.kind 3)
          (λ e. rw (c, e, lt-ltb x.first (length u.names) (fits.builtin (eqb-true x.kind 3 e))))
          (λ e. rw (c, e, lt-ltb x.first (length u.modules) (fits.home (eqb-false x.kind 2 c) (eqb-false x.kind 3 e)))))

      once : (k : ℕ) → x.kind ≡ k
          → ((j : ℕ) → j < i → (definition_in u.definitions j).kind ≡ k → (definition_in u.definitions j).first ≡ x.first → ⊥)
          → any (same_definition y) zs ≡ false
      once k e h = none_before (same_definition y)
          (λ j l. apart x.kind x.first (get_or zs j no_definition).kind (get_or zs j no_definition).first
          (λ a b. h j l (sym (kinds j l) ∙ sym a ∙ e) (sym (firsts j l) ∙ sym b)))

      definition_new : definition_repeated (stage zs [] [] [] []) y ≡ false
      definition_new =
          by_test (eqb x.kind 1)
          (λ a. let e = eqb-true x.kind 1 a in rw (a, once 1 e (λ j l k f. v.modules j i l li k e f)))
          (λ a. by_test (eqb x.kind 3)
          (λ b. let e = eqb-true x.kind 3 b in rw (a, b, once 3 e (λ j l k f. v.builtins j i l li k e f)))
          (λ b. rw (a, b)))

      definition_placed_lem : definition_placed (stage zs [] [] [] []) y ≡ true
      definition_placed_lem =
          by_test (eqb x.kind 2)
          (λ c.
          let e = v.enums i li (eqb-true x.kind 2 c) in
          rw (c, eq-eqb (get_or zs x.first no_definition).kind 4 (kinds x.first e.0 ∙ e.1)))
          (λ c. rw c)

      first_small : Small x.first
      first_small =
          let a = v.limits.definitions in
          let b = v.limits.names in
          let d = v.limits.modules in
          by_test (eqb x.kind 2) (λ c. let f = (fits.variant (eqb-true x.kind 2 c)).0 in omega arith)
          (λ c. by_test (eqb x.kind 3) (λ e. let f = fits.builtin (eqb-true x.kind 3 e) in omega arith)
          (λ e. let f = fits.home (eqb-false x.kind 2 c) (eqb-false x.kind 3 e) in omega arith))

      second_small : Small x.second
      second_small =
          let b = v.limits.names in
          by_test (eqb x.kind 2) (λ c. let f = (fits.variant (eqb-true x.kind 2 c)).1 in omega arith)
          (λ c. let f = whole.second (eqb-false x.kind 2 c) in omega arith)

      definition_goes_on : {p : ℕ} → q ≡ p → At X p (definition_words y)
          → Goes X p 8 (stage zs [] [] [] []) (p + length (definition_words y)) 8 (add_definition (stage zs [] [] [] []) y)
      definition_goes_on e a =
          let m = v.limits.definitions in
          let k = fits.kind in
          definition_goes (stage zs [] [] [] []) y a e (omega arith) first_small second_small definition_range_lem definition_defined_lem
          definition_new definition_placed_lem
          (lt-ltb (length zs) definition_limit (omega arith))

  pub kind_stays : (d : ℕ) → (get_or ds d no_definition).kind ≡ (definition_in u.definitions d).kind
  kind_stays d = placed_field definition_put definition_size (λ x. x.kind) (λ j x. refl) no_definition (kind_base u 6) u.definitions d

  first_stays : (d : ℕ) → (get_or ds d no_definition).first ≡ (definition_in u.definitions d).first
  first_stays d = placed_field definition_put definition_size (λ x. x.first) (λ j x. refl) no_definition (kind_base u 6) u.definitions d

  second_stays : (d : ℕ) → (get_or ds d no_definition).second ≡ (definition_in u.definitions d).second
  second_stays d = placed_field definition_put definition_size (λ x. x.second) (λ j x. refl) no_definition (kind_base u 6) u.definitions d

  ds_length : length ds ≡ length u.definitions
  ds_length = placed_length definition_put definition_size (kind_base u 6) u.definitions

  definitions_go : At X (kind_base u 6) (each_words definition_words ds)
      → Goes X (kind_base u 6) 8 (stage [] [] [] [] []) (kind_base u 6 + length (each_words definition_words ds)) 8 (stage ds [] [] [] [])
  definitions_go at = each_goes definition_words no_definition 8 (kind_base u 6) (λ zs. stage zs [] [] [] []) ds at
      (λ i p l e a.
      let n = ds_length in
      let b = before_length no_definition ds i l in
      let z = sized_length definition_words definition_size (λ x. refl) (take i ds) in
      let to : kind_base u 6 + definition_size * i ≡ p = omega arith in
      let same = placed_at definition_put definition_size no_definition (kind_base u 6) u.definitions i (omega arith) in
      subst (λ y. At X p (definition_words y) → Goes X p 8 (stage (take i ds) [] [] [] []) (p + length (definition_words y)) 8
      (stage (take i ds ++ (y ∷ [])) [] [] [] []))
      (sym same)
      (λ h. definition_goes_on (take i ds) i (kind_base u 6 + definition_size * i) (omega arith) b
      (λ j k. ap (λ (y : Definition). y.kind) (get_or-take i ds j no_definition k) ∙ kind_stays j)
      (λ j k. ap (λ (y : Definition). y.first) (get_or-take i ds j no_definition k) ∙ first_stays j)
      (λ t k. before_any no_definition ds i l t (λ j o. ap t (sym (get_or-take i ds j no_definition o)) ∙ k j o))
      to h) a)

  -- scopes

  macros : (ns d : ℕ) → (ns ≡ 2 → (definition_in u.definitions d).kind ≡ 5) → not (eqb ns 2) || eqb (get_or ds d no_definition).kind 5 ≡ true
  macros ns d h =
      by_test (eqb ns 2) (λ c. rw (c, eq-eqb (get_or ds d no_definition).kind 5 (kind_stays d ∙ h (eqb-true ns 2 c)))) (λ c. rw c)

  module _ (zs : List Scope) (i q : ℕ) (li : i < length u.scopes) (new : any (same_entry (scope_put q (get_or u.scopes i no_scope))) zs ≡ false)
    where
      abbrev sx : Scope
      sx = get_or u.scopes i no_scope

      sf : ScopeFits (counts_of u) sx
      sf = each_at no_scope i v.ranges.scopes li

      number_range : not (eqb sx.visibility 0) || eqb sx.number 0 ≡ true
      number_range =
          by_test (eqb sx.visibility 0) (λ c. rw (c, eq-eqb sx.number 0 (sf.public (eqb-true sx.visibility 0 c)))) (λ c. rw c)

      number_crate : not (eqb sx.visibility 1) || ltb sx.number (length u.crates) ≡ true
      number_crate =
          by_test (eqb sx.visibility 1) (λ c. rw (c, lt-ltb sx.number (length u.crates) (sf.crate (eqb-true sx.visibility 1 c))))
          (λ c. rw c)

      number_module : leb sx.visibility 1 || ltb sx.number (length u.modules) ≡ true
      number_module =
          by_test (leb sx.visibility 1) (λ c. rw c)
          (λ c. rw (c, lt-ltb sx.number (length u.modules) (sf.inside (leb-false sx.visibility 1 c))))

      number_small : Small sx.number
      number_small =
          let m = v.limits.modules in
          let k = v.limits.crates in
          by_test (eqb sx.visibility 0) (λ c. let e = sf.public (eqb-true sx.visibility 0 c) in omega arith)
          (λ c. by_test (eqb sx.visibility 1) (λ d. let e = sf.crate (eqb-true sx.visibility 1 d) in omega arith)
          (λ d. let a = eqb-false sx.visibility 0 c in let b = eqb-false sx.visibility 1 d in let e = sf.inside (omega arith) in omega arith))

      scope_range_lem : scope_range sx ≡ true
      scope_range_lem =
          rw (
            le-leb sx.ns 2 sf.ns,
            le-leb sx.visibility 3 sf.visibility,
            number_range,
            le-leb sx.declared 3 sf.declared,
            le-leb sx.bits 3 sf.bits,
          )

      scope_defined_lem : scope_defined (counts_of (stage ds zs [] [] [])) sx ≡ true
      scope_defined_lem =
          let n = ds_length in
          let d = sf.definition in
          rw (
            lt-ltb sx.owner (length u.modules) sf.owner,
            lt-ltb sx.name (length u.names) sf.name,
            lt-ltb sx.definition (length ds) (omega arith),
            number_crate,
            number_module,
          )

      scope_goes_on : {p : ℕ} → q ≡ p → At X p (scope_words (scope_put q sx))
          → Goes X p 9 (stage ds zs [] [] []) (p + length (scope_words (scope_put q sx))) 9 (add_scope (stage ds zs [] [] []) (scope_put q sx))
      scope_goes_on e a =
          let m = v.limits.modules in
          let k = v.limits.names in
          let l = v.limits.definitions in
          let f0 = sf.owner in
          let f1 = sf.ns in
          let f2 = sf.name in
          let f3 = sf.definition in
          let f4 = sf.visibility in
          let f6 = sf.declared in
          let f7 = sf.bits in
          scope_goes (stage ds zs [] [] []) (scope_put q sx) a e (omega arith) (omega arith) (omega arith) (omega arith) (omega arith)
          number_small (omega arith) (omega arith)
          scope_range_lem scope_defined_lem new (macros sx.ns sx.definition (each_at no_scope i v.scopes li))

  ss_length : length ss ≡ length u.scopes
  ss_length = placed_length scope_put scope_size (kind_base u 7) u.scopes

  scopes_go : At X (kind_base u 7) (each_words scope_words ss)
      → Goes X (kind_base u 7) 9 (stage ds [] [] [] []) (kind_base u 7 + length (each_words scope_words ss)) 9 (stage ds ss [] [] [])
  unfolding scope_words
  scopes_go at = each_goes scope_words no_scope 9 (kind_base u 7) (λ zs. stage ds zs [] [] []) ss at
      (λ i p l e a.
      let n = ss_length in
      let b = before_length no_scope ss i l in
      let z = sized_length scope_words scope_size (λ x. refl) (take i ss) in
      let to : kind_base u 7 + scope_size * i ≡ p = omega arith in
      let li : i < length u.scopes = omega arith in
      let put = placed_at scope_put scope_size no_scope (kind_base u 7) u.scopes in
      let y = scope_put (kind_base u 7 + scope_size * i) (get_or u.scopes i no_scope) in
      let new : any (same_entry y) (take i ss) ≡ false =
      before_any no_scope ss i l (same_entry y) (λ j o. ap (same_entry y) (put j (omega arith)) ∙ v.once.scopes j i o li) in
      subst (λ y. At X p (scope_words y) → Goes X p 9 (stage ds (take i ss) [] [] []) (p + length (scope_words y)) 9
      (stage ds (take i ss ++ (y ∷ [])) [] [] []))
      (sym (put i li))
      (λ h. scope_goes_on (take i ss) i (kind_base u 7 + scope_size * i) li new to h) a)

  -- imports

  import_goes_on : (zs : List Import) (i q : ℕ) → i < length u.imports → {p : ℕ}
      → q ≡ p → At X p (import_words (import_put q (get_or u.imports i no_import)))
      → Goes X p 10 (stage ds ss zs [] []) (p + length (import_words (import_put q (get_or u.imports i no_import)))) 10
      (add_import (stage ds ss zs [] []) (import_put q (get_or u.imports i no_import)))
  import_goes_on zs i q li e a =
      let x = get_or u.imports i no_import in
      let f = each_at no_import i v.ranges.imports li in
      let m = v.limits.modules in
      let k = v.limits.names in
      let l = v.limits.definitions in
      let c = v.limits.crates in
      let n = ds_length in
      let f0 = f.owner in
      let f1 = f.ns in
      let f2 = f.definition in
      let f3 = f.name in
      let f4 = f.container in
      let f5 = f.bits in
      import_goes (stage ds ss zs [] []) (import_put q x) a e (omega arith) (omega arith) (omega arith) (omega arith) (omega arith) (omega arith)
      (rw (le-leb x.ns 2 f1, le-leb x.bits 3 f5))
      (rw (
        lt-ltb x.owner (length u.crates) f0,
        lt-ltb x.definition (length ds) (omega arith),
        lt-ltb x.name (length u.names) f3,
        lt-ltb x.container (length u.modules) f4,
      ))
      (macros x.ns x.definition (each_at no_import i v.imports li))

  imports_go : At X (kind_base u 8) (each_words import_words is)
      → Goes X (kind_base u 8) 10 (stage ds ss [] [] []) (kind_base u 8 + length (each_words import_words is)) 10 (stage ds ss is [] [])
  imports_go at = each_goes import_words no_import 10 (kind_base u 8) (λ zs. stage ds ss zs [] []) is at
      (λ i p l e a.
      let n = placed_length import_put import_size (kind_base u 8) u.imports in
      let b = before_length no_import is i l in
      let z = sized_length import_words import_size (λ x. refl) (take i is) in
      let to : kind_base u 8 + import_size * i ≡ p = omega arith in
      let li : i < length u.imports = omega arith in
      subst (λ y. At X p (import_words y) → Goes X p 10 (stage ds ss (take i is) [] []) (p + length (import_words y)) 10
      (stage ds ss (take i is ++ (y ∷ [])) [] []))
      (sym (placed_at import_put import_size no_import (kind_base u 8) u.imports i li))
      (λ h. import_goes_on (take i is) i (kind_base u 8 + import_size * i) li to h) a)

  -- externs

  extern_goes_on : (zs : List Extern) (i q : ℕ) → i < length u.externs
      → any (same_extern (extern_put q (get_or u.externs i no_extern))) zs ≡ false → {p : ℕ} → q ≡ p
      → At X p (extern_words (extern_put q (get_or u.externs i no_extern)))
      → Goes X p 11 (stage ds ss is zs []) (p + length (extern_words (extern_put q (get_or u.externs i no_extern)))) 11
      (add_extern (stage ds ss is zs []) (extern_put q (get_or u.externs i no_extern)))
  extern_goes_on zs i q li new e a =
      let x = get_or u.externs i no_extern in
      let f = each_at no_extern i v.ranges.externs li in
      let m = v.limits.modules in
      let k = v.limits.names in
      let c = v.limits.crates in
      let f0 = f.owner in
      let f1 = f.name in
      let f2 = f.target in
      extern_goes (stage ds ss is zs []) (extern_put q x) a e (omega arith) (omega arith) (omega arith)
      (rw (lt-ltb x.owner (length u.crates) f0, lt-ltb x.name (length u.names) f1, lt-ltb x.target (length u.modules) f2))
      new

  externs_go : At X (kind_base u 9) (each_words extern_words es)
      → Goes X (kind_base u 9) 11 (stage ds ss is [] []) (kind_base u 9 + length (each_words extern_words es)) 11 (stage ds ss is es [])
  externs_go at = each_goes extern_words no_extern 11 (kind_base u 9) (λ zs. stage ds ss is zs []) es at
      (λ i p l e a.
      let n = placed_length extern_put extern_size (kind_base u 9) u.externs in
      let b = before_length no_extern es i l in
      let z = sized_length extern_words extern_size (λ x. refl) (take i es) in
      let to : kind_base u 9 + extern_size * i ≡ p = omega arith in
      let li : i < length u.externs = omega arith in
      let put = placed_at extern_put extern_size no_extern (kind_base u 9) u.externs in
      let y = extern_put (kind_base u 9 + extern_size * i) (get_or u.externs i no_extern) in
      let new : any (same_extern y) (take i es) ≡ false =
      before_any no_extern es i l (same_extern y) (λ j o. ap (same_extern y) (put j (omega arith)) ∙ v.once.externs j i o li) in
      subst (λ y. At X p (extern_words y) → Goes X p 11 (stage ds ss is (take i es) []) (p + length (extern_words y)) 11
      (stage ds ss is (take i es ++ (y ∷ [])) []))
      (sym (put i li))
      (λ h. extern_goes_on (take i es) i (kind_base u 9 + extern_size * i) li new to h) a)

  -- members

  module _ (x : Member) (b : Belongs u.definitions x) where
    abbrev named : Definition
    named = get_or ds x.definition no_definition

    member_is : is_member x.kind x.parent x.name named ≡ true
    member_is =
        by_test (eqb x.kind 0)
        (λ c.
        let e = b.variant (eqb-true x.kind 0 c) in
        rw (
          c,
          eq-eqb named.kind 2 (kind_stays x.definition ∙ e.0),
          eq-eqb named.first x.parent (first_stays x.definition ∙ e.1),
          eq-eqb named.second x.name (second_stays x.definition ∙ e.2),
        ))
        (λ c. rw (c, eq-eqb named.kind 4 (kind_stays x.definition ∙ b.other (eqb-false x.kind 0 c))))

    member_placed_lem : (zs : List Member) → member_placed (stage ds ss is es zs) x ≡ true
    member_placed_lem zs = rw (eq-eqb (get_or ds x.parent no_definition).kind 4 (kind_stays x.parent ∙ b.parent), member_is)

  members_go : (base : ℕ) → At X base (each_words member_words u.members)
      → Goes X base 13 (stage ds ss is es []) (base + length (each_words member_words u.members)) 13 (stage ds ss is es u.members)
  members_go base at = each_goes member_words no_member 13 base (λ zs. stage ds ss is es zs) u.members at
      (λ i p l e a.
      let x = get_or u.members i no_member in
      let f = each_at no_member i v.ranges.members l in
      let m = v.limits.definitions in
      let k = v.limits.names in
      let n = ds_length in
      let f0 = f.parent in
      let f1 = f.name in
      let f2 = f.definition in
      let f3 = f.kind in
      let f4 = f.bits in
      member_goes (stage ds ss is es (take i u.members)) x a (omega arith) (omega arith) (omega arith) (omega arith) (omega arith)
      (rw (le-leb x.kind 3 f3, le-leb x.bits 3 f4))
      (rw (lt-ltb x.parent (length ds) (omega arith), lt-ltb x.name (length u.names) f1, lt-ltb x.definition (length ds) (omega arith)))
      (member_placed_lem x (each_at no_member i v.members l) (take i u.members)))

  -- the last tests

  filled : maps_filled u ≡ true
  filled = all_rows (λ k. any (is_in k) u.modules) 0 (length u.maps)
      (λ k l. let f = v.filled k (omega arith) in any_has (is_in k) no_module u.modules f.0 f.1 (eq-eqb (map_in u.modules f.0) k f.2))

  own : crates_own u ≡ true
  own = all_rows (λ c. any (is_own c) u.maps) 0 (length u.crates)
      (λ c l. let f = v.owned.some c (omega arith) in
      any_has (is_own c) no_map u.maps f.0 f.1 (rw (eq-eqb (crate_in u.maps f.0) c f.2, eq-eqb (block_in u.maps f.0) 0 f.3)))

  finished : (at : ℕ) → finish at (stage ds ss is es u.members) ≡ accept (placed u)
  unfolding finish placed
  finished at = rw (finish, filled, own)

-- where the words of each kind stand

part_at : {X : List ℕ} {b : ℕ} (ws : List (List ℕ)) (k : ℕ) → k < length ws → At X b (written.joined ws)
    → At X (b + length (written.joined (take k ws))) (get_or ws k [])
unfolding written.joined
part_at [] k l a = absurd (omega arith)
part_at {X} {b} (w ∷ ws) zero l a = subst (λ p. At X p w) (sym (add-zero b)) (at_left w (written.joined ws) a)
part_at {X} {b} (w ∷ ws) (suc k) l a =
    let n = length-append w (written.joined (take k ws)) in
    let e : b + length w + length (written.joined (take k ws)) ≡ b + length (w ++ written.joined (take k ws)) = omega arith in
    subst (λ p. At X p (get_or ws k [])) e (part_at {b = b + length w} ws k (omega arith) (at_right w (written.joined ws) a))

part_next : (ws : List (List ℕ)) (k : ℕ) → k < length ws
    → length (written.joined (take k ws)) + length (get_or ws k []) ≡ length (written.joined (take (suc k) ws))
unfolding written.joined
part_next [] k l = absurd (omega arith)
part_next (w ∷ ws) zero l = let n = length-append w [] in omega arith
part_next (w ∷ ws) (suc k) l =
    let e = part_next ws k (omega arith) in
    let n = length-append w (written.joined (take k ws)) in
    let m = length-append w (written.joined (take (suc k) ws)) in
    omega arith

module _ (u : Snapshot) (v : Valid u) (w : Whole u) where
  abbrev X : List ℕ
  X = snapshot_words u

  here : At X 0 (written.joined (kinds_words u))
  unfolding snapshot_words
  here = record { same = λ i l. ap (λ j. get_or X j 0) (zero-add i); within = omega arith }

  piece : (k : ℕ) → k < 11 → At X (kind_base u k) (get_or (kinds_words u) k [])
  piece k l = subst (λ p. At X p (get_or (kinds_words u) k [])) (zero-add (kind_base u k)) (part_at (kinds_words u) k l here)

  to_next : {a b : ℕ} {s t : Snapshot} (k : ℕ) → k < 11 → {ws : List ℕ} → ws ≡ get_or (kinds_words u) k []
      → Goes X (kind_base u k) a s (kind_base u k + length ws) b t
      → Goes X (kind_base u k) a s (kind_base u (suc k)) b t
  to_next {a} {b} {s} {t} k l e g =
      subst (λ q. Goes X (kind_base u k) a s q b t) (ap (λ y. kind_base u k + length y) e ∙ part_next (kinds_words u) k l) g

  definitions_same : each_words definition_words (ds X u v w) ≡ each_words definition_words u.definitions
  definitions_same = placed_words definition_put definition_size definition_words (λ j x. refl) (kind_base u 6) u.definitions

  scopes_same : each_words scope_words (ss X u v w) ≡ each_words scope_words u.scopes
  unfolding scope_words
  scopes_same = placed_words scope_put scope_size scope_words (λ j x. refl) (kind_base u 7) u.scopes

  imports_same : each_words import_words (is X u v w) ≡ each_words import_words u.imports
  imports_same = placed_words import_put import_size import_words (λ j x. refl) (kind_base u 8) u.imports

  externs_same : each_words extern_words (es X u v w) ≡ each_words extern_words u.externs
  externs_same = placed_words extern_put extern_size extern_words (λ j x. refl) (kind_base u 9) u.externs

  first_half : Goes X 0 1 (lists [] [] [] [] [] [] [] [] [] [] [] []) (kind_base u 6) 7 (stage X u v w [] [] [] [] [])
  unfolding written.joined
  first_half =
      goes_then (omega arith) (to_next 0 (omega arith) refl (names_go X u v w (piece 0 (omega arith))))
      (goes_then (omega arith) (to_next 1 (omega arith) refl (crates_go X u v w (kind_base u 1) (piece 1 (omega arith))))
      (goes_then (omega arith) (to_next 2 (omega arith) refl (dependencies_go X u v w (kind_base u 2) (piece 2 (omega arith))))
      (goes_then (omega arith) (to_next 3 (omega arith) refl (tree_go X u v w (piece 3 (omega arith))))
      (goes_then (omega arith) (to_next 4 (omega arith) refl (children_go X u v w (kind_base u 4) (piece 4 (omega arith))))
      (to_next 5 (omega arith) refl (preludes_go X u v w (kind_base u 5) (piece 5 (omega arith))))))))

  second_half : Goes X (kind_base u 6) 8 (stage X u v w [] [] [] [] []) (kind_base u 11) 13 (stage X u v w (ds X u v w) (ss X u v w)
      (is X u v w) (es X u v w) u.members)
  second_half =
      goes_then (omega arith)
      (to_next 6 (omega arith) definitions_same
      (definitions_go X u v w (subst (At X (kind_base u 6)) (sym definitions_same) (piece 6 (omega arith)))))
      (goes_then (omega arith)
      (to_next 7 (omega arith) scopes_same (scopes_go X u v w (subst (At X (kind_base u 7)) (sym scopes_same) (piece 7 (omega arith)))))
      (goes_then (omega arith)
      (to_next 8 (omega arith) imports_same (imports_go X u v w (subst (At X (kind_base u 8)) (sym imports_same) (piece 8 (omega arith)))))
      (goes_then (omega arith)
      (to_next 9 (omega arith) externs_same (externs_go X u v w (subst (At X (kind_base u 9)) (sym externs_same) (piece 9 (omega arith)))))
      (to_next 10 (omega arith) refl (members_go X u v w (kind_base u 10) (piece 10 (omega arith)))))))

  -- The words of a valid snapshot are accepted, as that snapshot with its records at their places.
  pub written_accepted : length (snapshot_words u) ≤ word_limit → verdict (snapshot_words u) ≡ accept (placed u)
  unfolding snapshot_words
  written_accepted short =
      let all = goes_then (omega arith) first_half second_half in
      let r = all.on (length X) 0 (omega arith) (omega arith) in
      let t = stage X u v w (ds X u v w) (ss X u v w) (is X u v w) (es X u v w) u.members in
      verdict_is X short ∙ r.4 ∙ records_end X (kind_base u 11) r.1 t r.0 (omega arith) ∙ finished X u v w (length X)
