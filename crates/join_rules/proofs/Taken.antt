-- One record of each kind, in words: where it passes its tests the check takes it.
use Prim.Native.Nat.{ℕ, zero, suc, ◌+◌, ◌*◌, ◌-◌, ◌/◌, ◌%◌, ◌≤◌, ◌<◌}
use mathlib.Core.Path.{◌≡◌, refl, sym, ◌∙◌, ap}
use mathlib.Core.List.{List, [], ◌∷◌}
use mathlib.Core.Bool.{true, false, not}
use native.Mathlib.Omega.{arith}
use borrow.Author.Tests.{le-leb, ltb-true}
use lib.Dec.{eqb, leb, ltb}
use lib.ListN.{length, get_or}
use Rattle.snapshot.specs.Lists.{any, rows}
use Rattle.snapshot.specs.Limits.{crate_limit, module_limit, name_limit, definition_limit}
use Rattle.snapshot.specs.Words.{words_of, arguments_of}
use Rattle.snapshot.specs.Records.{Name, Crate, Dependency, Map, Module, Child, Prelude, Definition, Scope, Import, Extern, Member, Snapshot, name_at}
use Rattle.snapshot.specs.Records.{crate_at, dependency_at, map_at, module_at, child_at, prelude_at, definition_at, scope_at, import_at, extern_at}
use Rattle.snapshot.specs.Records.{member_at}
use Rattle.check_rules.specs.Tests.{text_bound, padded, child_defined, child_placed, counts_of, crate_range, is_edition, definition_defined}
use Rattle.check_rules.specs.Tests.{definition_placed, definition_range, definition_repeated, dependency_defined, dependency_range, extern_defined}
use Rattle.check_rules.specs.Tests.{import_defined, import_range, map_defined, map_placed, map_range, map_repeated, member_defined, member_placed}
use Rattle.check_rules.specs.Tests.{member_range, module_defined, module_placed, name_range, ns_placed, prelude_defined, same_child, same_entry}
use Rattle.check_rules.specs.Tests.{same_extern}
use Rattle.check_rules.specs.Tests.{same_name, same_prelude, scope_defined, scope_range}
use Rattle.check_rules.specs.Steps.{on, add_name, add_crate, add_dependency, add_map, add_module, add_child, add_prelude, add_definition, add_scope}
use Rattle.check_rules.specs.Steps.{add_import}
use Rattle.check_rules.specs.Steps.{add_extern, add_member, name_step, crate_step, dependency_step, map_step, module_step, child_step, prelude_step}
use Rattle.check_rules.specs.Steps.{definition_step, scope_step, import_step, extern_step, member_step}
use Rattle.check_rules.specs.Verdict.{follows, record_step}
use Rattle.accept.specs.Valid.{Each, none, more}
use Rattle.accept.proofs.Bools.{and_two}
use Rattle.edit_rules.specs.Entries.{scope_words}
use Rattle.edit_rules.specs.Written.{name_words, crate_words, dependency_words, map_words, module_words, child_words, prelude_words, definition_words}
use Rattle.edit_rules.specs.Written.{import_words, extern_words, member_words}
use Rattle.join_rules.proofs.Runs.{At, at_next, at_rows, Goes, Small, pay_is, record_goes}

follows_up : (k n : ℕ) → leb 1 k ≡ true → leb k 13 ≡ true → not (eqb k 12) ≡ true → n ≤ k → follows n k ≡ true
follows_up k n a b c h = rw (a, b, c, le-leb n k h)

follows_map : (n : ℕ) → n ≤ 5 → follows n 4 ≡ true
follows_map zero h = refl
follows_map (suc zero) h = refl
follows_map (suc (suc zero)) h = refl
follows_map (suc (suc (suc zero))) h = refl
follows_map (suc (suc (suc (suc zero)))) h = refl
follows_map (suc (suc (suc (suc (suc zero))))) h = refl
follows_map (suc (suc (suc (suc (suc (suc n)))))) h = absurd (omega arith)

bound_small : (b : ℕ) → text_bound b ≤ 16777216
unfolding text_bound
bound_small zero = omega arith
bound_small (suc zero) = omega arith
bound_small (suc (suc zero)) = omega arith
bound_small (suc (suc (suc b))) = omega arith

padded_small : (b : ℕ) (ws : List ℕ) → padded b ws ≡ true → Each Small ws
unfolding padded
padded_small b [] e = none
padded_small b (w ∷ ws) e =
    let p = and_two (ltb w (text_bound b)) (padded (b - 3) ws) e in
    let l = ltb-true w (text_bound b) p.0 in
    let m = bound_small b in
    let o : Small w = omega arith in
    more o (padded_small (b - 3) ws p.1)

pub name_goes : (s : Snapshot) (x : Name) {X : List ℕ} {p : ℕ} → At X p (name_words x) → x.bytes ≤ 255 → padded x.bytes x.text ≡ true
    → length x.text ≡ words_of x.bytes → name_range x ≡ true → any (same_name x) s.names ≡ false → ltb (length s.names) name_limit ≡ true
    → Goes X p 1 s (p + length (name_words x)) 1 (add_name s x)
unfolding record_step name_step arguments_of
name_goes s x {X} {p} at b pad size a c e =
    let l : x.bytes < 268435456 = omega arith in
    let n = pay_is 1 x.bytes at l in
    let t = ap (λ m. rows (λ i. get_or X (p + 1 + i) 0) 0 (words_of m)) n ∙ at_rows x.text (words_of x.bytes) size (at_next _ x.text at) in
    let r : name_at X p ≡ x = λ i. record { bytes = n i; text = t i } in
    let q : name_step s x ≡ on (add_name s x) = rw (name_step, a, c, e) in
    record_goes 1 x.bytes at l 1 s (add_name s x) (padded_small x.bytes x.text pad) (λ n h. follows_up 1 n refl refl refl h)
    (sym size) (ap (name_step s) r ∙ q)

pub crate_goes : (s : Snapshot) (x : Crate) {X : List ℕ} {p : ℕ} → At X p (crate_words x) → x.origin ≤ 4 → x.no_std ≤ 1 → x.edition < 268435456
    → crate_range x ≡ true → is_edition x.edition ≡ true → ltb (length s.crates) crate_limit ≡ true
    → Goes X p 2 s (p + length (crate_words x)) 2 (add_crate s x)
unfolding record_step crate_step arguments_of
crate_goes s x {X} {p} at o m l a b e =
    let w : x.origin + 8 * x.no_std < 268435456 = omega arith in
    let n = pay_is 2 (x.origin + 8 * x.no_std) at w in
    let f : (x.origin + 8 * x.no_std) % 8 ≡ x.origin = omega arith in
    let g : (x.origin + 8 * x.no_std) / 8 ≡ x.no_std = omega arith in
    let u = ap (λ j. j % 8) n ∙ f in
    let v = ap (λ j. j / 8) n ∙ g in
    let r : crate_at X p ≡ x = λ i. record { origin = u i; no_std = v i; edition = at.same 1 (omega arith) i } in
    let q : crate_step s x ≡ on (add_crate s x) = rw (crate_step, a, b, e) in
    record_goes 2 (x.origin + 8 * x.no_std) at w 2 s (add_crate s x) (more l none) (λ n h. follows_up 2 n refl refl refl h) refl
    (ap (crate_step s) r ∙ q)

pub dependency_goes : (s : Snapshot) (x : Dependency) {X : List ℕ} {p : ℕ} → At X p (dependency_words x) → Small x.owner
    → Small x.crate → Small x.sysroot
    → dependency_range x ≡ true → dependency_defined (counts_of s) x ≡ true
    → Goes X p 3 s (p + length (dependency_words x)) 3 (add_dependency s x)
unfolding record_step dependency_step arguments_of
dependency_goes s x {X} {p} at l h1 h2 a b =
    let n = pay_is 3 x.owner at l in
    let r : dependency_at X p ≡ x = λ i. record { owner = n i; crate = at.same 1 (omega arith) i; sysroot = at.same 2 (omega arith) i } in
    let q : dependency_step s x ≡ on (add_dependency s x) = rw (dependency_step, a, b) in
    record_goes 3 x.owner at l 3 s (add_dependency s x) (more h1 (more h2 none)) (λ n h. follows_up 3 n refl refl refl h) refl
    (ap (dependency_step s) r ∙ q)

pub map_goes : (s : Snapshot) (x : Map) {X : List ℕ} {p : ℕ} → At X p (map_words x) → Small x.crate → Small x.block → Small x.no_std
    → map_range x ≡ true → map_defined (counts_of s) x ≡ true → map_repeated s x ≡ false → map_placed s x ≡ true
    → Goes X p 5 s (p + length (map_words x)) 4 (add_map s x)
unfolding record_step map_step arguments_of
map_goes s x {X} {p} at l h1 h2 a b c d =
    let n = pay_is 4 x.crate at l in
    let r : map_at X p ≡ x = λ i. record { crate = n i; block = at.same 1 (omega arith) i; no_std = at.same 2 (omega arith) i } in
    let q : map_step s x ≡ on (add_map s x) = rw (map_step, a, b, c, d) in
    record_goes 4 x.crate at l 5 s (add_map s x) (more h1 (more h2 none)) (follows_map) refl (ap (map_step s) r ∙ q)

pub module_goes : (s : Snapshot) (x : Module) {X : List ℕ} {p : ℕ} → At X p (module_words x) → Small x.map → Small x.parent
    → module_defined (counts_of s) x ≡ true → module_placed s x ≡ true → ltb (length s.modules) module_limit ≡ true
    → Goes X p 5 s (p + length (module_words x)) 5 (add_module s x)
unfolding record_step module_step arguments_of
module_goes s x {X} {p} at l h1 b d e =
    let n = pay_is 5 x.map at l in
    let r : module_at X p ≡ x = λ i. record { map = n i; parent = at.same 1 (omega arith) i } in
    let q : module_step s x ≡ on (add_module s x) = rw (module_step, b, d, e) in
    record_goes 5 x.map at l 5 s (add_module s x) (more h1 none) (λ n h. follows_up 5 n refl refl refl h) refl (ap (module_step s) r ∙ q)

pub child_goes : (s : Snapshot) (x : Child) {X : List ℕ} {p : ℕ} → At X p (child_words x) → Small x.owner → Small x.child
    → child_defined (counts_of s) x ≡ true → any (same_child x) s.children ≡ false → child_placed s x ≡ true
    → Goes X p 6 s (p + length (child_words x)) 6 (add_child s x)
unfolding record_step child_step arguments_of
child_goes s x {X} {p} at l h1 b c d =
    let n = pay_is 6 x.owner at l in
    let r : child_at X p ≡ x = λ i. record { owner = n i; child = at.same 1 (omega arith) i } in
    let q : child_step s x ≡ on (add_child s x) = rw (child_step, b, c, d) in
    record_goes 6 x.owner at l 6 s (add_child s x) (more h1 none) (λ n h. follows_up 6 n refl refl refl h) refl (ap (child_step s) r ∙ q)

pub prelude_goes : (s : Snapshot) (x : Prelude) {X : List ℕ} {p : ℕ} → At X p (prelude_words x) → Small x.map → Small x.target
    → prelude_defined (counts_of s) x ≡ true → any (same_prelude x) s.preludes ≡ false
    → Goes X p 7 s (p + length (prelude_words x)) 7 (add_prelude s x)
unfolding record_step prelude_step arguments_of
prelude_goes s x {X} {p} at l h1 b c =
    let n = pay_is 7 x.map at l in
    let r : prelude_at X p ≡ x = λ i. record { map = n i; target = at.same 1 (omega arith) i } in
    let q : prelude_step s x ≡ on (add_prelude s x) = rw (prelude_step, b, c) in
    record_goes 7 x.map at l 7 s (add_prelude s x) (more h1 none) (λ n h. follows_up 7 n refl refl refl h) refl (ap (prelude_step s) r ∙ q)

pub definition_goes : (s : Snapshot) (x : Definition) {X : List ℕ} {p : ℕ} → At X p (definition_words x) → x.place ≡ p → Small x.kind
    → Small x.first → Small x.second
    → definition_range s x ≡ true → definition_defined (counts_of s) x ≡ true → definition_repeated s x ≡ false → definition_placed s x ≡ true
    → ltb (length s.definitions) definition_limit ≡ true
    → Goes X p 8 s (p + length (definition_words x)) 8 (add_definition s x)
unfolding record_step definition_step arguments_of
definition_goes s x {X} {p} at g l h1 h2 a b c d e =
    let n = pay_is 8 x.kind at l in
    let f1 = at.same 1 (omega arith) in
    let f2 = at.same 2 (omega arith) in
    let r : definition_at X p ≡ x = λ i. record { kind = n i; first = f1 i; second = f2 i; place = sym g i } in
    let q : definition_step s x ≡ on (add_definition s x) = rw (definition_step, a, b, c, d, e) in
    record_goes 8 x.kind at l 8 s (add_definition s x) (more h1 (more h2 none)) (λ n h. follows_up 8 n refl refl refl h) refl
    (ap (definition_step s) r ∙ q)

pub scope_goes : (s : Snapshot) (x : Scope) {X : List ℕ} {p : ℕ} → At X p (scope_words x) → x.place ≡ p → Small x.owner
    → Small x.ns → Small x.name → Small x.definition → Small x.visibility → Small x.number → Small x.declared → Small x.bits
    → scope_range x ≡ true → scope_defined (counts_of s) x ≡ true → any (same_entry x) s.scopes ≡ false → ns_placed s x.ns x.definition ≡ true
    → Goes X p 9 s (p + length (scope_words x)) 9 (add_scope s x)
unfolding record_step scope_step arguments_of scope_words
scope_goes s x {X} {p} at g l h1 h2 h3 h4 h5 h6 h7 a b c d =
    let n = pay_is 9 x.owner at l in
    let r : scope_at X p ≡ x = λ i. record {
      owner = n i;
      ns = at.same 1 (omega arith) i;
      name = at.same 2 (omega arith) i;
      definition = at.same 3 (omega arith) i;
      visibility = at.same 4 (omega arith) i;
      number =
          at.same 5 (omega arith) i;
      declared = at.same 6 (omega arith) i;
      bits = at.same 7 (omega arith) i;
      place = sym g i;
    } in
    let q : scope_step s x ≡ on (add_scope s x) = rw (scope_step, a, b, c, d) in
    record_goes 9 x.owner at l 9 s (add_scope s x) (more h1 (more h2 (more h3 (more h4 (more h5 (more h6 (more h7 none)))))))
    (λ n h. follows_up 9 n refl refl refl h) refl (ap (scope_step s) r ∙ q)

pub import_goes : (s : Snapshot) (x : Import) {X : List ℕ} {p : ℕ} → At X p (import_words x) → x.place ≡ p → Small x.owner
    → Small x.ns → Small x.definition → Small x.name → Small x.container → Small x.bits
    → import_range x ≡ true → import_defined (counts_of s) x ≡ true → ns_placed s x.ns x.definition ≡ true
    → Goes X p 10 s (p + length (import_words x)) 10 (add_import s x)
unfolding record_step import_step arguments_of
import_goes s x {X} {p} at g l h1 h2 h3 h4 h5 a b d =
    let n = pay_is 10 x.owner at l in
    let r : import_at X p ≡ x = λ i. record {
      owner = n i;
      ns = at.same 1 (omega arith) i;
      definition = at.same 2 (omega arith) i;
      name = at.same 3 (omega arith) i;
      container = at.same 4 (omega arith) i;
      bits =
          at.same 5 (omega arith) i;
      place = sym g i;
    } in
    let q : import_step s x ≡ on (add_import s x) = rw (import_step, a, b, d) in
    record_goes 10 x.owner at l 10 s (add_import s x) (more h1 (more h2 (more h3 (more h4 (more h5 none)))))
    (λ n h. follows_up 10 n refl refl refl h) refl (ap (import_step s) r ∙ q)

pub extern_goes : (s : Snapshot) (x : Extern) {X : List ℕ} {p : ℕ} → At X p (extern_words x) → x.place ≡ p → Small x.owner
    → Small x.name → Small x.target
    → extern_defined (counts_of s) x ≡ true → any (same_extern x) s.externs ≡ false
    → Goes X p 11 s (p + length (extern_words x)) 11 (add_extern s x)
unfolding record_step extern_step arguments_of
extern_goes s x {X} {p} at g l h1 h2 b c =
    let n = pay_is 11 x.owner at l in
    let r : extern_at X p ≡ x = λ i. record { owner = n i; name = at.same 1 (omega arith) i; target = at.same 2 (omega arith) i; place = sym g i } in
    let q : extern_step s x ≡ on (add_extern s x) = rw (extern_step, b, c) in
    record_goes 11 x.owner at l 11 s (add_extern s x) (more h1 (more h2 none)) (λ n h. follows_up 11 n refl refl refl h) refl
    (ap (extern_step s) r ∙ q)

pub member_goes : (s : Snapshot) (x : Member) {X : List ℕ} {p : ℕ} → At X p (member_words x) → Small x.parent → Small x.name
    → Small x.definition → Small x.kind → Small x.bits
    → member_range x ≡ true → member_defined (counts_of s) x ≡ true → member_placed s x ≡ true
    → Goes X p 13 s (p + length (member_words x)) 13 (add_member s x)
unfolding record_step member_step arguments_of
member_goes s x {X} {p} at l h1 h2 h3 h4 a b d =
    let n = pay_is 13 x.parent at l in
    let f1 = at.same 1 (omega arith) in
    let f2 = at.same 2 (omega arith) in
    let f3 = at.same 3 (omega arith) in
    let f4 = at.same 4 (omega arith) in
    let r : member_at X p ≡ x = λ i. record { parent = n i; name = f1 i; definition = f2 i; kind = f3 i; bits = f4 i } in
    let q : member_step s x ≡ on (add_member s x) = rw (member_step, a, b, d) in
    record_goes 13 x.parent at l 13 s (add_member s x) (more h1 (more h2 (more h3 (more h4 none))))
    (λ n h. follows_up 13 n refl refl refl h) refl (ap (member_step s) r ∙ q)
