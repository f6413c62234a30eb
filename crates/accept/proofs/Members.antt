-- The members of an accepted snapshot belong to their parents.
use mathlib.Core.Path.{◌≡◌, ap, ◌∙◌}
use Prim.Native.Nat.{ℕ, ◌<◌}
use native.Mathlib.Omega.{arith}
use mathlib.Core.List.{List, [], ◌∷◌, ◌++◌}
use mathlib.Core.Bool.{true, ◌&&◌, ◌||◌, not}
use lib.Dec.{eqb, ltb}
use lib.ListN.{length}
use borrow.Author.Tests.{eqb-true, eq-eqb, ne_eqb, ltb-true}
use Rattle.snapshot.specs.Records.{Snapshot, Definition, Member}
use Rattle.check_rules.specs.Tests.{counts_of, no_definition, kind_of_definition, is_member, member_defined, member_placed}
use Rattle.check_rules.specs.Verdict.{accept, verdict}
use Rattle.accept.specs.Valid.{Each, none, definition_in, Belongs}
use Rattle.accept.proofs.Accepted.{Keeps, verdict_keeps}
use Rattle.accept.proofs.Bools.{and_two, and_three, unless_right, or_right, length_snoc, get_or_old, each_map, each_snoc}

record Held (ds : List Definition) (x : Member) : Type 0 where
  above : x.parent < length ds
  known : x.definition < length ds
  right : Belongs ds x

abbrev Members : Snapshot → Type 0
Members s = Each (Held s.definitions) s.members

held_kept : (ds : List Definition) (y : Definition) (x : Member) → Held ds x → Held (ds ++ (y ∷ [])) x
held_kept ds y x h =
    let n = length_snoc ds y in
    let p = get_or_old ds y no_definition x.parent h.above in
    let d = get_or_old ds y no_definition x.definition h.known in
    record {
      above = omega (arith, h.above);
      known = omega (arith, h.known);
      right = record {
        parent = ap (λ (z : Definition). z.kind) p ∙ h.right.parent;
        variant = λ k.
            let v = h.right.variant k in
            (ap (λ (z : Definition). z.kind) d ∙ v.0, ap (λ (z : Definition). z.first) d ∙ v.1, ap (λ (z : Definition). z.second) d ∙ v.2);
        other = λ k. ap (λ (z : Definition). z.kind) d ∙ h.right.other k;
      };
    }

member_held : (s : Snapshot) (y : Member) → member_defined (counts_of s) y ≡ true → member_placed s y ≡ true → Held s.definitions y
member_held s y e p =
    let x = definition_in s.definitions y.definition in
    let a = and_three (ltb y.parent (length s.definitions)) (ltb y.name (length s.names))
    (ltb y.definition (length s.definitions)) e in
    let b = and_two (eqb (kind_of_definition s y.parent) 4) (is_member y.kind y.parent y.name x) p in
    let c = and_two (not (eqb y.kind 0) || eqb x.kind 2 && eqb x.first y.parent && eqb x.second y.name)
    (eqb y.kind 0 || eqb x.kind 4) b.1 in
    record {
      above = ltb-true _ _ a.0;
      known = ltb-true _ _ a.2;
      right = record {
        parent = eqb-true _ _ b.0;
        variant = λ k.
            let u = unless_right (eqb y.kind 0) (eqb x.kind 2 && eqb x.first y.parent && eqb x.second y.name)
            c.0 (eq-eqb y.kind 0 k) in
            let v = and_three (eqb x.kind 2) (eqb x.first y.parent) (eqb x.second y.name) u in
            (eqb-true _ _ v.0, eqb-true _ _ v.1, eqb-true _ _ v.2);
        other = λ k. eqb-true _ _ (or_right (eqb y.kind 0) (eqb x.kind 4) c.1 (ne_eqb y.kind 0 k));
      };
    }

members_kept : {W : List ℕ} → Keeps W Members
members_kept =
    record {
      names = λ s y p h. h;
      crates = λ s y p h. h;
      dependencies = λ s y p h. h;
      maps = λ s y p h. h;
      modules = λ s y p h. h;
      children = λ s y p h. h;
      preludes = λ s y p h. h;
      definitions = λ s y o p h. each_map (λ (x : Member) q. held_kept s.definitions y x q) h;
      scopes = λ s y o p h. h;
      imports = λ s y o p h. h;
      externs = λ s y o p h. h;
      members = λ s y p h. each_snoc h (member_held s y p.known p.right);
    }

pub accepted_members : (W : List ℕ) (s : Snapshot) → verdict W ≡ accept s → Each (Belongs s.definitions) s.members
accepted_members W s e = each_map (λ (x : Member) h. h.right) (verdict_keeps W Members members_kept none s e).kept
