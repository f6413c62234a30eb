use mathlib.Core.Path.{◌≡◌, refl, sym, ◌∙◌, ap}
use lib.Dec.{eqb}
use borrow.Author.Tests.{eqb-true, eqb-false}
use Rattle.std.proofs.Common.{rules}
use mathlib.Core.List.{[], ◌∷◌}
use Rattle.snapshot.specs.Records.{scope_at, member_at}
use Rattle.imports.proofs.lists.Writing.{space_as, wrote_as, wrote_none, kept_none, kept_one, member_same_import, bounded_as}
use Rattle.imports.proofs.lists.write.put_member.Goals as goal

pub returns-then-eq : goal.returns-then-eq
returns-then-eq c =
    let W = c.args.words.now in
    let v : c.eq.result ≡ eqb (member_at W c.args.member).kind 3 = search rules in
    wrote_none (kept_none c.args.c.0 (scope_at W c.args.entry) (member_at W c.args.member) (eqb-true _ _ (sym v ∙ c.if-eq.true)))

pub put_import-requires : goal.put_import-requires
put_import-requires c =
    let W = c.args.words.now in
    let e = scope_at W c.args.entry in
    let x = member_at W c.args.member in
    let q = member_same_import c.args.c.0 e x refl c.scope_ns.ensures
    (c.member_ns.ensures _ c.known_member_kind-kind.ensures) c.member_definition.ensures
    c.member_name.ensures
    c.scope_owner.ensures c.member_bits.ensures in
    let v : c.eq.result ≡ eqb (member_at W c.args.member).kind 3 = search rules in
    let o = kept_one c.args.c.0 e x (eqb-false _ _ (sym v ∙ c.if-eq.false)) in
    (bounded_as c.requires.bounded q, space_as c.requires.space (o ∙ ap (λ y. y ∷ []) (sym q)))

pub returns : goal.returns
returns c =
    let W = c.args.words.now in
    let e = scope_at W c.args.entry in
    let x = member_at W c.args.member in
    let q = member_same_import c.args.c.0 e x refl c.scope_ns.ensures
    (c.member_ns.ensures _ c.known_member_kind-kind.ensures) c.member_definition.ensures
    c.member_name.ensures
    c.scope_owner.ensures c.member_bits.ensures in
    let v : c.eq.result ≡ eqb (member_at W c.args.member).kind 3 = search rules in
    let o = kept_one c.args.c.0 e x (eqb-false _ _ (sym v ∙ c.if-eq.false)) in
    wrote_as c.put_import.ensures (ap (λ y. y ∷ []) q ∙ sym o)
