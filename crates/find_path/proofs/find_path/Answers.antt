use native.Mathlib.Omega.{arith}
use Prim.Native.Nat.{◌≤◌}
use mathlib.Core.Path.{refl, sym, ap, ◌∙◌, subst}
use mathlib.Core.Bool.{◌&&◌}
use lib.Dec.{eqb}
use Rattle.hir_def.specs.Items.{ns_of}
use Rattle.hir_def.specs.Entries.{Known}
use Rattle.hir_def.specs.declared.Item.{Item}
use Rattle.hir_def.proofs.Climbs.{some_number, none_number}
use Rattle.hir_def.proofs.Fits.{item_known}
use Rattle.snapshot.specs.declared.ids.DefinitionKind.TheVariants.{Builtin}
use Rattle.hir_def.proofs.KindTests.{kind_is}
use Rattle.find_path_spec.specs.Rules.{module_in}
use Rattle.find_path_spec.specs.Charged.{found_of}
use Rattle.find_path.proofs.charged_search.Holding.{module_small}
use Rattle.find_path.proofs.Items.{item_ns}
use Rattle.find_path.proofs.Starts.{builtin_kind_lem, home_there, context_from, context_limit, start_builtin, start_none, start_item}
use Rattle.snapshot.specs.Laid.{snap_by}
use Rattle.find_path.proofs.find_path.Goals as goal

pub builtin_choice-requires : goal.builtin_choice-requires
builtin_choice-requires c =
    let a = c.args in (
      c.requires.1,
      builtin_kind_lem (snap_by a.records.now a.area.now) a.q.ns a.q.definition.0
          refl (ap (λ b. eqb a.q.ns 0 && b) (sym (kind_is Builtin _ c.eq.ensures (c.known_kind_of.ensures a.area.now))) ∙ c.if-q-eq.true),
    )

pub returns-then-q-eq : goal.returns-then-q-eq
returns-then-q-eq c =
    let a = c.args in
    record {
      same = start_builtin (snap_by a.records.now a.area.now) a.q a.fuel
          refl (ap (λ b. eqb a.q.ns 0 && b) (sym (kind_is Builtin _ c.eq.ensures (c.known_kind_of.ensures a.area.now))) ∙ c.if-q-eq.true)
          c.builtin_choice.ensures;
      tables = refl;
    }

pub returns-in_default : goal.returns-in_default
returns-in_default c =
    let a = c.args in
    record {
      same = start_none (snap_by a.records.now a.area.now) a.q a.fuel _ _
          refl (ap (λ b. eqb a.q.ns 0 && b) (sym (kind_is Builtin _ c.eq.ensures (c.known_kind_of.ensures a.area.now))) ∙ c.if-q-eq.false)
          (c.item_of-item.ensures a.area.now) (c.home_of.ensures a.area.now)
          (none_number _ refl c.in_default.is);
      tables = refl;
    }

pub module_in-own-requires : goal.module_in-own-requires
module_in-own-requires c =
    let a = c.args in
    let k = subst (Known a.records.now.layout) (sym (c.item_of-item.ensures a.area.now))
    (item_known a.records.now.words.now a.area.now a.records.now.layout c.requires.0 a.q.ns a.q.definition.0 c.requires.1) in
    module_small a.records.now.words.now a.area.now a.records.now.layout _ c.requires.0 k

pub context-x-requires : goal.context-x-requires
context-x-requires c =
    let a = c.args in
    let i = c.item_of-item.ensures a.area.now in
    let k = subst (Known a.records.now.layout) (sym (c.item_of-item.ensures a.area.now))
    (item_known a.records.now.words.now a.area.now a.records.now.layout c.requires.0 a.q.ns a.q.definition.0 c.requires.1) in (
      c.requires.2,
      home_there a.records.now.words.now a.area.now a.records.now.layout c.requires.0 _ k
          (c.home_of.ensures a.area.now) (some_number _ refl c.in-Some.is),
      c.module_in-own.ensures ∙ ap module_in i,
    )

pub find_path_inner-requires : goal.find_path_inner-requires
find_path_inner-requires c =
    let a = c.args in
    let k = subst (Known a.records.now.layout) (sym (c.item_of-item.ensures a.area.now))
    (item_known a.records.now.words.now a.area.now a.records.now.layout c.requires.0 a.q.ns a.q.definition.0 c.requires.1) in
    let f = context_from (snap_by a.records.now a.area.now) a.q _ c.context-x.ensures in
    let n = context_limit (snap_by a.records.now a.area.now) a.q _ c.context-x.ensures in (
      record {
        reads = c.requires.0;
        from = omega (arith, f, c.requires.2);
        area = c.told-area;
        some = omega (arith, n, c.requires.5);
        limit =
            omega (arith, n, c.requires.6);
      },
      (
        k,
        subst (λ (y : Item). ns_of y ≤ 2) (sym (c.item_of-item.ensures
            a.area.now)) (item_ns (snap_by a.records.now a.area.now) _ _ c.requires.3),
      ),
      omega (arith, c.requires.4),
    )

pub returns : goal.returns
returns c =
    let a = c.args in
    let f = c.find_path_inner in
    record {
      same = f.ensures.same ∙ ap found_of (start_item (snap_by a.records.now a.area.now) a.q a.fuel _ _
          refl (ap (λ b. eqb a.q.ns 0 && b) (sym (kind_is Builtin _ c.eq.ensures (c.known_kind_of.ensures a.area.now))) ∙ c.if-q-eq.false)
          (c.item_of-item.ensures a.area.now)
          (c.home_of.ensures a.area.now)
          (some_number _ refl c.in-Some.is)
          c.context-x.ensures);
      tables = f.ensures.tables;
    }
