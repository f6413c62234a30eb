use Prim.Native.Nat.{ℕ, ◌≤◌}
use native.Mathlib.Omega.{arith}
use mathlib.Core.Path.{◌≡◌, refl, sym, ap, ◌∙◌, subst}
use mathlib.Core.List.{List}
use Rattle.std.specs.Prelude.{Option, None}
use Rattle.snapshot.specs.Records.{definition_at}
use Rattle.snapshot.specs.declared.records.Records.{Records}
use Rattle.hir_def.specs.Items.{item_of, ns_of}
use Rattle.hir_def.specs.Entries.{Known, entry_of}
use Rattle.hir_def.specs.declared.Item.{Item}
use Rattle.find_path_choice.specs.Given.{given}
use Rattle.find_path_spec.specs.Charged.{found_of, given_found, variant_of}
use Rattle.find_path_spec.proofs.laws.Tables.{same_reads}
use Rattle.find_path.proofs.charged_search.Holding.{Offered}
use Rattle.find_path.proofs.charged_search.Runs.{begun_later}
use Rattle.find_path.proofs.Items.{number, item_ns, enum_no_variant, parent_of, inner_at_once, inner_by_name, name_found, name_plain}
use Rattle.hir_def.proofs.Climbs.{some_number, none_number}
use Rattle.find_path.proofs.Starts.{begun, straight_known, enum_offered, tank_stays, enum_run, else_run}
use Rattle.snapshot.specs.Laid.{snap_by}
use Rattle.find_path.proofs.+find_by_name_find_path_inner.Goals as goal

module _ (r : Records) (A : List ℕ) where
  -- the definition at a place that is told, and the item that its first word names
  definition_told : (item : Item) {o p : Option ℕ} → ((B : List ℕ) → entry_of definition_at r.words.now o ≡ variant_of (snap_by r B) item)
      → o ≡ p → entry_of definition_at r.words.now p ≡ variant_of (snap_by r A) item
  definition_told item told is = sym (ap (entry_of definition_at r.words.now) is) ∙ told A

  enum_told : {i : Item} {d e : ℕ} → ((B : List ℕ) → i ≡ item_of (snap_by r B) 0 d) → d ≡ e → i ≡ item_of (snap_by r A) 0 e
  enum_told told is = told A ∙ ap (item_of (snap_by r A) 0) is

pub find_by_name-returns-in-Some : goal.find_by_name-returns-in-Some
find_by_name-returns-in-Some t c =
    let a = c.args in
    record {
      same = name_found (snap_by a.records.now a.area.now) a.x a.item a.t c.in-Some.ensures refl;
      tables = refl;
    }

pub find_by_name-calculate_best_path-requires : goal.find_by_name-calculate_best_path-requires
find_by_name-calculate_best_path-requires t c =
    (begun c.requires.0, c.requires.1, c.requires.2)

pub find_by_name-returns-in_default-variant_of : goal.find_by_name-returns-in_default-variant_of
find_by_name-returns-in_default-variant_of t c =
    let a = c.args in
    let f = c.calculate_best_path in
    record {
      same = f.ensures.same ∙ ap found_of (name_plain (snap_by a.records.now a.area.now) a.x a.item a.t
          c.in_default.ensures refl
          (definition_told a.records.now a.area.now a.item c.variant_of.ensures c.in_default-variant_of.is));
      tables = f.ensures.tables;
    }

pub find_by_name-find_path_inner-o-requires : goal.find_by_name-find_path_inner-o-requires
find_by_name-find_path_inner-o-requires t c =
    let a = c.args in
    let g = enum_told a.records.now a.area.now c.item_of-parent.ensures c.definition_first.ensures in
    let p = parent_of _ _ _ c.requires.0.reads a.item _ c.requires.1.0
    (definition_told a.records.now a.area.now a.item c.variant_of.ensures c.in-Some-variant_of.is) in
    let n = ap number g in (
      omega (arith, c.decreases, p.falls, n),
      (
        c.requires.0,
        (
          subst (Known a.records.now.layout) (sym g) p.asked,
          subst (λ (y : Item). ns_of y ≤ 2) (sym g)
              (item_ns (snap_by a.records.now a.area.now) 0 _ (omega arith)),
        ),
        c.requires.2,
      ),
    )

pub find_by_name-calculate_best_path-requires-in_default-choice : goal.find_by_name-calculate_best_path-requires-in_default-choice
find_by_name-calculate_best_path-requires-in_default-choice t c =
    let a = c.args in (
      begun_later (begun c.requires.0) c.find_path_inner-o.ensures.tables (c.find_path_inner-o.array_long ∙ sym c.told-area),
      c.requires.1,
      omega (
        arith,
        c.requires.2,
        tank_stays
            (snap_by a.records.now a.area.now) a.x _ a.t (given_found c.find_path_inner-o.result) c.find_path_inner-o.ensures.same c.requires.2,
      ),
    )

pub find_by_name-returns-in_default-choice : goal.find_by_name-returns-in_default-choice
find_by_name-returns-in_default-choice t c =
    let a = c.args in
    else_run c.requires.0 a.item a.t c.in_default.ensures refl _
    (definition_told a.records.now a.area.now a.item c.variant_of.ensures c.in-Some-variant_of.is)
    (enum_told a.records.now a.area.now c.item_of-parent.ensures c.definition_first.ensures)
    c.find_path_inner-o.ensures c.in_default-choice.is c.calculate_best_path-in_default-choice.ensures

pub find_by_name-invariant_of-db-2 : goal.find_by_name-invariant_of-db-2
find_by_name-invariant_of-db-2 t c = record { reads = same_reads _ _ _ _ c.find_path_inner-o.ensures.tables c.requires.0.reads }

pub find_by_name-push_variant-c-requires : goal.find_by_name-push_variant-c-requires
find_by_name-push_variant-c-requires t c =
    let a = c.args in
    let g = enum_told a.records.now a.area.now c.item_of-parent.ensures c.definition_first.ensures in
    let p = parent_of _ _ _ c.requires.0.reads a.item _ c.requires.1.0
    (definition_told a.records.now a.area.now a.item c.variant_of.ensures c.in-Some-variant_of.is) in
    let f = c.find_path_inner-o in
    let q = subst (λ z. Offered (given z)) c.in-Some-choice.is
    (enum_offered _ _ _ a.x _ a.t (given_found f.result) c.requires.0
    (subst (λ (y : Item). variant_of (snap_by a.records.now a.area.now) y ≡ None) (sym g) p.plain) f.ensures.same) in (
      omega (arith, c.definition_second.ensures, p.name),
      q.few,
      q.text,
      q.steps,
      p.place,
    )

pub find_by_name-returns : goal.find_by_name-returns
find_by_name-returns t c =
    let a = c.args in
    enum_run c.requires.0 a.item a.t c.in_default.ensures refl _
    (definition_told a.records.now a.area.now a.item c.variant_of.ensures c.in-Some-variant_of.is)
    (enum_told a.records.now a.area.now c.item_of-parent.ensures c.definition_first.ensures)
    c.find_path_inner-o.ensures c.in-Some-choice.is c.definition_second.ensures c.push_variant-c.ensures

pub find_path_inner-returns-in_default : goal.find_path_inner-returns-in_default
find_path_inner-returns-in_default t c =
    let a = c.args in
    let f = c.find_by_name in
    let e = none_number _ c.straight_of.ensures
    c.in_default.is in
    record {
      same = f.ensures.same ∙ ap found_of (inner_by_name (snap_by a.records.now a.area.now) a.x a.item a.t
          (enum_no_variant a.records.now.words.now a.area.now a.records.now.layout c.requires.0.reads a.item c.requires.1.0) e);
      tables = f.ensures.tables;
    }

pub find_path_inner-find_path_for_module-requires : goal.find_path_inner-find_path_for_module-requires
find_path_inner-find_path_for_module-requires t c =
    let a = c.args in
    let e = some_number _ c.straight_of.ensures c.in-Some.is in
    (c.requires.0, straight_known a.records.now.layout _ a.item e c.requires.1.0, c.requires.0.limit, c.requires.2)

pub find_path_inner-returns : goal.find_path_inner-returns
find_path_inner-returns t c =
    let a = c.args in
    let f = c.find_path_for_module in
    let e = some_number _ c.straight_of.ensures
    c.in-Some.is in
    record {
      same = f.ensures.same ∙ ap found_of (inner_at_once (snap_by a.records.now a.area.now) a.x a.item a.t
          (enum_no_variant a.records.now.words.now a.area.now a.records.now.layout c.requires.0.reads a.item c.requires.1.0) e);
      tables = f.ensures.tables;
    }
