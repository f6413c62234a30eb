use Prim.Native.Nat.{◌<◌}
use mathlib.Core.Path.{ap, sym, ◌∙◌}
use mathlib.Core.Bool.{true≢false}
use native.Mathlib.Omega.{arith}
use Rattle.snapshot.specs.Limits.{module_limit}
use Rattle.snapshot.specs.Records.{scope_at}
use Rattle.snapshot.specs.Layouts.{snap_of}
use Rattle.hir_def.specs.Items.{definition_of}
use Rattle.find_path_local.specs.distances.Distances.{distance}
use Rattle.find_path_local.proofs.distances.Relaxing.{steps_none, steps_set, nearer_low, nearer_hidden, nearer_tried, nearer_here, tried_set}
use Rattle.find_path_local.proofs.distances.relax_entry.Goals as goal

pub returns-then-word-d : goal.returns-then-word-d
returns-then-word-d c =
    let W = c.args.records.now.words.now in
    let A = c.args.area.now in
    let s = snap_of W A c.args.records.now.layout in
    let t = c.first_of-m.ensures A ∙ ap (λ y. (definition_of s y).first) c.scope_definition.ensures in
    record {
      steps = (steps_none A c.args.d, λ _. nearer_low s c.args.x A c.args.d (scope_at W c.args.h) t c.word.ensures c.if-word-d.true);
      misses = c.requires.6;
    }

pub returns-then-not-is_importable : goal.returns-then-not-is_importable
returns-then-not-is_importable c =
    record {
      steps = (steps_none c.args.area.now c.args.d, λ t. absurd (true≢false (sym t ∙ sym c.is_importable.ensures ∙ c.if-not-is_importable.true)));
      misses = c.requires.6;
    }

pub returns-in_default : goal.returns-in_default
returns-in_default c =
    let W = c.args.records.now.words.now in
    let A = c.args.area.now in
    let s = snap_of W A c.args.records.now.layout in
    let t = c.first_of-m.ensures A ∙ ap (λ y. (definition_of s y).first) c.scope_definition.ensures in
    let known : c.first_of-m.result < module_limit = omega (arith, t, c.requires.3, c.requires.0.reads.tables.limited.modules) in
    record {
      steps = (
        steps_none A c.args.d,
        λ _. nearer_hidden s c.args.x A c.args.d (scope_at W c.args.h) t W c.scope_owner-owner.ensures c.importable_name.ensures.0 c.in_default.is,
      );
      misses =
          tried_set s c.args.x c.args.tried.now c.scope_owner-owner.result.0 W c.requires.6 (omega (arith, known, c.told-tried)) (omega arith)
          c.importable_name.ensures.0 c.in_default.is;
    }

pub returns-then-tried-m : goal.returns-then-tried-m
returns-then-tried-m c =
    let W = c.args.records.now.words.now in
    let A = c.args.area.now in
    let s = snap_of W A c.args.records.now.layout in
    let t = c.first_of-m.ensures A ∙ ap (λ y. (definition_of s y).first) c.scope_definition.ensures in
    record {
      steps = (
        steps_none A c.args.d,
        λ _. nearer_tried s c.args.x A c.args.d (scope_at W c.args.h) t c.args.tried.now c.requires.6 c.scope_owner-owner.ensures (omega arith),
      );
      misses = c.requires.6;
    }

pub bounds-area-at : goal.bounds-area-at
bounds-area-at c =
    let A = c.args.area.now in
    let s = snap_of c.args.records.now.words.now A c.args.records.now.layout in
    let t = c.first_of-m.ensures A ∙ ap (λ y. (definition_of s y).first) c.scope_definition.ensures in
    omega (arith, t, c.requires.3, c.requires.0.reads.tables.limited.modules, c.told-area)

pub returns : goal.returns
returns c =
    let W = c.args.records.now.words.now in
    let A = c.args.area.now in
    let s = snap_of W A c.args.records.now.layout in
    let t = c.first_of-m.ensures A ∙ ap (λ y. (definition_of s y).first) c.scope_definition.ensures in
    let known : c.first_of-m.result < module_limit = omega (arith, t, c.requires.3, c.requires.0.reads.tables.limited.modules) in
    let more : c.args.d < distance A c.first_of-m.result = omega (arith, c.word.ensures, c.if-word-d.false) in
    record {
      steps = (
        steps_set A c.first_of-m.result c.args.d c.requires.0.area known c.requires.4 more,
        λ _. nearer_here s c.args.x A c.args.d (scope_at W c.args.h) t c.requires.0.area known c.requires.4 more,
      );
      misses = c.requires.6;
    }
