use Prim.Native.Nat.{◌+◌, ◌≤◌, ◌<◌}
use mathlib.Core.Path.{◌≡◌, ap, sym, ◌∙◌}
use mathlib.Core.Bool.{true≢false}
use native.Mathlib.Omega.{arith}
use lib.ListN.{length, set}
use Rattle.snapshot.specs.Limits.{module_limit, area_limit}
use Rattle.snapshot.specs.Records.{scope_at}
use Rattle.snapshot.specs.Layouts.{snap_of}
use Rattle.hir_def.specs.Items.{definition_of}
use Rattle.find_path_levels.specs.Levels.{levels_of}
use Rattle.find_path_levels.proofs.Rows.{agree}
use Rattle.find_path_local.specs.tight_rows.Rows.{rows_at}
use Rattle.find_path_local.specs.near.Numbers.{number}
use Rattle.find_path_local.proofs.near.Falling.{falls_none, falls_past, falls_on, falls_set, put_here}
use Rattle.find_path_local.proofs.near.Falling.{nearer_low, nearer_hidden, nearer_untaken}
use Rattle.find_path_local.proofs.near.relax_entry.Goals as goal

pub returns-then-word-d : goal.returns-then-word-d
returns-then-word-d c =
    let W = c.args.records.now.words.now in
    let A = c.args.area.now in
    let S = snap_of W A c.args.records.now.layout in
    let s = c.args.s in
    let t = c.first_of-m.ensures A ∙ ap (λ y. (definition_of S y).first) c.scope_definition.ensures in (
      falls_none s.top c.args.d A,
      λ _. nearer_low S c.args.x (levels_of A s.place s.depth) (number A s.top) c.args.d (scope_at W c.args.h) t
          (omega (arith, c.word.ensures, c.if-word-d.true)),
    )

pub returns-then-not-is_importable : goal.returns-then-not-is_importable
returns-then-not-is_importable c = (
  falls_none c.args.s.top c.args.d c.args.area.now,
  λ t. absurd (true≢false (sym t ∙ sym c.is_importable.ensures ∙ c.if-not-is_importable.true)),
)

pub returns-in_default : goal.returns-in_default
returns-in_default c =
    let W = c.args.records.now.words.now in
    let A = c.args.area.now in
    let S = snap_of W A c.args.records.now.layout in
    let s = c.args.s in
    let t = c.first_of-m.ensures A ∙ ap (λ y. (definition_of S y).first) c.scope_definition.ensures in (
      falls_none s.top c.args.d A,
      λ _. nearer_hidden S c.args.x (levels_of A s.place s.depth) (number A s.top) c.args.d (scope_at W c.args.h) t W c.scope_owner-owner.ensures
          c.importable_name.ensures.0 c.in_default.is,
    )

pub takes-requires : goal.takes-requires
takes-requires c =
    let A = c.args.area.now in
    let S = snap_of c.args.records.now.words.now A c.args.records.now.layout in
    let t = c.first_of-m.ensures A ∙ ap (λ y. (definition_of S y).first) c.scope_definition.ensures in
    (c.requires.0, omega (arith, t, c.requires.2))

pub returns-then-not-takes : goal.returns-then-not-takes
returns-then-not-takes c =
    let W = c.args.records.now.words.now in
    let A = c.args.area.now in
    let S = snap_of W A c.args.records.now.layout in
    let s = c.args.s in
    let t = c.first_of-m.ensures A ∙ ap (λ y. (definition_of S y).first) c.scope_definition.ensures in
    let B = c.takes.new.area in (
      falls_past s.top c.args.d A B c.takes.ensures.0,
      λ _. nearer_untaken S c.args.x (levels_of A s.place s.depth) (number B s.top) c.args.d (scope_at W c.args.h) t c.scope_owner-owner.ensures
          c.takes.ensures.1 c.if-not-takes.true,
    )

pub returns : goal.returns
returns c =
    let W = c.args.records.now.words.now in
    let A = c.args.area.now in
    let S = snap_of W A c.args.records.now.layout in
    let s = c.args.s in
    let m = c.first_of-m.result in
    let d = c.args.d in
    let y = c.requires.0 in
    let t = c.first_of-m.ensures A ∙ ap (λ y. (definition_of S y).first) c.scope_definition.ensures in
    let known : m < module_limit = omega (arith, t, c.requires.2, y.reads.tables.limited.modules) in
    let B = c.takes.new.area in
    let same = agree B A (s.top + module_limit) c.takes.ensures.0.below (s.top + m) (omega arith) in
    let more : d < number B s.top m = omega (arith, c.word.ensures, c.if-word-d.false, same) in
    let room : s.top + module_limit ≤ rows_at = omega (arith, y.space) in
    let size : length B ≡ area_limit = omega (arith, c.takes.auto.area, y.area) in
    let h = put_here s.top B m d room size known more in (
      falls_on s.top d A B (set B (s.top + m) d) (falls_past s.top d A B c.takes.ensures.0) (falls_set s.top B m d room size known more),
      λ _. nearer_low S c.args.x (levels_of A s.place s.depth) (number (set B (s.top + m) d) s.top) d (scope_at W c.args.h) t (omega (arith, h)),
    )
