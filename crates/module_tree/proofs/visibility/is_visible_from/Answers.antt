use mathlib.Core.Path.{ap, ap₂, sym, ◌∙◌}
use mathlib.Core.Logic.{inl, inr}
use lib.Dec.{eqb}
use Rattle.snapshot.specs.Layouts.{snap_of}
use Rattle.snapshot.specs.declared.ids.Visibility.{Visibility}
use Rattle.snapshot.specs.Visibilities.{visibility_kind, visibility_number}
use Rattle.module_tree.specs.rules.Visibility.{is_visible_from}
use Rattle.module_tree.proofs.Climbs.{visible_public, visible_crate}
use Rattle.module_tree.proofs.visibility.is_visible_from.Goals as goal

pub returns-in-Public : goal.returns-in-Public
returns-in-Public c =
    visible_public (snap_of c.args.db.now.records.words.now c.args.db.now.area.now c.args.db.now.records.layout) _
    (visibility_number c.args.visibility)
    c.args.viewer.0 (ap visibility_kind c.in-Public.is)

pub returns-in-InCrate : goal.returns-in-InCrate
returns-in-InCrate c =
    c.eq.ensures ∙ ap₂ eqb c.krate.ensures (sym (ap visibility_number c.in-InCrate.is))
    ∙ visible_crate (snap_of c.args.db.now.records.words.now c.args.db.now.area.now c.args.db.now.records.layout) _
    (visibility_number c.args.visibility)
    c.args.viewer.0 (ap visibility_kind c.in-InCrate.is)

pub returns-in-InModule : goal.returns-in-InModule
unfolding is_visible_from
returns-in-InModule c =
    let n = snap_of c.args.db.now.records.words.now c.args.db.now.area.now c.args.db.now.records.layout in
    let f = λ (w : Visibility). is_visible_from n (visibility_kind w) (visibility_number w) c.args.viewer.0 in
    c.in_module.ensures ∙ elim c.in-InModule.is [ inl e ↦ ap f (sym e) | inr e ↦ ap f (sym e) ]
