use mathlib.Core.Path.{ap, ap₂, sym, ◌∙◌}
use mathlib.Core.Logic.{inl, inr}
use lib.Dec.{eqb}
use Rattle.snapshot.specs.declared.ids.Visibility.{Visibility}
use Rattle.snapshot.specs.Visibilities.{visibility_kind, visibility_number}
use Rattle.nameable.specs.Seen.{holds}
use Rattle.any_path.proofs.seen_entries.Laws.{holds_public, holds_crate}
use Rattle.accept.specs.Opened.{snap_in}
use Rattle.any_path.proofs.seen_entries.privacy.holds.Goals as goal

pub returns-in-Public : goal.returns-in-Public
returns-in-Public c =
    holds_public (snap_in c.args.view.now.db) _ (visibility_number c.args.visibility)
    c.args.view.now.from.0 (ap visibility_kind c.in-Public.is)

pub returns-in-InCrate : goal.returns-in-InCrate
returns-in-InCrate c =
    c.eq.ensures ∙ ap₂ eqb c.krate.ensures (sym (ap visibility_number c.in-InCrate.is))
    ∙ holds_crate (snap_in c.args.view.now.db) _ (visibility_number c.args.visibility)
    c.args.view.now.from.0 (ap visibility_kind c.in-InCrate.is)

pub returns-in-InModule : goal.returns-in-InModule
unfolding holds
returns-in-InModule c =
    let n = snap_in c.args.view.now.db in
    let f = λ (w : Visibility). holds n (visibility_kind w) (visibility_number w) c.args.view.now.from.0 in
    c.privately.ensures ∙ elim c.in-InModule.is [ inl e ↦ ap f (sym e) | inr e ↦ ap f (sym e) ]
