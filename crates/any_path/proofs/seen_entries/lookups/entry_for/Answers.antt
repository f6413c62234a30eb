use mathlib.Core.Bool.{◌&&◌}
use Rattle.std.proofs.Common.{rules}
use Rattle.std.proofs.iter.Serving.{serving}
use Rattle.snapshot.specs.Records.{scope_at}
use Rattle.hir_def.specs.ItemScope.{is_for, names_of}
use Rattle.nameable.specs.Seen.{seen}
use Rattle.hir_def.proofs.Fits.{spanned_fits}
use Rattle.hir_def.proofs.Searches.{first_in}
use Rattle.accept.specs.Opened.{snap_in}
use Rattle.any_path.proofs.seen_entries.lookups.entry_for.Goals as goal

pub first_where-requires : goal.first_where-requires
first_where-requires c = record {
  takes =
      λ i b.
      let f = spanned_fits c.args.view.now.db.records.words.now c.args.view.now.db.area.now c.args.view.now.db.records.layout c.args.view.now.db.reads
      c.scopes.ensures b in
      grind serving;
}

pub returns : goal.returns
unfolding names_of
returns c =
    let S = snap_in c.args.view.now.db in
    first_in (λ e. is_for S c.args.m.0 c.args.item e && seen S c.args.view.now.from.0 e) scope_at c.args.view.now.db.records.words.now
    c.scopes.ensures (λ h t p. search rules) _ c.first_where.ensures
