use mathlib.Core.Bool.{◌&&◌}
use Rattle.std.proofs.Common.{rules}
use Rattle.std.proofs.iter.Serving.{serving}
use Rattle.snapshot.specs.Records.{scope_at}
use Rattle.hir_def.specs.ItemScope.{is_named}
use Rattle.nameable.specs.Seen.{seen}
use Rattle.nameable.specs.Queue.{seen_named}
use Rattle.hir_def.proofs.Fits.{spanned_fits}
use Rattle.hir_def.proofs.Searches.{first_in}
use Rattle.accept.specs.Opened.{snap_in}
use Rattle.any_path.proofs.seen_entries.lookups.entry_named.Goals as goal

pub first_where-requires : goal.first_where-requires
first_where-requires c = record {
  takes =
      λ i b.
      let f = spanned_fits c.args.view.now.db.records.words.now c.args.view.now.db.area.now c.args.view.now.db.records.layout c.args.view.now.db.reads
      c.scopes.ensures b in
      grind serving;
}

pub returns : goal.returns
unfolding seen_named
returns c =
    first_in (λ e. is_named c.args.m.0 c.args.ns c.args.name.0 e && seen (snap_in c.args.view.now.db) c.args.view.now.from.0 e)
    scope_at c.args.view.now.db.records.words.now c.scopes.ensures (λ h t p. search rules) _ c.first_where.ensures
