use Rattle.std.proofs.Common.{rules}
use Rattle.std.proofs.iter.Serving.{serving}
use Rattle.snapshot.specs.Records.{scope_at}
use Rattle.hir_def.specs.Items.{defined_item}
use Rattle.hir_def.proofs.Fits.{spanned_fits}
use Rattle.hir_def.proofs.Searches.{first_in}
use Rattle.told_paths.specs.arrivals.Steps.{is_plain_for, plain_in}
use Rattle.accept.specs.Opened.{snap_in}
use Rattle.told_paths.proofs.arrivals.plain.plain_in.Goals as goal

pub first_where-requires : goal.first_where-requires
first_where-requires c = record {
  takes =
      λ i b.
      let f = spanned_fits c.args.view.now.db.records.words.now c.args.view.now.db.area.now c.args.view.now.db.records.layout c.args.view.now.db.reads
      c.scopes.ensures b in
      grind serving;
}

pub returns : goal.returns
unfolding plain_in
returns c =
    first_in (is_plain_for (snap_in c.args.view.now.db) c.args.view.now.from.0 c.args.m.0 (defined_item c.args.ns.0 c.args.d.0))
    scope_at c.args.view.now.db.records.words.now c.scopes.ensures (λ h t p. search rules) _ c.first_where.ensures
