use mathlib.Core.Path.{refl, sym, ◌∙◌}
use Rattle.std.proofs.Common.{rules}
use Rattle.std.proofs.iter.Serving.{serving}
use Rattle.snapshot.specs.Records.{scope_at}
use Rattle.record_index.specs.Index.{key_at}
use Rattle.record_index.specs.declared.chains.Chain.TheVariants.{Items}
use Rattle.hir_def.proofs.Fits.{scope_fits}
use Rattle.hir_def.proofs.Searches.{none_by, only_agree}
use Rattle.accept.specs.Opened.{snap_in}
use Rattle.find_path_local.specs.path_offers.Named.{names_importably}
use Rattle.find_path_local.proofs.path_offers.Naming.{unnamed, keyed_importably, not_some}
use Rattle.find_path_local.proofs.path_offers.is_named.Goals as goal

pub next_in_chain-requires-clause-takes : goal.next_in_chain-requires-clause-takes
next_in_chain-requires-clause-takes c =
    λ i b.
    let f = scope_fits c.args.db.now.records.words.now c.args.db.now.area.now c.args.db.now.records.layout c.args.db.now.reads {j = i} b refl refl in
    let v = f.inside in
    let u = c.requires in
    grind serving

pub returns : goal.returns
returns c =
    λ q.
    let W = c.args.db.now.records.words.now in
    let A = c.args.db.now.area.now in
    let l = c.args.db.now.records.layout in
    let test = names_importably (snap_in c.args.db.now) c.args.x c.args.item in
    unnamed (snap_in c.args.db.now) c.args.x c.args.item
    (sym (none_by test scope_at W _ _ refl
    (only_agree (key_at W l Items) c.item_key.result test (scope_at W) _ (λ h. keyed_importably W A l c.args.x c.args.item c.item_key.ensures h)
    (λ h t p. search rules)) c.next_in_chain.ensures (not_some _ (sym c.is_some.ensures ∙ q))).0)
