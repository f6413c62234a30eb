use mathlib.Core.Path.{refl, ap, ◌∙◌}
use Rattle.std.proofs.Common.{rules}
use Rattle.snapshot.specs.Layouts.{snap_of}
use Rattle.snapshot.specs.Records.{import_at}
use Rattle.record_index.specs.Index.{import_key, key_at}
use Rattle.record_index.specs.declared.chains.Chain.TheVariants.{Imports}
use Rattle.hir_def.specs.ImportMap.{is_import}
use Rattle.hir_def.proofs.Searches.{next_by, only_agree}
use Rattle.hir_def.proofs.Along.{import_keyed}
use Rattle.hir_def.proofs.import_map.import_info_for.Goals as goal

pub returns : goal.returns
returns c =
    let W = c.args.db.now.records.words.now in
    let l = c.args.db.now.records.layout in
    λ A.
    let q = is_import (snap_of W A l) c.args.c.0 c.args.item in
    next_by q import_at W _ _ refl
    (only_agree (key_at W l Imports) c.import_key-key.result q (import_at W) _
    (λ h. import_keyed W A l c.args.c.0 c.args.item h (c.import_key-key.ensures ∙ ap (import_key c.args.c.0) c.number_of.ensures))
    (λ h t p. search rules)) _ _ c.next_in_chain.ensures
