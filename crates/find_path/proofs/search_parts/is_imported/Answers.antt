use mathlib.Core.Path.{sym, ◌∙◌}
use native.Mathlib.Omega.{arith}
use Rattle.hir_def.proofs.Lookups.{next_none, imports_whole}
use Rattle.find_path_local.proofs.path_offers.Naming.{not_some}
use Rattle.find_path.proofs.search_parts.is_imported.Goals as goal

pub import_info_for-requires : goal.import_info_for-requires
import_info_for-requires c = (omega arith, λ h. absurd (omega arith))

pub returns : goal.returns
returns c =
    λ q.
    let db = c.args.db.now in
    imports_whole db.records.words.now db.area.now db.records.layout c.args.c.0 c.args.item
    ∙ (next_none (c.import_info_for.ensures db.area.now) (not_some _ (sym c.is_some.ensures ∙ q))).none
