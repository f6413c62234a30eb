-- The entries by which the viewer can import an item.
use Rattle.std.specs.Prelude.{Bool, ◌&&◌}
use Rattle.snapshot.specs.Records.{Snapshot, Scope}
use Rattle.hir_def.specs.Items.{item_of, same_item}
use Rattle.hir_def.specs.declared.Item.{Item}
use Rattle.find_path_spec.specs.declared.FindPathCtx.{FindPathCtx}
use Rattle.find_path_spec.specs.Local.{is_importable}

abbrev pub names_importably : Snapshot → FindPathCtx → Item → Scope → Bool
names_importably s x item e = same_item (item_of s e.ns e.definition) item && is_importable s x e
