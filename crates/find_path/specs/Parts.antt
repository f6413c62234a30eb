-- The search for an item at the tank, over the finished search.
use Rattle.snapshot.specs.Records.{Snapshot}
use Rattle.find_path_spec.specs.declared.Tank.{Tank}
use Rattle.find_path_spec.specs.declared.FindPathCtx.{FindPathCtx}
use Rattle.find_path_spec.specs.Meters.{from_tank}
use Rattle.find_path_spec.specs.Charged.{Inner, by_name}
use Rattle.find_path_spec.specs.Search.{best_local, search_item}
use Rattle.find_path.specs.charged_search.Parts.{modules}

module _ (s : Snapshot) (x : FindPathCtx) where
  -- the search for an item, and for an item by its names

  abbrev pub items : Inner Tank
  items = search_item Tank from_tank s x

  abbrev pub names : Inner Tank
  names = by_name Tank from_tank s x (best_local s x) (modules s x) items
