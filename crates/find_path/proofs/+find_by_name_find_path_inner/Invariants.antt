use Prim.Native.Nat.{◌+◌, ◌*◌}
use Rattle.find_path.proofs.Items.{number}
use Rattle.find_path.proofs.+find_by_name_find_path_inner.Given as goal

abbrev pub decreases-find_by_name : goal.decreases-find_by_name
decreases-find_by_name l = 2 * number l.item

abbrev pub decreases-find_path_inner : goal.decreases-find_path_inner
decreases-find_path_inner l = 2 * number l.item + 1
