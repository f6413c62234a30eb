-- A path reads back exactly where it means the item.
use mathlib.Core.Path.{◌≡◌, ap, ◌∙◌}
use mathlib.Core.List.{List}
use mathlib.Core.Bool.{true, false≢true}
use Rattle.std.specs.Prelude.{Option, None, Some}
use Prim.Native.Nat.{ℕ}
use Rattle.snapshot.specs.Records.{Snapshot}
use Rattle.hir_def.specs.Items.{ns_of}
use Rattle.hir_def.specs.declared.Item.{Item}
pub use Rattle.hir_def.proofs.Same.{same_item_lem}
use Rattle.hir_def.proofs.Same.{same_self}
use Rattle.read_back.specs.readings.Reads.{reads_to, is_the, reads_back}

the_item : (item : Item) (o : Option Item) → is_the item o ≡ true → o ≡ Some item
unfolding is_the
the_item item None e = absurd (false≢true e)
the_item item (Some x) e = ap Some (same_item_lem x item e)

module _ (s : Snapshot) (from : ℕ) (item : Item) (kind : ℕ) (names : List ℕ) where
  pub reads_exactly : reads_back s from item kind names ≡ true → reads_to s from (ns_of item) kind names ≡ Some item
  unfolding reads_back
  reads_exactly e = the_item item (reads_to s from (ns_of item) kind names) e

  pub exactly_reads : reads_to s from (ns_of item) kind names ≡ Some item → reads_back s from item kind names ≡ true
  unfolding reads_back is_the
  exactly_reads e = ap (is_the item) e ∙ same_self item
