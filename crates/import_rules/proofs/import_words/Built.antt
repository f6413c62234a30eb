-- The list that is collected for a crate, put into the snapshot.
use Prim.Native.Nat.{ℕ, ◌+◌, ◌*◌, ◌≤◌, ◌<◌}
use mathlib.Core.Path.{◌≡◌}
use mathlib.Core.List.{List}
use mathlib.Core.Bool.{false}
use lib.Dec.{eqb}
use lib.ListN.{length}
use Rattle.snapshot.specs.Sizes.{import_size}
use Rattle.snapshot.specs.Records.{Snapshot}
use Rattle.check_rules.specs.Verdict.{accept, verdict}
use Rattle.hir_def.specs.Finds.{select}
use Rattle.hir_def.proofs.Found.{each_select}
use Rattle.hir_def.specs.ImportMap.{import_info_for}
use Rattle.hir_def.specs.declared.Item.{Item}
use Rattle.hir_def.proofs.Every.{each_append}
use Rattle.edit_rules.specs.Entries.{scopes_end}
use Rattle.import_rules.specs.Collect.{collected}
use Rattle.import_rules.specs.import_words.Words.{placed_from, others_than, is_others, replaced, words_with, snapshot_with, is_of, unplaced}
use Rattle.import_rules.proofs.import_words.Fitting.{collected_fits, collected_owned}
use Rattle.import_rules.proofs.import_words.Infos.{own_infos, other_infos}
use Rattle.import_rules.proofs.import_words.Put.{own_fits, put_accepted}

-- Put in place of the crate's import records, they are accepted again, as the snapshot with that list.
pub built_accepted : (W : List ℕ) (s : Snapshot) (c : ℕ) → verdict W ≡ accept s → c < length s.crates
    → length (words_with W s (replaced s c (collected s c))) ≤ 16384
    → verdict (words_with W s (replaced s c (collected s c))) ≡ accept (snapshot_with W s (replaced s c (collected s c)))
unfolding others_than
built_accepted W s c acc known short =
    put_accepted W s acc (replaced s c (collected s c))
    (each_append (each_select (is_others c) (own_fits W s acc)) (collected_fits W s c acc known)) short

module _ (W : List ℕ) (s : Snapshot) (c : ℕ) (item : Item) where
  -- The crate's imports of an item are then those that the definition gives, and no others, in its order; their records stand one after
  -- the other behind those of the other crates.
  pub built_infos : import_info_for (snapshot_with W s (replaced s c (collected s c))) c item
      ≡ select (is_of s item) (placed_from (scopes_end W + import_size * length (others_than c s.imports)) (collected s c))
  built_infos = own_infos W s c (collected s c) (collected_owned s c) item

  -- another crate's are what they were, but for places
  pub built_others : (d : ℕ) → eqb d c ≡ false
      → unplaced (import_info_for (snapshot_with W s (replaced s c (collected s c))) d item) ≡ unplaced (import_info_for s d item)
  built_others d apart = other_infos W s c (collected s c) (collected_owned s c) item d apart
