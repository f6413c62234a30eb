-- Chains, keys and marks of a few records, computed: an edit of a definition is told by these rows first.
use mathlib.Core.Path.{◌≡◌, refl}
use mathlib.Core.List.{[], ◌∷◌, map}
use lib.ListN.{replicate}
use Rattle.check_records.specs.chains.Chains.{record_key, slot_of, linked}

-- heads of two keys from 0 on, links from 2 on: the numbers 0 and 2 have the key 1, and 1 the key 0
pub chained : linked (linked (linked (replicate 5 0) 0 2 1 0) 0 2 0 1) 0 2 1 2 ≡ 2 ∷ 3 ∷ 0 ∷ 0 ∷ 1 ∷ []
unfolding linked
chained = refl

-- a definition of kind 1 marks its module, one of another kind the number past all modules
pub marked : map (slot_of (0x80000001 ∷ 5 ∷ 0 ∷ 0x80000004 ∷ 5 ∷ 0 ∷ [])) (0 ∷ 3 ∷ []) ≡ 5 ∷ 512 ∷ []
unfolding slot_of
marked = refl

-- two externs of the same owner and name have the same key
pub keyed : map (record_key (0xB0000001 ∷ 2 ∷ 3 ∷ 0xB0000001 ∷ 2 ∷ 4 ∷ []) 1) (0 ∷ 3 ∷ []) ≡ 49 ∷ 49 ∷ []
keyed = refl
