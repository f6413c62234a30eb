-- The list of the worked snapshot's crate and each refusal, computed.
use Prim.Native.Nat.{ℕ}
use mathlib.Core.Path.{◌≡◌, refl}
use mathlib.Core.List.{List, [], ◌∷◌}
use mathlib.Core.Bool.{Bool, true, false, ◌&&◌}
use lib.Dec.{eqb}
use Rattle.snapshot.specs.Lists.{eq_list}
use Rattle.check_rules.specs.Worked.{worked}
use Rattle.import_rules.specs.Listings.{Listing, refused_by, listed, list_in, list_by, list_of}
use Rattle.import_rules.proofs.Worked.{collected_on_literals}

-- the words of a work area, the snapshot, the crate, the words of the target, and what comes of it
pub record Row : Type 0 where
  pub area : ℕ
  pub words : List ℕ
  pub crate : ℕ
  pub room : ℕ
  pub listing : Listing

pub alike : Listing → Listing → Bool
alike (refused_by m) (refused_by n) = eqb m n
alike (refused_by m) (listed ys) = false
alike (listed xs) (refused_by n) = false
alike (listed xs) (listed ys) = eq_list xs ys

pub agrees : List Row → Bool
agrees [] = true
agrees (r ∷ rs) = alike (list_of r.area r.words r.crate r.room) r.listing && agrees rs

-- `a`, then in it `f`
pub both : List ℕ
both = 0xA0000000 ∷ 0 ∷ 0 ∷ 0 ∷ 0 ∷ 0 ∷ 0xA0000000 ∷ 1 ∷ 1 ∷ 1 ∷ 1 ∷ 0 ∷ []

pub worked_lists : agrees (record { area = 16384; words = worked; crate = 0; room = 13; listing = listed both }
    ∷ record { area = 16384; words = worked; crate = 0; room = 12; listing = listed both }
    ∷ record { area = 16384; words = worked; crate = 0; room = 11; listing = refused_by 45 }
    ∷ record { area = 16384; words = worked; crate = 1; room = 13; listing = refused_by 23 }
    ∷ record { area = 16384; words = worked; crate = 1; room = 0; listing = refused_by 23 }
    ∷ record { area = 16384; words = 0 ∷ []; crate = 1; room = 0; listing = refused_by 31 }
    ∷ record { area = 16383; words = 0 ∷ []; crate = 1; room = 0; listing = refused_by 20 }
    ∷ []) ≡ true
unfolding agrees alike both list_of list_by list_in collected_on_literals
worked_lists = refl
