-- What a list of imports promises; what it comes to is passed on to the crates above.
use Rattle.std.specs.Prelude.{ℕ, ◌≡◌, List, ◌++◌, length, drop}
use Rattle.answer.specs.Answers.{area_after}
use Rattle.answer.specs.counts.Counts.{Counted}
pub use Rattle.import_rules.specs.Listings.{Listing, refused_by, listed}
unfoldable pub use Rattle.import_rules.specs.Listings.{list_in, list_by, list_of, number_in, words_in}

-- T₀ is the target before the call, T after it: the words of the list, and past them what was there
pub record Lists (T₀ : List ℕ) (e : Listing) (T : List ℕ) (r : Counted) : Type 0 where
  pub number : r.number ≡ number_in e
  pub count : r.count ≡ length (words_in e)
  pub target : T ≡ words_in e ++ drop (length (words_in e)) T₀

-- A₀ is the work area before the call, A after it
pub record ListsIn (W A₀ : List ℕ) (c : ℕ) (T₀ T A : List ℕ) (r : Counted) : Type 0 where
  pub list : Lists T₀ (list_of (length A₀) W c (length T₀)) T r
  pub area : A ≡ area_after A₀
