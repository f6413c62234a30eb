-- Which of the second's names and definitions are new: those whose number is not one of the first's; their numbers follow the first's in order.
use Prim.Native.Nat.{ℕ}
use mathlib.Core.Path.{◌≡◌, sym, ◌∙◌, ap}
use mathlib.Core.List.{List}
use mathlib.Core.Bool.{Bool, not}
use native.Mathlib.Omega.{arith}
use borrow.Author.Tests.{lt-ltb, le-ltb}
use lib.Dec.{ltb}
use lib.ListN.{length, get_or}
use Rattle.snapshot.specs.Records.{Snapshot}
use Rattle.check_rules.specs.Tests.{no_name, no_definition, same_name}
use Rattle.accept.proofs.Accepted.{by_test}
use Rattle.join_rules.specs.Joined.{is_new, merged_number, name_number, same_builtin, definition_number}
use Rattle.join_rules.proofs.Merged.{number_new, number_old}

module _ {A : Type 0} (same : A → A → Bool) (d : A) (xs ys : List A) where
  number_test : (n : ℕ) → is_new same xs (get_or ys n d) ≡ not (ltb (merged_number same d xs ys n) (length xs))
  number_test n =
      let k = merged_number same d xs ys n in
      by_test (is_new same xs (get_or ys n d))
      (λ a. let q = number_new same d xs ys n a in a ∙ sym (ap not (le-ltb k (length xs) (omega arith))))
      (λ a. a ∙ sym (ap not (lt-ltb k (length xs) (number_old same d xs ys n a).0)))

module _ (s t : Snapshot) where
  -- a name is new where its number is past the first's
  pub name_test : (n : ℕ) → is_new same_name s.names (get_or t.names n no_name) ≡ not (ltb (name_number s t n) (length s.names))
  unfolding name_number
  name_test n = number_test same_name no_name s.names t.names n

  -- definitions likewise

  pub definition_test : (n : ℕ)
      → is_new (same_builtin s t) s.definitions (get_or t.definitions n no_definition) ≡ not (ltb (definition_number s t n) (length s.definitions))
  unfolding definition_number
  definition_test n = number_test (same_builtin s t) no_definition s.definitions t.definitions n
