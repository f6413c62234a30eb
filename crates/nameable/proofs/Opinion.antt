-- On an accepted snapshot the answer is right, and it is the only kind of answer that is.
use Prim.Native.Nat.{ℕ, ◌≤◌, ◌<◌}
use mathlib.Core.Path.{◌≡◌, refl, subst}
use mathlib.Core.List.{List}
use mathlib.Core.Logic.{◌↔◌}
use native.Mathlib.Omega.{arith}
use lib.ListN.{length}
use Rattle.snapshot.specs.Records.{Snapshot}
use Rattle.check_rules.specs.Verdict.{accept, verdict}
use Rattle.accept.proofs.Valid.{accepted_valid}
use Rattle.hir_def.specs.declared.Item.{Item}
use Rattle.nameable.specs.Paths.{Path, names_in, Names, Nameable}
use Rattle.nameable.specs.Breadth.{AnyPath, found, longer, nowhere, names_limit, any_path}
use Rattle.nameable.specs.Right.{Found, Longer, Right}
use Rattle.nameable.proofs.Plenty.{plenty}
use Rattle.nameable.proofs.Least.{any_right}

module _ (W : List ℕ) (s : Snapshot) (accepted : verdict W ≡ accept s) (from : ℕ) (viewer : from < length s.modules) (item : Item) where
  -- A path given names the item and none is shorter; `longer` and `nowhere` say what they mean.
  pub answer_right : Right s from item (any_path s from item)
  answer_right = any_right s from (plenty s (accepted_valid W s accepted) from viewer) item

  by_answer : {C : Type 0} (a : AnyPath) → Right s from item a → ((p : Path) → a ≡ found p → Found s from item p → C)
      → (a ≡ longer → Longer s from item → C) → (a ≡ nowhere → (Nameable s from item → ⊥) → C) → C
  by_answer (found p) h f g k = f p refl h
  by_answer longer h f g k = g refl h
  by_answer nowhere h f g k = k refl h

  -- `nowhere` exactly where no path of any length names the item
  pub nowhere_is : (any_path s from item ≡ nowhere) ↔ (Nameable s from item → ⊥)
  nowhere_is = (
    (λ e. subst (Right s from item) e answer_right),
    λ n. by_answer (any_path s from item) answer_right (λ p e h. absurd (n (record { path = p; names = h.names })))
        (λ e h. absurd (n h.some)) (λ e h. e),
  )

  -- `longer` exactly where a path does, and each has more than sixteen names
  pub longer_is : (any_path s from item ≡ longer) ↔ Longer s from item
  longer_is = (
    (λ e. subst (Right s from item) e answer_right),
    λ l. by_answer (any_path s from item) answer_right (λ p e h. absurd (omega (arith, h.few, l.many p h.names))) (λ e h. e)
        (λ e h. absurd (h l.some)),
  )

  -- a path wherever one has at most sixteen names
  pub found_where : (q : Path) → Names s from item q → names_in q ≤ names_limit → (p : Path) × (any_path s from item ≡ found p)
  found_where q n l =
      by_answer (any_path s from item) answer_right (λ p e h. (p, e)) (λ e h. absurd (omega (arith, h.many q n, l)))
      (λ e h. absurd (h (record { path = q; names = n })))
