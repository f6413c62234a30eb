-- The roles of a record's words.
use Prim.Native.Nat.{ℕ, zero, suc, ◌<◌, ◌≤◌}
use mathlib.Core.Path.{◌≡◌, refl, sym, ap, ◌∙◌}
use mathlib.Core.List.{List, [], ◌∷◌, map}
use native.Mathlib.Omega.{arith}
use lib.ListN.{length, get_or}
use Rattle.std.specs.Prelude.{None}
use Rattle.std.proofs.lemmas.Option.{none-some}
use Rattle.snapshot.specs.Lists.{rows}
use Rattle.snapshot.specs.Kinds.{kind_with}
use Rattle.snapshot.specs.declared.kind.Kind.TheVariants.{Name, Crate, Dependency, Map, Module, Child, Prelude, Definition, Scope, Import, Extern}
use Rattle.snapshot.specs.declared.kind.Kind.TheVariants.{Member}
use Rattle.join.specs.records.Moves.{role_of}
use Rattle.join.specs.records.Roles.{role_number}
use Rattle.join.specs.declared.records.fields.Role.{Role}
use Rattle.join.proofs.records.Laws.{role_plain, role_past, role_long}

role_twelve : (i : ℕ) → 0 ≡ role_of 12 i
unfolding role_of
role_twelve zero = refl
role_twelve (suc zero) = refl
role_twelve (suc (suc zero)) = refl
role_twelve (suc (suc (suc zero))) = refl
role_twelve (suc (suc (suc (suc zero)))) = refl
role_twelve (suc (suc (suc (suc (suc zero))))) = refl
role_twelve (suc (suc (suc (suc (suc (suc zero)))))) = refl
role_twelve (suc (suc (suc (suc (suc (suc (suc zero))))))) = refl
role_twelve (suc (suc (suc (suc (suc (suc (suc (suc i)))))))) =
    role_long 12 (suc (suc (suc (suc (suc (suc (suc (suc i)))))))) (omega arith) (omega arith)

pub role_far : (k i : ℕ) → 8 ≤ i → 0 ≡ role_of k i
role_far zero i h = role_plain 0 i (omega arith)
role_far (suc zero) i h = role_plain 1 i (omega arith)
role_far (suc (suc zero)) i h = role_plain 2 i (omega arith)
role_far (suc (suc (suc k))) i h = role_long (suc (suc (suc k))) i (omega arith) h

-- of what is no record
pub role_none : (k i : ℕ) → kind_with k ≡ None → 0 ≡ role_of k i
role_none zero i e = role_plain 0 i (omega arith)
role_none (suc zero) i e = absurd (none-some Name (sym e))
role_none (suc (suc zero)) i e = absurd (none-some Crate (sym e))
role_none (suc (suc (suc zero))) i e = absurd (none-some Dependency (sym e))
role_none (suc (suc (suc (suc zero)))) i e = absurd (none-some Map (sym e))
role_none (suc (suc (suc (suc (suc zero))))) i e = absurd (none-some Module (sym e))
role_none (suc (suc (suc (suc (suc (suc zero)))))) i e = absurd (none-some Child (sym e))
role_none (suc (suc (suc (suc (suc (suc (suc zero))))))) i e = absurd (none-some Prelude (sym e))
role_none (suc (suc (suc (suc (suc (suc (suc (suc zero)))))))) i e = absurd (none-some Definition (sym e))
role_none (suc (suc (suc (suc (suc (suc (suc (suc (suc zero))))))))) i e = absurd (none-some Scope (sym e))
role_none (suc (suc (suc (suc (suc (suc (suc (suc (suc (suc zero)))))))))) i e = absurd (none-some Import (sym e))
role_none (suc (suc (suc (suc (suc (suc (suc (suc (suc (suc (suc zero))))))))))) i e = absurd (none-some Extern (sym e))
role_none (suc (suc (suc (suc (suc (suc (suc (suc (suc (suc (suc (suc zero)))))))))))) i e = role_twelve i
role_none (suc (suc (suc (suc (suc (suc (suc (suc (suc (suc (suc (suc (suc zero))))))))))))) i e = absurd (none-some Member (sym e))
role_none (suc (suc (suc (suc (suc (suc (suc (suc (suc (suc (suc (suc (suc (suc k)))))))))))))) i e = role_past _ i (omega arith)

-- one of them, read off all
numbered : (xs : List Role) (i : ℕ) (d : Role) → i < length xs → role_number (get_or xs i d) ≡ get_or (map role_number xs) i 0
numbered [] i d h = omega (arith, h)
numbered (x ∷ xs) zero d h = refl
numbered (x ∷ xs) (suc i) d h = numbered xs i d (omega (arith, h))

read_row : (f : ℕ → ℕ) (i : ℕ) → i < 8 → get_or (rows f 0 8) i 0 ≡ f i
unfolding rows
read_row f zero h = refl
read_row f (suc zero) h = refl
read_row f (suc (suc zero)) h = refl
read_row f (suc (suc (suc zero))) h = refl
read_row f (suc (suc (suc (suc zero)))) h = refl
read_row f (suc (suc (suc (suc (suc zero))))) h = refl
read_row f (suc (suc (suc (suc (suc (suc zero)))))) h = refl
read_row f (suc (suc (suc (suc (suc (suc (suc zero))))))) h = refl
read_row f (suc (suc (suc (suc (suc (suc (suc (suc i)))))))) h = omega (arith, h)

pub role_given : (f : ℕ → ℕ) (xs : List Role) (i : ℕ) (d : Role) → length xs ≡ 8 → map role_number xs ≡ rows f 0 8 → i < 8
    → role_number (get_or xs i d) ≡ f i
role_given f xs i d e q h = numbered xs i d (omega (arith, e, h)) ∙ ap (λ ys. get_or ys i 0) q ∙ read_row f i h
