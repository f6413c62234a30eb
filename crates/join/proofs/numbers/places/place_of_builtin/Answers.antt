use mathlib.Core.Path.{refl}
use Rattle.std.proofs.Common.{rules}
use Rattle.hir_def.proofs.Searches.{over}
use Rattle.join.proofs.numbers.Finding.{builtin_found, builtin_none}
use Rattle.join.proofs.numbers.places.place_of_builtin.Goals as goal

pub returns-in-Some : goal.returns-in-Some
returns-in-Some c =
    builtin_found c.args.first.now.words.now c.args.name _ refl (λ h t p. search rules)
    (over _ c.definitions.ensures 0 _ c.next_where.ensures) c.in-Some.is

pub returns-in-None : goal.returns-in-None
returns-in-None c =
    builtin_none c.args.first.now.words.now c.args.name _ refl (λ h t p. search rules)
    (over _ c.definitions.ensures 0 _ c.next_where.ensures) c.in-None.is
