-- A path written out: how it begins, and its names.
use Rattle.told_paths.specs.declared.arrivals.LastStep.{LastStep}
use Rattle.std.specs.Prelude.{ℕ, zero, suc, List, ◌++◌, true, false, leb, length, drop, replicate}
use Rattle.std.specs.Prelude.{Option, None, Some}
use Rattle.snapshot.specs.declared.ids.PathKind.{PathKind}
use Rattle.snapshot.specs.declared.ids.PathKind.TheVariants.{Plain, SelfModule, Super, Crate, Absolute}
use Rattle.nameable.specs.Paths.{Keyword, supers, crate, Path, keyword, absolute, plain, into, names_in, names_of}
use Rattle.nameable.specs.Breadth.{names_limit}
use Rattle.told_paths.specs.declared.ToldPath.{ToldPath}

-- the link of a step, 0 of none
unfoldable pub step_link : Option LastStep → ℕ
step_link (Some q) = q.link
step_link None = 0

-- how a path begins

unfoldable pub keyword_kind : Keyword → PathKind
keyword_kind (supers zero) = SelfModule
keyword_kind (supers (suc k)) = Super
keyword_kind crate = Crate

unfoldable pub kind_of : Path → PathKind
kind_of (keyword k) = keyword_kind k
kind_of (absolute n) = Absolute
kind_of (plain n) = Plain
kind_of (into p n) = kind_of p

-- how many times `super`

unfoldable pub keyword_supers : Keyword → ℕ
keyword_supers (supers k) = k
keyword_supers crate = 0

unfoldable pub supers_of : Path → ℕ
supers_of (keyword k) = keyword_supers k
supers_of (absolute n) = 0
supers_of (plain n) = 0
supers_of (into p n) = supers_of p

-- zeros after the last
unfoldable pub padded : List ℕ → List ℕ
padded xs = xs ++ drop (length xs) (replicate 16 0)

-- of one with too many names their number alone
unfoldable pub told_long : ℕ → ToldPath
told_long n = record { kind = Plain; supers = 0; names = replicate 16 0; count = n }

unfoldable pub tell : Path → ToldPath
tell p =
    elim (leb (names_in p) names_limit) [
      | true ↦ record { kind = kind_of p; supers = supers_of p; names = padded (names_of p); count = names_in p }
      | false ↦ told_long (names_in p)
    ]
