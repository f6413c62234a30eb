-- Which names an edition writes with `r#`, computed: an edit of a definition is told by these rows first.
use mathlib.Core.Path.{◌≡◌, refl}
use mathlib.Core.Bool.{Bool, true, false}
use mathlib.Core.List.{List, [], ◌∷◌, map}
use Prim.Native.String.{String}
use Rattle.snapshot.specs.Lists.{any, eq_list}
use Rattle.check_rules.specs.Builtins.{spelled}
use Rattle.printing.specs.Output.{bytes_of}
use Rattle.keywords.specs.Keywords.{is_keyword, is_raw}

-- in the editions 2015, 2018, 2021 and 2024
pub raw : String → List Bool
raw t = map (λ e. is_raw e (spelled (bytes_of t))) (2015 ∷ 2018 ∷ 2021 ∷ 2024 ∷ [])

-- strict and reserved ones, those of later editions; not the weak ones, and not those that cannot be raw
pub raw_names :
    map raw ("type" ∷ "macro" ∷ "async" ∷ "gen" ∷ "union" ∷ "Self" ∷ "_" ∷ "a" ∷ [])
    ≡ (true ∷ true ∷ true ∷ true ∷ [])
    ∷ (true ∷ true ∷ true ∷ true ∷ [])
    ∷ (false ∷ true ∷ true ∷ true ∷ [])
    ∷ (false ∷ false ∷ false ∷ true ∷ [])
    ∷ (false ∷ false ∷ false ∷ false ∷ [])
    ∷ (false ∷ false ∷ false ∷ false ∷ [])
    ∷ (false ∷ false ∷ false ∷ false ∷ [])
    ∷ (false ∷ false ∷ false ∷ false ∷ [])
    ∷ []
unfolding raw is_raw is_keyword any eq_list
raw_names = refl
