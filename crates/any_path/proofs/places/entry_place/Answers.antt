use mathlib.Core.Path.{◌≡◌, refl, ◌∙◌}
use Rattle.std.specs.Prelude.{option_map, Option, Some, None, ℕ, List}
use Rattle.std.specs.Option.{unwrap_or}
use Rattle.snapshot.specs.Records.{Snapshot, scope_at, extern_at}
use Rattle.hir_def.specs.Entries.{entry_of}
use Rattle.nameable.specs.Paths.{as_named, extern_named, place_in}
use Rattle.any_path.proofs.places.entry_place.Goals as goal

entry_in : (s : Snapshot) (W : List ℕ) (e : Option ℕ) → unwrap_or e 0 ≡ place_in (option_map (as_named s) (entry_of scope_at W e))
unfolding place_in
entry_in s W (Some h) = refl
entry_in s W None = refl

extern_in : (W : List ℕ) (e : Option ℕ) → unwrap_or e 0 ≡ place_in (option_map extern_named (entry_of extern_at W e))
unfolding place_in
extern_in W (Some h) = refl
extern_in W None = refl

pub returns : goal.returns
returns c =
    λ s W.
    (c.unwrap_or.ensures ∙ entry_in s W c.args.e, c.unwrap_or.ensures ∙ extern_in W c.args.e)
