-- The walk of `find_local_import_locations` along a run that holds no module twice: what the code does.
use Rattle.std.specs.Prelude.{ℕ, zero, suc, ◌+◌, List, [], ◌∷◌, ◌++◌, Bool, true, false, ◌||◌, ltb, length, get_or}
use Rattle.find_path_spec.specs.Walk.{has}

-- A module goes to the end of the run, unless it is visited or on the run.
unfoldable pub push : (ℕ → Bool) → List ℕ → List ℕ → List ℕ
push seen run [] = run
push seen run (m ∷ ms) = elim (seen m || has run m) [ true ↦ push seen run ms | false ↦ push seen (run ++ (m ∷ [])) ms ]

-- The walk along a run: k of its modules are taken.
unfoldable pub lean : (ℕ → List ℕ) → (ℕ → Bool) → ℕ → List ℕ → ℕ → List ℕ
lean next seen zero run k = run
lean next seen (suc b) run k =
    elim (ltb k (length run)) [ true ↦ lean next seen b (push seen run (next (get_or run k 0))) (k + 1) | false ↦ run ]
