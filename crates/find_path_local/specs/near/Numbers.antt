-- Numbers of modules under levels: with less left than its number, no local search under them finds a module.
use Rattle.std.specs.Prelude.{ℕ, ◌+◌, ◌≤◌, ◌<◌, ◌≡◌, List, true, get_or}
use Rattle.snapshot.specs.Limits.{module_limit}
use Rattle.snapshot.specs.Records.{Snapshot, Scope}
use Rattle.hir_def.specs.ItemScope.{is_module_entry, entry_module}
use Rattle.find_path_spec.specs.declared.FindPathCtx.{FindPathCtx}
use Rattle.find_path_spec.specs.Walk.{Level, has}
use Rattle.find_path_spec.specs.Local.{is_importable}
use Rattle.find_path_spec.specs.laws.Near.{imports, locations}

-- the word that counts the searches that found nothing
abbrev pub failures_at : ℕ
failures_at = 15871

-- the numbers stand at the top, a word a module
abbrev pub number : List ℕ → ℕ → ℕ → ℕ
number A top m = get_or A (top + m) 0

-- an entry for a module that the viewer can import from the entry's module, where a search for it takes this one: its number is at most k
unfoldable pub Nearer : Snapshot → FindPathCtx → List Level → (ℕ → ℕ) → ℕ → Scope → Type 0
Nearer s x ls d k e =
    entry_module s e < module_limit → imports s x (entry_module s e) e.owner ≡ true → has (locations s x ls (entry_module s e)) e.owner ≡ true
    → d (entry_module s e) ≤ k

-- so, of an entry that the viewer can import
abbrev pub Relaxed : Snapshot → FindPathCtx → List Level → (ℕ → ℕ) → ℕ → Scope → Type 0
Relaxed s x ls d k e = is_importable s x e ≡ true → Nearer s x ls d k e

-- so, of the entries of the module c
unfoldable pub Opened : Snapshot → FindPathCtx → List Level → (ℕ → ℕ) → ℕ → ℕ → Scope → Type 0
Opened s x ls d c k e = is_module_entry s c e ≡ true → Nearer s x ls d k e
