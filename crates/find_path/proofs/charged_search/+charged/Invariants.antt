use Prim.Native.Nat.{◌+◌, ◌-◌, ◌*◌, ◌≤◌}
use Rattle.snapshot.specs.Sizes.{dependency_size, import_size}
use Rattle.snapshot.specs.Records.{import_at, dependency_at}
use Rattle.snapshot.specs.Layouts.{import_base, dependency_base}
use Rattle.record_index.specs.Index.{import_key, key_of, Follows}
use Rattle.record_index.specs.declared.chains.Chain.TheVariants.{Imports}
use Rattle.hir_def.specs.Keys.{number_of}
use Rattle.hir_def.specs.Finds.{select}
use Rattle.hir_def.specs.crate_graph.Among.{among}
use Rattle.hir_def.specs.ImportMap.{is_import, import_info_for}
use Rattle.hir_def.specs.Entries.{left_of}
use Rattle.find_path_spec.specs.Charged.{out_of}
use Rattle.find_path.specs.charged_search.Parts.{imports, dependencies}
use Rattle.find_path.proofs.charged_search.Runs.{Running}
use Rattle.snapshot.specs.Laid.{snap_by}
use Rattle.find_path.proofs.charged_search.+charged.Given as goal

abbrev pub decreases-calculate_best_path : goal.decreases-calculate_best_path
decreases-calculate_best_path l = 8 * l.left + 7

abbrev pub decreases-find_import : goal.decreases-find_import
decreases-find_import l = 8 * l.left + 1

abbrev pub decreases-find_in_dep : goal.decreases-find_in_dep
decreases-find_in_dep l = 8 * l.left + 2

abbrev pub decreases-find_in_deps : goal.decreases-find_in_deps
decreases-find_in_deps l = 8 * l.left + 3

abbrev pub decreases-find_in_lang : goal.decreases-find_in_lang
decreases-find_in_lang l = 8 * l.left + 3

abbrev pub decreases-find_in_rest : goal.decreases-find_in_rest
decreases-find_in_rest l = 8 * l.left + 4

abbrev pub decreases-find_in_sysroot : goal.decreases-find_in_sysroot
decreases-find_in_sysroot l = 8 * l.left + 5

abbrev pub decreases-find_path_for_module : goal.decreases-find_path_for_module
decreases-find_path_for_module l = 8 * l.left + 8

abbrev pub decreases-search_charged : goal.decreases-search_charged
decreases-search_charged l = 8 * l.left + 6

abbrev pub invariant-find_in_dep-loop-next : goal.invariant-find_in_dep-loop-next
invariant-find_in_dep-loop-next l =
    Running l.initial.area l.area l.left l.best
    (imports (snap_by l.records l.initial.area) l.x l.left (out_of l.best) (left_of (is_import (snap_by l.records l.initial.area) l.c.0 l.item)
    (λ i. import_at l.records.words.now (import_base l.records.layout + import_size * i)) l.records.layout.imports l.k))
    (imports (snap_by l.records l.initial.area) l.x l.left (out_of l.initial.best) (import_info_for (snap_by l.records l.initial.area) l.c.0 l.item))
    × (l.k ≤ l.records.layout.imports)
    × Follows (key_of l.records.words.now l.records.layout Imports) (import_key l.c.0 (number_of l.item)) l.k

abbrev pub decreases-find_in_dep-loop-next : goal.decreases-find_in_dep-loop-next
decreases-find_in_dep-loop-next l = l.records.layout.imports - l.k

abbrev pub invariant-find_in_deps-loop-next : goal.invariant-find_in_deps-loop-next
invariant-find_in_deps-loop-next l =
    Running l.initial.area l.area l.left l.best
    (dependencies (snap_by l.records l.initial.area) l.x l.left l.item (out_of l.best) (left_of (among l.x.from_crate.0 l.which)
    (λ i. dependency_at l.records.words.now (dependency_base l.records.layout + dependency_size * i)) l.records.layout.dependencies l.k))
    (dependencies (snap_by l.records l.initial.area) l.x l.left l.item (out_of l.initial.best) (select (among l.x.from_crate.0 l.which)
    (snap_by l.records l.initial.area).dependencies))

abbrev pub decreases-find_in_deps-loop-next : goal.decreases-find_in_deps-loop-next
decreases-find_in_deps-loop-next l = l.records.layout.dependencies - l.k
