use Prim.Native.Nat.{ℕ, ◌+◌, ◌*◌}
use native.Mathlib.Omega.{arith}
use mathlib.Core.Path.{refl, sym, ap, ◌∙◌, subst}
use mathlib.Core.List.{List}
use Rattle.snapshot.specs.Sizes.{dependency_size}
use Rattle.snapshot.specs.Records.{import_at, dependency_at}
use Rattle.snapshot.specs.Origins.{origin_number}
use Rattle.snapshot.specs.Layouts.{dependency_base}
use Rattle.snapshot.proofs.Laws.{rows_whole}
use Rattle.hir_def.specs.Finds.{select}
use Rattle.hir_def.specs.Nameres.{dependencies_of, lang_of}
use Rattle.hir_def.specs.ImportMap.{import_info_for}
use Rattle.hir_def.specs.Entries.{entry_of}
use Rattle.hir_def.proofs.Lookups.{next_record, next_none, imports_whole}
use Rattle.hir_def.proofs.Fits.{few_words, import_meets}
use Rattle.hir_def.proofs.Along.{import_follows}
use Rattle.hir_def.specs.crate_graph.Among.{among}
use Rattle.find_path_choice.specs.Given.{given}
use Rattle.find_path_spec.specs.Charged.{found_of, out_of, given_found, is_stable}
use Rattle.find_path_spec.specs.Conditions.{Searched}
use Rattle.find_path_spec.proofs.laws.Unfold.{length_falls}
use Rattle.find_path_spec.proofs.laws.Tables.{same_reads}
use Rattle.find_path.specs.charged_search.Parts.{imports, dependencies, sysroot}
use Rattle.find_path.proofs.charged_search.Parts.{at_home, module_ns, module_none, module_found, module_charged, best_empty, best_charged, go_here}
use Rattle.find_path.proofs.charged_search.Parts.{go_sysroot, go_dependencies, lang_stable, lang_none, lang_some, rest_stable, import_hidden}
use Rattle.find_path.proofs.charged_search.Holding.{offered, charge_sum, module_small, held_nothing, home_below}
use Rattle.find_path.proofs.charged_search.Runs.{begun_later, lang_passed, deps_passed, lang_run, rest_run, import_run, running_done}
use Rattle.find_path.proofs.charged_search.Runs.{imports_end, imports_next, deps_end, deps_next, deps_skip}
use Rattle.snapshot.specs.Laid.{snap_by}
use Rattle.find_path.proofs.charged_search.+charged.Goals as goal

pub calculate_best_path-charge-requires : goal.calculate_best_path-charge-requires
calculate_best_path-charge-requires t c = (
  module_small c.args.records.now.words.now c.args.area.now c.args.records.now.layout c.args.item c.requires.0.ready.reads
      c.requires.1.0,
  c.requires.2,
)

pub calculate_best_path-search_charged-requires : goal.calculate_best_path-search_charged-requires
calculate_best_path-search_charged-requires t c =
    let a = c.args in (
      omega (arith, c.decreases),
      (
        c.requires.0,
        c.requires.1,
        charge_sum a.left _ a.t c.charge.ensures
            c.in-Ok.is c.requires.2,
      ),
    )

pub calculate_best_path-returns-in-Err : goal.calculate_best_path-returns-in-Err
calculate_best_path-returns-in-Err t c =
    let a = c.args in
    record {
      same = best_empty (snap_by a.records.now a.area.now) a.x a.left a.item a.t
          c.charge.ensures c.in-Err.is;
      tables = refl;
    }

pub calculate_best_path-returns-in-Ok : goal.calculate_best_path-returns-in-Ok
calculate_best_path-returns-in-Ok t c =
    let a = c.args in
    let f = c.search_charged in
    record {
      same = f.ensures.same ∙ ap found_of (best_charged (snap_by a.records.now a.area.now) a.x a.left a.item
          a.t c.charge.ensures
          c.in-Ok.is);
      tables = f.ensures.tables;
    }

pub find_import-returns-then-is_hidden : goal.find_import-returns-then-is_hidden
find_import-returns-then-is_hidden t c =
    let a = c.args in
    record {
      same = ap found_of (import_hidden (snap_by a.records.now a.area.now) a.x a.left (out_of a.o)
          (import_at a.records.now.words.now a.h) _ (sym c.is_hidden.ensures ∙ c.if-is_hidden.true));
      tables = refl;
    }

pub find_import-find_path_for_module-r-requires : goal.find_import-find_path_for_module-r-requires
find_import-find_path_for_module-r-requires t c =
    let a = c.args in
    let g = c.requires.0 in
    let k = length_falls a.left (given a.o.choice) g.some in
    let e = c.length_left-n.ensures in (
      omega (arith, c.decreases, k, e),
      (g.ready, omega (arith, c.import_container-m.ensures, c.requires.1), omega (arith, k, e, g.limit), c.requires.3.tank),
    )

pub find_import-invariant_of-db : goal.find_import-invariant_of-db
find_import-invariant_of-db t c = record { reads = same_reads _ _ _ _ c.find_path_for_module-r.ensures.tables c.requires.0.ready.reads }

pub find_import-offer_import-choice-requires : goal.find_import-offer_import-choice-requires
find_import-offer_import-choice-requires t c =
    let a = c.args in
    let g = c.requires.0 in
    let f = c.find_path_for_module-r in
    let k = length_falls a.left (given a.o.choice) g.some in
    let q = offered a.records.now.words.now a.area.now a.records.now.layout a.x a.left _ _ _ (given_found f.result) g.ready.reads g.limit
    (omega (arith, k, c.length_left-n.ensures)) f.ensures.same in (
      c.requires.2,
      omega (arith, c.requires.3.few, g.limit),
      q.few,
      q.text,
      q.steps,
    )

pub find_import-returns : goal.find_import-returns
find_import-returns t c =
    let a = c.args in
    let f = c.find_path_for_module-r in
    import_run a.left a.h a.o c.requires.0.ready
    (sym c.is_hidden.ensures
    ∙ c.if-is_hidden.false)
    c.length_left-n.ensures
    c.import_container-m.ensures f.ensures c.offer_import-choice.ensures

pub find_in_dep-loop-next-init : goal.find_in_dep-loop-next-init
find_in_dep-loop-next-init t c =
    let a = c.args in (
      record {
        same = ap (imports (snap_by a.records.now a.area.now) a.x a.left (out_of a.o))
            (sym (imports_whole a.records.now.words.now a.area.now a.records.now.layout a.c.0 a.item));
        tables = refl;
        long = refl;
        held = c.requires.1;
      },
      omega arith,
      λ h. absurd (omega arith),
    )

pub find_in_dep-import_info_for-requires : goal.find_in_dep-import_info_for-requires
find_in_dep-import_info_for-requires t c = (c.loop-next.invariant.1, c.loop-next.invariant.2)

pub find_in_dep-find_import-best-requires : goal.find_in_dep-find_import-best-requires
find_in_dep-find_import-best-requires t c =
    let a = c.args in
    let g = c.loop-next in
    let m = next_record (c.import_info_for.ensures a.area.now) c.in-Some.is in
    let q = import_meets a.records.now.words.now a.area.now a.records.now.layout c.requires.0.ready.reads m in
    (omega (arith, c.decreases), (begun_later c.requires.0 g.invariant.0.tables g.invariant.0.long, q.container, q, g.invariant.0.held))

pub find_in_dep-overflow_add-k : goal.find_in_dep-overflow_add-k
find_in_dep-overflow_add-k t c =
    let a = c.args in
    let m = next_record (c.import_info_for.ensures a.area.now)
    c.in-Some.is in
    record { fits = omega (arith, m.below, few_words _ _ _ c.requires.0.ready.reads) }

pub find_in_dep-loop-next-smaller : goal.find_in_dep-loop-next-smaller
find_in_dep-loop-next-smaller t c =
    let a = c.args in
    let m = next_record (c.import_info_for.ensures a.area.now)
    c.in-Some.is in
    omega (arith, m.from, m.below)

pub find_in_dep-loop-next-preserved : goal.find_in_dep-loop-next-preserved
find_in_dep-loop-next-preserved t c =
    let a = c.args in
    let m = next_record (c.import_info_for.ensures a.area.now)
    c.in-Some.is in
    let g = c.loop-next in (
      imports_next a.records.now.words.now a.area.now g.area a.records.now.layout a.x a.left c.requires.0.ready c.requires.0.some
          g.invariant.0 m c.find_import-best.ensures (omega (arith, c.find_import-best.array_long, c.told-area, g.invariant.0.long)),
      omega (arith, m.below),
      import_follows a.records.now.words.now a.area.now a.records.now.layout a.c.0 a.item m,
    )

pub find_in_dep-invariant_of-db : goal.find_in_dep-invariant_of-db
find_in_dep-invariant_of-db t c =
    let g = c.loop-next in
    record { reads = (begun_later c.requires.0 g.invariant.0.tables g.invariant.0.long).ready.reads }

pub find_in_dep-returns-in_default : goal.find_in_dep-returns-in_default
find_in_dep-returns-in_default t c =
    let a = c.args in
    let g = c.loop-next in
    running_done g.invariant.0 (imports_end a.records.now.words.now a.area.now g.area a.records.now.layout a.x a.left c.requires.0.ready
    c.requires.0.some g.best _ (next_none (c.import_info_for.ensures a.area.now) c.in_default.is).none)

pub find_in_deps-loop-next-init : goal.find_in_deps-loop-next-init
find_in_deps-loop-next-init t c =
    let a = c.args in
    record {
      same = ap (dependencies (snap_by a.records.now a.area.now) a.x a.left a.item (out_of a.o))
          (sym (rows_whole (select (among a.x.from_crate.0 a.which))
          (λ i. dependency_at a.records.now.words.now (dependency_base a.records.now.layout + dependency_size * i))
          a.records.now.layout.dependencies));
      tables = refl;
      long = refl;
      held = c.requires.1;
    }

pub find_in_deps-find_in_dep-best-requires : goal.find_in_deps-find_in_dep-best-requires
find_in_deps-find_in_dep-best-requires t c =
    let a = c.args in
    let g = c.loop-next in
    (omega (arith, c.decreases), (begun_later c.requires.0 g.invariant.tables g.invariant.long, g.invariant.held))

pub find_in_deps-overflow_add-k : goal.find_in_deps-overflow_add-k
find_in_deps-overflow_add-k t c =
    let a = c.args in
    let m = next_record c.next_dependency.ensures
    c.in-Some.is in
    record { fits = omega (arith, m.below, few_words _ _ _ c.requires.0.ready.reads) }

pub find_in_deps-loop-next-smaller : goal.find_in_deps-loop-next-smaller
find_in_deps-loop-next-smaller t c =
    let a = c.args in
    let m = next_record c.next_dependency.ensures
    c.in-Some.is in
    omega (arith, m.from, m.below)

pub find_in_deps-loop-next-smaller-then-not-is_imported : goal.find_in_deps-loop-next-smaller-then-not-is_imported
find_in_deps-loop-next-smaller-then-not-is_imported t c =
    let m = next_record c.next_dependency.ensures c.in-Some.is in
    omega (arith, m.from, m.below)

pub find_in_deps-loop-next-preserved-then-not-is_imported : goal.find_in_deps-loop-next-preserved-then-not-is_imported
find_in_deps-loop-next-preserved-then-not-is_imported t c =
    let a = c.args in
    let g = c.loop-next in
    deps_skip a.records.now.words.now a.area.now g.area a.records.now.layout a.x a.left c.requires.0.ready c.requires.0.some a.item
    g.invariant (next_record c.next_dependency.ensures c.in-Some.is) c.dependency_crate-c.ensures (c.is_imported.ensures c.if-not-is_imported.true)

pub find_in_deps-loop-next-preserved : goal.find_in_deps-loop-next-preserved
find_in_deps-loop-next-preserved t c =
    let a = c.args in
    let m = next_record c.next_dependency.ensures
    c.in-Some.is in
    let g = c.loop-next in
    deps_next a.records.now.words.now a.area.now g.area a.records.now.layout a.x a.left c.requires.0.ready c.requires.0.some a.item
    g.invariant m c.dependency_crate-c.ensures c.find_in_dep-best.ensures
    (omega (arith, c.find_in_dep-best.array_long, c.told-area, g.invariant.long))

pub find_in_deps-invariant_of-db : goal.find_in_deps-invariant_of-db
find_in_deps-invariant_of-db t c =
    let g = c.loop-next in
    record { reads = (begun_later c.requires.0 g.invariant.tables g.invariant.long).ready.reads }

pub find_in_deps-returns-in_default : goal.find_in_deps-returns-in_default
find_in_deps-returns-in_default t c =
    let a = c.args in
    let g = c.loop-next in
    running_done g.invariant (deps_end a.records.now.words.now a.area.now g.area a.records.now.layout a.x a.left c.requires.0.ready
    c.requires.0.some a.item g.best _ (next_none c.next_dependency.ensures c.in_default.is).none)

pub find_in_lang-returns-then-is_stable : goal.find_in_lang-returns-then-is_stable
find_in_lang-returns-then-is_stable t c =
    let a = c.args in
    record {
      same = ap found_of (lang_stable (snap_by a.records.now a.area.now) a.x a.left a.item (out_of a.o)
          (origin_number a.lang) _ (sym c.is_stable.ensures ∙ c.if-is_stable.true));
      tables = refl;
    }

pub find_in_lang-returns-in_default : goal.find_in_lang-returns-in_default
find_in_lang-returns-in_default t c =
    let a = c.args in
    let e = sym (ap (entry_of dependency_at a.records.now.words.now) c.in_default.is) ∙ c.lang_of.ensures a.area.now
    ∙ ap (lang_of (snap_by a.records.now a.area.now) a.x.from_crate.0) c.number.ensures in
    record {
      same = ap found_of (lang_none (snap_by a.records.now a.area.now) a.x a.left a.item (out_of a.o)
          (origin_number a.lang) _ (sym c.is_stable.ensures ∙ c.if-is_stable.false) e);
      tables = refl;
    }

pub find_in_lang-returns : goal.find_in_lang-returns
find_in_lang-returns t c =
    let a = c.args in
    let f = c.find_in_dep in
    let e = sym (ap (entry_of dependency_at a.records.now.words.now) c.in-Some.is)
    ∙ c.lang_of.ensures a.area.now
    ∙ ap (lang_of (snap_by a.records.now a.area.now) a.x.from_crate.0) c.number.ensures in
    record {
      same =
          f.ensures.same
          ∙ ap (λ (z : ℕ). found_of (imports (snap_by a.records.now a.area.now) a.x a.left (out_of a.o)
          (import_info_for (snap_by a.records.now a.area.now) z a.item))) c.dependency_crate.ensures
          ∙ ap found_of (lang_some (snap_by a.records.now a.area.now) a.x a.left a.item (out_of a.o)
          (origin_number a.lang) _ _ (sym c.is_stable.ensures
          ∙ c.if-is_stable.false) e);
      tables = f.ensures.tables;
    }

pub find_in_rest-returns-then-is_stable : goal.find_in_rest-returns-then-is_stable
find_in_rest-returns-then-is_stable t c =
    let a = c.args in
    record {
      same = ap found_of (rest_stable (snap_by a.records.now a.area.now) a.x a.left a.item
          (out_of a.o) _ (sym c.is_stable.ensures ∙ c.if-is_stable.true));
      tables = refl;
    }

pub find_in_rest-find_in_deps-a-requires : goal.find_in_rest-find_in_deps-a-requires
find_in_rest-find_in_deps-a-requires t c =
    (omega (arith, c.decreases), (c.requires.0, c.requires.1))

pub find_in_rest-find_in_deps-requires : goal.find_in_rest-find_in_deps-requires
find_in_rest-find_in_deps-requires t c =
    let a = c.args in
    let f = c.find_in_deps-a in
    let p = deps_passed a.item _ (record { begun = c.requires.0; held = c.requires.1 }) f.ensures f.array_long c.told-area in
    (omega (arith, c.decreases), (p.begun, p.held))

pub find_in_rest-returns : goal.find_in_rest-returns
find_in_rest-returns t c =
    let a = c.args in
    let f = c.find_in_deps-a in
    let r = c.find_in_deps in
    rest_run a.left a.item a.o c.requires.0.ready
    (sym c.is_stable.ensures
    ∙ c.if-is_stable.false) f.ensures r.ensures

pub find_in_sysroot-find_in_lang-b-requires : goal.find_in_sysroot-find_in_lang-b-requires
find_in_sysroot-find_in_lang-b-requires t c =
    let a = c.args in
    let f1 = c.find_in_lang-a in
    let p1 = lang_passed a.item _ (record { begun = c.requires.0; held = c.requires.1 }) f1.ensures f1.array_long c.told-area in
    (omega (arith, c.decreases), (p1.begun, p1.held))

pub find_in_sysroot-find_in_lang-c-requires : goal.find_in_sysroot-find_in_lang-c-requires
find_in_sysroot-find_in_lang-c-requires t c =
    let a = c.args in
    let f1 = c.find_in_lang-a in
    let p1 = lang_passed a.item _ (record { begun = c.requires.0; held = c.requires.1 }) f1.ensures f1.array_long c.told-area in
    let p2 = lang_passed a.item _ p1 c.find_in_lang-b.ensures c.find_in_lang-b.array_long f1.array_long in
    (omega (arith, c.decreases), (p2.begun, p2.held))

pub find_in_sysroot-find_in_rest-requires : goal.find_in_sysroot-find_in_rest-requires
find_in_sysroot-find_in_rest-requires t c =
    let a = c.args in
    let f1 = c.find_in_lang-a in
    let p1 = lang_passed a.item _ (record { begun = c.requires.0; held = c.requires.1 }) f1.ensures f1.array_long c.told-area in
    let p2 = lang_passed a.item _ p1 c.find_in_lang-b.ensures c.find_in_lang-b.array_long f1.array_long in
    let p3 = lang_passed a.item _ p2 c.find_in_lang-c.ensures c.find_in_lang-c.array_long c.find_in_lang-b.array_long in
    (omega (arith, c.decreases), (p3.begun, p3.held))

pub find_in_sysroot-returns : goal.find_in_sysroot-returns
find_in_sysroot-returns t c =
    let a = c.args in
    let f1 = c.find_in_lang-a in
    let p1 = lang_passed a.item _ (record { begun = c.requires.0; held = c.requires.1 }) f1.ensures f1.array_long c.told-area in
    let p2 = lang_passed a.item _ p1 c.find_in_lang-b.ensures c.find_in_lang-b.array_long f1.array_long in
    let f3 = c.find_in_lang-c in
    let n = c.langs_for-langs in
    subst (λ (ls : List ℕ). Searched a.area.now (sysroot (snap_by a.records.now a.area.now) a.x a.left
    a.item (out_of a.o) ls (is_stable (given a.o.choice))) c.find_in_rest.new.area c.find_in_rest.result) n.ensures
    (lang_run a.left a.item _ _ a.o c.requires.0.ready f1.ensures
    (lang_run a.left a.item _ _ f1.result p1.begun.ready c.find_in_lang-b.ensures
    (lang_run a.left a.item _ _ c.find_in_lang-b.result p2.begun.ready f3.ensures c.find_in_rest.ensures)))

pub find_path_for_module-returns-then-left-eq0 : goal.find_path_for_module-returns-then-left-eq0
find_path_for_module-returns-then-left-eq0 t c =
    let a = c.args in
    record {
      same = module_none (snap_by a.records.now a.area.now) a.x a.left a.m.0 a.t
          c.if-left-eq0.true;
      tables = refl;
    }

pub find_path_for_module-returns-in-Some : goal.find_path_for_module-returns-in-Some
find_path_for_module-returns-in-Some t c =
    let a = c.args in
    record {
      same = module_found (snap_by a.records.now a.area.now) a.x a.left a.m.0 a.t
          c.if-left-eq0.false c.in-Some.ensures refl;
      tables = refl;
    }

pub find_path_for_module-calculate_best_path-requires : goal.find_path_for_module-calculate_best_path-requires
find_path_for_module-calculate_best_path-requires t c =
    let a = c.args in (
      omega (arith, c.decreases),
      (
        record {
          ready = c.requires.0;
          some = omega (arith, c.if-left-eq0.false);
          limit = c.requires.2;
        },
        (c.requires.1, module_ns _),
        c.requires.3,
      ),
    )

pub find_path_for_module-returns : goal.find_path_for_module-returns
find_path_for_module-returns t c =
    let a = c.args in
    let f = c.calculate_best_path in
    record {
      same = f.ensures.same ∙ ap found_of (module_charged (snap_by a.records.now a.area.now) a.x a.left
          a.m.0 a.t c.if-left-eq0.false
          c.in_default.ensures refl);
      tables = f.ensures.tables;
    }

pub search_charged-is_at-requires : goal.search_charged-is_at-requires
search_charged-is_at-requires t c =
    let a = c.args in
    let r = c.requires.0.ready.reads in
    home_below a.records.now.words.now a.area.now a.records.now.layout a.item r c.requires.1.0 (c.home_of-home.ensures a.area.now)

pub search_charged-returns-then-is_at : goal.search_charged-returns-then-is_at
search_charged-returns-then-is_at t c =
    let a = c.args in
    let f = c.calculate_best_path_local-choice in
    record {
      same = go_here (snap_by a.records.now a.area.now) a.x a.left a.item a.t f.ensures.same
          (at_home (snap_by a.records.now a.area.now) a.item a.x.from_crate.0
          (c.home_of-home.ensures a.area.now)
          c.is_at.ensures ∙ c.if-is_at.true);
      tables = f.ensures.tables;
    }

pub search_charged-find_in_sysroot-requires : goal.search_charged-find_in_sysroot-requires
search_charged-find_in_sysroot-requires t c =
    let a = c.args in
    (omega (arith, c.decreases), (c.requires.0, held_nothing a.left a.t c.requires.2))

pub search_charged-returns-then-x : goal.search_charged-returns-then-x
search_charged-returns-then-x t c =
    let a = c.args in
    let f = c.find_in_sysroot in
    record {
      same = f.ensures.same ∙ ap found_of (go_sysroot (snap_by a.records.now a.area.now) a.x a.left a.item
          a.t
          (at_home (snap_by a.records.now a.area.now) a.item a.x.from_crate.0
          (c.home_of-home.ensures a.area.now)
          c.is_at.ensures
          ∙ c.if-is_at.false) c.if-x.true);
      tables = f.ensures.tables;
    }

pub search_charged-find_in_deps-requires : goal.search_charged-find_in_deps-requires
search_charged-find_in_deps-requires t c =
    let a = c.args in
    (omega (arith, c.decreases), (c.requires.0, held_nothing a.left a.t c.requires.2))

pub search_charged-returns : goal.search_charged-returns
unfolding dependencies_of
search_charged-returns t c =
    let a = c.args in
    let f = c.find_in_deps in
    record {
      same = f.ensures.same ∙ ap found_of (go_dependencies (snap_by a.records.now a.area.now) a.x a.left
          a.item a.t
          (at_home (snap_by a.records.now a.area.now) a.item a.x.from_crate.0
          (c.home_of-home.ensures a.area.now)
          c.is_at.ensures
          ∙ c.if-is_at.false) c.if-x.false);
      tables = f.ensures.tables;
    }
