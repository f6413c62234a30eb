-- Fourteen worked cases on the worked snapshot, and more on five further snapshots: one table each of questions and lines.
use Rattle.std.proofs.Common.{◌≡◌, ℕ, ◌+◌, ◌*◌, Bool, true, ◌&&◌, List, [], ◌∷◌, ◌++◌, length, refl}
use Prim.Native.String.{String}
use Rattle.snapshot.specs.Lists.{rows, any, all, eq_list}
use Rattle.snapshot.specs.Limits.{area_limit}
use Rattle.snapshot.specs.Words.{arguments_of}
use Rattle.snapshot.specs.Records.{Snapshot}
use Rattle.keywords.specs.Keywords.{is_keyword, is_raw}
use Rattle.check_rules.specs.Tests.{text_bound, padded}
use Rattle.check_rules.specs.Steps.{name_step, crate_step, dependency_step, map_step, module_step, child_step, prelude_step, definition_step}
use Rattle.check_rules.specs.Steps.{scope_step}
use Rattle.check_rules.specs.Steps.{import_step, extern_step, member_step}
use Rattle.check_rules.specs.Builtins.{packed}
use Rattle.check_rules.specs.Verdict.{arguments_from, record_step, step_at, finish, records, verdict}
use Rattle.check_rules.specs.Worked.{worked, worked_snapshot}
use Rattle.hir_def.specs.Finds.{or_first, first_of, place_of, select, first_some}
use Rattle.hir_def.specs.Items.{module_of, map_of, definition_of, crate_data, root_of, own_map, crate_root, or_else, containing, item_of, same_item}
use Rattle.hir_def.specs.Items.{ns_of}
use Rattle.hir_def.specs.Items.{home_by, home_of}
use Rattle.module_tree.specs.rules.Visibility.{last_or, last_to, last, met_or, met_to, met, unless, climb_step, climb, in_module, is_visible_from}
use Rattle.hir_def.specs.ItemScope.{is_for, name_of, names_of, preferred, get, modules_in_scope}
use Rattle.hir_def.specs.Nameres.{steps_or, steps_to, steps, ancestor_maps, scope_entry, entry_named, is_other, occupied, containers, children_of}
use Rattle.hir_def.specs.Nameres.{prelude_of}
use Rattle.hir_def.specs.Nameres.{extern_of, dependencies_of, lang_of, sysroot_first}
use Rattle.hir_def.specs.ImportMap.{import_info_for}
use Rattle.hir_def.proofs.Plain.{plainly}
use Rattle.read_back.specs.readings.Reads as Reads
use Rattle.read_back.specs.readings.Reads.{outward, scopes_from, stands_for, meaning, entry_or, extern_named, extern_means, in_externs}
use Rattle.read_back.specs.readings.Reads.{prelude_means, in_prelude_of, entry_from, first_name, variant_named, variant_in, later_name}
use Rattle.read_back.specs.readings.Reads.{after, looked_in, follow, absolutely, parent_means, reads_to, is_the, reads_back}
use Rattle.find_path_spec.specs.declared.Query.{Query}
use Rattle.find_path_spec.specs.declared.Report.{Report}
use Rattle.find_path_spec.specs.declared.Question.{Question}
use Rattle.find_path_choice.specs.Choices.{name_data, is_prelude, path_kind_len, path_len, keyword, choice_new, extended, push, unstably}
use Rattle.find_path_choice.specs.Choices.{compare_bool, and_then, compare_prelude, taken, better, try_select, shorter_if, length_left}
use Rattle.find_path_spec.specs.Walk.{has, visited, start_from, leads_to, unmet, walk, find_local_import_locations}
use Rattle.find_path_spec.specs.Rules.{prefix_path_kind, plain_if, module_in, context_of, sought_of, first_found, single, find_in_scope}
use Rattle.find_path_spec.specs.Rules.{may_be_in_scope, scope_rule, same_here, prelude_entry, in_prelude, find_in_prelude, prelude_rule}
use Rattle.find_path_spec.specs.Rules.{extern_kind, extern_name, root_rule, parent_kind, is_kw_kind_relative_to_from, keyword_of, module_rules}
use Rattle.find_path_spec.specs.Local.{offer, offer_entry, entry_if, importable_name, location, each_location, calculate_best_path_local, or_local}
use Rattle.find_path_spec.specs.Local.{find_path_for_module_local}
use Rattle.find_path_spec.specs.Meters.{drained, draw, from_tank, filled, counted}
use Rattle.find_path_spec.specs.Charged.{langs, one_or_none, is_at, variant_of, push_variant, offer_import, find_import, find_imports}
use Rattle.find_path_spec.specs.Charged.{find_in_dep, find_in_deps, find_in_sysroot, go_on, after_charge, calculate_best_path, or_charged}
use Rattle.find_path_spec.specs.Charged.{find_path_for_module, after_enum, via_enum, or_enum, by_name, of_module, find_path_inner}
use Rattle.find_path_spec.specs.Search.{builtin_choice, local_to, search_local, best_local, module_to, search_module, item_to, search_item, from_home}
use Rattle.find_path_spec.specs.Search.{from_item, find_path}
use Rattle.find_path_spec.specs.Report.{call_fault, question_fault, refused, flag, misleads, outcome_by, reported, searched, searched_freely}
use Rattle.find_path_spec.specs.Report.{answer_unless, report_by, report_unless, report_of}
use Rattle.find_path_spec.specs.Report.{report_at}
use Rattle.find_path_spec.specs.Line.{bytes_of, unpacked, text_of, edition_in, written_of, decimal_to, decimal, joined, prefix_parts, path_text}
use Rattle.find_path_spec.specs.Line.{line_parts}
use Rattle.find_path_spec.specs.Line.{line_in, step_text, steps_text, route_text, routed_line_in, snapshot_of, line_of, routed_line_of}

pub record Row : Type 0 where
  pub question : Question
  pub line : String

-- definition, namespace, viewing module, prefix, options, fuel, limit, and the line
unfoldable pub row_at : ℕ → ℕ → ℕ → ℕ → ℕ → ℕ → ℕ → String → Row
row_at d ns m p o f n l =
    record {
      question = record {
        query = record {
          ns = ns;
          definition = record { 0 = d };
          from = record { 0 = m };
          prefix =
              p;
          options = o;
          limit = n;
        };
        fuel = f;
      };
      line = l;
    }

-- the same with the largest limit
abbrev pub row : ℕ → ℕ → ℕ → ℕ → ℕ → ℕ → String → Row
row d ns m p o f l = row_at d ns m p o f 15 l

-- the lines are those of the questions
unfoldable pub passes : List ℕ → List Row → Bool
unfolding line_of snapshot_of line_in line_parts path_text prefix_parts joined decimal decimal_to written_of edition_in is_raw is_keyword
    text_of unpacked report_of report_unless report_by answer_unless searched reported outcome_by misleads flag reads_back is_the reads_to
    parent_means absolutely Reads.plainly follow looked_in after later_name variant_in variant_named first_name entry_from in_prelude_of
    prelude_means in_externs extern_means extern_named entry_or meaning stands_for scopes_from outward refused question_fault call_fault
    find_path from_item builtin_choice from_home search_item item_to search_module module_to best_local search_local local_to find_path_inner
    of_module by_name or_enum via_enum after_enum find_path_for_module or_charged calculate_best_path after_charge go_on find_in_sysroot find_in_deps
    find_in_dep find_imports find_import offer_import push_variant is_at variant_of one_or_none langs from_tank filled draw drained
    find_path_for_module_local or_local calculate_best_path_local each_location location importable_name entry_if offer_entry offer module_rules
    keyword_of is_kw_kind_relative_to_from parent_kind root_rule extern_name extern_kind occupied is_other scope_entry entry_named prelude_rule
    find_in_prelude in_prelude prelude_entry same_here scope_rule may_be_in_scope find_in_scope single first_found sought_of context_of module_in
    plain_if prefix_path_kind find_local_import_locations walk unmet leads_to start_from visited has length_left shorter_if try_select better
    taken compare_prelude and_then compare_bool unstably push extended choice_new keyword path_len path_kind_len is_prelude name_data
    import_info_for sysroot_first lang_of dependencies_of extern_of prelude_of children_of containers ancestor_maps steps steps_to steps_or
    modules_in_scope get preferred or_first names_of name_of is_for is_visible_from in_module climb climb_step unless met met_to met_or last
    last_to last_or home_of home_by ns_of same_item item_of containing or_else crate_root own_map root_of crate_data definition_of map_of module_of
    first_some select place_of first_of verdict records step_at record_step finish arguments_from arguments_of name_step crate_step
    dependency_step map_step module_step child_step prelude_step definition_step scope_step import_step extern_step member_step text_bound
    padded rows any all eq_list
passes words table = all (λ r. eq_list (line_of words r.question) (bytes_of r.line)) table

-- module 0 is the root, module 1 its child `a`, definition 0 the module `a`, definition 1 a function `f` in it
unfoldable pub cases : List Row
cases =
    row 1 1 0 1 0 1 "found a::f 1 0"
    ∷ row 1 1 0 1 0 0 "none - 0 1"
    ∷ row 1 1 0 1 0 10001 "refused 21 0 0"
    ∷ row 1 1 0 0 0 9 "found self::a::f 1 0"
    ∷ row 1 1 0 2 0 9 "found crate::a::f 1 0"
    ∷ row 1 1 1 1 0 0 "found f 0 0"
    ∷ row 1 1 1 2 0 9 "found crate::a::f 1 0"
    ∷ row 0 0 0 1 0 0 "found a 0 0"
    ∷ row 0 0 1 1 0 9 "found self 0 0"
    ∷ row 0 0 1 2 0 9 "found crate::a 1 0"
    ∷ row 1 0 0 1 0 9 "none - 1 0"
    ∷ row 2 0 0 1 0 9 "refused 23 0 0"
    ∷ row 0 2 0 1 0 9 "refused 24 0 0"
    ∷ row 1 1 0 1 0 10000 "found a::f 1 0"
    ∷ []

pub worked_cases : passes worked cases ≡ true
unfolding passes cases row_at
worked_cases = refl

-- a head, and the words of a name
unfoldable pub head : ℕ → ℕ → ℕ
head kind payload = kind * 0x10000000 + payload

unfoldable pub named : String → List ℕ
named t = head 1 (length (bytes_of t)) ∷ packed (bytes_of t)

-- Crate 0, the viewer's, depends on crate 1. Modules: 0 its root, 1 its child `m`; 2 the root of crate 1, 3 and 4 its
-- children `inner` and `k`. Definitions: 0 `m`, 1 `inner`, 2 an enum `T` in `inner`, 3 its variant `V`, 4 the root of
-- crate 1, 5 the builtin `u8`, 6 and 8 in the root of crate 1, 7, 10 and 11 in `inner`, 9 `k`, 12 an enum in `inner`, 13 its
-- variant `V`, 14 in `inner`.
-- Crate 1 exports `T` from `inner`, `inner` from its root; 6 as `U`, unstable; 7 as `W` from `inner`, then from its root;
-- 8 as `H`, hidden; `k` from its root, unstable; 10 as `V` from `k`, then as `dep` from `inner`; 11 as `U` from its
-- root, unstable, then from `inner`; 13, but not its enum, as `H`; 14 as `U` from `inner`, then from its root, unstable. Crate 0 knows the
-- root of crate 1 as `dep`, and then as `alias`; in `m` the name `alias` means `T`.
unfoldable pub with_dependency : List ℕ
with_dependency =
    named "dep" ++ named "alias" ++ named "m" ++ named "inner" ++ named "T" ++ named "V" ++ named "u8" ++ named "U"
    ++ named "W" ++ named "H" ++ named "k"
    ++ (head 2 0 ∷ 2021 ∷ head 2 0 ∷ 2021 ∷ head 3 0 ∷ 1 ∷ 0
    -- maps, modules, children
    ∷ head 4 0 ∷ 0 ∷ 0 ∷ head 5 0 ∷ 0 ∷ head 5 0 ∷ 1 ∷ head 4 1 ∷ 0 ∷ 0 ∷ head 5 1 ∷ 0 ∷ head 5 1 ∷ 3 ∷ head 5 1 ∷ 3
    ∷ head 6 0 ∷ 1 ∷ head 6 2 ∷ 3 ∷ head 6 2 ∷ 4
    -- definitions
    ∷ head 8 1 ∷ 1 ∷ 0 ∷ head 8 1 ∷ 3 ∷ 0 ∷ head 8 4 ∷ 3 ∷ 0 ∷ head 8 2 ∷ 2 ∷ 5 ∷ head 8 1 ∷ 2 ∷ 0 ∷ head 8 3 ∷ 6 ∷ 0
    ∷ head 8 4 ∷ 2 ∷ 0 ∷ head 8 4 ∷ 3 ∷ 0 ∷ head 8 4 ∷ 2 ∷ 0 ∷ head 8 1 ∷ 4 ∷ 0 ∷ head 8 4 ∷ 3 ∷ 0 ∷ head 8 4 ∷ 3 ∷ 0
    ∷ head 8 4 ∷ 3 ∷ 0 ∷ head 8 2 ∷ 12 ∷ 5
    ∷ head 8 4 ∷ 3 ∷ 0
    -- scopes
    ∷ head 9 0 ∷ 0 ∷ 2 ∷ 0 ∷ 0 ∷ 0 ∷ 1 ∷ 0 ∷ head 9 1 ∷ 0 ∷ 1 ∷ 2 ∷ 3 ∷ 1 ∷ 0 ∷ 0 ∷ head 9 2 ∷ 0 ∷ 3 ∷ 1 ∷ 0 ∷ 0 ∷ 1 ∷ 0
    ∷ head 9 3 ∷ 0 ∷ 4 ∷ 2 ∷ 0 ∷ 0 ∷ 1 ∷ 0
    -- imports
    ∷ head 10 1 ∷ 0 ∷ 2 ∷ 4 ∷ 3 ∷ 0 ∷ head 10 1 ∷ 0 ∷ 1 ∷ 3 ∷ 2 ∷ 0 ∷ head 10 1 ∷ 0 ∷ 6 ∷ 7 ∷ 2 ∷ 2
    ∷ head 10 1 ∷ 0 ∷ 7 ∷ 8 ∷ 3 ∷ 0 ∷ head 10 1 ∷ 0 ∷ 7 ∷ 8 ∷ 2 ∷ 0 ∷ head 10 1 ∷ 0 ∷ 8 ∷ 9 ∷ 2 ∷ 1
    ∷ head 10 1 ∷ 0 ∷ 9 ∷ 10 ∷ 2 ∷ 2 ∷ head 10 1 ∷ 0 ∷ 10 ∷ 5 ∷ 4 ∷ 0 ∷ head 10 1 ∷ 0 ∷ 10 ∷ 0 ∷ 3 ∷ 0
    ∷ head 10 1 ∷ 0 ∷ 11 ∷ 7 ∷ 2 ∷ 2 ∷ head 10 1 ∷ 0 ∷ 11 ∷ 7 ∷ 3 ∷ 0 ∷ head 10 1 ∷ 1 ∷ 13 ∷ 9 ∷ 2 ∷ 0
    ∷ head 10 1 ∷ 0 ∷ 14 ∷ 7 ∷ 3 ∷ 0 ∷ head 10 1 ∷ 0 ∷ 14 ∷ 7 ∷ 2 ∷ 2
    -- externs
    ∷ head 11 0 ∷ 0 ∷ 2 ∷ head 11 0 ∷ 1 ∷ 2 ∷ [])

-- Worked out by hand from find_path.rs. A charge for the item, and one for `inner`, whose container, a root, is an extern.
unfoldable pub dependency_cases : List Row
dependency_cases =
    row 2 0 0 1 0 9 "found alias::inner::T 2 0"
    -- externs are not prefixed by `self` or `crate`, but by `::` where absolute paths are preferred, or the name is taken
    ∷ row 2 0 0 0 0 9 "found alias::inner::T 2 0"
    ∷ row 2 0 0 2 4 9 "found ::alias::inner::T 2 0"
    ∷ row 1 0 1 1 0 9 "found ::alias::inner 1 0"
    -- in `m` the scope has the item itself; as an import it does not count where local imports are ignored
    ∷ row 2 0 1 0 0 0 "found self::alias 0 0"
    ∷ row 2 0 1 1 16 9 "found ::alias::inner::T 2 0"
    -- the second charge finds the tank empty
    ∷ row 2 0 0 1 0 1 "none - 1 1"
    -- a variant through its enum
    ∷ row 3 1 0 1 0 2 "found alias::inner::T::V 2 0"
    -- its enum's search takes the only charge, and the own search finds the tank empty
    ∷ row 3 1 0 1 0 1 "none - 1 1"
    -- an enum without a path: its variant's own search goes on from the charge of the enum's
    ∷ row 13 1 0 1 0 9 "found alias::H 2 0"
    ∷ row 13 1 0 1 0 1 "none - 1 1"
    -- the root is an extern, and nothing is charged
    ∷ row 4 0 0 1 0 0 "found alias 0 0"
    -- an unstable import, not allowed and allowed; a hidden one
    ∷ row 6 0 0 1 0 9 "none - 1 0"
    ∷ row 6 0 0 1 8 9 "found alias::U 1 0"
    ∷ row 8 0 0 1 8 9 "none - 1 0"
    -- the longer path first, then the shorter one with two left
    ∷ row 7 0 0 1 0 9 "found alias::W 2 0"
    -- a stable import from an unstable module is unstable, and the stable path of the same length beats it
    ∷ row 10 0 0 1 8 9 "found alias::inner::dep 3 0"
    -- with two names found one is left for the next container: the short unstable path stays
    ∷ row 11 0 0 1 8 9 "found alias::U 2 0"
    -- no import of that namespace; a builtin in types and in values
    ∷ row 2 1 0 1 0 9 "none - 1 0"
    ∷ row 5 0 0 1 0 0 "found u8 0 0"
    ∷ row 5 1 0 1 0 9 "none - 0 0"
    -- the caller's faults, the first one first
    ∷ row 99 3 0 1 0 9 "refused 22 0 0"
    ∷ row 99 3 0 1 0 10001 "refused 21 0 0"
    ∷ row 2 2 99 1 0 9 "refused 23 0 0"
    ∷ []

pub dependency_cases_lem : passes with_dependency dependency_cases ≡ true
unfolding passes dependency_cases row_at with_dependency named head
dependency_cases_lem = refl

-- Crate 0 depends on std (crate 2) and then on core (crate 1), both of the sysroot. Modules: 0 its root, in a map with no_std_lem;
-- 1 and 2 the roots of core and std; 3 a block in crate 0, whose map is not no_std_lem and has std's root as its prelude.
-- Definitions: 0 `O` in core, 1 the root of std, 2 `P` in std, 3 a macro `m` in core, 4 `U` in core.
-- Both export `O`; core exports `m`, and `U` unstable; std exports `U` stable. `P` is in std's scope and no import.
unfoldable pub with_std : List ℕ
with_std =
    named "core" ++ named "std" ++ named "O" ++ named "P" ++ named "m" ++ named "U"
    ++ (head 2 0 ∷ 2021 ∷ head 2 1 ∷ 2021 ∷ head 2 3 ∷ 2021 ∷ head 3 0 ∷ 2 ∷ 1 ∷ head 3 0 ∷ 1 ∷ 1
    ∷ head 4 0 ∷ 0 ∷ 1 ∷ head 5 0 ∷ 0 ∷ head 4 1 ∷ 0 ∷ 0 ∷ head 5 1 ∷ 0 ∷ head 4 2 ∷ 0 ∷ 0 ∷ head 5 2 ∷ 0
    ∷ head 4 0 ∷ 1 ∷ 0 ∷ head 5 3 ∷ 0
    ∷ head 7 3 ∷ 2
    ∷ head 8 4 ∷ 1 ∷ 0 ∷ head 8 1 ∷ 2 ∷ 0 ∷ head 8 4 ∷ 2 ∷ 0 ∷ head 8 5 ∷ 1 ∷ 0 ∷ head 8 4 ∷ 1 ∷ 0
    ∷ head 9 2 ∷ 0 ∷ 3 ∷ 2 ∷ 0 ∷ 0 ∷ 1 ∷ 0
    ∷ head 10 1 ∷ 0 ∷ 0 ∷ 2 ∷ 1 ∷ 0 ∷ head 10 2 ∷ 0 ∷ 0 ∷ 2 ∷ 2 ∷ 0 ∷ head 10 1 ∷ 2 ∷ 3 ∷ 4 ∷ 1 ∷ 0
    ∷ head 10 1 ∷ 0 ∷ 4 ∷ 5 ∷ 1 ∷ 2 ∷ head 10 2 ∷ 0 ∷ 4 ∷ 5 ∷ 2 ∷ 0
    ∷ head 11 0 ∷ 0 ∷ 1 ∷ head 11 0 ∷ 1 ∷ 2 ∷ [])

-- Worked out by hand from find_path.rs.
unfoldable pub std_cases : List Row
std_cases =
    -- no_std_lem by the viewer's map: core first, and its stable choice ends the search
    row 0 0 0 1 0 9 "found core::O 1 0"
    ∷ row 0 0 0 2 4 9 "found ::core::O 1 0"
    -- the block's map is not no_std: std first; the option asks for core
    ∷ row 0 0 3 1 0 9 "found std::O 1 0"
    ∷ row 0 0 3 1 1 9 "found core::O 1 0"
    ∷ row 0 0 3 1 0 0 "none - 0 1"
    -- a std module as the item: no module search, no import of it
    ∷ row 1 0 0 1 0 9 "none - 1 0"
    -- the prelude of the block's map; the other map has none
    ∷ row 2 0 3 1 0 0 "found P 0 0"
    ∷ row 2 0 0 1 0 9 "none - 1 0"
    ∷ row 3 2 0 1 0 9 "found core::m 1 0"
    -- core's import is unstable: passed over, or beaten by std's stable one
    ∷ row 4 0 0 1 0 9 "found std::U 1 0"
    ∷ row 4 0 0 1 8 9 "found std::U 1 0"
    ∷ []

pub std_cases_lem : passes with_std std_cases ≡ true
unfolding passes std_cases row_at with_std named head
std_cases_lem = refl

-- Crate 0 depends on core (crate 1), of the sysroot, and on crate 2, which depends on crate 3. Modules 0 to 3 are their roots. Definitions: 0 `O` in
-- core, which exports nothing; crate 2 exports it. 1 in crate 3, which exports it as `O`.
pub with_facade : List ℕ
with_facade =
    named "core" ++ named "dep" ++ named "O"
    ++ (head 2 0 ∷ 2021 ∷ head 2 1 ∷ 2021 ∷ head 2 0 ∷ 2021 ∷ head 2 0 ∷ 2021 ∷ head 3 0 ∷ 1 ∷ 1 ∷ head 3 0 ∷ 2 ∷ 0 ∷ head 3 2 ∷ 3 ∷ 0
    ∷ head 4 0 ∷ 0 ∷ 0 ∷ head 5 0 ∷ 0 ∷ head 4 1 ∷ 0 ∷ 0 ∷ head 5 1 ∷ 0 ∷ head 4 2 ∷ 0 ∷ 0 ∷ head 5 2 ∷ 0 ∷ head 4 3 ∷ 0 ∷ 0 ∷ head 5 3 ∷ 0
    ∷ head 8 4 ∷ 1 ∷ 0 ∷ head 8 4 ∷ 3 ∷ 0 ∷ head 10 2 ∷ 0 ∷ 0 ∷ 2 ∷ 2 ∷ 0 ∷ head 10 3 ∷ 0 ∷ 1 ∷ 2 ∷ 3 ∷ 0
    ∷ head 11 0 ∷ 0 ∷ 1 ∷ head 11 0 ∷ 1 ∷ 2 ∷ [])

pub facade_cases : List Row
facade_cases =
    -- after the languages every dependency is searched
    row 0 0 0 1 0 9 "found dep::O 1 0"
    -- but not a dependency of a dependency
    ∷ row 1 0 0 1 0 9 "none - 1 0"
    ∷ []

pub facade_cases_lem : passes with_facade facade_cases ≡ true
unfolding passes facade_cases row_at with_facade named head
facade_cases_lem = refl

-- Crate 0 has modules 0, its root, and 1 below it; module 2 is the root of crate 1. Definitions: 0 the module 2, `d` in the root of crate 0; 1 in
-- the module 1, without an entry there; the root of crate 1 has it as `x`.
pub with_foreign : List ℕ
with_foreign =
    named "d" ++ named "x"
    ++ (head 2 0 ∷ 2021 ∷ head 2 0 ∷ 2021 ∷ head 3 0 ∷ 1 ∷ 0
    ∷ head 4 0 ∷ 0 ∷ 0 ∷ head 5 0 ∷ 0 ∷ head 5 0 ∷ 1 ∷ head 4 1 ∷ 0 ∷ 0 ∷ head 5 1 ∷ 0 ∷ head 6 0 ∷ 1
    ∷ head 8 1 ∷ 2 ∷ 0 ∷ head 8 4 ∷ 1 ∷ 0
    ∷ head 9 0 ∷ 0 ∷ 0 ∷ 0 ∷ 0 ∷ 0 ∷ 0 ∷ 0 ∷ head 9 2 ∷ 0 ∷ 1 ∷ 1 ∷ 0 ∷ 0 ∷ 0 ∷ 0 ∷ [])

pub foreign_cases : List Row
foreign_cases =
    row 0 0 0 1 0 9 "found d 0 0"
    -- a local search does not look into another crate
    ∷ row 1 0 1 1 0 9 "none - 1 0"
    ∷ []

pub foreign_cases_lem : passes with_foreign foreign_cases ≡ true
unfolding passes foreign_cases row_at with_foreign named head
foreign_cases_lem = refl

-- One crate. Modules: 0 its root; 1 `a`, 2 `b`, 3 `prelude`, 4 `d` below it; 5 `inner`, 6 `e` below `a`; 7 a block in `a`,
-- with the modules 8 and 9 in the block. The prelude of the crate's own map is `e`.
-- Definitions: 0 to 5 the modules 1 to 6; the others by their entries: 6 is `x` in `a` and `y` in `b`; 7 `x` in `prelude` and
-- `inner`; 8 `y` in `prelude` and `d`; 9 `prelude` in `a` and a long name in `b`; 10 a long name in `a` and `d`, `prelude` in
-- `b`; 11 `u` in `a`, a private import, and `xx` in `b`; 12 `v` in `a`, for `a` alone, and `inner` in `b`; 13 `y` in `inner` and
-- `x` in the root; 14 `s` in `a` and `w` in the root; 15 `t` in the block; 16 `u` in the root, for the block; 17 `v` in the
-- root, for the module 9; 18 `w` in `e`, and then `s`; 19 `y` in `e`, for `e` alone; 20 `y` in `a`, for `a` alone, and then `xx` in `a`.
pub with_modules : List ℕ
with_modules =
    named "a" ++ named "b" ++ named "prelude" ++ named "d" ++ named "inner" ++ named "e" ++ named "x" ++ named "y"
    ++ named "xx" ++ named "yyyyyyyyyy" ++ named "s" ++ named "t" ++ named "u" ++ named "v" ++ named "w"
    ++ (head 2 0 ∷ 2021
    -- maps, modules, children, prelude
    ∷ head 4 0 ∷ 0 ∷ 0 ∷ head 5 0 ∷ 0 ∷ head 5 0 ∷ 1 ∷ head 5 0 ∷ 1 ∷ head 5 0 ∷ 1 ∷ head 5 0 ∷ 1 ∷ head 5 0 ∷ 2 ∷ head 5 0 ∷ 2
    ∷ head 4 0 ∷ 2 ∷ 0 ∷ head 5 1 ∷ 0 ∷ head 5 1 ∷ 8 ∷ head 5 1 ∷ 8
    ∷ head 6 0 ∷ 1 ∷ head 6 0 ∷ 2 ∷ head 6 0 ∷ 3 ∷ head 6 0 ∷ 4 ∷ head 6 1 ∷ 5 ∷ head 6 1 ∷ 6
    ∷ head 7 0 ∷ 6
    -- definitions
    ∷ head 8 1 ∷ 1 ∷ 0 ∷ head 8 1 ∷ 2 ∷ 0 ∷ head 8 1 ∷ 3 ∷ 0 ∷ head 8 1 ∷ 4 ∷ 0 ∷ head 8 1 ∷ 5 ∷ 0 ∷ head 8 1 ∷ 6 ∷ 0
    ∷ head 8 4 ∷ 1 ∷ 0 ∷ head 8 4 ∷ 5 ∷ 0 ∷ head 8 4 ∷ 4 ∷ 0 ∷ head 8 4 ∷ 1 ∷ 0 ∷ head 8 4 ∷ 1 ∷ 0 ∷ head 8 4 ∷ 1 ∷ 0
    ∷ head 8 4 ∷ 1 ∷ 0 ∷ head 8 4 ∷ 5 ∷ 0 ∷ head 8 4 ∷ 1 ∷ 0 ∷ head 8 4 ∷ 7 ∷ 0 ∷ head 8 4 ∷ 0 ∷ 0 ∷ head 8 4 ∷ 7 ∷ 0
    ∷ head 8 4 ∷ 6 ∷ 0 ∷ head 8 4 ∷ 6 ∷ 0 ∷ head 8 4 ∷ 1 ∷ 0
    -- scopes: the modules
    ∷ head 9 0 ∷ 0 ∷ 0 ∷ 0 ∷ 0 ∷ 0 ∷ 1 ∷ 0 ∷ head 9 0 ∷ 0 ∷ 1 ∷ 1 ∷ 0 ∷ 0 ∷ 1 ∷ 0 ∷ head 9 0 ∷ 0 ∷ 2 ∷ 2 ∷ 0 ∷ 0 ∷ 1 ∷ 0
    ∷ head 9 0 ∷ 0 ∷ 3 ∷ 3 ∷ 0 ∷ 0 ∷ 1 ∷ 0 ∷ head 9 1 ∷ 0 ∷ 4 ∷ 4 ∷ 0 ∷ 0 ∷ 1 ∷ 0 ∷ head 9 1 ∷ 0 ∷ 5 ∷ 5 ∷ 0 ∷ 0 ∷ 1 ∷ 0
    -- scopes: the others, in order
    ∷ head 9 1 ∷ 0 ∷ 6 ∷ 6 ∷ 0 ∷ 0 ∷ 1 ∷ 0 ∷ head 9 2 ∷ 0 ∷ 7 ∷ 6 ∷ 0 ∷ 0 ∷ 0 ∷ 0
    ∷ head 9 3 ∷ 0 ∷ 6 ∷ 7 ∷ 0 ∷ 0 ∷ 0 ∷ 0 ∷ head 9 5 ∷ 0 ∷ 6 ∷ 7 ∷ 0 ∷ 0 ∷ 1 ∷ 0
    ∷ head 9 3 ∷ 0 ∷ 7 ∷ 8 ∷ 0 ∷ 0 ∷ 0 ∷ 0 ∷ head 9 4 ∷ 0 ∷ 7 ∷ 8 ∷ 0 ∷ 0 ∷ 1 ∷ 0
    ∷ head 9 1 ∷ 0 ∷ 2 ∷ 9 ∷ 0 ∷ 0 ∷ 1 ∷ 0 ∷ head 9 2 ∷ 0 ∷ 9 ∷ 9 ∷ 0 ∷ 0 ∷ 0 ∷ 0
    ∷ head 9 1 ∷ 0 ∷ 9 ∷ 10 ∷ 0 ∷ 0 ∷ 1 ∷ 0 ∷ head 9 2 ∷ 0 ∷ 2 ∷ 10 ∷ 0 ∷ 0 ∷ 0 ∷ 0 ∷ head 9 4 ∷ 0 ∷ 9 ∷ 10 ∷ 0 ∷ 0 ∷ 0 ∷ 0
    ∷ head 9 1 ∷ 0 ∷ 12 ∷ 11 ∷ 3 ∷ 0 ∷ 0 ∷ 0 ∷ head 9 2 ∷ 0 ∷ 8 ∷ 11 ∷ 0 ∷ 0 ∷ 0 ∷ 0
    ∷ head 9 1 ∷ 0 ∷ 13 ∷ 12 ∷ 2 ∷ 1 ∷ 1 ∷ 0 ∷ head 9 2 ∷ 0 ∷ 4 ∷ 12 ∷ 0 ∷ 0 ∷ 0 ∷ 0
    ∷ head 9 5 ∷ 0 ∷ 7 ∷ 13 ∷ 0 ∷ 0 ∷ 1 ∷ 0 ∷ head 9 0 ∷ 0 ∷ 6 ∷ 13 ∷ 0 ∷ 0 ∷ 0 ∷ 0
    ∷ head 9 1 ∷ 0 ∷ 10 ∷ 14 ∷ 0 ∷ 0 ∷ 1 ∷ 0 ∷ head 9 0 ∷ 0 ∷ 14 ∷ 14 ∷ 0 ∷ 0 ∷ 0 ∷ 0
    ∷ head 9 7 ∷ 0 ∷ 11 ∷ 15 ∷ 0 ∷ 0 ∷ 1 ∷ 0 ∷ head 9 0 ∷ 0 ∷ 12 ∷ 16 ∷ 2 ∷ 7 ∷ 1 ∷ 0 ∷ head 9 0 ∷ 0 ∷ 13 ∷ 17 ∷ 2 ∷ 9 ∷ 1 ∷ 0
    ∷ head 9 6 ∷ 0 ∷ 14 ∷ 18 ∷ 0 ∷ 0 ∷ 1 ∷ 0 ∷ head 9 6 ∷ 0 ∷ 7 ∷ 19 ∷ 2 ∷ 6 ∷ 1 ∷ 0
    ∷ head 9 1 ∷ 0 ∷ 7 ∷ 20 ∷ 2 ∷ 1 ∷ 1 ∷ 0 ∷ head 9 1 ∷ 0 ∷ 8 ∷ 20 ∷ 0 ∷ 0 ∷ 0 ∷ 0
    ∷ head 9 6 ∷ 0 ∷ 10 ∷ 18 ∷ 0 ∷ 0 ∷ 1 ∷ 0 ∷ [])

-- Worked out by hand from find_path.rs. Each item asked for costs one charge; the search in the crate is free.
pub module_cases : List Row
module_cases =
    -- equal in all keys: the earlier stays
    row 6 0 0 1 0 9 "found a::x 1 0"
    -- with two names found one is left for `inner`, and `a::inner` is not found
    ∷ row 7 0 0 1 0 9 "found prelude::x 1 0"
    -- a path through `prelude` loses, or wins where it is preferred
    ∷ row 8 0 0 1 0 9 "found d::y 1 0"
    ∷ row 8 0 0 1 2 9 "found prelude::y 1 0"
    -- the first choice counts its last name
    ∷ row 9 0 0 1 0 9 "found b::yyyyyyyyyy 1 0"
    ∷ row 9 0 0 1 2 9 "found a::prelude 1 0"
    -- a newcomer's last name does not count, when it comes and when it has been taken
    ∷ row 10 0 0 1 0 9 "found b::prelude 1 0"
    -- a private import does not count, nor what is not visible
    ∷ row 11 0 0 1 0 9 "found b::xx 1 0"
    ∷ row 12 0 0 1 0 9 "found b::inner 1 0"
    -- the first entry of an item in a module decides, visible or not
    ∷ row 20 0 1 1 0 9 "found y 0 0"
    ∷ row 20 0 0 1 0 9 "none - 1 0"
    -- children before containing modules; `crate` counts one; the text has `self::` and `crate`
    ∷ row 13 0 1 1 0 9 "found inner::y 1 0"
    ∷ row 13 0 1 0 0 9 "found crate::x 1 0"
    -- from a block: the scope around it; a block's item has no prefix
    ∷ row 14 0 7 1 0 0 "found s 0 0"
    ∷ row 15 0 7 0 0 0 "found t 0 0"
    ∷ row 0 0 7 1 0 9 "found crate::a 1 0"
    -- a target in a block counts as the module around the block, but not for a viewer in the same block
    ∷ row 16 0 1 1 0 9 "found crate::u 1 0"
    ∷ row 16 0 2 1 0 9 "none - 1 0"
    ∷ row 17 0 8 1 0 9 "none - 1 0"
    ∷ row 17 0 9 1 0 9 "found crate::v 1 0"
    -- the prelude, unless its name means another thing here, or is not visible
    ∷ row 18 0 1 1 0 0 "found w 0 0"
    -- its first name decides, though the second one is free here; by bit 32 the first that passes does
    ∷ row 18 0 0 1 0 9 "found a::e::w 1 0"
    ∷ row 18 0 0 1 32 0 "found s 0 0"
    ∷ row 19 0 0 1 0 9 "none - 1 0"
    -- `super`, but not under ByCrate
    ∷ row 0 0 5 1 0 0 "found super 0 0"
    ∷ row 0 0 5 2 0 9 "found crate::a 1 0"
    ∷ []

pub module_cases_lem : passes with_modules module_cases ≡ true
unfolding passes module_cases row_at with_modules named head
module_cases_lem = refl

-- Keywords. Crate 0 is of the edition given and depends on crate 1, of 2024. Modules: 0 the root of crate 0, 1 to 5 its children `type`,
-- `async`, `gen`, `union` and `self`, 6 the root of crate 1. Definitions: 0 to 4 these children, 5 to 9 an item `f` in each, 10 an item
-- `gen` in the root of crate 1, which exports it.
pub with_keywords : ℕ → List ℕ
with_keywords e =
    named "type" ++ named "async" ++ named "gen" ++ named "union" ++ named "self" ++ named "f" ++ named "dep"
    ++ (head 2 0 ∷ e ∷ head 2 0 ∷ 2024 ∷ head 3 0 ∷ 1 ∷ 0
    ∷ head 4 0 ∷ 0 ∷ 0 ∷ head 5 0 ∷ 0 ∷ head 5 0 ∷ 1 ∷ head 5 0 ∷ 1 ∷ head 5 0 ∷ 1 ∷ head 5 0 ∷ 1 ∷ head 5 0 ∷ 1
    ∷ head 4 1 ∷ 0 ∷ 0 ∷ head 5 1 ∷ 0
    ∷ head 6 0 ∷ 1 ∷ head 6 0 ∷ 2 ∷ head 6 0 ∷ 3 ∷ head 6 0 ∷ 4 ∷ head 6 0 ∷ 5
    ∷ head 8 1 ∷ 1 ∷ 0 ∷ head 8 1 ∷ 2 ∷ 0 ∷ head 8 1 ∷ 3 ∷ 0 ∷ head 8 1 ∷ 4 ∷ 0 ∷ head 8 1 ∷ 5 ∷ 0
    ∷ head 8 4 ∷ 1 ∷ 0 ∷ head 8 4 ∷ 2 ∷ 0 ∷ head 8 4 ∷ 3 ∷ 0 ∷ head 8 4 ∷ 4 ∷ 0 ∷ head 8 4 ∷ 5 ∷ 0 ∷ head 8 4 ∷ 6 ∷ 0
    ∷ head 9 0 ∷ 0 ∷ 0 ∷ 0 ∷ 0 ∷ 0 ∷ 1 ∷ 0 ∷ head 9 0 ∷ 0 ∷ 1 ∷ 1 ∷ 0 ∷ 0 ∷ 1 ∷ 0 ∷ head 9 0 ∷ 0 ∷ 2 ∷ 2 ∷ 0 ∷ 0 ∷ 1 ∷ 0
    ∷ head 9 0 ∷ 0 ∷ 3 ∷ 3 ∷ 0 ∷ 0 ∷ 1 ∷ 0 ∷ head 9 0 ∷ 0 ∷ 4 ∷ 4 ∷ 0 ∷ 0 ∷ 1 ∷ 0
    ∷ head 9 1 ∷ 0 ∷ 5 ∷ 5 ∷ 0 ∷ 0 ∷ 1 ∷ 0 ∷ head 9 2 ∷ 0 ∷ 5 ∷ 6 ∷ 0 ∷ 0 ∷ 1 ∷ 0 ∷ head 9 3 ∷ 0 ∷ 5 ∷ 7 ∷ 0 ∷ 0 ∷ 1 ∷ 0
    ∷ head 9 4 ∷ 0 ∷ 5 ∷ 8 ∷ 0 ∷ 0 ∷ 1 ∷ 0 ∷ head 9 5 ∷ 0 ∷ 5 ∷ 9 ∷ 0 ∷ 0 ∷ 1 ∷ 0 ∷ head 9 6 ∷ 0 ∷ 2 ∷ 10 ∷ 0 ∷ 0 ∷ 1 ∷ 0
    ∷ head 10 1 ∷ 0 ∷ 10 ∷ 2 ∷ 6 ∷ 0 ∷ head 11 0 ∷ 6 ∷ 6 ∷ [])

-- strict in every edition; weak; and what cannot be raw
pub keywords_always : List Row
keywords_always =
    row 5 0 0 1 0 9 "found r#type::f 1 0"
    ∷ row 0 0 0 0 0 9 "found self::r#type 0 0"
    ∷ row 5 0 0 2 0 9 "found crate::r#type::f 1 0"
    ∷ row 8 0 0 1 0 9 "found union::f 1 0"
    ∷ row 9 0 0 1 0 9 "found self::f 1 0"
    -- by the edition of the viewer's crate
    ∷ row 10 0 6 1 0 9 "found r#gen 0 0"
    -- a refusal, and no path, are not written in an edition
    ∷ row 5 0 7 1 0 9 "refused 23 0 0"
    ∷ row 5 1 0 1 0 9 "none - 1 0"
    ∷ []

pub keywords2015 : List Row
keywords2015 =
    row 6 0 0 1 0 9 "found async::f 1 0"
    ∷ row 7 0 0 1 0 9 "found gen::f 1 0"
    ∷ row 10 0 0 1 0 9 "found dep::gen 1 0"
    ∷ []

-- strict from 2018 on, and reserved from 2024 on
pub keywords2018 : List Row
keywords2018 =
    row 6 0 0 1 0 9 "found r#async::f 1 0"
    ∷ row 7 0 0 1 0 9 "found gen::f 1 0"
    ∷ row 10 0 0 1 0 9 "found dep::gen 1 0"
    ∷ []

pub keywords2024 : List Row
keywords2024 =
    row 6 0 0 1 0 9 "found r#async::f 1 0"
    ∷ row 7 0 0 1 0 9 "found r#gen::f 1 0"
    ∷ row 10 0 0 1 0 9 "found dep::r#gen 1 0"
    ∷ []

pub keyword_cases :
    (passes (with_keywords 2015) (keywords_always ++ keywords2015)
    && passes (with_keywords 2018) (keywords_always ++ keywords2018)
    && passes (with_keywords 2021) (keywords_always ++ keywords2018)
    && passes (with_keywords 2024) (keywords_always ++ keywords2024)
    && passes (with_keywords 2022) (row 5 0 0 1 0 9 "refused 43 0 0" ∷ []))
    ≡ true
unfolding passes keywords_always keywords2015 keywords2018 keywords2024 row_at with_keywords named head
keyword_cases = refl

-- The first charge that finds the tank empty: the length left, and the module looked for, +1.

pub record First : Type 0 where
  pub question : Question
  pub left : ℕ
  pub sought : ℕ

-- definition, namespace, viewing module, options, fuel, and what is told; the prefix is Plain
pub first : ℕ → ℕ → ℕ → ℕ → ℕ → ℕ → ℕ → First
first d ns m o f left sought =
    record {
      question = record {
        query = record {
          ns = ns;
          definition = record { 0 = d };
          from = record { 0 = m };
          prefix =
              1;
          options = o;
          limit = 15;
        };
        fuel = f;
      };
      left = left;
      sought = sought;
    }

-- the reports say empty, and tell that
unfoldable pub tells : List ℕ → List First → Bool
unfolding passes
tells words table =
    all (λ r. eq_list ((report_of words 16384 r.question).empty ∷ (report_of words 16384 r.question).left ∷ (report_of words 16384
    r.question).sought ∷ [])
    (1 ∷ r.left ∷ r.sought ∷ [])) table

pub worked_first : tells worked (first 1 1 0 0 0 15 0 ∷ []) ≡ true
unfolding tells first
worked_first = refl

pub dependency_firsts : List First
dependency_firsts =
    -- the item itself; then `inner`, module 3
    first 2 0 0 0 0 15 0
    ∷ first 2 0 0 0 1 14 4
    -- a variant: `inner` is looked for its enum; an enum without a path, and then the variant itself
    ∷ first 3 1 0 0 1 14 4
    ∷ first 13 1 0 0 0 15 0
    ∷ first 13 1 0 0 1 15 0
    -- a module that is asked for
    ∷ first 1 0 1 0 0 15 0
    -- `k`, module 4; then, with a path of three names, `inner`
    ∷ first 10 0 0 8 1 14 5
    ∷ first 10 0 0 8 2 2 4
    ∷ []

pub dependency_firsts_lem : tells with_dependency dependency_firsts ≡ true
unfolding tells dependency_firsts first with_dependency named head
dependency_firsts_lem = refl

-- Crate 0 depends on crate 1, which exports its modules `a` and `b` each from the other.
pub with_cycle : List ℕ
with_cycle =
    named "a" ++ named "b"
    ++ (head 2 0 ∷ 2021 ∷ head 2 0 ∷ 2021 ∷ head 3 0 ∷ 1 ∷ 0
    ∷ head 4 0 ∷ 0 ∷ 0 ∷ head 5 0 ∷ 0 ∷ head 4 1 ∷ 0 ∷ 0 ∷ head 5 1 ∷ 0 ∷ head 5 1 ∷ 2 ∷ head 5 1 ∷ 2 ∷ head 6 1 ∷ 2 ∷ head 6 1 ∷ 3
    ∷ head 8 1 ∷ 2 ∷ 0 ∷ head 8 1 ∷ 3 ∷ 0
    ∷ head 10 1 ∷ 0 ∷ 0 ∷ 0 ∷ 3 ∷ 0 ∷ head 10 1 ∷ 0 ∷ 1 ∷ 1 ∷ 2 ∷ 0 ∷ [])

-- `a` is the question's own item at any depth, and so is not named; of `b` the module is
pub cycle_firsts : List First
cycle_firsts = first 0 0 0 0 0 15 0 ∷ first 0 0 0 0 1 14 4 ∷ first 0 0 0 0 2 13 0 ∷ first 0 0 0 0 3 12 4 ∷ first 1 0 0 0 13 2 3
    ∷ first 1 0 0 0 14 1 0 ∷ []

pub cycle_firsts_lem : tells with_cycle cycle_firsts ≡ true
unfolding tells cycle_firsts first with_cycle named head
cycle_firsts_lem = refl

-- The search without a tank: outcome, path and charges.

unfoldable pub free_line : Snapshot → Query → List ℕ
free_line s q =
    let o = searched_freely s q in
    joined (bytes_of " ") (line_parts s (edition_in s q.from.0) (reported s q (record { choice = o.choice; meter = filled 0 }))
    ++ (decimal o.meter ∷ []))

unfoldable pub makes : List ℕ → List Row → Bool
unfolding passes free_line searched_freely counted
makes words table = all (λ r. eq_list (free_line (snapshot_of (verdict words)) r.question.query) (bytes_of r.line)) table

-- a row whose fuel plays no part
abbrev pub free : ℕ → ℕ → ℕ → ℕ → ℕ → String → Row
free d ns m o n l = row_at d ns m 1 o 0 n l

pub free_dependencies : List Row
free_dependencies =
    free 2 0 0 0 15 "found alias::inner::T 2"
    -- a variant by its enum, which makes both charges
    ∷ free 3 1 0 0 15 "found alias::inner::T::V 2"
    -- its enum makes one, without a path, and its own search goes on from there
    ∷ free 12 0 0 0 15 "none - 1"
    ∷ free 13 1 0 0 15 "found alias::H 2"
    -- the same after two
    ∷ free 2 0 0 0 2 "none - 2"
    ∷ free 3 1 0 0 2 "none - 3"
    -- nothing is charged
    ∷ free 4 0 0 0 15 "found alias 0"
    ∷ free 5 1 0 0 15 "none - 0"
    ∷ []

pub free_dependencies_lem : makes with_dependency free_dependencies ≡ true
unfolding makes free_dependencies row_at with_dependency named head
free_dependencies_lem = refl

-- a charge for each length left
pub free_cycle : makes with_cycle (free 0 0 0 0 15 "none - 15" ∷ free 1 0 0 0 6 "none - 6" ∷ []) ≡ true
unfolding makes row_at with_cycle named head
free_cycle = refl

-- the worked question: definition 1 in values, from the root, Plain
abbrev pub asked : Query
asked = record { ns = 1; definition = record { 0 = 1 }; from = record { 0 = 0 }; prefix = 1; options = 0; limit = 15 }

-- a refusal of too much fuel: no path, zero counts
abbrev pub overfull : Report
overfull =
    record {
      outcome = 2;
      number = 21;
      kind = 0;
      names = 0 ∷ 0 ∷ 0 ∷ 0 ∷ 0 ∷ 0 ∷ 0 ∷ 0 ∷ 0 ∷ 0 ∷ 0 ∷ 0 ∷ 0 ∷ 0 ∷ 0 ∷ 0 ∷ [];
      count = 0;
      charges = 0;
      empty = 0;
      left = 0;
      sought = 0;
      route = 0 ∷ 0 ∷ 0 ∷ 0 ∷ 0 ∷ 0 ∷ 0 ∷ 0 ∷ 0 ∷ 0 ∷ 0 ∷ 0 ∷ 0 ∷ 0 ∷ 0 ∷ 0 ∷ 0 ∷ [];
      steps = 0;
    }

-- On the worked snapshot its search without a tank makes one charge; fuels 1 and 10,000 report alike, fuel 0 says empty and counts 0, fuel 10,001
-- is refused.
pub record Instance : Type 0 where
  pub charges : (searched_freely worked_snapshot asked).meter ≡ 1
  pub alike : report_at worked area_limit asked 1 ≡ report_at worked area_limit asked 10000
  pub apart : ((report_at worked area_limit asked 0).empty ≡ 1) × ((report_at worked area_limit asked 0).charges ≡ 0)
  pub over : report_at worked area_limit asked 10001 ≡ overfull

pub worked_free : Instance
unfolding makes
worked_free = record { charges = refl; alike = refl; apart = (refl, refl); over = refl }

-- One crate. Modules: 0 its root, 1 `m` and 2 `p` below it, 3 a block in the root. The prelude of the crate's own map is `p`.
-- Definitions: 0 and 1 the modules `m` and `p`; 2 is `old` in the root, declared there and deprecated, then `new`, an import, and `t` in the
-- block, deprecated; 3 is `x` in `p`, deprecated, then `y`, for `p` alone, and `z`; 4 is `old` in `m`, deprecated, then `new`; 5 is `t` in
-- `m`, deprecated, then `w`, a private import; 6 is `u` in `m`, a private import and deprecated, then `z`; 7 is `y` in `m`, private, declared there
-- and deprecated. `old` is 2, or 0 where none is deprecated.
pub names_with : ℕ → List ℕ
names_with old =
    named "m" ++ named "p" ++ named "old" ++ named "new" ++ named "t" ++ named "u" ++ named "w" ++ named "x" ++ named "y" ++ named "z"
    ++ (head 2 0 ∷ 2021
    -- maps, modules, children, prelude
    ∷ head 4 0 ∷ 0 ∷ 0 ∷ head 5 0 ∷ 0 ∷ head 5 0 ∷ 1 ∷ head 5 0 ∷ 1 ∷ head 4 0 ∷ 1 ∷ 0 ∷ head 5 1 ∷ 0
    ∷ head 6 0 ∷ 1 ∷ head 6 0 ∷ 2 ∷ head 7 0 ∷ 2
    -- definitions
    ∷ head 8 1 ∷ 1 ∷ 0 ∷ head 8 1 ∷ 2 ∷ 0 ∷ head 8 4 ∷ 0 ∷ 0 ∷ head 8 4 ∷ 2 ∷ 0 ∷ head 8 4 ∷ 1 ∷ 0 ∷ head 8 4 ∷ 1 ∷ 0 ∷ head 8 4 ∷ 1 ∷ 0
    ∷ head 8 4 ∷ 1 ∷ 0
    -- scopes
    ∷ head 9 0 ∷ 0 ∷ 0 ∷ 0 ∷ 0 ∷ 0 ∷ 1 ∷ 0 ∷ head 9 0 ∷ 0 ∷ 1 ∷ 1 ∷ 0 ∷ 0 ∷ 1 ∷ 0
    ∷ head 9 0 ∷ 0 ∷ 2 ∷ 2 ∷ 0 ∷ 0 ∷ (old + 1) ∷ 0 ∷ head 9 0 ∷ 0 ∷ 3 ∷ 2 ∷ 0 ∷ 0 ∷ 0 ∷ 0 ∷ head 9 3 ∷ 0 ∷ 4 ∷ 2 ∷ 0 ∷ 0 ∷ old ∷ 0
    ∷ head 9 2 ∷ 0 ∷ 7 ∷ 3 ∷ 0 ∷ 0 ∷ old ∷ 0 ∷ head 9 2 ∷ 0 ∷ 8 ∷ 3 ∷ 2 ∷ 2 ∷ 1 ∷ 0 ∷ head 9 2 ∷ 0 ∷ 9 ∷ 3 ∷ 0 ∷ 0 ∷ 1 ∷ 0
    ∷ head 9 1 ∷ 0 ∷ 2 ∷ 4 ∷ 0 ∷ 0 ∷ (old + 1) ∷ 0 ∷ head 9 1 ∷ 0 ∷ 3 ∷ 4 ∷ 0 ∷ 0 ∷ 0 ∷ 0
    ∷ head 9 1 ∷ 0 ∷ 4 ∷ 5 ∷ 0 ∷ 0 ∷ old ∷ 0 ∷ head 9 1 ∷ 0 ∷ 6 ∷ 5 ∷ 3 ∷ 0 ∷ 0 ∷ 0
    ∷ head 9 1 ∷ 0 ∷ 5 ∷ 6 ∷ 3 ∷ 0 ∷ old ∷ 0 ∷ head 9 1 ∷ 0 ∷ 9 ∷ 6 ∷ 0 ∷ 0 ∷ 1 ∷ 0
    ∷ head 9 1 ∷ 0 ∷ 8 ∷ 7 ∷ 3 ∷ 0 ∷ (old + 1) ∷ 0 ∷ [])

pub with_old_names : List ℕ
with_old_names = names_with 2

-- Worked out by hand: without options bit 32 the lines are the Rust's for 0 and 1 in place of 2 and 3.
pub old_name_cases : List Row
old_name_cases =
    -- the scope: the deprecated name comes first, and last with the bit
    row 2 0 0 1 0 0 "found old 0 0"
    ∷ row 2 0 0 1 32 0 "found new 0 0"
    -- where only what is declared there counts, 3 acts as 1; no such entry is without deprecation, so the bit changes nothing
    ∷ row 2 0 0 1 16 0 "found old 0 0"
    ∷ row 2 0 0 1 48 0 "found old 0 0"
    -- the block's scope holds the item, if only by a deprecated name: the scope around it is not tried
    ∷ row 2 0 3 1 0 0 "found t 0 0"
    ∷ row 2 0 3 1 32 0 "found t 0 0"
    -- the prelude: past a name that is not visible; in `m` the name `z` means another thing, and the first name stays
    ∷ row 3 0 0 1 0 0 "found x 0 0"
    ∷ row 3 0 0 1 32 0 "found z 0 0"
    ∷ row 3 0 1 1 32 0 "found x 0 0"
    -- the local search: past the deprecated name, but not to a private import
    ∷ row 4 0 0 1 0 9 "found m::old 1 0"
    ∷ row 4 0 0 1 32 9 "found m::new 1 0"
    ∷ row 5 0 0 1 0 9 "found m::t 1 0"
    ∷ row 5 0 0 1 32 9 "found m::t 1 0"
    -- the first entry decides without the bit
    ∷ row 6 0 0 1 0 9 "none - 1 0"
    ∷ row 6 0 0 1 32 9 "found m::z 1 0"
    -- declared there, so no import, deprecated or not
    ∷ row 7 0 0 1 0 9 "found m::y 1 0"
    ∷ row 7 0 0 1 32 9 "found m::y 1 0"
    -- all options, and one too many
    ∷ row 2 0 0 1 127 0 "found old 0 0"
    ∷ row 2 0 0 1 128 0 "refused 22 0 0"
    ∷ []

pub old_name_cases_lem : passes with_old_names old_name_cases ≡ true
unfolding passes old_name_cases row_at with_old_names names_with named head
old_name_cases_lem = refl

-- the same words with 0 and 1 for 2 and 3 are the plain snapshot
pub old_names_plain : snapshot_of (verdict (names_with 0)) ≡ plainly (snapshot_of (verdict with_old_names))
unfolding passes with_old_names names_with named head
old_names_plain = refl

-- Limits below 15, and limits that are refused. Worked out by hand.

pub limit_cases : List Row
limit_cases =
    -- one name without a search; two with a step; `crate` is a step of its own where it is searched for
    row_at 1 1 1 1 0 0 1 "found f 0 0"
    ∷ row_at 1 1 0 1 0 9 1 "none - 1 0"
    ∷ row_at 1 1 0 1 0 9 2 "found a::f 1 0"
    ∷ row_at 1 1 1 2 0 9 2 "none - 1 0"
    ∷ row_at 1 1 1 2 0 9 3 "found crate::a::f 1 0"
    -- a limit outside, after 22 and before 23
    ∷ row_at 1 1 0 1 0 9 0 "refused 46 0 0"
    ∷ row_at 1 1 0 1 0 9 16 "refused 46 0 0"
    ∷ row_at 1 1 0 1 128 9 16 "refused 22 0 0"
    ∷ row_at 2 0 0 1 0 9 16 "refused 46 0 0"
    ∷ []

pub limit_cases_lem : passes worked limit_cases ≡ true
unfolding passes limit_cases row_at
limit_cases_lem = refl

-- 46 comes before the check of the words
pub limit_first : passes (0 ∷ []) (row_at 0 0 0 1 0 9 16 "refused 46 0 0" ∷ row_at 0 0 0 1 0 9 15 "refused 31 0 0" ∷ []) ≡ true
unfolding passes row_at
limit_first = refl

pub dependency_limits : List Row
dependency_limits =
    -- the stable path is longer, and past a smaller limit
    row_at 14 0 0 1 8 9 15 "found alias::inner::U 2 0"
    ∷ row_at 14 0 0 1 8 9 3 "found alias::inner::U 2 0"
    ∷ row_at 14 0 0 1 8 9 2 "found alias::U 2 0"
    ∷ row_at 14 0 0 1 8 9 1 "none - 1 0"
    -- a variant has one name more than the limit, by its enum
    ∷ row_at 3 1 0 1 0 9 3 "found alias::inner::T::V 2 0"
    ∷ row_at 3 1 0 1 0 9 2 "none - 3 0"
    ∷ []

pub dependency_limits_lem : passes with_dependency dependency_limits ≡ true
unfolding passes dependency_limits row_at with_dependency named head
dependency_limits_lem = refl

-- Lines with their routes. The rules were worked out by hand, the offsets read off a list of the records in the words.

unfoldable pub routes : List ℕ → List Row → Bool
unfolding passes routed_line_of routed_line_in route_text steps_text step_text
routes words table = all (λ r. eq_list (routed_line_of words r.question) (bytes_of r.line)) table

pub worked_routes : List Row
worked_routes =
    row 1 1 0 1 0 1 "found a::f 1 0 scope@21 local@29"
    -- a prefix comes with the first name
    ∷ row 1 1 0 0 0 9 "found self::a::f 1 0 scope@21 local@29"
    ∷ row 1 1 0 2 0 9 "found crate::a::f 1 0 scope@21 local@29"
    ∷ row 1 1 1 1 0 0 "found f 0 0 scope@29"
    -- a keyword without names
    ∷ row 1 1 1 2 0 9 "found crate::a::f 1 0 keyword@0 local@21 local@29"
    ∷ row 0 0 1 1 0 9 "found self 0 0 keyword@0"
    ∷ row 0 0 1 2 0 9 "found crate::a 1 0 keyword@0 local@21"
    -- no path, no route
    ∷ row 1 1 0 1 0 0 "none - 0 1"
    ∷ row 2 0 0 1 0 9 "refused 23 0 0"
    ∷ []

pub worked_routes_lem : routes worked worked_routes ≡ true
unfolding routes worked_routes row_at
worked_routes_lem = refl

pub dependency_routes : List Row
dependency_routes =
    row 2 0 0 1 0 9 "found alias::inner::T 2 0 extern@217 import@136 import@130"
    ∷ row 2 0 0 2 4 9 "found ::alias::inner::T 2 0 extern@217 import@136 import@130"
    ∷ row 2 0 1 0 0 0 "found self::alias 0 0 scope@106"
    -- a variant by its own definition, or by an import
    ∷ row 3 1 0 1 0 2 "found alias::inner::T::V 2 0 extern@217 import@136 import@130 variant@62"
    ∷ row 13 1 0 1 0 9 "found alias::H 2 0 extern@217 import@196"
    ∷ row 4 0 0 1 0 0 "found alias 0 0 extern@217"
    ∷ row 6 0 0 1 8 9 "found alias::U 1 0 extern@217 import@142"
    -- of two imports the one that was chosen
    ∷ row 7 0 0 1 0 9 "found alias::W 2 0 extern@217 import@154"
    ∷ row 10 0 0 1 8 9 "found alias::inner::dep 3 0 extern@217 import@136 import@178"
    ∷ row 5 0 0 1 0 0 "found u8 0 0 builtin@68"
    ∷ []

pub dependency_routes_lem : routes with_dependency dependency_routes ≡ true
unfolding routes dependency_routes row_at with_dependency named head
dependency_routes_lem = refl

pub std_routes : List Row
std_routes =
    row 0 0 0 1 0 9 "found core::O 1 0 extern@100 import@70"
    ∷ row 0 0 3 1 0 9 "found std::O 1 0 extern@103 import@76"
    ∷ row 2 0 3 1 0 0 "found P 0 0 prelude@62"
    ∷ []

pub std_routes_lem : routes with_std std_routes ≡ true
unfolding routes std_routes row_at with_std named head
std_routes_lem = refl

pub module_routes : List Row
module_routes =
    row 6 0 0 1 0 9 "found a::x 1 0 scope@141 local@189"
    ∷ row 13 0 1 1 0 9 "found inner::y 1 0 scope@173 local@309"
    ∷ row 13 0 1 0 0 9 "found crate::x 1 0 keyword@0 local@317"
    ∷ row 0 0 5 1 0 0 "found super 0 0 keyword@0"
    ∷ row 14 0 7 1 0 0 "found s 0 0 scope@325"
    ∷ row 20 0 1 1 0 9 "found y 0 0 scope@381"
    ∷ row 18 0 1 1 0 0 "found w 0 0 prelude@365"
    -- the scope before the prelude
    ∷ row 18 0 6 1 0 0 "found w 0 0 scope@365"
    ∷ row 18 0 0 1 0 9 "found a::e::w 1 0 scope@141 local@181 local@365"
    ∷ []

pub module_routes_lem : routes with_modules module_routes ≡ true
unfolding routes module_routes row_at with_modules named head
module_routes_lem = refl

pub old_name_routes : List Row
old_name_routes =
    row 2 0 0 1 0 0 "found old 0 0 scope@82"
    ∷ row 2 0 0 1 32 0 "found new 0 0 scope@90"
    ∷ row 3 0 0 1 32 0 "found z 0 0 prelude@122"
    ∷ row 4 0 0 1 0 9 "found m::old 1 0 scope@66 local@130"
    ∷ row 4 0 0 1 32 9 "found m::new 1 0 scope@66 local@138"
    ∷ []

pub old_name_routes_lem : routes with_old_names old_name_routes ≡ true
unfolding routes old_name_routes row_at with_old_names names_with named head
old_name_routes_lem = refl

-- Paths that are read. One crate. Modules: 0 its root, 1 `a` below it, 2 a block in the root. Definitions: 0 `a`; 1 a function of `a`, `f` there
-- and by an import in the root; 2 a function `f` of the block; 3 an enum `E` of the root, and 4 its variant `V`, which has a record of kind 13;
-- 5 an enum `G` of the root, and 6 its variant `V`, which has none; 7 the builtin `u8`; 8 a function `h` of the root, for `a` alone.
unfoldable pub with_block : List ℕ
with_block =
    named "a" ++ named "f" ++ named "E" ++ named "V" ++ named "G" ++ named "u8" ++ named "h"
    ++ (head 2 0 ∷ 2021
    ∷ head 4 0 ∷ 0 ∷ 0 ∷ head 5 0 ∷ 0 ∷ head 5 0 ∷ 1 ∷ head 4 0 ∷ 1 ∷ 0 ∷ head 5 1 ∷ 0 ∷ head 6 0 ∷ 1
    -- definitions
    ∷ head 8 1 ∷ 1 ∷ 0 ∷ head 8 4 ∷ 1 ∷ 0 ∷ head 8 4 ∷ 2 ∷ 0 ∷ head 8 4 ∷ 0 ∷ 0 ∷ head 8 2 ∷ 3 ∷ 3 ∷ head 8 4 ∷ 0 ∷ 0 ∷ head 8 2 ∷ 5 ∷ 3
    ∷ head 8 3 ∷ 5 ∷ 0 ∷ head 8 4 ∷ 0 ∷ 0
    -- scopes
    ∷ head 9 0 ∷ 0 ∷ 0 ∷ 0 ∷ 3 ∷ 0 ∷ 1 ∷ 0 ∷ head 9 0 ∷ 1 ∷ 1 ∷ 1 ∷ 3 ∷ 0 ∷ 0 ∷ 0 ∷ head 9 0 ∷ 0 ∷ 2 ∷ 3 ∷ 0 ∷ 0 ∷ 1 ∷ 0
    ∷ head 9 0 ∷ 0 ∷ 4 ∷ 5 ∷ 0 ∷ 0 ∷ 1 ∷ 0 ∷ head 9 0 ∷ 1 ∷ 6 ∷ 8 ∷ 2 ∷ 1 ∷ 1 ∷ 0
    ∷ head 9 1 ∷ 1 ∷ 1 ∷ 1 ∷ 0 ∷ 0 ∷ 1 ∷ 0 ∷ head 9 2 ∷ 1 ∷ 1 ∷ 2 ∷ 3 ∷ 2 ∷ 1 ∷ 0
    -- a member
    ∷ head 13 3 ∷ 3 ∷ 4 ∷ 0 ∷ 0 ∷ [])

-- Worked out by hand: without bit 64 by the search alone.
pub read_cases : List Row
read_cases =
    -- in the block its own `f` hides the one around it, but not under `self` and `crate`
    row 1 1 2 1 0 0 "found f 0 0 scope@65"
    ∷ row 1 1 2 1 64 0 "misleads f 0 0 scope@65"
    ∷ row 2 1 2 1 64 0 "found f 0 0 scope@105"
    ∷ row 1 1 0 1 64 0 "found f 0 0 scope@65"
    ∷ row 1 1 2 0 64 9 "found self::f 0 0 scope@65"
    ∷ row 1 1 2 2 64 9 "found crate::a::f 1 0 keyword@0 local@57 local@97"
    -- a variant with a record of kind 13, in values too, and one without
    ∷ row 4 0 0 1 64 0 "found E::V 0 0 scope@73 variant@42"
    ∷ row 4 1 2 1 64 0 "found E::V 0 0 scope@73 variant@42"
    ∷ row 6 0 0 1 0 0 "found G::V 0 0 scope@81 variant@48"
    ∷ row 6 0 0 1 64 0 "misleads G::V 0 0 scope@81 variant@48"
    -- a builtin is not read
    ∷ row 7 0 0 1 64 0 "found u8 0 0 builtin@51"
    ∷ row 7 1 0 1 64 9 "none - 0 0"
    -- the search takes an entry of the viewing module that is not visible there
    ∷ row 8 1 0 1 0 0 "found h 0 0 scope@89"
    ∷ row 8 1 0 1 64 0 "misleads h 0 0 scope@89"
    ∷ row 8 1 1 1 64 9 "found crate::h 1 0 keyword@0 local@89"
    -- nothing to read
    ∷ row 8 1 1 1 64 0 "none - 0 1"
    ∷ row 9 0 0 1 64 9 "refused 23 0 0"
    ∷ []

pub read_cases_lem : routes with_block read_cases ≡ true
unfolding routes read_cases row_at with_block named head
read_cases_lem = refl
