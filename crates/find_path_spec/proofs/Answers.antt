-- The tables of questions and lines as one fact. An edit of a rule is told here first, by the rows that it changes.
use Rattle.std.proofs.Common.{◌≡◌, true}
use Rattle.check_rules.specs.Worked.{worked}
use Rattle.find_path_spec.proofs.Worked.{passes, routes, cases, with_dependency, dependency_cases, with_std, std_cases, with_facade, facade_cases}
use Rattle.find_path_spec.proofs.Worked.{with_foreign, foreign_cases}
use Rattle.find_path_spec.proofs.Worked.{with_modules, module_cases, with_old_names, old_name_cases, limit_cases, with_block, read_cases}
use Rattle.find_path_spec.proofs.Worked.{worked_cases, dependency_cases_lem, std_cases_lem, facade_cases_lem, foreign_cases_lem}
use Rattle.find_path_spec.proofs.Worked.{module_cases_lem, old_name_cases_lem, limit_cases_lem, read_cases_lem}

-- the fourteen worked cases, and those of further snapshots
pub record Answers : Type 0 where
  pub fourteen : passes worked cases ≡ true
  pub dependency : passes with_dependency dependency_cases ≡ true
  pub std : passes with_std std_cases ≡ true
  pub facade : passes with_facade facade_cases ≡ true
  pub foreign : passes with_foreign foreign_cases ≡ true
  pub modules : passes with_modules module_cases ≡ true
  pub old_names : passes with_old_names old_name_cases ≡ true
  pub limits : passes worked limit_cases ≡ true
  pub read : routes with_block read_cases ≡ true

pub answers : Answers
answers =
    record {
      fourteen = worked_cases;
      dependency = dependency_cases_lem;
      std = std_cases_lem;
      facade = facade_cases_lem;
      foreign = foreign_cases_lem;
      modules = module_cases_lem;
      old_names = old_name_cases_lem;
      limits = limit_cases_lem;
      read = read_cases_lem;
    }
