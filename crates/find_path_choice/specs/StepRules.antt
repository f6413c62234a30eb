-- The rules of a route by their numbers.
use Rattle.std.specs.Prelude.{ℕ}
use Rattle.find_path_choice.specs.declared.choices.StepRule.{StepRule}
use Rattle.find_path_choice.specs.declared.choices.StepRule.TheVariants.{Builtin, Scope, Prelude, Extern, Keyword, Variant, Local, Import}

-- the number of a rule
abbrev pub rule_number : StepRule → ℕ
rule_number Builtin = 0
rule_number Scope = 1
rule_number Prelude = 2
rule_number Extern = 3
rule_number Keyword = 4
rule_number Variant = 5
rule_number Local = 6
rule_number Import = 7
