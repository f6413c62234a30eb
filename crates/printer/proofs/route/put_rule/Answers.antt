use mathlib.Core.Path.{◌≡◌, sym, ap}
use Prim.Native.Nat.{ℕ}
use mathlib.Core.List.{List, []}
use native.Mathlib.Omega.{arith}
use lib.ListN.{get_or}
use Rattle.printing.proofs.Laws.{put_as}
use Rattle.find_path_choice.specs.StepRules.{rule_number}
use Rattle.find_path_choice.specs.declared.choices.StepRule.{StepRule}
use Rattle.find_path_spec.specs.Line.{rule_names}
use Rattle.printer.proofs.route.put_rule.Goals as goal

-- the name of a rule is that of the rule that it is
name_as : {rule k : StepRule} → rule ≡ k → get_or {A = List ℕ} rule_names (rule_number k) [] ≡ get_or rule_names (rule_number rule) []
name_as e = ap (λ (r : StepRule). get_or rule_names (rule_number r) []) (sym e)

pub returns-in-Builtin : goal.returns-in-Builtin
returns-in-Builtin c = let p = c.put.ensures in
    record { put = put_as (name_as c.in-Builtin.is) p; upper_bound = omega (arith, p.next) }

pub returns-in-Scope : goal.returns-in-Scope
returns-in-Scope c = let p = c.put-in-Scope.ensures in
    record { put = put_as (name_as c.in-Scope.is) p; upper_bound = omega (arith, p.next) }

pub returns-in-Prelude : goal.returns-in-Prelude
returns-in-Prelude c = let p = c.put-in-Prelude.ensures in
    record { put = put_as (name_as c.in-Prelude.is) p; upper_bound = omega (arith, p.next) }

pub returns-in-Extern : goal.returns-in-Extern
returns-in-Extern c = let p = c.put-in-Extern.ensures in
    record { put = put_as (name_as c.in-Extern.is) p; upper_bound = omega (arith, p.next) }

pub returns-in-Keyword : goal.returns-in-Keyword
returns-in-Keyword c = let p = c.put-in-Keyword.ensures in
    record { put = put_as (name_as c.in-Keyword.is) p; upper_bound = omega (arith, p.next) }

pub returns-in-Variant : goal.returns-in-Variant
returns-in-Variant c = let p = c.put-in-Variant.ensures in
    record { put = put_as (name_as c.in-Variant.is) p; upper_bound = omega (arith, p.next) }

pub returns-in-Local : goal.returns-in-Local
returns-in-Local c = let p = c.put-in-Local.ensures in
    record { put = put_as (name_as c.in-Local.is) p; upper_bound = omega (arith, p.next) }

pub returns-in-Import : goal.returns-in-Import
returns-in-Import c = let p = c.put-in-Import.ensures in
    record { put = put_as (name_as c.in-Import.is) p; upper_bound = omega (arith, p.next) }
