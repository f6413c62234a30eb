-- The tests of an entry by the rule that looks it up.
use Rattle.std.specs.Prelude.{Bool}
use Rattle.snapshot.specs.Records.{Snapshot, Scope}
use Rattle.hir_def.specs.declared.Item.{Item}
use Rattle.find_path_spec.specs.declared.FindPathCtx.{FindPathCtx}
use Rattle.find_path_spec.specs.Rules.{is_usable}
use Rattle.find_path_spec.specs.Local.{is_importable}
use Rattle.find_path_rules.specs.declared.rule_lookups.Rule.{Rule}
use Rattle.find_path_rules.specs.declared.rule_lookups.Rule.TheVariants.{Prelude, Local}

unfoldable pub test_of : Snapshot → FindPathCtx → Item → Rule → Scope → Bool
test_of s x item Prelude = is_usable s x item
test_of s x item Local = is_importable s x
