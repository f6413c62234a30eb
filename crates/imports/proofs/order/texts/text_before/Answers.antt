use mathlib.Core.Path.{◌∙◌, ap, ap₂}
use native.Mathlib.Omega.{arith}
use lib.ListN.{length, take}
use Rattle.find_path_spec.specs.Line.{unpacked}
use Rattle.import_rules.specs.Collect.{text_before}
use Rattle.imports.proofs.order.texts.text_before.Goals as goal

pub bytes_before-requires : goal.bytes_before-requires
bytes_before-requires c = (
  omega (arith, c.bytes_of-n.ensures.upper_bound, ap length c.text_of-a.ensures),
  omega (arith, c.bytes_of-m.ensures.upper_bound, ap length c.text_of-b.ensures),
)

pub returns : goal.returns
returns c =
    c.bytes_before.ensures
    ∙ ap₂ text_before (ap (λ t. take c.bytes_of-n.result (unpacked t)) c.text_of-a.ensures
    ∙ c.bytes_of-n.ensures.n_value)
    (ap (λ t. take c.bytes_of-m.result (unpacked t)) c.text_of-b.ensures ∙ c.bytes_of-m.ensures.n_value)
