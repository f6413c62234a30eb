use mathlib.Core.Path.{ap, ◌∙◌}
use native.Mathlib.Omega.{arith}
use lib.ListN.{get_or}
use Rattle.snapshot.specs.Words.{pay_of}
use Rattle.find_path_choice.proofs.Names.{name_bytes, name_short}
use Rattle.find_path_choice.proofs.choices.name_len.Goals as goal

pub returns : goal.returns
returns c =
    let e = c.payload.ensures ∙ ap (λ h. pay_of (get_or c.args.db.now.records.words.now h 0)) c.name_head.ensures in
    let b = name_short c.args.db.now.records.words.now c.args.db.now.area.now c.args.db.now.records.layout c.args.db.now.reads c.args.n.0
    c.requires in (
      e ∙ name_bytes c.args.db.now.records.words.now c.args.db.now.area.now c.args.db.now.records.layout c.args.db.now.reads c.args.n.0 c.requires,
      omega arith,
    )
