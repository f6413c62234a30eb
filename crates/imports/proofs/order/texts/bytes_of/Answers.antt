use mathlib.Core.Path.{refl}
use native.Mathlib.Omega.{arith}
use Rattle.line.proofs.Laws.{name_text_lem, text_long, no_text}
use Rattle.imports.proofs.order.texts.bytes_of.Goals as goal

pub returns-then-db-n : goal.returns-then-db-n
returns-then-db-n c =
    let db = c.args.db.now in
    record {
      n_value = no_text db.records.words.now db.area.now db.records.layout db.reads c.args.n.0 c.if-db-n.true;
      upper_bound = omega arith;
    }

pub returns : goal.returns
returns c =
    let db = c.args.db.now in
    let h = c.if-db-n.false in
    record {
      n_value = name_text_lem db.records.words.now db.area.now db.records.layout db.reads c.args.n.0 h _ _ refl c.name_len.ensures.0;
      upper_bound = text_long db.records.words.now db.area.now db.records.layout db.reads c.args.n.0 h _ _ refl c.name_len.ensures.0;
    }
