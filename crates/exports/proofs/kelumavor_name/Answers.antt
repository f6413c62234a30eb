use native.Mathlib.Omega.{arith}
use Rattle.exports.proofs.Texts.{copied_none, copied_not, copied_whole, held_within, named}
use Rattle.exports.proofs.kelumavor_name.Goals as goal

pub returns-then-tables-name : goal.returns-then-tables-name
returns-then-tables-name c = let a = c.args in record {
  copied = copied_none a.words.now a.tables.now a.out.now a.name (omega (arith, c.if-tables-name.true));
  named = named a.words.now
      a.tables.now a.name;
}

pub returns-then-out-n : goal.returns-then-out-n
returns-then-out-n c = let a = c.args in record {
  copied = copied_not a.words.now a.tables.now a.out.now c.text_at-text.result.now a.name c.held-n.result c.payload.result
      c.name_head-head.result c.if-tables-name.false c.name_head-head.ensures c.text_at-text.ensures c.payload.ensures
      c.held-n.ensures
      c.if-out-n.true;
  named = named a.words.now a.tables.now a.name;
}

pub put_text-requires : goal.put_text-requires
put_text-requires c =
    (omega (arith, c.if-out-n.false), held_within c.text_at-text.result.now c.payload.result _ c.held-n.ensures)

pub returns : goal.returns
returns c = let a = c.args in record {
  copied = copied_whole a.words.now a.tables.now a.out.now c.text_at-text.result.now a.name c.held-n.result
      c.payload.result
      c.name_head-head.result c.if-tables-name.false c.name_head-head.ensures c.text_at-text.ensures c.payload.ensures
      c.held-n.ensures
      c.if-out-n.false c.put_text.ensures.put c.put_text.ensures.value;
  named = named a.words.now a.tables.now a.name;
}
