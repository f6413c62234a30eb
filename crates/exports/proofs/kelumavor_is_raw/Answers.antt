use native.Mathlib.Omega.{arith}
use Rattle.exports.proofs.Texts.{raw_none, raw_there, raw_named}
use Rattle.exports.proofs.kelumavor_is_raw.Goals as goal

pub returns-then-name-tables : goal.returns-then-name-tables
returns-then-name-tables c = let a = c.args in record {
  value = raw_there a.words.now a.tables.now a.name a.edition (omega (arith, c.if-name-tables.true)) c.name_head.ensures
      c.is_raw.ensures;
  raw_named = raw_named a.words.now a.tables.now a.name a.edition;
}

pub returns : goal.returns
returns c = let a = c.args in record {
  value = raw_none a.words.now a.tables.now a.name a.edition (omega (arith, c.if-name-tables.false));
  raw_named = raw_named a.words.now
      a.tables.now a.name a.edition;
}
