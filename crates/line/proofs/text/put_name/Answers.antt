use mathlib.Core.Path.{sym, ◌∙◌}
use native.Mathlib.Omega.{arith}
use Rattle.line.proofs.Laws.{no_name_lem, text_long, name_text_lem, raw_read, raw_few, written_raw, written_plain}
use Rattle.printing.proofs.Laws.{put_as, put_two, put_none}
use Rattle.line.proofs.text.put_name.Goals as goal

pub returns-then-db-n : goal.returns-then-db-n
returns-then-db-n c = record {
  put = put_as (no_name_lem c.args.db.now.records.words.now c.args.db.now.area.now c.args.db.now.records.layout c.args.db.now.reads c.args.n.0
      c.args.edition c.if-db-n.true)
      (put_none _ _);
  upper_bound = omega arith;
}

pub put_text-requires : goal.put_text-requires
put_text-requires c =
    let k = c.name_len-bytes.ensures in
    let h = c.if-db-n.false in
    let t = c.text_of-text.ensures in
    let w = raw_read c.args.db.now.records.words.now c.args.db.now.area.now c.args.db.now.records.layout c.args.db.now.reads c.args.n.0 c.args.edition
    h
    c.is_raw-raw.ensures c.name_head.ensures in
    let b = raw_few c.args.db.now.records.words.now c.args.db.now.area.now c.args.db.now.records.layout c.args.db.now.reads c.args.n.0 c.args.edition
    (sym w ∙ c.if-raw.true) k.0 in (
      omega (arith, b, c.put-to.ensures.next, c.put-to.auto.out, c.requires),
      text_long c.args.db.now.records.words.now c.args.db.now.area.now c.args.db.now.records.layout c.args.db.now.reads c.args.n.0 h _ _ t k.0,
    )

pub returns-then-raw : goal.returns-then-raw
returns-then-raw c = let k = c.name_len-bytes.ensures in
    let h = c.if-db-n.false in
    let t = c.text_of-text.ensures in
    let w = raw_read c.args.db.now.records.words.now c.args.db.now.area.now c.args.db.now.records.layout c.args.db.now.reads c.args.n.0 c.args.edition
    h
    c.is_raw-raw.ensures c.name_head.ensures in
    let r = sym w ∙ c.if-raw.true in
    let b = raw_few c.args.db.now.records.words.now c.args.db.now.area.now c.args.db.now.records.layout c.args.db.now.reads c.args.n.0 c.args.edition
    r k.0 in
    let p = c.put-to.ensures in
    let q = c.put_text.ensures in record {
      put = put_as (written_raw c.args.db.now.records.words.now c.args.db.now.area.now c.args.db.now.records.layout c.args.db.now.reads c.args.n.0
          c.args.edition r)
          (put_two p (put_as (name_text_lem c.args.db.now.records.words.now c.args.db.now.area.now c.args.db.now.records.layout c.args.db.now.reads
          c.args.n.0 h _ _ t k.0)
          q.put));
      upper_bound = omega (arith, b, p.next, q.value);
    }

pub put_text-requires-2 : goal.put_text-requires-2
put_text-requires-2 c =
    let k = c.name_len-bytes.ensures in
    let h = c.if-db-n.false in
    let t = c.text_of-text.ensures in
    let w = raw_read c.args.db.now.records.words.now c.args.db.now.area.now c.args.db.now.records.layout c.args.db.now.reads c.args.n.0 c.args.edition
    h
    c.is_raw-raw.ensures c.name_head.ensures in (
      omega (arith, k.1, c.requires),
      text_long c.args.db.now.records.words.now c.args.db.now.area.now c.args.db.now.records.layout c.args.db.now.reads
          c.args.n.0 h _ _ t k.0,
    )

pub returns : goal.returns
returns c = let k = c.name_len-bytes.ensures in
    let h = c.if-db-n.false in
    let t = c.text_of-text.ensures in
    let w = raw_read c.args.db.now.records.words.now c.args.db.now.area.now c.args.db.now.records.layout c.args.db.now.reads c.args.n.0 c.args.edition
    h
    c.is_raw-raw.ensures c.name_head.ensures in
    let q = c.put_text-2.ensures in record {
      put = put_as (name_text_lem c.args.db.now.records.words.now c.args.db.now.area.now c.args.db.now.records.layout c.args.db.now.reads c.args.n.0 h
          _ _ t k.0
          ∙ written_plain c.args.db.now.records.words.now c.args.db.now.area.now c.args.db.now.records.layout c.args.db.now.reads c.args.n.0
          c.args.edition
          (sym w ∙ c.if-raw.false)) q.put;
      upper_bound = omega (arith, k.1, q.value);
    }
