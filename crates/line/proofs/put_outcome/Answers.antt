use borrow.Author.Rules.{rules}
use native.Mathlib.Omega.{arith}
use Rattle.line.proofs.Laws.{found_text, none_text, misleads_text, refused_text_lem}
use Rattle.printing.proofs.Laws.{put_as, put_two}
use Rattle.find_path_spec.specs.Line.{path_text}
use Rattle.accept.specs.Opened.{snap_in}
use Rattle.line.proofs.put_outcome.Goals as goal

pub slice_bounds-put_path-end : goal.slice_bounds-put_path-end
slice_bounds-put_path-end c =
    search (rules, c.well_formed.1.1.1.0)

pub put_path-requires : goal.put_path-requires
put_path-requires c =
    record {
      room = omega (arith, c.requires.0, c.put-a.ensures.next, c.put-a.auto.out);
      count_bound = omega (arith, c.requires.1, slice_bounds-put_path-end c);
    }

pub returns-then-r : goal.returns-then-r
unfolding path_text
returns-then-r c = let s = c.args in
    let p = c.put-a.ensures in
    let q = c.put_path.ensures in record {
      put = put_as (found_text (snap_in s.db.now) s.edition s.r
          c.if-r.true) (put_two p q.put);
      upper_bound = omega (arith, p.next, q.upper_bound);
    }

pub returns-then-r-2 : goal.returns-then-r-2
returns-then-r-2 c = let s = c.args in
    let p = c.put.ensures in record {
      put = put_as (none_text (snap_in s.db.now) s.edition s.r c.if-r-2.true)
          p;
      upper_bound = omega (arith, p.next);
    }

pub slice_bounds-put_path-end-then-r-3 : goal.slice_bounds-put_path-end-then-r-3
slice_bounds-put_path-end-then-r-3 c =
    search (
      rules,
      c.well_formed.1.1.1.0,
    )

pub put_path-requires-then-r-3 : goal.put_path-requires-then-r-3
put_path-requires-then-r-3 c = record {
  room = omega (
    arith,
    c.requires.0,
    c.put-a-then-r-3.ensures.next,
    c.put-a-then-r-3.auto.out,
  );
  count_bound = omega (arith, c.requires.1, slice_bounds-put_path-end-then-r-3 c);
}

pub returns-then-r-3 : goal.returns-then-r-3
unfolding path_text
returns-then-r-3 c = let s = c.args in
    let p = c.put-a-then-r-3.ensures in
    let q = c.put_path-then-r-3.ensures in record {
      put = put_as (misleads_text (snap_in s.db.now) s.edition s.r
          c.if-r-3.true) (put_two p q.put);
      upper_bound = omega (arith, p.next, q.upper_bound);
    }

pub returns : goal.returns
returns c = let s = c.args in
    let p = c.put-b.ensures in
    let q = c.put_number.ensures in record {
      put = put_as (refused_text_lem (snap_in s.db.now) s.edition s.r
          c.if-r.false
          c.if-r-2.false
          c.if-r-3.false) (put_two p q.put);
      upper_bound = omega (arith, p.next, q.upper_bound);
    }
