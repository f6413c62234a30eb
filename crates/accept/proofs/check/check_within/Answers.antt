use mathlib.Core.Path.{sym, ◌∙◌}
use native.Mathlib.Omega.{arith}
use Rattle.check_rules.proofs.Exits.{err_is}
use Rattle.accept.proofs.Filling.{rooted_later}
use Rattle.accept.proofs.Ending.{too_long, ended_judged, not_filled, not_owned, map_small, accepts, sized, accepted}
use Rattle.accept.proofs.check.check_within.Goals as goal

pub returns-then-words-gt-SNAPSHOT : goal.returns-then-words-gt-SNAPSHOT
returns-then-words-gt-SNAPSHOT c = too_long _ _ c.if-words-gt-SNAPSHOT.true

pub returns-in_err-l : goal.returns-in_err-l
returns-in_err-l c =
    rw (err_is _ _ c.from_residual.ensures.1) (ended_judged c.args.words.now c.read_records.new.area _ c.in_err-l.ensures)

pub returns-then-not-maps_filled : goal.returns-then-not-maps_filled
returns-then-not-maps_filled c =
    let e = c.in_ok-l.ensures in
    not_filled c.args.words.now c.read_records.new.area e.1 c.in_ok-l.l e.0 e.2 e.3 c.maps_filled.ensures
    c.if-not-maps_filled.true

pub returns-then-not-crates_own : goal.returns-then-not-crates_own
returns-then-not-crates_own c =
    let e = c.in_ok-l.ensures in
    not_owned c.args.words.now c.read_records.new.area e.1 c.in_ok-l.l e.0 e.2 e.3 c.maps_filled.ensures
    c.if-not-maps_filled.false c.crates_own.ensures c.if-not-crates_own.true

pub fill_roots-requires : goal.fill_roots-requires
fill_roots-requires c = let e = c.in_ok-l.ensures in record {
  area_limit_in_bounds = (let x = c.read_records.auto.area in omega arith, e.2.limited.modules);
  by_index = map_small c.args.words.now c.read_records.new.area
      e.1 c.in_ok-l.l e.0 e.2 (sym c.maps_filled.ensures
      ∙ c.if-not-maps_filled.false);
}

pub invariant_of-records : goal.invariant_of-records
invariant_of-records c =
    let e = c.in_ok-l.ensures in
    record { fits = omega (arith, e.2.place, c.if-words-gt-SNAPSHOT.false) }

pub index_records-requires : goal.index_records-requires
index_records-requires c =
    let e = c.in_ok-l.ensures in
    let W = c.args.words.now in
    let A = c.read_records.new.area in
    let filled = sym c.maps_filled.ensures ∙ c.if-not-maps_filled.false in
    let owned = sym c.crates_own.ensures ∙ c.if-not-crates_own.false in
    let B = c.fill_roots.new.area in (
      omega (arith, c.read_records.auto.area, c.fill_roots.auto.area, c.requires),
      sized W A e.1 c.in_ok-l.l e.0 e.2 filled B c.fill_roots.ensures c.if-words-gt-SNAPSHOT.false
          (accepts W A e.1 c.in_ok-l.l e.0 e.2 filled B c.fill_roots.ensures e.3 owned),
    )

pub returns : goal.returns
returns c =
    let e = c.in_ok-l.ensures in
    let W = c.args.words.now in
    let A = c.read_records.new.area in
    let l = c.in_ok-l.l in
    let filled = sym c.maps_filled.ensures ∙ c.if-not-maps_filled.false in
    accepted W A e.1 l e.0 e.2 filled c.index_records.new.area
    (rooted_later A c.fill_roots.new.area c.index_records.new.area l.modules e.2.limited.modules (map_small W A e.1 l e.0 e.2 filled)
    c.fill_roots.ensures c.index_records.ensures.below) c.if-words-gt-SNAPSHOT.false e.3 (sym c.crates_own.ensures
    ∙ c.if-not-crates_own.false) c.index_records.ensures.index
