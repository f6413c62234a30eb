use mathlib.Core.Bool.{false}
use Rattle.any_path.proofs.Taken.{stays_reads}
use Rattle.any_path.proofs.Whole.{first_meant, near_reads, all_reads, all_meant, run_done}
use Rattle.any_path.proofs.run.run_keywords.Goals as goal

pub expand_all-near-requires : goal.expand_all-near-requires
expand_all-near-requires c =
    let f = c.begin-start.ensures in (
      stays_reads _ _ _ _ c.requires.0 f.stays,
      c.requires.1,
      f.run,
      first_meant
          _ _ _ c.requires.0 c.args.from.0 false f,
    )

pub offer_absolutes-all-requires : goal.offer_absolutes-all-requires
offer_absolutes-all-requires c = (
  near_reads _ _ _ c.requires.0 c.args.from.0 false c.begin-start.ensures
      c.expand_all-near.ensures,
  c.requires.1,
  c.expand_all-near.ensures.run,
)

pub take_up-requires : goal.take_up-requires
take_up-requires c =
    let f = c.begin-start.ensures in
    let g = c.expand_all-near.ensures in
    let h = c.offer_absolutes-all.ensures in (
      all_reads _ _ _ c.requires.0 c.args.from.0 false f g h,
      c.requires.1,
      h.run,
      all_meant
          _ _ _ c.requires.0 c.args.from.0 false f g h,
    )

pub returns : goal.returns
returns c =
    run_done _ _ _ c.requires.0 c.args.from.0 false c.begin-start.ensures
    c.expand_all-near.ensures
    c.offer_absolutes-all.ensures c.take_up.ensures
