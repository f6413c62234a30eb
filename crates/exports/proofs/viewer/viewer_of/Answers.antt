use Rattle.exports.proofs.viewer.viewer_of.Goals as goal

pub returns : goal.returns
returns c =
    λ i. record {
      from = record { 0 = c.word.ensures i };
      prefix = c.word-2.ensures i;
      options = c.word-3.ensures i;
      fuel = c.word-4.ensures i;
      limit = c.word-5.ensures i;
    }
