use Rattle.reports.proofs.questions.question.question_of.Goals as goal

pub returns : goal.returns
returns c =
    λ i. record {
      query =
          record {
            ns = c.word.ensures i;
            definition = record { 0 = c.word-2.ensures i };
            from = record { 0 = c.word-3.ensures i };
            prefix = c.word-4.ensures i;
            options = c.word-5.ensures i;
            limit = c.word-6.ensures i;
          };
      fuel = c.word-7.ensures i;
    }
