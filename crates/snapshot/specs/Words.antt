-- Passed on to the crates above.
pub use Rattle.snapshot.specs.reading.Words.{kind_of, pay_of, words_of, text_at}
pub use Rattle.snapshot.specs.Sizes.{argument_table, arguments_at}
unfoldable pub use Rattle.snapshot.specs.Sizes.{arguments_of}
