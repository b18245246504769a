-- What a translator has for the host, in the words of the clause (USB 2.0, 11.14, 11.17.1 and 11.20): what proofs above need of it.
pub use Rattle.tt_pipeline.specs.declared.entry.Entry.{Entry}
pub use Rattle.tt_pipeline.specs.declared.entry.Exchange.{Exchange}
pub use Rattle.tt_pipeline.specs.declared.entry.Exchange.TheVariants.{Ahead, Made}
pub use Rattle.tt_pipeline.specs.declared.rows.AnswerRow.{AnswerRow}
pub use Rattle.tt_pipeline.specs.declared.rows.AnswerRow.TheVariants.{Result}
pub use Rattle.tt_pipeline.specs.Answers.{row_at, answer_row, result_of, answer_at, answer_from, complete_answer}
pub use Rattle.tt_pipeline.specs.Starting.{has_key}
pub use Rattle.claims_world.specs.Behind.{key_for, entries_at, entries_of_hub, entries_by, pipeline_for}
pub use Rattle.claims_world.specs.Gaps.{pipeline_in}
pub use Rattle.claims_world.specs.Pipelines.{port_at}
pub use Rattle.claims_world.specs.Results.{NextAreHeard, IsNextHeard, HasAnswer, HasEntry, MovesBy, by_data, by_ack}
pub use Rattle.claims_world.specs.Results.{IsAnswerDue, IsResultDue, IsLastDue, IsAnswered, IsToldBy, IsTaken}
pub use Rattle.claims_world.specs.Results.{AnswersAreHeard, ResultsAreTaken, LastAnswersAreThere, KeepsAnswers}
