use Rattle.law_world.proofs.lemmas.steps.RowSampling.{begins_row, stored_row, sent_row, harvested_row, wrong_row}
use Rattle.law_world.proofs.steps.row_worked.of_two_bytes.Goals as goal

pub returns : goal.returns
returns c = record { begins = begins_row; stored = stored_row; sent = sent_row; harvested = harvested_row; wrong = wrong_row }
