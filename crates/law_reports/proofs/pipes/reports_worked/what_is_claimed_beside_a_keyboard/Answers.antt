use Rattle.std.proofs.Common.{refl}
use Rattle.law_reports.proofs.lemmas.pipes.lemmas.high_streams.Sampling.{not_asynchronous}
use Rattle.law_reports.proofs.pipes.reports_worked.what_is_claimed_beside_a_keyboard.Goals as goal

pub returns-clause-interrupt : goal.returns-clause-interrupt
returns-clause-interrupt c = refl

pub returns-clause-bulk : goal.returns-clause-bulk
returns-clause-bulk c = refl

pub returns-clause-split : goal.returns-clause-split
returns-clause-split c = refl

pub returns-clause-no_class : goal.returns-clause-no_class
returns-clause-no_class c = not_asynchronous
