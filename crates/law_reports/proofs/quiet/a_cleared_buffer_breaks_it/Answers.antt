use Rattle.law_reports.proofs.lemmas.quiet.SparedSampled.{one_clears_a_buffer}
use Rattle.law_reports.proofs.quiet.a_cleared_buffer_breaks_it.Goals as goal

pub returns : goal.returns
returns c = one_clears_a_buffer
