use Rattle.law_reports.proofs.lemmas.answers.Closings.{one_line_for_one_get, a_get_adds_up}
use Rattle.law_reports.proofs.answers.one_line_counts_one_get.Goals as goal

pub returns : goal.returns
returns c = record { less = one_line_for_one_get; adds_up = a_get_adds_up }
