use Rattle.law_reports.proofs.lemmas.answers.Closings.{two_lines_for_one_get, a_line_is_missing}
use Rattle.law_reports.proofs.answers.counting_is_broken_by_two_lines_and_by_none.Goals as goal

pub returns : goal.returns
returns c = record { two = two_lines_for_one_get; none = a_line_is_missing }
