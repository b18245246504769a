use Rattle.law_reports.proofs.lemmas.answers.Closings.{closings_tell_pending}
use Rattle.law_reports.proofs.lemmas.answers.Counting.{events_count_down}
use Rattle.law_reports.proofs.lemmas.answers.Texts.{texts_count_pending}
use Rattle.law_reports.proofs.answers.what_has_no_line_is_pending.Goals as goal

pub returns : goal.returns
returns c = record { events = events_count_down; closings = closings_tell_pending; texts = texts_count_pending }
