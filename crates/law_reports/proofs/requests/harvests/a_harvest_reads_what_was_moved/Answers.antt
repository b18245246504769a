use Rattle.law_reports.proofs.lemmas.requests.Reading.{read_is_moved, moved_is_read, moved_begin, moved_are_all}
use Rattle.law_reports.proofs.requests.harvests.a_harvest_reads_what_was_moved.Goals as goal

pub returns : goal.returns
returns c = record { read = read_is_moved; goes_on = moved_is_read; begins = moved_begin; all = moved_are_all }
