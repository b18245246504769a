use Rattle.law_reports.proofs.lemmas.requests.Missed.{new_head_is_unmissed, new_qtd_is_unmissed, dummy_is_unmissed, writing_misses_none, release_misses_none}
use Rattle.law_reports.proofs.requests.no_misses.a_driver_writes_no_missed_microframe.Goals as goal

pub returns : goal.returns
returns c = record { head = new_head_is_unmissed; qtd = new_qtd_is_unmissed; dummy = dummy_is_unmissed; writing = writing_misses_none; release = release_misses_none }
