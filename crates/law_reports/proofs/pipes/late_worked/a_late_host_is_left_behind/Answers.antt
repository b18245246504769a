use Rattle.law_reports.proofs.lemmas.pipes.lemmas.below_hubs.LateSampled.{frame_passes_on, frame_has_it}
use Rattle.law_reports.proofs.pipes.late_worked.a_late_host_is_left_behind.Goals as goal

pub returns-clause-passes : goal.returns-clause-passes
returns-clause-passes c = frame_passes_on

pub returns-clause-linked : goal.returns-clause-linked
returns-clause-linked c = frame_has_it
