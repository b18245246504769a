use Rattle.law_reports.proofs.lemmas.pipes.lemmas.below_hubs.LateSampled.{it_is_visited, it_is_held, it_misses, frame_passes}
use Rattle.law_reports.proofs.lemmas.pipes.lemmas.below_hubs.LateSampled.{it_gives_up, frame_keeps, it_is_worked_on}
use Rattle.law_reports.proofs.pipes.late_worked.a_late_host_is_missed.Goals as goal

pub returns-clause-visited : goal.returns-clause-visited
returns-clause-visited c = it_is_visited

pub returns-clause-held : goal.returns-clause-held
returns-clause-held c = it_is_held

pub returns-clause-turn : goal.returns-clause-turn
returns-clause-turn c = it_misses

pub returns-clause-passes : goal.returns-clause-passes
returns-clause-passes c = frame_passes

pub returns-clause-over : goal.returns-clause-over
returns-clause-over c = it_gives_up

pub returns-clause-kept : goal.returns-clause-kept
returns-clause-kept c = frame_keeps

pub returns-clause-in_time : goal.returns-clause-in_time
returns-clause-in_time c = it_is_worked_on
