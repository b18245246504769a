use Rattle.law_reports.proofs.lemmas.pipes.lemmas.below_hubs.LateSampled.{frame_begins, later_begins, it_waits}
use Rattle.law_reports.proofs.lemmas.pipes.lemmas.below_hubs.LateSampled.{it_hasnt_started, it_has_heard}
use Rattle.law_reports.proofs.pipes.late_worked.a_host_waits_too_long.Goals as goal

pub returns-clause-frame : goal.returns-clause-frame
returns-clause-frame c = frame_begins

pub returns-clause-later : goal.returns-clause-later
returns-clause-later c = later_begins

pub returns-clause-waits : goal.returns-clause-waits
returns-clause-waits c = it_waits

pub returns-clause-unstarted : goal.returns-clause-unstarted
returns-clause-unstarted c = it_hasnt_started

pub returns-clause-heard : goal.returns-clause-heard
returns-clause-heard c = it_has_heard
