use Rattle.law_devices.specs.Controls.{control_of}
use Rattle.law_reports.proofs.lemmas.requests.CancelWaits.{course_begins, met_begins, waits_are_unreported}
use Rattle.law_reports.proofs.requests.cancel_line.those_that_wait_begin.Goals as goal

pub returns-clause-begins : goal.returns-clause-begins
returns-clause-begins c = course_begins control_of

pub returns-clause-waits : goal.returns-clause-waits
returns-clause-waits c = waits_are_unreported

pub returns-clause-met : goal.returns-clause-met
returns-clause-met c = met_begins
