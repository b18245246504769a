use Rattle.law_reports.proofs.lemmas.requests.AskedMidway.{window, told, begins, wrong}
use Rattle.law_reports.proofs.requests.asked_worked.a_request_is_cancelled_midway.Goals as goal

pub returns-clause-over : goal.returns-clause-over
returns-clause-over c = told.0

pub returns-clause-window : goal.returns-clause-window
returns-clause-window c = window

pub returns-clause-line : goal.returns-clause-line
returns-clause-line c = told.1

pub returns-clause-bytes : goal.returns-clause-bytes
returns-clause-bytes c = told.2

pub returns-clause-told : goal.returns-clause-told
returns-clause-told c = begins

pub returns-clause-wrong : goal.returns-clause-wrong
returns-clause-wrong c = wrong
