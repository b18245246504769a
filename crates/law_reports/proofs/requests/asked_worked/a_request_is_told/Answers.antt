use Rattle.law_reports.proofs.lemmas.requests.AskedSampled.{last, told, is_of_device, goes_on}
use Rattle.law_reports.proofs.requests.asked_worked.a_request_is_told.Goals as goal

pub returns-clause-over : goal.returns-clause-over
returns-clause-over c = told.0

pub returns-clause-device : goal.returns-clause-device
returns-clause-device c = is_of_device

pub returns-clause-going : goal.returns-clause-going
returns-clause-going c = goes_on

pub returns-clause-window : goal.returns-clause-window
returns-clause-window c = last

pub returns-clause-line : goal.returns-clause-line
returns-clause-line c = told.1

pub returns-clause-bytes : goal.returns-clause-bytes
returns-clause-bytes c = told.2

pub returns-clause-counted : goal.returns-clause-counted
returns-clause-counted c = told.3
