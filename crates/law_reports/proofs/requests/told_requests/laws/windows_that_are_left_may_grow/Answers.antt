use Rattle.law_reports.proofs.lemmas.requests.lemmas.told_requests.Windows.{windows_have_front, windows_grow}
use Rattle.law_reports.proofs.requests.told_requests.laws.windows_that_are_left_may_grow.Goals as goal

pub returns-clause-front : goal.returns-clause-front
returns-clause-front c = windows_have_front

pub returns-clause-later : goal.returns-clause-later
returns-clause-later c = windows_grow
