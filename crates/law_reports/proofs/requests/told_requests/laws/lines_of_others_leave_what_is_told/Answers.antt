use Rattle.law_reports.proofs.lemmas.requests.lemmas.told_requests.Driver.{others_stay, others_behind_stay, refusal_stays}
use Rattle.law_reports.proofs.requests.told_requests.laws.lines_of_others_leave_what_is_told.Goals as goal

pub returns-clause-lines : goal.returns-clause-lines
returns-clause-lines c = others_stay

pub returns-clause-behind : goal.returns-clause-behind
returns-clause-behind c = others_behind_stay

pub returns-clause-refusals : goal.returns-clause-refusals
returns-clause-refusals c = refusal_stays
