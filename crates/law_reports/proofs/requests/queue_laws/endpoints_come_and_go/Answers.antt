use Rattle.law_reports.proofs.lemmas.requests.Beginning.{course_begins}
use Rattle.law_reports.proofs.lemmas.requests.QueueChanging.{course_leaves, members_change}
use Rattle.law_reports.proofs.requests.queue_laws.endpoints_come_and_go.Goals as goal

pub returns : goal.returns
returns g c = record { begins = course_begins; leaves = course_leaves; members = members_change }
