use Rattle.law_reports.proofs.lemmas.requests.TransferChanging.{course_is_recorded, behind_is_published, first_is_published, halted_is_published, mended_is_recorded}
use Rattle.law_reports.proofs.requests.transfer_laws.published_requests_are_recorded.Goals as goal

pub returns : goal.returns
returns c = record { course = course_is_recorded; behind = behind_is_published; first = first_is_published; halted = halted_is_published; mended = mended_is_recorded }
