use Rattle.law_reports.proofs.lemmas.requests.Rows.{row_keeps_records, request_is_accepted, other_is_accepted, accepted_keeps_records}
use Rattle.law_reports.proofs.requests.transfer_laws.rows_and_commands_keep_the_records.Goals as goal

pub returns : goal.returns
returns c = record { row = row_keeps_records; request = request_is_accepted; other = other_is_accepted; kept = accepted_keeps_records }
