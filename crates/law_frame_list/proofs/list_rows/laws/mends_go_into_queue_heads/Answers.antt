use Rattle.law_frame_list.proofs.lemmas.list_rows.Owed.{opening_aside, event_aside, command_aside}
use Rattle.law_frame_list.proofs.list_rows.laws.mends_go_into_queue_heads.Goals as goal

pub returns-clause-opening : goal.returns-clause-opening
returns-clause-opening c = opening_aside

pub returns-clause-event : goal.returns-clause-event
returns-clause-event c = event_aside

pub returns-clause-command : goal.returns-clause-command
returns-clause-command c = command_aside
