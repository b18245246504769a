use Rattle.law_reports.proofs.lemmas.pipes.IsoBeside.{names_keep_beside}
use Rattle.law_reports.proofs.lemmas.pipes.NamesCommanded.{command_keeps_names}
use Rattle.law_reports.proofs.lemmas.pipes.NamesKept.{new_descriptors_named, controller_keeps_names, driver_keeps_names}
use Rattle.law_reports.proofs.pipes.piped_events.isochronous_transactions_ask_no_stream.Goals as goal

pub returns-clause-opening : goal.returns-clause-opening
returns-clause-opening c = new_descriptors_named

pub returns-clause-controller : goal.returns-clause-controller
returns-clause-controller c = controller_keeps_names

pub returns-clause-driver : goal.returns-clause-driver
returns-clause-driver c = driver_keeps_names

pub returns-clause-command : goal.returns-clause-command
returns-clause-command c = command_keeps_names

pub returns-clause-beside : goal.returns-clause-beside
returns-clause-beside c = names_keep_beside
