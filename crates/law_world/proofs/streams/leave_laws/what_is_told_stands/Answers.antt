use Rattle.law_world.proofs.lemmas.streams.FedBeside.{leave_keeps_tails, cancel_keeps_told, clear_keeps_told}
use Rattle.law_world.proofs.streams.leave_laws.what_is_told_stands.Goals as goal

pub returns-clause-tails : goal.returns-clause-tails
returns-clause-tails c = leave_keeps_tails

pub returns-clause-cancel : goal.returns-clause-cancel
returns-clause-cancel c = cancel_keeps_told

pub returns-clause-clear : goal.returns-clause-clear
returns-clause-clear c = clear_keeps_told
