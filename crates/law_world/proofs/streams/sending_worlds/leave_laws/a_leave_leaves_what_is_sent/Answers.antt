use Rattle.law_world.proofs.lemmas.streams.lemmas.sending_worlds.SentLeaving.{cancel_keeps_sent, still_keeps_sent, clear_keeps_sent}
use Rattle.law_world.proofs.streams.sending_worlds.leave_laws.a_leave_leaves_what_is_sent.Goals as goal

pub returns-clause-cancel : goal.returns-clause-cancel
returns-clause-cancel c = cancel_keeps_sent

pub returns-clause-still : goal.returns-clause-still
returns-clause-still c = still_keeps_sent

pub returns-clause-clear : goal.returns-clause-clear
returns-clause-clear c = clear_keeps_sent
