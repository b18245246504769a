use Rattle.law_queues.proofs.lemmas.fed_lends.Opened.{open_stands}
use Rattle.law_queues.proofs.fed_lends.command_laws.open_stands.Goals as goal

pub returns : goal.returns
returns c = open_stands
