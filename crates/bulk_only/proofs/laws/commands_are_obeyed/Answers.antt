use Rattle.bulk_only.proofs.Streams.{obeyed_all}
use Rattle.bulk_only.proofs.laws.commands_are_obeyed.Goals as goal

pub returns : goal.returns
returns c = obeyed_all
