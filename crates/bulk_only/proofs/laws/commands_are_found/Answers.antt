use Rattle.bulk_only.proofs.Streams.{found_commands, found_rest}
use Rattle.bulk_only.proofs.laws.commands_are_found.Goals as goal

pub returns : goal.returns
returns c = λ cs part h p. (found_commands cs part h p, found_rest cs part h p)
