use Rattle.law_reports.proofs.lemmas.pipes.lemmas.puts.HighTakers.{taken_begins_streams, taken_ends_right}
use Rattle.law_reports.proofs.pipes.takers.what_was_put_tells_the_streams.Goals as goal

pub returns-clause-sent : goal.returns-clause-sent
returns-clause-sent c = taken_begins_streams

pub returns-clause-end : goal.returns-clause-end
returns-clause-end c = taken_ends_right
