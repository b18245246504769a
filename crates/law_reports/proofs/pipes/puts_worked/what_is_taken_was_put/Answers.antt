use Rattle.law_reports.proofs.lemmas.pipes.lemmas.puts.Sampled.{put_seven, put_other, put_nothing}
use Rattle.law_reports.proofs.pipes.puts_worked.what_is_taken_was_put.Goals as goal

pub returns-clause-put : goal.returns-clause-put
returns-clause-put c = put_seven

pub returns-clause-other : goal.returns-clause-other
returns-clause-other c = put_other

pub returns-clause-nothing : goal.returns-clause-nothing
returns-clause-nothing c = put_nothing
