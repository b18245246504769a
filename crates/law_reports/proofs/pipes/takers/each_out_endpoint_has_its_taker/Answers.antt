use Rattle.law_reports.proofs.lemmas.pipes.lemmas.puts.HighTakers.{followed_have_takers, texts_have_takers}
use Rattle.law_reports.proofs.pipes.takers.each_out_endpoint_has_its_taker.Goals as goal

pub returns-clause-followed : goal.returns-clause-followed
returns-clause-followed c = followed_have_takers

pub returns-clause-texts : goal.returns-clause-texts
returns-clause-texts c = texts_have_takers
