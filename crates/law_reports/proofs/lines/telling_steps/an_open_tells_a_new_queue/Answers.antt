use Rattle.law_reports.proofs.lemmas.lines.ToldOpens.{begin_telling, open_tells}
use Rattle.law_reports.proofs.lines.telling_steps.an_open_tells_a_new_queue.Goals as goal

pub returns-clause-begins : goal.returns-clause-begins
returns-clause-begins c = begin_telling

pub returns-clause-opens : goal.returns-clause-opens
returns-clause-opens c = open_tells
