use Rattle.law_opened.proofs.Opened.{texts_open_once, texts_open_fit}
use Rattle.law_opened.proofs.laws.each_name_is_of_one_endpoint.Goals as goal

pub returns-clause-once : goal.returns-clause-once
returns-clause-once c = texts_open_once

pub returns-clause-fits : goal.returns-clause-fits
returns-clause-fits c = texts_open_fit
