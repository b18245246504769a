use Rattle.law_opened.proofs.Sampling.{opens_once, opens_fit, not_once}
use Rattle.law_opened.proofs.worked.the_names_beside_a_keyboard.Goals as goal

pub returns-clause-once : goal.returns-clause-once
returns-clause-once c = opens_once

pub returns-clause-fits : goal.returns-clause-fits
returns-clause-fits c = opens_fit

pub returns-clause-twice : goal.returns-clause-twice
returns-clause-twice c = not_once
