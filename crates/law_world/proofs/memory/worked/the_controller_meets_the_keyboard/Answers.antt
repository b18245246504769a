use Rattle.law_world.proofs.lemmas.memory.SampledMoments.{a_visit}
use Rattle.law_world.proofs.memory.worked.the_controller_meets_the_keyboard.Goals as goal

pub returns-clause-microframe : goal.returns-clause-microframe
returns-clause-microframe c = a_visit.0

pub returns-clause-leads : goal.returns-clause-leads
returns-clause-leads c = a_visit.1

pub returns-clause-held : goal.returns-clause-held
returns-clause-held c = a_visit.2

pub returns-clause-let_go : goal.returns-clause-let_go
returns-clause-let_go c = a_visit.3

pub returns-clause-over : goal.returns-clause-over
returns-clause-over c = a_visit.4
