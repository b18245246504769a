use Rattle.law_microframes.proofs.lemmas.visits.VisitsKept.{scripts_visit, texts_visit_each_once}
use Rattle.law_microframes.proofs.visits.driver_visits.no_structure_is_visited_twice.Goals as goal

pub returns : goal.returns
returns c = record { scripts = scripts_visit; texts = texts_visit_each_once }
