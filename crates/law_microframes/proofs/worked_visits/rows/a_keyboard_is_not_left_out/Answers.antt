use Rattle.law_microframes.proofs.lemmas.worked_visits.CoverSampled.{in_microframe_1}
use Rattle.law_microframes.proofs.worked_visits.rows.a_keyboard_is_not_left_out.Goals as goal

pub returns-clause-linked : goal.returns-clause-linked
returns-clause-linked c = in_microframe_1.0

pub returns-clause-elsewhere : goal.returns-clause-elsewhere
returns-clause-elsewhere c = in_microframe_1.1

pub returns-clause-goes_on : goal.returns-clause-goes_on
returns-clause-goes_on c = in_microframe_1.2

pub returns-clause-none : goal.returns-clause-none
returns-clause-none c = in_microframe_1.3

pub returns-clause-still : goal.returns-clause-still
returns-clause-still c = in_microframe_1.4

pub returns-clause-over : goal.returns-clause-over
returns-clause-over c = in_microframe_1.5

pub returns-clause-visited : goal.returns-clause-visited
returns-clause-visited c = in_microframe_1.6
