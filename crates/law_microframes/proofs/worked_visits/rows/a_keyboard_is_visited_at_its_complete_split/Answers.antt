use Rattle.law_microframes.proofs.lemmas.worked_visits.CoverSampled.{in_frame_128, a_complete_split}
use Rattle.law_microframes.proofs.worked_visits.rows.a_keyboard_is_visited_at_its_complete_split.Goals as goal

pub returns-clause-linked : goal.returns-clause-linked
returns-clause-linked c = in_frame_128.0

pub returns-clause-goes_on : goal.returns-clause-goes_on
returns-clause-goes_on c = in_frame_128.1

pub returns-clause-none : goal.returns-clause-none
returns-clause-none c = in_frame_128.2

pub returns-clause-still : goal.returns-clause-still
returns-clause-still c = in_frame_128.3

pub returns-clause-visited : goal.returns-clause-visited
returns-clause-visited c = in_frame_128.4

pub returns-clause-turn : goal.returns-clause-turn
returns-clause-turn c = a_complete_split
