use Rattle.law_microframes.proofs.lemmas.worked_visits.WereSampled.{own_frame, other_frame, other_place, unlinked_now}
use Rattle.law_microframes.proofs.worked_visits.rows.a_keyboard_was_of_its_frame.Goals as goal

pub returns-clause-own : goal.returns-clause-own
returns-clause-own c = own_frame

pub returns-clause-another_frame : goal.returns-clause-another_frame
returns-clause-another_frame c = other_frame

pub returns-clause-another_place : goal.returns-clause-another_place
returns-clause-another_place c = other_place

pub returns-clause-now : goal.returns-clause-now
returns-clause-now c = unlinked_now
