use Rattle.law_microframes.proofs.lemmas.visits.ReasonSampled.{other_microframe, too_late, none_in_time, no_complete_split}
use Rattle.law_microframes.proofs.visits.worked_reasons.a_queue_head_is_passed.Goals as goal

pub returns-clause-another_microframe : goal.returns-clause-another_microframe
returns-clause-another_microframe c = other_microframe

pub returns-clause-late : goal.returns-clause-late
returns-clause-late c = too_late

pub returns-clause-in_time : goal.returns-clause-in_time
returns-clause-in_time c = none_in_time

pub returns-clause-no_complete_split : goal.returns-clause-no_complete_split
returns-clause-no_complete_split c = no_complete_split
