use Rattle.law_microframes.proofs.lemmas.visits.ReasonSampled.{split_elsewhere, split_late, split_in_time, none_to_complete, one_to_complete}
use Rattle.law_microframes.proofs.visits.worked_reasons.a_split_descriptor_is_passed.Goals as goal

pub returns-clause-another_microframe : goal.returns-clause-another_microframe
returns-clause-another_microframe c = split_elsewhere

pub returns-clause-late : goal.returns-clause-late
returns-clause-late c = split_late

pub returns-clause-in_time : goal.returns-clause-in_time
returns-clause-in_time c = split_in_time

pub returns-clause-no_complete_split : goal.returns-clause-no_complete_split
returns-clause-no_complete_split c = none_to_complete

pub returns-clause-complete_split : goal.returns-clause-complete_split
returns-clause-complete_split c = one_to_complete
