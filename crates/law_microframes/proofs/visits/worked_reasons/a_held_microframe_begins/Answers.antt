use Rattle.law_microframes.proofs.lemmas.visits.ReasonSampled.{a_held_begin}
use Rattle.law_microframes.proofs.visits.worked_reasons.a_held_microframe_begins.Goals as goal

pub returns-clause-held : goal.returns-clause-held
returns-clause-held c = a_held_begin.0

pub returns-clause-no_time : goal.returns-clause-no_time
returns-clause-no_time c = a_held_begin.1

pub returns-clause-free : goal.returns-clause-free
returns-clause-free c = a_held_begin.2

pub returns-clause-whole_time : goal.returns-clause-whole_time
returns-clause-whole_time c = a_held_begin.3
