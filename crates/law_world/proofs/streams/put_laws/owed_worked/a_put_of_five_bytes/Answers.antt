use Rattle.law_world.proofs.lemmas.streams.lemmas.put_laws.OwedSampled.{first_owes, half_owes, end_owes, halted_owes, half_wrong}
use Rattle.law_world.proofs.streams.put_laws.owed_worked.a_put_of_five_bytes.Goals as goal

pub returns-clause-first : goal.returns-clause-first
returns-clause-first c = first_owes

pub returns-clause-half : goal.returns-clause-half
returns-clause-half c = half_owes

pub returns-clause-end : goal.returns-clause-end
returns-clause-end c = end_owes

pub returns-clause-halted : goal.returns-clause-halted
returns-clause-halted c = halted_owes

pub returns-clause-wrong : goal.returns-clause-wrong
returns-clause-wrong c = half_wrong
