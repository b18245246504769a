use Rattle.law_world.proofs.lemmas.streams.lemmas.put_laws.OwedSampled.{first_rest, half_rest}
use Rattle.law_world.proofs.streams.put_laws.owed_worked.what_is_still_to_be_sent.Goals as goal

pub returns-clause-first : goal.returns-clause-first
returns-clause-first c = first_rest

pub returns-clause-half : goal.returns-clause-half
returns-clause-half c = half_rest
