use Rattle.law_scripts.proofs.lemmas.byte_answers.Buses.{opening_bytes}
use Rattle.law_scripts.proofs.byte_answers.laws.a_bus_opens_with_bytes.Goals as goal

pub returns : goal.returns
returns c = opening_bytes
