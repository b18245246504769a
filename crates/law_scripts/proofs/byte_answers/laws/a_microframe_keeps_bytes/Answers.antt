use Rattle.law_scripts.proofs.lemmas.byte_answers.Buses.{a_microframe_keeps_bytes}
use Rattle.law_scripts.proofs.byte_answers.laws.a_microframe_keeps_bytes.Goals as goal

pub returns : goal.returns
returns c = a_microframe_keeps_bytes
