use Rattle.law_devices.proofs.lemmas.scripted_takers.Beginning.{a_microframe_keeps_its_takers}
use Rattle.law_devices.proofs.scripted_takers.a_microframe_keeps_its_takers.Goals as goal

pub returns : goal.returns
returns c = a_microframe_keeps_its_takers
