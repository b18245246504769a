use Rattle.law_devices.proofs.lemmas.declared_controls.Sampled.{sample_opens}
use Rattle.law_devices.proofs.declared_controls.worked.opened_control.Goals as goal

pub returns-clause-opens : goal.returns-clause-opens
returns-clause-opens c = sample_opens
