use Rattle.law_devices.proofs.lemmas.declared_controls.Sampled.{sample_names, sample_requests}
use Rattle.law_devices.proofs.declared_controls.worked.names_and_requests.Goals as goal

pub returns-clause-names : goal.returns-clause-names
returns-clause-names c = sample_names

pub returns-clause-asks : goal.returns-clause-asks
returns-clause-asks c = sample_requests
