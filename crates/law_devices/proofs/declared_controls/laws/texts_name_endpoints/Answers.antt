use Rattle.law_devices.proofs.lemmas.declared_controls.Controls.{texts_name_endpoints}
use Rattle.law_devices.proofs.declared_controls.laws.texts_name_endpoints.Goals as goal

pub returns : goal.returns
returns c = texts_name_endpoints
