use Rattle.law_devices.proofs.lemmas.declared_controls.Controls.{texts_open_controls}
use Rattle.law_devices.proofs.declared_controls.laws.texts_open_controls.Goals as goal

pub returns : goal.returns
returns c = texts_open_controls
