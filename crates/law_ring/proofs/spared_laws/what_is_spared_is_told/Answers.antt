use Rattle.law_ring.proofs.SparedSparing.{spared_is_told, spared_has_toggle}
use Rattle.law_ring.proofs.spared_laws.what_is_spared_is_told.Goals as goal

pub returns-clause-bytes : goal.returns-clause-bytes
returns-clause-bytes c = spared_is_told

pub returns-clause-toggle : goal.returns-clause-toggle
returns-clause-toggle c = spared_has_toggle
