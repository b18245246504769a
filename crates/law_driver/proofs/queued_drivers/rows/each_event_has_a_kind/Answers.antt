use Rattle.law_driver.proofs.lemmas.queued_drivers.RowKinds.{event_kind}
use Rattle.law_driver.proofs.queued_drivers.rows.each_event_has_a_kind.Goals as goal

pub returns : goal.returns
returns c = λ p row. event_kind row p
