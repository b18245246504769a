use Rattle.law_descriptors.proofs.Queued.{descriptors_come_first, leaving_come_first}
use Rattle.law_descriptors.proofs.queued_laws.descriptors_come_first.Goals as goal

pub returns : goal.returns
returns c = record { links = descriptors_come_first; unlinks = leaving_come_first }
