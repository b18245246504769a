use Rattle.law_descriptors.proofs.Queued.{events_link_queued}
use Rattle.law_descriptors.proofs.queued_laws.events_link_queued.Goals as goal

pub returns : goal.returns
returns c = events_link_queued
