use Rattle.law_descriptors.proofs.Queued.{new_driver_links_queued}
use Rattle.law_descriptors.proofs.queued_laws.new_driver_links_queued.Goals as goal

pub returns : goal.returns
returns c = new_driver_links_queued
