use Rattle.law_descriptors.proofs.Queued.{commands_link_queued}
use Rattle.law_descriptors.proofs.queued_laws.commands_link_queued.Goals as goal

pub returns : goal.returns
returns c = commands_link_queued
