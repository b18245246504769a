use Rattle.law_descriptors.proofs.GivenRecent.{endpoint_leaves_recent}
use Rattle.law_descriptors.proofs.given_laws.endpoint_leaves_recent.Goals as goal

pub returns : goal.returns
returns c = endpoint_leaves_recent
