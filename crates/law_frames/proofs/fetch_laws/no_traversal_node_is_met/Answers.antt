use Rattle.law_frames.proofs.Fetching.{no_traversal_node_is_met}
use Rattle.law_frames.proofs.fetch_laws.no_traversal_node_is_met.Goals as goal

pub returns : goal.returns
returns c = no_traversal_node_is_met
