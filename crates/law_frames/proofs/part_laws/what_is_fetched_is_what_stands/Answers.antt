use Rattle.law_frames.proofs.Hands.{what_is_fetched_is_what_stands}
use Rattle.law_frames.proofs.part_laws.what_is_fetched_is_what_stands.Goals as goal

pub returns : goal.returns
returns c = what_is_fetched_is_what_stands
