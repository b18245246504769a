use Rattle.law_frames.proofs.Queues.{a_members_part_is_linked}
use Rattle.law_frames.proofs.part_laws.a_members_part_is_linked.Goals as goal

pub returns : goal.returns
returns c = a_members_part_is_linked
