use Rattle.law_frames.proofs.Queues.{a_linked_part_is_a_members}
use Rattle.law_frames.proofs.part_laws.a_linked_part_is_a_members.Goals as goal

pub returns : goal.returns
returns c = a_linked_part_is_a_members
