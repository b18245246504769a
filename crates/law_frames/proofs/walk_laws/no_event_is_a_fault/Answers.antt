use Rattle.law_frames.proofs.Walking.{no_event_is_a_fault}
use Rattle.law_frames.proofs.walk_laws.no_event_is_a_fault.Goals as goal

pub returns : goal.returns
returns c = no_event_is_a_fault
