use Rattle.worked_claims.proofs.Reading.{stray_breaks, out_of_frames_breaks, unlisted_breaks}
use Rattle.worked_claims.proofs.structures.memory_is_broken_by_a_frame_list_of_others.Goals as goal

pub returns : goal.returns
returns c = record { element = stray_breaks; endpoint = out_of_frames_breaks; descriptor = unlisted_breaks }
