use Rattle.law_microframes.proofs.lemmas.visits.InFramesMoments.{scripts_stay_in_frames, scripts_go_through_frames}
use Rattle.law_microframes.proofs.visits.in_frames.queue_heads_are_visited_in_their_frames.Goals as goal

pub returns : goal.returns
returns c = record { frames = scripts_stay_in_frames; visits = scripts_go_through_frames }
