use Rattle.law_microframes.proofs.lemmas.visits.ReasonPasses.{worlds_pass_in_frames}
use Rattle.law_microframes.proofs.lemmas.visits.ReasonTexts.{mixed_visits_in_frames, texts_keep_frame_reasons}
use Rattle.law_microframes.proofs.visits.reasons.queue_heads_of_frames_are_passed_for_a_reason.Goals as goal

pub returns : goal.returns
returns c = record { world = worlds_pass_in_frames; mixed = mixed_visits_in_frames; texts = texts_keep_frame_reasons }
