use Rattle.law_controller.proofs.lemmas.frame_stores.Framing.{other_parts_leave_frame, unmet_parts_leave_frame, lend_leaves_frame, another_leaves_frame, fewer_leave_frame, strangers_leave_frame}
use Rattle.law_controller.proofs.frame_stores.laws.lends_and_returns_leave_the_frames.Goals as goal

pub returns : goal.returns
returns c = record { parts = other_parts_leave_frame; unmet = unmet_parts_leave_frame; lend = lend_leaves_frame; another = another_leaves_frame; fewer = fewer_leave_frame; strangers = strangers_leave_frame }
