use Rattle.law_controller.proofs.lemmas.frame_stores.Beside.{other_parts_leave_both, unmet_parts_leave_both, lend_leaves_both, another_leaves_both, strangers_leave_both, rest_leaves_both}
use Rattle.law_controller.proofs.frame_stores.both.lends_and_returns_leave_both.Goals as goal

pub returns : goal.returns
returns c = record { parts = other_parts_leave_both; unmet = unmet_parts_leave_both; lend = lend_leaves_both; another = another_leaves_both; strangers = strangers_leave_both; rest = rest_leaves_both }
