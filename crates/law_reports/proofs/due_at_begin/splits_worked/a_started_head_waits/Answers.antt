use Rattle.law_reports.proofs.lemmas.due_at_begin.FollowSampled.{keyboard_waits, out_of_hand, not_written_yet, its_turn_comes}
use Rattle.law_reports.proofs.lemmas.due_at_begin.FollowSampled.{left_waiting, too_late_for_it}
use Rattle.law_reports.proofs.due_at_begin.splits_worked.a_started_head_waits.Goals as goal

pub returns-clause-waits : goal.returns-clause-waits
returns-clause-waits c = keyboard_waits

pub returns-clause-out : goal.returns-clause-out
returns-clause-out c = out_of_hand

pub returns-clause-not_yet : goal.returns-clause-not_yet
returns-clause-not_yet c = not_written_yet

pub returns-clause-turn : goal.returns-clause-turn
returns-clause-turn c = its_turn_comes

pub returns-clause-late : goal.returns-clause-late
returns-clause-late c = too_late_for_it

pub returns-clause-left : goal.returns-clause-left
returns-clause-left c = left_waiting
