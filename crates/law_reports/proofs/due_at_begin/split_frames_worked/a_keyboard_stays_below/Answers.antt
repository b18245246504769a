use Rattle.law_reports.proofs.lemmas.due_at_begin.BelowSampled.{keyboard_is_below, disk_is_high, numbers_stay, begin_counts}
use Rattle.law_reports.proofs.due_at_begin.split_frames_worked.a_keyboard_stays_below.Goals as goal

pub returns-clause-below : goal.returns-clause-below
returns-clause-below c = keyboard_is_below

pub returns-clause-high : goal.returns-clause-high
returns-clause-high c = disk_is_high

pub returns-clause-stays : goal.returns-clause-stays
returns-clause-stays c = numbers_stay

pub returns-clause-counts : goal.returns-clause-counts
returns-clause-counts c = begin_counts
