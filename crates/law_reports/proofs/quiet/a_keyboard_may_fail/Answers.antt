use Rattle.law_reports.proofs.lemmas.quiet.HeardSampled.{a_keyboard_fails, no_disk_fails}
use Rattle.law_reports.proofs.quiet.a_keyboard_may_fail.Goals as goal

pub returns-clause-keyboard : goal.returns-clause-keyboard
returns-clause-keyboard c = a_keyboard_fails

pub returns-clause-disk : goal.returns-clause-disk
returns-clause-disk c = no_disk_fails
