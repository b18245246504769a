use Rattle.law_reports.proofs.lemmas.quiet.SparedSampled.{a_keyboard_is_told, no_stick_is_told, no_asker_is_told}
use Rattle.law_reports.proofs.quiet.a_stick_never_fails.Goals as goal

pub returns-clause-keyboard : goal.returns-clause-keyboard
returns-clause-keyboard c = a_keyboard_is_told

pub returns-clause-stick : goal.returns-clause-stick
returns-clause-stick c = no_stick_is_told

pub returns-clause-asker : goal.returns-clause-asker
returns-clause-asker c = no_asker_is_told
