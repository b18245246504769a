use Rattle.law_reports.proofs.lemmas.quiet.Sampled.{a_keyboard_misses}
use Rattle.law_reports.proofs.quiet.a_keyboard_may_miss.Goals as goal

pub returns : goal.returns
returns c = a_keyboard_misses
