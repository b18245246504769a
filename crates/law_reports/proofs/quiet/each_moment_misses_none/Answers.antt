use Rattle.law_reports.proofs.lemmas.quiet.Worlds.{new_world_misses_none, scripts_miss_none, texts_miss_none}
use Rattle.law_reports.proofs.quiet.each_moment_misses_none.Goals as goal

pub returns-clause-opening : goal.returns-clause-opening
returns-clause-opening c = new_world_misses_none

pub returns-clause-scripts : goal.returns-clause-scripts
returns-clause-scripts c = scripts_miss_none

pub returns-clause-texts : goal.returns-clause-texts
returns-clause-texts c = texts_miss_none
