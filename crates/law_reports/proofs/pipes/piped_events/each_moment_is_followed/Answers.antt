use Rattle.law_reports.proofs.lemmas.pipes.FollowedMoments.{new_world_is_followed, scripts_are_followed, texts_are_followed}
use Rattle.law_reports.proofs.pipes.piped_events.each_moment_is_followed.Goals as goal

pub returns-clause-opening : goal.returns-clause-opening
returns-clause-opening c = new_world_is_followed

pub returns-clause-scripts : goal.returns-clause-scripts
returns-clause-scripts c = scripts_are_followed

pub returns-clause-texts : goal.returns-clause-texts
returns-clause-texts c = texts_are_followed
