use Rattle.law_driver.proofs.lemmas.due_frames.Runs.{frames_stand_for_the_plan_at_each_moment}
use Rattle.law_driver.proofs.due_frames.frames_stand_for_the_plan_at_each_moment.Goals as goal

pub returns : goal.returns
returns c = frames_stand_for_the_plan_at_each_moment
