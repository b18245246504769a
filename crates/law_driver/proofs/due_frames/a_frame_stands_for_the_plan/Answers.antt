use Rattle.law_driver.proofs.lemmas.due_frames.Runs.{a_frame_stands_for_the_plan}
use Rattle.law_driver.proofs.due_frames.a_frame_stands_for_the_plan.Goals as goal

pub returns : goal.returns
returns c = a_frame_stands_for_the_plan
