use Rattle.law_world.proofs.lemmas.memory.lemmas.world_frames.Moments.{script_scheduled, text_scheduled}
use Rattle.law_world.proofs.memory.world_frames.laws.each_moment_keeps_the_schedule.Goals as goal

pub returns : goal.returns
returns c = record { script = script_scheduled; text = text_scheduled }
