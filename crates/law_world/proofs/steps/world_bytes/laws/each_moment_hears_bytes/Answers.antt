use Rattle.law_world.proofs.lemmas.steps.lemmas.world_bytes.Hearing.{moment_hears, text_hears}
use Rattle.law_world.proofs.steps.world_bytes.laws.each_moment_hears_bytes.Goals as goal

pub returns : goal.returns
returns c = record { script = moment_hears; text = text_hears }
