use Rattle.tt_pipeline.proofs.Works.{works_turned}
use Rattle.law_translator.proofs.laws.the_work_is_an_event.Goals as goal

pub returns : goal.returns
returns g c = works_turned g.W.Wire.transacts
