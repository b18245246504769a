use Rattle.law_frames.proofs.Happening.{each_event_at_an_itd}
use Rattle.law_frames.proofs.itd_step_laws.each_event_at_an_itd.Goals as goal

pub returns : goal.returns
returns g c = each_event_at_an_itd g.W.Wire.transacts
