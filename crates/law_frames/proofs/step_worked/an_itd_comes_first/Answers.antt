use Rattle.law_frames.proofs.PartSampled.{before_it}
use Rattle.law_frames.proofs.StepSampled.{first_fetch}
use Rattle.law_frames.proofs.step_worked.an_itd_comes_first.Goals as goal

pub returns : goal.returns
returns c = record { frame = before_it; kind = first_fetch }
