use Rattle.law_frames.proofs.Heard.{heard_keeps_copy}
use Rattle.law_frames.proofs.itd_step_laws.heard_keeps_copy.Goals as goal

pub returns : goal.returns
returns c = heard_keeps_copy
