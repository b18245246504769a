use Rattle.law_hearing.proofs.Samples.{silence}
use Rattle.law_hearing.proofs.worked.hearing_is_broken_by_silence.Goals as goal

pub returns : goal.returns
returns c = silence
