use Rattle.law_descriptors.proofs.lemmas.frame_keeps.Sampled.{written_keeps}
use Rattle.law_descriptors.proofs.frame_keeps.worked.a_written_itd_keeps_its_fields.Goals as goal

pub returns : goal.returns
returns c = written_keeps
