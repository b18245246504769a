use Rattle.law_microframes.proofs.lemmas.time.HeadSampled.{its_reads}
use Rattle.law_microframes.proofs.time.head_samples.its_reads.Goals as goal

pub returns : goal.returns
returns c = its_reads
