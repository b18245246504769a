use Rattle.law_microframes.proofs.lemmas.time.HeadSampled.{read_twice}
use Rattle.law_microframes.proofs.time.head_samples.the_head_is_read_twice.Goals as goal

pub returns : goal.returns
returns c = record { before = read_twice.0; first = read_twice.1; passed = read_twice.2; second = read_twice.3 }
