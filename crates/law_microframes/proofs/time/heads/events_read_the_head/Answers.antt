use Rattle.law_microframes.proofs.lemmas.time.HeadReading.{events_read_the_head}
use Rattle.law_microframes.proofs.time.heads.events_read_the_head.Goals as goal

pub returns : goal.returns
returns c = events_read_the_head
