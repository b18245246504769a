use Rattle.law_microframes.proofs.lemmas.time.HeadReading.{worlds_leave_reclamation}
use Rattle.law_microframes.proofs.time.heads.worlds_leave_reclamation.Goals as goal

pub returns : goal.returns
returns c = worlds_leave_reclamation
