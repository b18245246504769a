use Rattle.law_microframes.proofs.lemmas.visits.BelongMoments.{scripts_keep_fields}
use Rattle.law_microframes.proofs.visits.belonging.scripts_keep_fields.Goals as goal

pub returns : goal.returns
returns c = scripts_keep_fields
