use Rattle.law_microframes.proofs.lemmas.time.TurnTexts.{scripts_keep_time}
use Rattle.law_microframes.proofs.time.turns_end.scripts_keep_time.Goals as goal

pub returns : goal.returns
returns c = scripts_keep_time
