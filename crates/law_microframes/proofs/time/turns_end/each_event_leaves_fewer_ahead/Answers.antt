use Rattle.law_microframes.proofs.lemmas.time.TurnBegins.{never_idle}
use Rattle.law_microframes.proofs.lemmas.time.TurnTexts.{rows_lower}
use Rattle.law_microframes.proofs.time.turns_end.each_event_leaves_fewer_ahead.Goals as goal

pub returns : goal.returns
returns c = record { lowers = rows_lower; busy = never_idle }
