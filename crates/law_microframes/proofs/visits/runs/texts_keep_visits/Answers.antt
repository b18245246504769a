use Rattle.law_microframes.proofs.lemmas.visits.Together.{texts_keep_visits}
use Rattle.law_microframes.proofs.visits.runs.texts_keep_visits.Goals as goal

pub returns : goal.returns
returns c = texts_keep_visits
