use Rattle.law_microframes.proofs.lemmas.translators.Promises.{entries_stay_owned}
use Rattle.law_microframes.proofs.translators.laws.entries_stay_owned.Goals as goal

pub returns : goal.returns
returns c = entries_stay_owned
