use Rattle.law_microframes.proofs.lemmas.visits.BelongRows.{itd_words_stay}
use Rattle.law_microframes.proofs.visits.itds.itd_words_stay.Goals as goal

pub returns : goal.returns
returns c = itd_words_stay
