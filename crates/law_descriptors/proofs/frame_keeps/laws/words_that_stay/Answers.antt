use Rattle.law_descriptors.proofs.lemmas.frame_keeps.Words.{kept_is_left, some_left, rest_left}
use Rattle.law_descriptors.proofs.frame_keeps.laws.words_that_stay.Goals as goal

pub returns : goal.returns
returns c = record { all = kept_is_left; some = some_left; rest = rest_left }
