use Rattle.law_frame_words.proofs.lemmas.frame_words.Steps.{one_store}
use Rattle.law_frame_words.proofs.frame_words.laws.each_store_keeps_the_words.Goals as goal

pub returns : goal.returns
returns c = λ p s word o sp h e. one_store p s word o.kept sp o.member h e
