use Rattle.law_frame_words.proofs.lemmas.frame_words.Steps.{frames_while_under_way}
use Rattle.law_frame_words.proofs.frame_words.laws.frames_while_under_way.Goals as goal

pub returns : goal.returns
returns c = frames_while_under_way
