use Rattle.law_microframes.proofs.lemmas.time.RepeatAnswers.{words_end_visits, silence_asks_again}
use Rattle.law_microframes.proofs.time.repeats.complete_splits_are_made_again_after_silence.Goals as goal

pub returns : goal.returns
returns c = record { words = words_end_visits; silence = silence_asks_again }
