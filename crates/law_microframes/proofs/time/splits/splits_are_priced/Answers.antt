use Rattle.law_microframes.proofs.lemmas.time.SplitCharged.{splits_are_priced}
use Rattle.law_microframes.proofs.time.splits.splits_are_priced.Goals as goal

pub returns : goal.returns
returns c = splits_are_priced
