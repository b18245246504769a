use Rattle.law_microframes.proofs.lemmas.time.SplitMasked.{allowed_are_split}
use Rattle.law_microframes.proofs.time.splits.allowed_are_split.Goals as goal

pub returns : goal.returns
returns c = allowed_are_split
