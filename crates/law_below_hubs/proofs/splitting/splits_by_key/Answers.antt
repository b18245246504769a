use Rattle.law_below_hubs.proofs.SplitsBeside.{splits_by_key}
use Rattle.law_below_hubs.proofs.splitting.splits_by_key.Goals as goal

pub returns : goal.returns
returns c = splits_by_key
