use Rattle.law_below_hubs.proofs.PlainAsks.{plain_asks_by_key}
use Rattle.law_below_hubs.proofs.splitting.plain_asks_by_key.Goals as goal

pub returns : goal.returns
returns c = plain_asks_by_key
