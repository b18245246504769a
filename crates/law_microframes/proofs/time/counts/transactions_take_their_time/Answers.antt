use Rattle.law_microframes.proofs.lemmas.time.CountPrices.{prices_are_at_least, is_paid_where_made, are_made_few}
use Rattle.law_microframes.proofs.time.counts.transactions_take_their_time.Goals as goal

pub returns : goal.returns
returns c = record { prices = prices_are_at_least; paid = is_paid_where_made; few = are_made_few }
