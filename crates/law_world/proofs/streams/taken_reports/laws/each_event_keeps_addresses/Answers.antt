use Rattle.law_world.proofs.lemmas.streams.lemmas.taken_reports.Turning.{microframe_keeps_addresses, transaction_keeps_addresses}
use Rattle.law_world.proofs.streams.taken_reports.laws.each_event_keeps_addresses.Goals as goal

pub returns-clause-microframe : goal.returns-clause-microframe
returns-clause-microframe c = microframe_keeps_addresses

pub returns-clause-transaction : goal.returns-clause-transaction
returns-clause-transaction c = transaction_keeps_addresses
