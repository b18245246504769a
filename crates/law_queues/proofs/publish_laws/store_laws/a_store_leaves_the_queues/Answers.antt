use Rattle.law_queues.proofs.lemmas.publish_laws.Storing.{store_publishes, store_stands}
use Rattle.law_queues.proofs.publish_laws.store_laws.a_store_leaves_the_queues.Goals as goal

pub returns : goal.returns
returns c = record { ring = store_publishes; stands = store_stands }
