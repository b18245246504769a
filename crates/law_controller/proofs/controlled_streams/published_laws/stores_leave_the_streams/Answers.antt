use Rattle.law_controller.proofs.lemmas.controlled_streams.Streams.{idle_store_leaves_reports, last_store_leaves_reports, store_pipes}
use Rattle.law_controller.proofs.controlled_streams.published_laws.stores_leave_the_streams.Goals as goal

pub returns : goal.returns
returns g c = record { idle = idle_store_leaves_reports; last = last_store_leaves_reports; pipes = store_pipes }
