use Rattle.law_reports.proofs.lemmas.requests.QueueChanging.{courses_spared}
use Rattle.law_reports.proofs.lemmas.requests.Writing.{store_spares, lend_spares, release_spares, link_spares}
use Rattle.law_reports.proofs.requests.queue_laws.queues_are_spared.Goals as goal

pub returns : goal.returns
returns g c = record { all = courses_spared; store = store_spares; lend = lend_spares; release = release_spares; link = link_spares }
