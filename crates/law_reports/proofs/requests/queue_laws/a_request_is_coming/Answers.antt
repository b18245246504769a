use Rattle.law_reports.proofs.lemmas.requests.Coming.{lent_is_coming, store_keeps_coming, event_coming, coming_is_published}
use Rattle.law_reports.proofs.requests.queue_laws.a_request_is_coming.Goals as goal

pub returns : goal.returns
returns g c = record { lent = lent_is_coming; store = store_keeps_coming; event = event_coming g.W.Wire.begins g.W.Wire.transacts; published = coming_is_published }
