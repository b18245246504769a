use Rattle.law_devices.proofs.lemmas.ring_requests.RestingSpared.{rest_is_spared, alone_is_spared, store_spares_rest, lend_spares_rest, release_spares_rest, link_spares_rest, mend_spares_rest, mended_rests}
use Rattle.law_devices.proofs.ring_requests.rest_laws.a_queue_at_rest_is_spared.Goals as goal

pub returns : goal.returns
returns c = record { rest = rest_is_spared; alone = alone_is_spared; store = store_spares_rest; lend = lend_spares_rest; release = release_spares_rest; link = link_spares_rest; mend = mend_spares_rest; mended = mended_rests }
