use Rattle.law_devices.proofs.lemmas.request_stores.Waiting.{waits, stored, has_ended, rests}
use Rattle.law_devices.proofs.request_stores.worked.a_request_is_asked_from_rest_to_rest.Goals as goal

pub returns : goal.returns
returns c = record { waits = waits; stored = stored; ended = has_ended; rests = rests }
