use Rattle.law_devices.proofs.lemmas.ring_requests.Asking.{first_shown, queue_advanced, second_shown}
use Rattle.law_devices.proofs.ring_requests.worked.memory_shows_the_second_behind_the_first.Goals as goal

pub returns : goal.returns
returns c = record { done = first_shown; advanced = queue_advanced; next = second_shown }
