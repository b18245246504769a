use Rattle.law_devices.proofs.lemmas.request_stores.Storing.{lend_windows, idle_windows}
use Rattle.law_devices.proofs.lemmas.request_stores.Publishing.{last_windows}
use Rattle.law_devices.proofs.request_stores.laws.a_request_is_published.Goals as goal

pub returns : goal.returns
returns g c = record { lend = lend_windows; idle = idle_windows; last = last_windows }
