use Rattle.law_microframes.proofs.lemmas.time.PaymentEvents.{driver_keeps_paying}
use Rattle.law_microframes.proofs.time.payments.driver_keeps_paying.Goals as goal

pub returns : goal.returns
returns c = driver_keeps_paying
