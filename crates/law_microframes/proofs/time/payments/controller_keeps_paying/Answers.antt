use Rattle.law_microframes.proofs.lemmas.time.PaymentEvents.{controller_keeps_paying}
use Rattle.law_microframes.proofs.time.payments.controller_keeps_paying.Goals as goal

pub returns : goal.returns
returns c = controller_keeps_paying
