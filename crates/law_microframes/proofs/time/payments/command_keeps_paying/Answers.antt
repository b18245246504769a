use Rattle.law_microframes.proofs.lemmas.time.PaymentEvents.{command_keeps_paying}
use Rattle.law_microframes.proofs.time.payments.command_keeps_paying.Goals as goal

pub returns : goal.returns
returns c = command_keeps_paying
