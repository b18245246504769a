use Rattle.law_microframes.proofs.lemmas.time.PaymentTimes.{texts_are_in_time}
use Rattle.law_microframes.proofs.time.payment_times.texts_are_in_time.Goals as goal

pub returns : goal.returns
returns c = texts_are_in_time
