use Rattle.law_microframes.proofs.lemmas.time.PaymentTimes.{texts_leave_the_rest}
use Rattle.law_microframes.proofs.time.payment_times.texts_leave_the_rest.Goals as goal

pub returns : goal.returns
returns c = texts_leave_the_rest
