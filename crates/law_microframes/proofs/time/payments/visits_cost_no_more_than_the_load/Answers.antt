use Rattle.law_microframes.proofs.lemmas.time.PaymentMoments.{scripts_pay_within_load}
use Rattle.law_microframes.proofs.lemmas.time.PaymentTimes.{texts_pay_within_load}
use Rattle.law_microframes.proofs.time.payments.visits_cost_no_more_than_the_load.Goals as goal

pub returns : goal.returns
returns c = record { scripts = scripts_pay_within_load; texts = texts_pay_within_load }
