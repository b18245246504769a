use Rattle.law_devices.proofs.lemmas.request_calls.Making.{makes_one}
use Rattle.law_devices.proofs.request_calls.laws.a_transaction_is_one_of_the_request.Goals as goal

pub returns : goal.returns
returns g c device e r q l source out wire reply after bus works given goes_on here done = makes_one g.W.Wire.transacts device bus e r q l works source out given goes_on wire after reply here done
