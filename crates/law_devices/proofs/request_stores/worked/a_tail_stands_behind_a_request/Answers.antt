use Rattle.law_devices.proofs.lemmas.request_stores.Asking.{one_laid}
use Rattle.law_devices.proofs.request_stores.worked.a_tail_stands_behind_a_request.Goals as goal

pub returns : goal.returns
returns c = one_laid
