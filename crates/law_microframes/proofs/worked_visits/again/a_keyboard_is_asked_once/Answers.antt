use Rattle.std.proofs.Common.{refl}
use Rattle.law_microframes.proofs.worked_visits.again.a_keyboard_is_asked_once.Goals as goal

pub returns-clause-complete : goal.returns-clause-complete
returns-clause-complete c = record { hub = 9; port = 1; split = refl; kind = refl; pid = refl }
