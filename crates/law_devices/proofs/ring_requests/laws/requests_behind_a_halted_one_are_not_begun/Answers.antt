use Rattle.law_devices.proofs.lemmas.ring_requests.Windows.{requests_behind_a_halted_one_are_not_begun}
use Rattle.law_devices.proofs.ring_requests.laws.requests_behind_a_halted_one_are_not_begun.Goals as goal

pub returns : goal.returns
returns c = requests_behind_a_halted_one_are_not_begun
