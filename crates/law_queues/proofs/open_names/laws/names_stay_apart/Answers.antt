use Rattle.law_queues.proofs.lemmas.open_names.Apart.{new_names_are_apart, names_stay_apart, accepted_names_are_apart}
use Rattle.law_queues.proofs.open_names.laws.names_stay_apart.Goals as goal

pub returns : goal.returns
returns c = record { new = new_names_are_apart; events = names_stay_apart; accepted = accepted_names_are_apart }
