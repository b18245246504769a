use Rattle.law_microframes.proofs.lemmas.visits.BelongItds.{new_itds_stand, controller_keeps_itds}
use Rattle.law_microframes.proofs.visits.itds.the_controller_leaves_the_fields_of_itds.Goals as goal

pub returns : goal.returns
returns c = record { new = new_itds_stand; controller = controller_keeps_itds }
