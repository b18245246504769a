use Rattle.law_microframes.proofs.lemmas.visits.BelongFields.{new_heads_have_fields, controller_keeps_fields, driver_keeps_fields}
use Rattle.law_microframes.proofs.lemmas.visits.BelongCommands.{command_keeps_fields}
use Rattle.law_microframes.proofs.visits.belonging.the_fields_of_queue_heads_stand.Goals as goal

pub returns : goal.returns
returns c = record {
  new = new_heads_have_fields;
  controller = controller_keeps_fields;
  driver = driver_keeps_fields;
  commands =
      command_keeps_fields;
}
