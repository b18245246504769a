use Rattle.law_world.proofs.lemmas.steps.lemmas.controlled_walks.Worlds.{new_world_walks, controller_keeps_walking, driver_keeps_walking, command_keeps_walking}
use Rattle.law_world.proofs.steps.controlled_walks.laws.a_world_keeps_its_walk.Goals as goal

pub returns : goal.returns
returns c = record {
  new = new_world_walks;
  controller = controller_keeps_walking;
  driver = driver_keeps_walking;
  command =
      command_keeps_walking;
}
