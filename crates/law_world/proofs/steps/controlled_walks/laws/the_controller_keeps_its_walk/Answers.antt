use Rattle.law_world.proofs.lemmas.steps.lemmas.controlled_walks.Framing.{frame_doorbell}
use Rattle.law_world.proofs.lemmas.steps.lemmas.controlled_walks.Controlling.{control_walk, control_bell}
use Rattle.law_world.proofs.steps.controlled_walks.laws.the_controller_keeps_its_walk.Goals as goal

pub returns : goal.returns
returns g c = record {
  frame = frame_doorbell g.W.Wire.transacts;
  walk = control_walk g.W.Wire.begins g.W.Wire.transacts;
  bell = control_bell g.W.Wire.begins g.W.Wire.transacts;
}
