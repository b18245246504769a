use Rattle.law_controller.proofs.lemmas.controlled_streams.Keeping.{kept_each_both}
use Rattle.law_controller.proofs.lemmas.controlled_streams.Events.{effect_keeps, control_keeps}
use Rattle.law_controller.proofs.controlled_streams.kept_laws.each_event_keeps_structures.Goals as goal

pub returns : goal.returns
returns g c = record {
  walk = effect_keeps g.W.Wire.transacts;
  controller = control_keeps g.W.Wire.begins g.W.Wire.transacts;
  both = kept_each_both;
}
