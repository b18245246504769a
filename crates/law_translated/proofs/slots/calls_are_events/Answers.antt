use Rattle.law_translated.specs.InPipes.{in_halves}
use Rattle.law_translated.specs.OutPipes.{out_halves}
use Rattle.law_translated.specs.Windows.{window_halves}
use Rattle.law_translated.proofs.KeyEvents.{events_of}
use Rattle.law_translated.proofs.slots.calls_are_events.Goals as goal

pub returns : goal.returns
returns c = record {
  inward = λ f g. events_of in_halves f g;
  outward = λ f g. events_of out_halves f g;
  requests = λ e r f g. events_of (window_halves e r) f g;
}
