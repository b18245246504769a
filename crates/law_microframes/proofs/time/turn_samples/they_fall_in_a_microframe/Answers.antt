use Rattle.law_microframes.proofs.lemmas.time.TurnSampled.{they_fall, whole_is}
use Rattle.law_microframes.proofs.time.turn_samples.they_fall_in_a_microframe.Goals as goal

pub returns : goal.returns
returns c = record {
  whole = whole_is;
  before = they_fall.0;
  begun = they_fall.1;
  keyboard = they_fall.2;
  passed = they_fall.3;
  head = they_fall.4;
  disk = they_fall.5;
  passed_too = they_fall.6;
  over = they_fall.7;
}
