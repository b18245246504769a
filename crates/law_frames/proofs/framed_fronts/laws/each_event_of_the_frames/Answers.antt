use Rattle.law_frames.proofs.lemmas.framed_fronts.Running.{links_kept, tail_kept, front_kept, halts_kept, halted_left}
use Rattle.law_frames.proofs.framed_fronts.laws.each_event_of_the_frames.Goals as goal

pub returns : goal.returns
returns g c = record {
  links = links_kept g.W.Wire.transacts;
  tail = tail_kept g.W.Wire.transacts;
  front = front_kept g.W.Wire.transacts;
  halts = halts_kept g.W.Wire.transacts;
  stays = halted_left g.W.Wire.transacts;
}
