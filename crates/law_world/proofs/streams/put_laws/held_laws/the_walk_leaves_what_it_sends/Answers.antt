use Rattle.law_world.proofs.lemmas.streams.lemmas.put_laws.Walking.{walk_leaves_buffers, event_leaves_buffers, outs_ask_none}
use Rattle.law_world.proofs.streams.put_laws.held_laws.the_walk_leaves_what_it_sends.Goals as goal

pub returns : goal.returns
returns g c = record { walk = walk_leaves_buffers g.W.Wire.transacts; event = event_leaves_buffers g.W.Wire.begins g.W.Wire.transacts; outs = outs_ask_none }
