use Rattle.law_ring.proofs.Tails.{tail_stays, last_is_tail, tail_moves}
use Rattle.law_ring.proofs.front_laws.a_queue_has_a_tail.Goals as goal

pub returns : goal.returns
returns c = record { stays = tail_stays; last = last_is_tail; moves = tail_moves }
