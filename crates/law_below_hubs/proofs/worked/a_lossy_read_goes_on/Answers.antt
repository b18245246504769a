use Rattle.law_below_hubs.proofs.WorkedMoves.{moves_on, is_at_rest, working_breaks, opens, asked_alike, not_high}
use Rattle.law_below_hubs.proofs.worked.a_lossy_read_goes_on.Goals as goal

pub returns : goal.returns
returns c = record {
  moves = moves_on;
  rests = is_at_rest;
  working = working_breaks;
  opens = opens;
  alike = asked_alike;
  not_high = not_high;
}
