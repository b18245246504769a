use Rattle.law_below_hubs.proofs.WorkedControl.{setup_is_in_turn, data_are_in_turn, out_of_turn_breaks, too_long_breaks, setup_stands, wrong_ask_breaks}
use Rattle.law_below_hubs.proofs.worked.a_read_is_in_turn.Goals as goal

pub returns : goal.returns
returns c = record {
  setup = setup_is_in_turn;
  moved = data_are_in_turn;
  breaks = out_of_turn_breaks;
  too_long = too_long_breaks;
  stands = setup_stands;
  wrong = wrong_ask_breaks;
}
