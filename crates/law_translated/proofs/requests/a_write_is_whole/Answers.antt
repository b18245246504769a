use Rattle.law_translated.proofs.Writing.{write_kept, write_right}
use Rattle.law_translated.proofs.requests.a_write_is_whole.Goals as goal

pub returns : goal.returns
returns c = record { keeps = write_kept; right = write_right }
