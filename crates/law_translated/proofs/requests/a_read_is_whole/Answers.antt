use Rattle.law_translated.proofs.Reading.{read_kept, read_right}
use Rattle.law_translated.proofs.requests.a_read_is_whole.Goals as goal

pub returns : goal.returns
returns c = record { keeps = read_kept; right = read_right }
