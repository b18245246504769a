use Rattle.law_telling.proofs.Lengths.{no_bytes_is_wrong}
use Rattle.law_telling.proofs.worked.reasons_are_broken_by_lines_of_no_bytes.Goals as goal

pub returns : goal.returns
returns c = no_bytes_is_wrong
