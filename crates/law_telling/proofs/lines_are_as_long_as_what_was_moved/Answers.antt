use Rattle.law_telling.proofs.Lengths.{lengths_add_up, one_qtd_tells}
use Rattle.law_telling.proofs.lines_are_as_long_as_what_was_moved.Goals as goal

pub returns : goal.returns
returns c = record { all = lengths_add_up; one = one_qtd_tells }
