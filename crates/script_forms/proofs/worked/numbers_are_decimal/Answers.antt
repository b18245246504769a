use Rattle.script_forms.proofs.Decimals.{spelled_by, number_of_decimal}
use Rattle.script_forms.proofs.worked.numbers_are_decimal.Goals as goal

pub returns-clause-reads : goal.returns-clause-reads
returns-clause-reads c = λ w n h. spelled_by w n h

pub returns-clause-spells : goal.returns-clause-spells
returns-clause-spells c = λ n h. number_of_decimal n h
