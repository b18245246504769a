use Rattle.std.proofs.Common.{refl}
use Rattle.std.specs.Fmt.{digits}
use Rattle.script_forms.specs.Syntax.{number_of}
use Rattle.app_probe_cli.proofs.worked.numbers.Goals as goal

pub returns-clause-none : goal.returns-clause-none
unfolding number_of digits
returns-clause-none c = refl

pub returns-clause-some : goal.returns-clause-some
unfolding number_of digits
returns-clause-some c = refl

pub returns-clause-last : goal.returns-clause-last
unfolding number_of digits
returns-clause-last c = refl

pub returns-clause-large : goal.returns-clause-large
unfolding number_of digits
returns-clause-large c = refl

pub returns-clause-leading_zero : goal.returns-clause-leading_zero
unfolding number_of digits
returns-clause-leading_zero c = refl

pub returns-clause-sign : goal.returns-clause-sign
unfolding number_of digits
returns-clause-sign c = refl

pub returns-clause-no_word : goal.returns-clause-no_word
unfolding number_of digits
returns-clause-no_word c = refl

pub returns-clause-words : goal.returns-clause-words
unfolding number_of digits
returns-clause-words c = refl
