use Rattle.std.proofs.Common.{refl}
use Rattle.std.specs.Fmt.{digits}
use Rattle.script_forms.specs.Syntax.{number_of, hex_of}
use Rattle.script_forms.specs.Fitting.{form_of}
use Rattle.script_forms.specs.Values.{statement_of}
use Rattle.script_forms.proofs.worked.numbers.Goals as goal

pub returns-clause-some : goal.returns-clause-some
unfolding number_of hex_of form_of statement_of digits
returns-clause-some c = refl

pub returns-clause-zero : goal.returns-clause-zero
unfolding number_of hex_of form_of statement_of digits
returns-clause-zero c = refl

pub returns-clause-last : goal.returns-clause-last
unfolding number_of hex_of form_of statement_of digits
returns-clause-last c = refl

pub returns-clause-none : goal.returns-clause-none
unfolding number_of hex_of form_of statement_of digits
returns-clause-none c = refl

pub returns-clause-leading_zero : goal.returns-clause-leading_zero
unfolding number_of hex_of form_of statement_of digits
returns-clause-leading_zero c = refl

pub returns-clause-sign : goal.returns-clause-sign
unfolding number_of hex_of form_of statement_of digits
returns-clause-sign c = refl

pub returns-clause-long : goal.returns-clause-long
unfolding number_of hex_of form_of statement_of digits
returns-clause-long c = refl
