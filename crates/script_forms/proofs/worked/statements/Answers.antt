use Rattle.std.proofs.Common.{refl}
use Rattle.std.specs.Fmt.{digits}
use Rattle.script_forms.specs.Syntax.{number_of, hex_of}
use Rattle.script_forms.specs.Fitting.{form_of}
use Rattle.script_forms.specs.Values.{statement_of}
use Rattle.script_forms.proofs.worked.statements.Goals as goal

pub returns-clause-micro : goal.returns-clause-micro
unfolding number_of hex_of form_of statement_of digits
returns-clause-micro c = refl

pub returns-clause-hold : goal.returns-clause-hold
unfolding number_of hex_of form_of statement_of digits
returns-clause-hold c = refl

pub returns-clause-multi : goal.returns-clause-multi
unfolding number_of hex_of form_of statement_of digits
returns-clause-multi c = refl

pub returns-clause-epoch : goal.returns-clause-epoch
unfolding number_of hex_of form_of statement_of digits
returns-clause-epoch c = refl

pub returns-clause-clear : goal.returns-clause-clear
unfolding number_of hex_of form_of statement_of digits
returns-clause-clear c = refl
