use Rattle.std.proofs.Common.{refl}
use Rattle.std.specs.Fmt.{digits}
use Rattle.script_forms.specs.Syntax.{number_of, hex_of}
use Rattle.script_forms.specs.Fitting.{form_of}
use Rattle.script_forms.specs.Values.{statement_of}
use Rattle.script_forms.proofs.worked.bytes.Goals as goal

pub returns-clause-some : goal.returns-clause-some
unfolding number_of hex_of form_of statement_of digits
returns-clause-some c = refl

pub returns-clause-none : goal.returns-clause-none
unfolding number_of hex_of form_of statement_of digits
returns-clause-none c = refl

pub returns-clause-empty : goal.returns-clause-empty
unfolding number_of hex_of form_of statement_of digits
returns-clause-empty c = refl

pub returns-clause-odd : goal.returns-clause-odd
unfolding number_of hex_of form_of statement_of digits
returns-clause-odd c = refl

pub returns-clause-upper : goal.returns-clause-upper
unfolding number_of hex_of form_of statement_of digits
returns-clause-upper c = refl
