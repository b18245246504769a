use Rattle.std.proofs.Common.{refl, arith}
use Rattle.std.specs.Fmt.{digits}
use Rattle.script_forms.specs.Syntax.{number_of, hex_of}
use Rattle.script_forms.specs.Fitting.{form_of}
use Rattle.script_forms.specs.Values.{statement_of}
use Rattle.script_text.specs.Reading.{script_read}
use Rattle.law_scripts.proofs.worked.highest.Goals as goal

pub returns-clause-spelled : goal.returns-clause-spelled
unfolding script_read form_of number_of hex_of statement_of digits
returns-clause-spelled c = refl

pub returns-clause-numbered : goal.returns-clause-numbered
returns-clause-numbered c = ((omega arith, omega arith), tt)
