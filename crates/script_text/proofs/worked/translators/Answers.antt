use Rattle.std.proofs.Common.{refl}
use Rattle.std.specs.Fmt.{digits}
use Rattle.script_forms.specs.Syntax.{number_of, hex_of}
use Rattle.script_forms.specs.Fitting.{form_of}
use Rattle.script_forms.specs.Values.{statement_of}
use Rattle.script_text.specs.Reading.{script_read}
use Rattle.script_text.proofs.worked.translators.Goals as goal

pub returns : goal.returns
unfolding script_read form_of number_of hex_of statement_of digits
returns c = refl
