use Rattle.std.proofs.Common.{refl}
use Rattle.std.specs.Fmt.{digits}
use Rattle.script_forms.specs.Syntax.{number_of, hex_of}
use Rattle.script_forms.specs.Fitting.{form_of}
use Rattle.script_forms.specs.Values.{statement_of}
use Rattle.script_text.specs.Reading.{script_read}
use Rattle.script_text.proofs.worked.causes.Goals as goal

pub returns-clause-byte : goal.returns-clause-byte
unfolding script_read form_of number_of hex_of statement_of digits
returns-clause-byte c = refl

pub returns-clause-version : goal.returns-clause-version
unfolding script_read form_of number_of hex_of statement_of digits
returns-clause-version c = refl

pub returns-clause-word : goal.returns-clause-word
unfolding script_read form_of number_of hex_of statement_of digits
returns-clause-word c = refl

pub returns-clause-unbuilt : goal.returns-clause-unbuilt
unfolding script_read form_of number_of hex_of statement_of digits
returns-clause-unbuilt c = refl

pub returns-clause-late : goal.returns-clause-late
unfolding script_read form_of number_of hex_of statement_of digits
returns-clause-late c = refl

pub returns-clause-count : goal.returns-clause-count
unfolding script_read form_of number_of hex_of statement_of digits
returns-clause-count c = refl

pub returns-clause-number : goal.returns-clause-number
unfolding script_read form_of number_of hex_of statement_of digits
returns-clause-number c = refl

pub returns-clause-hex : goal.returns-clause-hex
unfolding script_read form_of number_of hex_of statement_of digits
returns-clause-hex c = refl

pub returns-clause-range : goal.returns-clause-range
unfolding script_read form_of number_of hex_of statement_of digits
returns-clause-range c = refl

pub returns-clause-unknown : goal.returns-clause-unknown
unfolding script_read form_of number_of hex_of statement_of digits
returns-clause-unknown c = refl

pub returns-clause-twice : goal.returns-clause-twice
unfolding script_read form_of number_of hex_of statement_of digits
returns-clause-twice c = refl

pub returns-clause-limit : goal.returns-clause-limit
unfolding script_read form_of number_of hex_of statement_of digits
returns-clause-limit c = refl

pub returns-clause-before : goal.returns-clause-before
unfolding script_read form_of number_of hex_of statement_of digits
returns-clause-before c = refl

pub returns-clause-one_translator : goal.returns-clause-one_translator
unfolding script_read form_of number_of hex_of statement_of digits
returns-clause-one_translator c = refl
