use Rattle.std.proofs.Common.{refl}
use Rattle.std.specs.Fmt.{digits}
use Rattle.script_forms.specs.Syntax.{number_of, hex_of}
use Rattle.script_forms.specs.Fitting.{form_of}
use Rattle.script_forms.specs.Values.{statement_of}
use Rattle.script_forms.proofs.worked.forms_of_words.Goals as goal

pub returns-clause-bulk : goal.returns-clause-bulk
unfolding number_of hex_of form_of statement_of digits
returns-clause-bulk c = refl

pub returns-clause-number_of_control : goal.returns-clause-number_of_control
unfolding number_of hex_of form_of statement_of digits
returns-clause-number_of_control c = refl

pub returns-clause-way_of_control : goal.returns-clause-way_of_control
unfolding number_of hex_of form_of statement_of digits
returns-clause-way_of_control c = refl

pub returns-clause-count : goal.returns-clause-count
unfolding number_of hex_of form_of statement_of digits
returns-clause-count c = refl

pub returns-clause-hex_or_fill : goal.returns-clause-hex_or_fill
unfolding number_of hex_of form_of statement_of digits
returns-clause-hex_or_fill c = refl

pub returns-clause-number : goal.returns-clause-number
unfolding number_of hex_of form_of statement_of digits
returns-clause-number c = refl

pub returns-clause-by : goal.returns-clause-by
unfolding number_of hex_of form_of statement_of digits
returns-clause-by c = refl

pub returns-clause-setup : goal.returns-clause-setup
unfolding number_of hex_of form_of statement_of digits
returns-clause-setup c = refl

pub returns-clause-multi : goal.returns-clause-multi
unfolding number_of hex_of form_of statement_of digits
returns-clause-multi c = refl

pub returns-clause-single : goal.returns-clause-single
unfolding number_of hex_of form_of statement_of digits
returns-clause-single c = refl

pub returns-clause-one_translator : goal.returns-clause-one_translator
unfolding number_of hex_of form_of statement_of digits
returns-clause-one_translator c = refl

pub returns-clause-no_ports : goal.returns-clause-no_ports
unfolding number_of hex_of form_of statement_of digits
returns-clause-no_ports c = refl

pub returns-clause-stuffed : goal.returns-clause-stuffed
unfolding number_of hex_of form_of statement_of digits
returns-clause-stuffed c = refl
