use Rattle.std.proofs.Common.{◌≡◌, ℕ, Option, Some, None, refl}
use Rattle.std.specs.Fmt.{digits}
use Rattle.script_forms.specs.declared.causes.TextWhy.{TextWhy}
use Rattle.script_forms.specs.Syntax.{number_of, hex_of}
use Rattle.script_forms.specs.Fitting.{form_of}
use Rattle.script_forms.specs.Values.{statement_of}
use Rattle.script_text.specs.Reading.{script_read}
use Rattle.app_forms.proofs.worked.sound_inputs.Goals as goal

pub returns-clause-script : goal.returns-clause-script
unfolding script_read form_of number_of hex_of statement_of digits
returns-clause-script c = refl

none : (x : ℕ × TextWhy) → ◌≡◌ {A = Option (ℕ × TextWhy)} (Some x) None → ⊥
none x e = cc

pub returns-clause-faulty : goal.returns-clause-faulty
unfolding script_read form_of number_of hex_of statement_of digits
returns-clause-faulty c = λ h. none _ h
