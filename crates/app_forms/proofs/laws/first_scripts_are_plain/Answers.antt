use Rattle.app_forms.proofs.FirstPlain.{first_scripts_are_plain}
use Rattle.app_forms.proofs.laws.first_scripts_are_plain.Goals as goal

pub returns : goal.returns
returns c = first_scripts_are_plain
