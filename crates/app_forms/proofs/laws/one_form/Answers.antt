use Rattle.app_forms.proofs.Words.{forms_once}
use Rattle.app_forms.proofs.laws.one_form.Goals as goal

pub returns : goal.returns
returns c = forms_once
