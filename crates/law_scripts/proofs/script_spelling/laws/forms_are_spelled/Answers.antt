use Rattle.std.proofs.Common.{◌≡◌, Ok, sym, ◌∙◌}
use Rattle.law_scripts.proofs.lemmas.script_spelling.Furthest.{read_is_form, form_is_read}
use Rattle.law_scripts.proofs.script_spelling.laws.forms_are_spelled.Goals as goal

pub returns-clause-reads : goal.returns-clause-reads
returns-clause-reads c = λ version first ws f e. read_is_form version first ws f e

pub returns-clause-spells : goal.returns-clause-spells
returns-clause-spells c = λ version first ws f h. form_is_read version first ws f h

pub returns-clause-one : goal.returns-clause-one
returns-clause-one c = λ version first ws f g h k.
    let e : Ok f ≡ Ok g = sym (form_is_read version first ws f h) ∙ form_is_read version first ws g k in cc
