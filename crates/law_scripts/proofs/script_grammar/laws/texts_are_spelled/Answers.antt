use Rattle.std.proofs.Common.{◌≡◌, Ok, sym, ◌∙◌}
use Rattle.law_scripts.proofs.lemmas.script_grammar.Lines.{text_ok, text_spelled}
use Rattle.law_scripts.proofs.script_grammar.laws.texts_are_spelled.Goals as goal

pub returns-clause-reads : goal.returns-clause-reads
returns-clause-reads c = λ text s h. text_ok text s h

pub returns-clause-spells : goal.returns-clause-spells
returns-clause-spells c = λ text s h. text_spelled text s h

pub returns-clause-one : goal.returns-clause-one
returns-clause-one c = λ text s t h k. let e : Ok s ≡ Ok t = sym (text_spelled text s h) ∙ text_spelled text t k in cc
