use Rattle.law_scripts.proofs.Texts.{a_text_numbers_what_it_opens}
use Rattle.law_scripts.proofs.laws.a_text_numbers_what_it_opens.Goals as goal

pub returns : goal.returns
returns c = a_text_numbers_what_it_opens
