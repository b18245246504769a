use Rattle.law_scripts.proofs.lemmas.script_bytes.Texts.{a_text_spells_bytes}
use Rattle.law_scripts.proofs.script_bytes.laws.a_text_spells_bytes.Goals as goal

pub returns : goal.returns
returns c = a_text_spells_bytes
