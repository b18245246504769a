use Rattle.script_load.proofs.Texts.{load_texts_have_no_fault}
use Rattle.script_load.proofs.laws.load_texts_have_no_fault.Goals as goal

pub returns : goal.returns
returns c = λ n. load_texts_have_no_fault n
