use Rattle.law_opened.proofs.Declared.{texts_declare_streams}
use Rattle.law_opened.proofs.laws.texts_declare_streams.Goals as goal

pub returns : goal.returns
returns c = texts_declare_streams
