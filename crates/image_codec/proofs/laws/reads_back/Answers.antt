use Rattle.image_codec.proofs.Spelled.{read_back}
use Rattle.image_codec.proofs.laws.reads_back.Goals as goal

pub returns : goal.returns
returns c = read_back
