use Rattle.law_frames.proofs.PartTurning.{its_place_moves_on}
use Rattle.law_frames.proofs.part_laws.its_place_moves_on.Goals as goal

pub returns : goal.returns
returns c = its_place_moves_on
