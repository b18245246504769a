use Rattle.law_frames.proofs.PartTurning.{turn_same, miss_same}
use Rattle.law_frames.proofs.part_laws.a_transaction_turns_a_sitd.Goals as goal

pub returns : goal.returns
returns c = record { transaction = turn_same; miss = miss_same }
