use Rattle.law_descriptors.proofs.lemmas.frame_keeps.Following.{slots_still, bytes_still}
use Rattle.law_descriptors.proofs.frame_keeps.laws.descriptors_keep_their_bytes.Goals as goal

pub returns : goal.returns
returns c = record { itd = slots_still; sitd = bytes_still }
