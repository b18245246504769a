use Rattle.law_descriptors.proofs.lemmas.frame_keeps.Following.{queues_kept, sorts_kept, extents_kept}
use Rattle.law_descriptors.proofs.frame_keeps.laws.what_is_kept.Goals as goal

pub returns : goal.returns
returns c = record { queues = queues_kept; sorts = sorts_kept; extents = extents_kept }
