use Rattle.std.proofs.Common.{refl}
use Rattle.law_queues.proofs.lemmas.mended_heads.Sampled.{waits, moment}
use Rattle.law_queues.proofs.mended_heads.worked.a_stalled_queue_waits.Goals as goal

pub returns : goal.returns
returns c = record { waits = waits; moment = moment; row = refl; next = refl; last = refl; none = refl }
