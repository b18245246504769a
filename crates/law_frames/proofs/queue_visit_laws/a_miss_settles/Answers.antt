use Rattle.law_frames.proofs.QueueBacks.{miss_settles, copy_misses, miss_halts}
use Rattle.law_frames.proofs.queue_visit_laws.a_miss_settles.Goals as goal

pub returns : goal.returns
returns c = record { settlement = miss_settles; copy = copy_misses; halts = miss_halts }
