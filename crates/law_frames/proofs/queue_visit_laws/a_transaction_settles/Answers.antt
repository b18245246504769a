use Rattle.law_frames.proofs.Making.{settles, copy_settles}
use Rattle.law_frames.proofs.queue_visit_laws.a_transaction_settles.Goals as goal

pub returns : goal.returns
returns c = record { settlement = settles; copy = copy_settles }
