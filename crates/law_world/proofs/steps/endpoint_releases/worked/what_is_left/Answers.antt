use Rattle.std.proofs.Common.{refl}
use Rattle.word_mem.specs.Memory.{filled}
use Rattle.drv_table.specs.Releases.{free_qtds, free_transfers}
use Rattle.law_world.proofs.steps.endpoint_releases.worked.what_is_left.Goals as goal

pub returns-clause-slots : goal.returns-clause-slots
unfolding free_qtds free_transfers
returns-clause-slots c = refl

pub returns-clause-states : goal.returns-clause-states
unfolding free_qtds free_transfers filled
returns-clause-states c = refl
