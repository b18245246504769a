use Rattle.law_translated.proofs.WorkedPipes.{stale_entry}
use Rattle.law_translated.proofs.worked.a_told_entry_is_stale.Goals as goal

pub returns : goal.returns
returns c = stale_entry
