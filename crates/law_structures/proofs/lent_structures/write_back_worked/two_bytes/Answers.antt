use Rattle.std.proofs.Common.{refl}
use Rattle.hc_copy.specs.Overlay.{moved}
use Rattle.law_structures.proofs.lemmas.lent_structures.WriteBackSampled.{can_be_written}
use Rattle.law_structures.proofs.lent_structures.write_back_worked.two_bytes.Goals as goal

pub returns : goal.returns
unfolding moved
returns c = record { can = can_be_written; head = refl; element = refl; buffer = refl; nothing = refl; others = refl }
