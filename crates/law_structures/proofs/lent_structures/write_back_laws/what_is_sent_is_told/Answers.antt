use Rattle.law_structures.proofs.lemmas.lent_structures.WrittenBack.{sent_is_told, nothing_is_sent}
use Rattle.law_structures.proofs.lent_structures.write_back_laws.what_is_sent_is_told.Goals as goal

pub returns : goal.returns
returns c = record { bytes = sent_is_told; nothing = nothing_is_sent }
