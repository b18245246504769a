use Rattle.law_world.proofs.lemmas.streams.lemmas.put_laws.Mends.{mend_is_in_head, mend_sends, mend_stops}
use Rattle.law_world.proofs.streams.put_laws.sent_laws.a_mend_sends_whole.Goals as goal

pub returns : goal.returns
returns c = record { place = mend_is_in_head; sends = mend_sends; stops = mend_stops }
