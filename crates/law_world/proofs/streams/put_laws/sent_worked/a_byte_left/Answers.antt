use Rattle.law_world.proofs.lemmas.streams.lemmas.put_laws.SentSampling.{never_left, not_asked, not_met}
use Rattle.law_world.proofs.streams.put_laws.sent_worked.a_byte_left.Goals as goal

pub returns : goal.returns
returns c = record { out = never_left; into = not_asked; unmet = not_met }
