use Rattle.std.proofs.Common.{refl}
use Rattle.law_world.proofs.lemmas.streams.lemmas.put_laws.SentSampling.{two_of_three}
use Rattle.law_world.proofs.streams.put_laws.sent_worked.what_is_found.Goals as goal

pub returns : goal.returns
returns c = record { moved = refl; ended = refl; short = two_of_three; stalled = tt; active = tt }
