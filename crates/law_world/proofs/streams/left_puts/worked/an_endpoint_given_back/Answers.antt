use Rattle.std.proofs.Common.{refl}
use Rattle.law_world.proofs.lemmas.streams.lemmas.left_puts.Sampled.{release_rest}
use Rattle.law_world.proofs.streams.left_puts.worked.an_endpoint_given_back.Goals as goal

pub returns : goal.returns
returns g = record { leaves = record { here = refl; queued = refl; held = refl; first = refl; none_before = refl }; rest = release_rest; first = refl; second = refl }
