use Rattle.law_world.proofs.lemmas.streams.lemmas.put_laws.Accepting.{put_is_held}
use Rattle.law_world.proofs.streams.put_laws.byte_laws.put_is_held.Goals as goal

pub returns : goal.returns
returns c = put_is_held
