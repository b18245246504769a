use Rattle.law_frames.proofs.Fetching.{cursor_is_read}
use Rattle.law_frames.proofs.fetch_laws.cursor_is_read.Goals as goal

pub returns : goal.returns
returns g c = cursor_is_read g.W.Wire.transacts
