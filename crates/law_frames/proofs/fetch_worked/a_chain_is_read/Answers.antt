use Rattle.std.proofs.Common.{refl}
use Rattle.law_frames.proofs.PartSampled.{before_it}
use Rattle.law_frames.proofs.FetchSampled.{frame_last, itd_comes, itd_led}
use Rattle.law_frames.proofs.fetch_worked.a_chain_is_read.Goals as goal

pub returns : goal.returns
returns c = record { before = before_it; reads = itd_comes; leads = itd_led; at_end = frame_last; ends = refl; over = (refl, refl) }
