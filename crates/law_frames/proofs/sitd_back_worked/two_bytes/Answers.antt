use Rattle.std.proofs.Common.{refl}
use Rattle.hc_masks.specs.Masks.{lacks}
use Rattle.hc_iso.specs.Sitd.{after_complete, moved_sitd}
use Rattle.law_frames.proofs.SitdBackSampled.{before, after, miss, received}
use Rattle.law_frames.proofs.sitd_back_worked.two_bytes.Goals as goal

pub returns : goal.returns
unfolding lacks after_complete moved_sitd
returns c = record { works = refl; misses = refl; before = before; after = after; settled = refl; received = received; counted = record { count = refl; left = refl }; bytes = refl; done = refl; miss = miss }
