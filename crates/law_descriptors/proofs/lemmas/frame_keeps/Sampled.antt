-- The worked iTD keeps its fields.
use Rattle.std.proofs.Common.{ℕ, zero, suc, ◌<◌, [], ◌∷◌, slice_index, refl, arith}
use Rattle.law_structures.specs.lent_structures.WriteBack.{Into}
use Rattle.hc_iso.specs.Itd.{fetched_itd, after_in}
use Rattle.law_frames.specs.FrameEffects.{AreReceivedAt, itd_back, itd_parts}
use Rattle.law_frames.specs.PartSamples.{itd, bytes, pages, parts, moved}
use Rattle.law_descriptors.specs.frame_keeps.Kept.{KeepsParts}
use Rattle.law_descriptors.proofs.lemmas.frame_keeps.Backs.{itd_after_back, itd_back_keeps}

two_small : (i : ℕ) → slice_index (5 ∷ 6 ∷ []) i < 256
two_small (suc zero) = omega arith
two_small _ = omega arith

received : AreReceivedAt (parts 64) pages 192 (5 ∷ 6 ∷ []) (Into pages 192 bytes 0)
received = record { pages_are = refl; buffer = refl; place_is = refl; fits = omega arith; bytes = two_small }

pub written_keeps : KeepsParts parts (itd_parts parts moved (5 ∷ 6 ∷ []) (Into pages 192 bytes 0))
unfolding fetched_itd after_in
written_keeps = itd_back_keeps parts 64 pages 192 (5 ∷ 6 ∷ []) (Into pages 192 bytes 0) itd (itd_back moved) refl (itd_after_back itd moved.held) received
