-- What was just read is what stands there, and where nothing is met nothing is in hand.
use Rattle.std.proofs.Common.{◌≡◌, ℕ, List, None, refl}
use Rattle.law_frames.proofs.Common.{none_some}
use Rattle.usb_base.specs.declared.packets.Reply.{Reply}
use Rattle.qh_qtd.specs.declared.queue_head.Qh.{Qh}
use Rattle.law_structures.specs.lent_structures.Structures.{StructureSets}
use Rattle.law_ring.specs.Hand.{copied_queue}
use Rattle.law_frames.specs.Met.{AQueue, AnItd, ASitd}
use Rattle.law_frames.specs.FrameHand.{FrameHand, Nothing, OfQueue, OfSettled, OfItd, OfSitd, fetched_copy}
use Rattle.law_frames.specs.Frame.{IsInFrame}

pub what_is_fetched_is_what_stands : (a : ℕ) (q : Qh) → copied_queue (fetched_copy a q) ≡ q
what_is_fetched_is_what_stands a q = refl

pub where_nothing_is_met_nothing_is_in_hand : (parts : StructureSets) (got : List ℕ) (reply : Reply) (hand : FrameHand) → IsInFrame (λ a. None) parts got reply hand → hand ≡ Nothing
where_nothing_is_met_nothing_is_in_hand parts got reply Nothing k = refl
where_nothing_is_met_nothing_is_in_hand parts got reply (OfQueue c made) k = absurd (none_some AQueue k.on)
where_nothing_is_met_nothing_is_in_hand parts got reply (OfSettled c s made) k = absurd (none_some AQueue k.0.on)
where_nothing_is_met_nothing_is_in_hand parts got reply (OfItd c) k = absurd (none_some AnItd k.on)
where_nothing_is_met_nothing_is_in_hand parts got reply (OfSitd c) k = absurd (none_some ASitd k.on)
