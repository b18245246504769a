-- The parts of which an event of the walk of the frames changes nothing: those of what isn't met.
use Rattle.std.proofs.Common.{◌≡◌, ◌≢◌, ℕ, List, Option, Some, None, ap, sym, subst, ◌∙◌}
use Rattle.law_frames.proofs.Common.{written_from}
use Rattle.usb_base.specs.declared.packets.Ask.{Ask}
use Rattle.usb_base.specs.declared.packets.Reply.{Reply}
use Rattle.hc_copy.specs.Overlay.{advanced}
use Rattle.hc_copy.specs.WriteBack.{moved_by}
use Rattle.hc_iso.specs.WriteBack.{sitd_received, moved_by as sitd_moved_by}
use Rattle.async_walk.specs.declared.state.WalkStep.{WalkStep}
use Rattle.periodic_walk.specs.Walk.{Walk}
use Rattle.law_structures.specs.lent_structures.Structures.{QueueHead, Isochronous, SplitIsochronous, StructureSets}
use Rattle.law_structures.proofs.lemmas.lent_structures.Names.{put_beside}
use Rattle.law_structures.specs.lent_structures.WriteBack.{received_parts}
use Rattle.law_structures.proofs.lemmas.lent_structures.Found.{received_beside, back_beside}
use Rattle.law_ring.specs.Hand.{Copy, Hand as RingHand, Empty, Copied, Settled, Stale}
use Rattle.law_ring.specs.Effects.{received_into}
use Rattle.law_frames.specs.Met.{Kind, AQueue, AnItd, ASitd}
use Rattle.law_frames.specs.FrameHand.{settled_in, ItdCopy, SitdCopy, FrameHand, OfQueue, OfItd, OfSitd}
use Rattle.law_frames.specs.Frame.{IsCopiedQueue, IsCopiedItd, IsCopiedSitd, IsInFrame}
use Rattle.law_frames.specs.FrameEffects.{itd_back, sitd_back, WritesOne, of_queue, of_itd, of_sitd, FrameEffect, fetches, passes, ends, makes, takes, writes}
use Rattle.law_frames.specs.Walks.{UnmetStays}
use Rattle.law_frames.proofs.QueueBacks.{hand_is_settled}

queue_on : (met : ℕ → Option Kind) (parts : StructureSets) (w : Walk) (hand : FrameHand) (c : Copy) (made : ℕ) → IsInFrame met parts w.got w.reply hand → hand ≡ OfQueue c made → met c.at ≡ Some AQueue
queue_on met parts w hand c made k is = let copied : IsCopiedQueue met parts c = subst (IsInFrame met parts w.got w.reply) is k in copied.on

itd_on : (met : ℕ → Option Kind) (parts : StructureSets) (w : Walk) (hand : FrameHand) (c : ItdCopy) → IsInFrame met parts w.got w.reply hand → hand ≡ OfItd c → met c.held.at ≡ Some AnItd
itd_on met parts w hand c k is = let copied : IsCopiedItd met parts w.got c = subst (IsInFrame met parts w.got w.reply) is k in copied.on

sitd_on : (met : ℕ → Option Kind) (parts : StructureSets) (w : Walk) (hand : FrameHand) (c : SitdCopy) → IsInFrame met parts w.got w.reply hand → hand ≡ OfSitd c → met c.held.at ≡ Some ASitd
sitd_on met parts w hand c k is = let copied : IsCopiedSitd met parts w.reply c = subst (IsInFrame met parts w.got w.reply) is k in copied.on

-- where a copy was read
abbrev address : RingHand → ℕ
address Empty = 0
address (Copied c) = c.at
address (Settled c s) = c.at
address (Stale n q) = n

write_leaves : (met : ℕ → Option Kind) (parts : StructureSets) (w : Walk) (hand : FrameHand) (now : StructureSets) (later : FrameHand) (n : ℕ)
    → IsInFrame met parts w.got w.reply hand → WritesOne parts w hand now later → ((a : ℕ) (kind : Kind) → met a ≡ Some kind → n ≢ a) → now n ≡ parts n
write_leaves met parts w hand now later n k (of_queue r) other =
    ap (λ (x : StructureSets). x n) r.now_is
    ∙ back_beside parts r.copy.at r.copy.at r.copy.queue (settled_in r.copy r.settled) (moved_by r.settled.outcome) r.settled.got (received_into (parts r.copy.at) r.copy.queue r.element r.settled.got) r.element n
    (other r.copy.at AQueue (hand_is_settled met parts w hand r.copy r.settled r.made k r.from).0.on)
write_leaves met parts w hand now later n k (of_itd r) other =
    let differs = other r.copy.held.at AnItd (itd_on met parts w hand r.copy k r.in_hand) in
    ap (λ (x : StructureSets). x n) r.now_is
    ∙ put_beside (received_parts parts r.copy.held.at w.got r.into) r.copy.held.at r.copy.held.at (Isochronous (itd_back r.copy)) n differs
    ∙ received_beside parts r.copy.held.at w.got r.into n differs
write_leaves met parts w hand now later n k (of_sitd r) other =
    let differs : n ≢ r.back.held.at = subst (λ (a : ℕ). n ≢ a) (sym (written_from w r.copy r.back r.written)) (other r.copy.held.at ASitd (sitd_on met parts w hand r.copy k r.in_hand)) in
    let got = sitd_received r.back.held.sitd.dir_in r.outcome w.reply in
    ap (λ (x : StructureSets). x n) r.now_is
    ∙ put_beside (received_parts parts r.back.held.at got r.into) r.back.held.at r.back.held.at (SplitIsochronous (sitd_back r.back (sitd_moved_by r.outcome))) n differs
    ∙ received_beside parts r.back.held.at got r.into n differs

pub frame_leaves : {W : Type 0} (transacts : W → Ask → List ℕ → Reply → W → Type 0) (met : ℕ → Option Kind) (parts : StructureSets) (w : Walk) (hand : FrameHand) (wire after : W) (now : StructureSets) (later : FrameHand) (kind : WalkStep) (n : ℕ)
    → IsInFrame met parts w.got w.reply hand → FrameEffect transacts parts w hand wire after now later kind → ((a : ℕ) (k : Kind) → met a ≡ Some k → n ≢ a) → now n ≡ parts n
frame_leaves transacts met parts w hand wire after now later _ n k (fetches none r same quiet) other = ap (λ (x : StructureSets). x n) same
frame_leaves transacts met parts w hand wire after now later _ n k (passes r nothing same quiet) other = ap (λ (x : StructureSets). x n) same
frame_leaves transacts met parts w hand wire after now later _ n k (ends none nothing same quiet) other = ap (λ (x : StructureSets). x n) same
frame_leaves transacts met parts w hand wire after now later _ n k (makes r same) other = ap (λ (x : StructureSets). x n) same
frame_leaves transacts met parts w hand wire after now later _ n k (takes r quiet) other =
    let differs : n ≢ r.takes.copy.at = subst (λ (a : ℕ). n ≢ a) (ap address r.takes.in_hand) (other r.copy.at AQueue (queue_on met parts w hand r.copy r.made k r.in_hand)) in
    ap (λ (x : StructureSets). x n) r.takes.now_is
    ∙ put_beside parts r.takes.copy.at r.takes.copy.at (QueueHead (advanced r.takes.copy.queue r.takes.element r.takes.qtd)) n differs
frame_leaves transacts met parts w hand wire after now later _ n k (writes r quiet) other = write_leaves met parts w hand now later n k r other

not_met : (met : ℕ → Option Kind) (n : ℕ) → met n ≡ None → (a : ℕ) (kind : Kind) → met a ≡ Some kind → n ≢ a
not_met met n other a kind on same = let e : None ≡ Some kind = sym other ∙ ap met same ∙ on in cc

pub unmet_stays : {W : Type 0} (transacts : W → Ask → List ℕ → Reply → W → Type 0) → UnmetStays transacts
unmet_stays transacts met parts hand p wire after now later kind k effect n other = frame_leaves transacts met parts p.walk hand wire after now later kind n k.walk.in_hand effect (not_met met n other)
