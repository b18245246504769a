-- Each event over both walks keeps structures, and what it leaves of memory.
use Rattle.std.proofs.Common.{◌≡◌, ◌≢◌, ℕ, Bool, true, false, List, ap, sym, ◌∙◌}
use Rattle.std.proofs.lemmas.Bool.{false≢true}
use Rattle.law_controller.proofs.Common.{frame_at}
use Rattle.usb_base.specs.declared.packets.Ask.{Ask}
use Rattle.usb_base.specs.declared.packets.Reply.{Reply}
use Rattle.hc_core.specs.Controller.{frame_place, walk_place}
use Rattle.law_controller.proofs.lemmas.lent_writes.Controlling.{each_event_of_the_controller_writes_lent_words}
use Rattle.law_controller.proofs.lemmas.aligned_copies.Controlling.{aligned_placed}
use Rattle.law_structures.specs.lent_structures.Structures.{StructureSets}
use Rattle.law_controller.specs.controlled_streams.Control.{a_microframe, a_step}
use Rattle.law_controller.specs.frame_control.Both.{of_ring, of_frame}
use Rattle.law_frames.proofs.Leaving.{frame_leaves}
use Rattle.law_controller.proofs.lemmas.frame_control.Staying.{ring_leaves}
use Rattle.law_descriptors.proofs.lemmas.frame_keeps.Framing.{frame_keeps}
use Rattle.law_descriptors.proofs.lemmas.frame_keeps.Ringing.{control_keeps}
use Rattle.law_descriptors.proofs.lemmas.frame_keeps.Words.{kept_is_left}
use Rattle.law_descriptors.specs.kept_frames.Laws.{EventsKeepBoth, EventsLeaveWords, RingLeavesFrames, FramesLeaveRing}

pub events_keep_both : {W : Type 0} (begins : W → ℕ → Bool → W → Type 0) (transacts : W → Ask → List ℕ → Reply → W → Type 0) → EventsKeepBoth begins transacts
events_keep_both begins transacts base member met parts hand frame c wire after now later frame_later k (of_ring effect nothing) =
    control_keeps begins transacts base member parts hand c wire after now later k.ring effect
events_keep_both begins transacts base member met parts hand frame c wire after now later frame_later k (of_frame w) =
    frame_keeps transacts met parts frame (frame_place c) wire after now frame_later w.kind (frame_at base member met parts hand frame c k w.part) w.effect

pub events_leave_words : {W : Type 0} (begins : W → ℕ → Bool → W → Type 0) (transacts : W → Ask → List ℕ → Reply → W → Type 0) → EventsLeaveWords begins transacts
events_leave_words begins transacts base member met parts hand frame c wire new after k aligned row e =
    kept_is_left parts e.now c.memory new.memory (each_event_of_the_controller_writes_lent_words begins transacts c wire new after (aligned_placed c aligned) row) k.ring.tells e.runs.ring.tells
    (events_keep_both begins transacts base member met parts hand frame c wire after e.now e.later e.frame_later k e.effect)

-- ---- each walk beside the other

apart_from : (member : ℕ → Bool) (n a : ℕ) → member n ≡ true → member a ≡ false → n ≢ a
apart_from member n a on off same = false≢true (sym off ∙ ap member (sym same) ∙ on)

pub ring_leaves_frames : {W : Type 0} (begins : W → ℕ → Bool → W → Type 0) (transacts : W → Ask → List ℕ → Reply → W → Type 0) → RingLeavesFrames begins transacts
ring_leaves_frames begins transacts base member met parts hand frame c wire after now later n kind k (a_microframe b) on = ap (λ (x : StructureSets). x n) b.parts_stay
ring_leaves_frames begins transacts base member met parts hand frame c wire after now later n kind k (a_step s) on =
    ring_leaves transacts base member parts hand (walk_place c) wire after now later s.kind n k.ring s.effect (λ a there same. apart_from member a n there (k.apart n kind on) (sym same))

pub frames_leave_ring : {W : Type 0} (transacts : W → Ask → List ℕ → Reply → W → Type 0) → FramesLeaveRing transacts
frames_leave_ring transacts base member met parts hand frame c wire after now later frame_later n k w on =
    frame_leaves transacts met parts c.control.frame frame wire after now frame_later w.kind n (k.walk w.part).in_hand w.effect (λ a kind there. apart_from member n a on (k.apart a kind there))
