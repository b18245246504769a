-- The microframe of an iTD in hand has ended only where it is active in the copy, after each event of the controller (EHCI 1.0, 4.7.1).
use Rattle.std.proofs.Common.{◌≡◌, ℕ, Bool, true, false, if◌then◌else◌, List, Option, Some, None, ap, refl, sym, subst, ◌∙◌}
use Rattle.usb_base.specs.declared.packets.Ask.{Ask}
use Rattle.usb_base.specs.declared.packets.Reply.{Reply}
use Rattle.qh_qtd.specs.declared.queue_head.Qh.{Qh}
use Rattle.itd_sitd.specs.declared.itd.Itd.{Itd}
use Rattle.hc_iso.specs.declared.held.HeldItd.{HeldItd}
use Rattle.hc_iso.specs.declared.held.IsoEnd.{IsoEnd}
use Rattle.hc_iso.specs.declared.held.Heard.{Heard}
use Rattle.hc_iso.specs.declared.held.Heard.TheVariants.{Packet, TooLong, Wrong}
use Rattle.hc_iso.specs.Itd.{fetched_itd, heard_in, after_heard, after_in, after_out, itd_after}
use Rattle.hc_interrupt.specs.Copies.{goes_on}
use Rattle.async_walk.specs.declared.state.WalkStep.{WalkStep}
use Rattle.periodic_walk.specs.declared.state.Hand.TheVariants as hands
use Rattle.periodic_walk.specs.Walk.{Walk}
use Rattle.hc_core.specs.Controller.{Control}
use Rattle.bus_wire.specs.Bus.{Fixed}
use Rattle.bus_world.specs.World.{World, controller_next}
use Rattle.law_structures.specs.lent_structures.Structures.{StructureSets}
use Rattle.law_ring.specs.Hand.{Copy, Hand}
use Rattle.law_frames.specs.FrameHand.{FrameHand, Nothing, OfQueue, OfSettled, OfItd, OfSitd, frame_held, QueueSettlement, settled_in}
use Rattle.law_frames.specs.FrameEffects.{FrameEffect, fetches, passes, ends, takes, makes, writes, Fetches, MakesOne, WritesOne}
use Rattle.law_frames.specs.FrameEffects.{queue_written}
use Rattle.law_frames.specs.FrameEffects as effects
use Rattle.law_controller.specs.frame_control.Both.{BothEffect, of_ring, of_frame}
use Rattle.law_world.specs.memory.Mixed.{Standing, IsMixedAt}
use Rattle.law_world.specs.memory.Steps.{IsMixedControlled}
use Rattle.law_world.specs.memory.Owners.{EndsActive}
use Rattle.law_world.proofs.lemmas.memory.Controller.{controller_tells_event}

-- ---- a transaction leaves it active

heard_active : (x : Heard) (h : HeldItd) → h.slot.active ≡ true → (after_heard h x).slot.active ≡ true
heard_active (Packet k n) h active = active
heard_active TooLong h active = active
heard_active Wrong h active = active

in_active : (reply : Reply) (h : HeldItd) → h.slot.active ≡ true → (after_in h reply).slot.active ≡ true
unfolding after_in
in_active reply h active = heard_active (heard_in h reply) h active

out_active : (h : HeldItd) → h.slot.active ≡ true → (after_out h).slot.active ≡ true
unfolding after_out
out_active h active = active

after_active : (reply : Reply) (h : HeldItd) → h.slot.active ≡ true → (itd_after reply h).slot.active ≡ true
after_active reply h active = by h.itd.dir_in
  where
    by : (dir_in : Bool) → (if dir_in then after_in h reply else after_out h).slot.active ≡ true
    by true = in_active reply h active
    by false = out_active h active

fetched_none : (a u : ℕ) (v : Itd) → (fetched_itd a u v).ended ≡ None
unfolding fetched_itd
fetched_none a u v = refl

none_some : {X : Type 0} (o : Option X) (x : X) → o ≡ None → o ≡ Some x → ⊥
none_some o x none some = cc (none, some)

-- ---- an event

abbrev IsEndedActive : FrameHand → Type 0
IsEndedActive x = (h : HeldItd) (e : IsoEnd) → frame_held x ≡ Some (hands.Itd h) → h.ended ≡ Some e → h.slot.active ≡ true

nothing_active : IsEndedActive Nothing
nothing_active h e is ended = absurd (cc is)

queue_active : (c : Copy) (made : ℕ) → IsEndedActive (OfQueue c made)
queue_active c made h e is ended = absurd (cc is)

back_active : (on : Bool) (c : Copy) (made : ℕ) → IsEndedActive (if on then OfQueue c made else Nothing)
back_active true c made = queue_active c made
back_active false c made = nothing_active

itd_same : (g h : HeldItd) → Some (hands.Itd g) ≡ Some (hands.Itd h) → g ≡ h
itd_same g h is = cc is

fetched_active : (parts : StructureSets) (w : Walk) (later : FrameHand) → Fetches parts w later → IsEndedActive later
fetched_active parts w later (effects.of_queue f) = subst IsEndedActive (sym f.in_hand) (λ h e is ended. absurd (cc is))
fetched_active parts w later (effects.of_itd f) =
    subst IsEndedActive (sym f.in_hand)
    (λ h e is ended. absurd (none_some _ e (fetched_none f.at _ f.itd) (ap (λ (x : HeldItd). x.ended) (itd_same _ h is) ∙ ended)))
fetched_active parts w later (effects.of_sitd f) = subst IsEndedActive (sym f.in_hand) (λ h e is ended. absurd (cc is))

made_active : {W : Type 0} (transacts : W → Ask → List ℕ → Reply → W → Type 0) (parts : StructureSets) (w : Walk) (hand : FrameHand)
    (wire after : W) (later : FrameHand)
    → MakesOne transacts parts w hand wire after later → IsEndedActive later
made_active transacts parts w hand wire after later (effects.of_queue m) = subst IsEndedActive (sym m.later_is)
    (λ h e is ended. absurd (cc is))
made_active transacts parts w hand wire after later (effects.of_itd m) =
    subst IsEndedActive (sym m.later_is)
    (λ h e is ended. sym (ap (λ (x : HeldItd). x.slot.active) (itd_same _ h is)) ∙ after_active m.reply m.copy.held m.works)
made_active transacts parts w hand wire after later (effects.of_sitd m) = subst IsEndedActive (sym m.later_is)
    (λ h e is ended. absurd (cc is))

written_active : (parts : StructureSets) (w : Walk) (hand : FrameHand) (now : StructureSets) (later : FrameHand)
    → WritesOne parts w hand now later → IsEndedActive later
written_active parts w hand now later (effects.of_queue m) =
    subst IsEndedActive (sym m.later_is)
    (back_active (goes_on m.made (settled_in m.copy m.settled) m.settled.outcome)
    (record m.copy { queue = queue_written m.copy m.settled }) m.made)
written_active parts w hand now later (effects.of_itd m) = subst IsEndedActive (sym m.nothing) nothing_active
written_active parts w hand now later (effects.of_sitd m) = subst IsEndedActive (sym m.nothing) nothing_active

later_active : {W : Type 0} (transacts : W → Ask → List ℕ → Reply → W → Type 0) (parts : StructureSets) (w : Walk) (hand : FrameHand)
    (wire after : W) (now : StructureSets)
    (later : FrameHand) (kind : WalkStep) → FrameEffect transacts parts w hand wire after now later kind → IsEndedActive later
later_active transacts parts w hand wire after now later kind (fetches none f now_is same) = fetched_active parts w later f
later_active transacts parts w hand wire after now later kind (passes unsettled later_is now_is same) = subst IsEndedActive
    (sym later_is) nothing_active
later_active transacts parts w hand wire after now later kind (ends none later_is now_is same) = subst IsEndedActive
    (sym later_is) nothing_active
later_active transacts parts w hand wire after now later kind (takes t same) = subst IsEndedActive (sym t.later_is)
    (queue_active t.new t.made)
later_active transacts parts w hand wire after now later kind (makes m now_is) = made_active transacts parts w hand wire after later m
later_active transacts parts w hand wire after now later kind (writes m same) = written_active parts w hand now later m

both_active : {W : Type 0} (begins : W → ℕ → Bool → W → Type 0) (transacts : W → Ask → List ℕ → Reply → W → Type 0) (parts : StructureSets)
    (old : Control) (hand : Hand)
    (frame : FrameHand) (wire after : W) (now : StructureSets) (later : Hand) (frame_later : FrameHand)
    → BothEffect begins transacts parts old hand frame wire after now later frame_later → IsEndedActive frame_later
both_active begins transacts parts old hand frame wire after now later frame_later (of_ring e none) = subst IsEndedActive
    (sym none.1) nothing_active
both_active begins transacts parts old hand frame wire after now later frame_later (of_frame f) =
    later_active transacts parts old.frame frame wire after now frame_later f.kind f.effect

pub next_active : (fixed : Fixed) (s : Standing) (w : World) → IsMixedAt s w → EndsActive (controller_next fixed w).control
next_active fixed s w k h e part held ended =
    let c : IsMixedControlled fixed s w = controller_tells_event fixed s w k in
    let a = c.event in
    let walk = a.framed.framed.runs.walk part in
    both_active _ _ _ _ _ _ _ _ _ _ a.frame_later a.effect h e (sym walk.held ∙ held) ended
