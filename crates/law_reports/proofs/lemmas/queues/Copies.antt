-- A copy of a queue head in hand has the overlay that stands in memory: with an unfinished transfer it has work too.
use Rattle.std.proofs.Common.{◌≡◌, ℕ, ◌*◌, Bool, false, List, slice_get, Option, Some, None, ap, sym, subst, ◌∙◌}
use Rattle.std.proofs.lemmas.Bool.{false≢true}
use Rattle.std.proofs.lemmas.Option.{same_Some}
use Rattle.usb_base.specs.declared.packets.Reply.{Reply}
use Rattle.link_words.specs.declared.fields.LinkBits.{LinkBits}
use Rattle.qh_qtd.specs.declared.queue_head.Qh.{Qh}
use Rattle.toggle_error.specs.declared.host.Outcome.{Outcome}
use Rattle.hc_copy.specs.declared.held.Held.{Held}
use Rattle.mem_queues.specs.Structures.{queue_head_at_address}
use Rattle.periodic_walk.specs.declared.state.Hand.{Hand as FramesHand}
use Rattle.periodic_walk.specs.declared.state.Hand.TheVariants as hands
use Rattle.periodic_walk.specs.declared.state.HeldQueue.{HeldQueue}
use Rattle.hc_core.specs.declared.controller.MicroframePart.TheVariants.{Periodic}
use Rattle.drv_table.specs.declared.content.Endpoint.{Endpoint}
use Rattle.drv_table.specs.Kinds.{is_iso}
use Rattle.drv_table.specs.Words.{is_control}
use Rattle.law_structures.specs.lent_structures.Structures.{QueueHead, StructureSets}
use Rattle.law_structures.proofs.lemmas.lent_structures.Reading.{head_read}
use Rattle.law_ring.specs.Hand.{Copy, copied_queue, settled_queue_of, Hand, Empty, Copied, Settled, Stale, held_of}
use Rattle.law_ring.specs.Ring.{IsInHand}
use Rattle.law_frames.specs.Met.{Kind}
use Rattle.law_frames.specs.Frame.{IsInFrame}
use Rattle.law_frames.specs.FrameHand.{FrameHand, Nothing, OfQueue, OfSettled, OfItd, OfSitd, frame_held, settled_in}
use Rattle.law_descriptors.specs.Both.{both}
use Rattle.law_descriptors.specs.Meeting.{met}
use Rattle.bus_world.specs.Budgets.{moment}
use Rattle.bus_world.specs.World.{World}
use Rattle.law_world.specs.memory.Mixed.{IsMixedWorld}
use Rattle.law_world.proofs.lemmas.memory.Together.{texts_stay_mixed}
use Rattle.claims_world.specs.Unfinished.{IsUnfinished, GoesOnToWork, works, goes_on, ComesToWork}
use Rattle.law_reports.specs.queues.OnwardLaws.{MixedCopiesComeToWork, TextsKeepCopiesAtWork, TextsKeepToWork}
use Rattle.law_reports.proofs.lemmas.queues.Coming.{texts_come_to_work}

none_settled : (outcome : Outcome) → ◌≡◌ {A = Option Outcome} (Some outcome) None → ⊥
none_settled outcome same = cc

module _ (w : World) (k : IsMixedWorld w) (comes : ComesToWork w) (e : ℕ) (x : Endpoint) (here : slice_get w.driver.endpoints e ≡ Some x)
    (iso : is_iso x.desc.kind ≡ false) (plain : is_control x.desc.kind ≡ false) (going : x.ended ≡ None)
    (u : IsUnfinished w.driver w.memory e) where
  abbrev parts : StructureSets
  parts = both k.standing.descs k.standing.parts

  abbrev meets : ℕ → Option Kind
  meets = met w.driver k.standing.recent

  -- its link and its count of NAKs tell nothing of its qTDs
  as_copied : (q : Qh) (link : LinkBits) (naks : ℕ) → GoesOnToWork w.memory q
      → GoesOnToWork w.memory (record q { link = link; nak_cnt = naks })
  as_copied q link naks (works on) = works on
  as_copied q link naks (goes_on a t off leads found on unhalted) = goes_on a t off leads found on unhalted

  copied : (c : Copy) → both k.standing.descs k.standing.parts c.at c.at ≡ Some (QueueHead c.queue) → c.at ≡ 32 * x.queue
      → (copied_queue c).token.halted ≡ false → GoesOnToWork w.memory (copied_queue c)
  copied c there at awake =
      let read : queue_head_at_address w.memory c.at ≡ Some c.queue =
      head_read w.memory parts c.at c.at c.queue k.mixed.now.framed.runs.ring.tells there in
      as_copied c.queue c.link c.naks
      (comes e x c.queue here iso plain going (ap (queue_head_at_address w.memory) (sym at) ∙ read) awake u)

  -- ---- of the walk of the ring

  abbrev RingHas : Held → Type 0
  RingHas h = h.at ≡ 32 * x.queue → h.settled ≡ None → h.queue_head.token.halted ≡ false → GoesOnToWork w.memory h.queue_head

  of_ring : (member : ℕ → Bool) (reply : Reply) (hand : Hand) (h : Held)
      → IsInHand member (both k.standing.descs k.standing.parts) reply hand → held_of hand ≡ Some h → RingHas h
  of_ring member reply Empty h in_hand is = absurd (cc)
  of_ring member reply (Copied c) h in_hand is =
      subst RingHas (same_Some (record { at = c.at; queue_head = copied_queue c; settled = None }) h is)
      (λ at none awake. copied c in_hand.here at awake)
  of_ring member reply (Settled c s) h in_hand is =
      let settled : ◌≡◌ {A = Option Outcome} (Some s.outcome) h.settled =
      ap (λ (g : Held). g.settled)
      (same_Some (record { at = c.at; queue_head = settled_queue_of c s; settled = Some s.outcome }) h is) in
      λ at none awake. absurd (none_settled s.outcome (settled ∙ none))
  of_ring member reply (Stale n q) h in_hand is =
      subst RingHas (same_Some (record { at = n; queue_head = q; settled = None }) h is)
      (λ at none awake. absurd (false≢true (sym awake ∙ in_hand.halted)))

  pub ring_has_work : (h : Held) → w.control.walk.held ≡ Some h → RingHas h
  ring_has_work h is =
      let ring = k.mixed.now.framed.runs.ring in
      of_ring k.standing.member w.control.walk.reply k.standing.hand h ring.in_hand (sym ring.held ∙ is)

  -- ---- of the walk of the frames

  abbrev FrameHas : HeldQueue → Type 0
  FrameHas h = h.copy.at ≡ 32 * x.queue → h.copy.settled ≡ None → h.copy.queue_head.token.halted ≡ false
      → GoesOnToWork w.memory h.copy.queue_head

  same_queue : (g h : HeldQueue) → ◌≡◌ {A = Option FramesHand} (Some (hands.Queue g)) (Some (hands.Queue h)) → g ≡ h
  same_queue g h same = cc

  of_frame : (got : List ℕ) (reply : Reply) (hand : FrameHand) (h : HeldQueue)
      → IsInFrame (met w.driver k.standing.recent) (both k.standing.descs k.standing.parts) got reply hand
      → frame_held hand ≡ Some (hands.Queue h) → FrameHas h
  of_frame got reply Nothing h in_hand is = absurd (cc)
  of_frame got reply (OfQueue c made) h in_hand is =
      subst FrameHas
      (same_queue (record { copy = record { at = c.at; queue_head = copied_queue c; settled = None }; made = made }) h is)
      (λ at none awake. copied c in_hand.here at awake)
  of_frame got reply (OfSettled c s made) h in_hand is =
      let settled : ◌≡◌ {A = Option Outcome} (Some s.outcome) h.copy.settled =
      ap (λ (g : HeldQueue). g.copy.settled)
      (same_queue (record { copy = record { at = c.at; queue_head = settled_in c s; settled = Some s.outcome }; made = made }) h is) in
      λ at none awake. absurd (none_settled s.outcome (settled ∙ none))
  of_frame got reply (OfItd c) h in_hand is = absurd (cc)
  of_frame got reply (OfSitd c) h in_hand is = absurd (cc)

  pub frame_has_work : (h : HeldQueue) → w.control.part ≡ Periodic → w.control.frame.hand ≡ Some (hands.Queue h) → FrameHas h
  frame_has_work h part is =
      let walk = k.mixed.now.framed.runs.walk part in
      of_frame w.control.frame.got w.control.frame.reply k.standing.frame h walk.in_hand (sym walk.held ∙ is)

pub mixed_copies_come_to_work : MixedCopiesComeToWork
mixed_copies_come_to_work w k comes = record {
  ring = λ e x h here iso plain going is at none awake u. ring_has_work w k comes e x here iso plain going u h is at none awake;
  frames = λ e x h here iso plain going part is at none awake u.
      frame_has_work w k comes e x here iso plain going u h part is at none awake;
}

pub texts_keep_copies_at_work : TextsKeepCopiesAtWork
texts_keep_copies_at_work text s spelled k =
    mixed_copies_come_to_work (moment s k).world (texts_stay_mixed text s spelled k) (texts_come_to_work text s spelled k)

pub texts_keep_to_work : TextsKeepToWork
texts_keep_to_work text s spelled =
    record { queues = texts_come_to_work text s spelled; copies = texts_keep_copies_at_work text s spelled }
