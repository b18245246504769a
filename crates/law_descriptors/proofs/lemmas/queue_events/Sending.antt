-- The qTDs of an OUT endpoint are sent whole and in turn, at an event of either walk.
use Rattle.std.proofs.Common.{◌≡◌, ℕ, Bool, true, false, if◌then◌else◌, List, Option, Some, ap, refl, sym, subst, ◌∙◌}
use Rattle.std.proofs.lemmas.Bool.{true≢false}
use Rattle.usb_base.specs.declared.packets.Ask.{Ask}
use Rattle.usb_base.specs.declared.packets.Reply.{Reply}
use Rattle.qh_qtd.specs.declared.qtd.Qtd.{Qtd}
use Rattle.qh_qtd.specs.declared.queue_head.Qh.{Qh}
use Rattle.drv_table.specs.DriverContent.{DriverContent}
use Rattle.async_walk.specs.declared.state.WalkStep.{WalkStep}
use Rattle.periodic_walk.specs.Place.{FramePlace}
use Rattle.hc_core.specs.declared.controller.MicroframePart.TheVariants.{Periodic}
use Rattle.hc_core.specs.Controller.{Content, walk_place, frame_place}
use Rattle.law_structures.specs.lent_structures.Structures.{QueueHead, Element, Structures, StructureSets}
use Rattle.law_ring.specs.Hand.{Copy, Hand, Empty, Copied, Settled}
use Rattle.claims_base.specs.Controller.{Base}
use Rattle.law_ring.specs.QueueParts.{IsQueuePart}
use Rattle.law_ring.proofs.Keeping.{copied_unsettled}
use Rattle.law_ring.specs.Order.{IsSorted, IsAmong, Accounts}
use Rattle.law_ring.specs.OutPipes.{IsOut}
use Rattle.law_controller.specs.controlled_streams.Control.{ControlEffect, a_microframe, a_step}
use Rattle.law_frames.specs.Met.{Kind}
use Rattle.law_frames.specs.FrameHand.{QueueSettlement, came, settled_in, FrameHand, Nothing, queue_hand}
use Rattle.law_frames.specs.Frame.{IsFrame}
use Rattle.law_frames.specs.FrameEffects.{MakesOne, missed_settlement, IsSettledFrom, was_worked, was_missed, WritesQueue, WritesOne, of_queue, of_itd, of_sitd, FrameEffect}
use Rattle.law_frames.specs.FrameEffects.FrameEffect.{fetches, passes, ends, takes, makes, writes}
use Rattle.law_frames.proofs.Telling.{passed_unsettled, empty_is, fetched_unsettled, taken_there, asked, written_part, writes_copy, itd_leaves, sitd_leaves}
use Rattle.law_controller.specs.frame_control.Both.{RunsBoth, WalksFrames, BothEffect, of_ring, of_frame}
use Rattle.law_controller.specs.frame_control.Joined.{joined}
use Rattle.law_controller.proofs.lemmas.frame_control.Joining.{joined_frame}
use Rattle.law_queues.specs.whole_sends.Whole.{EndsWhole, AreSentWhole}
use Rattle.law_queues.proofs.lemmas.whole_sends.Walking.{with_hand, same_whole, unsettled_ends, asked_ends, take_sends, write_sends, whole_by}
use Rattle.law_descriptors.specs.Both.{owns, both, parts_now}
use Rattle.law_descriptors.specs.PartLaws.{IsDescribing}
use Rattle.law_descriptors.proofs.Standing.{both_off}
use Rattle.law_descriptors.proofs.Telling.{queue_off}
use Rattle.law_descriptors.specs.queue_events.Streams.{EventsSendWhole}

-- ---- an event of the walk of the frames

-- a microframe that was missed halts the queue head
missed_ends : (c : Copy) (n : ℕ) → EndsWhole (Settled c (came (missed_settlement c.queue))) n
missed_ends c n at off goes = absurd (true≢false goes)

module _ {W : Type 0} (transacts : W → Ask → List ℕ → Reply → W → Type 0) (met : ℕ → Option Kind) (parts : StructureSets)
    (hand : FrameHand) (p : FramePlace) (wire after : W) (now : StructureSets) (later : FrameHand) (frame : IsFrame met parts hand p)
    (order : ℕ → ℕ) (out : List ℕ) (n : ℕ) (q : Qh) (head : parts n n ≡ Some (QueueHead q)) (outs : IsOut (parts n))
    (sorted : IsSorted order out) (complete : (a : ℕ) (t : Qtd) → parts n a ≡ Some (Element t) → t.token.active ≡ true → IsAmong a out)
    (k : AreSentWhole order out (queue_hand hand) n (parts n)) where
  abbrev Whole : Type 0
  Whole = AreSentWhole order out (queue_hand later) n (now n)

  unmoved : now n ≡ parts n → EndsWhole (queue_hand later) n → Whole
  unmoved is ends_so = same_whole order out (queue_hand hand) (queue_hand later) n parts now is ends_so k

  emptied : queue_hand later ≡ Empty → EndsWhole (queue_hand later) n
  emptied is = unsettled_ends (queue_hand later) n (empty_is later is)

  made_one : MakesOne transacts parts p.walk hand wire after later → now ≡ parts → Whole
  made_one (of_queue r) all =
      unmoved (ap (λ (ps : StructureSets). ps n) all)
      (asked_ends transacts parts (queue_hand hand) wire after (queue_hand later) n outs
      (asked transacts met parts hand p wire after now later frame r))
  made_one (of_itd r) all = unmoved (ap (λ (ps : StructureSets). ps n) all) (emptied (ap queue_hand r.later_is))
  made_one (of_sitd r) all = unmoved (ap (λ (ps : StructureSets). ps n) all) (emptied (ap queue_hand r.later_is))

  module _ (r : WritesQueue parts p.walk hand now later) where
    as_settled : IsSettledFrom p.walk hand r.copy r.settled r.made → AreSentWhole order out (Settled r.copy (came r.settled)) n (parts n)
    as_settled (was_worked is) = subst (λ (h : Hand). AreSentWhole order out h n (parts n)) (ap queue_hand is) k
    as_settled (was_missed is turn missed_is) =
        with_hand order out (queue_hand hand) (Settled r.copy (came r.settled)) n (parts n)
        (subst (λ (z : QueueSettlement). EndsWhole (Settled r.copy (came z)) n) (sym missed_is) (missed_ends r.copy n)) k

    wrote_queue : Whole
    wrote_queue =
        write_sends parts (Settled r.copy (came r.settled)) now (queue_hand later) r.copy (came r.settled) (settled_in r.copy r.settled)
        (writes_copy transacts met parts hand p wire after now later frame r) order out n
        (written_part transacts met parts hand p wire after now later frame r) sorted complete (as_settled r.from)

  wrote : WritesOne parts p.walk hand now later → Whole
  wrote (of_queue r) = wrote_queue r
  wrote (of_itd r) = unmoved (itd_leaves transacts met parts hand p wire after now later frame r n q head)
      (emptied (ap queue_hand r.nothing))
  wrote (of_sitd r) = unmoved (sitd_leaves transacts met parts hand p wire after now later frame r n q head)
      (emptied (ap queue_hand r.nothing))

  frame_sends : (kind : WalkStep) → FrameEffect transacts parts p.walk hand wire after now later kind → Whole
  frame_sends _ (fetches none r all quiet) = unmoved (ap (λ (ps : StructureSets). ps n) all)
      (unsettled_ends (queue_hand later) n (fetched_unsettled parts p.walk later r))
  frame_sends _ (passes un nothing all quiet) = unmoved (ap (λ (ps : StructureSets). ps n) all) (emptied (ap queue_hand nothing))
  frame_sends _ (ends none nothing all quiet) = unmoved (ap (λ (ps : StructureSets). ps n) all) (emptied (ap queue_hand nothing))
  frame_sends _ (takes r quiet) =
      take_sends parts (Copied r.copy) now (Copied r.new) order out n r.takes
      (taken_there transacts met parts hand p wire after now later frame r) (queue_hand hand) (queue_hand later) k
      (unsettled_ends (queue_hand later) n (copied_unsettled (queue_hand later) r.new (ap queue_hand r.later_is)))
  frame_sends _ (makes r all) = made_one r all
  frame_sends _ (writes r quiet) = wrote r

-- ---- an event of either walk

module _ {W : Type 0} (begins : W → ℕ → Bool → W → Type 0) (transacts : W → Ask → List ℕ → Reply → W → Type 0) (base : Base)
    (member : ℕ → Bool) (met : ℕ → Option Kind) (parts : StructureSets) (hand : Hand) (frame : FrameHand) (c : Content) (wire after : W)
    (now : StructureSets) (later : Hand) (frame_later : FrameHand) (runs : RunsBoth base member met parts hand frame c)
    (order : ℕ → ℕ) (out : List ℕ) (n : ℕ) (q : Qh) (head : parts n n ≡ Some (QueueHead q)) (outs : IsOut (parts n))
    (sorted : IsSorted order out) (complete : (a : ℕ) (t : Qtd) → parts n a ≡ Some (Element t) → t.token.active ≡ true
    → IsAmong a out) where
  by_ring : ControlEffect begins transacts parts hand wire after now later → AreSentWhole order out hand n (parts n)
      → AreSentWhole order out later n (now n)
  by_ring (a_microframe b) k =
      subst (λ (h : Hand). AreSentWhole order out h n (now n)) (sym b.hand_stays)
      (subst (λ (ps : StructureSets). AreSentWhole order out hand n (ps n)) (sym b.parts_stay) k)
  by_ring (a_step w) k = whole_by transacts member parts hand (walk_place c).walk.reply wire after now later order out n runs.ring.members
      runs.ring.in_hand outs sorted complete k w.kind w.effect

  by_frame : WalksFrames transacts parts c.control hand frame wire after now later frame_later
      → AreSentWhole order out (joined hand frame) n (parts n) → AreSentWhole order out (joined later frame_later) n (now n)
  by_frame w k =
      let there : IsFrame met parts frame (frame_place c) = record
      { tells = runs.ring.tells; members = runs.members; walk = runs.walk w.part } in
      subst (λ (h : Hand). AreSentWhole order out h n (now n)) (sym (joined_frame later frame_later (w.hand_stays ∙ w.nothing)))
      (frame_sends transacts met parts frame (frame_place c) wire after now frame_later there order out n q head outs sorted complete
      (subst (λ (h : Hand). AreSentWhole order out h n (parts n)) (joined_frame hand frame w.nothing) k) w.kind w.effect)

  by_walk : BothEffect begins transacts parts c.control hand frame wire after now later frame_later
      → AreSentWhole order out (joined hand frame) n (parts n) → AreSentWhole order out (joined later frame_later) n (now n)
  by_walk (of_ring effect free) k =
      subst (λ (f : FrameHand). AreSentWhole order out (joined later f) n (now n)) (sym free.1)
      (by_ring effect (subst (λ (f : FrameHand). AreSentWhole order out (joined hand f) n (parts n)) free.0 k))
  by_walk (of_frame w) k = by_frame w k

-- of the queues
pub events_send_whole : {W : Type 0} (begins : W → ℕ → Bool → W → Type 0) (transacts : W → Ask → List ℕ → Reply → W → Type 0)
    → EventsSendWhole begins transacts
events_send_whole begins transacts base member met d descs parts hand frame c wire after now later frame_later describing runs effect order
    place out n told part outs acc k =
    let off : owns descs n ≡ false = queue_off d descs parts describing n n (QueueHead part.queue) part.here in
    let there : both descs parts n ≡ parts n = both_off descs parts n off in
    let now_is : parts_now descs parts now n ≡ now n = ap (λ (b : Bool). if b then parts n else now n) off in
    subst (AreSentWhole order out (joined later frame_later) n) (sym now_is)
    (by_walk begins transacts base member met (both descs parts) hand frame c wire after now later frame_later runs order out n part.queue
    (ap (λ (x : Structures). x n) there ∙ part.here) (subst IsOut (sym there) outs) acc.sorted
    (subst (λ (x : Structures). (a : ℕ) (t : Qtd) → x a ≡ Some (Element t) → t.token.active ≡ true → IsAmong a out)
    (sym there) acc.complete) effect
    (subst (AreSentWhole order out (joined hand frame) n) (sym there) k))
