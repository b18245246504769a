-- Either walk leaves the buffers of a queue head whose active qTDs are OUTs: nothing is received into them.
use Rattle.std.proofs.Common.{◌≡◌, ◌≢◌, ℕ, Bool, false, if◌then◌else◌, Option, List, [], Some, ap, sym, subst, ◌∙◌, ⊎_elim}
use Rattle.std.proofs.lemmas.Bool.{cases_eq}
use Rattle.law_world.proofs.Common.{same_buffers}
use Rattle.usb_base.specs.declared.packets.Ask.{Ask}
use Rattle.usb_base.specs.declared.packets.Pid.TheVariants as pids
use Rattle.usb_base.specs.declared.packets.Reply.{Reply}
use Rattle.qh_qtd.specs.declared.queue_head.Qh.{Qh}
use Rattle.hc_copy.specs.Overlay.{advanced, moved}
use Rattle.hc_copy.specs.Planning.{pid_at}
use Rattle.hc_copy.specs.WriteBack.{moved_by}
use Rattle.async_walk.specs.declared.state.WalkStep.{WalkStep}
use Rattle.periodic_walk.specs.Place.{FramePlace}
use Rattle.hc_core.specs.Controller.{Content, walk_place, frame_place}
use Rattle.claims_base.specs.Controller.{Base}
use Rattle.law_structures.specs.lent_structures.Structures.{QueueHead, Element, Buffer, Structures, StructureSets, put}
use Rattle.law_structures.specs.lent_structures.Changes.{relinked}
use Rattle.law_structures.specs.lent_structures.Sound.{IsWorking, IsSoundQueue}
use Rattle.law_structures.specs.lent_structures.WriteBack.{qtd_after, parts_back}
use Rattle.law_structures.proofs.lemmas.lent_structures.Altering.{found_queue, no_two}
use Rattle.law_structures.proofs.lemmas.lent_structures.Found.{back_beside}
use Rattle.law_structures.proofs.lemmas.lent_structures.Names.{put_beside, put_else}
use Rattle.law_ring.specs.Hand.{Copy, Hand, Settlement, Settled}
use Rattle.law_ring.specs.Ring.{IsSettled}
use Rattle.law_ring.specs.Effects.{received_into}
use Rattle.law_ring.specs.OutPipes.{IsOut}
use Rattle.law_ring.specs.QueueParts.{IsQueuePart}
use Rattle.law_ring.proofs.Written.{WritesCopy}
use Rattle.law_controller.specs.controlled_streams.Control.{ControlEffect, a_microframe, a_step}
use Rattle.law_controller.specs.frame_control.Both.{RunsBoth, BothEffect, of_ring, of_frame}
use Rattle.law_frames.specs.Met.{Kind}
use Rattle.law_frames.specs.Frame.{IsInFrame, IsFrame}
use Rattle.law_frames.specs.FrameHand.{QueueSettlement, came, settled_in, FrameHand, queue_hand}
use Rattle.law_frames.specs.FrameEffects.{TakesOne, IsSettledFrom, was_worked, was_missed, WritesQueue, WritesOne}
use Rattle.law_frames.specs.FrameEffects.{of_queue, of_itd, of_sitd, FrameEffect}
use Rattle.law_frames.specs.FrameEffects.FrameEffect.{fetches, passes, ends, takes, makes, writes}
use Rattle.law_frames.proofs.Telling.{taken_there, written_part, writes_copy, itd_leaves, sitd_leaves}
use Rattle.law_descriptors.specs.Both.{owns, both, parts_now}
use Rattle.law_descriptors.proofs.Standing.{both_off}
use Rattle.law_world.specs.streams.put_laws.Rings.{BuffersStay}
use Rattle.law_world.proofs.lemmas.streams.lemmas.put_laws.Walking.{outs_ask_none, walk_leaves_buffers}

no_in : (code : ℕ) → code ≡ 0 → pid_at code ≢ pids.In
no_in code zero is = out_in (sym (ap pid_at zero) ∙ is)
  where
    out_in : pids.Out ≡ pids.In → ⊥
    out_in e = cc

-- ---- a transaction is written back

module _ (parts : StructureSets) (hand : Hand) (now : StructureSets) (later : Hand) (c : Copy) (z : Settlement) (x : Qh)
    (w : WritesCopy parts hand now later c z x) (part : IsQueuePart c.at (parts c.at)) (got : IsOut (parts c.at) → z.got ≡ []) (n : ℕ)
    (outs : IsOut (parts n)) where
  back : List ℕ → StructureSets
  back bytes = parts_back parts c.at c.at c.queue x (moved_by z.outcome) bytes (received_into (parts c.at) c.queue w.element bytes)
      w.element

  back_itself : n ≡ c.at → (a : ℕ) (pages : List ℕ) (k : ℕ) (bs : List ℕ) → parts n a ≡ Some (Buffer pages k bs)
      → back z.got n a ≡ Some (Buffer pages k bs)
  unfolding back
  back_itself is a pages k bs here =
      let there : parts c.at a ≡ Some (Buffer pages k bs) = ap (λ (i : ℕ). parts i a) (sym is) ∙ here in
      let none : z.got ≡ [] = got (subst (λ (i : ℕ). IsOut (parts i)) is outs) in
      let head = QueueHead (relinked c.queue (moved x (moved_by z.outcome))) in
      let beside_head : a ≢ c.at = no_two (parts c.at) a c.at (Buffer pages k bs) (QueueHead c.queue) there w.head (λ e. cc) in
      let beside_element : a ≢ x.current =
      λ same. no_two (parts c.at) a c.queue.current (Buffer pages k bs) (Element w.element) there w.here (λ e. cc)
      (same ∙ w.settled.current) in
      ap (λ (bytes : List ℕ). back bytes n a) none ∙ ap (λ (i : ℕ). back [] i a) is
      ∙ put_else (put parts c.at c.at head) c.at x.current (Element (qtd_after (moved x (moved_by z.outcome)) w.element)) a beside_element
      ∙ put_else parts c.at c.at head a beside_head ∙ there

  pub back_leaves : BuffersStay (parts n) (now n)
  unfolding back
  back_leaves a pages k bs here =
      ap (λ (ps : StructureSets). ps n a) w.now_is
      ∙ ⊎_elim (λ (is : n ≡ c.at). back_itself is a pages k bs here)
      (λ (differs : n ≢ c.at).
      ap (λ (p : Structures). p a) (back_beside parts c.at c.at c.queue x (moved_by z.outcome) z.got
      (received_into (parts c.at) c.queue w.element z.got) w.element n differs) ∙ here)
      (cases_eq n c.at)

-- ---- an event of the walk of the frames

module _ {W : Type 0} (transacts : W → Ask → List ℕ → Reply → W → Type 0) (met : ℕ → Option Kind) (parts : StructureSets)
    (hand : FrameHand) (p : FramePlace) (wire after : W) (now : StructureSets) (later : FrameHand) (frame : IsFrame met parts hand p)
    (n : ℕ) (q : Qh) (head : parts n n ≡ Some (QueueHead q)) (outs : IsOut (parts n)) where
  -- where a qTD is taken, its queue head's overlay is written
  taking : TakesOne parts hand now later → BuffersStay (parts n) (now n)
  taking r a pages k bs here =
      let t = r.takes in
      let new = QueueHead (advanced t.copy.queue t.element t.qtd) in
      ap (λ (ps : StructureSets). ps n a) t.now_is
      ∙ ⊎_elim
      (λ (is : n ≡ t.copy.at).
      let other : a ≢ t.copy.at =
      no_two (parts t.copy.at) a t.copy.at (Buffer pages k bs) (QueueHead t.copy.queue) (ap (λ (i : ℕ). parts i a) (sym is) ∙ here)
      (taken_there transacts met parts hand p wire after now later frame r) (λ e. cc) in
      ap (λ (i : ℕ). put parts t.copy.at t.copy.at new i a) is ∙ put_else parts t.copy.at t.copy.at new a other
      ∙ ap (λ (i : ℕ). parts i a) (sym is) ∙ here)
      (λ (differs : n ≢ t.copy.at). ap (λ (x : Structures). x a) (put_beside parts t.copy.at t.copy.at new n differs) ∙ here)
      (cases_eq n t.copy.at)

  module _ (r : WritesQueue parts p.walk hand now later) where
    -- what an OUT came to has no bytes
    none_got : IsSettledFrom p.walk hand r.copy r.settled r.made → IsOut (parts r.copy.at) → (came r.settled).got ≡ []
    none_got (was_worked is) are =
        let both = subst (IsInFrame met parts p.walk.got p.walk.reply) is frame.walk.in_hand in
        let s : IsSettled r.copy.queue p.walk.reply (came r.settled) = both.1.came_to in
        let part : IsQueuePart r.copy.at (parts r.copy.at) = written_part transacts met parts hand p wire after now later frame r in
        let sound : IsSoundQueue (parts r.copy.at) r.copy.queue =
        subst (IsSoundQueue (parts r.copy.at)) (found_queue (parts r.copy.at r.copy.at) part.queue r.copy.queue part.here both.0.here)
        part.sound in
        let work : IsWorking (parts r.copy.at) r.copy.queue = sound.work s.works in
        s.bytes.none (no_in r.copy.queue.token.pid (work.pid ∙ are r.copy.queue.current work.element work.here work.published))
    none_got (was_missed is turn missed) are = ap (λ (z : QueueSettlement). z.got) missed

    writing : BuffersStay (parts n) (now n)
    writing =
        back_leaves parts (Settled r.copy (came r.settled)) now (queue_hand later) r.copy (came r.settled) (settled_in r.copy r.settled)
        (writes_copy transacts met parts hand p wire after now later frame r)
        (written_part transacts met parts hand p wire after now later frame r) (none_got r.from) n outs

  wrote : WritesOne parts p.walk hand now later → BuffersStay (parts n) (now n)
  wrote (of_queue r) = writing r
  wrote (of_itd r) = same_buffers (parts n) (now n) (itd_leaves transacts met parts hand p wire after now later frame r n q head)
  wrote (of_sitd r) = same_buffers (parts n) (now n) (sitd_leaves transacts met parts hand p wire after now later frame r n q head)

  frame_leaves : (kind : WalkStep) → FrameEffect transacts parts p.walk hand wire after now later kind → BuffersStay (parts n) (now n)
  frame_leaves _ (fetches none r all quiet) = same_buffers (parts n) (now n) (ap (λ (ps : StructureSets). ps n) all)
  frame_leaves _ (passes un nothing all quiet) = same_buffers (parts n) (now n) (ap (λ (ps : StructureSets). ps n) all)
  frame_leaves _ (ends none nothing all quiet) = same_buffers (parts n) (now n) (ap (λ (ps : StructureSets). ps n) all)
  frame_leaves _ (takes r quiet) = taking r
  frame_leaves _ (makes r all) = same_buffers (parts n) (now n) (ap (λ (ps : StructureSets). ps n) all)
  frame_leaves _ (writes r quiet) = wrote r

-- ---- an event of either walk

module _ {W : Type 0} (begins : W → ℕ → Bool → W → Type 0) (transacts : W → Ask → List ℕ → Reply → W → Type 0) (base : Base)
    (member : ℕ → Bool) (met : ℕ → Option Kind) (parts : StructureSets) (hand : Hand) (frame : FrameHand) (c : Content) (wire after : W)
    (now : StructureSets) (later : Hand) (frame_later : FrameHand) (runs : RunsBoth base member met parts hand frame c) (n : ℕ) (q : Qh)
    (head : parts n n ≡ Some (QueueHead q)) (outs : IsOut (parts n)) where
  by_ring : ControlEffect begins transacts parts hand wire after now later → BuffersStay (parts n) (now n)
  by_ring (a_microframe b) = same_buffers (parts n) (now n) (ap (λ (ps : StructureSets). ps n) b.parts_stay)
  by_ring (a_step s) =
      walk_leaves_buffers transacts member parts hand (walk_place c).walk.reply wire after now later s.kind n runs.ring.members
      runs.ring.in_hand
      s.effect (λ on. outs_ask_none (parts n) outs)

  by_walk : BothEffect begins transacts parts c.control hand frame wire after now later frame_later → BuffersStay (parts n) (now n)
  by_walk (of_ring effect free) = by_ring effect
  by_walk (of_frame w) =
      frame_leaves transacts met parts frame (frame_place c) wire after now frame_later
      (record { tells = runs.ring.tells; members = runs.members; walk = runs.walk w.part }) n q head outs w.kind w.effect

-- of the queues
pub both_leave_buffers : {W : Type 0} (begins : W → ℕ → Bool → W → Type 0) (transacts : W → Ask → List ℕ → Reply → W → Type 0) (base : Base)
    (member : ℕ → Bool) (met : ℕ → Option Kind) (descs parts : StructureSets) (hand : Hand) (frame : FrameHand) (c : Content)
    (wire after : W) (now : StructureSets) (later : Hand) (frame_later : FrameHand)
    → RunsBoth base member met (both descs parts) hand frame c
    → BothEffect begins transacts (both descs parts) c.control hand frame wire after now later frame_later → (n : ℕ) → owns descs n ≡ false
    → IsQueuePart n (parts n) → IsOut (parts n) → BuffersStay (parts n) (parts_now descs parts now n)
both_leave_buffers begins transacts base member met descs parts hand frame c wire after now later frame_later runs effect n off part outs =
    let there : both descs parts n ≡ parts n = both_off descs parts n off in
    let now_is : parts_now descs parts now n ≡ now n = ap (λ (b : Bool). if b then parts n else now n) off in
    subst (BuffersStay (parts n)) (sym now_is)
    (subst (λ (x : Structures). BuffersStay x (now n)) there
    (by_walk begins transacts base member met (both descs parts) hand frame c wire after now later frame_later runs n part.queue
    (ap (λ (x : Structures). x n) there ∙ part.here) (subst IsOut (sym there) outs) effect))
