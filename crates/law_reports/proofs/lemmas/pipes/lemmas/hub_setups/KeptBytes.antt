-- Either walk leaves a buffer that no active IN of its queue head names: nothing is received into it.
use Rattle.std.proofs.Common.{◌≡◌, ◌≢◌, ℕ, Bool, true, false, ◌==◌, if◌then◌else◌, List, [], ◌∷◌, Option, Some, ap, refl, sym, subst, ◌∙◌}
use Rattle.std.proofs.Common.{⊎_elim, inl, inr}
use Rattle.std.specs.Prelude.{◌⊎◌}
use Rattle.std.proofs.lemmas.Bool.{cases_eq, eqb-true, true≢false}
use Rattle.usb_base.specs.declared.packets.Ask.{Ask}
use Rattle.usb_base.specs.declared.packets.Pid.TheVariants as pids
use Rattle.usb_base.specs.declared.packets.Reply.{Reply}
use Rattle.qh_qtd.specs.declared.qtd.Qtd.{Qtd}
use Rattle.qh_qtd.specs.declared.queue_head.Qh.{Qh}
use Rattle.hc_copy.specs.Overlay.{advanced}
use Rattle.hc_copy.specs.Planning.{pid_at}
use Rattle.hc_copy.specs.WriteBack.{moved_by}
use Rattle.async_walk.specs.declared.state.WalkStep.{WalkStep}
use Rattle.periodic_walk.specs.Place.{FramePlace}
use Rattle.hc_core.specs.Controller.{Content, walk_place, frame_place}
use Rattle.claims_base.specs.Controller.{Base}
use Rattle.law_structures.specs.lent_structures.Structures.{QueueHead, Element, Buffer, Structures, StructureSets, put}
use Rattle.law_structures.specs.lent_structures.Sound.{buffer_name, IsWorking, IsSoundQueue, IsMember}
use Rattle.law_structures.specs.lent_structures.WriteBack.{parts_back}
use Rattle.law_structures.proofs.lemmas.lent_structures.Altering.{found_queue, found_element, no_two}
use Rattle.law_structures.proofs.lemmas.lent_structures.Found.{IsNotInto, back_beside, back_other_buffer}
use Rattle.law_structures.proofs.lemmas.lent_structures.Names.{put_beside, put_else}
use Rattle.law_ring.specs.Hand.{Copy, Hand, Settlement, settled_queue_of}
use Rattle.law_ring.specs.Ring.{IsCopied, IsSettled, IsInHand}
use Rattle.law_ring.specs.Effects.{received_into, Takes, WritesBack, Effect}
use Rattle.law_ring.specs.Effects.Effect.{reads, passes as walk_passes, ends as walk_ends, takes as walk_takes}
use Rattle.law_ring.specs.Effects.Effect.{makes as walk_makes, writes_back}
use Rattle.law_ring.specs.QueueParts.{IsQueuePart}
use Rattle.law_ring.specs.Streams.{AreMembers}
use Rattle.law_ring.proofs.Written.{WritesCopy, can, ring_writes}
use Rattle.law_controller.specs.controlled_streams.Control.{ControlEffect, a_microframe, a_step}
use Rattle.law_controller.specs.frame_control.Both.{RunsBoth, BothEffect, of_ring, of_frame}
use Rattle.law_frames.specs.Met.{Kind}
use Rattle.law_frames.specs.Frame.{IsInFrame, IsFrame}
use Rattle.law_frames.specs.FrameHand.{QueueSettlement, came, settled_in, FrameHand, queue_hand}
use Rattle.law_frames.specs.FrameEffects.{TakesOne, IsSettledFrom, was_worked, was_missed, WritesQueue, WritesOne}
use Rattle.law_frames.specs.FrameEffects.{of_queue, of_itd, of_sitd, FrameEffect}
use Rattle.law_frames.specs.FrameEffects.FrameEffect.{fetches, passes, ends, takes, makes, writes}
use Rattle.law_frames.proofs.Telling.{taken_there, written_part, writes_copy, itd_leaves, sitd_leaves}
use Rattle.law_descriptors.specs.Both.{owns, both, parts_now}
use Rattle.law_descriptors.proofs.Standing.{both_off}

-- no active IN names it
abbrev pub IsUnreceived : Structures → ℕ → Type 0
IsUnreceived part name = (e : ℕ) (t : Qtd) → part e ≡ Some (Element t) → t.token.active ≡ true → t.token.pid ≡ 1 → buffer_name t ≢ name

abbrev pub StaysAt : Structures → Structures → ℕ → Type 0
StaysAt part now name = (pages : List ℕ) (k : ℕ) (bs : List ℕ) → part name ≡ Some (Buffer pages k bs) → now name ≡ Some (Buffer pages k bs)

same_there : (part now : Structures) (name : ℕ) → now ≡ part → StaysAt part now name
same_there part now name same pages k bs here = ap (λ (p : Structures). p name) same ∙ here

-- ---- what a transaction brings

not_in : (code : ℕ) → (code == 1) ≡ false → pid_at code ≢ pids.In
not_in code off = by (code == 0) (code == 1) off
  where
    by : (zero one : Bool) → one ≡ false → (if zero then pids.Out else if one then pids.In else pids.Setup) ≡ pids.In → ⊥
    by true one is e = cc
    by false true is e = true≢false is
    by false false is e = cc

-- it brings nothing, or not into this buffer
brings_elsewhere : (part : Structures) (q : Qh) (t : Qtd) (got : List ℕ) (name : ℕ) → IsWorking part q → part q.current ≡ Some (Element t)
    → (pid_at q.token.pid ≢ pids.In → got ≡ []) → IsUnreceived part name → (got ≡ []) ⊎ (name ≢ buffer_name t)
brings_elsewhere part q t got name work here none unreceived = by (q.token.pid == 1) refl
  where
    by : (b : Bool) → (q.token.pid == 1) ≡ b → (got ≡ []) ⊎ (name ≢ buffer_name t)
    by false is = inl (none (not_in q.token.pid is))
    by true is = inr (λ same.
        unreceived q.current work.element work.here work.published (sym work.pid ∙ eqb-true q.token.pid 1 is)
        (ap buffer_name (found_element (part q.current) work.element t work.here here) ∙ sym same))

not_into : (part : Structures) (q : Qh) (t : Qtd) (got : List ℕ) (name : ℕ) → (got ≡ []) ⊎ (name ≢ buffer_name t)
    → IsNotInto (received_into part q t got) name
not_into part q t [] name or = tt
not_into part q t (g ∷ got) name or = ⊎_elim (λ (none : g ∷ got ≡ []). absurd (cc)) (λ (differs : name ≢ buffer_name t). differs) or

module _ (parts : StructureSets) (hand : Hand) (now : StructureSets) (later : Hand) (c : Copy) (z : Settlement) (x : Qh)
    (w : WritesCopy parts hand now later c z x) (n name : ℕ)
    (elsewhere : n ≡ c.at → (z.got ≡ []) ⊎ (name ≢ buffer_name w.element)) where
  back : StructureSets
  back = parts_back parts c.at c.at c.queue x (moved_by z.outcome) z.got (received_into (parts c.at) c.queue w.element z.got) w.element

  pub back_leaves : StaysAt (parts n) (now n) name
  unfolding back
  back_leaves pages k bs here =
      ap (λ (ps : StructureSets). ps n name) w.now_is
      ∙ ⊎_elim
      (λ (is : n ≡ c.at).
      ap (λ (i : ℕ). back i name) is
      ∙ back_other_buffer parts c.at c.at c.queue x (moved_by z.outcome) z.got (received_into (parts c.at) c.queue w.element z.got)
      w.element name pages k bs (can parts hand now later c z x w) (ap (λ (i : ℕ). parts i name) (sym is) ∙ here)
      (not_into (parts c.at) c.queue w.element z.got name (elsewhere is)))
      (λ (differs : n ≢ c.at).
      ap (λ (p : Structures). p name) (back_beside parts c.at c.at c.queue x (moved_by z.outcome) z.got
      (received_into (parts c.at) c.queue w.element z.got) w.element n differs) ∙ here)
      (cases_eq n c.at)

-- a queue head's overlay is written where a qTD is taken
head_leaves : (parts : StructureSets) (at : ℕ) (old new : Qh) (n name : ℕ) → parts at at ≡ Some (QueueHead old)
    → StaysAt (parts n) (put parts at at (QueueHead new) n) name
head_leaves parts at old new n name head pages k bs here =
    ⊎_elim
    (λ (is : n ≡ at).
    let there : parts at name ≡ Some (Buffer pages k bs) = ap (λ (i : ℕ). parts i name) (sym is) ∙ here in
    ap (λ (i : ℕ). put parts at at (QueueHead new) i name) is
    ∙ put_else parts at at (QueueHead new) name
    (no_two (parts at) name at (Buffer pages k bs) (QueueHead old) there head (λ e. cc)) ∙ there)
    (λ (differs : n ≢ at). ap (λ (p : Structures). p name) (put_beside parts at at (QueueHead new) n differs) ∙ here) (cases_eq n at)

-- ---- an event of the walk of the ring

module _ {W : Type 0} (transacts : W → Ask → List ℕ → Reply → W → Type 0) (member : ℕ → Bool) (parts : StructureSets) (hand : Hand)
    (reply : Reply) (wire after : W) (now : StructureSets) (later : Hand) (members : AreMembers member parts)
    (in_hand : IsInHand member parts reply hand) (n name : ℕ) (none : IsUnreceived (parts n) name) where
  walk_taking : Takes parts hand now later → StaysAt (parts n) (now n) name
  walk_taking t =
      let copied : IsCopied member parts t.copy = subst (IsInHand member parts reply) t.in_hand in_hand in
      subst (λ (ps : StructureSets). StaysAt (parts n) (ps n) name) (sym t.now_is)
      (head_leaves parts t.copy.at t.copy.queue (advanced t.copy.queue t.element t.qtd) n name copied.here)

  walk_writing : WritesBack parts hand now later → StaysAt (parts n) (now n) name
  walk_writing w =
      let both : IsCopied member parts w.copy × IsSettled w.copy.queue reply w.settled =
      subst (IsInHand member parts reply) w.in_hand in_hand in
      let q : Qh = w.copy.queue in
      let m : IsMember member w.copy.at (parts w.copy.at) = members w.copy.at both.0.on in
      let sound : IsSoundQueue (parts w.copy.at) q =
      subst (IsSoundQueue (parts w.copy.at)) (found_queue (parts w.copy.at w.copy.at) m.queue q m.here both.0.here) m.sound in
      let written : WritesCopy parts hand now later w.copy w.settled (settled_queue_of w.copy w.settled) =
      ring_writes member parts hand now later w reply both.0 both.1 in
      back_leaves parts hand now later w.copy w.settled (settled_queue_of w.copy w.settled) written n name
      (λ is. brings_elsewhere (parts w.copy.at) q written.element w.settled.got name (sound.work both.1.works) written.here
      both.1.bytes.none (subst (λ (i : ℕ). IsUnreceived (parts i) name) is none))

  walk_leaves : (kind : WalkStep) → Effect transacts parts hand wire after now later kind → StaysAt (parts n) (now n) name
  walk_leaves _ (reads r all quiet) = same_there (parts n) (now n) name (ap (λ (ps : StructureSets). ps n) all)
  walk_leaves _ (walk_passes r all quiet) = same_there (parts n) (now n) name (ap (λ (ps : StructureSets). ps n) all)
  walk_leaves _ (walk_ends r all quiet) = same_there (parts n) (now n) name (ap (λ (ps : StructureSets). ps n) all)
  walk_leaves _ (walk_makes r all) = same_there (parts n) (now n) name (ap (λ (ps : StructureSets). ps n) all)
  walk_leaves _ (walk_takes t quiet) = walk_taking t
  walk_leaves _ (writes_back w quiet) = walk_writing w

-- ---- an event of the walk of the frames

module _ {W : Type 0} (transacts : W → Ask → List ℕ → Reply → W → Type 0) (met : ℕ → Option Kind) (parts : StructureSets)
    (hand : FrameHand) (p : FramePlace) (wire after : W) (now : StructureSets) (later : FrameHand) (frame : IsFrame met parts hand p)
    (n : ℕ) (q : Qh) (head : parts n n ≡ Some (QueueHead q)) (name : ℕ) (none : IsUnreceived (parts n) name) where
  taking : TakesOne parts hand now later → StaysAt (parts n) (now n) name
  taking r =
      let t = r.takes in
      subst (λ (ps : StructureSets). StaysAt (parts n) (ps n) name) (sym t.now_is)
      (head_leaves parts t.copy.at t.copy.queue (advanced t.copy.queue t.element t.qtd) n name
      (taken_there transacts met parts hand p wire after now later frame r))

  module _ (r : WritesQueue parts p.walk hand now later) where
    elsewhere : IsSettledFrom p.walk hand r.copy r.settled r.made → n ≡ r.copy.at
        → ((came r.settled).got ≡ []) ⊎ (name ≢ buffer_name (writes_copy transacts met parts hand p wire after now later frame r).element)
    elsewhere (was_worked is) at =
        let both = subst (IsInFrame met parts p.walk.got p.walk.reply) is frame.walk.in_hand in
        let s : IsSettled r.copy.queue p.walk.reply (came r.settled) = both.1.came_to in
        let part : IsQueuePart r.copy.at (parts r.copy.at) = written_part transacts met parts hand p wire after now later frame r in
        let sound : IsSoundQueue (parts r.copy.at) r.copy.queue =
        subst (IsSoundQueue (parts r.copy.at)) (found_queue (parts r.copy.at r.copy.at) part.queue r.copy.queue part.here both.0.here)
        part.sound in
        let w = writes_copy transacts met parts hand p wire after now later frame r in
        brings_elsewhere (parts r.copy.at) r.copy.queue w.element (came r.settled).got name (sound.work s.works) w.here s.bytes.none
        (subst (λ (i : ℕ). IsUnreceived (parts i) name) at none)
    elsewhere (was_missed is turn missed) at = inl (ap (λ (z : QueueSettlement). z.got) missed)

    writing : StaysAt (parts n) (now n) name
    writing =
        back_leaves parts _ now (queue_hand later) r.copy (came r.settled) (settled_in r.copy r.settled)
        (writes_copy transacts met parts hand p wire after now later frame r) n name (elsewhere r.from)

  wrote : WritesOne parts p.walk hand now later → StaysAt (parts n) (now n) name
  wrote (of_queue r) = writing r
  wrote (of_itd r) = same_there (parts n) (now n) name (itd_leaves transacts met parts hand p wire after now later frame r n q head)
  wrote (of_sitd r) = same_there (parts n) (now n) name (sitd_leaves transacts met parts hand p wire after now later frame r n q head)

  frame_leaves : (kind : WalkStep) → FrameEffect transacts parts p.walk hand wire after now later kind → StaysAt (parts n) (now n) name
  frame_leaves _ (fetches unset r all quiet) = same_there (parts n) (now n) name (ap (λ (ps : StructureSets). ps n) all)
  frame_leaves _ (passes un nothing all quiet) = same_there (parts n) (now n) name (ap (λ (ps : StructureSets). ps n) all)
  frame_leaves _ (ends unset nothing all quiet) = same_there (parts n) (now n) name (ap (λ (ps : StructureSets). ps n) all)
  frame_leaves _ (takes r quiet) = taking r
  frame_leaves _ (makes r all) = same_there (parts n) (now n) name (ap (λ (ps : StructureSets). ps n) all)
  frame_leaves _ (writes r quiet) = wrote r

-- ---- an event of either walk

module _ {W : Type 0} (begins : W → ℕ → Bool → W → Type 0) (transacts : W → Ask → List ℕ → Reply → W → Type 0) (base : Base)
    (member : ℕ → Bool) (met : ℕ → Option Kind) (parts : StructureSets) (hand : Hand) (frame : FrameHand) (c : Content) (wire after : W)
    (now : StructureSets) (later : Hand) (frame_later : FrameHand) (runs : RunsBoth base member met parts hand frame c) (n : ℕ) (q : Qh)
    (head : parts n n ≡ Some (QueueHead q)) (name : ℕ) (none : IsUnreceived (parts n) name) where
  by_ring : ControlEffect begins transacts parts hand wire after now later → StaysAt (parts n) (now n) name
  by_ring (a_microframe b) = same_there (parts n) (now n) name (ap (λ (ps : StructureSets). ps n) b.parts_stay)
  by_ring (a_step s) =
      walk_leaves transacts member parts hand (walk_place c).walk.reply wire after now later runs.ring.members runs.ring.in_hand n name none
      s.kind s.effect

  by_walk : BothEffect begins transacts parts c.control hand frame wire after now later frame_later → StaysAt (parts n) (now n) name
  by_walk (of_ring effect free) = by_ring effect
  by_walk (of_frame w) =
      frame_leaves transacts met parts frame (frame_place c) wire after now frame_later
      (record { tells = runs.ring.tells; members = runs.members; walk = runs.walk w.part }) n q head name none w.kind w.effect

-- of the queues
pub both_leave_bytes : {W : Type 0} (begins : W → ℕ → Bool → W → Type 0) (transacts : W → Ask → List ℕ → Reply → W → Type 0) (base : Base)
    (member : ℕ → Bool) (met : ℕ → Option Kind) (descs parts : StructureSets) (hand : Hand) (frame : FrameHand) (c : Content)
    (wire after : W) (now : StructureSets) (later : Hand) (frame_later : FrameHand)
    → RunsBoth base member met (both descs parts) hand frame c
    → BothEffect begins transacts (both descs parts) c.control hand frame wire after now later frame_later → (n : ℕ) → owns descs n ≡ false
    → IsQueuePart n (parts n) → (name : ℕ) → IsUnreceived (parts n) name → StaysAt (parts n) (parts_now descs parts now n) name
both_leave_bytes begins transacts base member met descs parts hand frame c wire after now later frame_later runs effect n off part name
    none =
    let there : both descs parts n ≡ parts n = both_off descs parts n off in
    let now_is : parts_now descs parts now n ≡ now n = ap (λ (b : Bool). if b then parts n else now n) off in
    subst (λ (x : Structures). StaysAt (parts n) x name) (sym now_is)
    (subst (λ (x : Structures). StaysAt x (now n) name) there
    (by_walk begins transacts base member met (both descs parts) hand frame c wire after now later frame_later runs n part.queue
    (ap (λ (x : Structures). x n) there ∙ part.here) name (subst (λ (x : Structures). IsUnreceived x name) (sym there) none) effect))
