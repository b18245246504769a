-- What an event of either walk is to the queue of one queue head.
use Rattle.std.proofs.Common.{◌≡◌, ◌≢◌, ℕ, Bool, List, Option, Some, ap, refl, sym, subst, ◌∙◌, ⊎_elim}
use Rattle.std.proofs.lemmas.Bool.{cases_eq}
use Rattle.law_ring.proofs.Common.{through_head, through_bytes}
use Rattle.usb_base.specs.declared.packets.Ask.{Ask}
use Rattle.usb_base.specs.declared.packets.Reply.{Reply}
use Rattle.qh_qtd.specs.declared.qtd.Qtd.{Qtd}
use Rattle.qh_qtd.specs.declared.queue_head.Qh.{Qh}
use Rattle.hc_copy.specs.Overlay.{advanced}
use Rattle.hc_copy.specs.WriteBack.{moved_by}
use Rattle.hc_core.specs.Controller.{Content, walk_place}
use Rattle.async_walk.specs.declared.state.WalkStep.{WalkStep}
use Rattle.law_structures.specs.lent_structures.Structures.{QueueHead, Element, StructureSets, put}
use Rattle.law_structures.proofs.lemmas.lent_structures.Names.{put_same, put_else, put_beside, put_found}
use Rattle.law_structures.specs.lent_structures.WriteBack.{CanBeWritten, Received, received_parts}
use Rattle.law_structures.proofs.lemmas.lent_structures.Found.{back_head, back_element, back_other_element, back_beside}
use Rattle.law_structures.specs.lent_structures.Sound.{IsWorking, IsSoundQueue, IsMember}
use Rattle.law_structures.proofs.lemmas.lent_structures.Altering.{found_queue, found_element, no_two}
use Rattle.law_ring.specs.Hand.{Hand, settled_queue_of}
use Rattle.law_ring.specs.Ring.{IsCopied, IsSettled, IsInHand}
use Rattle.law_ring.specs.Effects.{received_into, Takes, WritesBack, Effect}
use Rattle.law_ring.specs.Effects.Effect.{reads, passes, ends, takes, makes, writes_back}
use Rattle.law_ring.specs.Streams.{AreMembers}
use Rattle.law_ring.proofs.Writing.{settled_copy, settled_range, is_written, queue_written, element_written, all_parts}
use Rattle.claims_base.specs.Controller.{Base}
use Rattle.law_controller.specs.controlled_streams.Control.{a_microframe, a_step}
use Rattle.law_controller.specs.frame_control.Both.{RunsBoth, BothEffect, of_ring, of_frame}
use Rattle.law_frames.specs.Met.{Kind}
use Rattle.law_frames.specs.FrameHand.{FrameHand}
use Rattle.law_frames.proofs.lemmas.framed_fronts.Queues.{QueueEvent, stays, advances, settles, event_of}

-- ---- what is found after an event was there before

advanced_is : (q : Qh) (a : ℕ) (t : Qtd) → ((advanced q a t).token.active ≡ t.token.active) × ((advanced q a t).current ≡ a)
unfolding advanced
advanced_is q a t = (refl, refl)

-- ---- the walk of the ring

module _ (member : ℕ → Bool) (parts : StructureSets) (hand : Hand) (reply : Reply) (now : StructureSets) (later : Hand) (n : ℕ)
    (members : AreMembers member parts) (in_hand : IsInHand member parts reply hand) where
  take_event : Takes parts hand now later → QueueEvent n (parts n) (now n)
  take_event t =
      let copied : IsCopied member parts t.copy = subst (IsInHand member parts reply) t.in_hand in_hand in
      let new : Qh = advanced t.copy.queue t.element t.qtd in
      let put_now : StructureSets = put parts t.copy.at t.copy.at (QueueHead new) in
      ⊎_elim
      (λ (is : n ≡ t.copy.at).
      advances (record {
        queue = t.copy.queue;
        here = ap (λ (i : ℕ). parts i i) is ∙ copied.here;
        idle = t.idle;
        goes_on = t.goes_on;
        element = t.element;
        leads = t.leads;
        new = new;
        head_now = ap (λ (ps : StructureSets). ps n n) t.now_is ∙ ap (λ (i : ℕ). put_now i i) is
            ∙ put_same parts t.copy.at t.copy.at (QueueHead new);
        works = (advanced_is t.copy.queue t.element t.qtd).0 ∙ t.published;
        current = (advanced_is t.copy.queue t.element t.qtd).1;
        still = λ a u here.
            ap (λ (ps : StructureSets). ps n a) t.now_is ∙ ap (λ (i : ℕ). put_now i a) is
            ∙ put_else parts t.copy.at t.copy.at (QueueHead new) a
            (no_two (parts t.copy.at) a t.copy.at (Element u) (QueueHead t.copy.queue) (ap (λ (i : ℕ). parts i a) (sym is) ∙ here)
            copied.here (λ e. cc))
            ∙ ap (λ (i : ℕ). parts i a) (sym is) ∙ here;
        before = λ a u found. through_head parts t.copy.at new n a u (sym (ap (λ (ps : StructureSets). ps n a) t.now_is) ∙ found);
      }))
      (λ (differs : n ≢ t.copy.at).
      stays (ap (λ (ps : StructureSets). ps n) t.now_is ∙ put_beside parts t.copy.at t.copy.at (QueueHead new) n differs))
      (cases_eq n t.copy.at)

  module _ (w : WritesBack parts hand now later) where
    both : IsCopied member parts w.copy × IsSettled w.copy.queue reply w.settled
    both = subst (IsInHand member parts reply) w.in_hand in_hand

    abbrev received : Received
    received = received_into (parts w.copy.at) w.copy.queue w.element w.settled.got

    abbrev settled_head : Qh
    settled_head = settled_queue_of w.copy w.settled

    abbrev all : StructureSets
    all = all_parts parts w.copy w.settled received w.element

    abbrev new_head : Qh
    new_head = queue_written w.copy w.settled

    current_is : settled_head.current ≡ w.copy.queue.current
    current_is = (settled_copy w.copy w.settled).current

    can : CanBeWritten parts w.copy.at w.copy.at w.copy.queue settled_head w.settled.got received w.element
    can = record {
      copy = record {
        head = both.0.here;
        range = settled_range w.copy w.settled reply both.0.range both.1;
        front = (settled_copy w.copy w.settled).front;
      };
      element = ap (parts w.copy.at) current_is ∙ w.here;
      received = w.received_is;
    }

    works : IsWorking (parts w.copy.at) w.copy.queue
    works =
        let m : IsMember member w.copy.at (parts w.copy.at) = members w.copy.at both.0.on in
        (subst (IsSoundQueue (parts w.copy.at)) (found_queue (parts w.copy.at w.copy.at) m.queue w.copy.queue m.here both.0.here)
        m.sound).work both.1.works

    element_is : works.element ≡ w.element
    element_is = found_element (parts w.copy.at w.copy.queue.current) works.element w.element works.here w.here

    before_at : n ≡ w.copy.at → (a : ℕ) (u : Qtd) → now n a ≡ Some (Element u) → a ≢ w.copy.queue.current → parts n a ≡ Some (Element u)
    before_at is a u found differs =
        let first : StructureSets = received_parts parts w.copy.at w.settled.got received in
        let mid : StructureSets = put first w.copy.at w.copy.at (QueueHead new_head) in
        let last : Qtd = element_written w.copy w.settled w.element in
        ⊎_elim (λ (there : (n ≡ w.copy.at) × (a ≡ settled_head.current) × (Element u ≡ Element last)). absurd
        (differs (there.1 ∙ current_is)))
        (λ (there : mid n a ≡ Some (Element u)).
        through_bytes parts w.copy.at w.settled.got received n a u (through_head first w.copy.at new_head n a u there))
        (put_found mid w.copy.at settled_head.current (Element last) n a (Element u)
        (sym (ap (λ (ps : StructureSets). ps n a) w.now_is) ∙ found))

    written_event : QueueEvent n (parts n) (now n)
    written_event =
        let v = is_written w.copy w.settled in
        ⊎_elim
        (λ (is : n ≡ w.copy.at).
        let now_at : (a : ℕ) → now n a ≡ all w.copy.at a = λ a. ap (λ (ps : StructureSets). ps n a) w.now_is ∙ ap (λ (i : ℕ). all i a) is in
        settles (record {
          queue = w.copy.queue;
          here = ap (λ (i : ℕ). parts i i) is ∙ both.0.here;
          works = both.1.works;
          goes_on = works.goes_on;
          element = w.element;
          there = ap (λ (i : ℕ). parts i w.copy.queue.current) is ∙ w.here;
          published = ap (λ (t : Qtd). t.token.active) (sym element_is) ∙ works.published;
          new = new_head;
          head_now = now_at n ∙ ap (all w.copy.at) is
              ∙ back_head parts w.copy.at w.copy.at w.copy.queue settled_head
              (moved_by w.settled.outcome) w.settled.got received w.element can;
          current = v.current;
          next = v.next ∙ works.next ∙ ap (λ (t : Qtd). t.next) element_is;
          alternate = v.alternate ∙ works.alternate ∙ ap (λ (t : Qtd). t.alternate) element_is;
          written = now_at w.copy.queue.current ∙ ap (all w.copy.at) (sym current_is)
              ∙ back_element parts w.copy.at w.copy.at w.copy.queue settled_head (moved_by w.settled.outcome) w.settled.got received
              w.element;
          still = λ a u there differs.
              now_at a
              ∙ back_other_element parts w.copy.at w.copy.at w.copy.queue settled_head (moved_by w.settled.outcome) w.settled.got received
              w.element a u can (ap (λ (i : ℕ). parts i a) (sym is) ∙ there) (λ same. differs (same ∙ current_is));
          before = before_at is;
        }))
        (λ (differs : n ≢ w.copy.at).
        stays (ap (λ (ps : StructureSets). ps n) w.now_is
        ∙ back_beside parts w.copy.at w.copy.at w.copy.queue settled_head (moved_by w.settled.outcome) w.settled.got received w.element n
        differs))
        (cases_eq n w.copy.at)

  pub ring_event : {W : Type 0} (transacts : W → Ask → List ℕ → Reply → W → Type 0) (wire after : W) (kind : WalkStep)
      → Effect transacts parts hand wire after now later kind → QueueEvent n (parts n) (now n)
  ring_event transacts wire after kind (reads r all_same quiet) = stays (ap (λ (ps : StructureSets). ps n) all_same)
  ring_event transacts wire after kind (passes r all_same quiet) = stays (ap (λ (ps : StructureSets). ps n) all_same)
  ring_event transacts wire after kind (ends r all_same quiet) = stays (ap (λ (ps : StructureSets). ps n) all_same)
  ring_event transacts wire after kind (makes m all_same) = stays (ap (λ (ps : StructureSets). ps n) all_same)
  ring_event transacts wire after kind (takes t quiet) = take_event t
  ring_event transacts wire after kind (writes_back w quiet) = written_event w

-- ---- either walk

pub both_event : {W : Type 0} (begins : W → ℕ → Bool → W → Type 0) (transacts : W → Ask → List ℕ → Reply → W → Type 0) (base : Base)
    (member : ℕ → Bool) (met : ℕ → Option Kind) (parts : StructureSets) (hand : Hand) (frame : FrameHand) (c : Content) (wire after : W)
    (now : StructureSets) (later : Hand) (frame_later : FrameHand) → RunsBoth base member met parts hand frame c → (n : ℕ) (q : Qh)
    → parts n n ≡ Some (QueueHead q) → BothEffect begins transacts parts c.control hand frame wire after now later frame_later
    → QueueEvent n (parts n) (now n)
both_event begins transacts base member met parts hand frame c wire after now later frame_later k n q here
    (of_ring (a_microframe b) nothing) =
    stays (ap (λ (ps : StructureSets). ps n) b.parts_stay)
both_event begins transacts base member met parts hand frame c wire after now later frame_later k n q here (of_ring (a_step w) nothing) =
    ring_event member parts hand (walk_place c).walk.reply now later n k.ring.members k.ring.in_hand transacts wire after w.kind w.effect
both_event begins transacts base member met parts hand frame c wire after now later frame_later k n q here (of_frame w) =
    (event_of met parts c.control.frame frame now frame_later n q k.members (k.walk w.part).in_hand here transacts wire after w.kind
    w.effect).event
