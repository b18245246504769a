-- A write-back leaves the queue head of the copy in hand in memory as the copy has it (EHCI 1.0, 4.10.3, 4.10.4 and 4.12.2.4).
use Rattle.std.proofs.Common.{◌≡◌, ℕ, Bool, true, false, if◌then◌else◌, Option, Some, None, ap, refl, sym, subst, ◌∙◌}
use Rattle.std.specs.Prelude.{◌&&◌, ◌==◌, nat_lt}
use Rattle.std.proofs.lemmas.Option.{same_Some}
use Rattle.qh_qtd.specs.declared.queue_head.Qh.{Qh}
use Rattle.toggle_error.specs.declared.host.Outcome.{Outcome}
use Rattle.toggle_error.specs.declared.host.Outcome.TheVariants.{Wait}
use Rattle.hc_interrupt.specs.Copies.{goes_on, most_of}
use Rattle.mem_queues.specs.Structures.{queue_head_at_address}
use Rattle.hc_copy.specs.Overlay.{moved}
use Rattle.hc_copy.specs.WriteBack.{moved_by}
use Rattle.hc_interrupt.specs.Turns.{waits}
use Rattle.async_walk.specs.declared.state.WalkStep.{WalkStep}
use Rattle.async_walk.specs.declared.state.WalkStep.TheVariants as walks
use Rattle.periodic_walk.specs.declared.state.Hand.{Hand}
use Rattle.periodic_walk.specs.declared.state.Hand.TheVariants as hands
use Rattle.periodic_walk.specs.declared.state.HeldQueue.{HeldQueue}
use Rattle.periodic_walk.specs.Rows.{step_of}
use Rattle.hc_core.specs.declared.controller.ControllerRow.TheVariants as rows
use Rattle.hc_core.specs.Controller.{frame_place}
use Rattle.bus_wire.specs.Bus.{Fixed, Wired}
use Rattle.bus_world.specs.World.{World, controller_parts, controller_row, controller_next}
use Rattle.law_structures.specs.lent_structures.Changes.{relinked}
use Rattle.law_structures.specs.lent_structures.Structures.{StructureSets}
use Rattle.law_structures.specs.lent_structures.WriteBack.{CanBeWritten}
use Rattle.law_structures.proofs.lemmas.lent_structures.Reading.{head_read}
use Rattle.law_structures.proofs.lemmas.lent_structures.Found.{back_head}
use Rattle.law_ring.specs.Hand.{Copy, copied_queue}
use Rattle.law_ring.specs.Effects.{received_into}
use Rattle.law_frames.specs.Frame.{IsInFrame, IsQueueSettled, IsCopiedQueue}
use Rattle.law_frames.specs.FrameHand.{QueueSettlement, ItdCopy, SitdCopy, Nothing, OfQueue, OfSettled, OfItd, OfSitd}
use Rattle.law_frames.specs.FrameHand.{settled_in, frame_held}
use Rattle.law_frames.specs.FrameEffects.{WritesQueue, IsSettledFrom, was_worked, was_missed, queue_written}
use Rattle.law_frames.specs.FrameEffects.{WritesOne, of_queue, of_itd, of_sitd}
use Rattle.law_frames.specs.FrameEffects.{FrameEffect, fetches, passes, ends, takes, makes, writes}
use Rattle.law_frames.proofs.QueueBacks.{settled_facts, settled_range}
use Rattle.law_descriptors.specs.Both.{both}
use Rattle.law_descriptors.specs.Meeting.{met}
use Rattle.law_world.specs.steps.Streaming.{transacts_by, wired}
use Rattle.law_world.specs.memory.Mixed.{Standing}
use Rattle.law_microframes.specs.time.DataQueues.{QueuesSendData}
use Rattle.law_microframes.specs.visits.Belonging.{HeadsHaveFields}
use Rattle.law_microframes.proofs.lemmas.due.Turning.{no_fault}
use Rattle.law_microframes.proofs.lemmas.due.Visiting.{writes as writes_step}
use Rattle.claims_world.specs.SplitFrames.{IsAsFar}
use Rattle.law_reports.specs.lines.Lined.{Lines}
use Rattle.law_reports.specs.pipes.Declared.{Sides}
use Rattle.law_reports.specs.pipes.Piped.{Heads, IsPiped}
use Rattle.law_reports.proofs.lemmas.due_at_begin.Asking.{happens, walk}

-- what a split transaction goes on with, of the queue heads x and y
pub record GoesOnAs (x y : Qh) : Type 0 where
  pub waiting : waits y ≡ waits x
  pub smask : y.smask ≡ x.smask
  pub cmask : y.cmask ≡ x.cmask
  pub progress : y.c_prog ≡ x.c_prog
  pub tag : y.frame_tag ≡ x.frame_tag
  pub far : IsAsFar x y

written_on : (q x : Qh) (n : ℕ) → GoesOnAs x (relinked q (moved x n))
unfolding moved
written_on q x n = record {
  waiting = refl;
  smask = refl;
  cmask = refl;
  progress = refl;
  tag = refl;
  far = record { toggle = refl; left = refl };
}

-- it stands in memory so
pub record StandsOn (w : World) (n : ℕ) (x : Qh) : Type 0 where
  pub queue : Qh
  pub read : queue_head_at_address w.memory n ≡ Some queue
  pub goes : GoesOnAs x queue

-- so it does after a write-back; and a start-split ends the visit
pub record IsWrittenSo (w : World) (held : HeldQueue) (outcome : Outcome) : Type 0 where
  pub stands : StandsOn w held.copy.at held.copy.queue_head
  pub over : outcome ≡ Wait → w.control.frame.hand ≡ None

none_so : (o : Outcome) → ◌≡◌ {A = Option Outcome} None (Some o) → ⊥
none_so o is = cc

ends_by : (active high split full : Bool) → (active && (if high then false && full else split && false)) ≡ false
ends_by true true split full = refl
ends_by true false true full = refl
ends_by true false false full = refl
ends_by false high split full = refl

ends_visit : (made : ℕ) (q : Qh) → goes_on made q Wait ≡ false
ends_visit made q = ends_by q.token.active (q.eps == 2) q.token.split_state (nat_lt made (most_of q))

over_by : (made : ℕ) (q : Qh) (outcome : Outcome) → outcome ≡ Wait → (c : Copy)
    → frame_held (if goes_on made q outcome then OfQueue c made else Nothing) ≡ None
over_by made q outcome wait c =
    ap (λ (o : Outcome). frame_held (if goes_on made q o then OfQueue c made else Nothing)) wait
    ∙ ap (λ (b : Bool). frame_held (if b then OfQueue c made else Nothing)) (ends_visit made q)

module _ (fixed : Fixed) (x : Sides) (s : Standing) (m : Lines) (h : Heads) (w : World) (k : IsPiped fixed x s m h w)
    (heads : HeadsHaveFields w.driver w.memory) (sends : QueuesSendData w.driver w.memory) (row : controller_row w ≡ rows.Frame)
    (held : HeldQueue) (in_hand : w.control.frame.hand ≡ Some (hands.Queue held)) (outcome : Outcome)
    (settled : held.copy.settled ≡ Some outcome) where
  abbrev all : StructureSets
  all = both s.descs s.parts

  abbrev new : World
  new = controller_next fixed w

  here : frame_held s.frame ≡ Some (hands.Queue held)
  here = sym (walk fixed x s m h w k heads sends row).held ∙ in_hand

  step : step_of (frame_place (controller_parts w)) ≡ walks.WriteBack
  step =
      writes_step (frame_place (controller_parts w)) held in_hand
      (no_fault fixed w row (record { standing = s; mixed = k.mixed })) outcome settled

  held_is : (g : HeldQueue) → ◌≡◌ {A = Option Hand} (Some (hands.Queue g)) (Some (hands.Queue held)) → g ≡ held
  held_is g same = cc

  settled_by : (c : Copy) (z : QueueSettlement) (made : ℕ) → s.frame ≡ OfSettled c z made
      → IsCopiedQueue (met w.driver s.recent) (both s.descs s.parts) c × IsQueueSettled c.queue w.control.frame.reply z
  settled_by c z made is =
      subst (IsInFrame (met w.driver s.recent) (both s.descs s.parts) w.control.frame.got w.control.frame.reply) is
      (walk fixed x s m h w k heads sends row).in_hand

  module _ (r : WritesQueue (both s.descs s.parts) w.control.frame s.frame (happens fixed x s m h w k heads sends row).now
      (happens fixed x s m h w k heads sends row).later) where
    worked : s.frame ≡ OfSettled r.copy r.settled r.made → IsWrittenSo (controller_next fixed w) held outcome
    worked is =
        let known = settled_by r.copy r.settled r.made is in
        let g : HeldQueue = record {
          copy = record { at = r.copy.at; queue_head = settled_in r.copy r.settled; settled = Some r.settled.outcome };
          made = r.made;
        } in
        let same : g ≡ held = held_is g (sym (ap frame_held is) ∙ here) in
        let can : CanBeWritten all r.copy.at r.copy.at r.copy.queue (settled_in r.copy r.settled) r.settled.got
        (received_into (all r.copy.at) r.copy.queue r.element r.settled.got) r.element = record {
          copy = record {
            head = known.0.here;
            range = settled_range r.copy r.settled w.control.frame.reply known.0.range known.1;
            front = (settled_facts r.copy r.settled).front;
          };
          element = ap (all r.copy.at) (settled_facts r.copy r.settled).current ∙ r.here;
          received = r.received_is;
        } in
        let stands : StandsOn new r.copy.at (settled_in r.copy r.settled) = record {
          queue = queue_written r.copy r.settled;
          read = head_read new.memory (happens fixed x s m h w k heads sends row).now r.copy.at r.copy.at (queue_written r.copy r.settled)
              (happens fixed x s m h w k heads sends row).frame.tells
              (ap (λ (ps : StructureSets). ps r.copy.at r.copy.at) r.now_is
              ∙ back_head all r.copy.at r.copy.at r.copy.queue (settled_in r.copy r.settled) (moved_by r.settled.outcome) r.settled.got
              (received_into (all r.copy.at) r.copy.queue r.element r.settled.got) r.element can);
          goes = written_on r.copy.queue (settled_in r.copy r.settled) (moved_by r.settled.outcome);
        } in
        record {
          stands = subst (λ (u : HeldQueue). StandsOn new u.copy.at u.copy.queue_head) same stands;
          over = λ wait.
              (happens fixed x s m h w k heads sends row).frame.walk.held ∙ ap frame_held r.later_is
              ∙ over_by r.made (settled_in r.copy r.settled) r.settled.outcome
              (same_Some r.settled.outcome outcome (ap (λ (u : HeldQueue). u.copy.settled) same ∙ settled) ∙ wait)
              (record r.copy { queue = queue_written r.copy r.settled });
        }

    missed : s.frame ≡ OfQueue r.copy r.made → IsWrittenSo (controller_next fixed w) held outcome
    missed is = absurd (unsettled (held_is (record {
      copy = record { at = r.copy.at; queue_head = copied_queue r.copy; settled = None };
      made = r.made;
    }) (sym (ap frame_held is) ∙ here)))
      where
        unsettled : ◌≡◌ {A = HeldQueue} (record {
          copy = record { at = r.copy.at; queue_head = copied_queue r.copy; settled = None };
          made = r.made;
        }) held → ⊥
        unsettled same = none_so outcome (ap (λ (u : HeldQueue). u.copy.settled) same ∙ settled)

    by_from : IsSettledFrom w.control.frame s.frame r.copy r.settled r.made
        → IsWrittenSo (controller_next fixed w) held outcome
    by_from (was_worked is) = worked is
    by_from (was_missed is turn same) = missed is

  -- what is in hand is a queue head's copy
  no_itd : (c : ItdCopy) → s.frame ≡ OfItd c → ⊥
  no_itd c is =
      let never : ◌≡◌ {A = Option Hand} (Some (hands.Itd c.held)) (Some (hands.Queue held)) = sym (ap frame_held is) ∙ here in cc never

  no_sitd : (c : SitdCopy) → s.frame ≡ OfSitd c → ⊥
  no_sitd c is =
      let never : ◌≡◌ {A = Option Hand} (Some (hands.Sitd c.held)) (Some (hands.Queue held)) = sym (ap frame_held is) ∙ here in cc never

  wrote : WritesOne (both s.descs s.parts) w.control.frame s.frame (happens fixed x s m h w k heads sends row).now
      (happens fixed x s m h w k heads sends row).later → IsWrittenSo (controller_next fixed w) held outcome
  wrote (of_queue r) = by_from r r.from
  wrote (of_itd r) = absurd (no_itd r.copy r.in_hand)
  wrote (of_sitd r) = absurd (no_sitd r.copy r.in_hand)

  by_effect : (kind : WalkStep) → kind ≡ walks.WriteBack
      → FrameEffect transacts_by (both s.descs s.parts) w.control.frame s.frame (wired fixed w) (wired fixed (controller_next fixed w))
      (happens fixed x s m h w k heads sends row).now (happens fixed x s m h w k heads sends row).later kind
      → IsWrittenSo (controller_next fixed w) held outcome
  by_effect _ is (fetches none r same quiet) = absurd (cc is)
  by_effect _ is (passes r nothing same quiet) = absurd (cc is)
  by_effect _ is (ends none nothing same quiet) = absurd (cc is)
  by_effect _ is (makes r same) = absurd (cc is)
  by_effect _ is (takes r quiet) = absurd (cc is)
  by_effect _ is (writes r quiet) = wrote r

  pub written_stands : IsWrittenSo (controller_next fixed w) held outcome
  written_stands =
      by_effect (step_of (frame_place (controller_parts w))) step (happens fixed x s m h w k heads sends row).effect

  -- .. and asks nothing
  bus_by : (kind : WalkStep) → kind ≡ walks.WriteBack
      → FrameEffect transacts_by (both s.descs s.parts) w.control.frame s.frame (wired fixed w) (wired fixed (controller_next fixed w))
      (happens fixed x s m h w k heads sends row).now (happens fixed x s m h w k heads sends row).later kind
      → (controller_next fixed w).bus ≡ w.bus
  bus_by _ is (fetches none r same quiet) = absurd (cc is)
  bus_by _ is (passes r nothing same quiet) = absurd (cc is)
  bus_by _ is (ends none nothing same quiet) = absurd (cc is)
  bus_by _ is (makes r same) = absurd (cc is)
  bus_by _ is (takes r quiet) = absurd (cc is)
  bus_by _ is (writes r quiet) = ap (λ (v : Wired). v.bus) quiet

  pub written_bus : (controller_next fixed w).bus ≡ w.bus
  written_bus = bus_by (step_of (frame_place (controller_parts w))) step (happens fixed x s m h w k heads sends row).effect
