-- In microframe 0 of a frame a host that waits for complete-splits finds that one was missed: its queue head is written back halted (EHCI
-- 1.0, 4.12.2.4.1).
use Rattle.std.proofs.Common.{◌≡◌, ◌≢◌, ℕ, ◌%◌, ◌*◌, Bool, true, false, not}
use Rattle.std.proofs.Common.{if◌then◌else◌, Option, Some, None, ⊎_elim, ap, refl, sym, subst, ◌∙◌}
use Rattle.std.specs.Prelude.{◌&&◌, ◌||◌, ◌==◌}
use Rattle.std.proofs.lemmas.Bool.{and_parts, and_from, true≢false, false≢true}
use Rattle.std.proofs.lemmas.Option.{same_Some}
use Rattle.qh_qtd.specs.declared.qtd.Qtd.{Qtd}
use Rattle.qh_qtd.specs.declared.queue_head.Qh.{Qh}
use Rattle.mem_queues.specs.Structures.{queue_head_at_address}
use Rattle.async_walk.specs.declared.state.WalkStep.{WalkStep}
use Rattle.async_walk.specs.declared.state.WalkStep.TheVariants as steps
use Rattle.hc_copy.specs.Overlay.{moved, settled_queue}
use Rattle.hc_copy.specs.Planning.{host_in}
use Rattle.hc_copy.specs.WriteBack.{moved_by as queue_moved_by}
use Rattle.law_ring.specs.Effects.{received_into}
use Rattle.hc_masks.specs.Masks.{has}
use Rattle.hc_interrupt.specs.declared.turns.Turn.{Turn}
use Rattle.hc_interrupt.specs.declared.turns.Turn.TheVariants as turns
use Rattle.hc_interrupt.specs.Copies.{goes_on}
use Rattle.hc_interrupt.specs.Turns.{microframe_of, waits, is_missed, complete_turn, start_turn, turn_of}
use Rattle.hc_copy.specs.Visits.{visit_of}
use Rattle.periodic_walk.specs.declared.queue.QueueRow.{QueueRow}
use Rattle.periodic_walk.specs.declared.queue.QueueRow.TheVariants as queues
use Rattle.periodic_walk.specs.declared.state.Hand.{Hand}
use Rattle.periodic_walk.specs.declared.state.Hand.TheVariants as hands
use Rattle.periodic_walk.specs.declared.state.HeldQueue.{HeldQueue}
use Rattle.periodic_walk.specs.Place.{FramePlace, reading}
use Rattle.periodic_walk.specs.Queue.{settled_row, turn_row, queue_row, queue_read, queue_step}
use Rattle.periodic_walk.specs.Rows.{step_of, step_at}
use Rattle.hc_core.specs.declared.controller.ControllerRow.TheVariants as rows
use Rattle.hc_core.specs.declared.controller.MicroframePart.TheVariants.{Periodic, Asynchronous}
use Rattle.hc_core.specs.Controller.{frame_place, part_after}
use Rattle.bus_wire.specs.Bus.{Fixed, Wired}
use Rattle.bus_world.specs.World.{World, controller_parts, controller_row, controller_next}
use Rattle.claims_base.specs.Controller.{opening_base}
use Rattle.law_structures.specs.lent_structures.Structures.{QueueHead, Element, Structure, Structures, StructureSets, Tells, put}
use Rattle.law_structures.specs.lent_structures.WriteBack.{received_parts, parts_back, qtd_after}
use Rattle.law_structures.proofs.lemmas.lent_structures.Altering.{found_queue}
use Rattle.law_structures.proofs.lemmas.lent_structures.Names.{put_same, put_else}
use Rattle.law_structures.proofs.lemmas.lent_structures.Reading.{head_read}
use Rattle.law_structures.specs.lent_structures.Changes.{relinked}
use Rattle.law_ring.specs.Hand.{Copy, Hand as RingHand, Empty, copied_queue}
use Rattle.law_frames.specs.Frame.{IsCopiedQueue, IsInFrame, IsFrameWalk}
use Rattle.law_frames.specs.FrameEffects.{FrameEffect, fetches, passes, ends, takes, makes, writes, WritesOne, of_queue, of_itd, of_sitd}
use Rattle.law_frames.specs.FrameEffects.{WritesQueue, IsSettledFrom, was_worked, was_missed, missed_settlement, after_back, queue_written}
use Rattle.law_frames.specs.FrameHand.{FrameHand, QueueSettlement, Nothing, OfQueue, OfSettled, OfItd, OfSitd, frame_held, settled_in}
use Rattle.law_controller.specs.frame_control.Joined.{joined}
use Rattle.law_descriptors.specs.Both.{both}
use Rattle.law_descriptors.specs.Meeting.{met}
use Rattle.law_descriptors.specs.PartLaws.{IsDescribing}
use Rattle.law_descriptors.proofs.Standing.{both_off}
use Rattle.law_descriptors.proofs.Telling.{queue_off}
use Rattle.law_below_hubs.specs.HostEvents.{hand_host}
use Rattle.law_world.specs.steps.Streaming.{transacts_by, wired}
use Rattle.law_world.specs.memory.Mixed.{Standing, IsMixedAt}
use Rattle.law_microframes.specs.time.DataQueues.{QueuesSendData}
use Rattle.law_microframes.specs.visits.Belonging.{HeadsHaveFields}
use Rattle.law_reports.specs.lines.Lined.{in_hand, Lines}
use Rattle.law_reports.specs.pipes.Declared.{Sides}
use Rattle.law_reports.specs.pipes.Piped.{Heads, IsPiped}
use Rattle.law_reports.specs.pipes.below_hubs.Inward.{is_late_host, may_be_late}
use Rattle.law_reports.specs.pipes.below_hubs.InwardLaws.{WaitsAt}
use Rattle.law_reports.specs.pipes.below_hubs.Late.{IsHeldAt}
use Rattle.law_reports.proofs.lemmas.due_at_begin.Asking.{happens, walk, walks}
use Rattle.law_reports.proofs.lemmas.due_at_begin.FrameMasks.{missed_at_first}
use Rattle.law_reports.proofs.lemmas.pipes.lemmas.below_hubs.LateLinks.{HasLateHead, late_head}

-- the structures of descriptors aside
pub its_parts : (s : Standing) (w : World) → IsMixedAt s w → (n : ℕ) (q : Qh) → s.parts n n ≡ Some (QueueHead q)
    → both s.descs s.parts n ≡ s.parts n
its_parts s w mixed n q head =
    let f = mixed.now.framed in
    let describing : IsDescribing w.driver s.descs s.parts =
    record { owners = f.place.sound.owners; driven = f.driven; described = f.described } in
    both_off s.descs s.parts n (queue_off w.driver s.descs s.parts describing n n (QueueHead q) head)

-- memory has it
pub its_read : (s : Standing) (w : World) → IsMixedAt s w → (n : ℕ) (q : Qh) → s.parts n n ≡ Some (QueueHead q)
    → queue_head_at_address w.memory n ≡ Some q
its_read s w mixed n q head =
    head_read w.memory (both s.descs s.parts) n n q mixed.now.framed.runs.ring.tells
    (ap (λ (ps : Structures). ps n) (its_parts s w mixed n q head) ∙ head)

same_hand : (one other : HeldQueue) → Some (hands.Queue one) ≡ Some (hands.Queue other) → one ≡ other
same_hand one other e = cc

hand_frame : (f : FrameHand) → None ≡ frame_held f → f ≡ Nothing
hand_frame Nothing is = refl
hand_frame (OfQueue c made) is = absurd cc
hand_frame (OfSettled c z made) is = absurd cc
hand_frame (OfItd c) is = absurd cc
hand_frame (OfSitd c) is = absurd cc

same_queue_hand : (b c : Copy) (i j : ℕ) → OfQueue b i ≡ OfQueue c j → b ≡ c
same_queue_hand b c i j e = cc

no_kind : (b : Bool) (kind : WalkStep) → kind ≢ steps.WriteBack → kind ≢ steps.Fault → kind ≡ (if b then steps.WriteBack else steps.Fault) → ⊥
no_kind true kind one two is = one is
no_kind false kind one two is = two is

back_is : (parts : StructureSets) (at current : ℕ) (z : Qh) (e : Qtd) → at ≢ current
    → put (put parts at at (QueueHead z)) at current (Element e) at at ≡ Some (QueueHead z)
back_is parts at current z e differs =
    put_else (put parts at at (QueueHead z)) at current (Element e) at differs ∙ put_same parts at at (QueueHead z)

module _ (fixed : Fixed) (x : Sides) (w : World) (n : ℕ) (late : WaitsAt fixed x w n) (heads : HeadsHaveFields w.driver w.memory)
    (sends : QueuesSendData w.driver w.memory) (row : controller_row w ≡ rows.Frame) (held : IsHeldAt w n)
    (zero : w.control.frame.index % 8 ≡ 0) where
  abbrev s : Standing
  s = late.standing

  abbrev m : Lines
  m = late.lines

  abbrev h : Heads
  h = late.heads

  k : IsPiped fixed x late.standing late.lines late.heads w
  k = late.piped

  its : HasLateHead late.standing n
  its = late_head late.standing n late.late

  walking : IsFrameWalk (met w.driver late.standing.recent) (both late.standing.descs late.standing.parts) late.standing.frame
      (frame_place (controller_parts w))
  walking = walk fixed x late.standing late.lines late.heads w late.piped heads sends row

  record IsCopy : Type 0 where
    copy : Copy
    made : ℕ
    frame : late.standing.frame ≡ OfQueue copy made
    at : copy.at ≡ n
    queue_is : held.held.copy.queue_head ≡ copied_queue copy

  is_copy : IsCopy
  is_copy = by late.standing.frame refl
    where
      by : (g : FrameHand) → late.standing.frame ≡ g → IsCopy
      by (OfQueue c made) is =
          let one = same_hand held.held _ (sym held.in_hand ∙ walking.held ∙ ap frame_held is) in
          record {
            copy = c;
            made = made;
            frame = is;
            at = sym (ap (λ (u : HeldQueue). u.copy.at) one) ∙ held.at;
            queue_is = ap (λ (u : HeldQueue). u.copy.queue_head) one;
          }
      by (OfSettled c z made) is =
          let one = same_hand held.held _ (sym held.in_hand ∙ walking.held ∙ ap frame_held is) in
          absurd (let e = sym held.unsettled ∙ ap (λ (u : HeldQueue). u.copy.settled) one in cc)
      by g is = absurd (let e = sym held.in_hand ∙ walking.held ∙ ap frame_held is in cc)

  abbrev c : Copy
  c = is_copy.copy

  copied : IsCopiedQueue (met w.driver late.standing.recent) (both late.standing.descs late.standing.parts) is_copy.copy
  copied =
      subst (IsInFrame (met w.driver late.standing.recent) (both late.standing.descs late.standing.parts) w.control.frame.got
      w.control.frame.reply) is_copy.frame walking.in_hand

  here : late.standing.parts n n ≡ Some (QueueHead is_copy.copy.queue)
  here =
      ap (λ (ps : Structures). ps n) (sym (its_parts s w late.piped.mixed n its.queue its.head))
      ∙ ap (λ (j : ℕ). both s.descs s.parts j j) (sym is_copy.at) ∙ copied.here

  queue_same : its.queue ≡ is_copy.copy.queue
  queue_same = found_queue (s.parts n n) its.queue c.queue its.head here

  host_waits : is_late_host (host_in is_copy.copy.queue) ≡ true
  host_waits =
      ap (λ (q : Qh). is_late_host (host_in q)) (sym queue_same)
      ∙ sym (ap (λ (f : FrameHand). is_late_host (hand_host (joined s.hand f) n its.queue)) is_copy.frame) ∙ its.late

  waits_on : waits is_copy.copy.queue ≡ true
  waits_on =
      let q : Qh = c.queue in
      let both_are = and_parts q.token.active (q.token.split_state && not q.token.halted) host_waits in
      let inner = and_parts q.token.split_state (not q.token.halted) both_are.1 in
      and_from (not (q.eps == 2)) (q.token.split_state && (q.token.active && not q.token.halted))
      (ap (λ (b : Bool). not b) (ap (λ (v : Qh). v.eps == 2) (sym queue_same) ∙ its.slow))
      (and_from q.token.split_state (q.token.active && not q.token.halted) inner.0
      (and_from q.token.active (not q.token.halted) both_are.0 inner.1))

  turn : turn_of w.control.frame.index is_copy.copy.queue ≡ turns.Miss
  turn =
      let f : ℕ = w.control.frame.index in
      let q : Qh = c.queue in
      ap (λ (b : Bool). if b then complete_turn (is_missed f q) (has q.cmask (microframe_of f))
      else start_turn (visit_of (has q.smask (microframe_of f)) q)) waits_on
      ∙ ap (λ (b : Bool). complete_turn b (has q.cmask (microframe_of f))) (missed_at_first f q zero)

  -- ---- the event

  row_is : queue_row (frame_place (controller_parts w)) held.held ≡ queues.Miss
  row_is =
      let p : FramePlace = frame_place (controller_parts w) in
      ap (settled_row p.memory p.walk.left p.walk.index held.held.copy.queue_head) held.unsettled
      ∙ ap (λ (q : Qh). turn_row p.memory p.walk.left q (turn_of p.walk.index q)) is_copy.queue_is
      ∙ ap (turn_row p.memory p.walk.left (copied_queue c)) turn

  record IsStep : Type 0 where
    all : Bool
    is : step_of (frame_place (controller_parts w)) ≡ (if all then steps.WriteBack else steps.Fault)

  is_step : IsStep
  is_step =
      let p : FramePlace = frame_place (controller_parts w) in
      record {
        all = _;
        is = ap (step_at p) held.in_hand
            ∙ ap (λ (r : QueueRow). queue_step r held.held (reading (queue_read p held.held) p)) row_is;
      }

  abbrev now : StructureSets
  now = (happens fixed x late.standing late.lines late.heads w late.piped heads sends row).now

  abbrev later : FrameHand
  later = (happens fixed x late.standing late.lines late.heads w late.piped heads sends row).later

  record IsWritten : Type 0 where
    queue : Qh
    here : (happens fixed x late.standing late.lines late.heads w late.piped heads sends row).now n n ≡ Some (QueueHead queue)
    halted : queue.token.halted ≡ true
    nothing : (happens fixed x late.standing late.lines late.heads w late.piped heads sends row).later ≡ Nothing

  missed_goes : (made : ℕ) (a : Copy) → goes_on made (settled_in a (missed_settlement a.queue)) (missed_settlement a.queue).outcome ≡ false
  unfolding settled_queue
  missed_goes made a = refl

  missed_halted : (a : Copy) (count : ℕ) → (relinked a.queue (moved (settled_in a (missed_settlement a.queue)) count)).token.halted ≡ true
  unfolding settled_queue moved
  missed_halted a count = refl

  current_is : (a : Copy) (z : QueueSettlement) → (settled_in a z).current ≡ a.queue.current
  unfolding settled_queue
  current_is a z = refl

  no_element : (q : Qh) (t : Qtd) → ◌≡◌ {A = Option Structure} (Some (QueueHead q)) (Some (Element t)) → ⊥
  no_element q t e = cc

  by_queue : (r : WritesQueue (both late.standing.descs late.standing.parts) w.control.frame late.standing.frame
      (happens fixed x late.standing late.lines late.heads w late.piped heads sends row).now
      (happens fixed x late.standing late.lines late.heads w late.piped heads sends row).later)
      → r.copy ≡ is_copy.copy → r.settled ≡ missed_settlement r.copy.queue → IsWritten
  by_queue r one missed =
      let all : StructureSets = both s.descs s.parts in
      let at : r.copy.at ≡ n = ap (λ (v : Copy). v.at) one ∙ is_copy.at in
      let head : all r.copy.at r.copy.at ≡ Some (QueueHead r.copy.queue) =
      subst (λ (v : Copy). all v.at v.at ≡ Some (QueueHead v.queue)) (sym one) copied.here in
      let differs : r.copy.at ≢ (settled_in r.copy r.settled).current =
      λ same. no_element r.copy.queue r.element
      (sym head ∙ ap (all r.copy.at) (same ∙ current_is r.copy r.settled) ∙ r.here) in
      let count : ℕ = queue_moved_by r.settled.outcome in
      let z : Qh = relinked r.copy.queue (moved (settled_in r.copy r.settled) count) in
      record {
        queue = z;
        here = ap (λ (i : ℕ). now i i) (sym at) ∙ ap (λ (ps : StructureSets). ps r.copy.at r.copy.at) r.now_is
            ∙ back_is (received_parts all r.copy.at r.settled.got (received_into (all r.copy.at) r.copy.queue r.element r.settled.got))
            r.copy.at (settled_in r.copy r.settled).current z (qtd_after (moved (settled_in r.copy r.settled) count) r.element) differs;
        halted = ap (λ (y : QueueSettlement). (relinked r.copy.queue (moved (settled_in r.copy y) count)).token.halted) missed
            ∙ missed_halted r.copy count;
        nothing = r.later_is ∙ ap (λ (y : QueueSettlement). after_back r.copy y r.made) missed
            ∙ ap (λ (b : Bool). if b then OfQueue (record r.copy { queue = queue_written r.copy (missed_settlement r.copy.queue) }) r.made else Nothing)
            (missed_goes r.made r.copy);
      }

  by_one : WritesOne (both late.standing.descs late.standing.parts) w.control.frame late.standing.frame
      (happens fixed x late.standing late.lines late.heads w late.piped heads sends row).now
      (happens fixed x late.standing late.lines late.heads w late.piped heads sends row).later → IsWritten
  by_one (of_queue r) = by r.from
    where
      by : IsSettledFrom w.control.frame late.standing.frame r.copy r.settled r.made → IsWritten
      by (was_worked is) = absurd (let e : OfQueue c is_copy.made ≡ OfSettled r.copy r.settled r.made = sym is_copy.frame ∙ is in cc)
      by (was_missed is turn_is missed) =
          by_queue r (sym (same_queue_hand c r.copy is_copy.made r.made (sym is_copy.frame ∙ is))) missed
  by_one (of_itd r) = absurd (let e : OfQueue c is_copy.made ≡ OfItd r.copy = sym is_copy.frame ∙ r.in_hand in cc)
  by_one (of_sitd r) = absurd (let e : OfQueue c is_copy.made ≡ OfSitd r.copy = sym is_copy.frame ∙ r.in_hand in cc)

  by_effect : (kind : WalkStep) → kind ≡ (if is_step.all then steps.WriteBack else steps.Fault)
      → FrameEffect transacts_by (both late.standing.descs late.standing.parts) w.control.frame late.standing.frame (wired fixed w)
      (wired fixed (controller_next fixed w)) (happens fixed x late.standing late.lines late.heads w late.piped heads sends row).now
      (happens fixed x late.standing late.lines late.heads w late.piped heads sends row).later kind → IsWritten × (kind ≡ steps.WriteBack)
  by_effect _ is (fetches none r same quiet) = absurd (no_kind is_step.all steps.Fetch (λ e. cc e) (λ e. cc e) is)
  by_effect _ is (passes r nothing same quiet) = absurd (no_kind is_step.all steps.Skip (λ e. cc e) (λ e. cc e) is)
  by_effect _ is (ends none nothing same quiet) = absurd (no_kind is_step.all steps.Ended (λ e. cc e) (λ e. cc e) is)
  by_effect _ is (takes r quiet) = absurd (no_kind is_step.all steps.Advance (λ e. cc e) (λ e. cc e) is)
  by_effect _ is (makes r same) = absurd (no_kind is_step.all steps.Transact (λ e. cc e) (λ e. cc e) is)
  by_effect _ is (writes r quiet) = (by_one r, refl)

  both_known : IsWritten × (step_of (frame_place (controller_parts w)) ≡ steps.WriteBack)
  both_known =
      by_effect (step_of (frame_place (controller_parts w))) is_step.is
      (happens fixed x late.standing late.lines late.heads w late.piped heads sends row).effect

  written : IsWritten
  written = both_known.0

  part_then : (controller_next fixed w).control.part ≡ Periodic
  part_then =
      (walks fixed x late.standing late.lines late.heads w late.piped heads sends row).part
      ∙ ap (part_after Periodic) both_known.1

  -- ---- then it waits no more

  read_then : queue_head_at_address (controller_next fixed w).memory n ≡ Some written.queue
  read_then =
      head_read (controller_next fixed w).memory now n n written.queue
      (happens fixed x late.standing late.lines late.heads w late.piped heads sends row).frame.tells written.here

  hand_then : (controller_next fixed w).control.frame.hand ≡ None
  hand_then = (happens fixed x late.standing late.lines late.heads w late.piped heads sends row).frame.walk.held ∙ ap frame_held written.nothing

  pub misses_then : WaitsAt fixed x (controller_next fixed w) n → ⊥
  misses_then new =
      let part : (controller_next fixed w).control.part ≡ Periodic = part_then in
      let t : Standing = new.standing in
      let u : HasLateHead new.standing n = late_head new.standing n new.late in
      let same : u.queue ≡ written.queue =
      same_Some u.queue written.queue (sym (its_read t (controller_next fixed w) new.piped.mixed n u.queue u.head) ∙ read_then) in
      let frame : new.standing.frame ≡ Nothing =
      hand_frame new.standing.frame (sym hand_then ∙ (new.piped.mixed.now.framed.runs.walk part).held) in
      let ring : new.standing.hand ≡ Empty = new.piped.mixed.now.framed.runs.between (λ over. never (sym part ∙ over)) in
      let waits_still : is_late_host (host_in written.queue) ≡ true =
      ap (λ (q : Qh). is_late_host (host_in q)) (sym same)
      ∙ sym (ap (λ (hand : RingHand). is_late_host (hand_host (joined hand Nothing) n u.queue)) ring)
      ∙ sym (ap (λ (f : FrameHand). is_late_host (hand_host (joined t.hand f) n u.queue)) frame) ∙ u.late in
      let both_are = and_parts written.queue.token.active (written.queue.token.split_state && not written.queue.token.halted) waits_still in
      let inner = and_parts written.queue.token.split_state (not written.queue.token.halted) both_are.1 in
      false≢true (ap (λ (b : Bool). not b) (sym written.halted) ∙ inner.1)
    where
      never : Periodic ≡ Asynchronous → ⊥
      never e = cc
