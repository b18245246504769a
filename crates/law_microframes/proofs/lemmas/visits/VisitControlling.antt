-- Each event of the controller goes on with the visits.
use Rattle.std.proofs.Common.{◌≡◌, ◌≢◌, ℕ, ◌+◌, ◌*◌, ◌/◌, ◌%◌, ◌^◌, ◌<◌, ◌⊎◌, Bool, true, false, ◌&&◌, not, if◌then◌else◌, inl, inr, List, [], Option, Some, None, ⊎_elim, ap, refl, sym, subst, ◌∙◌}
use Rattle.std.proofs.lemmas.Bool.{false≢true}
use Rattle.usb_base.specs.declared.packets.Ask.{Ask}
use Rattle.usb_base.specs.declared.packets.Reply.{Reply}
use Rattle.word_mem.specs.Memory.{word_at, reaches}
use Rattle.link_words.specs.Links.{link_read}
use Rattle.drv_chains.specs.declared.members.Predecessor.TheVariants.{Element}
use Rattle.drv_chains.specs.Chains.{stands_in}
use Rattle.drv_periodic.specs.Periodic.{address_of}
use Rattle.op_registers.specs.RegisterFile.{RegisterFile, levels_of}
use Rattle.op_registers.specs.Events.{after_begin}
use Rattle.async_walk.specs.declared.state.WalkStep.TheVariants as walks
use Rattle.periodic_walk.specs.declared.state.Hand.{Hand}
use Rattle.periodic_walk.specs.Walk.{Walk as FrameWalk, is_over}
use Rattle.hc_core.specs.declared.controller.MicroframePart.{MicroframePart}
use Rattle.hc_core.specs.declared.controller.MicroframePart.TheVariants.{Over, Periodic, Asynchronous}
use Rattle.hc_core.specs.declared.controller.ControllerRow.{ControllerRow}
use Rattle.hc_core.specs.declared.controller.ControllerRow.TheVariants as rows
use Rattle.hc_core.specs.Controller.{Control, Content, part_row, enter_row, element_address, begun_at, entered, frame_place, frame_step, walk_place, HasRow}
use Rattle.std.proofs.lemmas.Option.{same_Some}
use Rattle.law_frames.proofs.Common.{none_some}
use Rattle.law_controller.proofs.Common.{ring_off}
use Rattle.law_microframes.proofs.Common.{in_list}
use Rattle.law_world.proofs.Common.{not_idle, begins_over}
use Rattle.drv_periodic_table.specs.Periodic.{note_at}
use Rattle.drv_periodic_table.specs.Descriptors.{is_served}
use Rattle.drv_table.specs.declared.content.Transfer.{Transfer}
use Rattle.drv_table.specs.DriverContent.{DriverContent}
use Rattle.claims_base.specs.Controller.{opening_base, Base}
use Rattle.law_structures.specs.lent_structures.Structures.{StructureSets}
use Rattle.law_frames.specs.Met.{Kind}
use Rattle.law_frames.proofs.Walking.{event_happens}
use Rattle.law_controller.specs.frame_control.Both.{ControlsBoth}
use Rattle.law_controller.proofs.lemmas.frame_control.Running.{each_event_of_the_controller_over_both}
use Rattle.law_descriptors.specs.frame_keeps.Leaving.{LeavesStructures}
use Rattle.law_descriptors.proofs.lemmas.kept_frames.Both.{events_leave_words}
use Rattle.law_descriptors.specs.Both.{both}
use Rattle.law_descriptors.specs.Meeting.{kind_of, standing, or_recent, no_recent, met}
use Rattle.law_descriptors.specs.Recent.{AreRecent}
use Rattle.law_descriptors.specs.RowLaws.{HasFrames}
use Rattle.bus_wire.specs.Bus.{Fixed}
use Rattle.bus_world.specs.World.{World, controller_parts, controller_row, controller_next}
use Rattle.law_world.specs.steps.Streaming.{begins_by, transacts_by, wired}
use Rattle.law_world.proofs.lemmas.steps.StreamTurning.{world_has_row}
use Rattle.law_world.proofs.lemmas.steps.lemmas.world_bytes.Hearing.{a_bus_of_bytes_is_heard_as_bytes}
use Rattle.law_world.specs.memory.Mixed.{Standing, IsMixedAt}
use Rattle.law_world.specs.memory.framed_memory.Now.{recent_then}
use Rattle.law_world.proofs.lemmas.memory.lemmas.framed_memory.Now.{now_has_frames, begins_there}
use Rattle.law_world.proofs.lemmas.memory.lemmas.framed_memory.Index.{ring_index, frame_index}
use Rattle.law_world.proofs.lemmas.memory.Controller.{controller_keeps_mixed}
use Rattle.law_microframes.specs.visits.OneDescriptor.{IsActiveDescriptor, WasActive}
use Rattle.law_microframes.specs.visits.Began.{began_at, began_by}
use Rattle.law_microframes.specs.visits.Ranks.{name_of, next_of, IsRanked}
use Rattle.claims_world.specs.Visits.{IsInChain, IsLedTo, visits_after, frame_in, HasVisited}
use Rattle.law_microframes.specs.visits.Visited.{link_ahead, IsNext, IsBehind, IsActiveAs, IsFramedAs, GoesAhead, StandsIn, IsToCome, LeavesNoneOut, VisitsGoOn, VisitsGoOnAt}
use Rattle.law_microframes.specs.visits.VisitLaws.{ControllerKeepsVisiting}
use Rattle.law_microframes.proofs.lemmas.visits.AheadWalking.{goes_to}
use Rattle.law_microframes.proofs.lemmas.visits.DriverGoesOn.{linked_stands}
use Rattle.law_microframes.proofs.lemmas.visits.NoneLeft.{way_stays}
use Rattle.law_microframes.proofs.lemmas.visits.NoneLeftWalking.{IsPast, index_stays, comes_next}
use Rattle.law_microframes.proofs.lemmas.visits.NoneLeftWorlds.{in_chain_stands}
use Rattle.law_microframes.proofs.lemmas.visits.ReasonTexts.{never_faults}
use Rattle.law_microframes.proofs.lemmas.visits.OneDescriptorWorlds.{controller_starts_none}
use Rattle.law_microframes.proofs.lemmas.visits.InFramesFetched.{all_after}
use Rattle.law_microframes.proofs.lemmas.visits.VisitLinks.{next_stays}
use Rattle.law_microframes.proofs.lemmas.visits.VisitMeeting.{visits_meet_now}
use Rattle.law_microframes.proofs.lemmas.visits.VisitElements.{LeadsToOne, element_stands}
use Rattle.law_microframes.proofs.lemmas.visits.VisitStays.{ranked_stays}
use Rattle.law_microframes.proofs.lemmas.visits.VisitWalking.{behind_next}

-- ---- which part of a microframe it is

begin_no_frame : rows.Begin ≡ rows.Frame → ⊥
begin_no_frame is = cc

enter_no_begin : rows.Enter ≡ rows.Begin → ⊥
enter_no_begin is = cc

go_no_begin : rows.Go ≡ rows.Begin → ⊥
go_no_begin is = cc

end_no_begin : rows.End ≡ rows.Begin → ⊥
end_no_begin is = cc

idle_no_frame : rows.Idle ≡ rows.Frame → ⊥
idle_no_frame is = cc

part_periodic : (r : RegisterFile) (frame : FrameWalk) (part : MicroframePart) → part_row r frame part ≡ rows.Frame → part ≡ Periodic
part_periodic r frame Over is = absurd (begin_no_frame is)
part_periodic r frame Periodic is = refl
part_periodic r frame Asynchronous is = absurd (ring_off r.async_enable is)

pub frame_periodic : (runs : Bool) (r : RegisterFile) (frame : FrameWalk) (part : MicroframePart) → (if runs then part_row r frame part else rows.Idle) ≡ rows.Frame → part ≡ Periodic
frame_periodic true r frame part is = part_periodic r frame part is
frame_periodic false r frame part is = absurd (idle_no_frame is)

-- past the walk of the frames it is over
goes_over : (over async : Bool) (r : ControllerRow) → (if not over then rows.Frame else enter_row async) ≡ r → IsPast r → over ≡ true
goes_over true async r is past = refl
goes_over false async r is past = absurd (subst IsPast (sym is) past)

part_over_by : (r : RegisterFile) (frame : FrameWalk) (part : MicroframePart) (row : ControllerRow) → part_row r frame part ≡ row
    → IsPast row → r.periodic_enable ≡ true → part ≡ Periodic
    → is_over frame ≡ true
part_over_by r frame part row is past on periodic =
    goes_over (is_over frame) r.async_enable row
    (ap (λ (b : Bool). if b && not (is_over frame) then rows.Frame else enter_row r.async_enable) (sym on)
    ∙ ap (part_row r frame) (sym periodic) ∙ is) past

pub past_over : (runs : Bool) (r : RegisterFile) (frame : FrameWalk) (part : MicroframePart) (row : ControllerRow)
    → (if runs then part_row r frame part else rows.Idle) ≡ row → IsPast row
    → r.periodic_enable ≡ true → part ≡ Periodic → is_over frame ≡ true
past_over true r frame part row is past on periodic = part_over_by r frame part row is past on periodic
past_over false r frame part row is past on periodic = absurd (subst IsPast (sym is) past)

-- ---- what was unlinked

module _ {W : Type 0} (begins_with : W → ℕ → Bool → W → Type 0) (transacts : W → Ask → List ℕ → Reply → W → Type 0) (d : DriverContent) (left : ℕ → Option Kind) (c : Content) (wire : W) (n : Content)
    (after : W) (are : AreRecent d c.registers.frame_index left) where
  still : n.registers.frame_index ≡ c.registers.frame_index → AreRecent d n.registers.frame_index left
  still same k kind is = subst (λ (i : ℕ). AreRecent d i left) (sym same) are k kind is

  left_next : (r : ControllerRow) → HasRow begins_with transacts r c wire n after → AreRecent d n.registers.frame_index (recent_then r left)
  left_next rows.Begin row = λ k kind is. absurd (none_some kind is)
  left_next rows.Frame row = still (frame_index transacts (frame_place c) wire (frame_place n) after row.walked)
  left_next rows.Enter row = still (ring_index transacts (walk_place (entered c)) wire (walk_place n) after row.walked)
  left_next rows.Go row = still (ring_index transacts (walk_place c) wire (walk_place n) after row.walked)
  left_next _ row = still (ap (λ (x : Content). x.registers.frame_index) row.0)

-- ---- the world

module _ (fixed : Fixed) (s : Standing) (start w : World) (vs : List ℕ) (k : IsMixedAt s w) (g : VisitsGoOnAt s start w vs) where
  abbrev new : World
  new = controller_next fixed w

  abbrev all : StructureSets
  all = both s.descs s.parts

  frames : HasFrames w.memory w.driver
  frames = now_has_frames opening_base s.member s.recent s.descs s.parts s.hand s.frame (controller_parts w) w.driver k.now

  abbrev Events : Type 0
  Events = ControlsBoth begins_by transacts_by opening_base s.member (met w.driver s.recent) (both s.descs s.parts) s.hand s.frame w.control (wired fixed w) (wired fixed (controller_next fixed w))
      (controller_parts (controller_next fixed w))

  event : Events
  event =
      each_event_of_the_controller_over_both begins_by transacts_by opening_base s.member (met w.driver s.recent) (both s.descs s.parts) s.hand s.frame (controller_parts w) (wired fixed w) (controller_parts (controller_next fixed w))
      (wired fixed (controller_next fixed w)) (event_happens transacts_by (met w.driver s.recent) (both s.descs s.parts) s.frame) k.now.framed.runs
      (record { run = k.now.framed.operating.run; async_enable = k.now.framed.operating.async_enable })
      (a_bus_of_bytes_is_heard_as_bytes fixed w k.bytes (wired fixed (controller_next fixed w))) (world_has_row fixed w)

  leaves : LeavesStructures (both s.descs s.parts) w.memory (controller_next fixed w).memory
  leaves =
      events_leave_words begins_by transacts_by opening_base s.member (met w.driver s.recent) (both s.descs s.parts) s.hand s.frame (controller_parts w) (wired fixed w) (controller_parts (controller_next fixed w))
      (wired fixed (controller_next fixed w)) k.now.framed.runs k.now.framed.aligned (world_has_row fixed w) event

  link_stays : (n : ℕ) → g.visits.kept n ≡ true → next_of (controller_next fixed w).memory n ≡ next_of w.memory n
  link_stays n on =
      let here = g.within n on in
      next_stays (met w.driver s.recent) w.memory (controller_next fixed w).memory (both s.descs s.parts) n here.0 leaves k.now.framed.runs.members here.1

  base_is : (after_begin w.registers).periodic_list_base ≡ 32 * w.driver.periodic.list.list
  base_is =
      ap (λ (x : Base). x.periodic_list_base) k.now.framed.runs.ring.registers
      ∙ begins_there opening_base s.member s.recent s.descs s.parts s.hand s.frame (controller_parts w) w.driver k.now

  size_is : w.registers.list_size ≡ 0
  size_is = ap (λ (x : Base). x.list_size) k.now.framed.runs.ring.registers

  first : (to : ℕ) → name_of (link_read (word_at w.memory (element_address (after_begin w.registers)))) ≡ Some to
      → IsNext g.visits.kept g.visits.height g.visits.who (frame_in (after_begin w.registers).frame_index) [] to
  first to is =
      let f : ℕ = frame_in (after_begin w.registers).frame_index in
      let at : word_at w.memory (element_address (after_begin w.registers)) ≡ word_at w.memory (address_of w.driver.periodic.list.list (Element (frame_in (after_begin w.registers).frame_index)))
      = ap (λ (n : ℕ). word_at w.memory ((after_begin w.registers).periodic_list_base + 4 * ((after_begin w.registers).frame_index / 8 % 2 ^ levels_of n))) size_is
      ∙ ap (λ (a : ℕ). word_at w.memory (a + 4 * frame_in (after_begin w.registers).frame_index)) base_is in
      let one : LeadsToOne w.driver (frame_in (after_begin w.registers).frame_index) to
      = element_stands w.memory w.driver frames (frame_in (after_begin w.registers).frame_index) to (in_list (after_begin w.registers).frame_index)
      (ap (λ (x : ℕ). name_of (link_read x)) (sym at) ∙ is) in
      let who_is : g.visits.who to ≡ one.member = ap g.visits.who (sym one.at) ∙ g.visits.ranked.stand one.member one.linked in
      record {
        is_kept = g.visits.ranked.standing_are to one.kind one.standing_is;
        stands = ap (stands_in (frame_in (after_begin w.registers).frame_index)) who_is ∙ one.stands;
        below = tt;
      }

  abbrev Then : Type 0
  Then = IsBehind w.driver (recent_then (controller_row w) g.visits.left) g.visits.kept g.visits.height g.visits.who (controller_next fixed w).control (visits_after (controller_row w) (controller_parts w) vs)

  ranked_then : IsRanked (controller_next fixed w).memory w.driver g.visits.kept g.visits.height g.visits.who
  ranked_then = ranked_stays w.memory (controller_next fixed w).memory w.driver g.visits.kept g.visits.height g.visits.who frames link_stays g.visits.ranked

  behind_then : Then
  behind_then = behind_next begins_by transacts_by w.driver g.visits.left g.visits.kept g.visits.height g.visits.who (controller_parts w) (wired fixed w) (controller_parts (controller_next fixed w))
      (wired fixed (controller_next fixed w)) vs g.visits.ranked g.visits.behind g.left_within (controller_row w)
      (λ is. begins_over w.registers.run w.registers w.control.frame w.control.part is) (λ is. frame_periodic w.registers.run w.registers w.control.frame w.control.part is) first (world_has_row fixed w)

  -- ---- to which the walk may go on

  none_started : (e f n : ℕ) → IsActiveDescriptor (controller_next fixed w).driver (controller_next fixed w).memory e f n → IsActiveDescriptor w.driver w.memory e f n
  none_started e f n a =
      let was : WasActive w.driver w.memory (controller_next fixed w).driver a.number a.transfer
      = controller_starts_none fixed w a.number a.transfer (record { standing = s; mixed = k })
      (record { here = a.here; descriptor = a.descriptor; held = a.held; active = a.active }) in
      record {
        number = a.number;
        transfer = a.transfer;
        here = a.here;
        descriptor = a.descriptor;
        held = a.held;
        lent = a.lent;
        endpoint = a.endpoint;
        frame = a.frame;
        at = a.at;
        active = subst (λ (y : Transfer). is_served (note_at w.driver.periodic.notes y.first) w.memory y.first ≡ false)
            (same_Some was.transfer a.transfer (sym was.was.here ∙ a.here)) was.was.active;
      }

  -- a microframe goes on
  goes_on : (r : ControllerRow) → controller_row w ≡ r → (r ≡ rows.Begin → ⊥) → GoesAhead start (controller_next fixed w) g.visits.kept
  goes_on r is other = record {
    ahead = g.visits.goes.ahead;
    are_kept = g.visits.goes.are_kept;
    closed = λ n to on next. g.visits.goes.closed n to on (sym (link_stays n (g.visits.goes.are_kept n on)) ∙ next);
    next = goes_to begins_by transacts_by g.visits.goes.ahead (controller_parts w) (wired fixed w) (controller_parts (controller_next fixed w)) (wired fixed (controller_next fixed w))
        g.visits.goes.closed g.visits.goes.next (controller_row w) (λ begins. other (sym is ∙ begins))
        (λ frame. frame_periodic w.registers.run w.registers w.control.frame w.control.part frame) (world_has_row fixed w);
    first = g.visits.goes.first;
    old = λ e f n on a. g.visits.goes.old e f n on (none_started e f n a);
  }

  goes_by : (r : ControllerRow) → controller_row w ≡ r → GoesAhead (began_at r w start) (controller_next fixed w) g.visits.kept
  goes_by rows.Begin is = record {
    ahead = g.visits.kept;
    are_kept = λ n on. on;
    closed = ranked_then.closed;
    next = λ to part leads. (behind_then.next to part leads).is_kept;
    first = g.visits.goes.first;
    old = λ e f n on a. none_started e f n a;
  }
  goes_by rows.Idle is = goes_on rows.Idle is (λ same. not_idle same)
  goes_by rows.Frame is = goes_on rows.Frame is (λ same. begin_no_frame (sym same))
  goes_by rows.Enter is = goes_on rows.Enter is (λ same. enter_no_begin same)
  goes_by rows.Go is = goes_on rows.Go is (λ same. go_no_begin same)
  goes_by rows.End is = goes_on rows.End is (λ same. end_no_begin same)

  -- ---- none is left out

  run_then : (controller_next fixed w).registers.run ≡ true
  run_then =
      let n = controller_keeps_mixed fixed w (record { standing = s; mixed = k }) in
      ap (λ (x : Base). x.run) n.mixed.now.framed.runs.ring.registers

  no_fault : controller_row w ≡ rows.Frame → frame_step (controller_parts w) ≢ walks.Fault
  no_fault is = never_faults w (record { standing = s; mixed = k }) is

  enabled : w.registers.periodic_enable ≡ true
  enabled = ap (λ (x : Base). x.periodic_enable) k.now.framed.runs.ring.registers

  over_now : (r : ControllerRow) → controller_row w ≡ r → IsPast r → w.control.part ≡ Periodic → is_over w.control.frame ≡ true
  over_now r is past part = past_over w.registers.run w.registers w.control.frame w.control.part r is past enabled part

  abbrev Out : ControllerRow → Type 0
  Out r = LeavesNoneOut (began_at r w start) (controller_next fixed w).memory w.driver (controller_next fixed w).control
      (recent_then r g.visits.left) (visits_after r (controller_parts w) vs)

  -- in new memory, by where the walk goes on
  moves : (n : ℕ) → IsToCome w.memory (controller_next fixed w).control n
      → IsToCome (controller_next fixed w).memory (controller_next fixed w).control n
  moves n t = record {
    periodic = t.periodic;
    leads = way_stays w.memory (controller_next fixed w).memory g.visits.kept n
        (name_of (link_ahead (controller_next fixed w).control.frame.hand (controller_next fixed w).control.frame.cursor))
        g.visits.ranked.closed link_stays
        (λ a is. (behind_then.next a t.periodic is).is_kept) t.leads;
  }

  none_on : (r : ControllerRow) → controller_row w ≡ r → (r ≡ rows.Begin → ⊥)
      → HasRow begins_by transacts_by r (controller_parts w) (wired fixed w) (controller_parts (controller_next fixed w))
      (wired fixed (controller_next fixed w))
      → LeavesNoneOut start (controller_next fixed w).memory w.driver (controller_next fixed w).control g.visits.left
      (visits_after r (controller_parts w) vs)
  none_on r is other row =
      let same : w.control.frame.index ≡ (controller_next fixed w).control.frame.index
      = sym (index_stays begins_by transacts_by (controller_parts w) (wired fixed w) (controller_parts (controller_next fixed w))
      (wired fixed (controller_next fixed w)) r other row) in
      record {
        were_met = subst (λ (i : ℕ). (n : ℕ) → IsInChain start (frame_in i) n → (kind : Kind) × (met w.driver g.visits.left n ≡ Some kind))
            same g.visits.none.were_met;
        each = λ n led stands.
            ⊎_elim {C = HasVisited n (visits_after r (controller_parts w) vs)
            ⊎ IsToCome (controller_next fixed w).memory (controller_next fixed w).control n}
            (λ (seen : HasVisited n (visits_after r (controller_parts w) vs)). inl seen)
            (λ (t : IsToCome w.memory (controller_next fixed w).control n). inr (moves n t))
            (comes_next begins_by transacts_by (controller_parts w) (wired fixed w) (controller_parts (controller_next fixed w))
            (wired fixed (controller_next fixed w)) vs n
            (g.visits.none.each n (subst (λ (i : ℕ). IsInChain start (frame_in i) n) (sym same) led)
            (subst (λ (i : ℕ). StandsIn w.driver (frame_in i) n) (sym same) stands))
            r other (λ frame. no_fault (is ∙ frame)) (over_now r is) row);
      }

  -- the element of the frame is read
  abbrev Begun : Control → Type 0
  Begun to = ((n : ℕ) → IsInChain w (frame_in to.frame.index) n → IsToCome w.memory to n)

  begun_there : (reached allowed : Bool)
      → (begun_at reached allowed (record (controller_parts w) { registers = after_begin w.registers })).registers.run ≡ true
      → Begun (begun_at reached allowed (record (controller_parts w) { registers = after_begin w.registers })).control
  begun_there true allowed run = λ n led. record {
    periodic = refl;
    leads = subst (λ (m : ℕ). IsLedTo w.memory n (name_of (link_read (word_at w.memory ((after_begin w.registers).periodic_list_base
        + 4 * ((after_begin w.registers).frame_index / 8 % 2 ^ levels_of m)))))) (sym size_is) led;
  }
  begun_there false allowed run = absurd (false≢true run)

  none_begun : HasRow begins_by transacts_by rows.Begin (controller_parts w) (wired fixed w) (controller_parts (controller_next fixed w))
      (wired fixed (controller_next fixed w))
      → LeavesNoneOut w (controller_next fixed w).memory w.driver (controller_next fixed w).control no_recent []
  none_begun row =
      let low : frame_in (controller_next fixed w).control.frame.index < 1024 = in_list (controller_next fixed w).control.frame.index in
      let c : Content = record (controller_parts w) { registers = after_begin w.registers } in
      let there : Begun (controller_next fixed w).control
      = subst (λ (x : Content). Begun x.control) (sym row.contents)
      (begun_there (reaches w.memory (element_address (after_begin w.registers))) row.allowed
      (ap (λ (x : Content). x.registers.run) (sym row.contents) ∙ run_then)) in
      record {
        were_met = λ n led.
            (let h : StandsIn w.driver (frame_in (controller_next fixed w).control.frame.index) n
            = in_chain_stands s w (frame_in (controller_next fixed w).control.frame.index) n k low led in
            let stands : standing w.driver n ≡ Some (kind_of w.driver.periodic h.member) = ap (standing w.driver) (sym h.at)
            ∙ linked_stands w.driver h.member frames.spread h.linked in
            (kind_of w.driver.periodic h.member, ap (λ (o : Option Kind). or_recent o None) stands));
        each = λ n led stands. inr (moves n (there n led));
      }

  none_by : (r : ControllerRow) → controller_row w ≡ r
      → HasRow begins_by transacts_by r (controller_parts w) (wired fixed w) (controller_parts (controller_next fixed w))
      (wired fixed (controller_next fixed w)) → Out r
  none_by rows.Begin is row = none_begun row
  none_by rows.Idle is row = none_on rows.Idle is (λ same. not_idle same) row
  none_by rows.Frame is row = none_on rows.Frame is (λ same. begin_no_frame (sym same)) row
  none_by rows.Enter is row = none_on rows.Enter is (λ same. enter_no_begin same) row
  none_by rows.Go is row = none_on rows.Go is (λ same. go_no_begin same) row
  none_by rows.End is row = none_on rows.End is (λ same. end_no_begin same) row

  visits_then : VisitsGoOn (began_by fixed w start) (controller_next fixed w) (visits_after (controller_row w) (controller_parts w) vs)
  visits_then = record {
    left = recent_then (controller_row w) g.visits.left;
    left_are = left_next begins_by transacts_by w.driver g.visits.left (controller_parts w) (wired fixed w) (controller_parts (controller_next fixed w)) (wired fixed (controller_next fixed w))
        g.visits.left_are (controller_row w) (world_has_row fixed w);
    kept = g.visits.kept;
    height = g.visits.height;
    who = g.visits.who;
    ranked = ranked_then;
    behind = behind_then;
    active = g.visits.active;
    were_active = all_after (λ (a : ℕ). IsActiveAs w.driver a (g.visits.who a)) (controller_row w) (controller_parts w) vs g.visits.were_active
        (λ is a held name.
        g.visits.active a (g.visits.behind.next a (frame_periodic w.registers.run w.registers w.control.frame w.control.part is)
        (ap (λ (o : Option Hand). name_of (link_ahead o w.control.frame.cursor)) held ∙ name)).is_kept);
    goes = goes_by (controller_row w) refl;
    alone = λ n on e f h a stands. g.visits.alone n on e f h (none_started e f n a) stands;
    none = none_by (controller_row w) refl (world_has_row fixed w);
    framed = g.visits.framed;
    were_framed = all_after (λ (a : ℕ). IsFramedAs w.driver a (g.visits.who a)) (controller_row w)
        (controller_parts w) vs g.visits.were_framed
        (λ is a held name.
        g.visits.framed a (g.visits.behind.next a (frame_periodic w.registers.run w.registers w.control.frame w.control.part is)
        (ap (λ (o : Option Hand). name_of (link_ahead o w.control.frame.cursor)) held ∙ name)).is_kept);
  }

pub controller_keeps_visiting : ControllerKeepsVisiting
controller_keeps_visiting fixed start w vs h = record {
  mixed = controller_keeps_mixed fixed w h.mixed;
  visits = visits_then fixed h.mixed.standing start w vs h.mixed.mixed (visits_meet_now h.mixed.standing start w vs h.mixed.mixed h.visits);
}
