-- Each event of the controller goes on with the round of the walk of the ring.
use Rattle.std.proofs.Common.{◌≡◌, ◌≢◌, ℕ, Bool, true, false, ◌&&◌, not, if◌then◌else◌, List, None, ap, refl, sym, subst, ◌∙◌}
use Rattle.law_controller.proofs.Common.{periodic_not_asynchronous, over_not_asynchronous}
use Rattle.usb_base.specs.declared.packets.Ask.{Ask}
use Rattle.usb_base.specs.declared.packets.Reply.{Reply}
use Rattle.word_mem.specs.Memory.{Mem, reaches}
use Rattle.op_registers.specs.RegisterFile.{RegisterFile}
use Rattle.op_registers.specs.Events.{after_begin}
use Rattle.async_walk.specs.Walk.{Walk, begun}
use Rattle.periodic_walk.specs.Walk.{Walk as FrameWalk, is_over}
use Rattle.hc_core.specs.declared.controller.MicroframePart.{MicroframePart}
use Rattle.hc_core.specs.declared.controller.MicroframePart.TheVariants.{Over, Periodic, Asynchronous}
use Rattle.hc_core.specs.declared.controller.ControllerRow.{ControllerRow}
use Rattle.hc_core.specs.declared.controller.ControllerRow.TheVariants as rows
use Rattle.hc_core.specs.Controller.{Content, part_row, enter_row, ring_row, element_address, begun_at, began, entered, frame_place, walk_place, HasRow}
use Rattle.drv_table.specs.DriverContent.{DriverContent}
use Rattle.claims_base.specs.Controller.{opening_base, Base}
use Rattle.claims_driver.specs.InPlace.{AreFixed}
use Rattle.claims_driver.specs.Walk.{IsWalkIn}
use Rattle.law_driver_ring.specs.walk_members.Reached.{AreNoHeads}
use Rattle.law_driver_ring.proofs.lemmas.walk_members.Walking.{between_in}
use Rattle.law_driver_ring.proofs.lemmas.walk_members.Descriptions.{numbered_endpoints_are_no_heads}
use Rattle.law_queues.specs.reached_rings.Reaching.{is_reached}
use Rattle.law_queues.proofs.lemmas.reached_rings.Falling.{event_falls}
use Rattle.law_ring.specs.Hand.{held_of}
use Rattle.law_frames.proofs.Walking.{event_happens}
use Rattle.law_controller.specs.frame_control.Both.{ControlsBoth}
use Rattle.law_controller.proofs.lemmas.frame_control.Running.{each_event_of_the_controller_over_both}
use Rattle.law_descriptors.specs.frame_keeps.Leaving.{LeavesStructures}
use Rattle.law_descriptors.proofs.lemmas.kept_frames.Both.{events_leave_words}
use Rattle.law_descriptors.specs.Both.{both}
use Rattle.law_descriptors.specs.Meeting.{met}
use Rattle.bus_wire.specs.Bus.{Fixed}
use Rattle.bus_world.specs.World.{World, controller_parts, controller_row, controller_next}
use Rattle.law_world.specs.steps.Streaming.{begins_by, transacts_by, wired}
use Rattle.law_world.specs.steps.controlled_walks.Walks.{LeavesDoorbell}
use Rattle.law_world.proofs.lemmas.steps.StreamTurning.{world_has_row}
use Rattle.law_world.proofs.lemmas.steps.lemmas.world_bytes.Hearing.{a_bus_of_bytes_is_heard_as_bytes}
use Rattle.law_world.proofs.lemmas.steps.lemmas.controlled_walks.Framing.{frame_doorbell}
use Rattle.law_world.specs.memory.Mixed.{Standing, IsMixedAt, IsMixedWorld}
use Rattle.law_world.proofs.lemmas.memory.Controller.{controller_keeps_mixed}
use Rattle.law_microframes.specs.visits.Ranks.{next_of}
use Rattle.law_microframes.specs.time.Heights.{LinksFall}
use Rattle.law_microframes.specs.time.Rounds.{round_after, IsBehind, RoundsGoOn}
use Rattle.law_microframes.specs.time.RoundLaws.{ControllerKeepsRounds}
use Rattle.law_microframes.proofs.lemmas.time.RoundLists.{fewer}
use Rattle.law_microframes.proofs.lemmas.time.RoundLinks.{links_stay}
use Rattle.law_microframes.proofs.lemmas.time.RoundWalking.{registers_behind, empty_behind, event_on}

-- ---- which part of a microframe it is

not_enter : rows.Begin ≡ rows.Enter → ⊥
not_enter e = cc

idle_no_enter : rows.Idle ≡ rows.Enter → ⊥
idle_no_enter e = cc

ring_no_enter : (b : Bool) → ring_row b ≡ rows.Enter → ⊥
ring_no_enter true e = cc
ring_no_enter false e = cc

part_enter : (r : RegisterFile) (frame : FrameWalk) (part : MicroframePart) → part_row r frame part ≡ rows.Enter → part ≢ Asynchronous
part_enter r frame Over is on = over_not_asynchronous on
part_enter r frame Periodic is on = periodic_not_asynchronous on
part_enter r frame Asynchronous is on = absurd (ring_no_enter r.async_enable is)

enters : (runs : Bool) (r : RegisterFile) (frame : FrameWalk) (part : MicroframePart) → (if runs then part_row r frame part else rows.Idle) ≡ rows.Enter → part ≢ Asynchronous
enters true r frame part is = part_enter r frame part is
enters false r frame part is = absurd (idle_no_enter is)

begin_no_end : rows.Begin ≡ rows.End → ⊥
begin_no_end e = cc

idle_no_end : rows.Idle ≡ rows.End → ⊥
idle_no_end e = cc

enter_no_end : (b : Bool) → b ≡ true → enter_row b ≡ rows.End → ⊥
enter_no_end true on e = cc
enter_no_end false on e = cc

ring_no_end : (b : Bool) → b ≡ true → ring_row b ≡ rows.End → ⊥
ring_no_end true on e = cc
ring_no_end false on e = cc

frame_no_end : (goes b : Bool) → b ≡ true → (if goes then rows.Frame else enter_row b) ≡ rows.End → ⊥
frame_no_end true b on e = cc
frame_no_end false b on e = enter_no_end b on e

part_no_end : (r : RegisterFile) (frame : FrameWalk) (part : MicroframePart) → r.async_enable ≡ true → part_row r frame part ≡ rows.End → ⊥
part_no_end r frame Over on is = begin_no_end is
part_no_end r frame Periodic on is = frame_no_end (r.periodic_enable && not (is_over frame)) r.async_enable on is
part_no_end r frame Asynchronous on is = ring_no_end r.async_enable on is

-- while the asynchronous part is enabled it isn't ended before its walk ends it
no_end : (runs : Bool) (r : RegisterFile) (frame : FrameWalk) (part : MicroframePart) → r.async_enable ≡ true → (if runs then part_row r frame part else rows.Idle) ≡ rows.End → ⊥
no_end true r frame part on is = part_no_end r frame part on is
no_end false r frame part on is = idle_no_end is

-- ---- a microframe begins, whether the element of its frame is read or not

record Begun (c new : Content) : Type 0 where
  registers : LeavesDoorbell c.registers new.registers
  walk : new.control.walk ≡ c.control.walk

begun_by : (c : Content) (b allowed : Bool) → Begun c (begun_at b allowed (record c { registers = after_begin c.registers }))
begun_by c true allowed = record { registers = record { doorbell = refl; async_advance = refl; address = refl }; walk = refl }
begun_by c false allowed = record { registers = record { doorbell = refl; async_advance = refl; address = refl }; walk = refl }

began_as : (c : Content) (allowed : Bool) → Begun c (began allowed c)
began_as c allowed = begun_by c (reaches c.memory (element_address (after_begin c.registers))) allowed

-- ---- each row

module _ {W : Type 0} (begins : W → ℕ → Bool → W → Type 0) (transacts : W → Ask → List ℕ → Reply → W → Type 0) (d : DriverContent) (height : ℕ → ℕ) (c : Content) (wire : W) (new : Content) (after : W)
    (vs : List ℕ) where
  row_on : (row : ControllerRow) → LinksFall c.memory d c.registers.doorbell height → IsWalkIn d c.registers c.control.walk → AreFixed c.memory d → AreNoHeads d
      → IsBehind d height c.registers c.control.walk vs → new.registers.run ≡ true → (row ≡ rows.Enter → c.control.walk.held ≡ None) → (row ≡ rows.End → ⊥)
      → HasRow begins transacts row c wire new after → IsBehind d height new.registers new.control.walk (round_after row c vs)
  row_on rows.Idle falls walk fixed none b run empty ends row = subst (λ (n : Content). IsBehind d height n.registers n.control.walk vs) (sym row.0) b
  row_on rows.Begin falls walk fixed none b run empty ends row =
      let g = began_as c row.allowed in
      subst (λ (n : Content). IsBehind d height n.registers n.control.walk vs) (sym row.contents)
      (subst (λ (v : Walk). IsBehind d height (began row.allowed c).registers v vs) (sym g.walk)
      (registers_behind d height c.registers (began row.allowed c).registers c.control.walk vs g.registers.doorbell g.registers.address b))
  row_on rows.Frame falls walk fixed none b run empty ends row =
      let l = frame_doorbell transacts (frame_place c) wire (frame_place new) after row.walked in
      subst (λ (v : Walk). IsBehind d height new.registers v vs) (sym row.ring) (registers_behind d height c.registers new.registers c.control.walk vs l.doorbell l.address b)
  row_on rows.Enter falls walk fixed none b run empty ends row =
      event_on d height transacts (walk_place (entered c)) vs wire (walk_place new) after falls
      (between_in d c.registers c.registers c.control.walk c.control.frame.left refl refl walk).1 fixed none
      (empty_behind d height c.registers c.control.walk (begun c.control.walk c.control.frame.left) vs (empty refl) refl refl b) row.walked run
  row_on rows.Go falls walk fixed none b run empty ends row = event_on d height transacts (walk_place c) vs wire (walk_place new) after falls walk fixed none b row.walked run
  row_on rows.End falls walk fixed none b run empty ends row = absurd (ends refl)

  bell_falls : (row : ControllerRow) → HasRow begins transacts row c wire new after → new.registers.doorbell ≡ true → c.registers.doorbell ≡ true
  bell_falls rows.Begin row on = sym (began_as c row.allowed).registers.doorbell ∙ (ap (λ (n : Content). n.registers.doorbell) (sym row.contents) ∙ on)
  bell_falls rows.Frame row on = sym (frame_doorbell transacts (frame_place c) wire (frame_place new) after row.walked).doorbell ∙ on
  bell_falls rows.Enter row on = event_falls transacts (walk_place (entered c)) wire (walk_place new) after row.walked on
  bell_falls rows.Go row on = event_falls transacts (walk_place c) wire (walk_place new) after row.walked on
  bell_falls _ row on = ap (λ (n : Content). n.registers.doorbell) (sym row.0) ∙ on

-- ---- links

links_fall : (m new : Mem) (d : DriverContent) (rings now : Bool) (height : ℕ → ℕ) → (now ≡ true → rings ≡ true) → ((n : ℕ) → is_reached d rings n ≡ true → next_of new n ≡ next_of m n)
    → LinksFall m d rings height → LinksFall new d now height
links_fall m new d rings now height falls stay old = record {
  falls = λ n k on next other. (let reached = fewer d rings now n falls on in old.falls n k reached (sym (stay n reached) ∙ next) other);
  below_head = λ n on other. old.below_head n (fewer d rings now n falls on) other;
}

-- ---- the world

module _ (fixed : Fixed) (s : Standing) (w : World) (vs : List ℕ) (k : IsMixedAt s w) (g : RoundsGoOn w vs) (t : Standing) (n : IsMixedAt t (controller_next fixed w)) where
  abbrev Events : Type 0
  Events = ControlsBoth begins_by transacts_by opening_base s.member (met w.driver s.recent) (both s.descs s.parts) s.hand s.frame w.control (wired fixed w) (wired fixed (controller_next fixed w))
      (controller_parts (controller_next fixed w))

  event : Events
  event =
      each_event_of_the_controller_over_both begins_by transacts_by opening_base s.member (met w.driver s.recent) (both s.descs s.parts) s.hand s.frame (controller_parts w) (wired fixed w) (controller_parts (controller_next fixed w))
      (wired fixed (controller_next fixed w)) (event_happens transacts_by (met w.driver s.recent) (both s.descs s.parts) s.frame) k.now.framed.runs
      (record { run = k.now.framed.operating.run; async_enable = k.now.framed.operating.async_enable })
      (a_bus_of_bytes_is_heard_as_bytes fixed w k.bytes (wired fixed (controller_next fixed w))) (world_has_row fixed w)

  leaves : LeavesStructures (both s.descs s.parts) w.memory (controller_next fixed w).memory
  leaves =
      events_leave_words begins_by transacts_by opening_base s.member (met w.driver s.recent) (both s.descs s.parts) s.hand s.frame (controller_parts w) (wired fixed w) (controller_parts (controller_next fixed w))
      (wired fixed (controller_next fixed w)) k.now.framed.runs k.now.framed.aligned (world_has_row fixed w) event

  empty : controller_row w ≡ rows.Enter → w.control.walk.held ≡ None
  empty is =
      k.now.framed.runs.ring.held ∙ ap held_of (k.now.framed.runs.between (enters w.registers.run w.registers w.control.frame w.control.part is))

  ends : controller_row w ≡ rows.End → ⊥
  ends is = no_end w.registers.run w.registers w.control.frame w.control.part (ap (λ (x : Base). x.async_enable) k.now.framed.runs.ring.registers) is

  rounds_then : RoundsGoOn (controller_next fixed w) (round_after (controller_row w) (controller_parts w) vs)
  rounds_then = record {
    height = g.height;
    links_fall = links_fall w.memory (controller_next fixed w).memory w.driver w.registers.doorbell (controller_next fixed w).registers.doorbell g.height
        (bell_falls begins_by transacts_by w.driver g.height (controller_parts w) (wired fixed w) (controller_parts (controller_next fixed w)) (wired fixed (controller_next fixed w)) vs
        (controller_row w) (world_has_row fixed w))
        (links_stay w.memory (controller_next fixed w).memory w.driver s.member (both s.descs s.parts) k.ring k.now.framed.place.sound.owners.orderly k.now.framed.runs.ring.members leaves
        k.now.framed.place.sound.ring n.now.framed.place.sound.ring w.registers.doorbell)
        g.links_fall;
    behind = row_on begins_by transacts_by w.driver g.height (controller_parts w) (wired fixed w) (controller_parts (controller_next fixed w)) (wired fixed (controller_next fixed w)) vs
        (controller_row w) g.links_fall k.walking.walk k.now.framed.place.fixed
        (numbered_endpoints_are_no_heads w.driver k.walking.numbered) g.behind
        (ap (λ (x : Base). x.run) n.now.framed.runs.ring.registers) empty ends (world_has_row fixed w);
  }

pub controller_keeps_rounds : ControllerKeepsRounds
controller_keeps_rounds fixed w vs h =
    let later : IsMixedWorld (controller_next fixed w) = controller_keeps_mixed fixed w h.mixed in
    record { mixed = later; rounds = rounds_then fixed h.mixed.standing w vs h.mixed.mixed h.rounds later.standing later.mixed }
