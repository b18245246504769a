-- Each event of the controller leaves its walk among the queue heads that it may reach, and content and registers agreed on the doorbell.
use Rattle.std.proofs.Common.{◌≡◌, ℕ, Bool, true, false, List, refl, sym, subst, ◌∙◌}
use Rattle.usb_base.specs.declared.packets.Ask.{Ask}
use Rattle.usb_base.specs.declared.packets.Reply.{Reply}
use Rattle.word_mem.specs.Memory.{reaches}
use Rattle.op_registers.specs.RegisterFile.{RegisterFile}
use Rattle.op_registers.specs.Events.{after_begin}
use Rattle.async_walk.specs.Walk.{Walk}
use Rattle.hc_core.specs.declared.controller.ControllerRow.{ControllerRow}
use Rattle.hc_core.specs.declared.controller.ControllerRow.TheVariants as rows
use Rattle.hc_core.specs.Controller.{Content, microframe_row, element_address, begun_at, began, entered, frame_place, walk_place, HasRow}
use Rattle.drv_table.specs.declared.content.Reserve.{Reserve}
use Rattle.drv_table.specs.DriverContent.{DriverContent}
use Rattle.drv_table.specs.Opening.{opening}
use Rattle.claims_driver.specs.Ring.{link_in}
use Rattle.law_driver.specs.ring_members.Words.{IsRing}
use Rattle.claims_driver.specs.InPlace.{AreFixed}
use Rattle.claims_driver.specs.Walk.{IsReached, IsWalkIn, IsBellIn}
use Rattle.law_driver_ring.specs.walk_members.Reached.{AreNoHeads}
use Rattle.law_driver_ring.proofs.lemmas.walk_members.Walking.{event_in, between_in}
use Rattle.law_driver_ring.proofs.lemmas.walk_members.Driving.{walk_mapped}
use Rattle.law_driver_ring.proofs.lemmas.walk_members.Answering.{walk_bell}
use Rattle.law_world.specs.steps.controlled_walks.Walks.{LeavesDoorbell}
use Rattle.law_world.proofs.lemmas.steps.lemmas.controlled_walks.Framing.{frame_doorbell}

-- ---- where the doorbell and the ring's address stay

registers_in : (d : DriverContent) (r s : RegisterFile) (w : Walk) → LeavesDoorbell r s → IsWalkIn d r w → IsWalkIn d s w
registers_in d r s w leaves old = walk_mapped d d r s w leaves.address (λ b reached. subst (λ (rings : Bool). IsReached d rings b) (sym leaves.doorbell) reached) old

bell_in : (d : DriverContent) (r s : RegisterFile) → LeavesDoorbell r s → IsBellIn d r → IsBellIn d s
bell_in d r s leaves old = record {
  quiet = λ is. let q = old.quiet is in (q.0, leaves.async_advance ∙ q.1, leaves.doorbell ∙ q.2);
  answered = λ on. leaves.doorbell ∙ old.answered (sym leaves.async_advance ∙ on);
  heard = λ is. leaves.doorbell ∙ old.heard is;
}

-- ---- a microframe begins, whether the element of its frame is read or not

record Begun (c new : Content) : Type 0 where
  registers : LeavesDoorbell c.registers new.registers
  walk : new.control.walk ≡ c.control.walk

begun_by : (c : Content) (b allowed : Bool) → Begun c (begun_at b allowed (record c { registers = after_begin c.registers }))
begun_by c true allowed = record { registers = record { doorbell = refl; async_advance = refl; address = refl }; walk = refl }
begun_by c false allowed = record { registers = record { doorbell = refl; async_advance = refl; address = refl }; walk = refl }

began_as : (c : Content) (allowed : Bool) → Begun c (began allowed c)
began_as c allowed = begun_by c (reaches c.memory (element_address (after_begin c.registers))) allowed

-- ---- each row

row_walk : {W : Type 0} (begins : W → ℕ → Bool → W → Type 0) (transacts : W → Ask → List ℕ → Reply → W → Type 0) (row : ControllerRow) (d : DriverContent) (c : Content) (wire : W) (new : Content) (after : W) → HasRow begins transacts row c wire new after → IsRing (link_in c.memory) d → AreFixed c.memory d → AreNoHeads d → IsWalkIn d c.registers c.control.walk → IsWalkIn d new.registers new.control.walk
row_walk begins transacts rows.Idle d c wire new after row ring fixed none old = subst (λ (n : Content). IsWalkIn d n.registers n.control.walk) (sym row.0) old
row_walk begins transacts rows.Begin d c wire new after row ring fixed none old =
    let b = began_as c row.allowed in
    subst (λ (n : Content). IsWalkIn d n.registers n.control.walk) (sym row.contents)
    (subst (λ (v : Walk). IsWalkIn d (began row.allowed c).registers v) (sym b.walk) (registers_in d c.registers (began row.allowed c).registers c.control.walk b.registers old))
row_walk begins transacts rows.Frame d c wire new after row ring fixed none old =
    subst (λ (v : Walk). IsWalkIn d new.registers v) (sym row.ring)
    (registers_in d c.registers new.registers c.control.walk (frame_doorbell transacts (frame_place c) wire (frame_place new) after row.walked) old)
row_walk begins transacts rows.Enter d c wire new after row ring fixed none old =
    event_in transacts d (walk_place (entered c)) wire (walk_place new) after ring fixed none
    (between_in d c.registers c.registers c.control.walk c.control.frame.left refl refl old).1 row.walked
row_walk begins transacts rows.Go d c wire new after row ring fixed none old = event_in transacts d (walk_place c) wire (walk_place new) after ring fixed none old row.walked
row_walk begins transacts rows.End d c wire new after row ring fixed none old =
    subst (λ (n : Content). IsWalkIn d n.registers n.control.walk) (sym row.0) (between_in d c.registers c.registers c.control.walk 0 refl refl old).0

row_bell : {W : Type 0} (begins : W → ℕ → Bool → W → Type 0) (transacts : W → Ask → List ℕ → Reply → W → Type 0) (row : ControllerRow) (d : DriverContent) (c : Content) (wire : W) (new : Content) (after : W) → HasRow begins transacts row c wire new after → IsBellIn d c.registers → IsBellIn d new.registers
row_bell begins transacts rows.Begin d c wire new after row old =
    subst (λ (n : Content). IsBellIn d n.registers) (sym row.contents) (bell_in d c.registers (began row.allowed c).registers (began_as c row.allowed).registers old)
row_bell begins transacts rows.Frame d c wire new after row old = bell_in d c.registers new.registers (frame_doorbell transacts (frame_place c) wire (frame_place new) after row.walked) old
row_bell begins transacts rows.Enter d c wire new after row old = walk_bell transacts d (walk_place (entered c)) wire (walk_place new) after old row.walked
row_bell begins transacts rows.Go d c wire new after row old = walk_bell transacts d (walk_place c) wire (walk_place new) after old row.walked
row_bell begins transacts _ d c wire new after row old = subst (λ (n : Content). IsBellIn d n.registers) (sym row.0) old

-- ---- an event

pub control_walk : {W : Type 0} (begins : W → ℕ → Bool → W → Type 0) (transacts : W → Ask → List ℕ → Reply → W → Type 0) (d : DriverContent) (c : Content) (wire : W) (new : Content) (after : W) → HasRow begins transacts (microframe_row c.registers c.control) c wire new after → IsRing (link_in c.memory) d → AreFixed c.memory d → AreNoHeads d → IsWalkIn d c.registers c.control.walk → IsWalkIn d new.registers new.control.walk
control_walk begins transacts d c wire new after row ring fixed none old = row_walk begins transacts (microframe_row c.registers c.control) d c wire new after row ring fixed none old

pub control_bell : {W : Type 0} (begins : W → ℕ → Bool → W → Type 0) (transacts : W → Ask → List ℕ → Reply → W → Type 0) (d : DriverContent) (c : Content) (wire : W) (new : Content) (after : W) → HasRow begins transacts (microframe_row c.registers c.control) c wire new after → IsBellIn d c.registers → IsBellIn d new.registers
control_bell begins transacts d c wire new after row old = row_bell begins transacts (microframe_row c.registers c.control) d c wire new after row old

-- ---- the opening

pub opening_bell : (n : ℕ) (room : Reserve) → IsBellIn (opening n room).driver (opening n room).registers
opening_bell n room = record {
  quiet = λ is. (refl, refl, refl);
  answered = λ on. refl;
  heard = λ is. refl;
}
