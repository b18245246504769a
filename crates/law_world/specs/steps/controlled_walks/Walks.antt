-- Where the walk of the ring may stand, along every event of the controller (EHCI 1.0, 4.6, 4.8 and 4.8.2). Each is of the ring's walk, or of that of a
-- frame's chain, or begins or ends a microframe; or it is the fault, or the controller is idle.
--     LeavesDoorbell r s         the registers s have the doorbell, Async Advance and the ring's address of r
--     FrameLeavesDoorbell ..     the law: each event of the walk of a frame's chain leaves them
--     ControllerKeepsWalk ..     the law: each event of the controller leaves its walk among the queue heads that it may reach, where the words of memory
--                                stand for the ring
--     ControllerKeepsBell ..     the law: content and registers agree on the doorbell after it
--     NewDriverBell              the law: so they do of a driver that was just built
--     CommandKeepsBell           the law: and after a command that is accepted
use Rattle.std.specs.Prelude.{◌≡◌, ℕ, Bool, List, Ok}
use Rattle.usb_base.specs.declared.commands.Cmd.{Cmd}
use Rattle.usb_base.specs.declared.packets.Ask.{Ask}
use Rattle.usb_base.specs.declared.packets.Reply.{Reply}
use Rattle.word_mem.specs.Memory.{Mem}
use Rattle.op_registers.specs.RegisterFile.{RegisterFile}
use Rattle.periodic_walk.specs.Place.{FramePlace}
use Rattle.periodic_walk.specs.Rows.{Leads as FrameLeads}
use Rattle.hc_core.specs.Controller.{Content, microframe_row, HasRow}
use Rattle.drv_table.specs.declared.content.Reserve.{Reserve}
use Rattle.drv_table.specs.DriverContent.{DriverContent}
use Rattle.drv_table.specs.Accepting.{Offered}
use Rattle.drv_table.specs.Offers.{offered}
use Rattle.drv_table.specs.Opening.{opening}
use Rattle.claims_driver.specs.Ring.{link_in}
use Rattle.law_driver.specs.ring_members.Words.{IsRing}
use Rattle.claims_driver.specs.InPlace.{AreFixed}
use Rattle.claims_driver.specs.Walk.{IsWalkIn, IsBellIn}
use Rattle.law_driver_ring.specs.walk_members.Reached.{AreNoHeads}

pub record LeavesDoorbell (r s : RegisterFile) : Type 0 where
  pub doorbell : s.doorbell ≡ r.doorbell
  pub async_advance : s.async_advance ≡ r.async_advance
  pub address : s.async_list_address ≡ r.async_list_address

abbrev pub FrameLeavesDoorbell : {W : Type 0} → (W → Ask → List ℕ → Reply → W → Type 0) → Type 0
FrameLeavesDoorbell {W} transacts = (p : FramePlace) (before : W) (new : FramePlace) (after : W) → FrameLeads transacts p before new after → LeavesDoorbell p.registers new.registers

-- ---- an event of the controller

abbrev pub ControllerKeepsWalk : {W : Type 0} → (W → ℕ → Bool → W → Type 0) → (W → Ask → List ℕ → Reply → W → Type 0) → Type 0
ControllerKeepsWalk {W} begins transacts = (d : DriverContent) (c : Content) (wire : W) (new : Content) (after : W) → HasRow begins transacts (microframe_row c.registers c.control) c wire new after
    → IsRing (link_in c.memory) d → AreFixed c.memory d → AreNoHeads d → IsWalkIn d c.registers c.control.walk → IsWalkIn d new.registers new.control.walk

abbrev pub ControllerKeepsBell : {W : Type 0} → (W → ℕ → Bool → W → Type 0) → (W → Ask → List ℕ → Reply → W → Type 0) → Type 0
ControllerKeepsBell {W} begins transacts = (d : DriverContent) (c : Content) (wire : W) (new : Content) (after : W) → HasRow begins transacts (microframe_row c.registers c.control) c wire new after
    → IsBellIn d c.registers → IsBellIn d new.registers

-- ---- the opening, and a command

abbrev pub NewDriverBell : Type 0
NewDriverBell = (n : ℕ) (room : Reserve) → IsBellIn (opening n room).driver (opening n room).registers

abbrev pub CommandKeepsBell : Type 0
CommandKeepsBell = (d : DriverContent) (m : Mem) (cmd : Cmd) (o : Offered) (r : RegisterFile) → offered d m cmd ≡ Ok o → IsBellIn d r → IsBellIn o.driver r
