-- Whose the words are, told by the structures that stand in memory (EHCI 1.0, 3.3, 3.4, 3.5, 3.6, 4.7.1, 4.10 and 4.12.3).
--     EndsActive c             where the microframe of an iTD in hand has ended, it is active in the copy (4.7.1)
--     IsOwnIn at a s           the word at the byte address `at` is one of the structure s at a, of those that may be the controller's
--     IsToldOwn parts at       it is so of a structure that is told
--     RunsTellOwners           what the controller's words are is told
--     RunsWriteTheirOwn        where both walks are over structures that memory tells, each event of the controller writes words of its own
-- alone
--     DriverLeavesControllers  no event of the driver writes one, in a world with endpoints of every kind
--     CommandLeavesControllers .. and no command, accepted or refused
--     TextsKeepToOwners        so it is from each moment to the next, of each script that a text spells
use Rattle.std.specs.Prelude.{◌≡◌, ℕ, ◌+◌, ◌*◌, ◌/◌, ◌<◌, ◌≤◌, Bool, true, false, List, length, Option, Some}
use Rattle.usb_base.specs.declared.commands.Cmd.{Cmd}
use Rattle.usb_base.specs.declared.packets.Ask.{Ask}
use Rattle.usb_base.specs.declared.packets.Reply.{Reply}
use Rattle.script_types.specs.declared.scripts.Script.{Script}
use Rattle.script_text.specs.Faults.{Spells}
use Rattle.mem_bytes.specs.Bytes.{place}
use Rattle.qh_qtd.specs.declared.qtd.Qtd.{Qtd}
use Rattle.qh_qtd.specs.declared.queue_head.Qh.{Qh}
use Rattle.itd_sitd.specs.declared.itd.Itd.{Itd}
use Rattle.itd_sitd.specs.declared.sitd.Sitd.{Sitd}
use Rattle.mem_descriptors.specs.Descriptors.{slot_address}
use Rattle.hc_iso.specs.declared.held.HeldItd.{HeldItd}
use Rattle.hc_iso.specs.declared.held.IsoEnd.{IsoEnd}
use Rattle.periodic_walk.specs.declared.state.Hand.TheVariants as hands
use Rattle.hc_core.specs.declared.controller.MicroframePart.TheVariants.{Periodic}
use Rattle.hc_core.specs.Controller.{Control, Content, microframe_row, HasRow}
use Rattle.bus_world.specs.World.{World, controller_parts, driver_next, commanded}
use Rattle.claims_base.specs.Controller.{Base}
use Rattle.claims_world.specs.Owners.{IsControllers, WritesItsOwn, LeavesControllers, KeepsToOwnersThroughout}
use Rattle.law_structures.specs.lent_structures.Structures.{Structure, QueueHead, Element, Buffer, Isochronous, SplitIsochronous}
use Rattle.law_structures.specs.lent_structures.Structures.{StructureSets}
use Rattle.law_ring.specs.Hand.{Hand}
use Rattle.law_frames.specs.Met.{Kind}
use Rattle.law_frames.specs.FrameHand.{FrameHand}
use Rattle.law_controller.specs.frame_control.Both.{RunsBoth}
use Rattle.law_world.specs.memory.Mixed.{IsMixedWorld}

abbrev pub EndsActive : Control → Type 0
EndsActive c = (h : HeldItd) (e : IsoEnd) → c.part ≡ Periodic → c.frame.hand ≡ Some (hands.Itd h) → h.ended ≡ Some e → h.slot.active ≡ true

-- ---- told

pub data IsOwnIn (at a : ℕ) : Structure → Type 0 where
  in_queue : (q : Qh) (i : ℕ) → q.token.halted ≡ false → 3 ≤ i → i < 12 → at ≡ a + 4 * i → IsOwnIn at a (QueueHead q)
  in_qtd : (d : Qtd) → d.token.active ≡ true → at ≡ a + 8 → IsOwnIn at a (Element d)
  in_itd : (v : Itd) (u : ℕ) → u < 8 → at ≡ slot_address a u → IsOwnIn at a (Isochronous v)
  in_sitd : (v : Sitd) (i : ℕ) → 3 ≤ i → i < 6 → at ≡ a + 4 * i → IsOwnIn at a (SplitIsochronous v)
  in_buffer : (pages : List ℕ) (k : ℕ) (bs : List ℕ) (i : ℕ) → i < length bs → place pages (k + i) / 4 ≡ at / 4
      → IsOwnIn at a (Buffer pages k bs)

pub record IsToldOwn (parts : StructureSets) (at : ℕ) : Type 0 where
  pub owner : ℕ
  pub name : ℕ
  pub structure : Structure
  pub here : parts owner name ≡ Some structure
  pub own : IsOwnIn at name structure

abbrev pub RunsTellOwners : Type 0
RunsTellOwners = (base : Base) (member : ℕ → Bool) (met : ℕ → Option Kind) (parts : StructureSets) (hand : Hand) (frame : FrameHand)
    (c : Content) → RunsBoth base member met parts hand frame c → (at : ℕ) → IsControllers c at → IsToldOwn parts at

-- ---- the laws

abbrev pub RunsWriteTheirOwn : {W : Type 0} → (W → ℕ → Bool → W → Type 0) → (W → Ask → List ℕ → Reply → W → Type 0) → Type 0
RunsWriteTheirOwn {W} begins transacts = (base : Base) (member : ℕ → Bool) (met : ℕ → Option Kind) (parts : StructureSets) (hand : Hand)
    (frame : FrameHand) (c : Content) (wire : W) (new : Content) (after : W) → RunsBoth base member met parts hand frame c
    → EndsActive c.control
    → HasRow begins transacts (microframe_row c.registers c.control) c wire new after → WritesItsOwn c new.memory

abbrev pub DriverLeavesControllers : Type 0
DriverLeavesControllers = (w : World) → IsMixedWorld w → LeavesControllers (controller_parts w) (driver_next w).memory

abbrev pub CommandLeavesControllers : Type 0
CommandLeavesControllers = (w : World) (line : ℕ) (cmd : Cmd) → IsMixedWorld w
    → LeavesControllers (controller_parts w) (commanded w line cmd).memory

abbrev pub TextsKeepToOwners : Type 0
TextsKeepToOwners = (text : List ℕ) (s : Script) → Spells text s → KeepsToOwnersThroughout s
