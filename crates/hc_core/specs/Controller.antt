-- One event of the controller (EHCI 1.0, 4.1, 4.4 and 4.6 to 4.12). A microframe has a Begin, then its periodic part, then its
-- asynchronous part, then its End. Which row an event is, `microframe_row` tells.
use Rattle.std.specs.Prelude.{◌≡◌, ℕ, ◌+◌, ◌*◌, ◌/◌, ◌%◌, ◌^◌, Bool, true, false, ◌&&◌, not, Option, None, Some, List, if◌then◌else◌}
use Rattle.usb_base.specs.declared.packets.Ask.{Ask}
use Rattle.usb_base.specs.declared.packets.Reply.{Reply}
use Rattle.usb_base.specs.Limits.{microframe_time}
use Rattle.link_words.specs.Links.{link_read}
use Rattle.word_mem.specs.Memory.{Mem, reaches, refused, word_at}
use Rattle.op_registers.specs.RegisterFile.{RegisterFile, levels_of}
use Rattle.op_registers.specs.Events.{after_begin, after_fault, next_index}
use Rattle.async_walk.specs.declared.state.WalkStep.{WalkStep}
use Rattle.async_walk.specs.declared.state.WalkStep.TheVariants as walks
use Rattle.async_walk.specs.Walk.{Walk, new_walk, begun, stopped, held_address}
use Rattle.async_walk.specs.Rows.{WalkPlace, place, at_event, event_row, step_of, Leads}
use Rattle.periodic_walk.specs.Walk.{Walk as FrameWalk, new_walk as new_frame, begun as begun_frame, stopped as stopped_frame, is_over, held_address as frame_address}
use Rattle.periodic_walk.specs.Place.{FramePlace, place as place_of_frame}
use Rattle.periodic_walk.specs.Rows.{step_of as step_of_frame, Leads as FrameLeads}
use Rattle.hc_core.specs.declared.controller.HcStep.{HcStep}
use Rattle.hc_core.specs.declared.controller.HcStep.TheVariants as steps
use Rattle.hc_core.specs.declared.controller.MicroframePart.{MicroframePart}
use Rattle.hc_core.specs.declared.controller.MicroframePart.TheVariants.{Over, Periodic, Asynchronous}
use Rattle.hc_core.specs.declared.controller.ControllerRow.{ControllerRow}
use Rattle.hc_core.specs.declared.controller.ControllerRow.TheVariants as rows

-- the controller's own content
pub record Control : Type 0 where
  pub part : MicroframePart  -- where in the microframe it is
  pub frame : FrameWalk  -- the walk of the frame's chain
  pub walk : Walk  -- the walk of the ring

-- what an event reads and changes
pub record Content : Type 0 where
  pub control : Control
  pub registers : RegisterFile
  pub memory : Mem

abbrev pub content : Control → RegisterFile → Mem → Content
content c r m = record { control = c; registers = r; memory = m }

-- a new controller stands at the end of a microframe
abbrev pub new_control : Control
new_control = record { part = Over; frame = new_frame; walk = new_walk }

-- the structure in hand, of either walk
abbrev pub either_address : Option ℕ → Option ℕ → Option ℕ
either_address (Some at) other = Some at
either_address None other = other

abbrev pub address_in_hand : Control → Option ℕ
address_in_hand c = either_address (frame_address c.frame.hand) (held_address c.walk.held)

-- the time left in the microframe, in picoseconds: that of the walk that is under way
abbrev pub left_in : MicroframePart → ℕ → ℕ → ℕ
left_in Over frame ring = 0
left_in Periodic frame ring = frame
left_in Asynchronous frame ring = ring

abbrev pub time_left : Control → ℕ
time_left c = left_in c.part c.frame.left c.walk.left

-- ---- which row it is

-- by whether the asynchronous part is enabled: a disabled part is over at once
abbrev pub enter_row : Bool → ControllerRow
enter_row true = rows.Enter
enter_row false = rows.End

abbrev pub ring_row : Bool → ControllerRow
ring_row true = rows.Go
ring_row false = rows.End

-- the periodic part goes on while it is enabled and its chain hasn't ended
abbrev pub part_row : RegisterFile → FrameWalk → MicroframePart → ControllerRow
part_row r frame Over = rows.Begin
part_row r frame Periodic = if r.periodic_enable && not (is_over frame) then rows.Frame else enter_row r.async_enable
part_row r frame Asynchronous = ring_row r.async_enable

abbrev pub microframe_row : RegisterFile → Control → ControllerRow
microframe_row r c = if r.run then part_row r c.frame c.part else rows.Idle

-- ---- Begin (4.6)

-- the time of a microframe in picoseconds, and none where the bus may not be used
abbrev pub time_of : Bool → ℕ
time_of true = microframe_time
time_of false = 0

-- the address of the element of the frame list that a frame index names: bits 12:3 (4.4)
abbrev pub element_address : RegisterFile → ℕ
element_address r = r.periodic_list_base + 4 * (r.frame_index / 8 % 2 ^ levels_of r.list_size)

-- the chain of the frame begins with the link of its element
abbrev pub begun_control : ℕ → ℕ → ℕ → Control → Control
begun_control word index left c = record { part = Periodic; frame = begun_frame c.frame (link_read word) index left; walk = c.walk }

-- by whether the element may be read
abbrev pub begun_at : Bool → Bool → Content → Content
begun_at true allowed c = record c {
  control = begun_control (word_at c.memory (element_address c.registers)) c.registers.frame_index (time_of allowed) c.control;
}
begun_at false allowed c = record c { registers = after_fault c.registers; memory = refused c.memory }

-- FRINDEX was stepped; the wire told whether the bus may be used
abbrev pub began : Bool → Content → Content
began allowed c =
    let stepped : Content = record c { registers = after_begin c.registers } in
    begun_at (reaches c.memory (element_address stepped.registers)) allowed stepped

-- ---- the other rows

abbrev pub ended : Control → Control
ended c = record { part = Over; frame = stopped_frame c.frame; walk = stopped c.walk }

-- the asynchronous part begins with the time that the periodic part left; where that was disabled in a visit, its copy is dropped
abbrev pub entered_control : Control → Control
entered_control c = record { part = Asynchronous; frame = stopped_frame c.frame; walk = begun c.walk c.frame.left }

abbrev pub entered : Content → Content
entered c = record c { control = entered_control c.control }

-- an event of a walk: where it ends the part or meets the fault, it is the End
abbrev pub hc_step : WalkStep → HcStep
hc_step walks.Fetch = steps.Fetch
hc_step walks.Advance = steps.Advance
hc_step walks.Transact = steps.Transact
hc_step walks.WriteBack = steps.WriteBack
hc_step walks.Skip = steps.Skip
hc_step walks.Ended = steps.End
hc_step walks.Fault = steps.End

-- then the microframe is over, else the part goes on
abbrev pub part_after : MicroframePart → WalkStep → MicroframePart
part_after part walks.Fetch = part
part_after part walks.Advance = part
part_after part walks.Transact = part
part_after part walks.WriteBack = part
part_after part walks.Skip = part
part_after part walks.Ended = Over
part_after part walks.Fault = Over

-- the kind of an event of the frame's walk over these contents; the part isn't over, so that it isn't Ended
abbrev pub frame_place : Content → FramePlace
frame_place c = place_of_frame c.control.frame c.registers c.memory

abbrev pub frame_step : Content → WalkStep
frame_step c = step_of_frame (frame_place c)

-- the kind of an event of the ring's walk over these contents
abbrev pub walk_place : Content → WalkPlace
walk_place c = place c.control.walk c.registers c.memory

abbrev pub walk_step : Content → WalkStep
walk_step c = step_of (event_row (walk_place c)) (at_event (walk_place c))

-- ---- an event, over a wire of which only two relations are known

pub record Begins {W : Type 0} (begins : W → ℕ → Bool → W → Type 0) (old : Content) (before : W) (new : Content) (after : W) : Type 0 where
  pub allowed : Bool
  pub asked : begins before (next_index old.registers.frame_index) allowed after
  pub contents : new ≡ began allowed old

-- an event of the frame's walk, which leaves the ring's
pub record WalksFrame {W : Type 0} (transacts : W → Ask → List ℕ → Reply → W → Type 0) (old : Content) (before : W) (new : Content) (after : W) : Type 0 where
  pub part : new.control.part ≡ part_after Periodic (frame_step old)
  pub ring : new.control.walk ≡ old.control.walk
  pub walked : FrameLeads transacts (frame_place old) before (frame_place new) after

-- an event of the ring's walk, which leaves the frame's
pub record Walks {W : Type 0} (transacts : W → Ask → List ℕ → Reply → W → Type 0) (old : Content) (before : W) (new : Content) (after : W) : Type 0 where
  pub part : new.control.part ≡ part_after Asynchronous (walk_step old)
  pub frame : new.control.frame ≡ old.control.frame
  pub walked : Leads transacts (event_row (walk_place old)) (at_event (walk_place old)) before (walk_place new) after

abbrev pub Stays : {W : Type 0} → Content → W → Content → W → Type 0
Stays expected before new after = (new ≡ expected) × (after ≡ before)

-- what stands after a row
abbrev pub HasRow : {W : Type 0} → (W → ℕ → Bool → W → Type 0) → (W → Ask → List ℕ → Reply → W → Type 0) → ControllerRow → Content → W → Content → W → Type 0
HasRow begins transacts rows.Idle c before new after = Stays c before new after
HasRow begins transacts rows.Begin c before new after = Begins begins c before new after
HasRow begins transacts rows.Frame c before new after = WalksFrame transacts c before new after
HasRow begins transacts rows.Enter c before new after = Walks transacts (entered c) before new after
HasRow begins transacts rows.Go c before new after = Walks transacts c before new after
HasRow begins transacts rows.End c before new after = Stays (record c { control = ended c.control }) before new after

-- the kind of the event
abbrev pub kind_of : ControllerRow → Content → HcStep
kind_of rows.Idle c = steps.Idle
kind_of rows.Begin c = steps.Begin
kind_of rows.Frame c = hc_step (frame_step c)
kind_of rows.Enter c = hc_step (walk_step (entered c))
kind_of rows.Go c = hc_step (walk_step c)
kind_of rows.End c = steps.End
