-- The bus machine: its content, and what one event or command leaves. Nothing is copied: the content is the record of the contents of its
-- parts, and each event is the row of one part (EHCI 1.0, 4; USB 2.0, 8).
--     World                      the content
--     next fixed w event         what one event leaves: of the driver, or of the controller over the wire
--     kind_after fixed w         the kind of the controller's next event
--     commanded w n cmd          what a command on line n leaves
use Rattle.std.specs.Prelude.{ℕ, ◌-◌, Bool, true, false, List, [], ◌∷◌, ◌++◌, length, Option, Some, None, Result, Ok, Err}
use Rattle.usb_base.specs.declared.commands.Cmd.{Cmd}
use Rattle.usb_base.specs.declared.commands.Cmd.TheVariants as commands
use Rattle.usb_base.specs.declared.endpoints.EpName.{EpName}
use Rattle.usb_base.specs.declared.packets.Way.TheVariants as ways
use Rattle.usb_base.specs.declared.reports.OfferError.{OfferError}
use Rattle.usb_base.specs.declared.reports.What.TheVariants.{Refused}
use Rattle.script_types.specs.declared.scripts.Event.{Event}
use Rattle.script_types.specs.declared.scripts.Event.TheVariants as events
use Rattle.word_mem.specs.Memory.{Mem}
use Rattle.op_registers.specs.RegisterFile.{RegisterFile}
use Rattle.op_registers.specs.Events.{next_index}
use Rattle.transactions.specs.Calls.{Call}
use Rattle.hc_copy.specs.declared.held.Held.{Held}
use Rattle.hc_copy.specs.declared.held.Transaction.{Transaction}
use Rattle.hc_copy.specs.Buffer.{Reading, sending}
use Rattle.hc_copy.specs.Transacting.{call_in}
use Rattle.async_walk.specs.declared.rows.WalkRow.{WalkRow}
use Rattle.async_walk.specs.declared.rows.WalkRow.TheVariants as walks
use Rattle.async_walk.specs.Rows.{WalkPlace, at_event, event_row, after_walk_row as after_walk, transacted, faulted as walk_faulted}
use Rattle.hc_core.specs.declared.controller.HcStep.{HcStep}
use Rattle.periodic_walk.specs.Place.{FramePlace, Effect}
use Rattle.periodic_walk.specs.Place.Effect.{Leaves, Asks}
use Rattle.periodic_walk.specs.Rows.{effect_of}
use Rattle.hc_core.specs.declared.controller.MicroframePart.TheVariants.{Periodic, Asynchronous}
use Rattle.hc_core.specs.declared.controller.ControllerRow.{ControllerRow}
use Rattle.hc_core.specs.declared.controller.ControllerRow.TheVariants as rows
use Rattle.hc_core.specs.Controller.{Control, Content, content, microframe_row, kind_of, began, ended, entered, frame_place, frame_step, walk_place, walk_step, part_after}
use Rattle.drv_table.specs.DriverContent.{DriverContent}
use Rattle.drv_table.specs.Parts.{Parts}
use Rattle.drv_table.specs.Rows.{driver_row, after_driver_row as after_driver}
use Rattle.drv_table.specs.Accepting.{Offered}
use Rattle.drv_table.specs.Offers.{offered}
use Rattle.bus_wire.specs.Bus.{Bus, Fixed, begin_after, is_allowed, reply_of, transact_after}

pub record World : Type 0 where
  pub registers : RegisterFile
  pub memory : Mem
  pub control : Control
  pub driver : DriverContent
  pub bus : Bus

-- a world with what is fixed of its bus
pub record Standing : Type 0 where
  pub fixed : Fixed
  pub world : World

-- ---- an event of the driver

abbrev pub driver_parts : World → Parts
driver_parts w = record { driver = w.driver; registers = w.registers; memory = w.memory }

abbrev pub with_parts : World → Parts → World
with_parts w p = record w { driver = p.driver; registers = p.registers; memory = p.memory }

abbrev pub driver_next : World → World
driver_next w = with_parts w (after_driver (driver_row (driver_parts w)) (driver_parts w))

-- ---- an event of the controller, over the wire of the world

-- what an event of the controller reads and changes, with the bus
pub record Turned : Type 0 where
  pub content : Content
  pub bus : Bus

pub record FrameWalked : Type 0 where
  pub place : FramePlace
  pub bus : Bus

-- one event of the walk of the frame's chain: it asks the bus once, or not at all
abbrev pub frame_by : Fixed → Effect → Bus → FrameWalked
frame_by fixed (Leaves p) b = record { place = p; bus = b }
frame_by fixed (Asks ask out left_by) b = record { place = left_by (reply_of fixed b ask out); bus = transact_after fixed b ask out }

abbrev pub frame_next : Fixed → FramePlace → Bus → FrameWalked
frame_next fixed p b = frame_by fixed (effect_of p) b

-- that event as one of the controller
abbrev pub framed_content : Content → FramePlace → Content
framed_content c p = record {
  control = record { part = part_after Periodic (frame_step c); frame = p.walk; walk = c.control.walk };
  registers = p.registers;
  memory = p.memory;
}

abbrev pub framed : Content → FrameWalked → Turned
framed c v = record { content = framed_content c v.place; bus = v.bus }

pub record Walked : Type 0 where
  pub place : WalkPlace
  pub bus : Bus

-- A transaction of the copy in hand that sends these bytes: it asks the bus once. Where not all bytes could be read it is the fault, and
-- nothing is asked.
abbrev pub sent_by : Fixed → Bool → Transaction → Held → List ℕ → WalkPlace → Bus → Walked
sent_by fixed true t h bytes p b =
    let call : Call = call_in t bytes false in
    record { place = transacted t h bytes (reply_of fixed b call.ask call.out) p; bus = transact_after fixed b call.ask call.out }
sent_by fixed false t h bytes p b = record { place = walk_faulted p; bus = b }

abbrev pub sends_by : Fixed → Transaction → WalkPlace → Option Held → Bus → Walked
sends_by fixed t p None b = record { place = p; bus = b }
sends_by fixed t p (Some h) b =
    let read : Reading = sending t h.queue_head p.memory in
    sent_by fixed read.all t h read.bytes (record p { memory = read.memory }) b

-- one event of the walk of the ring
abbrev pub walk_by : Fixed → WalkRow → WalkPlace → Bus → Walked
walk_by fixed (walks.Transact t) p b = sends_by fixed t p p.walk.held b
walk_by fixed row p b = record { place = after_walk row p; bus = b }

abbrev pub walk_next : Fixed → WalkPlace → Bus → Walked
walk_next fixed p b = walk_by fixed (event_row p) (at_event p) b

-- that event as one of the controller
abbrev pub walked_content : Content → WalkPlace → Content
walked_content c p = record {
  control = record { part = part_after Asynchronous (walk_step c); frame = c.control.frame; walk = p.walk };
  registers = p.registers;
  memory = p.memory;
}

abbrev pub walked : Content → Walked → Turned
walked c v = record { content = walked_content c v.place; bus = v.bus }

abbrev pub turned_by : Fixed → ControllerRow → Content → Bus → Turned
turned_by fixed rows.Idle c b = record { content = c; bus = b }
turned_by fixed rows.Begin c b = record { content = began (is_allowed fixed b) c; bus = begin_after fixed (next_index c.registers.frame_index) b }
turned_by fixed rows.Frame c b = framed c (frame_next fixed (frame_place c) b)
turned_by fixed rows.Enter c b = walked (entered c) (walk_next fixed (walk_place (entered c)) b)
turned_by fixed rows.Go c b = walked c (walk_next fixed (walk_place c) b)
turned_by fixed rows.End c b = record { content = record c { control = ended c.control }; bus = b }

abbrev pub controller_parts : World → Content
controller_parts w = content w.control w.registers w.memory

abbrev pub with_turned : World → Turned → World
with_turned w t = record w { control = t.content.control; registers = t.content.registers; memory = t.content.memory; bus = t.bus }

abbrev pub controller_row : World → ControllerRow
controller_row w = microframe_row w.registers w.control

abbrev pub controller_next : Fixed → World → World
controller_next fixed w = with_turned w (turned_by fixed (controller_row w) (controller_parts w) w.bus)

-- ---- one event

abbrev pub next : Fixed → World → Event → World
next fixed w events.D = driver_next w
next fixed w events.C = controller_next fixed w

-- the kind of the controller's next event
abbrev pub kind_next : World → HcStep
kind_next w = kind_of (controller_row w) (controller_parts w)

-- ---- a command: it is accepted, or its refusal is a line of the report

-- the control endpoint 0 of an address
abbrev pub endpoint_zero : ℕ → EpName
endpoint_zero addr = record { addr = addr; num = 0; way = ways.Ctl }

-- the endpoint that a command is for; a root port has none
abbrev pub name_in : Cmd → EpName
name_in (commands.OpenEp desc) = desc.name
name_in (commands.Get name len by) = name
name_in (commands.Put name bytes by) = name
name_in (commands.Control name setup bytes) = name
name_in (commands.Iso name count len seed) = name
name_in (commands.Cancel name) = name
name_in (commands.Clear name) = name
name_in (commands.Reset port) = endpoint_zero 0
name_in (commands.Give port) = endpoint_zero 0
name_in (commands.DiskRead addr lba count) = endpoint_zero addr
name_in (commands.DiskWrite addr lba bytes) = endpoint_zero addr
name_in (commands.Revive addr) = endpoint_zero addr

-- one more line of the report: the command on line n was refused
abbrev pub refused_line : DriverContent → ℕ → EpName → OfferError → DriverContent
refused_line d n name why =
    record d {
      reports = d.reports ++ (record { name = name; what = Refused n why; from = length d.store; len = 0 }) ∷ [];
      room = record d.room { reports = d.room.reports - 1 };
    }

abbrev pub commanded_by : World → ℕ → EpName → Result Offered OfferError → World
commanded_by w n name (Ok o) = record w { driver = o.driver; memory = o.memory }
commanded_by w n name (Err why) = record w { driver = refused_line w.driver n name why }

abbrev pub commanded : World → ℕ → Cmd → World
commanded w n cmd = commanded_by w n (name_in cmd) (offered w.driver w.memory cmd)
