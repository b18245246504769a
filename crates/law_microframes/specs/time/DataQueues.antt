-- The queues of interrupt endpoints carry data alone (EHCI 1.0, 3.5.3, 3.6 and 4.10; USB 2.0, 5.7 and 8.5.3): each of their transactions is an IN or an OUT, of PID code 1 or 0, since
-- only a control request has a SETUP, of PID code 2.
--     qtd_in m b                the qTD in block b, as its words are
--     pid_of dir                the PID code of an IN or of an OUT (3.5.3)
--     way_of x                  the way of the data of endpoint x
--     SendsData dir q           while the qTD q is active its PID code is that of this way
--     QueuesSendData d m        so it is of each qTD of each transfer of an interrupt endpoint that wasn't given back, by the endpoint's way
--     NewQueuesSendData, ControllerKeepsData, DriverKeepsData, CommandKeepsData     so it is before the first line, and after each event and each command
--     ScriptsSendData           so it is at each moment of each script that fits
--     GoesBy d n dir            at n stands the queue head of an interrupt endpoint of this way
--     HeadsSendData             then while the overlay of a queue head that the walk of the frames may meet is active, its PID code is that of its endpoint's way
--     CopiesSendData            .. so is that of the copy in hand of the walk of the frames
--     TakesSendData             .. and that of a qTD that the walk takes
--     ReadsData w               so it is of the queue head of each interrupt endpoint that wasn't given back, of the copy in hand, and of a qTD that is taken
--     MixedWorldsReadData, ScriptsReadData     so it is in each mixed world of such queues, and at each moment of each script that fits
use Rattle.std.specs.Prelude.{◌≡◌, ℕ, ◌*◌, ◌<◌, true, false, slice_get, Some}
use Rattle.usb_base.specs.declared.commands.Cmd.{Cmd}
use Rattle.usb_base.specs.declared.packets.Dir.{Dir}
use Rattle.usb_base.specs.declared.packets.Dir.TheVariants as directions
use Rattle.usb_base.specs.declared.packets.EpKind.TheVariants.{Interrupt}
use Rattle.script_types.specs.declared.scripts.Script.{Script}
use Rattle.script_fits.specs.Fits.{IsFit}
use Rattle.law_scripts.specs.byte_answers.Bytes.{IsByteScript}
use Rattle.bus_wire.specs.Bus.{Fixed}
use Rattle.word_mem.specs.Memory.{Mem}
use Rattle.word_mem.specs.Views.{words_at}
use Rattle.qh_qtd.specs.declared.qtd.Qtd.{Qtd}
use Rattle.qh_qtd.specs.declared.queue_head.Qh.{Qh}
use Rattle.qh_qtd.specs.Qtd.{qtd_at}
use Rattle.mem_queues.specs.Structures.{queue_head_at_address}
use Rattle.drv_periodic_table.specs.Periodic.{dir_of}
use Rattle.drv_table.specs.declared.content.Endpoint.{Endpoint}
use Rattle.drv_table.specs.declared.content.Transfer.{Transfer}
use Rattle.drv_table.specs.DriverContent.{DriverContent}
use Rattle.drv_table.specs.Offers.{IsOffered}
use Rattle.claims_driver.specs.Owners.{is_descriptor, note_in}
use Rattle.law_driver.specs.chained_transfers.Chains.{piece_at}
use Rattle.periodic_walk.specs.declared.queue.QueueRow.TheVariants.{Advance}
use Rattle.periodic_walk.specs.declared.state.HeldQueue.{HeldQueue}
use Rattle.periodic_walk.specs.declared.state.Hand.TheVariants as hands
use Rattle.periodic_walk.specs.Queue.{queue_row}
use Rattle.hc_core.specs.declared.controller.MicroframePart.TheVariants.{Periodic}
use Rattle.hc_core.specs.Controller.{frame_place}
use Rattle.law_frames.specs.Met.{AQueue}
use Rattle.law_descriptors.specs.Meeting.{met}
use Rattle.bus_world.specs.World.{World, controller_parts, driver_next, controller_next, commanded}
use Rattle.bus_world.specs.Opening.{opening_world}
use Rattle.bus_world.specs.Budgets.{moment}
use Rattle.law_world.specs.memory.Mixed.{Standing, IsMixedAt, IsMixedWorld}
use Rattle.law_world.specs.memory.Laws.{OpensMixed}
use Rattle.law_world.specs.memory.PlacedLaws.{FitsMixed}
use Rattle.law_microframes.specs.visits.Belonging.{IsQueueAt}

abbrev pub qtd_in : Mem → ℕ → Qtd
qtd_in m b = qtd_at (words_at m (32 * b) 8)

abbrev pub pid_of : Dir → ℕ
pid_of directions.In = 1
pid_of directions.Out = 0

abbrev pub way_of : Endpoint → Dir
way_of x = dir_of x.desc.name.way

abbrev pub SendsData : Dir → Qtd → Type 0
SendsData dir q = q.token.active ≡ true → q.token.pid ≡ pid_of dir

abbrev pub QueuesSendData : DriverContent → Mem → Type 0
QueuesSendData d m =
    (t i : ℕ) (y : Transfer) (x : Endpoint) → slice_get d.transfers t ≡ Some y → is_descriptor y.sort ≡ false → y.released ≡ false → slice_get d.endpoints y.endpoint ≡ Some x
    → x.desc.kind ≡ Interrupt → i < y.qtds → SendsData (way_of x) (qtd_in m (piece_at (note_in d.notes) y.first i))

-- ---- along a run

abbrev pub NewQueuesSendData : Type 0
NewQueuesSendData = (s : Script) → QueuesSendData (opening_world s).driver (opening_world s).memory

abbrev pub ControllerKeepsData : Type 0
ControllerKeepsData = (fixed : Fixed) (w : World) → IsMixedWorld w → QueuesSendData w.driver w.memory → QueuesSendData (controller_next fixed w).driver (controller_next fixed w).memory

abbrev pub DriverKeepsData : Type 0
DriverKeepsData = (w : World) → IsMixedWorld w → QueuesSendData w.driver w.memory → QueuesSendData (driver_next w).driver (driver_next w).memory

abbrev pub CommandKeepsData : Type 0
CommandKeepsData =
    (w : World) (line : ℕ) (cmd : Cmd) → OpensMixed cmd → IsOffered w.driver.room cmd → IsMixedWorld w → QueuesSendData w.driver w.memory
    → QueuesSendData (commanded w line cmd).driver (commanded w line cmd).memory

abbrev pub ScriptsSendData : Type 0
ScriptsSendData = (s : Script) → IsFit s → IsByteScript s → FitsMixed s → (k : ℕ) → QueuesSendData (moment s k).world.driver (moment s k).world.memory

-- ---- what the walk of the frames reads

pub record GoesBy (d : DriverContent) (n : ℕ) (dir : Dir) : Type 0 where
  pub at : IsQueueAt d n
  pub way : way_of at.belongs.endpoint ≡ dir

abbrev pub HeadsSendData : Type 0
HeadsSendData = (s : Standing) (w : World) (n : ℕ) (dir : Dir) (q : Qh) → GoesBy w.driver n dir → IsMixedAt s w
    → QueuesSendData w.driver w.memory → met w.driver s.recent n ≡ Some AQueue
    → queue_head_at_address w.memory n ≡ Some q → q.token.active ≡ true → q.token.pid ≡ pid_of dir

abbrev pub CopiesSendData : Type 0
CopiesSendData = (s : Standing) (w : World) (h : HeldQueue) (dir : Dir) → GoesBy w.driver h.copy.at dir → IsMixedAt s w
    → QueuesSendData w.driver w.memory → w.control.part ≡ Periodic
    → w.control.frame.hand ≡ Some (hands.Queue h) → h.copy.queue_head.token.active ≡ true → h.copy.queue_head.token.pid ≡ pid_of dir

abbrev pub TakesSendData : Type 0
TakesSendData = (s : Standing) (w : World) (h : HeldQueue) (a : ℕ) (t : Qtd) (dir : Dir) → GoesBy w.driver h.copy.at dir → IsMixedAt s w
    → QueuesSendData w.driver w.memory → w.control.part ≡ Periodic
    → w.control.frame.hand ≡ Some (hands.Queue h) → queue_row (frame_place (controller_parts w)) h ≡ Advance a t → t.token.pid ≡ pid_of dir

-- ---- all that is read

pub record ReadsData (w : World) : Type 0 where
  pub heads : (e : ℕ) (x : Endpoint) (q : Qh) → slice_get w.driver.endpoints e ≡ Some x → x.desc.kind ≡ Interrupt → x.gone ≡ false → queue_head_at_address w.memory (32 * x.queue) ≡ Some q
      → q.token.active ≡ true → q.token.pid ≡ pid_of (way_of x)
  pub copies : (h : HeldQueue) (dir : Dir) → GoesBy w.driver h.copy.at dir → w.control.part ≡ Periodic
      → w.control.frame.hand ≡ Some (hands.Queue h) → h.copy.queue_head.token.active ≡ true
      → h.copy.queue_head.token.pid ≡ pid_of dir
  pub takes : (h : HeldQueue) (a : ℕ) (t : Qtd) (dir : Dir) → GoesBy w.driver h.copy.at dir → w.control.part ≡ Periodic
      → w.control.frame.hand ≡ Some (hands.Queue h) → queue_row (frame_place (controller_parts w)) h ≡ Advance a t
      → t.token.pid ≡ pid_of dir

abbrev pub MixedWorldsReadData : Type 0
MixedWorldsReadData = (w : World) → IsMixedWorld w → QueuesSendData w.driver w.memory → ReadsData w

abbrev pub ScriptsReadData : Type 0
ScriptsReadData = (s : Script) → IsFit s → IsByteScript s → FitsMixed s → (k : ℕ) → ReadsData (moment s k).world
