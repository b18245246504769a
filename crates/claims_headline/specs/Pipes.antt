-- Both sides of the pipe of a bulk or interrupt IN endpoint at high speed agree (EHCI 1.0, 3.5.3, 4.10.2 and 4.10.3; USB 2.0, 5.8.3, 8.5
-- and 8.6): its device knows the first packets of its stream to be accepted, and the host has accepted these, or one more, whose
-- acknowledgement the device didn't hear; the toggle of each side is the parity of its number; and the bytes that the report tells begin
-- the packets that the host accepted. What memory holds of the others isn't said.
--
-- So do both sides of that of an OUT endpoint there: its device took the bytes that the host counts as moved, and both have one toggle; or
-- besides these the packet that the host sends next, whose acknowledgement the host didn't hear, and the toggles differ. What a halted
-- queue head sent last isn't said.
--     parity n               the toggle after n packets
--     toggle_of_copy n o b   the toggle that this copy in hand tells of the queue head at byte address n, where its transaction is made and
--                            isn't written back, else b
--     frame_copy part hand   the copy in the hand of the walk of the frames
--     host_toggle w n q      the toggle of the next transaction of the queue head q at n: that of such a copy, else of its words
--     HasSending fixed b name    the device of an IN endpoint on the high-speed bus, with what it has still to send, and its toggle
--     opens_now command b    the unfinished command opens the endpoint with its queue head in block b, or an interrupt endpoint
--     IsOpenIn d e x         endpoint e of the driver is x, a bulk or interrupt IN endpoint at high speed that was opened and isn't given
--                            back, nor unlinked
--     InPipeAgrees s w x     both sides of the pipe of x agree
--     InPipesAgree s         so it is of each of them, at each moment of the run of a script
--     HasTaking fixed b name     the device of an OUT endpoint on the high-speed bus, with what it took, and the toggle that it expects
--     IsOpenOut d e x        endpoint e of the driver is x, such an OUT endpoint
--     next_packet m q        the bytes that the queue head q sends next, as memory holds them
--     AreNear m q host moved t   the device's taking t is level with the host, whose toggle this is, and which counts these bytes as moved,
--                            or one packet ahead
--     OutPipeAgrees s w x    both sides of the pipe of x agree; and what its device took begins what was put to it
--     OutPipesAgree s        so it is of each of them, at each moment of the run of a script
--     PipesAgree s           both ways
use Rattle.std.specs.Prelude.{◌≡◌, ℕ, ◌+◌, ◌*◌, ◌%◌, ◌==◌, ◌⊎◌, Bool, true, false, drop, take, slice_get, Option, Some, None, if◌then◌else◌}
use Rattle.std.specs.Prelude.{min, not, List, ◌++◌}
use Rattle.std.specs.List.{concat}
use Rattle.usb_base.specs.declared.endpoints.EpName.{EpName}
use Rattle.usb_base.specs.declared.packets.Way.TheVariants as ways
use Rattle.script_types.specs.declared.scripts.Script.{Script}
use Rattle.endpoint_script.specs.Items.{packets_of}
use Rattle.endpoint_script.specs.Device.{Device, place_named, endpoint_at}
use Rattle.endpoint_script.specs.declared.endpoint.Endpoint.{Endpoint as DeviceEndpoint}
use Rattle.endpoint_script.specs.declared.endpoint.Role.TheVariants.{Sends, Takes}
use Rattle.endpoint_script.specs.Sending.{Sending}
use Rattle.endpoint_script.specs.Taking.{Taking}
use Rattle.toggle_error.specs.declared.host.Outcome.{Outcome}
use Rattle.qh_qtd.specs.declared.queue_head.Qh.{Qh}
use Rattle.word_mem.specs.Memory.{Mem}
use Rattle.mem_bytes.specs.Bytes.{bytes_at}
use Rattle.mem_queues.specs.Structures.{queue_head_at_address}
use Rattle.hc_copy.specs.declared.held.Held.{Held}
use Rattle.hc_copy.specs.Overlay.{pages_of, buffer_place}
use Rattle.periodic_walk.specs.declared.state.Hand.{Hand}
use Rattle.periodic_walk.specs.declared.state.Hand.TheVariants as hands
use Rattle.hc_core.specs.declared.controller.MicroframePart.{MicroframePart}
use Rattle.hc_core.specs.declared.controller.MicroframePart.TheVariants.{Periodic}
use Rattle.bus_wire.specs.declared.seats.Owner.TheVariants as owners
use Rattle.bus_wire.specs.declared.seats.Seat.{Seat}
use Rattle.bus_wire.specs.declared.seats.TokenKind.TheVariants as tokens
use Rattle.bus_wire.specs.Bus.{Bus, Fixed, fixed_of}
use Rattle.bus_wire.specs.Seats.{place_for}
use Rattle.drv_table.specs.declared.content.Command.{Command}
use Rattle.drv_table.specs.declared.content.Command.TheVariants as unfinished
use Rattle.drv_table.specs.declared.content.Endpoint.{Endpoint}
use Rattle.drv_table.specs.DriverContent.{DriverContent}
use Rattle.drv_table.specs.Words.{is_high}
use Rattle.drv_periodic_table.specs.Periodic.{is_periodic}
use Rattle.claims_base.specs.Prefix.{IsPrefix}
use Rattle.claims_driver.specs.Scripts.{comes_in, receives}
use Rattle.claims_report.specs.Streams.{has_stream, items_of, stream, told}
use Rattle.bus_world.specs.Budgets.{moment}
use Rattle.bus_world.specs.World.{World}
use Rattle.claims_world.specs.Streams.{report_of}

abbrev pub parity : ℕ → Bool
parity n = n % 2 == 1

-- ---- the host's side

abbrev pub unless_settled : Option Outcome → Bool → Bool → Bool → Bool
unless_settled None at own other = other
unless_settled (Some outcome) at own other = if at then own else other

abbrev pub toggle_of_copy : ℕ → Option Held → Bool → Bool
toggle_of_copy n None other = other
toggle_of_copy n (Some h) other = unless_settled h.settled (h.at == n) h.queue_head.token.toggle other

abbrev pub queue_copy : Option Hand → Option Held
queue_copy (Some (hands.Queue h)) = Some h.copy
queue_copy _ = None

abbrev pub frame_copy : MicroframePart → Option Hand → Option Held
frame_copy Periodic hand = queue_copy hand
frame_copy _ hand = None

abbrev pub host_toggle : World → ℕ → Qh → Bool
host_toggle w n q =
    toggle_of_copy n (frame_copy w.control.part w.control.frame.hand) (toggle_of_copy n w.control.walk.held q.token.toggle)

-- ---- the device's side

pub record HasSending (fixed : Fixed) (b : Bus) (name : EpName) : Type 0 where
  pub place : ℕ
  pub asked : place_for fixed.seats name.addr name.num tokens.In ≡ Some place
  pub seat : Seat
  pub seated : slice_get fixed.seats place ≡ Some seat
  pub at : ℕ
  pub owner : seat.owner ≡ owners.High at
  pub device : Device
  pub there : slice_get b.devices at ≡ Some device
  pub endpoint : DeviceEndpoint
  pub found : endpoint_at device.endpoints (place_named device.endpoints name.num ways.In) ≡ Some endpoint
  pub sending : Sending
  pub does : endpoint.part ≡ Sends sending

-- ---- both

abbrev pub opens_now : Option Command → ℕ → Bool
opens_now (Some (unfinished.Open b)) n = b == n
opens_now (Some unfinished.Chain) n = true
opens_now _ n = false

pub record IsOpenIn (d : DriverContent) (e : ℕ) (x : Endpoint) : Type 0 where
  pub here : slice_get d.endpoints e ≡ Some x
  pub stream : has_stream x.desc.kind ≡ true
  pub high : is_high x.desc.speed ≡ true
  pub comes : comes_in x.desc.name.way ≡ true
  pub kept : x.gone ≡ false
  pub linked : is_periodic x.desc.kind ≡ false → x.linked ≡ true
  pub opened : opens_now d.command x.queue ≡ false

pub record InPipeAgrees (s : Script) (w : World) (x : Endpoint) : Type 0 where
  pub queue : Qh
  pub read : queue_head_at_address w.memory (32 * x.queue) ≡ Some queue
  pub sender : HasSending (fixed_of s) w.bus x.desc.name
  pub known : ℕ  -- the packets that the device knows to be accepted
  pub accepted : ℕ  -- those that the host accepted
  pub left : packets_of sender.sending.items ≡ drop known (packets_of (items_of s x.desc.name))
  pub near : (accepted ≡ known) ⊎ (accepted ≡ known + 1)
  pub sends : sender.sending.toggle ≡ parity known
  pub expects : host_toggle w (32 * x.queue) queue ≡ parity accepted
  pub told_of : IsPrefix (told (report_of (fixed_of s) w) x.desc.name) (concat (take accepted (packets_of (items_of s x.desc.name))))

abbrev pub InPipesAgree : Script → Type 0
InPipesAgree s = (k e : ℕ) (x : Endpoint) → IsOpenIn (moment s k).world.driver e x → InPipeAgrees s (moment s k).world x

-- ---- OUT endpoints

pub record HasTaking (fixed : Fixed) (b : Bus) (name : EpName) : Type 0 where
  pub place : ℕ
  pub asked : place_for fixed.seats name.addr name.num tokens.Out ≡ Some place
  pub seat : Seat
  pub seated : slice_get fixed.seats place ≡ Some seat
  pub at : ℕ
  pub owner : seat.owner ≡ owners.High at
  pub device : Device
  pub there : slice_get b.devices at ≡ Some device
  pub endpoint : DeviceEndpoint
  pub found : endpoint_at device.endpoints (place_named device.endpoints name.num ways.Out) ≡ Some endpoint
  pub taking : Taking
  pub does : endpoint.part ≡ Takes taking

pub record IsOpenOut (d : DriverContent) (e : ℕ) (x : Endpoint) : Type 0 where
  pub here : slice_get d.endpoints e ≡ Some x
  pub stream : has_stream x.desc.kind ≡ true
  pub high : is_high x.desc.speed ≡ true
  pub leaves : receives x.desc.name.way ≡ false
  pub kept : x.gone ≡ false
  pub linked : is_periodic x.desc.kind ≡ false → x.linked ≡ true
  pub opened : opens_now d.command x.queue ≡ false

abbrev pub next_packet : Mem → Qh → List ℕ
next_packet m q = bytes_at m (pages_of q) (buffer_place q) (min q.max q.token.total)

pub data AreNear (m : Mem) (q : Qh) (host : Bool) (moved : List ℕ) (t : Taking) : Type 0 where
  level : t.toggle ≡ host → t.taken ≡ moved → AreNear m q host moved t
  ahead : t.toggle ≡ not host → t.taken ≡ moved ++ next_packet m q → q.token.active ≡ true → AreNear m q host moved t
  halted : (packet : List ℕ) → t.toggle ≡ not host → t.taken ≡ moved ++ packet → q.token.active ≡ false → q.token.halted ≡ true
      → AreNear m q host moved t

pub record OutPipeAgrees (s : Script) (w : World) (x : Endpoint) : Type 0 where
  pub queue : Qh
  pub read : queue_head_at_address w.memory (32 * x.queue) ≡ Some queue
  pub taker : HasTaking (fixed_of s) w.bus x.desc.name
  pub moved : List ℕ  -- the bytes that the host counts as moved
  pub near : AreNear w.memory queue (host_toggle w (32 * x.queue) queue) moved taker.taking
  pub told_of : IsPrefix (told (report_of (fixed_of s) w) x.desc.name) moved
  pub put : IsPrefix taker.taking.taken (stream s (report_of (fixed_of s) w) x.desc.name)

abbrev pub OutPipesAgree : Script → Type 0
OutPipesAgree s = (k e : ℕ) (x : Endpoint) → IsOpenOut (moment s k).world.driver e x → OutPipeAgrees s (moment s k).world x

-- ---- both ways

pub record PipesAgree (s : Script) : Type 0 where
  pub ins : InPipesAgree s
  pub outs : OutPipesAgree s
