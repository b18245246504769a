-- What is due of a high-speed interrupt endpoint as the walk of the frames comes to its queue head, and when it is done (EHCI 1.0, 3.5.3,
-- 3.6.2, 4.4, 4.6, 4.7, 4.10 and 4.10.3; USB 2.0, 5.7.4, 5.11.3, 8.4.1, 8.5 and 8.6); and the walk comes to each in its frames.
--     IsActiveToken t          the token is Active and not Halted
--     ComesTo m q v            what the queue head q works on next: its overlay, or the active qTD that it goes on to, as v has it then
--     MovesPacket way v part   this part of a device, of an endpoint of this way, moves a packet of the queue head v: it has the toggle of
--                              v, and the next item of an IN is a packet that isn't longer than v has room for; an OUT takes what v sends
--     bytes_moved m            how many bytes that packet has
--     token_by way             the token by which an endpoint of this way is asked; stage_by way: as the device knows it
--     IsHeardBy ..             this part of a device on the high-speed bus hears the tokens of this name, at its place on the bus
--     NoneIsLost fixed x n     none of the three packets from number n on that the endpoint x has on the high-speed bus is one that the
--                              script loses or damages: a transaction has a token, data and a handshake (8.5)
--     CanMove fixed b x v      the device of the endpoint x does so for the queue head v, and none of its next packets is lost
--     HasTransfer fixed w x a  the queue head at a of the endpoint x comes to work on something for which its device is ready
--     IsDueNow fixed o e q     a transaction of the interrupt endpoint e, whose queue head begins in block q, is due in the microframe of
--                              the world o: it is one of high speed in the frame list, its S-mask has the microframe, the bus may be
--                              used, and it has a transfer
--     DueIsDone s              at each moment of the run of a script at which the walk of the frames is over: what was due as the walk came
--                              to its queue head in the microframe moved its packet in it and was written back, where no more than 4
--                              microseconds went for complete-splits that were made again
--     KeepsDue s               both: it comes to each, and what is due is done
use Rattle.std.specs.Prelude.{◌≡◌, ℕ, ◌*◌, ◌≤◌, ◌<◌, true, false, List, ◌∷◌, length, slice_get, Some}
use Rattle.usb_base.specs.declared.endpoints.EpName.{EpName}
use Rattle.usb_base.specs.declared.packets.Speed.TheVariants.{High}
use Rattle.usb_base.specs.declared.packets.Way.{Way}
use Rattle.usb_base.specs.declared.packets.Way.TheVariants as ways
use Rattle.script_types.specs.declared.devices.Item.{Item}
use Rattle.script_types.specs.declared.devices.Item.TheVariants.{Bytes}
use Rattle.script_types.specs.declared.scripts.Script.{Script}
use Rattle.dev_control.specs.declared.rows.StageToken.{StageToken}
use Rattle.dev_control.specs.declared.rows.StageToken.TheVariants as stages
use Rattle.endpoint_script.specs.declared.endpoint.Endpoint.{Endpoint as DeviceEndpoint}
use Rattle.endpoint_script.specs.declared.endpoint.Role.{Role}
use Rattle.endpoint_script.specs.declared.endpoint.Role.TheVariants as roles
use Rattle.endpoint_script.specs.declared.rows.TakeRow.TheVariants.{Takes}
use Rattle.endpoint_script.specs.Device.{Device, endpoint_at, place_for as place_in_device}
use Rattle.endpoint_script.specs.Sending.{Sending}
use Rattle.endpoint_script.specs.Taking.{Taking, next_row, has_room}
use Rattle.word_mem.specs.Memory.{Mem}
use Rattle.link_words.specs.declared.kinds.QtdLink.TheVariants.{To}
use Rattle.link_words.specs.Links.{qtd_link_of}
use Rattle.qh_qtd.specs.declared.qtd.Qtd.{Qtd}
use Rattle.qh_qtd.specs.declared.queue_head.Qh.{Qh}
use Rattle.qh_qtd.specs.declared.token.Token.{Token}
use Rattle.bandwidth.specs.declared.placements.Placement.{Placement}
use Rattle.bandwidth.specs.Placements.{has}
use Rattle.mem_queues.specs.Structures.{qtd_at_address, queue_head_at_address}
use Rattle.hc_copy.specs.Overlay.{advanced}
use Rattle.hc_copy.specs.Visits.{next_pointer}
use Rattle.hc_interrupt.specs.Turns.{microframe_of}
use Rattle.bus_wire.specs.declared.seats.Owner.TheVariants as owners
use Rattle.bus_wire.specs.declared.seats.Seat.{Seat}
use Rattle.bus_wire.specs.declared.seats.TokenKind.{TokenKind}
use Rattle.bus_wire.specs.declared.seats.TokenKind.TheVariants as tokens
use Rattle.bus_wire.specs.Bus.{Bus, Fixed, fixed_of}
use Rattle.bus_wire.specs.Fates.{is_unheard}
use Rattle.bus_wire.specs.Seats.{place_for}
use Rattle.bus_wire.specs.WhoHeard.{later}
use Rattle.bus_world.specs.Budgets.{moment}
use Rattle.bus_world.specs.World.{World}
use Rattle.claims_world.specs.Prices.{left_bytes}
use Rattle.claims_world.specs.Visits.{IsPastFrames, is_held_now}
use Rattle.claims_world.specs.WithinLoad.{repeats}
use Rattle.claims_world.specs.Coming.{IsInItsFrames, ComesToEach}
use Rattle.claims_world.specs.SoFar.{so_far, HasFound, HasMoved}

-- ---- its transfer

-- what isn't Active isn't worked on, nor what is Halted (3.5.3, 4.10.2)
pub record IsActiveToken (t : Token) : Type 0 where
  pub active : t.active ≡ true
  pub unhalted : t.halted ≡ false

pub data ComesTo (m : Mem) (q : Qh) : Qh → Type 0 where
  goes_on : IsActiveToken q.token → ComesTo m q q
  takes : (a : ℕ) (t : Qtd) → q.token.active ≡ false → q.token.halted ≡ false → qtd_link_of (next_pointer q) ≡ To a
      → qtd_at_address m a ≡ Some t → IsActiveToken t.token → ComesTo m q (advanced q a t)

-- both sides have the same toggle (USB 2.0, 8.6); an interrupt endpoint isn't pinged (EHCI 1.0, 4.11)
pub data MovesPacket : Way → Qh → Role → Type 0 where
  by_packet : (v : Qh) (s : Sending) (bytes : List ℕ) (rest : List Item) → s.items ≡ Bytes bytes ∷ rest
      → length bytes ≤ left_bytes v → s.toggle ≡ v.token.toggle → MovesPacket ways.In v (roles.Sends s)
  by_taking : (v : Qh) (t : Taking) → v.token.ping ≡ false → next_row t.items (has_room t (left_bytes v)) ≡ Takes
      → t.toggle ≡ v.token.toggle → MovesPacket ways.Out v (roles.Takes t)

abbrev pub bytes_moved : {way : Way} {v : Qh} {part : Role} → MovesPacket way v part → ℕ
bytes_moved (by_packet v s bytes rest items short same) = length bytes
bytes_moved (by_taking v t unpinged taken same) = left_bytes v

-- an IN asks for data, an OUT carries them
abbrev pub token_by : Way → TokenKind
token_by ways.In = tokens.In
token_by ways.Out = tokens.Out
token_by ways.Ctl = tokens.Setup

abbrev pub stage_by : Way → StageToken
stage_by ways.In = stages.In
stage_by ways.Out = stages.Out
stage_by ways.Ctl = stages.Setup

pub record IsHeardBy (fixed : Fixed) (b : Bus) (name : EpName) (place : ℕ) (part : Role) : Type 0 where
  pub asked : place_for fixed.seats name.addr name.num (token_by name.way) ≡ Some place
  pub seat : Seat
  pub seated : slice_get fixed.seats place ≡ Some seat
  pub named : seat.name ≡ name
  pub at : ℕ
  pub owner : seat.owner ≡ owners.High at
  pub device : Device
  pub there : slice_get b.devices at ≡ Some device
  pub address : device.address ≡ name.addr
  pub endpoint : DeviceEndpoint
  pub found : endpoint_at device.endpoints (place_in_device (stage_by name.way) device.endpoints name.num) ≡ Some endpoint
  pub does : endpoint.part ≡ part

-- as the bus numbers its packets
abbrev pub NoneIsLost : Fixed → EpName → ℕ → Type 0
NoneIsLost fixed name n = (i : ℕ) → i < 3 → is_unheard fixed.fates name false (later n i) ≡ false

pub record CanMove (fixed : Fixed) (b : Bus) (name : EpName) (v : Qh) : Type 0 where
  pub place : ℕ
  pub part : Role
  pub heard : IsHeardBy fixed b name place part
  pub answers : MovesPacket name.way v part
  pub packet : ℕ
  pub next : slice_get b.high place ≡ Some packet
  pub none_lost : NoneIsLost fixed name packet

-- the queue head at this byte address, of the endpoint of this name
pub record HasTransfer (fixed : Fixed) (w : World) (name : EpName) (at : ℕ) : Type 0 where
  pub queue : Qh
  pub read : queue_head_at_address w.memory at ≡ Some queue
  pub works : Qh
  pub next : ComesTo w.memory queue works
  pub ready : CanMove fixed w.bus name works

-- ---- due, and done

-- The S-mask of a placement has the microframes of its endpoint's frames (4.7); where the period is shorter than a frame each is a period
-- of its own (USB 2.0, 5.7.4).
pub record IsDueNow (fixed : Fixed) (o : World) (e q : ℕ) : Type 0 where
  pub placement : Placement
  pub there : IsInItsFrames o.driver e q placement
  pub high : there.endpoint.desc.speed ≡ High
  pub bit : has placement.smask (microframe_of o.control.frame.index) ≡ true
  pub free : is_held_now fixed o ≡ false
  pub transfer : HasTransfer fixed o there.endpoint.desc.name (32 * q)

-- 4,000,000 of the 125,000,000 ps of a microframe
abbrev pub DueIsDone : Script → Type 0
DueIsDone s = (k e q : ℕ) (o : World) → IsPastFrames (moment s k).world → repeats s k ≤ 4000000 → (due : IsDueNow (fixed_of s) o e q)
    → HasFound (32 * q) o (so_far s k).found → HasMoved (32 * q) (bytes_moved due.transfer.ready.answers) (so_far s k).moved

-- ---- of a run

pub record KeepsDue (s : Script) : Type 0 where
  pub comes : ComesToEach s
  pub done : DueIsDone s
