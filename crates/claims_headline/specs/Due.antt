-- What is due of an interrupt IN endpoint at high speed, told by its transfers and by the counts of its pipe, and that it is done (EHCI
-- 1.0, 3.5, 3.6, 4.7, 4.10 and 4.10.2; USB 2.0, 5.7.4, 8.5 and 8.6).
--     HasPacket s b e q    as the microframe begins that left the world b: endpoint e, an interrupt IN endpoint at high speed, is in the
--                          frame list, its queue head in block q; its placement has the frame, its S-mask the microframe, which isn't held;
--                          it goes on, and its queue head isn't halted; a transfer of it is stored and unfinished; its device has a packet
--                          for it and no NAK, no longer than what comes next has room for; it knows each packet to be accepted that the
--                          host accepted; and none of the next three packets of the endpoint is lost or damaged
--     PacketsAreDue s      as each microframe of the run of a script begins, a transaction of such an endpoint is due in it
--     PacketsMove s        at each moment at which the walk of the frames is over: that packet moved in the microframe and was written
--                          back, unless the endpoint was cancelled since, where no more than 4 microseconds went for complete-splits
--                          that were made again
--     MovesPackets s       both
use Rattle.std.specs.Prelude.{◌≡◌, ℕ, ◌*◌, ◌≤◌, true, false, List, ◌∷◌, length, slice_get, Some, None}
use Rattle.usb_base.specs.declared.packets.Speed.TheVariants.{High}
use Rattle.usb_base.specs.declared.packets.Way.TheVariants.{In}
use Rattle.script_types.specs.declared.devices.Item.{Item}
use Rattle.script_types.specs.declared.devices.Item.TheVariants.{Bytes}
use Rattle.script_types.specs.declared.scripts.Script.{Script}
use Rattle.endpoint_script.specs.declared.endpoint.Role.TheVariants.{Sends}
use Rattle.endpoint_script.specs.Sending.{Sending}
use Rattle.qh_qtd.specs.declared.queue_head.Qh.{Qh}
use Rattle.bandwidth.specs.declared.placements.Placement.{Placement}
use Rattle.bandwidth.specs.Placements.{has}
use Rattle.bandwidth.specs.Sums.{is_active}
use Rattle.mem_queues.specs.Structures.{queue_head_at_address}
use Rattle.hc_interrupt.specs.Turns.{microframe_of}
use Rattle.bus_wire.specs.Bus.{fixed_of}
use Rattle.bus_world.specs.Budgets.{moment}
use Rattle.bus_world.specs.World.{World}
use Rattle.claims_world.specs.Coming.{IsInItsFrames}
use Rattle.claims_world.specs.Due.{ComesTo, IsHeardBy, NoneIsLost}
use Rattle.claims_world.specs.DueAtBegin.{begun, IsDueAtBegin, IsUncancelled}
use Rattle.claims_world.specs.Prices.{left_bytes}
use Rattle.claims_world.specs.SoFar.{so_far, HasMoved}
use Rattle.claims_world.specs.Unfinished.{IsUnfinished}
use Rattle.claims_world.specs.Visits.{IsPastFrames, frame_in, is_held_now}
use Rattle.claims_world.specs.WithinLoad.{repeats}
use Rattle.claims_headline.specs.Pipes.{InPipeAgrees}

pub record HasPacket (s : Script) (b : World) (e q : ℕ) : Type 0 where
  pub placement : Placement
  pub there : IsInItsFrames b.driver e q placement
  pub high : there.endpoint.desc.speed ≡ High
  pub comes : there.endpoint.desc.name.way ≡ In
  -- its microframe
  pub active : is_active placement (frame_in b.control.frame.index) ≡ true
  pub bit : has placement.smask (microframe_of b.control.frame.index) ≡ true
  pub free : is_held_now (fixed_of s) b ≡ false
  -- its transfer
  pub queue : Qh
  pub read : queue_head_at_address b.memory (32 * q) ≡ Some queue
  pub unhalted : queue.token.halted ≡ false
  pub goes_on : there.endpoint.ended ≡ None
  pub unfinished : IsUnfinished b.driver b.memory e
  -- its device
  pub place : ℕ
  pub sending : Sending
  pub heard : IsHeardBy (fixed_of s) b.bus there.endpoint.desc.name place (Sends sending)
  pub bytes : List ℕ
  pub rest : List Item
  pub packet : sending.items ≡ Bytes bytes ∷ rest
  pub room : (v : Qh) → ComesTo b.memory queue v → length bytes ≤ left_bytes v
  -- both sides of its pipe
  pub pipe : InPipeAgrees s b there.endpoint
  pub known : pipe.accepted ≡ pipe.known
  -- as the bus numbers its packets
  pub number : ℕ
  pub next : slice_get b.bus.high place ≡ Some number
  pub none_lost : NoneIsLost (fixed_of s) there.endpoint.desc.name number

abbrev pub PacketsAreDue : Script → Type 0
PacketsAreDue s = (k e q : ℕ) → HasPacket s (begun s k) e q → IsDueAtBegin (fixed_of s) (begun s k) e q

abbrev pub PacketsMove : Script → Type 0
PacketsMove s = (k e q : ℕ) → IsPastFrames (moment s k).world → repeats s k ≤ 4000000 → (h : HasPacket s (begun s k) e q)
    → IsUncancelled (moment s k).world.driver e → HasMoved (32 * q) (length h.bytes) (so_far s k).moved

pub record MovesPackets (s : Script) : Type 0 where
  pub due : PacketsAreDue s
  pub moves : PacketsMove s
