-- Scripts of worked rows.
--     typed_payments k     what was paid in the microframe, k events and commands after the open of the keyboard's endpoint was accepted, in the script of `law_world_memory`
--     typed_began k        the world as the microframe began, after so many
--     typed_place k        where the walk of the frames is, after so many
--     typed_qtd k b        the qTD in block b, after so many
--     kinds_of d           the kinds of the driver's endpoints
--     owners_of d          the numbers of the endpoints of its transfers; firsts_of d: the blocks of their first qTDs
--     waiting_from         the world 25 events and commands after that open, but that FRINDEX is 1,025, and the overlay of the keyboard's
--                          queue head has eight bytes to receive and waits for its complete-splits, as after the start-split of frame 128
--                          (3.6 and 4.12.2); and five events of the controller
--     waiting_at k         its world after k of them: microframe 2 of frame 128 begins
--     waiting_visits k     what was visited in the microframe then
--     turn_in hand f       what there is to do at the queue head in hand, in the microframe f of FRINDEX
--     unlinked_keyboard    the keyboard's endpoint, cancelled, with its queue head in block 130
--     its_removal          it left the frame list, and frame 128 was read since
--     without_keyboard     a driver's content with this endpoint and this removal alone
--     due_from             the world of the script with a microphone of `law_world_memory` once its descriptor is linked, but that FRINDEX is 15, and nine events of the controller
--     due_at k             its world after k of them: the descriptor's frame begins
--     due_payments k       what was paid in the microframe then
--     paid_at u            what was paid after an event with a descriptor of a high-speed isochronous IN endpoint in hand in microframe u
--     with_hand hand u     a controller with this copy in hand in the microframe u of FRINDEX, in which nothing was used so far
--     paid_with hand u n   what was paid after its event, where so much was paid in the visit before
--     again_with hand u    the price of what it made again
--     placed_keyboard      a keyboard below a hub, polled in each frame: a start-split in microframe 0, complete-splits in 2, 3 and 4
--     placed_speaker       a full-speed isochronous OUT endpoint of packets of 400 bytes below a hub: parts in the microframes 1, 2 and 3
--     placed_microphone    a full-speed isochronous IN endpoint of packets of 300 bytes below a hub: a start-split in microframe 0,
--                          complete-splits in 2, 3 and 4, of which two bring parts
--     speaker_desc         the speaker's endpoint, as it is described
--     speaker_part t k p c   the copy of its siTD, with t bytes and k parts left, in the position p, where the microframes c are marked;
--                            its
--                          buffer begins at byte 0 of memory
--     lent_memory          the controller may touch all 16 blocks
--     paid_over hand u     what was paid after the event of a copy in hand in microframe u, over this memory
--     sensor               a high-speed interrupt IN endpoint of packets of 64 bytes that is polled in each microframe
--     sensor_and_disk      a script that opens it and the disk's bulk IN endpoint, asks it for 64 bytes and lets three microframes pass
use Rattle.std.specs.Prelude.{ℕ, true, false, List, [], ◌∷◌, replicate, slice_set, Option, Some, None, map}
use Rattle.usb_base.specs.declared.commands.Cmd.TheVariants as commands
use Rattle.usb_base.specs.declared.endpoints.EpDesc.{EpDesc}
use Rattle.usb_base.specs.declared.packets.Dir.TheVariants as dirs
use Rattle.usb_base.specs.declared.packets.EpKind.{EpKind}
use Rattle.usb_base.specs.declared.packets.EpKind.TheVariants as kinds
use Rattle.usb_base.specs.declared.packets.Speed.TheVariants as speeds
use Rattle.usb_base.specs.declared.packets.Way.TheVariants as ways
use Rattle.script_types.specs.declared.devices.Item.TheVariants as items
use Rattle.script_types.specs.declared.scripts.Event.TheVariants as events
use Rattle.script_types.specs.declared.scripts.Line.TheVariants as lines
use Rattle.script_types.specs.declared.scripts.Script.{Script}
use Rattle.word_mem.specs.Memory.{Mem}
use Rattle.word_mem.specs.declared.blocks.BlockState.TheVariants.{Lent}
use Rattle.bandwidth.specs.declared.placements.Placed.{Placed}
use Rattle.bandwidth.specs.Worked.{keyboard, speaker, placed}
use Rattle.hc_interrupt.specs.declared.turns.Turn.{Turn}
use Rattle.hc_interrupt.specs.Turns.{turn_of}
use Rattle.hc_iso.specs.Samples.{split_out}
use Rattle.periodic_walk.specs.declared.state.Hand.{Hand}
use Rattle.periodic_walk.specs.declared.state.Hand.TheVariants as hands
use Rattle.periodic_walk.specs.Place.{FramePlace}
use Rattle.periodic_walk.specs.Samples.{at_hand}
use Rattle.hc_core.specs.declared.controller.MicroframePart.TheVariants.{Periodic}
use Rattle.hc_core.specs.declared.controller.ControllerRow.TheVariants as rows
use Rattle.hc_core.specs.Controller.{Content, content, new_control, frame_place, kind_of}
use Rattle.qh_qtd.specs.declared.qtd.Qtd.{Qtd}
use Rattle.drv_chains.specs.declared.boundary.Boundary.TheVariants.{Since}
use Rattle.drv_periodic_table.specs.declared.content.Removal.{Removal}
use Rattle.drv_periodic_table.specs.declared.content.Removed.TheVariants as removed
use Rattle.drv_table.specs.declared.content.Endpoint.{Endpoint}
use Rattle.drv_table.specs.DriverContent.{DriverContent}
use Rattle.bus_wire.specs.Bus.{fixed_of}
use Rattle.bus_world.specs.World.{World, controller_parts}
use Rattle.bus_world.specs.Opening.{opening_world}
use Rattle.bus_world.specs.Orders.{OrderedWorld, Events, at_place, orders_of, ticks}
use Rattle.law_world.specs.memory.Samples.{disk, keyboard as polled_keyboard, keyboard_and_disk, keyboard_place, after_the_open, opened, typed_at}
use Rattle.law_world.specs.memory.MicrophoneSamples.{one_microphone, heard_at}
use Rattle.claims_world.specs.Carried.{carried_from}
use Rattle.law_microframes.specs.visits.Began.{began_by}
use Rattle.law_microframes.specs.visits.Visited.{visited_from}
use Rattle.law_microframes.specs.time.ChargeSamples.{itd_at}
use Rattle.law_microframes.specs.time.DataQueues.{qtd_in}
use Rattle.claims_world.specs.WithinLoad.{payments_after, repeats_after}
use Rattle.law_microframes.specs.time.Payments.{payments_from}

abbrev pub typed_payments : ℕ → List (ℕ × ℕ)
typed_payments k = payments_from (fixed_of keyboard_and_disk) (at_place opened (orders_of after_the_open)) [] k

abbrev pub typed_began : ℕ → World
typed_began k = carried_from began_by (fixed_of keyboard_and_disk) (at_place opened (orders_of after_the_open)) (opening_world keyboard_and_disk) k

abbrev pub typed_place : ℕ → FramePlace
typed_place k = frame_place (controller_parts (typed_at k))

abbrev pub typed_qtd : ℕ → ℕ → Qtd
typed_qtd k b = qtd_in (typed_at k).memory b

abbrev pub kinds_of : DriverContent → List EpKind
kinds_of d = map (λ x. x.desc.kind) d.endpoints

abbrev pub owners_of : DriverContent → List ℕ
owners_of d = map (λ y. y.endpoint) d.transfers

abbrev pub firsts_of : DriverContent → List ℕ
firsts_of d = map (λ y. y.first) d.transfers

-- bytes 24 to 27 of the queue head: active, to receive, with three errors left, in Do-Complete
abbrev pub waiting_memory : Mem
waiting_memory = record (typed_at 25).memory { words = slice_set (typed_at 25).memory.words 1046 0x80D82 }

abbrev pub waiting_from : OrderedWorld
waiting_from = at_place
    (record (typed_at 25) { registers = record (typed_at 25).registers { frame_index = 1025 }; memory = waiting_memory })
    (Events events.C 5 ∷ [])

abbrev pub waiting_at : ℕ → World
waiting_at k = (ticks (fixed_of keyboard_and_disk) waiting_from k).world

abbrev pub waiting_visits : ℕ → List ℕ
waiting_visits k = visited_from (fixed_of keyboard_and_disk) waiting_from [] k

abbrev pub turn_in : Option Hand → ℕ → Option Turn
turn_in (Some (hands.Queue h)) f = Some (turn_of f h.copy.queue_head)
turn_in _ f = None

abbrev pub unlinked_keyboard : Endpoint
unlinked_keyboard = record {
  desc = polled_keyboard;
  placement = Some keyboard_place;
  queue = 130;
  dummy = 131;
  next = None;
  ended = None;
  cancelled = true;
  linked = false;
  chained = false;
  gone = false;
}

abbrev pub its_removal : Removal
its_removal = record { what = removed.Endpoint 0; boundary = Since 128 }

abbrev pub without_keyboard : DriverContent
without_keyboard = record (opening_world keyboard_and_disk).driver {
  endpoints = unlinked_keyboard ∷ [];
  transfers = [];
  periodic = record (opening_world keyboard_and_disk).driver.periodic { removals = its_removal ∷ [] };
}

abbrev pub due_from : OrderedWorld
due_from = at_place (record (heard_at 4) { registers = record (heard_at 4).registers { frame_index = 15 } }) (Events events.C 9 ∷ [])

abbrev pub due_at : ℕ → World
due_at k = (ticks (fixed_of one_microphone) due_from k).world

abbrev pub due_payments : ℕ → List (ℕ × ℕ)
due_payments k = payments_from (fixed_of one_microphone) due_from [] k

abbrev pub content_at : FramePlace → Content
content_at p = content (record new_control { part = Periodic; frame = p.walk }) p.registers p.memory

abbrev pub paid_at : ℕ → List (ℕ × ℕ)
paid_at u = payments_after rows.Frame (kind_of rows.Frame (content_at (itd_at u))) (content_at (itd_at u)) ((0x1000, 0) ∷ [])

abbrev pub with_hand : Hand → ℕ → Content
with_hand hand u = content_at (at_hand hand u 125000000)

abbrev pub paid_with : Hand → ℕ → ℕ → List (ℕ × ℕ)
paid_with hand u paid = payments_after rows.Frame (kind_of rows.Frame (with_hand hand u)) (with_hand hand u) ((0x2000, paid) ∷ [])

abbrev pub again_with : Hand → ℕ → ℕ
again_with hand u = repeats_after rows.Frame (kind_of rows.Frame (with_hand hand u)) (with_hand hand u) 0

abbrev pub placed_keyboard : Placed
placed_keyboard = record { want = keyboard; placement = placed 8 0 0x01 0x1C }

abbrev pub placed_speaker : Placed
placed_speaker = record { want = speaker 400; placement = placed 8 0 0x0E 0 }

abbrev pub placed_microphone : Placed
placed_microphone = record { want = record (speaker 300) { dir = dirs.In }; placement = placed 8 0 0x01 0x1C }

abbrev pub speaker_desc : EpDesc
speaker_desc = record {
  name = record { addr = 5; num = 3; way = ways.Out };
  speed = speeds.Full;
  kind = kinds.Iso;
  max = 400;
  period =
      8;
  multi = 1;
  hub = Some 9;
  port = 2;
  tt = 0;
}

abbrev pub speaker_part : ℕ → ℕ → ℕ → ℕ → Hand
speaker_part t k p c = hands.Sitd (record {
  at = 0x2000;
  sitd = record (split_out t k p) { page0 = 0; offset = 0; c_prog = c };
  settled =
      None;
})

abbrev pub lent_memory : Mem
lent_memory = record { words = replicate 128 0; states = replicate 16 Lent; foreign = 0 }

abbrev pub over_lent : Hand → ℕ → Content
over_lent hand u = content_at (record (at_hand hand u 125000000) { memory = lent_memory })

abbrev pub paid_over : Hand → ℕ → List (ℕ × ℕ)
paid_over hand u = payments_after rows.Frame (kind_of rows.Frame (over_lent hand u)) (over_lent hand u) ((0x2000, 0) ∷ [])

abbrev pub sensor : EpDesc
sensor = record { name = record { addr = 4; num = 1; way = ways.In }; speed = speeds.High; kind = kinds.Interrupt; max = 64; period = 1; multi = 1; hub = None; port = 0; tt = 0 }

abbrev pub sensor_and_disk : Script
sensor_and_disk = record {
  words = 2048;
  hubs = [];
  devices =
      record { addr = 4; speed = speeds.High; eps = record { desc = sensor; items = items.Bytes (0 ∷ 1 ∷ 2 ∷ []) ∷ []; room = 0; stuff = 0; clears = 0 } ∷ [] }
      ∷ record { addr = 3; speed = speeds.High; eps = record { desc = disk; items = []; room = 0; stuff = 0; clears = 0 } ∷ [] }
      ∷ [];
  endpoints = sensor.name ∷ disk.name ∷ [];
  fates = [];
  holds = [];
  lines =
      (6, lines.Command (commands.OpenEp sensor))
      ∷ (7, lines.Order events.D 9)
      ∷ (8, lines.Command (commands.OpenEp disk))
      ∷ (9, lines.Order events.D 2)
      ∷ (10, lines.Command (commands.Get sensor.name 64 8))
      ∷ (11, lines.Order events.D 9)
      ∷ (12, lines.Micro 3)
      ∷ [];
  version = 1;
  frames = 1024;
  park = 0;
  roots = [];
  classics = [];
  disks = [];
}
