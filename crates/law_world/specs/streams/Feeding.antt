-- A world at work whose endpoints are bulk and control ones (EHCI 1.0, 4.6, 4.8 and 4.10; USB 2.0, 5.5, 5.8 and 8.6): each queue is fed as the driver's content
-- tells, and the devices' endpoints that aren't opened have all their packets. A control endpoint has no stream of data: where it is owed stores, its queue
-- head is halted until the last of them.
--     streams_of s              the streams of the script, of which no queue head has one yet
--     heads_of member ends      the queue heads of bulk endpoints, IN or OUT: all that the walk may meet but the head of the ring and those of control endpoints,
--                               which take the toggle from each qTD (data toggle control, 3.6.2)
--     there_of d n              a bulk endpoint that is there has its queue head at n: it was opened, and isn't given back (4.8.1, 4.8.2)
--     AreControlsApart d stream the name of a control endpoint is that of no stream
--     IsFeeding fixed member x s w     the world is so
--     bytes_of_event n e        the bytes that an event of the controller moved of the queue head at n
--     acc_after ..              the packets taken of each stream after it; where data leave the host, the bytes of each event
--     GoesOnBeside ..           and after an event of the controller, which is this
use Rattle.std.specs.Prelude.{◌≡◌, ℕ, ◌*◌, Bool, false, ◌==◌, List, [], ◌∷◌, ◌++◌, slice_get, Option, Some, None, is_some, if◌then◌else◌, not, ◌&&◌}
use Rattle.usb_base.specs.declared.packets.Ask.{Ask}
use Rattle.usb_base.specs.declared.packets.Reply.{Reply}
use Rattle.usb_base.specs.declared.packets.Way.TheVariants as ways
use Rattle.script_types.specs.declared.scripts.Script.{Script}
use Rattle.bus_wire.specs.Bus.{Fixed, opening_wired}
use Rattle.drv_table.specs.declared.content.Endpoint.{Endpoint}
use Rattle.drv_table.specs.DriverContent.{DriverContent}
use Rattle.drv_table.specs.Words.{head_block, opening_head}
use Rattle.law_structures.specs.lent_structures.Structures.{StructureSets}
use Rattle.law_ring.specs.Hand.{Hand}
use Rattle.law_ring.specs.Told.{Endpoint as Told, endpoint_of}
use Rattle.law_ring.specs.Order.{bytes_of_effect}
use Rattle.law_ring.specs.Bus.{Sender}
use Rattle.law_ring.specs.Pipes.{grown}
use Rattle.law_controller.specs.controlled_streams.Control.{ControlEffect, a_microframe, a_step}
use Rattle.law_controller.specs.controlled_streams.Events.{ControlGoesOn}
use Rattle.law_controller.specs.controlled_streams.Reported.{AreReported}
use Rattle.law_devices.specs.Senders.{sender_of}
use Rattle.claims_base.specs.Controller.{opening_base}
use Rattle.bus_world.specs.World.{World, controller_parts, controller_next}
use Rattle.law_world.specs.steps.Streaming.{Streams, Standing, wired, begins_by, transacts_by}
use Rattle.law_world.specs.streams.shared_worlds.Working.{IsWorking}
use Rattle.law_controller.specs.controlled_streams.Unopened.{AreUnopened}
use Rattle.law_driver.specs.chained_transfers.AsynchronousTurns.{AsynchronousTakesTurns}
use Rattle.law_queues.specs.fed_lends.Commands.{QueuesStand}
use Rattle.law_driver.specs.endpoint_lives.Lives.{any_at}
use Rattle.claims_report.specs.Streams.{has_stream}
use Rattle.law_world.specs.steps.control_queues.Controls.{ControlsStand}
use Rattle.claims_world.specs.Requests.{opens}

abbrev pub left_of : Option Sender → List (List ℕ)
left_of None = []
left_of (Some s) = s.left

abbrev pub streams_of : Script → Streams
streams_of s = record {
  stream = λ addr ep. is_some (sender_of (opening_wired s) addr ep);
  packets = λ addr ep. left_of (sender_of (opening_wired s) addr ep);
  streams = λ n. false;
  endpoint = λ n. endpoint_of opening_head;
}

abbrev pub heads_of : (ℕ → Bool) → (ℕ → Told) → ℕ → Bool
heads_of member ends n = if n == 32 * head_block then false else (member n && not (ends n).dtc)

abbrev pub there_of : DriverContent → ℕ → Bool
there_of d n = any_at (λ e x. (n == 32 * x.queue) && (has_stream x.desc.kind && (not x.gone && not (opens d.command x.queue)))) d.endpoints

abbrev pub AreControlsApart : DriverContent → (ℕ → ℕ → Bool) → Type 0
AreControlsApart d stream = (e : ℕ) (z : Endpoint) → slice_get d.endpoints e ≡ Some z → z.desc.name.way ≡ ways.Ctl → stream z.desc.name.addr z.desc.name.num ≡ false

pub record IsFeeding (fixed : Fixed) (member : ℕ → Bool) (x : Streams) (s : Standing) (w : World) : Type 0 where
  pub working : IsWorking fixed opening_base member x s w
  pub turns : AsynchronousTakesTurns w.driver
  pub queues : QueuesStand w.driver member x.streams x.endpoint s.parts s.order s.out
  -- of each bulk endpoint what was harvested of its queue, and what was moved of its qTDs that are out, are all the bytes that were moved of it, in their order
  pub counted : AreReported (there_of w.driver) s.order s.out s.hand s.parts s.acc s.reported
  -- .. each queue stands in its order; where a control endpoint is owed stores, its queue head is halted until the last of them
  pub controls : ControlsStand w.driver s.parts s.order s.out
  pub controls_apart : AreControlsApart w.driver x.stream
  pub unopened : AreUnopened x.stream x.packets sender_of x.streams x.endpoint (wired fixed w)

-- ---- an event of the controller

abbrev pub Goes : Fixed → (ℕ → Bool) → Streams → Standing → World → Type 0
Goes fixed member x s w =
    ControlGoesOn begins_by transacts_by x.stream x.packets sender_of opening_base member x.streams x.endpoint s.acc s.parts s.hand
    (wired fixed w) (wired fixed (controller_next fixed w)) (controller_parts (controller_next fixed w))

abbrev pub bytes_of_event : {W : Type 0} {begins : W → ℕ → Bool → W → Type 0} {transacts : W → Ask → List ℕ → Reply → W → Type 0} {parts : StructureSets} {hand : Hand} {wire after : W}
    {now : StructureSets} {later : Hand} → ℕ → ControlEffect begins transacts parts hand wire after now later → List ℕ
bytes_of_event n (a_microframe b) = []
bytes_of_event n (a_step k) = bytes_of_effect n k.streams

abbrev pub acc_after : (ℕ → Bool) → (ℕ → List (List ℕ)) → ℕ → List (List ℕ) → (ℕ → List ℕ) → ℕ → List (List ℕ)
acc_after streams acc at more bytes n = if streams n then grown acc at more n else acc n ++ bytes n ∷ []

pub record GoesOnBeside (fixed : Fixed) (member : ℕ → Bool) (x : Streams) (s : Standing) (w : World) : Type 0 where
  pub event : Goes fixed member x s w
  pub feeding : IsFeeding fixed member x
      (record s { parts = event.event.now; hand = event.event.later; acc = acc_after x.streams s.acc event.at event.more (λ n. bytes_of_event n event.event.effect) }) (controller_next fixed w)

-- ---- an event of the driver that leaves what is in hand, taken and reported

pub record GoesOnAs (fixed : Fixed) (member : ℕ → Bool) (x : Streams) (s : Standing) (new : World) : Type 0 where
  pub parts : StructureSets
  pub order : ℕ → ℕ → ℕ
  pub out : ℕ → List ℕ
  pub feeding : IsFeeding fixed member x (record s { parts = parts; order = order; out = out }) new
