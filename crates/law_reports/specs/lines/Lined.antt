-- What is told of the queues of a world with endpoints of every kind, beside its standing (EHCI 1.0, 4.10; USB 2.0, 5.5 to 5.8 and 8.6):
-- what was moved of each queue head by the controller, and what of it the driver has harvested and reported. An interrupt endpoint is told
-- as a bulk one, in the ring and at high speed; an isochronous one as an endpoint that was given back.
--     in_hand s                what either walk has in hand of a queue head
--     Lines                    of each queue head the bytes that were moved of it, event by event, and those that were harvested of it
--     counted d n              a bulk or interrupt endpoint that is there has its queue head at n
--     AreIsoGoing d            no line of an isochronous endpoint ends it before it is given back
--     IsTelling s m w          the lines of each bulk and interrupt endpoint tell what was harvested of its queue, but for what is held
--                              back; and this,
--                              with what was moved of its qTDs that are out, is all that was moved of it, in order
--     Adds m acc z             these bytes are moved of each queue head, where the event did this
use Rattle.std.specs.Prelude.{◌≡◌, ℕ, Bool, true, false, List, ◌++◌, slice_get, Some}
use Rattle.std.specs.List.{concat}
use Rattle.usb_base.specs.declared.packets.Ask.{Ask}
use Rattle.usb_base.specs.declared.packets.Reply.{Reply}
use Rattle.drv_table.specs.declared.content.Endpoint.{Endpoint}
use Rattle.drv_table.specs.DriverContent.{DriverContent}
use Rattle.drv_table.specs.Kinds.{is_iso}
use Rattle.law_structures.specs.lent_structures.Structures.{StructureSets}
use Rattle.law_ring.specs.Hand.{Hand}
use Rattle.law_ring.specs.QueueParts.{IsQueuePart}
use Rattle.law_controller.specs.controlled_streams.Reported.{AreReported}
use Rattle.law_controller.specs.frame_control.Joined.{joined, BothStreamEffect}
use Rattle.law_driver.specs.queued_drivers.Queued.{queued}
use Rattle.law_queues.specs.harvest_laws.Told.{ToldStands}
use Rattle.law_queues.specs.told_endpoints.Telling.{lines_in, has_end}
use Rattle.law_descriptors.specs.queue_events.Streams.{bytes_of_both}
use Rattle.law_world.specs.streams.Feeding.{there_of}
use Rattle.law_world.specs.memory.Mixed.{Standing}
use Rattle.bus_world.specs.World.{World}

abbrev pub in_hand : Standing → Hand
in_hand s = joined s.hand s.frame

pub record Lines : Type 0 where
  pub acc : ℕ → List (List ℕ)
  pub reported : ℕ → List ℕ

abbrev pub counted : DriverContent → ℕ → Bool
counted d n = there_of (queued d) n

abbrev pub AreIsoGoing : DriverContent → Type 0
AreIsoGoing d = (e : ℕ) (x : Endpoint) → slice_get d.endpoints e ≡ Some x → is_iso x.desc.kind ≡ true → x.gone ≡ false
    → has_end (lines_in x.desc.name d.reports) ≡ false

pub record IsTelling (s : Standing) (m : Lines) (w : World) : Type 0 where
  pub told : ToldStands (queued w.driver) (in_hand s) s.parts m.reported
  pub moved : AreReported (counted w.driver) s.order s.out (in_hand s) s.parts m.acc m.reported
  -- also of one that has left the ring, or its frames, and isn't given back yet
  pub sound : (n : ℕ) → counted w.driver n ≡ true → IsQueuePart n (s.parts n)

-- ---- an event of the controller

abbrev pub Adds : {W : Type 0} {begins : W → ℕ → Bool → W → Type 0} {Beside : Ask → Type 0}
    {transacts : W → Ask → List ℕ → Reply → W → Type 0} {parts : StructureSets} {hand : Hand} {wire after : W} {now : StructureSets}
    {later : Hand} → Lines → (ℕ → List (List ℕ)) → BothStreamEffect begins Beside transacts parts hand wire after now later → Type 0
Adds m acc z = (n : ℕ) → concat (acc n) ≡ concat (m.acc n) ++ bytes_of_both n z
