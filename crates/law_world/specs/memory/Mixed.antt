-- A world with endpoints of every kind, and all that it carries from one event to the next so that nothing of it is out of place (EHCI 1.0, 3, 4.6 to 4.10 and 4.12;
-- USB 2.0, 5.5 to 5.8). The driver and the controller stand over one memory; the walk of the ring and that of the frames go on in it; and each queue, of the ring or of
-- frames, goes on along its qTDs, which are given back only behind its front.
--     QueuesGoOn ..            what is told of the queues: fed, in their order, sound where a walk may meet them, their fronts no further than their tails; what is halted
--                              stops, and what a halted queue head is owed is still to be stored
--     IsChainToLend d m        an interrupt endpoint's open is still to lend its structures, and to link its queue head in frames then; and
--                              the endpoint is the newest
--     IsChainThere ..          .. or they are lent: whatever the walk of the frames has met of them by now, the queue rests at its inactive qTD, its only one
--     IsUnderWay ..            what the unfinished command has still to lend stands ready, or is lent
--     Standing                 which queue heads the walk of the ring may meet (`member`), and which have their queue (`near`); what was unlinked in this microframe; the
--                              structures of descriptors and of queues; what is in both hands; the order of each queue, and what is out
--                              of it; of each queue whether data come in (`streams`), and its endpoint as the queues tell it (`ends`)
--     IsMixedAt s w            the world is so
--     IsMixedWorld w           .. for some standing
use Rattle.std.specs.Prelude.{◌≡◌, ℕ, suc, ◌*◌, ◌≤◌, ◌⊎◌, Bool, false, List, length, Option, Some}
use Rattle.word_mem.specs.Memory.{Mem}
use Rattle.drv_periodic.specs.declared.work.Work.{Work}
use Rattle.drv_table.specs.declared.content.Command.{Command}
use Rattle.drv_table.specs.declared.content.Command.TheVariants as unfinished
use Rattle.drv_table.specs.DriverContent.{DriverContent}
use Rattle.law_scripts.specs.byte_answers.Bytes.{IsByteBus}
use Rattle.law_structures.specs.lent_structures.Structures.{StructureSets}
use Rattle.law_ring.specs.Hand.{Hand}
use Rattle.law_ring.specs.Told.{Endpoint as Told}
use Rattle.claims_base.specs.Controller.{opening_base}
use Rattle.law_driver_ring.specs.fed_queues.Places.{AreMet}
use Rattle.law_queues.specs.fed_lends.Commands.{QueuesStand}
use Rattle.law_queues.specs.fed_lends.ToLend.{IsToBeLent}
use Rattle.law_queues.specs.standing_fronts.Tails.{TailsStand}
use Rattle.law_queues.specs.leaving_drivers.Owed.{AreOwedMet}
use Rattle.law_queues.specs.open_laws.Lends.{IsOpenReady}
use Rattle.law_queues.specs.open_laws.Opens.{IsOpenLent}
use Rattle.law_queues.specs.open_laws.Queues.{IsOpenThere}
use Rattle.law_world.specs.steps.control_queues.Controls.{ControlsStand}
use Rattle.law_driver.specs.queued_drivers.Queued.{queued, QueuesTakeTurns}
use Rattle.law_descriptors.specs.queue_events.Events.{PartsStand}
use Rattle.law_frames.specs.Met.{Kind}
use Rattle.law_frames.specs.FrameHand.{FrameHand}
use Rattle.law_world.specs.memory.framed_memory.Now.{IsFramedNow}
use Rattle.law_world.specs.memory.framed_memory.Masks.{AreMasked}
use Rattle.law_world.specs.memory.framed_memory.Isochronous.{AreNumbered, AreAwaiting}
use Rattle.law_world.specs.memory.framed_memory.Chained.{IsChainReady, IsChainLent}
use Rattle.claims_world.specs.Memory.{IsWalking}
use Rattle.bus_world.specs.World.{World, controller_parts}

-- ---- the queues

pub record QueuesGoOn (d : DriverContent) (near streams : ℕ → Bool) (ends : ℕ → Told) (parts : StructureSets) (order : ℕ → ℕ → ℕ) (out : ℕ → List ℕ) : Type 0 where
  pub queues : QueuesStand d near streams ends parts order out
  pub sound : PartsStand d parts
  pub tails : TailsStand d parts order out
  pub controls : ControlsStand d parts order out

-- ---- the unfinished command

pub record IsChainToLend (d : DriverContent) (m : Mem) : Type 0 where
  pub ready : IsChainReady d m
  pub work : Work
  pub begun : d.periodic.list.work ≡ Some work
  pub newest : suc ready.number ≡ length d.endpoints

-- the walk of the ring doesn't meet it
pub record IsChainThere (d : DriverContent) (member : ℕ → Bool) (recent : ℕ → Option Kind) (parts : StructureSets) : Type 0 where
  pub lent : IsChainLent d member recent parts
  pub there : IsOpenThere (queued d) parts
  pub unmet : member (32 * there.endpoint.queue) ≡ false

abbrev pub IsUnderWay : DriverContent → Mem → (ℕ → Bool) → (ℕ → Option Kind) → StructureSets → Option Command → Type 0
IsUnderWay d m member recent parts (Some (unfinished.Open queue)) = IsOpenReady d m ⊎ IsOpenLent d member parts
IsUnderWay d m member recent parts (Some (unfinished.Publish b words)) = IsToBeLent (queued d) m b words ⊎ (1 ≤ d.made)
IsUnderWay d m member recent parts (Some (unfinished.Unlink e b link)) = d.made ≡ 0
IsUnderWay d m member recent parts (Some unfinished.Chain) = IsChainToLend d m ⊎ IsChainThere d member recent parts
IsUnderWay d m member recent parts _ = Unit {0}

-- ---- the whole

pub record Standing : Type 0 where
  pub member : ℕ → Bool
  pub near : ℕ → Bool
  pub streams : ℕ → Bool
  -- as the queues tell the endpoint: at high speed and below no hub, whatever its own speed, hub and port are. These stand in its queue
  -- head alone, by which it is asked: `HasEndpoint parts n`
  pub ends : ℕ → Told
  pub recent : ℕ → Option Kind
  pub descs : StructureSets
  pub parts : StructureSets
  pub hand : Hand
  pub frame : FrameHand
  pub order : ℕ → ℕ → ℕ
  pub out : ℕ → List ℕ

pub record IsMixedAt (s : Standing) (w : World) : Type 0 where
  pub now : IsFramedNow opening_base s.member s.recent s.descs s.parts s.hand s.frame (controller_parts w) w.driver
  pub turns : QueuesTakeTurns w.driver
  pub ring : AreMet w.driver s.member
  pub queues : QueuesGoOn (queued w.driver) s.near s.streams s.ends s.parts s.order s.out
  pub under_way : IsUnderWay w.driver w.memory s.member s.recent s.parts w.driver.command
  pub walking : IsWalking w
  pub numbers : AreNumbered w.driver
  pub masks : AreMasked w.driver
  pub awaiting : AreAwaiting w.driver w.memory
  pub bytes : IsByteBus w.bus
  -- what is to be given back is of queue heads that a walk may still meet
  pub owed : AreOwedMet (queued w.driver)

pub record IsMixedWorld (w : World) : Type 0 where
  pub standing : Standing
  pub mixed : IsMixedAt standing w
