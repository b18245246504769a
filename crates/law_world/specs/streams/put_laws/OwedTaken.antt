-- What the device of an OUT endpoint took begins the endpoint's puts (EHCI 1.0, 4.10; USB 2.0, 5.8 and 8.6).
--     TakenBegin taker d puts wire     so it is of each OUT endpoint that is there, and of each that was given back
--     EndedAreStopped d parts    the queue head of an OUT endpoint that has ended is halted
--     OutsStand ..               what is known of the OUT endpoints at a moment: their pipes, what was reported, their queues and what is still to be sent
--     TakenBeginsPuts            then what the device of one that goes on took begins its puts, where it did so when its queue head halted
--     EventKeepsTaken            an event of the controller keeps it
--     DriverKeepsTaken, CommandKeepsTaken     so do a row of the driver, and a command
--     EventKeepsStopped, SparedStayStopped, AlikeStayStopped     queue heads of endpoints that have ended stay halted
--     HarvestStops               a harvest of a halted qTD ends its endpoint
use Rattle.std.specs.Prelude.{◌≡◌, ◌≢◌, ℕ, ◌*◌, Bool, true, false, List, [], slice_get, Option, Some, None, Ok, ◌⊎◌}
use Rattle.std.specs.List.{concat}
use Rattle.claims_base.specs.Prefix.{IsPrefix}
use Rattle.usb_base.specs.declared.commands.Cmd.{Cmd}
use Rattle.usb_base.specs.declared.endpoints.EndCause.{EndCause}
use Rattle.usb_base.specs.declared.packets.Ask.{Ask}
use Rattle.usb_base.specs.declared.packets.Reply.{Reply}
use Rattle.word_mem.specs.Memory.{Mem}
use Rattle.drv_table.specs.declared.content.Command.TheVariants as unfinished
use Rattle.drv_table.specs.declared.content.Endpoint.{Endpoint}
use Rattle.drv_table.specs.declared.rows.DriverRow.TheVariants as rows
use Rattle.drv_table.specs.declared.rows.Found.{Found}
use Rattle.drv_table.specs.DriverContent.{DriverContent}
use Rattle.drv_table.specs.Accepting.{Offered}
use Rattle.drv_table.specs.Offers.{offered}
use Rattle.drv_table.specs.Parts.{Parts}
use Rattle.drv_table.specs.Rows.{driver_row, after_driver_row}
use Rattle.drv_table.specs.Words.{queue_head}
use Rattle.law_driver.specs.run_owners.Due.{IsHarvestDue}
use Rattle.claims_driver.specs.Leaving.{HasOwners}
use Rattle.claims_driver.specs.Scripts.{receives}
use Rattle.law_driver.specs.AsynchronousScripts.{OpensAsynchronous}
use Rattle.law_driver.specs.chained_transfers.AsynchronousTurns.{AsynchronousTakesTurns}
use Rattle.law_driver.specs.chained_transfers.Out.{out_now}
use Rattle.law_structures.specs.lent_structures.Structures.{StructureSets, Tells}
use Rattle.law_structures.specs.lent_structures.Sound.{IsMember}
use Rattle.law_ring.specs.Hand.{Hand}
use Rattle.law_ring.specs.QueueParts.{IsQueuePart}
use Rattle.claims_base.specs.Controller.{Base}
use Rattle.law_ring.specs.Ring.{IsInHand}
use Rattle.law_ring.specs.Told.{Endpoint as Told, endpoint_of}
use Rattle.law_ring.specs.Pipes.{AreEndpoints}
use Rattle.law_ring.specs.Sparing.{SparesHead}
use Rattle.law_ring.specs.OutBus.{Taker, IsOutBus, KeepsTakers}
use Rattle.law_ring.specs.OutPipes.{IsOutPipe}
use Rattle.law_queues.specs.whole_sends.Whole.{AreSentWhole}
use Rattle.law_queues.specs.whole_sends.Laws.{IsStopped}
use Rattle.hc_core.specs.Controller.{Content}
use Rattle.law_controller.specs.controlled_streams.Control.{IsControlled, ControlEffect}
use Rattle.law_controller.specs.controlled_streams.Reported.{IsReported, AreReported}
use Rattle.law_driver_ring.specs.fed_queues.Fed.{AreFed}
use Rattle.law_driver_ring.specs.fed_queues.Places.{IsMet, AreLast, AreStillOut, IsThere}
use Rattle.law_queues.specs.standing_fronts.Reaching.{Reaches}
use Rattle.law_world.specs.steps.Outs.{AreOutPiped}
use Rattle.law_world.specs.streams.put_laws.TakenPuts.{puts_of}
use Rattle.law_world.specs.streams.put_laws.Owed.{Owes}
use Rattle.law_world.specs.streams.put_laws.OwedLaws.{KeepsPuts}
use Rattle.law_world.specs.streams.put_laws.Buffers.{IsPublishingTo}
use Rattle.law_driver.specs.endpoint_lives.Lives.{told_end, may_meet}

abbrev pub TakenBegin : {W : Type 0} → (W → ℕ → ℕ → Option Taker) → DriverContent → (ℕ → List ℕ) → W → Type 0
TakenBegin {W} taker d puts wire = (e : ℕ) (x : Endpoint) (s : Taker) → slice_get d.endpoints e ≡ Some x → (x.gone ≡ true) ⊎ IsThere d x → receives x.desc.name.way ≡ false
    → taker wire x.desc.name.addr x.desc.name.num ≡ Some s → IsPrefix s.taken (concat (puts_of d puts e))

abbrev pub EndedAreStopped : DriverContent → StructureSets → Type 0
EndedAreStopped d parts = (e : ℕ) (x : Endpoint) (cause : EndCause) → slice_get d.endpoints e ≡ Some x → x.gone ≡ false → receives x.desc.name.way ≡ false → told_end x ≡ Some cause
    → IsStopped parts (32 * x.queue)

-- ---- a moment

-- the queue head of an OUT endpoint, with its endpoint
pub record IsOutHead (d : DriverContent) (outs heads : ℕ → Bool) (ends : ℕ → Told) (x : Endpoint) : Type 0 where
  pub out : outs (32 * x.queue) ≡ true
  pub counted : heads (32 * x.queue) ≡ true
  pub named : ends (32 * x.queue) ≡ endpoint_of (queue_head x.desc 0 x.dummy)

pub record OutsStand {W : Type 0} (stream : ℕ → ℕ → Bool) (taker : W → ℕ → ℕ → Option Taker) (member outs heads : ℕ → Bool) (ends : ℕ → Told) (d : DriverContent) (m : Mem)
    (parts : StructureSets) (hand : Hand) (order : ℕ → ℕ → ℕ) (out : ℕ → List ℕ) (acc : ℕ → List (List ℕ)) (puts reported : ℕ → List ℕ) (wire : W) : Type 0 where
  pub turns : AsynchronousTakesTurns d
  pub fed : AreFed d parts
  pub last : AreLast d parts order
  pub out_are : AreStillOut d out
  pub heads_are : (e : ℕ) (x : Endpoint) → slice_get d.endpoints e ≡ Some x → IsMet d e x → receives x.desc.name.way ≡ false → IsOutHead d outs heads ends x
  pub piped : AreOutPiped stream taker member outs ends (λ n. concat (acc n)) parts hand wire
  pub reports : AreReported heads order out hand parts acc reported
  pub sent : (e : ℕ) (x : Endpoint) → slice_get d.endpoints e ≡ Some x → IsMet d e x → receives x.desc.name.way ≡ false
      → AreSentWhole (order (32 * x.queue)) (out (32 * x.queue)) hand (32 * x.queue) (parts (32 * x.queue))
  -- a first qTD that is being published is the tail of its queue
  pub tails : (e b : ℕ) (x : Endpoint) → slice_get d.endpoints e ≡ Some x → IsMet d e x → receives x.desc.name.way ≡ false → IsPublishingTo d e b
      → Reaches d (parts (32 * x.queue)) (order (32 * x.queue)) (out (32 * x.queue)) e x (32 * b)
  pub owes : Owes d m puts reported
  pub ended : EndedAreStopped d parts

abbrev pub TakenBeginsPuts : Type 0
TakenBeginsPuts = (member : ℕ → Bool) (parts : StructureSets) (hand : Hand) (reply : Reply) (order : ℕ → ℕ → ℕ) (acc : List (List ℕ)) (d : DriverContent) (m : Mem) (puts reported : ℕ → List ℕ)
    (e : ℕ) (x : Endpoint) (o : Option Taker) (z : Told) → AsynchronousTakesTurns d → Tells m parts → AreFed d parts → AreLast d parts order → Owes d m puts reported
    → slice_get d.endpoints e ≡ Some x → IsMet d e x → receives x.desc.name.way ≡ false → told_end x ≡ None
    → IsMember member (32 * x.queue) (parts (32 * x.queue)) → IsInHand member parts reply hand
    → IsReported (order (32 * x.queue)) (out_now d e) hand parts (32 * x.queue) acc (reported (32 * x.queue))
    → AreSentWhole (order (32 * x.queue)) (out_now d e) hand (32 * x.queue) (parts (32 * x.queue))
    → ((b : ℕ) → IsPublishingTo d e b → Reaches d (parts (32 * x.queue)) (order (32 * x.queue)) (out_now d e) e x (32 * b))
    → (p : IsOutPipe o (concat acc) parts hand (32 * x.queue) z) → (IsStopped parts (32 * x.queue) → IsPrefix p.taker.taken (concat (puts_of d puts e)))
    → IsPrefix p.taker.taken (concat (puts_of d puts e))

-- ---- an event of the controller

-- those that the walk doesn't meet any more take nothing more
abbrev pub LeaveTakers : {W : Type 0} → (W → ℕ → ℕ → Option Taker) → DriverContent → W → W → Type 0
LeaveTakers {W} taker d wire after = (e : ℕ) (x : Endpoint) → slice_get d.endpoints e ≡ Some x → receives x.desc.name.way ≡ false → may_meet d e x ≡ false
    → taker after x.desc.name.addr x.desc.name.num ≡ taker wire x.desc.name.addr x.desc.name.num

abbrev pub EventKeepsTaken : {W : Type 0} → (W → ℕ → Bool → W → Type 0) → (W → Ask → List ℕ → Reply → W → Type 0) → Type 0
EventKeepsTaken {W} begins transacts = (stream : ℕ → ℕ → Bool) (taker : W → ℕ → ℕ → Option Taker) (base : Base) (member outs heads : ℕ → Bool) (ends : ℕ → Told) (parts : StructureSets)
    (hand : Hand) (c new : Content) (wire after : W) (now : StructureSets) (later : Hand) (known : ℕ → List ℕ) (d : DriverContent) (order : ℕ → ℕ → ℕ) (out : ℕ → List ℕ)
    (acc : ℕ → List (List ℕ)) (puts reported : ℕ → List ℕ) → IsOutBus transacts stream taker → KeepsTakers begins stream taker → AreEndpoints stream member outs ends
    → IsControlled base member parts hand c → IsControlled base member now later new → ControlEffect begins transacts parts hand wire after now later
    → HasOwners d → AreOutPiped stream taker member outs ends known parts hand wire → EndedAreStopped d parts
    → OutsStand stream taker member outs heads ends d new.memory now later order out acc puts reported after → LeaveTakers taker d wire after → TakenBegin taker d puts wire
    → TakenBegin taker d puts after

-- ---- the driver

-- the device of an endpoint whose open is finished took nothing yet
abbrev pub DriverKeepsTaken : {W : Type 0} → (W → ℕ → ℕ → Option Taker) → Type 0
DriverKeepsTaken {W} taker = (p : Parts) (puts : ℕ → List ℕ) (wire : W)
    → ((e : ℕ) (x : Endpoint) (s : Taker) → slice_get p.driver.endpoints e ≡ Some x → p.driver.command ≡ Some (unfinished.Open x.queue) → x.gone ≡ false
    → receives x.desc.name.way ≡ false → taker wire x.desc.name.addr x.desc.name.num ≡ Some s → s.taken ≡ [])
    → TakenBegin taker p.driver puts wire → TakenBegin taker (after_driver_row (driver_row p) p).driver puts wire

abbrev pub CommandKeepsTaken : {W : Type 0} → (W → ℕ → ℕ → Option Taker) → Type 0
CommandKeepsTaken {W} taker = (d : DriverContent) (m : Mem) (cmd : Cmd) (o : Offered) (puts now : ℕ → List ℕ) (wire : W) → AsynchronousTakesTurns d → OpensAsynchronous cmd → offered d m cmd ≡ Ok o
    → KeepsPuts d puts now → TakenBegin taker d puts wire → TakenBegin taker o.driver now wire

-- ---- endpoints that have ended

abbrev pub EventKeepsStopped : {W : Type 0} → (W → ℕ → Bool → W → Type 0) → (W → Ask → List ℕ → Reply → W → Type 0) → Type 0
EventKeepsStopped {W} begins transacts = (base : Base) (member : ℕ → Bool) (parts : StructureSets) (hand : Hand) (c : Content) (wire after : W) (now : StructureSets) (later : Hand)
    (d : DriverContent) → IsControlled base member parts hand c → ControlEffect begins transacts parts hand wire after now later → EndedAreStopped d parts → EndedAreStopped d now

abbrev pub SparedStayStopped : Type 0
SparedStayStopped = (d : DriverContent) (parts now : StructureSets) → ((e : ℕ) (x : Endpoint) → slice_get d.endpoints e ≡ Some x → SparesHead parts now (32 * x.queue))
    → EndedAreStopped d parts → EndedAreStopped d now

-- endpoints that have ended had ended before
abbrev pub AlikeStayStopped : Type 0
AlikeStayStopped = (p : Parts) (parts : StructureSets) → AsynchronousTakesTurns p.driver → ((e t : ℕ) (found : Found) → driver_row p ≢ rows.Harvest e t found)
    → ((e : ℕ) → driver_row p ≢ rows.ReleaseEndpoint e) → EndedAreStopped p.driver parts
    → EndedAreStopped (after_driver_row (driver_row p) p).driver parts

abbrev pub HarvestStops : Type 0
HarvestStops = (order : ℕ → ℕ) (out : List ℕ) (p : Parts) (parts : StructureSets) (hand : Hand) (e t : ℕ) (found : Found) → (due : IsHarvestDue p e t found)
    → HasOwners p.driver → AsynchronousTakesTurns p.driver → AreFed p.driver parts → Tells p.memory parts → IsQueuePart (32 * due.endpoint.queue) (parts (32 * due.endpoint.queue))
    → (receives due.endpoint.desc.name.way ≡ false → AreSentWhole order out hand (32 * due.endpoint.queue) (parts (32 * due.endpoint.queue)))
    → EndedAreStopped p.driver parts → EndedAreStopped (after_driver_row (rows.Harvest e t found) p).driver parts
