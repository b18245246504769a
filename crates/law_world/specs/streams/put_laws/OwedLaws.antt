-- What is still to be sent, along everything that happens (EHCI 1.0, 4.8 and 4.10).
--     TellsAlike d new, KeepsPuts d puts now     both contents have the same endpoints, transfers and notes; the puts of d's transfers stay
--     NewDriverOwes        a driver that was just built owes nothing
--     AlikeOwes            the same content beside another memory, as after an event of the controller, or a row or a refused command that changes no endpoint,
--                          transfer or note
--     MetOwes              an open is finished
--     OpenOwes, AskedOwes, CommandOwes     a command is accepted: a put is one more of its endpoint's
--     ReturnedOwes         a reported transfer is given back
--     DriverOwes           each row of the driver but a harvest; nothing is reported of an endpoint whose open is finished
--     IsMovedWhole d m y   where the qTD of y that is read next isn't halted, all its bytes were moved
--     HarvestOwes          a harvest of one that is done: its bytes are reported
--     WaitOwes             .. and of one that isn't
use Rattle.std.specs.Prelude.{◌≡◌, ◌≢◌, ℕ, ◌*◌, ◌<◌, true, false, List, [], length, slice_get, slice_set, Some, None, Ok}
use Rattle.usb_base.specs.declared.commands.Cmd.{Cmd}
use Rattle.word_mem.specs.Memory.{Mem}
use Rattle.mem_runs.specs.Book.{holding, Stands}
use Rattle.drv_table.specs.declared.content.Command.TheVariants as unfinished
use Rattle.drv_table.specs.declared.content.Endpoint.{Endpoint}
use Rattle.drv_table.specs.declared.content.Reserve.{Reserve}
use Rattle.drv_table.specs.declared.content.Transfer.{Transfer}
use Rattle.drv_table.specs.declared.rows.DriverRow.TheVariants as rows
use Rattle.drv_table.specs.declared.rows.Found.{Found}
use Rattle.drv_table.specs.declared.rows.Found.TheVariants as founds
use Rattle.drv_table.specs.DriverContent.{DriverContent}
use Rattle.drv_table.specs.Harvests.{note_at, token_in, moved_of}
use Rattle.drv_table.specs.Accepting.{Offered}
use Rattle.drv_table.specs.Offers.{offered}
use Rattle.drv_table.specs.Opening.{opening}
use Rattle.drv_table.specs.Parts.{Parts}
use Rattle.drv_table.specs.Rows.{driver_row, after_driver_row}
use Rattle.law_driver.specs.run_owners.Due.{IsHarvestDue}
use Rattle.claims_driver.specs.Leaving.{HasOwners}
use Rattle.claims_driver.specs.Owners.{note_in}
use Rattle.law_driver.specs.run_owners.Accepts.{Opens, Transfers}
use Rattle.law_driver.specs.chained_transfers.Bulk.{sort_by}
use Rattle.claims_driver.specs.Scripts.{receives}
use Rattle.law_driver.specs.AsynchronousScripts.{OpensAsynchronous}
use Rattle.law_driver.specs.chained_transfers.AsynchronousTurns.{AsynchronousTakesTurns}
use Rattle.law_driver.specs.chained_transfers.Out.{out_now}
use Rattle.law_structures.specs.lent_structures.Structures.{StructureSets, Tells}
use Rattle.law_ring.specs.QueueParts.{IsQueuePart}
use Rattle.law_ring.specs.Hand.{Hand}
use Rattle.law_ring.specs.Told.{Told}
use Rattle.claims_report.specs.Streams.{has_stream}
use Rattle.law_queues.specs.harvest_laws.Outs.{IsOutEarlier}
use Rattle.law_controller.specs.controlled_streams.Reported.{IsReported}
use Rattle.law_driver_ring.specs.fed_queues.Fed.{AreFed}
use Rattle.law_driver_ring.specs.fed_queues.Places.{IsThere}
use Rattle.law_queues.specs.harvest_laws.Told.{ToldStands}
use Rattle.law_world.specs.streams.put_laws.HeldPuts.{HoldsPuts}
use Rattle.law_world.specs.streams.put_laws.Owed.{Owes}

pub record TellsAlike (d new : DriverContent) : Type 0 where
  pub endpoints : new.endpoints ≡ d.endpoints
  pub transfers : new.transfers ≡ d.transfers
  pub notes : new.notes ≡ d.notes

abbrev pub KeepsPuts : DriverContent → (ℕ → List ℕ) → (ℕ → List ℕ) → Type 0
KeepsPuts d puts now = (t : ℕ) → t < length d.transfers → now t ≡ puts t

abbrev pub NewDriverOwes : Type 0
NewDriverOwes = (n : ℕ) (room : Reserve) (m : Mem) (puts reported : ℕ → List ℕ) → Owes (opening n room).driver m puts reported

-- ---- the same content

abbrev pub AlikeOwes : Type 0
AlikeOwes = (d new : DriverContent) (m later : Mem) (puts now reported : ℕ → List ℕ) → AsynchronousTakesTurns d → TellsAlike d new → ((x : Endpoint) → IsThere new x → IsThere d x)
    → ((x : Endpoint) → new.command ≡ Some (unfinished.Open x.queue) → d.command ≡ Some (unfinished.Open x.queue)) → KeepsPuts d puts now
    → HoldsPuts d m puts → HoldsPuts new later now → Owes d m puts reported → Owes new later now reported

-- nothing was reported of the queue head in block b
abbrev pub MetOwes : Type 0
MetOwes = (d new : DriverContent) (m later : Mem) (puts reported told : ℕ → List ℕ) (b : ℕ) → AsynchronousTakesTurns d → TellsAlike d new → d.command ≡ Some (unfinished.Open b) → new.command ≡ None
    → told (32 * b) ≡ [] → ((k : ℕ) → k ≢ 32 * b → told k ≡ reported k) → HoldsPuts d m puts → HoldsPuts new later puts → Owes d m puts reported → Owes new later puts told

-- ---- an accepted command

abbrev pub OpenOwes : Type 0
OpenOwes = (d : DriverContent) (m : Mem) (o : Offered) (puts now reported : ℕ → List ℕ) → Opens d m o → AsynchronousTakesTurns d
    → ((e : ℕ) (x : Endpoint) → slice_get d.endpoints e ≡ Some x → x.gone ≡ false → o.driver.command ≢ Some (unfinished.Open x.queue)) → KeepsPuts d puts now
    → HoldsPuts d m puts → HoldsPuts o.driver o.memory now → Owes d m puts reported → Owes o.driver o.memory now reported

-- a get, put or request; what the buffers of a put hold is what `now` tells of it
abbrev pub AskedOwes : Type 0
AskedOwes = (d : DriverContent) (m : Mem) (o : Offered) (puts now reported : ℕ → List ℕ) (why : Transfers d m o) → why.asked.sort ≡ sort_by why.endpoint.desc.name.way → HasOwners d → Stands (holding d.book m) → AsynchronousTakesTurns d → KeepsPuts d puts now
    → HoldsPuts d m puts → HoldsPuts o.driver o.memory now → Owes d m puts reported → Owes o.driver o.memory now reported

abbrev pub CommandOwes : Type 0
CommandOwes = (d : DriverContent) (m : Mem) (cmd : Cmd) (o : Offered) (puts now reported : ℕ → List ℕ) → OpensAsynchronous cmd → offered d m cmd ≡ Ok o → HasOwners d → Stands (holding d.book m)
    → AsynchronousTakesTurns d → KeepsPuts d puts now → HoldsPuts d m puts → HoldsPuts o.driver o.memory now → Owes d m puts reported → Owes o.driver o.memory now reported

-- ---- rows of the driver

abbrev pub ReturnedOwes : Type 0
ReturnedOwes = (d new : DriverContent) (m later : Mem) (t : ℕ) (y : Transfer) (puts reported : ℕ → List ℕ) → AsynchronousTakesTurns d → slice_get d.transfers t ≡ Some y → y.reported ≡ true
    → new.endpoints ≡ d.endpoints → new.transfers ≡ slice_set d.transfers t (record y { released = true }) → new.notes ≡ d.notes → new.command ≡ d.command
    → HoldsPuts d m puts → HoldsPuts new later puts → Owes d m puts reported → Owes new later puts reported

abbrev pub DriverOwes : Type 0
DriverOwes = (p : Parts) (puts reported told : ℕ → List ℕ) → HasOwners p.driver → AsynchronousTakesTurns p.driver → ((e t : ℕ) (found : Found) → driver_row p ≢ rows.Harvest e t found)
    → ((e : ℕ) → driver_row p ≢ rows.ReleaseEndpoint e)
    → ((e : ℕ) (x : Endpoint) → slice_get p.driver.endpoints e ≡ Some x → IsThere p.driver x → told (32 * x.queue) ≡ reported (32 * x.queue))
    → ((e : ℕ) (x : Endpoint) → slice_get p.driver.endpoints e ≡ Some x → p.driver.command ≡ Some (unfinished.Open x.queue) → IsThere (after_driver_row (driver_row p) p).driver x
    → told (32 * x.queue) ≡ [])
    → HoldsPuts p.driver p.memory puts → HoldsPuts (after_driver_row (driver_row p) p).driver (after_driver_row (driver_row p) p).memory puts
    → Owes p.driver p.memory puts reported → Owes (after_driver_row (driver_row p) p).driver (after_driver_row (driver_row p) p).memory puts told

-- ---- a harvest

abbrev pub IsMovedWhole : DriverContent → Mem → Transfer → Type 0
IsMovedWhole d m y = (token_in m y.place).halted ≡ false → moved_of (note_at d.notes y.place).told (token_in m y.place).total ≡ (note_at d.notes y.place).told

-- both before and after it the report tells what was harvested; a control endpoint has no stream, of which something is reported
abbrev pub HarvestOwes : Type 0
HarvestOwes = (order : ℕ → ℕ) (p : Parts) (parts : StructureSets) (hand : Hand) (e t : ℕ) (found : Found) (acc : List (List ℕ)) (puts reported told : ℕ → List ℕ)
    → (due : IsHarvestDue p e t found) → found ≢ founds.Active
    → HasOwners p.driver → AsynchronousTakesTurns p.driver → AreFed p.driver parts → Tells p.memory parts → IsQueuePart (32 * due.endpoint.queue) (parts (32 * due.endpoint.queue))
    → (has_stream due.endpoint.desc.kind ≡ true → (a : ℕ) (z : List ℕ) → IsOutEarlier (note_in p.driver.notes) e t p.driver.transfers a → Told hand parts (32 * due.endpoint.queue) a z → z ≡ [])
    → (has_stream due.endpoint.desc.kind ≡ true → IsReported order (out_now p.driver e) hand parts (32 * due.endpoint.queue) acc (reported (32 * due.endpoint.queue)))
    → (receives due.endpoint.desc.name.way ≡ false → IsMovedWhole p.driver p.memory due.transfer)
    → ToldStands p.driver hand parts reported → ToldStands (after_driver_row (rows.Harvest e t found) p).driver hand parts told
    → Owes p.driver p.memory puts reported → Owes (after_driver_row (rows.Harvest e t found) p).driver p.memory puts told

abbrev pub WaitOwes : Type 0
WaitOwes = (p : Parts) (e t : ℕ) (puts reported : ℕ → List ℕ) → IsHarvestDue p e t founds.Active → Owes p.driver p.memory puts reported
    → Owes (after_driver_row (rows.Harvest e t founds.Active) p).driver p.memory puts reported
