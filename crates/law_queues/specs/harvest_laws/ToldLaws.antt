-- Laws of what a driver's report tells of each queue that has a stream.
use Rattle.std.specs.Prelude.{◌≡◌, ◌≢◌, ℕ, ◌-◌, ◌*◌, true, List, [], ◌∷◌, ◌++◌, length, slice_get, slice_set, Some, None, false}
use Rattle.usb_base.specs.declared.reports.Report.{Report}
use Rattle.word_mem.specs.Memory.{Mem}
use Rattle.mem_runs.specs.Book.{holding, Stands}
use Rattle.law_structures.specs.lent_structures.Structures.{StructureSets}
use Rattle.law_ring.specs.Hand.{Hand}
use Rattle.law_ring.specs.Sparing.{SameHand, SparesHead, SparesElement}
use Rattle.claims_report.specs.Reports.{is_refusal}
use Rattle.claims_report.specs.Streams.{has_stream}
use Rattle.drv_table.specs.declared.content.Endpoint.{Endpoint}
use Rattle.drv_table.specs.declared.content.Transfer.{Transfer}
use Rattle.drv_table.specs.declared.content.Command.TheVariants as unfinished
use Rattle.drv_table.specs.declared.content.Reserve.{Reserve}
use Rattle.drv_table.specs.declared.rows.Found.{Found}
use Rattle.drv_table.specs.DriverContent.{DriverContent}
use Rattle.drv_table.specs.Opening.{opening}
use Rattle.drv_table.specs.Accepting.{Offered}
use Rattle.drv_table.specs.Harvesting.{found_of, after_harvest}
use Rattle.claims_driver.specs.Owners.{note_in}
use Rattle.claims_driver.specs.Leaving.{HasOwners}
use Rattle.law_driver.specs.run_owners.Accepts.{Opens}
use Rattle.law_driver.specs.chained_transfers.Turns.{AreAtPlaces}
use Rattle.law_driver.specs.chained_transfers.Accepted.{IsAsked}
use Rattle.law_driver.specs.chained_transfers.Asynchronous.{IsRequested}
use Rattle.law_driver.specs.chained_transfers.Out.{out_now}
use Rattle.law_queues.specs.harvest_laws.HeldLaws.{AreThere}
use Rattle.drv_table.specs.Harvests.{note_at}
use Rattle.law_driver_ring.specs.told_harvests.Held.{IsOneFrom}
use Rattle.law_queues.specs.harvest_laws.Holds.{IsNextOf}
use Rattle.law_queues.specs.harvest_laws.RowLaws.{IsReadNext, CanBeRead}
use Rattle.law_controller.specs.controlled_streams.Reported.{IsReported}
use Rattle.law_driver_ring.specs.fed_queues.Places.{IsThere}
use Rattle.law_queues.specs.harvest_laws.Told.{ToldStands}

abbrev pub NewIsTold : Type 0
NewIsTold = (n : ℕ) (room : Reserve) (hand : Hand) (parts : StructureSets) (reported : ℕ → List ℕ) → ToldStands (opening n room).driver hand parts reported

-- ---- structures

-- a step that leaves, of each endpoint that has a stream, the overlay of its queue head, each qTD that is held back, and its buffer
pub record SparesDone (d : DriverContent) (parts now : StructureSets) : Type 0 where
  pub heads : (e : ℕ) (x : Endpoint) → slice_get d.endpoints e ≡ Some x → has_stream x.desc.kind ≡ true → SparesHead parts now (32 * x.queue)
  pub done : (e t : ℕ) (x : Endpoint) (y : Transfer) (a : ℕ) → IsNextOf d e t x y → has_stream x.desc.kind ≡ true → IsOneFrom (note_at d.notes) y.first (y.qtds - y.left) a → SparesElement parts now (32 * x.queue) (32 * a)

abbrev pub SparedIsTold : Type 0
SparedIsTold = (d : DriverContent) (hand later : Hand) (parts now : StructureSets) (reported : ℕ → List ℕ) → SameHand hand later → SparesDone d parts now → ToldStands d hand parts reported
    → ToldStands d later now reported

-- ---- content

-- nothing is reported, and no endpoint, transfer or note changes; no open is finished
pub record IsAlike (d new : DriverContent) : Type 0 where
  pub reports : new.reports ≡ d.reports
  pub store : new.store ≡ d.store
  pub endpoints : new.endpoints ≡ d.endpoints
  pub transfers : new.transfers ≡ d.transfers
  pub notes : new.notes ≡ d.notes

abbrev pub AlikeIsTold : Type 0
AlikeIsTold = (d new : DriverContent) (hand : Hand) (parts : StructureSets) (reported : ℕ → List ℕ) → IsAlike d new → ((x : Endpoint) → IsThere new x → IsThere d x)
    → ((x : Endpoint) → new.command ≡ Some (unfinished.Open x.queue) → d.command ≡ Some (unfinished.Open x.queue)) → ToldStands d hand parts reported → ToldStands new hand parts reported

-- the open of the queue head in block b is finished
abbrev pub MetIsTold : Type 0
MetIsTold = (d new : DriverContent) (hand : Hand) (parts : StructureSets) (reported now : ℕ → List ℕ) (b : ℕ) → IsAlike d new → d.command ≡ Some (unfinished.Open b) → new.command ≡ None
    → now (32 * b) ≡ [] → ((k : ℕ) → k ≢ 32 * b → now k ≡ reported k) → ToldStands d hand parts reported → ToldStands new hand parts now

-- a command is refused
abbrev pub RefusedIsTold : Type 0
RefusedIsTold = (d new : DriverContent) (hand : Hand) (parts : StructureSets) (reported : ℕ → List ℕ) (line : Report) → is_refusal line.what ≡ true → line.from ≡ length d.store → line.len ≡ 0
    → new.reports ≡ d.reports ++ line ∷ [] → new.store ≡ d.store → new.endpoints ≡ d.endpoints → new.transfers ≡ d.transfers → new.notes ≡ d.notes → new.command ≡ d.command
    → ToldStands d hand parts reported → ToldStands new hand parts reported

-- it is accepted
abbrev pub OpenedIsTold : Type 0
OpenedIsTold = (d : DriverContent) (m : Mem) (o : Offered) (hand : Hand) (parts : StructureSets) (reported : ℕ → List ℕ) → Opens d m o
    → ((e : ℕ) (x : Endpoint) → slice_get d.endpoints e ≡ Some x → x.gone ≡ false → o.driver.command ≢ Some (unfinished.Open x.queue)) → ToldStands d hand parts reported → ToldStands o.driver hand parts reported

abbrev pub AskedIsTold : Type 0
AskedIsTold = (d : DriverContent) (m : Mem) (o : Offered) (hand : Hand) (parts : StructureSets) (reported : ℕ → List ℕ) → IsAsked d m o → Stands (holding d.book m) → HasOwners d
    → AreThere d → AreAtPlaces (note_in d.notes) d.transfers
    → ToldStands d hand parts reported → ToldStands o.driver hand parts reported

-- a request of a control endpoint
abbrev pub RequestedIsTold : Type 0
RequestedIsTold = (d : DriverContent) (m : Mem) (o : Offered) (hand : Hand) (parts : StructureSets) (reported : ℕ → List ℕ) → IsRequested d m o → Stands (holding d.book m) → HasOwners d
    → AreThere d → AreAtPlaces (note_in d.notes) d.transfers
    → ToldStands d hand parts reported → ToldStands o.driver hand parts reported

-- a reported transfer is given back
abbrev pub ReturnedIsTold : Type 0
ReturnedIsTold = (d new : DriverContent) (t : ℕ) (y : Transfer) (hand : Hand) (parts : StructureSets) (reported : ℕ → List ℕ) → slice_get d.transfers t ≡ Some y → y.reported ≡ true → AreThere d
    → new.reports ≡ d.reports → new.store ≡ d.store → new.endpoints ≡ d.endpoints → new.transfers ≡ slice_set d.transfers t (record y { released = true }) → new.notes ≡ d.notes
    → new.command ≡ d.command
    → ToldStands d hand parts reported → ToldStands new hand parts reported

-- ---- a harvest

-- what was reported of the queue head at n has grown by these bytes
pub record HarvestReports (order : ℕ → ℕ) (d new : DriverContent) (hand : Hand) (parts : StructureSets) (e : ℕ) (x : Endpoint) (acc : List (List ℕ)) (reported : ℕ → List ℕ) : Type 0 where
  pub bytes : List ℕ
  pub stands : (now : ℕ → List ℕ) → now (32 * x.queue) ≡ reported (32 * x.queue) ++ bytes → ((k : ℕ) → k ≢ 32 * x.queue → now k ≡ reported k) → ToldStands new hand parts now
  pub right : IsReported order (out_now new e) hand parts (32 * x.queue) acc (reported (32 * x.queue) ++ bytes)
  pub beside : (k : ℕ) → k ≢ e → out_now new k ≡ out_now d k

abbrev pub HarvestedIsTold : Type 0
HarvestedIsTold = (order : ℕ → ℕ) (d : DriverContent) (m : Mem) (parts : StructureSets) (hand : Hand) (e t : ℕ) (x : Endpoint) (y : Transfer) (found : Found)
    (acc : List (List ℕ)) (reported : ℕ → List ℕ)
    → IsReadNext d e t x y → CanBeRead d m parts hand e t x y → ((k : ℕ) (z : Endpoint) → slice_get d.endpoints k ≡ Some z → z.gone ≡ false → z.queue ≡ x.queue → k ≡ e)
    → found ≡ found_of d m y y.sort → ToldStands d hand parts reported → IsReported order (out_now d e) hand parts (32 * x.queue) acc (reported (32 * x.queue))
    → HarvestReports order d (after_harvest d m e t found (Some x) (Some y)) hand parts e x acc reported
