-- Each event of a driver, as its queues tell it (EHCI 1.0, 3.5, 3.6, 4.6, 4.8 and 4.10): an event of a queue is the same event of the driver of bulk and control endpoints
-- whose content they are; those of isochronous descriptors and of the frame list leave the queues as they are; an interrupt endpoint that is given back goes as one that had
-- left the ring, and whose Async Advance was cleared.
--     IsOfQueues p row          the event is one of a queue: of a get, a put or a request, of a queue head in the ring, or of the doorbell
--     IsToldAlike p row         what the queues tell says that the row is next, and what stands after it
--     QueuesAlike d f           f has the queues of d, and owes the same of them
--     TellsAlike d f            .. and has the same report
--     FinishesChain p row       a queue head is linked in frames by this event: its command is finished
--     LinksOn p row             .. it isn't finished yet
--     IsOfFrames p row          the event is one of the frame list, of isochronous descriptors, or of an isochronous endpoint
--     LeavesQueues p row        the queues stay, and so do the book, but where runs are lent or given back, and the report, but where a line is told
--     out_of_frames d e         what the queues tell, once endpoint e is out of the ring and may be given back
--     IsGivenBackAlike p e      what becomes of the queues where the interrupt endpoint e is given back
--     EventKind p row           which of these the event is
--     the laws: QueueRowsAgree, ChainLendsAgree, ChainsFinish, OtherRowsLeaveQueues, RemovedEndpointsGo, EachEventHasAKind, RowsKeepQueues, NewDriverQueues, QueuedHasOwners, QueuedAreLent
use Rattle.std.specs.Prelude.{◌≡◌, ◌≢◌, ℕ, Bool, true, false, ◌∷◌, slice_get, slice_set, Option, Some, None}
use Rattle.drv_periodic_table.specs.declared.content.Removed.TheVariants as removed
use Rattle.drv_table.specs.declared.content.Reserve.{Reserve}
use Rattle.drv_table.specs.declared.content.Endpoint.{Endpoint}
use Rattle.drv_table.specs.declared.content.Transfer.{Transfer}
use Rattle.drv_table.specs.declared.content.Command.TheVariants as unfinished
use Rattle.drv_table.specs.declared.rows.DriverRow.{DriverRow}
use Rattle.drv_table.specs.declared.rows.DriverRow.TheVariants as rows
use Rattle.drv_table.specs.DriverContent.{DriverContent}
use Rattle.drv_table.specs.Opening.{opening}
use Rattle.drv_table.specs.Kinds.{is_iso}
use Rattle.drv_table.specs.Parts.{Parts}
use Rattle.drv_table.specs.Commands.{no_command}
use Rattle.drv_table.specs.Rows.{driver_row, after_driver_row}
use Rattle.claims_driver.specs.Owners.{is_descriptor}
use Rattle.law_driver.specs.run_owners.Due.{IsNextOf, IsLinkOf, IsDue}
use Rattle.claims_driver.specs.Leaving.{HasOwners}
use Rattle.claims_driver.specs.LentRuns.{still_lends, AreLent}
use Rattle.law_driver.specs.chained_transfers.AsynchronousTurns.{AsynchronousTakesTurns}
use Rattle.law_driver.specs.queued_drivers.Queued.{queued, queued_parts, QueuesTakeTurns}

-- ---- events of queues

abbrev pub IsOfQueues : Parts → DriverRow → Type 0
IsOfQueues p rows.Lend = p.driver.command ≢ Some unfinished.Chain
IsOfQueues p (rows.Store b at v) = IsNextOf p (rows.Store b at v)
IsOfQueues p rows.Frames = ⊥
IsOfQueues p rows.LendDescriptors = ⊥
IsOfQueues p (rows.Unlink t) = ⊥
IsOfQueues p (rows.ReleaseRemoved what) = ⊥
IsOfQueues p (rows.ReadFrame n) = ⊥
IsOfQueues p (rows.Harvest e t found) = (y : Transfer) → slice_get p.driver.transfers t ≡ Some y → is_descriptor y.sort ≡ false
IsOfQueues p _ = Unit {0}

pub record IsToldAlike (p : Parts) (row : DriverRow) : Type 0 where
  pub due : IsDue (queued_parts p) row
  pub same : queued_parts (after_driver_row row p) ≡ after_driver_row row (queued_parts p)

abbrev pub QueueRowsAgree : Type 0
QueueRowsAgree = (p : Parts) (row : DriverRow) → HasOwners p.driver → QueuesTakeTurns p.driver → IsDue p row → IsOfQueues p row → IsToldAlike p row

-- ---- the same queues

pub record QueuesAlike (d f : DriverContent) : Type 0 where
  pub endpoints : f.endpoints ≡ d.endpoints
  pub transfers : f.transfers ≡ d.transfers
  pub notes : f.notes ≡ d.notes
  pub command : f.command ≡ d.command
  pub made : f.made ≡ d.made
  pub mends : f.mends ≡ d.mends
  pub harvested : f.harvested ≡ d.harvested
  pub waiting : f.waiting ≡ d.waiting
  pub rung : f.rung ≡ d.rung
  pub cleared : f.cleared ≡ d.cleared
  pub bell : f.bell ≡ d.bell

pub record TellsAlike (d f : DriverContent) : Type 0 where
  pub reports : f.reports ≡ d.reports
  pub store : f.store ≡ d.store

-- ---- a queue head that is linked in frames: an open, whose last store is the last of those of the frame list

pub record FinishesChain (p : Parts) (row : DriverRow) : Type 0 where
  pub chain : p.driver.command ≡ Some unfinished.Chain
  pub finished : (after_driver_row row p).driver.command ≡ None

pub record LinksOn (p : Parts) (row : DriverRow) : Type 0 where
  pub chain : p.driver.command ≡ Some unfinished.Chain
  pub unfinished : (after_driver_row row p).driver.command ≢ None

-- the lend, as that of an open; only it isn't the last event but one
pub record IsLentAlike (p : Parts) : Type 0 where
  pub due : IsDue (queued_parts p) rows.Lend
  pub queues : QueuesAlike (after_driver_row rows.Lend (queued_parts p)).driver (queued (after_driver_row rows.Lend p).driver)
  pub tells : TellsAlike (after_driver_row rows.Lend (queued_parts p)).driver (queued (after_driver_row rows.Lend p).driver)
  pub book : (after_driver_row rows.Lend p).driver.book ≡ (after_driver_row rows.Lend (queued_parts p)).driver.book
  pub memory : (after_driver_row rows.Lend p).memory ≡ (after_driver_row rows.Lend (queued_parts p)).memory

abbrev pub ChainLendsAgree : Type 0
ChainLendsAgree = (p : Parts) → IsDue p rows.Lend → LinksOn p rows.Lend → IsLentAlike p

-- the last event: nothing is unfinished then, and all else is as before
pub record IsFinishedAlike (p : Parts) (row : DriverRow) : Type 0 where
  pub queues : QueuesAlike (no_command (queued p.driver)) (queued (after_driver_row row p).driver)
  pub tells : TellsAlike (queued p.driver) (queued (after_driver_row row p).driver)

abbrev pub ChainsFinish : Type 0
ChainsFinish = (p : Parts) (row : DriverRow) → IsDue p row → FinishesChain p row → IsFinishedAlike p row

-- ---- events of frames

pub record IsListStore (p : Parts) (row : DriverRow) : Type 0 where
  pub link : IsLinkOf p row
  pub goes_on : p.driver.command ≡ Some unfinished.Chain → (after_driver_row row p).driver.command ≢ None

abbrev pub IsOfFrames : Parts → DriverRow → Type 0
IsOfFrames p (rows.Store b at v) = IsListStore p (rows.Store b at v)
IsOfFrames p rows.Frames = Unit {0}
IsOfFrames p rows.LendDescriptors = Unit {0}
IsOfFrames p (rows.Unlink t) = Unit {0}
IsOfFrames p (rows.ReleaseRemoved (removed.Descriptor t)) = Unit {0}
IsOfFrames p (rows.ReleaseRemoved (removed.Endpoint e)) = (x : Endpoint) → slice_get p.driver.endpoints e ≡ Some x → is_iso x.desc.kind ≡ true
IsOfFrames p (rows.ReadFrame n) = Unit {0}
IsOfFrames p (rows.Harvest e t found) = (y : Transfer) → slice_get p.driver.transfers t ≡ Some y → is_descriptor y.sort ≡ true
IsOfFrames p _ = ⊥

abbrev pub keeps_book : DriverRow → Bool
keeps_book rows.LendDescriptors = false
keeps_book (rows.ReleaseRemoved what) = false
keeps_book _ = true

abbrev pub tells_nothing : DriverRow → Bool
tells_nothing (rows.ReleaseRemoved (removed.Endpoint e)) = false
tells_nothing (rows.Harvest e t found) = false
tells_nothing _ = true

pub record LeavesQueues (p : Parts) (row : DriverRow) : Type 0 where
  pub queues : QueuesAlike (queued p.driver) (queued (after_driver_row row p).driver)
  pub book : keeps_book row ≡ true → (after_driver_row row p).driver.book ≡ p.driver.book
  pub tells : tells_nothing row ≡ true → TellsAlike (queued p.driver) (queued (after_driver_row row p).driver)

abbrev pub OtherRowsLeaveQueues : Type 0
OtherRowsLeaveQueues = (p : Parts) (row : DriverRow) → HasOwners p.driver → QueuesTakeTurns p.driver → IsDue p row → IsOfFrames p row → LeavesQueues p row

-- ---- an interrupt endpoint that left its frames is given back

abbrev pub out_by : ℕ → DriverContent → Option Endpoint → DriverContent
out_by e d None = d
out_by e d (Some x) = record d { endpoints = slice_set d.endpoints e (record x { linked = false }); cleared = e ∷ d.cleared }

abbrev pub out_of_frames : DriverContent → ℕ → DriverContent
out_of_frames d e = out_by e d (slice_get d.endpoints e)

abbrev pub out_parts : Parts → ℕ → Parts
out_parts p e = record p { driver = out_of_frames (queued p.driver) e }

pub record IsGivenBackAlike (p : Parts) (e : ℕ) : Type 0 where
  pub owners : HasOwners (out_of_frames (queued p.driver) e)
  pub turns : AsynchronousTakesTurns (out_of_frames (queued p.driver) e)
  pub due : IsDue (out_parts p e) (rows.ReleaseEndpoint e)
  pub queues : QueuesAlike (after_driver_row (rows.ReleaseEndpoint e) (out_parts p e)).driver (queued (after_driver_row (rows.ReleaseRemoved (removed.Endpoint e)) p).driver)
  pub tells : TellsAlike (after_driver_row (rows.ReleaseEndpoint e) (out_parts p e)).driver (queued (after_driver_row (rows.ReleaseRemoved (removed.Endpoint e)) p).driver)
  pub book : (after_driver_row (rows.ReleaseRemoved (removed.Endpoint e)) p).driver.book ≡ (after_driver_row (rows.ReleaseEndpoint e) (out_parts p e)).driver.book
  pub memory : (after_driver_row (rows.ReleaseRemoved (removed.Endpoint e)) p).memory ≡ (after_driver_row (rows.ReleaseEndpoint e) (out_parts p e)).memory

abbrev pub RemovedEndpointsGo : Type 0
RemovedEndpointsGo = (p : Parts) (e : ℕ) (x : Endpoint) → HasOwners p.driver → QueuesTakeTurns p.driver → IsDue p (rows.ReleaseRemoved (removed.Endpoint e)) → slice_get p.driver.endpoints e ≡ Some x
    → is_iso x.desc.kind ≡ false → IsGivenBackAlike p e

-- ---- each event is one of these

pub record GivesBack (p : Parts) (row : DriverRow) : Type 0 where
  pub number : ℕ
  pub endpoint : Endpoint
  pub is : row ≡ rows.ReleaseRemoved (removed.Endpoint number)
  pub here : slice_get p.driver.endpoints number ≡ Some endpoint
  pub queue : is_iso endpoint.desc.kind ≡ false

pub record LendsChain (p : Parts) (row : DriverRow) : Type 0 where
  pub is : row ≡ rows.Lend
  pub on : LinksOn p rows.Lend

pub data EventKind (p : Parts) (row : DriverRow) : Type 0 where
  of_queues : IsOfQueues p row → EventKind p row
  of_frames : IsOfFrames p row → EventKind p row
  lends_chain : LendsChain p row → EventKind p row
  finishes_chain : FinishesChain p row → EventKind p row
  gives_back : GivesBack p row → EventKind p row

abbrev pub EachEventHasAKind : Type 0
EachEventHasAKind = (p : Parts) (row : DriverRow) → HasOwners p.driver → IsDue p row → EventKind p row

-- ---- turns, owners and lent runs

abbrev pub NewDriverQueues : Type 0
NewDriverQueues = (n : ℕ) (room : Reserve) → QueuesTakeTurns (opening n room).driver

abbrev pub RowsKeepQueues : Type 0
RowsKeepQueues = (p : Parts) → HasOwners p.driver → QueuesTakeTurns p.driver → QueuesTakeTurns (after_driver_row (driver_row p) p).driver

abbrev pub QueuedHasOwners : Type 0
QueuedHasOwners = (d : DriverContent) → HasOwners d → QueuesTakeTurns d → HasOwners (queued d)

-- Runs of descriptors that are still to be lent are told by no command of a queue.
abbrev pub LendsNoDescriptors : DriverContent → Type 0
LendsNoDescriptors d = (e t count : ℕ) → d.command ≡ Some (unfinished.Iso e t count) → still_lends d.command d.made ≡ false

abbrev pub QueuedAreLent : Type 0
QueuedAreLent = (d : DriverContent) → AreLent d → LendsNoDescriptors d → AreLent (queued d)
