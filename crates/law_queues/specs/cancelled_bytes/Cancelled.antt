-- What the line of a cancelled endpoint tells (EHCI 1.0, 4.8.2 and 4.10; USB 2.0, 8.6): of each of its transfers that isn't reported the bytes that were moved,
-- the noted ones of the qTDs that were harvested, and of the others what the overlay or the token tells.
--     SettlesElsewhere hand n     no transaction of the queue head at n waits for its write-back
--     IsReadable part note y      the transfer y isn't given back, its qTDs and their buffers are those that were noted, and ask for no more than its most
--     IsOutReported ..            the qTD at p is out of a transfer that was reported: a short packet passed over it
--     CanBeTold ..                what is known of the endpoint of number e when its line is told, with these bytes held back of its next transfer
--     IsSaid ..                   what the lines of an endpoint of this name tell while none ends it, and what is held back
--     QtdIsCounted, TransferIsCounted, CancelTells, CancelTellsAll, CancelLineTells     the laws
use Rattle.std.specs.Prelude.{◌≡◌, ◌≢◌, ℕ, ◌+◌, ◌*◌, ◌≤◌, true, false, List, [], ◌++◌, length, slice_get, Some, None}
use Rattle.std.specs.List.{concat}
use Rattle.usb_base.specs.declared.endpoints.EpName.{EpName}
use Rattle.usb_base.specs.declared.reports.Report.{Report}
use Rattle.word_mem.specs.Memory.{Mem}
use Rattle.law_structures.specs.lent_structures.Structures.{Structures, StructureSets, Tells}
use Rattle.law_ring.specs.Hand.{Hand, Empty, Copied, Settled, Stale}
use Rattle.law_ring.specs.Told.{Told}
use Rattle.law_ring.specs.Order.{IsAmong, AllTold, Accounts}
use Rattle.drv_table.specs.declared.content.Endpoint.{Endpoint}
use Rattle.drv_table.specs.declared.content.Transfer.{Transfer}
use Rattle.drv_table.specs.declared.content.QtdNote.{QtdNote}
use Rattle.drv_table.specs.DriverContent.{DriverContent}
use Rattle.drv_table.specs.Harvests.{note_at, moved_now, buffer_bytes, bytes_now}
use Rattle.drv_table.specs.Releases.{cancelled_bytes, is_told, cancel_told}
use Rattle.report_text.specs.ReportText.{AreStored}
use Rattle.claims_report.specs.Streams.{told_in}
use Rattle.law_queues.specs.told_endpoints.Telling.{named_of, lines_in, has_end, IsToldTo}
use Rattle.claims_driver.specs.Owners.{NoteRuns, note_in}
use Rattle.law_driver.specs.chained_transfers.Turns.{turn_in, AreReportedTo}
use Rattle.law_driver.specs.chained_transfers.Out.{pieces_from, out_of_transfer, out_now}
use Rattle.law_driver_ring.specs.told_harvests.Held.{AreHeld, told_of, IsRead, AreRead}
use Rattle.law_queues.specs.harvest_laws.Holds.{IsUnderWay, IsToCome}
use Rattle.law_controller.specs.controlled_streams.Reported.{IsReported}

abbrev pub SettlesElsewhere : Hand → ℕ → Type 0
SettlesElsewhere Empty n = Unit {0}
SettlesElsewhere (Copied c) n = Unit {0}
SettlesElsewhere (Settled c z) n = c.at ≢ n
SettlesElsewhere (Stale at old) n = Unit {0}

pub record IsReadable (part : Structures) (note : ℕ → QtdNote) (y : Transfer) : Type 0 where
  pub kept : y.released ≡ false
  pub most : y.left ≤ y.qtds
  pub read : AreRead part note y.first y.qtds
  pub within : told_of note y.first y.qtds ≤ y.most

pub record IsOutReported (note : ℕ → NoteRuns) (e : ℕ) (ts : List Transfer) (p : ℕ) : Type 0 where
  pub number : ℕ
  pub transfer : Transfer
  pub here : slice_get ts number ≡ Some transfer
  pub reported : transfer.reported ≡ true
  pub among : IsAmong p (out_of_transfer note e 0 transfer)

-- its transfers are reported up to the next one, of which some qTDs may be harvested; nothing is told of those that were passed over
pub record CanBeTold (d : DriverContent) (m : Mem) (parts : StructureSets) (hand : Hand) (e : ℕ) (x : Endpoint) (held : List ℕ) : Type 0 where
  pub command : d.command ≡ None
  pub tells : Tells m parts
  pub settled : SettlesElsewhere hand (32 * x.queue)
  pub reported : AreReportedTo (turn_in d.transfers) e x.next
  pub waiting : (t : ℕ) (y : Transfer) → slice_get d.transfers t ≡ Some y → y.endpoint ≡ e → y.reported ≡ false → IsReadable (parts (32 * x.queue)) (note_at d.notes) y
  pub next : (t : ℕ) (y : Transfer) → x.next ≡ Some t → slice_get d.transfers t ≡ Some y → IsUnderWay hand parts (32 * x.queue) (note_at d.notes) y held
  pub none : x.next ≡ None → held ≡ []
  pub to_come : (t : ℕ) (y : Transfer) → slice_get d.transfers t ≡ Some y → y.endpoint ≡ e → y.reported ≡ false → x.next ≢ Some t → IsToCome (note_at d.notes) y
  pub passed : (p : ℕ) (z : List ℕ) → IsOutReported (note_in d.notes) e d.transfers p → Told hand parts (32 * x.queue) p z → z ≡ []

pub record IsSaid (reports : List Report) (store : List ℕ) (name : EpName) (held reported : List ℕ) : Type 0 where
  pub stored : AreStored reports (length store)
  pub going : has_end (lines_in name reports) ≡ false
  pub sum : told_in store (lines_in name reports) ++ held ≡ reported

-- ---- one transfer

-- of a qTD that wasn't harvested the overlay or its token counts what is told
abbrev pub QtdIsCounted : Type 0
QtdIsCounted = (m : Mem) (parts : StructureSets) (hand : Hand) (queue b : ℕ) (note : QtdNote) (z : List ℕ) → Tells m parts → SettlesElsewhere hand (32 * queue) → IsRead (parts (32 * queue)) note b
    → Told hand parts (32 * queue) (32 * b) z → buffer_bytes m note (moved_now m queue b note false) ≡ z

-- of k qTDs from block b on i were harvested, and l are left from block c on
abbrev pub TransferIsCounted : Type 0
TransferIsCounted = (m : Mem) (parts : StructureSets) (hand : Hand) (queue : ℕ) (notes : List QtdNote) (b i c l k : ℕ) (held z : List ℕ) → Tells m parts
    → SettlesElsewhere hand (32 * queue) → k ≡ i + l → AreHeld hand parts (32 * queue) (note_at notes) b i c held
    → AreRead (parts (32 * queue)) (note_at notes) b k
    → AllTold hand parts (32 * queue) (pieces_from (note_in notes) c l) z → bytes_now notes m queue b k l ≡ held ++ z

-- ---- the line of the endpoint

abbrev pub CancelTells : Type 0
CancelTells = (order : ℕ → ℕ) (place : ℕ) (d : DriverContent) (m : Mem) (parts : StructureSets) (hand : Hand) (e : ℕ) (x : Endpoint) (held xs : List ℕ)
    → CanBeTold d m parts hand e x held → Accounts order place (out_now d e) hand parts (32 * x.queue) xs → cancelled_bytes d.notes m e x.queue d.transfers ≡ held ++ xs

-- behind the bytes of its other lines they are those of the packets taken
abbrev pub CancelTellsAll : Type 0
CancelTellsAll = (order : ℕ → ℕ) (d : DriverContent) (m : Mem) (parts : StructureSets) (hand : Hand) (e : ℕ) (x : Endpoint) (acc : List (List ℕ)) (said held reported : List ℕ)
    → CanBeTold d m parts hand e x held → said ++ held ≡ reported → IsReported order (out_now d e) hand parts (32 * x.queue) acc reported
    → said ++ cancelled_bytes d.notes m e x.queue d.transfers ≡ concat acc

-- the line of an endpoint that had not ended before its cancel
abbrev pub CancelLineTells : Type 0
CancelLineTells = (order : ℕ → ℕ) (d : DriverContent) (m : Mem) (parts : StructureSets) (hand : Hand) (e : ℕ) (x : Endpoint) (acc : List (List ℕ)) (held reported : List ℕ)
    → is_told x ≡ true → CanBeTold d m parts hand e x held → IsSaid d.reports d.store x.desc.name held reported
    → IsReported order (out_now d e) hand parts (32 * x.queue) acc reported
    → IsToldTo (cancel_told d m e x).reports (cancel_told d m e x).store (named_of (record x { gone = true })) [] (concat acc)
