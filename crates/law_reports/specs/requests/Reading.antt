-- What a driver read of the control request that it harvests (EHCI 1.0, 3.5.3, 4.10 and 4.15.1; USB 2.0, 8.5.3): bytes are told of its data alone.
--     IsSilent notes y            none are told of its SETUP, and none of its status
--     AreSilent d                 so of each request of the driver that isn't given back
--     IsAtRequest ..              the row of a harvest reads a qTD of the request r
--     AreMoved ..                 the bytes were moved of its data; none, where its SETUP is read
--     ReadIsMoved, MovedIsRead    the laws: so were those that it is reported with; and once more was read of it
--     MovedBegin, MovedAreAll     .. they begin the data of the first request that is asked; once the device acted on it and its status is read, they are all of them
use Rattle.std.specs.Prelude.{◌≡◌, ℕ, ◌-◌, ◌*◌, ◌≤◌, Bool, true, false, List, [], slice_get, Option, Some}
use Rattle.usb_base.specs.declared.reports.What.{What}
use Rattle.claims_base.specs.Prefix.{IsPrefix}
use Rattle.drv_table.specs.declared.content.QtdNote.{QtdNote}
use Rattle.drv_table.specs.declared.content.Sort.TheVariants as sorts
use Rattle.drv_table.specs.declared.content.Transfer.{Transfer}
use Rattle.drv_table.specs.declared.rows.Found.{Found}
use Rattle.drv_table.specs.declared.rows.Found.TheVariants as founds
use Rattle.drv_table.specs.DriverContent.{DriverContent}
use Rattle.drv_table.specs.Harvests.{note_at, noted}
use Rattle.drv_table.specs.Parts.{Parts}
use Rattle.law_driver.specs.run_owners.Due.{IsHarvestDue}
use Rattle.claims_driver.specs.Owners.{note_in}
use Rattle.law_driver.specs.chained_transfers.Chains.{piece_at}
use Rattle.law_driver.specs.chained_transfers.Turns.{IsAtPlace}
use Rattle.law_structures.specs.lent_structures.Structures.{StructureSets, Tells}
use Rattle.law_structures.specs.lent_structures.Sound.{IsMember}
use Rattle.claims_report.specs.Requests.{Request}
use Rattle.law_request.specs.Host.{has_data}
use Rattle.law_request.specs.Line.{Line}
use Rattle.law_request.specs.Windows.{IsRequest, data_of}
use Rattle.claims_report.specs.ControlSides.{Device}
use Rattle.law_ring.specs.Hand.{Hand}
use Rattle.law_ring.specs.Told.{Told}
use Rattle.law_devices.specs.ring_requests.Laid.{Places, AreApart}
use Rattle.law_devices.specs.ring_requests.Windows.{Queue, Lines, sent_at, IsQueue, IsActedOnce}
use Rattle.law_reports.specs.requests.request_bytes.Fresh.{next_of}
use Rattle.law_reports.specs.requests.driver_requests.Requests.{IsLaidOut}
use Rattle.law_driver_ring.specs.told_harvests.Held.{told_of, IsRead}
use Rattle.law_reports.specs.requests.told_requests.Rows.{bytes_with}
use Rattle.law_reports.specs.requests.Asking.{IsReadTo}

-- ---- what is told of it

pub record IsSilent (notes : List QtdNote) (y : Transfer) : Type 0 where
  pub setup : (note_at notes y.first).told ≡ 0
  pub status : (note_at notes (piece_at (note_in notes) y.first (y.qtds - 1))).told ≡ 0

abbrev pub AreSilent : DriverContent → Type 0
AreSilent d = (t : ℕ) (y : Transfer) → slice_get d.transfers t ≡ Some y → y.sort ≡ sorts.Request → y.released ≡ false → IsSilent d.notes y

-- ---- the row of a harvest

pub record IsAtRequest (member : ℕ → Bool) (p : Parts) (e t : ℕ) (found : Found) (due : IsHarvestDue p e t found) (parts : StructureSets) (hand : Hand) (r : Request) (x : Places) : Type 0 where
  pub laid : IsLaidOut p.driver t r x
  pub apart : AreApart x
  pub sort : due.transfer.sort ≡ sorts.Request
  pub at : IsAtPlace (note_in p.driver.notes) due.transfer
  pub silent : IsSilent p.driver.notes due.transfer
  pub so_far : IsReadTo hand parts (32 * due.endpoint.queue) (note_at p.driver.notes) due.transfer r
  pub within : told_of (note_at p.driver.notes) due.transfer.first due.transfer.qtds ≤ due.transfer.most
  pub tells : Tells p.memory parts
  pub on : IsMember member (32 * due.endpoint.queue) (parts (32 * due.endpoint.queue))
  pub noted : has_data r ≡ true → IsRead (parts (32 * due.endpoint.queue)) (note_at p.driver.notes (next_of p.driver.notes due.transfer.first)) (next_of p.driver.notes due.transfer.first)

-- so many of its qTDs weren't read before it
pub data AreMoved (hand : Hand) (parts : StructureSets) (n : ℕ) (r : Request) (x : Places) (left : ℕ) (bytes : List ℕ) : Type 0 where
  none_moved : (has_data r ≡ true → left ≡ 3) → bytes ≡ [] → AreMoved hand parts n r x left bytes
  some_moved : has_data r ≡ true → Told hand parts n x.data_at bytes → AreMoved hand parts n r x left bytes

abbrev pub ReadIsMoved : Type 0
ReadIsMoved = (member : ℕ → Bool) (p : Parts) (e t n : ℕ) (what : What) (due : IsHarvestDue p e t (founds.Ended n what)) (parts : StructureSets) (hand : Hand) (r : Request) (x : Places)
    → IsAtRequest member p e t (founds.Ended n what) due parts hand r x → AreMoved hand parts (32 * due.endpoint.queue) r x due.transfer.left (bytes_with p due.transfer n)

abbrev pub MovedIsRead : Type 0
MovedIsRead = (member : ℕ → Bool) (p : Parts) (e t n : ℕ) (due : IsHarvestDue p e t (founds.Moved n)) (parts : StructureSets) (hand : Hand) (r : Request) (x : Places)
    → IsAtRequest member p e t (founds.Moved n) due parts hand r x
    → IsReadTo hand parts (32 * due.endpoint.queue) (note_at (noted p.driver.notes due.transfer.place n))
    (record due.transfer { place = (note_at p.driver.notes due.transfer.place).next; left = due.transfer.left - 1 }) r

-- ---- of which request they are

abbrev pub MovedBegin : Type 0
MovedBegin = (v : Queue) (l : Lines) (hand : Hand) (parts : StructureSets) (n left : ℕ) (o : Option Device) (bytes : List ℕ) → IsQueue v l hand parts n o
    → AreMoved hand parts n (v.requests 0) (v.places 0) left bytes → IsPrefix bytes (data_of v.endpoint (v.requests 0))

abbrev pub MovedAreAll : Type 0
MovedAreAll = (v : Queue) (l : Line) (hand : Hand) (parts : StructureSets) (n left : ℕ) (bytes : List ℕ) → IsRequest (v.requests 0) → IsActedOnce (sent_at v 0) l hand parts n → left ≤ 1
    → AreMoved hand parts n (v.requests 0) (v.places 0) left bytes → bytes ≡ data_of v.endpoint (v.requests 0)
