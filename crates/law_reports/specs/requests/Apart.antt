-- The qTDs of a driver's control requests are apart (EHCI 1.0, 3.5): those of one request, and those of two of its transfers.
--     LaidAreApart               the law: of a request whose qTDs lead on, one to the next
--     LaidAreOthers              .. and of two transfers: each run of blocks has one owner
use Rattle.std.specs.Prelude.{◌≢◌, ℕ}
use Rattle.drv_table.specs.DriverContent.{DriverContent}
use Rattle.claims_driver.specs.Leaving.{HasOwners}
use Rattle.law_structures.specs.lent_structures.Structures.{Structures}
use Rattle.claims_report.specs.Requests.{Request}
use Rattle.law_request.specs.Host.{Endpoint, Setup}
use Rattle.law_ring.specs.Front.{LinksRise}
use Rattle.law_devices.specs.ring_requests.Laid.{Places, AreApart, AreOthers}
use Rattle.law_devices.specs.ring_requests.Shown.{AreFresh}
use Rattle.law_reports.specs.requests.driver_requests.Requests.{IsLaidOut}

abbrev pub LaidAreApart : Type 0
LaidAreApart = (d : DriverContent) (t : ℕ) (e : Endpoint) (r : Request) (x : Places) (order : ℕ → ℕ) (part : Structures) → IsLaidOut d t r x → LinksRise order part → AreFresh e r x part Setup → AreApart x

abbrev pub LaidAreOthers : Type 0
LaidAreOthers = (d : DriverContent) (t u : ℕ) (r q : Request) (x y : Places) → HasOwners d → IsLaidOut d t r x → IsLaidOut d u q y → t ≢ u → AreOthers x y
