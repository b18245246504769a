-- The window of the request under way, as a transaction of its own queue head is made (EHCI 1.0, 4.10; USB 2.0, 8.5.3).
--     OwnTransactionOpens     its SETUP opens it, and any later one finds it open
use Rattle.std.specs.Prelude.{◌≡◌, ℕ, true, Option, Some}
use Rattle.bus_world.specs.World.{World}
use Rattle.claims_report.specs.ControlSides.{Device}
use Rattle.claims_world.specs.Requests.{setup_at, endpoint_of, Windows, opened_by, begun_by}
use Rattle.law_structures.specs.lent_structures.Structures.{QueueHead, StructureSets}
use Rattle.law_ring.specs.Hand.{Copy, Hand, Copied}
use Rattle.law_devices.specs.ring_requests.Windows.{Queue, Lines, IsQueue}
use Rattle.law_reports.specs.requests.world_requests.Recording.{IsFound, IsOpened}
use Rattle.law_reports.specs.requests.Records.{Numbers}

abbrev pub OwnTransactionOpens : Type 0
OwnTransactionOpens = (w : World) (v : Windows) (q : Queue) (l : Lines) (a : Numbers) (hand : Hand) (parts : StructureSets) (n : ℕ)
    (o : Option Device) (copy : Copy) → IsQueue q l hand parts n o → hand ≡ Copied copy → parts n n ≡ Some (QueueHead copy.queue)
    → copy.queue.token.active ≡ true → IsFound w.driver q a.number l.under
    → endpoint_of w.driver (a.number l.under) ≡ Some a.endpoint → begun_by w ≡ setup_at w.driver copy.queue.current
    → IsOpened (v.opened a.endpoint) (a.number l.under) l
    → opened_by w.driver (begun_by w) v.opened a.endpoint ≡ Some (a.number l.under)
