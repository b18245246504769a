-- A control request whose qTDs and buffers the driver lends (EHCI 1.0, 3.5 and 4.10): it is coming, until its SETUP is stored.
--     RequestIsLent              the law
use Rattle.std.specs.Prelude.{◌≡◌, ℕ, ◌*◌, ◌<◌, List, ◌∷◌, Some}
use Rattle.word_mem.specs.Memory.{Mem}
use Rattle.mem_runs.specs.declared.slots.Slot.{Slot}
use Rattle.mem_runs.specs.Book.{holding, Stands}
use Rattle.drv_table.specs.declared.content.Stage.{Stage}
use Rattle.drv_table.specs.DriverContent.{DriverContent}
use Rattle.drv_table.specs.Words.{dummy_qtd, request_stages}
use Rattle.drv_table.specs.Offers.{is_last}
use Rattle.claims_driver.specs.Owners.{EndpointRuns, TransferRuns}
use Rattle.law_structures.specs.lent_structures.Structures.{Element, StructureSets, Tells}
use Rattle.law_driver_ring.specs.Written.{AwaitsLend}
use Rattle.law_driver_ring.specs.Pieces.{stage_qtd}
use Rattle.law_driver_ring.specs.TransferLaws.{HasPieces, lent_memory}
use Rattle.claims_report.specs.Requests.{Request}
use Rattle.law_request.specs.Windows.{IsRequest}
use Rattle.law_devices.specs.ring_requests.Laid.{AreApart, AreOthers}
use Rattle.law_devices.specs.ring_requests.Windows.{Queue}
use Rattle.law_reports.specs.requests.request_bytes.Fresh.{request_places}
use Rattle.law_reports.specs.requests.request_bytes.Held.{RequestIsHeld}
use Rattle.law_reports.specs.requests.Coming.{IsComing}

-- its first qTD is stored over the one that ended the queue
abbrev pub RequestIsLent : Type 0
RequestIsLent = (d : DriverContent) (m : Mem) (t : ℕ) (y : TransferRuns) (x : EndpointRuns) (s : Stage) (ss : List Stage) (slot : ℕ → Slot) (parts now : StructureSets) (v : Queue) (r : Request)
    → AwaitsLend d m t y x s ss → s ∷ ss ≡ request_stages r.setup → Stands (holding d.book m) → RequestIsHeld m d.notes y.first r → HasPieces d slot parts now y x s ss → Tells (lent_memory d m) now
    → parts (32 * x.queue) (32 * y.first) ≡ Some (Element dummy_qtd) → IsRequest r → AreApart (request_places d.notes y.first r)
    → ((i : ℕ) → i < v.count → AreOthers (v.places i) (request_places d.notes y.first r))
    → IsComing v r (request_places d.notes y.first r) (32 * y.first) (32 * x.dummy) (stage_qtd d.notes s y.first x.dummy (is_last ss)) (now (32 * x.queue))
