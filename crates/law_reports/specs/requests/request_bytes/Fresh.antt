-- A control request once its buffers are lent (EHCI 1.0, 3.5 and 4.10; USB 2.0, 8.5.3).
--     request_places notes b r      where its qTDs stand, the SETUP in block b; without a data stage the place of one is nobody's
--     IsStoredAt part now a t       the part is `now` with the qTD t in the place of the inactive one at a
--     LentRequestIsFresh            its qTDs are then as a new request's must be
use Rattle.std.specs.Prelude.{◌≡◌, ◌≢◌, ℕ, ◌+◌, ◌*◌, List, ◌∷◌, Some, if◌then◌else◌}
use Rattle.word_mem.specs.Memory.{Mem}
use Rattle.qh_qtd.specs.declared.qtd.Qtd.{Qtd}
use Rattle.mem_runs.specs.declared.slots.Slot.{Slot}
use Rattle.mem_runs.specs.Book.{holding, Stands}
use Rattle.drv_table.specs.declared.content.QtdNote.{QtdNote}
use Rattle.drv_table.specs.declared.content.Stage.{Stage}
use Rattle.drv_table.specs.DriverContent.{DriverContent}
use Rattle.drv_table.specs.Words.{dummy_qtd, request_stages}
use Rattle.drv_table.specs.Harvests.{note_at}
use Rattle.drv_table.specs.Offers.{is_last}
use Rattle.claims_driver.specs.Owners.{EndpointRuns, TransferRuns}
use Rattle.law_structures.specs.lent_structures.Structures.{Element, Structures, StructureSets, Tells}
use Rattle.law_driver_ring.specs.Written.{AwaitsLend}
use Rattle.law_driver_ring.specs.Pieces.{stage_qtd}
use Rattle.law_driver_ring.specs.TransferLaws.{HasPieces, lent_memory}
use Rattle.claims_report.specs.Requests.{Request}
use Rattle.law_request.specs.Host.{Endpoint, Setup, has_data}
use Rattle.law_devices.specs.ring_requests.Laid.{Places}
use Rattle.law_devices.specs.ring_requests.Shown.{AreFresh}
use Rattle.law_reports.specs.requests.request_bytes.Held.{RequestIsHeld}

-- its qTDs in block b and in these
abbrev pub data_places : ℕ → ℕ → ℕ → ℕ → Places
data_places b next status tail = record { setup = 32 * b; data_at = 32 * next; status = 32 * status; behind = Some (32 * tail) }

abbrev pub other_places : ℕ → ℕ → ℕ → Places
other_places b status tail = record { setup = 32 * b; data_at = 32 * b + 1; status = 32 * status; behind = Some (32 * tail) }

abbrev pub next_of : List QtdNote → ℕ → ℕ
next_of notes b = (note_at notes b).next

abbrev pub request_places : List QtdNote → ℕ → Request → Places
request_places notes b r =
    if has_data r then data_places b (next_of notes b) (next_of notes (next_of notes b)) (next_of notes (next_of notes (next_of notes b)))
    else other_places b (next_of notes b) (next_of notes (next_of notes b))

pub record IsStoredAt (part now : Structures) (a : ℕ) (t : Qtd) : Type 0 where
  pub here : part a ≡ Some (Element t)
  pub before : now a ≡ Some (Element dummy_qtd)
  pub others : (i : ℕ) → i ≢ a → part i ≡ now i

abbrev pub LentRequestIsFresh : Type 0
LentRequestIsFresh = (d : DriverContent) (m : Mem) (t : ℕ) (y : TransferRuns) (x : EndpointRuns) (s : Stage) (ss : List Stage) (slot : ℕ → Slot) (parts now : StructureSets) (part : Structures)
    (e : Endpoint) (r : Request) → AwaitsLend d m t y x s ss → s ∷ ss ≡ request_stages r.setup → Stands (holding d.book m) → RequestIsHeld m d.notes y.first r
    → HasPieces d slot parts now y x s ss → Tells (lent_memory d m) now → IsStoredAt part (now (32 * x.queue)) (32 * y.first) (stage_qtd d.notes s y.first x.dummy (is_last ss))
    → AreFresh e r (request_places d.notes y.first r) part Setup
