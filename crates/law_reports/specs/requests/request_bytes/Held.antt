-- The bytes of a control request in the buffers that the driver took for it (EHCI 1.0, 3.5.4 and 4.10; USB 2.0, 8.5.3 and 9.3).
--     RequestIsHeld m notes b r     of the request whose SETUP is the qTD of block b, the setup bytes stand in its buffer, and the data that go out in that of the next qTD
--     AcceptedRequestIsHeld         so it is once the request was accepted
--     HeldRequestStays              .. and until its buffers are lent
use Rattle.std.specs.Prelude.{◌≡◌, ℕ, ◌<◌, true, false, List, ◌∷◌, ◌++◌}
use Rattle.std.specs.List.{AllByRecursion}
use Rattle.word_mem.specs.Memory.{Mem, IsShaped, word_at, reaches}
use Rattle.mem_runs.specs.Book.{holding, Stands}
use Rattle.drv_table.specs.declared.content.QtdNote.{QtdNote}
use Rattle.drv_table.specs.declared.content.Stage.{Stage}
use Rattle.drv_table.specs.DriverContent.{DriverContent}
use Rattle.drv_table.specs.Words.{request_stages}
use Rattle.drv_table.specs.Harvests.{note_at, buffer_bytes}
use Rattle.drv_table.specs.Accepting.{Offered}
use Rattle.claims_driver.specs.Owners.{EndpointRuns, TransferRuns}
use Rattle.law_driver.specs.run_owners.Accepts.{Transfers}
use Rattle.claims_driver.specs.Leaving.{HasOwners}
use Rattle.claims_driver.specs.LentRuns.{AreLent}
use Rattle.law_driver_ring.specs.Written.{AwaitsLend}
use Rattle.dev_control.specs.Stages.{is_read, wanted_of}
use Rattle.claims_report.specs.Requests.{Request}
use Rattle.law_request.specs.Host.{has_data}
use Rattle.law_request.specs.Windows.{IsRequest}

pub record RequestIsHeld (m : Mem) (notes : List QtdNote) (b : ℕ) (r : Request) : Type 0 where
  pub setup : buffer_bytes m (note_at notes b) 8 ≡ r.setup
  pub sent : has_data r ≡ true → is_read r.setup ≡ false → buffer_bytes m (note_at notes (note_at notes b).next) (wanted_of r.setup) ≡ r.bytes

abbrev pub AcceptedRequestIsHeld : Type 0
AcceptedRequestIsHeld = (d : DriverContent) (m : Mem) (o : Offered) (why : Transfers d m o) (r : Request) →
    IsRequest r → why.asked.stages ≡ request_stages r.setup → why.asked.bytes ≡ r.setup ++ r.bytes
    → AllByRecursion (λ b. b < 256) why.asked.bytes → HasOwners d → AreLent d → Stands (holding d.book m) → IsShaped m
    → RequestIsHeld o.memory o.driver.notes why.endpoint.dummy r

abbrev pub HeldRequestStays : Type 0
HeldRequestStays = (d : DriverContent) (m new : Mem) (t : ℕ) (y : TransferRuns) (x : EndpointRuns) (s : Stage) (ss : List Stage) (r : Request) → AwaitsLend d m t y x s ss
    → s ∷ ss ≡ request_stages r.setup → Stands (holding d.book m) → ((at : ℕ) → reaches m at ≡ false → word_at new at ≡ word_at m at)
    → RequestIsHeld m d.notes y.first r → RequestIsHeld new d.notes y.first r
