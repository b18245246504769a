-- What the words of the ring are at each moment, also between the stores of an open (EHCI 1.0, 4.8.1 and 4.8.2).
--     KeepsRing d m o          the ring of what stands once a command was accepted
use Rattle.std.specs.Prelude.{◌≡◌, ℕ, false, slice_get, Some}
use Rattle.word_mem.specs.Memory.{Mem, IsShaped}
use Rattle.mem_runs.specs.Book.{holding, Stands}
use Rattle.drv_table.specs.declared.content.Endpoint.{Endpoint}
use Rattle.drv_table.specs.DriverContent.{DriverContent}
use Rattle.drv_table.specs.Kinds.{is_iso}
use Rattle.drv_table.specs.Accepting.{Offered}
use Rattle.claims_driver.specs.Leaving.{HasOwners}
use Rattle.claims_driver.specs.Ring.{link_in}
use Rattle.law_driver.specs.ring_members.Words.{IsRing}

-- an endpoint with a queue, which wasn't given back
pub record HasQueue (d : DriverContent) (e : ℕ) (x : Endpoint) : Type 0 where
  pub here : slice_get d.endpoints e ≡ Some x
  pub queued : is_iso x.desc.kind ≡ false
  pub alive : x.gone ≡ false

-- ---- as commands and events find it

abbrev pub KeepsRing : DriverContent → Mem → Offered → Type 0
KeepsRing d m o = Stands (holding d.book m) → IsShaped m → HasOwners d → IsRing (link_in m) d → IsRing (link_in o.memory) o.driver
