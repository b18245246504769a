-- The OUT endpoints of a driver, qTD by qTD (EHCI 1.0, 4.10.2 to 4.10.6): the qTDs of each are sent whole and in turn, so what was sent of it begins the bytes of
-- its puts.
--     SentStand d order out hand parts     so it is of each OUT endpoint that the walk may meet
--     HoldThere d heads                    among these are the queue heads of all OUT endpoints that are there
--     HoldOuts d outs                      .. and those of all OUT endpoints that it may meet
--     WasOut d z, OutsWere d f             the OUT endpoint z was one of d that the walk might meet; so was each such one of f
use Rattle.std.specs.Prelude.{◌≡◌, ℕ, ◌*◌, Bool, true, false, List, slice_get, Some}
use Rattle.drv_table.specs.declared.content.Endpoint.{Endpoint}
use Rattle.drv_table.specs.DriverContent.{DriverContent}
use Rattle.law_structures.specs.lent_structures.Structures.{StructureSets}
use Rattle.law_ring.specs.Hand.{Hand}
use Rattle.claims_driver.specs.Scripts.{receives}
use Rattle.law_driver_ring.specs.fed_queues.Places.{IsMet, IsThere}
use Rattle.law_queues.specs.whole_sends.Whole.{AreSentWhole}

abbrev pub SentStand : DriverContent → (ℕ → ℕ → ℕ) → (ℕ → List ℕ) → Hand → StructureSets → Type 0
SentStand d order out hand parts =
    (e : ℕ) (x : Endpoint) → slice_get d.endpoints e ≡ Some x → IsMet d e x → receives x.desc.name.way ≡ false
    → AreSentWhole (order (32 * x.queue)) (out (32 * x.queue)) hand (32 * x.queue) (parts (32 * x.queue))

-- ---- queue heads

abbrev pub HoldThere : DriverContent → (ℕ → Bool) → Type 0
HoldThere d heads = (e : ℕ) (x : Endpoint) → slice_get d.endpoints e ≡ Some x → IsThere d x → receives x.desc.name.way ≡ false → heads (32 * x.queue) ≡ true

abbrev pub HoldOuts : DriverContent → (ℕ → Bool) → Type 0
HoldOuts d outs = (e : ℕ) (x : Endpoint) → slice_get d.endpoints e ≡ Some x → IsMet d e x → receives x.desc.name.way ≡ false → outs (32 * x.queue) ≡ true

-- ---- two contents

pub record WasOut (d : DriverContent) (z : Endpoint) : Type 0 where
  pub number : ℕ
  pub endpoint : Endpoint
  pub here : slice_get d.endpoints number ≡ Some endpoint
  pub met : IsMet d number endpoint
  pub sends : receives endpoint.desc.name.way ≡ false
  pub queue : z.queue ≡ endpoint.queue

abbrev pub OutsWere : DriverContent → DriverContent → Type 0
OutsWere d f = (e : ℕ) (z : Endpoint) → slice_get f.endpoints e ≡ Some z → IsMet f e z → receives z.desc.name.way ≡ false → WasOut d z
