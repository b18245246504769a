-- The row of a harvest in a world whose endpoints are bulk and control ones (EHCI 1.0, 4.10; USB 2.0, 8.5.3.4 and 8.6): a STALL of a control endpoint too.
--     PassedAreUntold         of what a short packet passed over no bytes are told
--     HarvestLeaves ..        what the row leaves: bytes more are reported of a bulk endpoint, and one qTD less is out, or where a control endpoint answered STALL
--                             none of its stalled requests
--     HarvestFeeds            the law
use Rattle.std.specs.Prelude.{◌≡◌, ℕ, ◌*◌, Bool, List, [], slice_get, Some, None}
use Rattle.law_structures.specs.lent_structures.Structures.{StructureSets}
use Rattle.law_ring.specs.Hand.{Hand}
use Rattle.law_ring.specs.Told.{Told}
use Rattle.bus_wire.specs.Bus.{Fixed}
use Rattle.drv_table.specs.declared.content.Endpoint.{Endpoint}
use Rattle.drv_table.specs.declared.rows.DriverRow.TheVariants as rows
use Rattle.drv_table.specs.declared.rows.Found.{Found}
use Rattle.drv_table.specs.DriverContent.{DriverContent}
use Rattle.drv_table.specs.Rows.{driver_row}
use Rattle.claims_driver.specs.Owners.{note_in}
use Rattle.law_driver.specs.chained_transfers.Turns.{AreInTurn}
use Rattle.law_driver_ring.specs.fed_queues.Places.{AreStillOut, IsMet}
use Rattle.law_queues.specs.released_queues.Fronts.{FrontsStand}
use Rattle.law_queues.specs.harvest_laws.Outs.{IsOutEarlier}
use Rattle.bus_world.specs.World.{World, driver_parts, driver_next}
use Rattle.law_world.specs.steps.Streaming.{Streams, Standing}
use Rattle.law_queues.specs.harvest_laws.Told.{ToldStands}
use Rattle.law_world.specs.streams.Feeding.{IsFeeding}

abbrev pub PassedAreUntold : Type 0
PassedAreUntold = (d : DriverContent) (parts : StructureSets) (hand : Hand) (order : ℕ → ℕ → ℕ) (out : ℕ → List ℕ) (e t : ℕ) (x : Endpoint) (a : ℕ) (z : List ℕ) → d.command ≡ None
    → AreInTurn d → AreStillOut d out → FrontsStand d parts order out
    → slice_get d.endpoints e ≡ Some x → IsMet d e x → x.ended ≡ None → x.next ≡ Some t → IsOutEarlier (note_in d.notes) e t d.transfers a → Told hand parts (32 * x.queue) a z → z ≡ []

pub record HarvestLeaves (fixed : Fixed) (member : ℕ → Bool) (x : Streams) (s : Standing) (new : World) : Type 0 where
  pub out : ℕ → List ℕ
  pub reported : ℕ → List ℕ
  pub feeding : IsFeeding fixed member x (record s { out = out; reported = reported }) new
  pub fronts : FrontsStand new.driver s.parts s.order out
  pub told : ToldStands new.driver s.hand s.parts reported

abbrev pub HarvestFeeds : Type 0
HarvestFeeds = (fixed : Fixed) (member : ℕ → Bool) (x : Streams) (s : Standing) (w : World) (e t : ℕ) (found : Found) → driver_row (driver_parts w) ≡ rows.Harvest e t found
    → IsFeeding fixed member x s w
    → FrontsStand w.driver s.parts s.order s.out → ToldStands w.driver s.hand s.parts s.reported → HarvestLeaves fixed member x s (driver_next w)
