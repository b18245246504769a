-- What a driver's report tells of each queue that has a stream (EHCI 1.0, 4.10; USB 2.0, 8.6): the bytes of its lines, and behind them those that are held back, are what was
-- harvested of it.
--     ToldStands d hand parts reported      so it is of the queue head of each endpoint that is there and has a stream, and of one of these that is being opened nothing is told;
--                                           of a control endpoint nothing is said
use Rattle.std.specs.Prelude.{◌≡◌, ℕ, ◌*◌, List, [], slice_get, Some, false}
use Rattle.law_structures.specs.lent_structures.Structures.{StructureSets}
use Rattle.law_ring.specs.Hand.{Hand}
use Rattle.drv_table.specs.declared.content.Endpoint.{Endpoint}
use Rattle.drv_table.specs.declared.content.Command.TheVariants as unfinished
use Rattle.drv_table.specs.DriverContent.{DriverContent}
use Rattle.law_queues.specs.told_endpoints.Telling.{named_in, TellsEach}
use Rattle.law_queues.specs.harvest_laws.Holds.{HoldsEach}
use Rattle.law_driver_ring.specs.fed_queues.Places.{IsThere}

pub record ToldStands (d : DriverContent) (hand : Hand) (parts : StructureSets) (reported : ℕ → List ℕ) : Type 0 where
  pub held : ℕ → List ℕ
  pub told : ℕ → List ℕ
  pub holds : HoldsEach d hand parts held
  pub tells : TellsEach d.reports d.store (named_in d.endpoints) held told
  pub met : (e : ℕ) (x : Endpoint) → slice_get d.endpoints e ≡ Some x → IsThere d x → told e ≡ reported (32 * x.queue)
  pub opening : (e : ℕ) (x : Endpoint) → slice_get d.endpoints e ≡ Some x → x.gone ≡ false → d.command ≡ Some (unfinished.Open x.queue) → told e ≡ []
