-- A world at work (EHCI 1.0, 4.6, 4.8 and 4.10; USB 2.0, 8.6): its driver and its controller share memory, the pipes of its IN endpoints agree with the
-- devices of its bus, and what is reported of each is right.
--     IsWorking fixed base member x s w       the world is so, with the streams x, which don't change, and what s tells of them now
--     StaysWorking fixed base member x s new  so is the world after an event, with other structures, another copy in hand and more packets taken
--     no_streams, at_opening                  no endpoint is opened yet, and so none has a stream
use Rattle.std.specs.Prelude.{ℕ, Bool, false, List, []}
use Rattle.bus_wire.specs.Bus.{Fixed}
use Rattle.drv_table.specs.Words.{opening_head}
use Rattle.claims_driver.specs.Owners.{views_of}
use Rattle.law_structures.specs.lent_structures.Structures.{StructureSets}
use Rattle.law_ring.specs.Hand.{Hand, Empty}
use Rattle.claims_base.specs.Controller.{Base}
use Rattle.law_ring.specs.Told.{endpoint_of}
use Rattle.law_driver_ring.specs.Inventory.{sorts_of, IsDriven}
use Rattle.law_driver_ring.specs.Driven.{IsOperating}
use Rattle.law_driver_ring.specs.PartOpened.{opening_parts}
use Rattle.law_driver.specs.in_place.InPlace.{IsInPlace}
use Rattle.bus_world.specs.World.{World}
use Rattle.law_world.specs.steps.Streaming.{Streams, Standing, IsStreaming}

pub record IsWorking (fixed : Fixed) (base : Base) (member : ℕ → Bool) (x : Streams) (s : Standing) (w : World) : Type 0 where
  pub operating : IsOperating base
  pub streaming : IsStreaming fixed base member x s w
  pub place : IsInPlace w.memory w.driver
  pub driven : IsDriven (views_of w.driver) (sorts_of s.parts)

pub record StaysWorking (fixed : Fixed) (base : Base) (member : ℕ → Bool) (x : Streams) (s : Standing) (new : World) : Type 0 where
  pub parts : StructureSets
  pub hand : Hand
  pub acc : ℕ → List (List ℕ)
  pub working : IsWorking fixed base member x (record s { parts = parts; hand = hand; acc = acc }) new

-- ---- the opening

abbrev pub no_streams : Streams
no_streams = record {
  stream = λ addr ep. false;
  packets = λ addr ep. [];
  streams = λ n. false;
  endpoint = λ n. endpoint_of opening_head;
}

abbrev pub at_opening : Standing
at_opening = record {
  parts = opening_parts;
  hand = Empty;
  acc = λ n. [];
  order = λ n i. 0;
  out = λ n. [];
  reported = λ n. [];
}
