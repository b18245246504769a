-- A world of bulk and control endpoints, and what its report tells of OUT endpoints (EHCI 1.0, 4.10; USB 2.0, 8.5 and 8.6).
--     HaveOuts d outs ends      each queue head of an OUT endpoint that the walk may meet is among these, and this is its endpoint
--     ClosedOuts d taker ..     what is told of endpoints OUT that have left begins what their devices took
--     WorldIsTaken              where both sides of their pipes agree, and what is told of each queue that has a stream is what was harvested of it, what is told
--                               begins what was taken
use Rattle.std.specs.Prelude.{◌≡◌, ℕ, ◌*◌, Bool, true, false, List, slice_get, Some, Option}
use Rattle.std.specs.List.{concat}
use Rattle.script_types.specs.declared.scripts.Script.{Script}
use Rattle.bus_wire.specs.Bus.{Fixed}
use Rattle.law_structures.specs.lent_structures.Structures.{StructureSets}
use Rattle.law_ring.specs.Hand.{Hand}
use Rattle.law_ring.specs.Told.{Endpoint as Told, endpoint_of}
use Rattle.law_ring.specs.OutBus.{Taker}
use Rattle.law_devices.specs.scripted_takers.Takers.{taker_of}
use Rattle.law_driver.specs.endpoint_lives.Lives.{may_meet}
use Rattle.claims_report.specs.Streams.{told_in, has_stream}
use Rattle.law_queues.specs.told_endpoints.Telling.{lines_in}
use Rattle.law_controller.specs.controlled_streams.Reported.{AreReported}
use Rattle.drv_table.specs.declared.content.Endpoint.{Endpoint}
use Rattle.drv_table.specs.DriverContent.{DriverContent}
use Rattle.drv_table.specs.Words.{queue_head}
use Rattle.bus_world.specs.World.{World}
use Rattle.law_world.specs.steps.Streaming.{wired}
use Rattle.law_world.specs.steps.Outs.{AreOutPiped}
use Rattle.claims_driver.specs.Scripts.{receives}
use Rattle.law_driver.specs.chained_transfers.Asynchronous.{OnlyAsynchronous}
use Rattle.law_driver_ring.specs.fed_queues.Places.{IsMet, IsThere}
use Rattle.law_queues.specs.harvest_laws.Told.{ToldStands}
use Rattle.claims_world.specs.Streams.{report_of, IsToldTaken}
use Rattle.law_world.specs.streams.Asynchronous.{AreTakenStreams}
use Rattle.law_world.specs.streams.taken_reports.Seats.{IsSeatedBus}
use Rattle.law_world.specs.streams.taken_reports.Laws.{bytes_taken}

abbrev pub HaveOuts : DriverContent → (ℕ → Bool) → (ℕ → Told) → Type 0
HaveOuts d outs ends = (e : ℕ) (x : Endpoint) → slice_get d.endpoints e ≡ Some x → IsMet d e x → receives x.desc.name.way ≡ false
    → (outs (32 * x.queue) ≡ true) × (ends (32 * x.queue) ≡ endpoint_of (queue_head x.desc 0 x.dummy))

-- of an endpoint OUT that has left, and of one that was given back, what was moved and what is told begins what its device took
pub record ClosedOuts {W : Type 0} (d : DriverContent) (taker : W → ℕ → ℕ → Option Taker) (acc : ℕ → List (List ℕ)) (wire : W) : Type 0 where
  pub left : (e : ℕ) (x : Endpoint) → slice_get d.endpoints e ≡ Some x → receives x.desc.name.way ≡ false → IsThere d x → may_meet d e x ≡ false
      → IsToldTaken (concat (acc (32 * x.queue))) (bytes_taken (taker wire x.desc.name.addr x.desc.name.num))
  pub gone : (e : ℕ) (x : Endpoint) → slice_get d.endpoints e ≡ Some x → receives x.desc.name.way ≡ false → x.gone ≡ true
      → IsToldTaken (told_in d.store (lines_in x.desc.name d.reports)) (bytes_taken (taker wire x.desc.name.addr x.desc.name.num))

abbrev pub WorldIsTaken : Type 0
WorldIsTaken = (script : Script) (fixed : Fixed) (takes : ℕ → ℕ → Bool) (member outs heads : ℕ → Bool) (ends : ℕ → Told) (order : ℕ → ℕ → ℕ) (out reported : ℕ → List ℕ)
    (acc : ℕ → List (List ℕ)) (parts : StructureSets) (hand : Hand) (w : World) → IsSeatedBus script fixed w.bus → OnlyAsynchronous w.driver
    → AreOutPiped takes taker_of member outs ends (λ n. concat (acc n)) parts hand (wired fixed w) → AreReported heads order out hand parts acc reported
    → ((n : ℕ) → outs n ≡ true → heads n ≡ true) → HaveOuts w.driver outs ends
    → ((e : ℕ) (x : Endpoint) → slice_get w.driver.endpoints e ≡ Some x → IsThere w.driver x → has_stream x.desc.kind ≡ true → heads (32 * x.queue) ≡ true)
    → ClosedOuts w.driver taker_of acc (wired fixed w) → ToldStands w.driver hand parts reported → AreTakenStreams script (report_of fixed w)
