-- A world whose endpoints are bulk and control ones, and whose report of IN endpoints is right (EHCI 1.0, 4.10; USB 2.0, 8.6).
--     AreOfScript s packets      these are the packets that the senders of the script have at the opening
--     ClosedIns d packets acc    what is told of endpoints IN that have left begins their packets
--     WorldIsRight               the law
use Rattle.std.specs.Prelude.{◌≡◌, ℕ, ◌*◌, Bool, true, false, List, [], slice_get, Some, None}
use Rattle.std.specs.List.{concat}
use Rattle.script_types.specs.declared.scripts.Script.{Script}
use Rattle.bus_wire.specs.Bus.{Fixed, opening_wired}
use Rattle.drv_table.specs.declared.content.Endpoint.{Endpoint}
use Rattle.drv_table.specs.DriverContent.{DriverContent}
use Rattle.law_driver.specs.endpoint_lives.Lives.{may_meet}
use Rattle.claims_base.specs.Prefix.{IsPrefix}
use Rattle.claims_report.specs.Streams.{told_in, has_stream}
use Rattle.law_queues.specs.told_endpoints.Telling.{lines_in}
use Rattle.law_controller.specs.controlled_streams.Reported.{AreReported}
use Rattle.claims_base.specs.Controller.{Base}
use Rattle.law_ring.specs.Bus.{Sender}
use Rattle.law_devices.specs.Senders.{sender_of}
use Rattle.bus_world.specs.World.{World}
use Rattle.law_world.specs.steps.Streaming.{Streams, Standing, IsStreaming}
use Rattle.claims_driver.specs.Scripts.{comes_in}
use Rattle.law_driver.specs.chained_transfers.Asynchronous.{OnlyAsynchronous}
use Rattle.law_driver_ring.specs.fed_queues.Places.{HaveStreams, IsThere}
use Rattle.law_queues.specs.harvest_laws.Told.{ToldStands}
use Rattle.law_devices.specs.opening_senders.Own.{HasOwnDevices}
use Rattle.claims_world.specs.Streams.{report_of}
use Rattle.law_world.specs.streams.Asynchronous.{AreRightInStreams}

pub record AreOfScript (s : Script) (packets : ℕ → ℕ → List (List ℕ)) : Type 0 where
  pub some : (addr ep : ℕ) (x : Sender) → sender_of (opening_wired s) addr ep ≡ Some x → packets addr ep ≡ x.left
  pub none : (addr ep : ℕ) → sender_of (opening_wired s) addr ep ≡ None → packets addr ep ≡ []

-- of an endpoint IN that has left, and of one that was given back, what was moved and what is told begins its packets
pub record ClosedIns (d : DriverContent) (packets : ℕ → ℕ → List (List ℕ)) (acc : ℕ → List (List ℕ)) : Type 0 where
  pub left : (e : ℕ) (x : Endpoint) → slice_get d.endpoints e ≡ Some x → comes_in x.desc.name.way ≡ true → IsThere d x → may_meet d e x ≡ false
      → IsPrefix (concat (acc (32 * x.queue))) (concat (packets x.desc.name.addr x.desc.name.num))
  pub gone : (e : ℕ) (x : Endpoint) → slice_get d.endpoints e ≡ Some x → comes_in x.desc.name.way ≡ true → x.gone ≡ true
      → IsPrefix (told_in d.store (lines_in x.desc.name d.reports)) (concat (packets x.desc.name.addr x.desc.name.num))

abbrev pub WorldIsRight : Type 0
WorldIsRight = (script : Script) (fixed : Fixed) (base : Base) (member heads : ℕ → Bool) (x : Streams) (s : Standing) (w : World) → HasOwnDevices script → AreOfScript script x.packets
    → IsStreaming fixed base member x s w → OnlyAsynchronous w.driver → HaveStreams w.driver x.streams x.endpoint → ToldStands w.driver s.hand s.parts s.reported
    → AreReported heads s.order s.out s.hand s.parts s.acc s.reported → ((e : ℕ) (z : Endpoint) → slice_get w.driver.endpoints e ≡ Some z → IsThere w.driver z → has_stream z.desc.kind ≡ true → heads (32 * z.queue) ≡ true)
    → ClosedIns w.driver x.packets s.acc → AreRightInStreams script (report_of fixed w)
