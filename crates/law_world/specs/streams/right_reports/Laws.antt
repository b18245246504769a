-- Laws of the report of a world (USB 2.0, 8.6).
use Rattle.std.specs.Prelude.{◌≡◌, ℕ, true, List, slice_get, Some}
use Rattle.std.specs.List.{concat}
use Rattle.script_types.specs.declared.scripts.Script.{Script}
use Rattle.endpoint_script.specs.Items.{packets_of}
use Rattle.claims_base.specs.Prefix.{IsPrefix}
use Rattle.bus_wire.specs.Bus.{Fixed}
use Rattle.claims_report.specs.Reports.{whole_text}
use Rattle.claims_report.specs.Streams.{items_of}
use Rattle.drv_table.specs.declared.content.Endpoint.{Endpoint}
use Rattle.claims_driver.specs.Scripts.{comes_in}
use Rattle.law_driver.specs.chained_transfers.Asynchronous.{OnlyAsynchronous}
use Rattle.law_queues.specs.told_endpoints.Telling.{named_in, TellsEach}
use Rattle.bus_world.specs.World.{World}
use Rattle.bus_world.specs.Closing.{world_text}
use Rattle.claims_world.specs.Streams.{report_of}
use Rattle.law_world.specs.streams.Asynchronous.{AreRightInStreams}

-- the report is what is printed of it
abbrev pub ReportIsPrinted : Type 0
ReportIsPrinted = (fixed : Fixed) (w : World) → whole_text (report_of fixed w) ≡ world_text fixed w

-- what is told of each IN endpoint begins the packets that the script has for it
abbrev pub BeginsEach : Script → World → (ℕ → List ℕ) → Type 0
BeginsEach s w told = (e : ℕ) (x : Endpoint) → slice_get w.driver.endpoints e ≡ Some x → comes_in x.desc.name.way ≡ true → IsPrefix (told e) (concat (packets_of (items_of s x.desc.name)))

abbrev pub ReportIsRight : Type 0
ReportIsRight = (s : Script) (fixed : Fixed) (w : World) (held told : ℕ → List ℕ) → OnlyAsynchronous w.driver → TellsEach w.driver.reports w.driver.store (named_in w.driver.endpoints) held told
    → BeginsEach s w told → AreRightInStreams s (report_of fixed w)
