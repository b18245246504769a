-- Of each endpoint whose data go one way, bulk, interrupt or isochronous, whatever the script opens: no line follows the one that tells its
-- end, and nothing of it is pending then, at each moment of the script (EHCI 1.0, 4.6.2, 4.8.2 and 4.10; USB 2.0, 5.6 to 5.8).
--     IsEndedOnce r name      no line of the endpoint follows the first that ends it, and nothing is pending then
--     EndsOnceThroughout s    so it is of each name whose data go one way, at each moment of the script
--     EndsOnce s              .. and after its run
use Rattle.std.specs.Prelude.{◌≡◌, ◌≢◌, ℕ, true}
use Rattle.usb_base.specs.declared.endpoints.EpName.{EpName}
use Rattle.usb_base.specs.declared.packets.Way.TheVariants.{Ctl}
use Rattle.script_types.specs.declared.scripts.Script.{Script}
use Rattle.bus_wire.specs.Bus.{fixed_of}
use Rattle.claims_report.specs.Reports.{WholeReport, lines_of}
use Rattle.claims_report.specs.Streams.{ends_once, ends_whole}
use Rattle.bus_world.specs.Budgets.{moment}
use Rattle.bus_world.specs.Runs.{IsWholeRunOf}
use Rattle.bus_world.specs.World.{Standing}
use Rattle.claims_world.specs.Streams.{report_of}

pub record IsEndedOnce (r : WholeReport) (name : EpName) : Type 0 where
  pub once : ends_once (lines_of r name) ≡ true
  pub whole : ends_whole r name ≡ true

abbrev pub EndsOnceThroughout : Script → Type 0
EndsOnceThroughout s = (k : ℕ) (name : EpName) → name.way ≢ Ctl → IsEndedOnce (report_of (fixed_of s) (moment s k).world) name

pub record EndsOnce (s : Script) : Type 0 where
  pub throughout : EndsOnceThroughout s
  pub after : (w : Standing) → IsWholeRunOf s w → (name : EpName) → name.way ≢ Ctl → IsEndedOnce (report_of w.fixed w.world) name
