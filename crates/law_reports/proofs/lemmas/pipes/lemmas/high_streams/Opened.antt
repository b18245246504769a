-- The endpoints of a script's driver are those that its lines open.
use Rattle.std.proofs.Common.{◌≡◌, ℕ, Option, Some, Result, Ok, Err, slice_get, refl}
use Rattle.std.specs.List.{AllByRecursion}
use Rattle.law_common.proofs.Lists.{nothing_at, each_here}
use Rattle.usb_base.specs.declared.commands.Cmd.{Cmd}
use Rattle.usb_base.specs.declared.commands.Cmd.TheVariants as commands
use Rattle.usb_base.specs.declared.endpoints.EpDesc.{EpDesc}
use Rattle.usb_base.specs.declared.endpoints.EpName.{EpName}
use Rattle.usb_base.specs.declared.reports.OfferError.{OfferError}
use Rattle.script_types.specs.declared.scripts.Line.{Line}
use Rattle.script_types.specs.declared.scripts.Line.TheVariants as lines
use Rattle.script_types.specs.declared.scripts.Script.{Script}
use Rattle.bandwidth.specs.declared.placements.Placement.{Placement}
use Rattle.drv_table.specs.Accepting.{Offered}
use Rattle.drv_table.specs.Offers.{offered}
use Rattle.drv_table.specs.Rows.{driver_row}
use Rattle.law_world.proofs.lemmas.memory.lemmas.framed_memory.EndpointFacts.{after_row, IsOfOpened, after_command}
use Rattle.law_world.specs.steps.receiving_runs.Runs.{KindOfLine}
use Rattle.law_world.proofs.lemmas.steps.lemmas.receiving_runs.Runs.{holds_throughout}
use Rattle.bus_world.specs.World.{World, driver_parts, name_in, commanded_by}
use Rattle.law_reports.specs.pipes.high_streams.Opened.{OpensOf, AreOpened, MomentsAreOpened}
use Rattle.law_opened.specs.Opened.{IsOpened}

-- ---- along a run

abbrev Opens : Script → EpDesc → Option Placement → Type 0
Opens s x o = IsOpened s x

line_opens : (s : Script) (place number : ℕ) (l : Line) → slice_get s.lines place ≡ Some (number, l) → KindOfLine (OpensOf s) l
line_opens s place number (lines.Command (commands.OpenEp x)) here = record { place = place; number = number; here = here }
line_opens s place number _ here = tt

pub lines_open : (s : Script) → AllByRecursion (λ l. KindOfLine (OpensOf s) l.1) s.lines
lines_open s = each_here (λ l. KindOfLine (OpensOf s) l.1) s.lines (λ i l here. line_opens s i l.0 l.1 here)

opened_of : (s : Script) (cmd : Cmd) → OpensOf s cmd → IsOfOpened (Opens s) cmd
opened_of s (commands.OpenEp x) is = λ o. is
opened_of s _ is = tt

answered : (s : Script) (w : World) (line : ℕ) (name : EpName) (cmd : Cmd) (r : Result Offered OfferError)
    → offered w.driver w.memory cmd ≡ r → OpensOf s cmd → AreOpened s w.driver → AreOpened s (commanded_by w line name r).driver
answered s w line name cmd (Ok o) is opens all = after_command (Opens s) w.driver w.memory cmd o (opened_of s cmd opens) all is
answered s w line name cmd (Err why) is opens all = all

pub moments_are_opened : MomentsAreOpened
moments_are_opened s fit k =
    holds_throughout (OpensOf s) (λ w. AreOpened s w.driver) s fit (lines_open s) (λ e x here. absurd (nothing_at e x here))
    (record {
      driver = λ w all. after_row (Opens s) (driver_row (driver_parts w)) (driver_parts w) all;
      controller = λ w all. all;
      command = λ w line cmd can room all. answered s w line (name_in cmd) cmd (offered w.driver w.memory cmd) refl can all;
    }) k
