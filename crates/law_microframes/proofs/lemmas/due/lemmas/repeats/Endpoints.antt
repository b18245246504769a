-- Each endpoint of the driver is one that a line opens: below a hub it stands on the bus.
use Rattle.std.proofs.Common.{◌≡◌, ℕ, ◌≤◌, true, false, List, [], ◌∷◌, slice_get, Option, Some, None, Result, Ok, Err, refl, ap, ◌∙◌}
use Rattle.std.specs.Prelude.{is_some, not}
use Rattle.std.specs.List.{AllByRecursion}
use Rattle.usb_base.specs.declared.commands.Cmd.{Cmd}
use Rattle.usb_base.specs.declared.commands.Cmd.TheVariants as commands
use Rattle.usb_base.specs.declared.endpoints.EpDesc.{EpDesc}
use Rattle.usb_base.specs.declared.reports.OfferError.{OfferError}
use Rattle.script_types.specs.declared.scripts.Line.{Line}
use Rattle.script_types.specs.declared.scripts.Line.TheVariants as lines
use Rattle.script_types.specs.declared.scripts.Script.{Script}
use Rattle.script_text.specs.Faults.{Spells}
use Rattle.script_fits.specs.Fits.{IsFitLine}
use Rattle.script_fits.proofs.Texts.{spelled_fits}
use Rattle.bandwidth.specs.declared.placements.Placement.{Placement}
use Rattle.drv_table.specs.declared.content.Endpoint.{Endpoint}
use Rattle.drv_table.specs.DriverContent.{DriverContent}
use Rattle.drv_table.specs.Accepting.{Offered}
use Rattle.drv_table.specs.Offers.{offered}
use Rattle.drv_table.specs.Rows.{driver_row}
use Rattle.drv_table.specs.Words.{is_high}
use Rattle.bus_wire.specs.Bus.{fixed_of, opening_bus}
use Rattle.bus_world.specs.World.{World, driver_parts, name_in, commanded, commanded_by}
use Rattle.bus_world.specs.Budgets.{moment}
use Rattle.law_world.specs.steps.receiving_runs.Runs.{KindOfLine, IsKeptBy}
use Rattle.law_world.proofs.lemmas.steps.lemmas.receiving_runs.Runs.{holds_throughout}
use Rattle.law_world.proofs.lemmas.memory.lemmas.framed_memory.EndpointFacts.{after_row, IsOfOpened, after_command}
use Rattle.law_microframes.specs.due.repeats.Hearing.{is_control_way, IsHeardOn, IsBelowHub}
use Rattle.law_microframes.proofs.lemmas.due.lemmas.repeats.Opening.{IsHeardLine, spelled_heard}

pub record Stands (s : Script) (x : EpDesc) : Type 0 where
  pub max : x.max ≤ 1024
  pub port : x.port ≤ 127
  pub heard : is_high x.speed ≡ false → is_control_way x.name.way ≡ false → IsHeardOn (fixed_of s) (opening_bus s) x

abbrev CanStand : Script → Cmd → Type 0
CanStand s (commands.OpenEp x) = Stands s x
CanStand s _ = Unit {0}

-- ---- the lines

some_hub : (x : EpDesc) (o : Option ℕ) → x.hub ≡ o → is_some o ≡ true → is_control_way x.name.way ≡ false → IsBelowHub x
some_hub x None is some carries = cc
some_hub x (Some hub) is some carries = record { hub = hub; behind = is; carries = carries }

line_stands : (s : Script) (l : Line) → IsFitLine l → IsHeardLine s l → KindOfLine (CanStand s) l
line_stands s (lines.Command (commands.OpenEp x)) fit heard = record {
  max = fit.0;
  port = fit.1;
  heard = λ low carries. heard (some_hub x x.hub refl (fit.2.below ∙ ap not low) carries);
}
line_stands s (lines.Command _) fit heard = tt
line_stands s (lines.Order event n) fit heard = tt
line_stands s (lines.Micro n) fit heard = tt
line_stands s _ fit heard = tt

lines_stand : (s : Script) (ls : List (ℕ × Line)) → AllByRecursion (λ l. IsFitLine l.1) ls → AllByRecursion (λ l. IsHeardLine s l.1) ls
    → AllByRecursion (λ l. KindOfLine (CanStand s) l.1) ls
lines_stand s [] fit heard = tt
lines_stand s (l ∷ ls) fit heard = (line_stands s l.1 fit.0 heard.0, lines_stand s ls fit.1 heard.1)

-- ---- along a run

abbrev StandsAs : Script → EpDesc → Option Placement → Type 0
StandsAs s x o = Stands s x

abbrev pub AllStand : Script → DriverContent → Type 0
AllStand s d = (e : ℕ) (x : Endpoint) → slice_get d.endpoints e ≡ Some x → Stands s x.desc

opened : (s : Script) (cmd : Cmd) → CanStand s cmd → IsOfOpened (StandsAs s) cmd
opened s (commands.OpenEp x) can = λ o. can
opened s _ can = tt

command_stands : (s : Script) (w : World) (n : ℕ) (cmd : Cmd) → CanStand s cmd → AllStand s w.driver
    → AllStand s (commanded w n cmd).driver
command_stands s w n cmd can k = by (offered w.driver w.memory cmd) refl
  where
    by : (r : Result Offered OfferError) → offered w.driver w.memory cmd ≡ r → AllStand s (commanded_by w n (name_in cmd) r).driver
    by (Err why) is = k
    by (Ok o) is = after_command (StandsAs s) w.driver w.memory cmd o (opened s cmd can) k is

is_kept : (s : Script) → IsKeptBy (fixed_of s) (CanStand s) (λ w. AllStand s w.driver)
is_kept s = record {
  driver = λ w k. after_row (StandsAs s) (driver_row (driver_parts w)) (driver_parts w) k;
  controller = λ w k. k;
  command = λ w line cmd can room k. command_stands s w line cmd can k;
}

pub texts_stand : (text : List ℕ) (s : Script) → Spells text s → (k : ℕ) → AllStand s (moment s k).world.driver
texts_stand text s spelled k =
    let fit = spelled_fits text s spelled in
    holds_throughout (CanStand s) (λ w. AllStand s w.driver) s fit (lines_stand s s.lines fit.lines (spelled_heard text s spelled))
    (λ e x there. absurd (cc)) (is_kept s) k
