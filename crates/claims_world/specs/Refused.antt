-- What becomes of each command of a script (EHCI 1.0, 4.8): it is refused for the first cause that stands, which a line tells, and nothing
-- else changes; or none stands, it is accepted, no line tells of it, and what it asks for is added.
--     line_of w n cmd why        the line of the report: the command on line n is refused for this cause
--     IsRefused w n cmd new      new is what stands once it is refused
--     IsAccepted w cmd new       .. or accepted
--     CommandsHaveCauses s       so it is of each command of the run of a script
use Rattle.std.specs.Prelude.{◌≡◌, ℕ, suc, ◌-◌, ◌⊎◌, List, [], ◌∷◌, ◌++◌, length}
use Rattle.usb_base.specs.declared.commands.Cmd.{Cmd}
use Rattle.usb_base.specs.declared.reports.OfferError.{OfferError}
use Rattle.usb_base.specs.declared.reports.Report.{Report}
use Rattle.usb_base.specs.declared.reports.What.TheVariants as lines
use Rattle.script_types.specs.declared.scripts.Script.{Script}
use Rattle.bus_world.specs.Budgets.{moment}
use Rattle.bus_world.specs.Orders.{Left, Command}
use Rattle.bus_world.specs.World.{World, name_in}
use Rattle.claims_answers.specs.Adding.{IsAdded}
use Rattle.claims_answers.specs.Refusals.{IsFirstCause, HasNoCause}

abbrev pub line_of : World → ℕ → Cmd → OfferError → Report
line_of w n cmd why = record { name = name_in cmd; what = lines.Refused n why; from = length w.driver.store; len = 0 }

-- room for one line less
pub record IsRefused (w : World) (n : ℕ) (cmd : Cmd) (new : World) : Type 0 where
  pub why : OfferError
  pub cause : IsFirstCause w.driver w.memory cmd why
  pub told : new ≡ record w {
    driver = record w.driver {
      reports = w.driver.reports ++ line_of w n cmd why ∷ [];
      room = record w.driver.room { reports = w.driver.room.reports - 1 };
    };
  }

pub record IsAccepted (w : World) (cmd : Cmd) (new : World) : Type 0 where
  pub causes : HasNoCause w.driver w.memory cmd
  pub untold : new.driver.reports ≡ w.driver.reports
  pub added : IsAdded w.driver cmd new.driver

abbrev pub CommandsHaveCauses : Script → Type 0
CommandsHaveCauses s = (k n : ℕ) (cmd : Cmd) (rest : List Left) → (moment s k).orders ≡ Command n cmd ∷ rest
    → IsRefused (moment s k).world n cmd (moment s (suc k)).world ⊎ IsAccepted (moment s k).world cmd (moment s (suc k)).world
