-- What is said of the opens of a script's run (USB 2.0, 5.6.4, 5.7.4, 5.11.3 and 11.18): the clause `places` says it of the script that
-- is drawn from the number of `load`.
--     OpensHavePlaces s    where a command of the run of the script opens an endpoint, an allowed placement fits
use Rattle.std.specs.Prelude.{◌≡◌, ℕ, List, ◌∷◌}
use Rattle.usb_base.specs.declared.commands.Cmd.TheVariants.{OpenEp}
use Rattle.usb_base.specs.declared.endpoints.EpDesc.{EpDesc}
use Rattle.script_types.specs.declared.scripts.Script.{Script}
use Rattle.bus_world.specs.Budgets.{moment}
use Rattle.bus_world.specs.Orders.{Left, Command}
use Rattle.claims_answers.specs.Refusals.{HasNoPlacement}

abbrev pub OpensHavePlaces : Script → Type 0
OpensHavePlaces s = (k n : ℕ) (x : EpDesc) (rest : List Left) → (moment s k).orders ≡ Command n (OpenEp x) ∷ rest
    → HasNoPlacement (moment s k).world.driver (OpenEp x) → ⊥
