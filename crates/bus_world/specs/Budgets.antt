-- The budgets of the periodic endpoints along a run (USB 2.0, 5.11.3 and 11.18; EHCI 1.0, 4.7 and 4.12).
--     AdmitsExactly rules p  at this place of a run placements follow these rules, and all that is placed fits; and where the next order is
--                            the open of a periodic endpoint that passes the checks before, it is refused for want of a placement exactly
--                            where no allowed one fits beside what is placed, what still leaves included
--     moment s k             the run of a script after k events and commands
--     AdmitsThroughout s     at each moment of the run of a script
use Rattle.std.specs.Prelude.{◌≡◌, ◌↔◌, ℕ, List, ◌∷◌, Err}
use Rattle.usb_base.specs.declared.endpoints.EpDesc.{EpDesc}
use Rattle.usb_base.specs.declared.rules.Rules.{Rules}
use Rattle.usb_base.specs.declared.commands.Cmd.TheVariants.{OpenEp}
use Rattle.usb_base.specs.declared.reports.OfferError.TheVariants.{NoPlacement}
use Rattle.script_types.specs.declared.scripts.Script.{Script}
use Rattle.bandwidth.specs.Sums.{Fits}
use Rattle.drv_table.specs.Offers.{offered}
use Rattle.bus_wire.specs.Bus.{fixed_of}
use Rattle.drv_table.specs.PeriodicOpens.{PassesBefore, BreaksBudgets}
use Rattle.bus_world.specs.Rooms.{rules_of}
use Rattle.bus_world.specs.World.{World}
use Rattle.bus_world.specs.Opening.{opening_world}
use Rattle.bus_world.specs.Orders.{Left, Command, OrderedWorld, at_place, orders_of, ticks}

-- the open of this endpoint is refused for want of a placement exactly where each allowed one breaks a budget
abbrev pub IsRefusedExactly : World → EpDesc → Type 0
IsRefusedExactly w x = (offered w.driver w.memory (OpenEp x) ≡ Err NoPlacement) ↔ BreaksBudgets w.driver x

pub record AdmitsExactly (rules : Rules) (p : OrderedWorld) : Type 0 where
  pub rules_stand : p.world.driver.periodic.plan.rules ≡ rules
  pub fits : Fits p.world.driver.periodic.plan.placed
  pub refused : (n : ℕ) (x : EpDesc) (rest : List Left) → p.orders ≡ Command n (OpenEp x) ∷ rest → PassesBefore p.world.driver x → IsRefusedExactly p.world x

abbrev pub moment : Script → ℕ → OrderedWorld
moment s k = ticks (fixed_of s) (at_place (opening_world s) (orders_of s.lines)) k

abbrev pub AdmitsThroughout : Script → Type 0
AdmitsThroughout s = (k : ℕ) → AdmitsExactly (rules_of s) (moment s k)
