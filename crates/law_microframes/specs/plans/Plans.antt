-- What a driver has placed below each translator, at each moment of a script's run (USB 2.0, 11.14 and 11.18; EHCI 1.0, 4.12).
--     HubPlansFitIn d      each fits: at most 188 byte-times are laid in each microframe
--     HubPlansStand s      so it is at each moment of a script
use Rattle.std.specs.Prelude.{ℕ, ◌<◌}
use Rattle.usb_base.specs.Limits.{frame_list_length}
use Rattle.script_types.specs.declared.scripts.Script.{Script}
use Rattle.drv_table.specs.DriverContent.{DriverContent}
use Rattle.bus_world.specs.Budgets.{moment}
use Rattle.law_translator.specs.Plans.{Fits}
use Rattle.claims_world.specs.HubPlans.{plan_at}

abbrev pub HubPlansFitIn : DriverContent → Type 0
HubPlansFitIn d = (hub port f : ℕ) → hub < 128 → port < 16 → f < frame_list_length → Fits (plan_at d hub port f)

abbrev pub HubPlansStand : Script → Type 0
HubPlansStand s = (k : ℕ) → HubPlansFitIn (moment s k).world.driver
