-- The hub of an endpoint of a script that is of full or low speed (EHCI 1.0, 3.6.2; USB 2.0, 11.14 and 11.24.2).
--     IsBehindHub s x         the script has its hub, and the port
--     TextsKeepHubs           at each moment of each script that a text spells it is the hub that its queue head names
--     TextsSpareHubs          .. and where no line of the script is a request to it that clears a buffer or resets a translator, it hasn't
--                             heard one last
use Rattle.std.specs.Prelude.{◌≡◌, ℕ, true, false, List}
use Rattle.usb_base.specs.declared.endpoints.EpDesc.{EpDesc}
use Rattle.script_types.specs.declared.scripts.Script.{Script}
use Rattle.script_text.specs.Faults.{Spells}
use Rattle.bus_wire.specs.Bus.{fixed_of}
use Rattle.drv_table.specs.Words.{is_high}
use Rattle.bus_world.specs.Budgets.{moment}
use Rattle.claims_world.specs.BelowStreams.{has_hub, LeavesTranslator}
use Rattle.claims_world.specs.Requests.{wired}
use Rattle.law_below_hubs.specs.Splits.{IsAtHub}
use Rattle.law_reports.specs.pipes.Piped.{asked_as}
use Rattle.law_reports.specs.pipes.below_hubs.BehindLaws.{hub_of, place_of}
use Rattle.law_reports.specs.requests.below.Controlled.{IsSparedHub}

pub record IsBehindHub (s : Script) (x : EpDesc) : Type 0 where
  pub slow : is_high x.speed ≡ false
  pub has : has_hub s x.hub x.port ≡ true

abbrev pub TextsKeepHubs : Type 0
TextsKeepHubs = (text : List ℕ) (s : Script) (x : EpDesc) → Spells text s → IsBehindHub s x → (k : ℕ)
    → IsAtHub (wired (fixed_of s) (moment s k).world).bus.hubs (asked_as x).hub (asked_as x).port (hub_of s x.hub) (place_of s x.hub x.port)

abbrev pub TextsSpareHubs : Type 0
TextsSpareHubs = (text : List ℕ) (s : Script) (x : EpDesc) → Spells text s → IsBehindHub s x → LeavesTranslator s x → (k : ℕ)
    → IsSparedHub (hub_of s x.hub) (wired (fixed_of s) (moment s k).world)
