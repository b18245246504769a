-- The bus below the hub at work, with a record of its transactions.
--     Beneath              that bus as bus_wire has it, and the transactions of the microframe that ended
--     Follower             hubs that are told each transaction of the host with a hub, and that bus
use Rattle.std.specs.Prelude.{ℕ, Bool, List, [], Option, Some, None}
use Rattle.usb_base.specs.declared.packets.Ask.{Ask}
use Rattle.script_types.specs.declared.scripts.FateText.{FateText}
use Rattle.hub_class.specs.HubContent.{HubContent}
use Rattle.bus_wire.specs.declared.seats.Seat.{Seat}
use Rattle.bus_wire.specs.Below.{Below, Floor}
use Rattle.bus_packets.specs.declared.exchanges.Passed.{Passed}

pub record Beneath : Type 0 where
  pub below : Below
  pub passed : List Passed  -- in the order in which they were made

abbrev pub below_of : List Seat → List FateText → Floor → ℕ → List Bool → Below
below_of seats fates floor hub enabled =
    record { fixed = record { seats = seats; fates = fates; holds = [] }; floor = floor; hub = hub; enabled = enabled }

pub record Follower : Type 0 where
  pub hubs : List HubContent
  pub beneath : Beneath
