-- Each ask, on the high-speed bus and below a hub, is heard as the lines of the script and the ports of the hub say, and in no other way.
use Rattle.std.specs.Prelude.{◌≡◌, ℕ, List, length}
use Rattle.usb_base.specs.declared.packets.Ask.{Ask}
use Rattle.usb_base.specs.declared.packets.Reply.{Reply}
use Rattle.hub_class.specs.HubContent.{HubContent}
use Rattle.bus_wire.specs.Below.{Floor, below_at, below_reply, below_after}
use Rattle.bus_wire.specs.Bus.{Bus, reply_of, transact_after}
use Rattle.bus_wire.specs.Fixed.{Fixed}
use Rattle.claims_answers.specs.Hearing.{IsHeard, IsHeardBelow}

-- each endpoint has the number of its next packet
abbrev pub AsksAreHeard : Type 0
AsksAreHeard = (fixed : Fixed) (b : Bus) (ask : Ask) (out : List ℕ) → length b.high ≡ length fixed.seats
    → IsHeard fixed b ask out (reply_of fixed b ask out) (transact_after fixed b ask out)

abbrev pub AsksAreHeardBelow : Type 0
AsksAreHeardBelow = (fixed : Fixed) (h : HubContent) (floor : Floor) (ask : Ask) (out : List ℕ) → length floor.numbers ≡ length fixed.seats
    → IsHeardBelow fixed h floor ask out (below_reply (below_at fixed h floor) ask out) (below_after (below_at fixed h floor) ask out).floor

abbrev pub OneThingIsHeard : Type 0
OneThingIsHeard = (fixed : Fixed) (b : Bus) (ask : Ask) (out : List ℕ) (reply other : Reply) (after then : Bus)
    → IsHeard fixed b ask out reply after → IsHeard fixed b ask out other then → (reply ≡ other) × (after ≡ then)
