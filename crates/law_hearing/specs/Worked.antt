-- A full-speed bulk IN endpoint behind port 1 of a hub, with one packet of three bytes: what its start-split is answered, and what no bus
-- may hear.
--     IsAnswered           the translator acknowledges the start-split
--     IsLostAbove          where a line says that the first packet on the high-speed bus is lost, nothing is heard
--     SilenceIsWrong       a bus that is silent though no line says so breaks the definition
--     DeafnessToLinesIsWrong   .. and so does one that answers though a line says that the token is lost
use Rattle.std.specs.Prelude.{[], ◌∷◌}
use Rattle.usb_base.specs.declared.packets.Ask.{Ask}
use Rattle.usb_base.specs.declared.packets.DataPart.TheVariants.{All}
use Rattle.usb_base.specs.declared.packets.Pid.TheVariants as pids
use Rattle.usb_base.specs.declared.packets.Reply.TheVariants as replies
use Rattle.usb_base.specs.declared.packets.Split.TheVariants.{Start}
use Rattle.bus_wire.specs.Bus.{Bus, Wired, transact_after}
use Rattle.bus_wire.specs.Samples.{opened, asks, lost_above}
use Rattle.claims_answers.specs.Hearing.{IsHeard}

abbrev pub start_split : Ask
start_split = asks (Start 9 1 All)

abbrev pub quiet : Wired
quiet = opened []

abbrev pub lossy : Wired
lossy = opened (lost_above 0 ∷ [])

abbrev pub IsAnswered : Type 0
IsAnswered = IsHeard quiet.fixed quiet.bus start_split [] (replies.Hand pids.Ack) (transact_after quiet.fixed quiet.bus start_split [])

abbrev pub IsLostAbove : Type 0
IsLostAbove = IsHeard lossy.fixed lossy.bus start_split [] replies.Silent (transact_after lossy.fixed lossy.bus start_split [])

abbrev pub SilenceIsWrong : Type 0
SilenceIsWrong = (after : Bus) → IsHeard quiet.fixed quiet.bus start_split [] replies.Silent after → ⊥

abbrev pub DeafnessToLinesIsWrong : Type 0
DeafnessToLinesIsWrong = (after : Bus) → IsHeard lossy.fixed lossy.bus start_split [] (replies.Hand pids.Ack) after → ⊥
