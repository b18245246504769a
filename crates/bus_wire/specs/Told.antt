-- What went over the high-speed bus in one transaction.
--     told_of fixed b ask out       which endpoint was asked, which of its packets were unheard, who heard what
--     answer_told fixed b ask out   what was answered, whether the asker heard it or not
use Rattle.std.specs.Prelude.{ℕ, false, List, Option, Some, None}
use Rattle.std.specs.Option.{option_map}
use Rattle.usb_base.specs.declared.packets.Ask.{Ask}
use Rattle.usb_base.specs.declared.packets.Reply.{Reply}
use Rattle.usb_base.specs.declared.packets.Reply.TheVariants.{Silent}
use Rattle.bus_wire.specs.declared.asked.Asked.{Asked}
use Rattle.bus_wire.specs.declared.told.Told.{Told}
use Rattle.bus_wire.specs.WhoHeard.{answer_sent, packets_before}
use Rattle.bus_wire.specs.Asking.{losses_of}
use Rattle.bus_wire.specs.Bus.{Fixed, Bus, asked_of, bus_row, answer_by}

abbrev pub told_at : Fixed → Bus → Ask → List ℕ → Asked → Told
told_at fixed b ask out e = record { asked = e; losses = losses_of fixed.fates false e (packets_before ask); row = bus_row fixed b e ask out }

abbrev pub told_of : Fixed → Bus → Ask → List ℕ → Option Told
told_of fixed b ask out = option_map (told_at fixed b ask out) (asked_of fixed b ask)

abbrev pub answer_at : Fixed → Bus → Ask → List ℕ → Option Asked → Reply
answer_at fixed b ask out None = Silent
answer_at fixed b ask out (Some e) = answer_sent (bus_row fixed b e ask out) (answer_by b e.who ask out)

abbrev pub answer_told : Fixed → Bus → Ask → List ℕ → Reply
answer_told fixed b ask out = answer_at fixed b ask out (asked_of fixed b ask)
