-- The streams at high speed are right at each moment of a script whose pipes agree, of every kind of endpoint (EHCI 1.0, 4.6 to 4.11;
-- USB 2.0, 5.7, 5.8, 8.5 and 8.6).
--     PipedInsBegin, PipedOutsBegin     what was moved of such an endpoint begins its packets, or what its device took; so does what is
--                                       told of one that was given back
--     IsPipedThroughout s               the pipes of the script's world agree at each moment, and of those that left this is known
--     PipedKeepHigh                     then the streams at high speed are right at each moment of a script that has its names
--     TextsKeepHigh                     so it is of each script that a text spells
--     TextsKeepHighStreams              .. and after its run
use Rattle.std.specs.Prelude.{ℕ, List}
use Rattle.script_types.specs.declared.scripts.Script.{Script}
use Rattle.script_text.specs.Faults.{Spells}
use Rattle.bus_wire.specs.Bus.{fixed_of}
use Rattle.law_devices.specs.opening_senders.Own.{HasOwnDevices}
use Rattle.law_world.specs.memory.Mixed.{Standing}
use Rattle.law_reports.specs.lines.Lined.{Lines}
use Rattle.law_reports.specs.pipes.Declared.{sides_of}
use Rattle.law_reports.specs.pipes.Piped.{Heads, IsFollowed, HasFollowed}
use Rattle.bus_world.specs.Budgets.{moment}
use Rattle.bus_world.specs.World.{World}
use Rattle.claims_world.specs.HighStreams.{KeepsHighThroughout, KeepsHighStreams}
use Rattle.law_reports.specs.pipes.high_streams.Names.{HasItsNames}
use Rattle.law_reports.specs.pipes.high_streams.Reports.{InsBegin, OutsBegin}

abbrev pub PipedInsBegin : Type 0
PipedInsBegin = (s : Script) (t : Standing) (m : Lines) (h : Heads) (w : World) → HasOwnDevices s
    → IsFollowed (fixed_of s) (sides_of s) t m h w → InsBegin s m w

abbrev pub PipedOutsBegin : Type 0
PipedOutsBegin = (s : Script) (t : Standing) (m : Lines) (h : Heads) (w : World) → IsFollowed (fixed_of s) (sides_of s) t m h w
    → OutsBegin s m w

abbrev pub IsPipedThroughout : Script → Type 0
IsPipedThroughout s = (k : ℕ) → HasFollowed (fixed_of s) (sides_of s) (moment s k).world

abbrev pub PipedKeepHigh : Type 0
PipedKeepHigh = (s : Script) → HasItsNames s → IsPipedThroughout s → KeepsHighThroughout s

abbrev pub TextsKeepHigh : Type 0
TextsKeepHigh = (text : List ℕ) (s : Script) → Spells text s → KeepsHighThroughout s

abbrev pub TextsKeepHighStreams : Type 0
TextsKeepHighStreams = (text : List ℕ) (s : Script) → Spells text s → KeepsHighStreams s
