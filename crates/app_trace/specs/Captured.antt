-- The packets of an event in a capture.
--     begin_of k                 when microframe k began, in picoseconds from the begin of the first
--     entry_packets e passed sent got   the packets that went in an event, each in its block
use Rattle.std.specs.Prelude.{ℕ, ◌+◌, ◌-◌, ◌*◌, Bool, true, false, List, [], ◌++◌, Option, Some, None}
use Rattle.std.specs.List.{flat_map}
use Rattle.usb_base.specs.Limits.{microframe_time}
use Rattle.bus_wire.specs.WhoHeard.{later}
use Rattle.bus_packets.specs.declared.exchanges.Exchange.{Exchange}
use Rattle.bus_packets.specs.declared.exchanges.Passed.{Passed}
use Rattle.bus_packets.specs.Packets.{exchange_record, frame_record}
use Rattle.app_trace_lines.specs.declared.entries.Entry.{Entry}
use Rattle.app_trace_lines.specs.declared.entries.Happening.{Happening}
use Rattle.app_trace_lines.specs.declared.entries.Happening.TheVariants.{Began, Controller, Driver, Offered}

-- a microframe has 125 microseconds (USB 2.0, 8.4.3.1)
abbrev pub begin_of : ℕ → ℕ
begin_of microframe = microframe_time * (microframe - 1)

-- when a transaction began, by its price and what was left behind it
abbrev pub time_of : ℕ → ℕ → ℕ → ℕ
time_of microframe price left = begin_of microframe + (microframe_time - (price + left))

-- a microframe in which the bus may be used begins with a SOF
unfoldable pub began_packets : ℕ → ℕ → Bool → List ℕ
began_packets k index true = frame_record (begin_of k) index
began_packets k index false = []

unfoldable pub made_packets : ℕ → Option Exchange → List ℕ → List ℕ → List ℕ
made_packets time None sent got = []
made_packets time (Some x) sent got = exchange_record time x sent got

unfoldable pub happening_packets : ℕ → ℕ → Happening → List ℕ → List ℕ → List ℕ
happening_packets k index (Began allowed) sent got = began_packets k index allowed
happening_packets k index (Controller step at exchange price left) sent got = made_packets (time_of k price left) exchange sent got
happening_packets k index (Driver row stored) sent got = []
happening_packets k index (Offered line refused) sent got = []

-- those of a transaction below a translator in a microframe that began at this time
unfoldable pub passed_packets : ℕ → Passed → List ℕ
passed_packets ps p = exchange_record (later ps p.time) p.exchange p.sent p.got

-- those of the microframe that ended below come first
unfoldable pub entry_packets : Entry → List Passed → List ℕ → List ℕ → List ℕ
entry_packets e passed sent got =
    flat_map (passed_packets (begin_of (e.microframe - 1))) passed ++ happening_packets e.microframe e.frame_index e.happening sent got
