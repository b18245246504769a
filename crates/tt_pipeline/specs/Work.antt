-- The entries of the pipeline and the work on them (USB 2.0, 11.18).
--     Entry                   a periodic transaction that start-splits of this frame called for
--     called_for e            the byte-times that the starts of e call for, those of the last two microframes apart, with the stuffed bits
--     unstuffed_done e        what the byte-times that were worked come to without stuffed bits
--     used room e             the byte-times that e takes of this room
--     is_due e                the classic transaction of e is made now
use Rattle.std.specs.Prelude.{◌≡◌, ℕ, ◌+◌, ◌-◌, ◌*◌, ◌/◌, min, Bool, true, false, ◌&&◌, nat_le, nat_lt, if◌then◌else◌, List, [], ◌++◌, length, take}
use Rattle.usb_base.specs.declared.packets.Ask.{Ask}
use Rattle.usb_base.specs.declared.packets.EpKind.{EpKind}
use Rattle.usb_base.specs.declared.packets.EpKind.TheVariants.{Iso}
use Rattle.usb_base.specs.declared.packets.DataPart.{DataPart}
use Rattle.usb_base.specs.declared.packets.DataPart.TheVariants.{All, Begin, Middle, End}
use Rattle.usb_base.specs.declared.packets.Pid.{Pid}
use Rattle.usb_base.specs.declared.packets.Pid.TheVariants.{In}
use Rattle.usb_base.specs.declared.packets.Reply.{Reply}
use Rattle.usb_base.specs.declared.packets.Split.{Split}
use Rattle.usb_base.specs.declared.packets.Split.TheVariants.{Start}
use Rattle.usb_base.specs.Limits.{byte_times_of_microframe}
use Rattle.hub_keys.specs.Asks.{classic_of, work_of, stuffed}
use Rattle.hub_keys.specs.Keys.{key_of}
use Rattle.tt_pipeline.specs.declared.entry.Brought.{Brought}
use Rattle.tt_pipeline.specs.declared.entry.Entry.{Entry}
use Rattle.tt_pipeline.specs.declared.entry.Exchange.{Exchange}
use Rattle.tt_pipeline.specs.declared.entry.Exchange.TheVariants.{Ahead, Made}

-- ---- what starts bring

-- only an isochronous OUT comes in parts (USB 2.0, 8.4.2.2)
abbrev pub part_at : EpKind → Pid → Split → DataPart
part_at Iso In _ = All
part_at Iso _ (Start _ _ part) = part
part_at _ _ _ = All

-- the part that a start carries
abbrev pub asked_part : Ask → DataPart
asked_part ask = part_at ask.kind ask.pid ask.split

-- an isochronous OUT
abbrev pub is_iso_out : EpKind → Pid → Bool
is_iso_out Iso In = false
is_iso_out Iso _ = true
is_iso_out _ _ = false

abbrev pub nothing_brought : Brought
nothing_brought = record { parts = 0; bytes = 0; whole = false }

-- one more part, where the number stands at its last value
abbrev pub one_more_part : ℕ → ℕ
one_more_part n = min (n + 1) 4294967295

abbrev pub with_part : ℕ → Brought → Brought
with_part n b = record b { parts = one_more_part b.parts; bytes = b.bytes + n }

abbrev pub with_last : ℕ → Brought → Brought
with_last n b = record b { bytes = b.bytes + n; whole = true }

-- after a part with n bytes
abbrev pub brought_by : DataPart → ℕ → Brought → Brought
brought_by All n b = with_last n b
brought_by Begin n b = with_part n b
brought_by Middle n b = with_part n b
brought_by End n b = with_last n b

-- the entry that a start makes, whose bytes stuffed bits make longer by this number in 36 (7.1.9)
abbrev pub fresh : Ask → List ℕ → ℕ → Entry
fresh ask bytes stuff = record {
  key = key_of ask;
  ask = ask;
  came = brought_by (asked_part ask) (length bytes) nothing_brought;
  before = nothing_brought;
  heard = nothing_brought;
  done = 0;
  exchange = Ahead bytes;
  delivered = 0;
  ended = false;
  stuff = stuff;
}

-- bytes join those that aren't sent yet, as far as a packet of 1,024 bytes goes
abbrev pub appended : List ℕ → Exchange → Exchange
appended bytes (Ahead sent) = Ahead (sent ++ take (1024 - length sent) bytes)
appended bytes (Made reply) = Made reply

-- the entry that a later part joins
abbrev pub joined : Ask → List ℕ → Entry → Entry
joined ask bytes e = record e {
  came = brought_by (asked_part ask) (length bytes) e.came;
  exchange = appended bytes e.exchange;
}

-- ---- the work of one microframe

-- at the begin of a microframe: what is worked lags by two microframes
abbrev pub aged : Entry → Entry
aged e = record e { heard = e.before; before = e.came }

-- the byte-times that starts call for: 188 for each part that isn't the last, and with the last part those of the
-- whole transaction (USB 2.0, 11.18.4)
abbrev pub called : Ask → Brought → ℕ
called ask b = if b.whole then work_of ask b.bytes else byte_times_of_microframe * b.parts

-- the byte-times that an entry calls for, but for its stuffed bits
abbrev pub called_unstuffed : Entry → ℕ
called_unstuffed e = called e.ask e.heard

abbrev pub called_for : Entry → ℕ
called_for e = stuffed (called_unstuffed e) e.stuff

-- rounded down; nothing where nothing is called for
abbrev pub unstuffed_done : Entry → ℕ
unstuffed_done e = e.done * called_unstuffed e / called_for e

-- the byte-times that an entry takes of the room that is left in the microframe
abbrev pub used : ℕ → Entry → ℕ
used room e = min room (called_for e - e.done)

abbrev pub progressed : ℕ → Entry → Entry
progressed room e = record e { done = e.done + used room e }

-- an isochronous OUT is due once its last part came and all that it calls for was worked, any other with the first
-- byte-time
abbrev pub is_ripe : Bool → Entry → Bool
is_ripe true e = e.heard.whole && nat_le (called_for e) e.done
is_ripe false e = nat_lt 0 e.done

abbrev pub is_ahead : Exchange → Bool
is_ahead (Ahead _) = true
is_ahead (Made _) = false

-- the classic transaction is made now
abbrev pub is_due : Entry → Bool
is_due e = is_ahead e.exchange && is_ripe (is_iso_out e.ask.kind e.ask.pid) e

abbrev pub sent_at : ℕ → Exchange → List ℕ
sent_at n (Ahead sent) = take n sent
sent_at n (Made _) = []

-- the bytes that the classic transaction sends
abbrev pub sent_of : Entry → List ℕ
sent_of e = sent_at e.heard.bytes e.exchange

-- what happens on the wire where the transaction is due or not
abbrev pub Asks : {W : Type 0} → (W → Ask → List ℕ → Reply → W → Type 0) → Bool → Entry → W → Reply → W → Type 0
Asks transacts true e before reply after = transacts before (classic_of e.ask) (sent_of e) reply after
Asks transacts false e before reply after = after ≡ before

abbrev pub answered : Bool → Reply → Entry → Entry
answered true reply e = record e { exchange = Made reply }
answered false reply e = e

-- the entry once it has aged and taken its byte-times
abbrev pub moved : ℕ → Entry → Entry
moved room e = progressed room (aged e)

-- an entry's turn in a microframe
pub record Turn {W : Type 0} (transacts : W → Ask → List ℕ → Reply → W → Type 0) (room : ℕ) (e : Entry) (before after : W) (new : Entry) : Type 0 where
  pub reply : Reply  -- what was heard, where the transaction was made
  pub asks : Asks transacts (is_due (moved room e)) (moved room e) before reply after
  pub becomes : new ≡ answered (is_due (moved room e)) reply (moved room e)
