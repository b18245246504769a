-- A bus with what was recorded of it.
--     Recorded                 the bus, and its record
--     exchange_of w ask out    the transaction that an ask makes: who heard what by the bus's own table, and what became of each packet
use Rattle.std.specs.Prelude.{◌≡◌, ℕ, ◌+◌, ◌-◌, ◌==◌, ◌&&◌, Bool, false, List, [], length, find, Option, Some, None}
use Rattle.std.specs.Option.{option_map}
use Rattle.usb_base.specs.declared.packets.Ask.{Ask}
use Rattle.usb_base.specs.declared.packets.Fate.{Fate}
use Rattle.usb_base.specs.declared.packets.Fate.TheVariants.{Good}
use Rattle.usb_base.specs.declared.packets.Reply.{Reply}
use Rattle.usb_base.specs.declared.packets.Reply.TheVariants as replies
use Rattle.usb_base.specs.declared.endpoints.EpName.{EpName}
use Rattle.script_types.specs.declared.scripts.FateText.{FateText}
use Rattle.bus_wire.specs.declared.told.Told.{Told}
use Rattle.bus_wire.specs.Bus.{Wired, begin_after, is_allowed, reply_of, transact_after}
use Rattle.bus_wire.specs.Fates.{is_against}
use Rattle.bus_wire.specs.Resets.{bus_reset}
use Rattle.bus_wire.specs.Told.{told_of, answer_told}
use Rattle.bus_wire.specs.WhoHeard.{packets_before, later}
use Rattle.bus_packets.specs.declared.exchanges.Answer.{Answer}
use Rattle.bus_packets.specs.declared.exchanges.Answer.TheVariants as answers
use Rattle.bus_packets.specs.declared.exchanges.Exchange.{Exchange}
use Rattle.bus_packets.specs.declared.exchanges.Fates.{Fates}

pub record Recorded : Type 0 where
  pub wired : Wired
  pub exchange : Option Exchange  -- of the last transaction
  pub sent : List ℕ  -- the bytes that the host sent in it
  pub got : List ℕ  -- the bytes of the data that came in answer, heard or not
  pub allowed : Bool  -- the bus may be used in the microframe that began last

abbrev pub answer_in : Reply → Answer
answer_in replies.Silent = answers.Nothing
answer_in (replies.Bytes pid bytes) = answers.Data pid (length bytes)
answer_in (replies.Hand pid) = answers.Handshake pid

abbrev pub bytes_in : Reply → List ℕ
bytes_in replies.Silent = []
bytes_in (replies.Bytes pid bytes) = bytes
bytes_in (replies.Hand pid) = []

-- what the script says of packet k of an endpoint, below a translator or on the high-speed bus; an endpoint has at most one line a packet
unfoldable pub speaks_of : EpName → Bool → ℕ → FateText → Bool
speaks_of name below k f = is_against name below f && f.k == k

abbrev pub fate_by : Option FateText → Fate
fate_by None = Good
fate_by (Some f) = f.fate

abbrev pub fate_of : List FateText → EpName → Bool → ℕ → Fate
fate_of fates name below k = fate_by (find (speaks_of name below k) fates)

-- what becomes of the packets of a transaction, of which so many are sent before the answer
abbrev pub fates_of : List FateText → EpName → Bool → ℕ → ℕ → Fates
fates_of fates name below k sent = record {
  token = fate_of fates name below k;
  «data» = fate_of fates name below (later k (sent - 1));
  answer = fate_of fates name below (later k sent);
  acknowledgement = fate_of fates name below (later k (sent + 1));
}

abbrev pub exchange_in : List FateText → Ask → List ℕ → Reply → Told → Exchange
exchange_in fates ask out answer told = record {
  ask = ask;
  sent = length out;
  told = told;
  answer = answer_in answer;
  fates = fates_of fates told.asked.name false told.asked.packet (packets_before ask);
}

abbrev pub exchange_of : Wired → Ask → List ℕ → Option Exchange
exchange_of w ask out = option_map (exchange_in w.fixed.fates ask out (answer_told w.fixed w.bus ask out)) (told_of w.fixed w.bus ask out)

-- ---- the two calls of the wire: it answers and leaves what the bus does, and records it

abbrev pub begun : ℕ → Recorded → Recorded
begun frindex w = record w {
  wired = record w.wired { bus = begin_after w.wired.fixed frindex w.wired.bus };
  allowed = is_allowed w.wired.fixed w.wired.bus;
}

abbrev pub BeginsIn : Recorded → ℕ → Bool → Recorded → Type 0
BeginsIn w frindex allowed v = (allowed ≡ is_allowed w.wired.fixed w.wired.bus) × (v ≡ begun frindex w)

abbrev pub transacted : Ask → List ℕ → Recorded → Recorded
transacted ask out w = record w {
  wired = record w.wired { bus = transact_after w.wired.fixed w.wired.bus ask out };
  exchange = exchange_of w.wired ask out;
  sent = out;
  got = bytes_in (answer_told w.wired.fixed w.wired.bus ask out);
}

abbrev pub TransactsIn : Recorded → Ask → List ℕ → Reply → Recorded → Type 0
TransactsIn w ask out reply v = (reply ≡ reply_of w.wired.fixed w.wired.bus ask out) × (v ≡ transacted ask out w)

-- with no transaction recorded
abbrev pub forgotten : Recorded → Recorded
forgotten w = record w { exchange = None }

-- once an endpoint is reset
abbrev pub reset_recorded : EpName → Recorded → Recorded
reset_recorded name w = record w { wired = record w.wired { bus = bus_reset name w.wired.bus } }
