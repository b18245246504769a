-- One microframe of an isochronous transfer descriptor (EHCI 1.0, 3.3 and 4.7.1; USB 2.0, 5.9.2).
--     packets_of v s         how many packets the microframe s of the descriptor v moves: an OUT has as many as its bytes need, an IN
--                            at most Multi
--     fetched_itd a u v      the copy of the descriptor at a in microframe u
--     itd_transaction h      its next transaction
--     heard_in h reply       what an IN heard
--     after_in h reply       the copy after an IN had this reply
--     after_out h            the copy after an OUT, to which nothing answers
use Rattle.std.specs.Prelude.{◌≡◌, ℕ, ◌+◌, ◌-◌, ◌*◌, ◌/◌, ◌%◌, ◌<◌, ◌≤◌, min, max, Bool, true, ◌==◌, nat_le, nat_lt, Option, None, Some, length, if◌then◌else◌}
use Rattle.usb_base.specs.Cost.{bus_time}
use Rattle.usb_base.specs.declared.packets.Ask.{Ask}
use Rattle.usb_base.specs.declared.packets.Dir.TheVariants as Directions
use Rattle.usb_base.specs.declared.packets.EpKind.TheVariants.{Iso}
use Rattle.usb_base.specs.declared.packets.Pid.{Pid}
use Rattle.usb_base.specs.declared.packets.Pid.TheVariants.{In, Out, Data0, Data1, Data2, Mdata}
use Rattle.usb_base.specs.declared.packets.Reply.{Reply}
use Rattle.usb_base.specs.declared.packets.Reply.TheVariants.{Bytes}
use Rattle.usb_base.specs.declared.packets.Speed.TheVariants.{High}
use Rattle.usb_base.specs.declared.packets.Split.TheVariants.{Plain}
use Rattle.link_words.specs.Layout.{IsWordInRange}
use Rattle.itd_sitd.specs.declared.itd.Itd.{Itd}
use Rattle.itd_sitd.specs.declared.slot.ItdSlot.{ItdSlot}
use Rattle.itd_sitd.specs.Slot.{slot_rows}
use Rattle.itd_sitd.specs.Itd.{IsItdInRange, slot_of}
use Rattle.hc_iso.specs.declared.held.HeldItd.{HeldItd}
use Rattle.hc_iso.specs.declared.held.IsoTransaction.{IsoTransaction}
use Rattle.hc_iso.specs.declared.held.IsoEnd.TheVariants.{Whole, Failed}
use Rattle.hc_iso.specs.declared.held.Heard.{Heard}
use Rattle.hc_iso.specs.declared.held.Heard.TheVariants.{Packet, TooLong, Wrong}

-- ---- the copy

-- the packets of n bytes, which hold up to this many each
abbrev pub packets_for : ℕ → ℕ → ℕ
packets_for n size = if size == 0 then 0 else (n + size - 1) / size

-- at least one, and at most Multi (3.3.3)
abbrev pub packets_of : Itd → ItdSlot → ℕ
packets_of v s = if v.dir_in then v.multi else max 1 (min v.multi (packets_for s.length v.max))

abbrev pub copy_of_slot : ℕ → ℕ → Itd → ItdSlot → HeldItd
copy_of_slot a u v s = record {
  at = a;
  itd = v;
  number = u;
  slot = s;
  made = 0;
  rest = packets_of v s;
  moved = 0;
  ended = None;
}

unfoldable pub fetched_itd : ℕ → ℕ → Itd → HeldItd
fetched_itd a u v = copy_of_slot a u v (slot_of u v)

-- numbers are in their ranges, and while it isn't ended a packet is to come
pub record IsItdHeld (h : HeldItd) : Type 0 where
  pub aligned : h.at % 32 ≡ 0
  pub range : IsItdInRange h.itd
  pub number : h.number < 8
  pub slot : IsWordInRange slot_rows h.slot
  pub packets : h.made + h.rest ≤ 3
  pub going : h.ended ≡ None → 1 ≤ h.rest
  pub bytes : h.moved ≤ 1024 * h.made
  pub within : h.moved ≤ h.slot.length

-- ---- the transaction that comes next

-- the most bytes that it moves
abbrev pub limit_of : HeldItd → ℕ
limit_of h = min h.itd.max (h.slot.length - h.moved)

-- The data PID of an OUT's packet: MDATA while others come after it, and the last tells how many came before (USB 2.0, 5.9.2).
abbrev pub last_pid : ℕ → Pid
last_pid made = if made == 0 then Data0 else if made == 1 then Data1 else Data2

abbrev pub out_pid : ℕ → ℕ → Pid
out_pid made rest = if nat_lt 1 rest then Mdata else last_pid made

abbrev pub itd_ask : HeldItd → Pid → Pid → Ask
itd_ask h pid toggle = record {
  split = Plain;
  pid = pid;
  addr = h.itd.addr;
  ep = h.itd.ep;
  speed = High;
  kind = Iso;
  toggle = toggle;
  limit = limit_of h;
}

-- an IN is priced at the maximum packet size, an OUT at its bytes (USB 2.0, 5.11.3)
abbrev pub itd_in : HeldItd → IsoTransaction
itd_in h = record { ask = itd_ask h In Data0; bytes = 0; price = record { 0 = bus_time High Iso Directions.In h.itd.max } }

abbrev pub itd_out : HeldItd → IsoTransaction
itd_out h = record { ask = itd_ask h Out (out_pid h.made h.rest); bytes = limit_of h; price = record { 0 = bus_time High Iso Directions.Out (limit_of h) } }

abbrev pub itd_transaction : HeldItd → IsoTransaction
itd_transaction h = if h.itd.dir_in then itd_in h else itd_out h

-- ---- what it heard

-- how many packets come after one with this data PID (USB 2.0, 5.9.2)
abbrev pub number_of : Pid → Option ℕ
number_of Data0 = Some 0
number_of Data1 = Some 1
number_of Data2 = Some 2
number_of _ = None

-- The first packet of the microframe begins anywhere below Multi, and each other one comes next in the count down to DATA0.
abbrev pub is_in_order : HeldItd → ℕ → Bool
is_in_order h k = if h.made == 0 then nat_lt k h.rest else k + 1 == h.rest

abbrev pub heard_numbered : HeldItd → ℕ → Option ℕ → Heard
heard_numbered h n None = Wrong
heard_numbered h n (Some k) = if is_in_order h k then (if nat_le n (limit_of h) then Packet k n else TooLong) else Wrong

abbrev pub heard_in : HeldItd → Reply → Heard
heard_in h (Bytes pid bytes) = heard_numbered h (length bytes) (number_of pid)
heard_in h _ = Wrong

-- ---- the copy after it (4.7.1): nothing is repeated

abbrev pub with_packet : HeldItd → ℕ → ℕ → HeldItd
with_packet h k n = record h { made = h.made + 1; rest = k; moved = h.moved + n; ended = if k == 0 then Some Whole else None }

abbrev pub with_slot : HeldItd → ItdSlot → HeldItd
with_slot h s = record h { made = h.made + 1; rest = h.rest - 1; slot = s; ended = Some Failed }

abbrev pub after_heard : HeldItd → Heard → HeldItd
after_heard h (Packet k n) = with_packet h k n
after_heard h TooLong = with_slot h (record h.slot { babble = true })
after_heard h Wrong = with_slot h (record h.slot { xact_err = true })

unfoldable pub after_in : HeldItd → Reply → HeldItd
after_in h reply = after_heard h (heard_in h reply)

-- the answer to an OUT isn't looked at
unfoldable pub after_out : HeldItd → HeldItd
after_out h = with_packet h (h.rest - 1) (limit_of h)

abbrev pub itd_after : Reply → HeldItd → HeldItd
itd_after reply h = if h.itd.dir_in then after_in h reply else after_out h
