-- A bulk or interrupt OUT endpoint (USB 2.0, 8.5.1, 8.5.2, 8.5.4 and 8.6): what an OUT or a PING meets, what is answered and left.
use Rattle.std.specs.Prelude.{ℕ, ◌+◌, Bool, true, false, not, IsTrue, ⊤, nat_le, List, [], ◌∷◌, ◌++◌, length}
use Rattle.usb_base.specs.declared.packets.Ask.{Ask}
use Rattle.usb_base.specs.declared.packets.Pid.{Pid}
use Rattle.usb_base.specs.declared.packets.Pid.TheVariants as Pids
use Rattle.usb_base.specs.declared.packets.Reply.{Reply}
use Rattle.usb_base.specs.declared.packets.Reply.TheVariants.{Hand}
use Rattle.usb_base.specs.declared.packets.Speed.{Speed}
use Rattle.usb_base.specs.declared.packets.Speed.TheVariants.{High}
use Rattle.script_types.specs.declared.devices.Item.{Item}
use Rattle.script_types.specs.declared.devices.Item.TheVariants.{Nak, Nyet, Stall}
use Rattle.dev_control.specs.declared.rows.Sequence.{Sequence}
use Rattle.dev_control.specs.declared.rows.Sequence.TheVariants.{Next}
use Rattle.dev_control.specs.Stages.{sequence_of}
use Rattle.endpoint_script.specs.Items.{nak_given, rest_of}
use Rattle.endpoint_script.specs.declared.rows.TakeRow.{TakeRow}
use Rattle.endpoint_script.specs.declared.rows.TakeRow.TheVariants.{Drops, Naks, IsFull, Stalls, Takes, TakesLast, HasRoom}

pub record Taking : Type 0 where
  pub items : List Item  -- the items that are left
  pub toggle : Bool  -- the toggle of the data packet that it expects
  pub taken : List ℕ  -- the bytes that it took, in order
  pub room : ℕ  -- how many bytes it has room for in all

-- before the first OUT
abbrev pub taking_at : List Item → ℕ → Taking
taking_at items room = record { items = items; toggle = false; taken = []; room = room }

-- The table for data that it expects, by the item that stands and by whether there is room for them; past the end, or at an item
-- of another kind of endpoint, they are taken.
abbrev pub next_row : List Item → Bool → TakeRow
--       item        fits
next_row (Nak _ ∷ _) _ = Naks
next_row (Stall ∷ _) _ = Stalls
next_row (Nyet ∷ _) true = TakesLast
next_row _ true = Takes
next_row _ false = IsFull

-- data with another PID than the one that it expects were taken before
abbrev pub out_row : Sequence → List Item → Bool → TakeRow
out_row Next items fits = next_row items fits
out_row _ items fits = Drops

-- the table for a PING
abbrev pub ping_row : List Item → TakeRow
ping_row (Nak _ ∷ _) = Naks
ping_row (Stall ∷ _) = Stalls
ping_row _ = HasRoom

-- there is room for n more bytes
abbrev pub has_room : Taking → ℕ → Bool
has_room t n = nat_le (length t.taken + n) t.room

abbrev pub is_ping : Pid → Bool
is_ping Pids.Ping = true
is_ping _ = false

abbrev pub take_row : Bool → Taking → Sequence → ℕ → TakeRow
take_row true t sequence n = ping_row t.items
take_row false t sequence n = out_row sequence t.items (has_room t n)

-- what it does at an ask that sends these bytes
abbrev pub taking_row : Taking → Ask → List ℕ → TakeRow
taking_row t ask out = take_row (is_ping ask.pid) t (sequence_of t.toggle ask.toggle) (length out)

-- the handshake of data that are the last for now: NYET stands at high speed alone
abbrev pub last_hand : Speed → Reply
last_hand High = Hand Pids.Nyet
last_hand _ = Hand Pids.Ack

abbrev pub row_reply : Speed → TakeRow → Reply
row_reply speed Drops = Hand Pids.Ack
row_reply speed Naks = Hand Pids.Nak
row_reply speed IsFull = Hand Pids.Nak
row_reply speed Stalls = Hand Pids.Stall
row_reply speed Takes = Hand Pids.Ack
row_reply speed TakesLast = last_hand speed
row_reply speed HasRoom = Hand Pids.Ack

abbrev pub took : List ℕ → Taking → Taking
took out t = record t { taken = t.taken ++ out; toggle = not t.toggle }

abbrev pub after_taking_row : TakeRow → List ℕ → Taking → Taking
after_taking_row Drops out t = t
after_taking_row Naks out t = record t { items = nak_given t.items }
after_taking_row IsFull out t = t
after_taking_row Stalls out t = t
after_taking_row Takes out t = took out t
after_taking_row TakesLast out t = record (took out t) { items = rest_of t.items }
after_taking_row HasRoom out t = t

-- data are taken only where there is room for them
abbrev pub HasRoomIfTaken : TakeRow → Bool → Type 0
HasRoomIfTaken Takes fits = IsTrue fits
HasRoomIfTaken TakesLast fits = IsTrue fits
HasRoomIfTaken _ fits = ⊤

abbrev pub taking_reply : Speed → Taking → Ask → List ℕ → Reply
taking_reply speed t ask out = row_reply speed (taking_row t ask out)

abbrev pub taking_answered : Taking → Ask → List ℕ → Taking
taking_answered t ask out = after_taking_row (taking_row t ask out) out t
