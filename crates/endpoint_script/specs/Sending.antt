-- A bulk or interrupt IN endpoint (USB 2.0, 8.5.2, 8.5.4 and 8.6): what an IN meets, item by item, what is answered and left.
use Rattle.std.specs.Prelude.{Bool, false, not, List, ◌∷◌}
use Rattle.usb_base.specs.declared.packets.Pid.TheVariants as Pids
use Rattle.usb_base.specs.declared.packets.Reply.{Reply}
use Rattle.usb_base.specs.declared.packets.Reply.TheVariants as Replies
use Rattle.script_types.specs.declared.devices.Item.{Item}
use Rattle.script_types.specs.declared.devices.Item.TheVariants.{Bytes, Nak, Stall}
use Rattle.dev_control.specs.Stages.{data_pid}
use Rattle.endpoint_script.specs.Items.{nak_given}

pub record Sending : Type 0 where
  pub items : List Item  -- the items that are left
  pub toggle : Bool  -- the toggle of the next data packet

-- before the first IN
abbrev pub sending_at : List Item → Sending
sending_at items = record { items = items; toggle = false }

-- The answer: a packet, one of so many NAKs, STALL for good; past the end, or at an item of another kind of endpoint, NAK.
abbrev pub sent_reply : Bool → List Item → Reply
sent_reply toggle (Bytes bytes ∷ _) = Replies.Bytes (data_pid toggle) bytes
sent_reply toggle (Nak _ ∷ _) = Replies.Hand Pids.Nak
sent_reply toggle (Stall ∷ _) = Replies.Hand Pids.Stall
sent_reply toggle _ = Replies.Hand Pids.Nak

abbrev pub sending_reply : Sending → Reply
sending_reply s = sent_reply s.toggle s.items

-- what an answer leaves: a packet stays until the host's acknowledgement is heard
abbrev pub sending_answered : Sending → Sending
sending_answered s = record s { items = nak_given s.items }

-- The host's acknowledgement moves on to the next item and flips the toggle.
abbrev pub acked_at : List Item → Sending → Sending
acked_at (Bytes _ ∷ items) s = record { items = items; toggle = not s.toggle }
acked_at _ s = s

abbrev pub sending_acked : Sending → Sending
sending_acked s = acked_at s.items s
