-- A transaction with whoever is asked, the same on the high-speed bus and on the bus below a translator (USB 2.0, 8.5, 8.6 and 11.17).
--     losses_of            which of its packets don't get through
--     row_for              who heard what, where this is the answer
--     device_after ..      what a device, endpoint 0 of a hub, and a translator are left as
use Rattle.std.specs.Prelude.{ℕ, ◌+◌, ◌-◌, ◌||◌, Bool, List, Option, Some, None, slice_get, slice_set}
use Rattle.usb_base.specs.Acknowledgement.{acknowledges}
use Rattle.usb_base.specs.declared.packets.Ask.{Ask}
use Rattle.usb_base.specs.declared.packets.Reply.{Reply}
use Rattle.usb_base.specs.declared.packets.Reply.TheVariants.{Silent}
use Rattle.script_types.specs.declared.scripts.FateText.{FateText}
use Rattle.endpoint_script.specs.Device.{Device, answer_of, answered, acked_by}
use Rattle.hub_class.specs.HubContent.{HubContent}
use Rattle.hub_class.specs.EndpointZero.{hub_reply, hub_answered, hub_acked}
use Rattle.hub_class.specs.Translating.{transact_reply, transacted}
use Rattle.bus_wire.specs.declared.asked.Asked.{Asked}
use Rattle.bus_wire.specs.declared.asked.Losses.{Losses}
use Rattle.bus_wire.specs.declared.who_heard.WhoHeard.{WhoHeard}
use Rattle.bus_wire.specs.Fates.{is_unheard}
use Rattle.bus_wire.specs.WhoHeard.{who_heard, packets_before, packets_of, is_answer, left_by, later}

-- ---- packets

-- the packet some packets later is lost or damaged
abbrev pub unheard_later : List FateText → Bool → Asked → ℕ → Bool
unheard_later fates below e n = is_unheard fates e.name below (later e.packet n)

-- Which packets of a transaction are unheard, where so many are sent before the answer: the token or the data right behind it; the answer; its
-- acknowledgement.
abbrev pub losses_of : List FateText → Bool → Asked → ℕ → Losses
losses_of fates below e sent = record {
  sent = unheard_later fates below e 0 || unheard_later fates below e (sent - 1);
  answer = unheard_later fates below e sent;
  acknowledgement = unheard_later fates below e (sent + 1);
}

-- the number of the endpoint's next packet
abbrev pub packet_after : WhoHeard → Asked → Ask → ℕ
packet_after row e ask = later e.packet (packets_of row (packets_before ask))

-- ---- who heard what, and what that leaves

-- who heard what, where this is the answer
abbrev pub row_for : Losses → Ask → Reply → WhoHeard
row_for losses ask answer = who_heard losses.sent (is_answer answer) losses.answer (acknowledges ask answer) losses.acknowledgement

-- what a device is left as
abbrev pub device_after : WhoHeard → Ask → List ℕ → Device → Device
device_after row ask out d = left_by row d (answered d ask out) (acked_by (answered d ask out) ask)

-- what a hub is left as whose endpoint 0 was asked
abbrev pub hub_after : WhoHeard → Ask → List ℕ → HubContent → HubContent
hub_after row ask out h = left_by row h (hub_answered ask out h) (hub_acked ask (hub_answered ask out h))

-- what a hub is left as whose translator was asked for an endpoint of this number of stuffed bits; what it answers has no acknowledgement
abbrev pub translator_after : WhoHeard → Ask → List ℕ → ℕ → HubContent → HubContent
translator_after row ask out stuff h = left_by row h (transacted ask out stuff h) (transacted ask out stuff h)

-- ---- at a place

-- the answer of the one at a place; there is none where nobody stands there
abbrev pub device_answer : Option Device → Ask → List ℕ → Reply
device_answer None ask out = Silent
device_answer (Some d) ask out = answer_of d ask out

abbrev pub hub_answer : Option HubContent → Ask → List ℕ → Reply
hub_answer None ask out = Silent
hub_answer (Some h) ask out = hub_reply ask out h

abbrev pub translator_answer : Option HubContent → Ask → Reply
translator_answer None ask = Silent
translator_answer (Some h) ask = transact_reply ask h

-- the list with the one at a place changed, if one stands there
abbrev pub put_at : {X : Type 0} → Option X → ℕ → (X → X) → List X → List X
put_at None place f xs = xs
put_at (Some x) place f xs = slice_set xs place (f x)

abbrev pub changed_at : {X : Type 0} → ℕ → (X → X) → List X → List X
changed_at place f xs = put_at (slice_get xs place) place f xs
