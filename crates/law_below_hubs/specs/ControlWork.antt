-- The work of hubs where a microframe begins, as a control endpoint below one of them sees it (USB 2.0, 8.5.3, 11.17 and 11.18): a few
-- events of the machine of its request, in the direction that the host asks in.
--     IsInTurn                all that is asked of the endpoint is asked in this direction
--     AnswerFits              data that the translator acknowledges are data that the host could take
--     IsWorked e s l m        the device makes the transaction that is asked, or none
--     ControlWorkIsEvents     the law
use Rattle.std.specs.Prelude.{◌≡◌, ◌≢◌, ℕ, false, length, Some}
use Rattle.usb_base.specs.Acknowledgement.{acknowledges}
use Rattle.usb_base.specs.declared.packets.Ask.{Ask}
use Rattle.usb_base.specs.declared.packets.Dir.{Dir}
use Rattle.usb_base.specs.declared.packets.EpKind.TheVariants as Kinds
use Rattle.usb_base.specs.declared.packets.Reply.{Reply}
use Rattle.usb_base.specs.declared.packets.Speed.TheVariants.{High}
use Rattle.usb_base.specs.declared.packets.Split.TheVariants.{Plain}
use Rattle.dev_control.specs.declared.rows.StageToken.TheVariants as Tokens
use Rattle.dev_control.specs.Stages.{token_of}
use Rattle.transactions.specs.Calls.{Call}
use Rattle.hub_keys.specs.Asks.{classic_of}
use Rattle.hub_keys.specs.Keys.{direction_of}
use Rattle.hub_keys.specs.declared.key.Key.{Key}
use Rattle.tt_bulk.specs.Contents.{Taken}
use Rattle.bus_wire.specs.declared.who_heard.WhoHeard.{WhoHeard}
use Rattle.bus_wire.specs.Bus.{Wired, begin_after}
use Rattle.claims_report.specs.Requests.{Request}
use Rattle.law_request.specs.Host.{Endpoint}
use Rattle.law_request.specs.Line.{answer_of}
use Rattle.law_devices.specs.request_calls.Bus.{device_of}
use Rattle.law_translated.specs.Lift.{Buffered, Wait, Slot, Empty, Asked, Hidden, There, Told, Run}
use Rattle.law_translated.specs.KeySlots.{KeySlot}
use Rattle.law_translated.specs.KeyEvents.{with_slot}
use Rattle.law_translated.specs.Windows.{Line, worked, window_halves}
use Rattle.law_below_hubs.specs.SeatedControls.{control_at}
use Rattle.law_below_hubs.specs.HubsKeys.{HubsHave, AreRightHubs}

-- the start as the request's host would ask without a translator
abbrev pub control_call : Taken → Call
control_call a = record { ask = record a.ask { split = Plain; speed = High }; out = a.packet; sent = length a.packet; last = false }

abbrev pub control_answer : Reply → Reply
control_answer r = r

abbrev pub control_key : Endpoint → Dir → Key
control_key e dir = record { addr = e.addr; ep = e.num; dir = dir; kind = Kinds.Control }

pub record IsByKey (k : Key) (ask : Ask) : Type 0 where
  pub dir : direction_of ask.pid ≡ k.dir
  pub kind : ask.kind ≡ k.kind
  pub token : token_of ask.pid ≢ Tokens.Other

abbrev pub IsInTurn : Key → Ask → Type 0
IsInTurn k ask = ask.addr ≡ k.addr → ask.ep ≡ k.ep → IsByKey k ask

-- a translator acknowledges up to 1,024 bytes, and the host up to its limit
abbrev pub IsFit : Endpoint → Taken → Line → Type 0
IsFit e a l =
    acknowledges (classic_of a.ask) (answer_of e a.ask a.packet l.window.device)
    ≡ acknowledges (control_call a).ask (answer_of e a.ask a.packet l.window.device)

abbrev pub AnswerFits : Endpoint → KeySlot → Line → Type 0
AnswerFits e Empty l = Unit {0}
AnswerFits e (Asked a) l = IsFit e a l
AnswerFits e (Hidden a r) l = Unit {0}
AnswerFits e (There a r) l = Unit {0}
AnswerFits e (Told a r) l = Unit {0}

-- whoever hears what of it
pub data IsWorked (e : Endpoint) (s : KeySlot) (l : Line) : Line → Type 0 where
  rests : IsWorked e s l l
  makes : (a : Taken) (row : WhoHeard) → s ≡ Asked a → IsWorked e s l (worked e row (control_call a) l)

-- ---- the law

pub record ControlWorkOf (e : Endpoint) (r : Request) (dir : Dir) (hub place : ℕ) (s : KeySlot) (l : Line) (u : Wait)
    (aside : Slot Call Reply) (v : Wired) : Type 0 where
  pub line : Line
  pub works : IsWorked e s l line
  pub slot : KeySlot
  pub control : control_at v e.addr e.num ≡ Some (device_of e line.window.device)
  pub has : HubsHave Buffered (control_key e dir) hub place v.bus.hubs slot
  pub right : AreRightHubs (IsInTurn (control_key e dir)) v.bus.hubs
  pub run : Run (window_halves e r) Buffered (with_slot (window_halves e r) control_call control_answer l u s aside)
      (with_slot (window_halves e r) control_call control_answer line u slot aside)

-- whatever else the hubs do
abbrev pub ControlWorkIsEvents : Type 0
ControlWorkIsEvents = (e : Endpoint) (r : Request) (dir : Dir) (hub place frindex : ℕ) (s : KeySlot) (l : Line) (u : Wait)
    (aside : Slot Call Reply) (w : Wired)
    → HubsHave Buffered (control_key e dir) hub place w.bus.hubs s → AreRightHubs (IsInTurn (control_key e dir)) w.bus.hubs
    → AnswerFits e s l → control_at w e.addr e.num ≡ Some (device_of e l.window.device)
    → ControlWorkOf e r dir hub place s l u aside (record w { bus = begin_after w.fixed frindex w.bus })
