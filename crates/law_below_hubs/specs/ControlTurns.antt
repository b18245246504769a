-- Both directions of a control endpoint below a hub, where a microframe begins (USB 2.0, 8.5.3, 11.17 and 11.18): the host asks in one, and
-- what the translator has of the other one was told before, or is nothing.
--     turned                  the other direction
--     QuietIsInTurn           where that is so, all that is asked of the endpoint is asked in the host's direction
--     RequestWorkIsEvents     the work of hubs over the request's two slots
use Rattle.std.specs.Prelude.{◌≡◌, ℕ, List, Some}
use Rattle.usb_base.specs.declared.packets.Dir.{Dir}
use Rattle.usb_base.specs.declared.packets.Dir.TheVariants as Directions
use Rattle.hub_class.specs.HubContent.{HubContent}
use Rattle.bus_wire.specs.Bus.{Wired, begin_after}
use Rattle.claims_report.specs.Requests.{Request}
use Rattle.law_request.specs.Host.{Endpoint}
use Rattle.law_devices.specs.request_calls.Bus.{device_of}
use Rattle.law_translated.specs.Lift.{Buffered, Wait, IsQuiet, Run}
use Rattle.law_translated.specs.KeySlots.{KeySlot}
use Rattle.law_translated.specs.KeyEvents.{mapped, with_slot}
use Rattle.law_translated.specs.Windows.{Line, window_halves}
use Rattle.law_below_hubs.specs.SeatedControls.{control_at}
use Rattle.law_below_hubs.specs.HubsKeys.{HubsHave, AreRightHubs}
use Rattle.law_below_hubs.specs.ControlAsks.{IsRequestAsk}
use Rattle.law_below_hubs.specs.ControlWork.{control_call, control_answer, control_key, IsInTurn, AnswerFits, IsWorked}

abbrev pub turned : Dir → Dir
turned Directions.In = Directions.Out
turned Directions.Out = Directions.In

abbrev pub QuietIsInTurn : Type 0
QuietIsInTurn = (e : Endpoint) (r : Request) (dir : Dir) (hub place : ℕ) (aside : KeySlot) (hubs : List HubContent)
    → HubsHave Buffered (control_key e (turned dir)) hub place hubs aside → IsQuiet aside
    → AreRightHubs (IsRequestAsk r e.addr e.num) hubs → AreRightHubs (IsInTurn (control_key e dir)) hubs

-- ---- the law

pub record RequestWorkOf (e : Endpoint) (r : Request) (dir : Dir) (hub place : ℕ) (s aside : KeySlot) (l : Line) (u : Wait) (v : Wired)
    : Type 0 where
  pub line : Line
  pub works : IsWorked e s l line
  pub slot : KeySlot
  pub control : control_at v e.addr e.num ≡ Some (device_of e line.window.device)
  pub has : HubsHave Buffered (control_key e dir) hub place v.bus.hubs slot
  pub other : HubsHave Buffered (control_key e (turned dir)) hub place v.bus.hubs aside
  pub right : AreRightHubs (IsRequestAsk r e.addr e.num) v.bus.hubs
  pub run : Run (window_halves e r) Buffered
      (with_slot (window_halves e r) control_call control_answer l u s (mapped control_call control_answer aside))
      (with_slot (window_halves e r) control_call control_answer line u slot (mapped control_call control_answer aside))

-- whatever else the hubs do
abbrev pub RequestWorkIsEvents : Type 0
RequestWorkIsEvents = (e : Endpoint) (r : Request) (dir : Dir) (hub place frindex : ℕ) (s aside : KeySlot) (l : Line) (u : Wait) (w : Wired)
    → HubsHave Buffered (control_key e dir) hub place w.bus.hubs s
    → HubsHave Buffered (control_key e (turned dir)) hub place w.bus.hubs aside → IsQuiet aside
    → AreRightHubs (IsRequestAsk r e.addr e.num) w.bus.hubs
    → AnswerFits e s l → control_at w e.addr e.num ≡ Some (device_of e l.window.device)
    → RequestWorkOf e r dir hub place s aside l u (record w { bus = begin_after w.fixed frindex w.bus })
