-- A request below a hub, where a microframe begins (USB 2.0, 8.5.3, 11.17 and 11.18): if host and device stand to each other as they must,
-- with what the translator has of both directions, so they do after the work of all hubs.
--     RequestHolds            they stand so
--     RequestGoesOn           the law
use Rattle.std.specs.Prelude.{◌≡◌, ◌≤◌, ℕ, Some}
use Rattle.usb_base.specs.declared.packets.Dir.{Dir}
use Rattle.bus_wire.specs.Bus.{Wired, begin_after}
use Rattle.claims_report.specs.Requests.{Request}
use Rattle.law_request.specs.Host.{Endpoint}
use Rattle.law_request.specs.Windows.{IsRequest}
use Rattle.law_devices.specs.request_calls.Bus.{device_of}
use Rattle.law_translated.specs.Lift.{Buffered, Wait, Holds}
use Rattle.law_translated.specs.KeySlots.{KeySlot}
use Rattle.law_translated.specs.KeyEvents.{mapped, with_slot}
use Rattle.law_translated.specs.Windows.{Line, window_halves, window_claims}
use Rattle.law_below_hubs.specs.SeatedControls.{control_at}
use Rattle.law_below_hubs.specs.HubsKeys.{HubsHave, AreRightHubs}
use Rattle.law_below_hubs.specs.ControlAsks.{IsRequestAsk}
use Rattle.law_below_hubs.specs.ControlWork.{control_call, control_answer, control_key}
use Rattle.law_below_hubs.specs.ControlTurns.{turned, RequestWorkOf}

abbrev pub RequestHolds : Endpoint → Request → Line → Wait → KeySlot → KeySlot → Type 0
RequestHolds e r l u s aside =
    Holds (window_halves e r) (window_claims e r) Buffered
    (with_slot (window_halves e r) control_call control_answer l u s (mapped control_call control_answer aside))

pub record RequestGoesOnAs (e : Endpoint) (r : Request) (dir : Dir) (hub place : ℕ) (s aside : KeySlot) (l : Line) (u : Wait) (v : Wired)
    : Type 0 where
  pub work : RequestWorkOf e r dir hub place s aside l u v
  pub holds : RequestHolds e r work.line u work.slot aside

abbrev pub RequestGoesOn : Type 0
RequestGoesOn = (e : Endpoint) (r : Request) (dir : Dir) (hub place frindex : ℕ) (s aside : KeySlot) (l : Line) (u : Wait) (w : Wired)
    → IsRequest r → e.max ≤ 1024
    → HubsHave Buffered (control_key e dir) hub place w.bus.hubs s
    → HubsHave Buffered (control_key e (turned dir)) hub place w.bus.hubs aside
    → AreRightHubs (IsRequestAsk r e.addr e.num) w.bus.hubs
    → control_at w e.addr e.num ≡ Some (device_of e l.window.device)
    → RequestHolds e r l u s aside
    → RequestGoesOnAs e r dir hub place s aside l u (record w { bus = begin_after w.fixed frindex w.bus })
