-- The work of hubs where a microframe begins is a few events of the request of a control endpoint below one of them.
use Rattle.std.proofs.Common.{◌≡◌, ℕ, zero, suc, Bool, true, false, List, [], ◌∷◌, map, slice_get, Option, Some, None, if◌then◌else◌, refl, sym, subst, ap, ◌∙◌}
use Rattle.std.specs.Option.{option_map}
use Rattle.std.proofs.lemmas.Option.{same_Some}
use Rattle.law_devices.proofs.Common2.{named_begun}
use Rattle.usb_base.specs.declared.packets.Ask.{Ask}
use Rattle.usb_base.specs.declared.packets.Dir.{Dir}
use Rattle.usb_base.specs.declared.packets.Reply.{Reply}
use Rattle.usb_base.specs.declared.packets.Way.TheVariants as Ways
use Rattle.endpoint_script.specs.declared.endpoint.Role.{Role}
use Rattle.endpoint_script.specs.Device.{Device, begun, endpoint_begun, part_begun}
use Rattle.transactions.specs.Calls.{Call}
use Rattle.hub_keys.specs.declared.key.Key.{Key}
use Rattle.hub_class.specs.HubContent.{HubContent}
use Rattle.hub_class.specs.Microframe.{wire_left, translators_worked}
use Rattle.multi_tt.specs.Translators.{Translator}
use Rattle.bus_wire.specs.Fixed.{Fixed}
use Rattle.bus_wire.specs.Below.{Floor, Below, below_at, below_reply, below_after, floor_left, hubs_worked, floor_worked}
use Rattle.bus_wire.specs.Bus.{begins_anew, begun_at, floor_of}
use Rattle.claims_report.specs.ControlSides.{Device as Side}
use Rattle.claims_report.specs.Controls.{control_of_part, control_of_device}
use Rattle.claims_report.specs.Requests.{Request}
use Rattle.law_request.specs.Host.{Endpoint}
use Rattle.law_devices.specs.request_calls.Bus.{device_of}
use Rattle.law_devices.proofs.lemmas.scripted_requests.Finding.{IsAtDevice, device_found, device_control}
use Rattle.law_translated.specs.Lift.{Buffered, Wait, Slot, Run}
use Rattle.law_translated.specs.KeySlots.{KeySlot}
use Rattle.law_translated.specs.KeySteps.{Showing}
use Rattle.law_translated.specs.KeySteps.Showing.{stays as shown_stays, shows as shown_shows}
use Rattle.law_translated.specs.KeyEvents.{with_slot}
use Rattle.law_translated.specs.Windows.{Line, window_halves}
use Rattle.law_translated.proofs.HubCalls.{hub_work, asked_at}
use Rattle.law_translated.proofs.KeyEvents.{beside}
use Rattle.law_below_hubs.specs.Raised.{transacts_below}
use Rattle.law_below_hubs.specs.RightAsks.{Rightly}
use Rattle.law_below_hubs.specs.HubsKeys.{HubsHave, AreRightHubs}
use Rattle.law_below_hubs.specs.SeatedControls.{control_in}
use Rattle.law_below_hubs.specs.ControlWork.{control_call, control_answer, control_key, IsInTurn, AnswerFits, IsWorked, ControlWorkIsEvents}
use Rattle.law_below_hubs.proofs.RightAsks.{works_rightly}
use Rattle.law_below_hubs.proofs.Raising.{slice_map}
use Rattle.law_below_hubs.proofs.HubsWork.{hub_made, none_hub, none_hubs}
use Rattle.law_below_hubs.proofs.ControlSeats.{IsControlSeated, control_seated, control_seated_through}
use Rattle.law_below_hubs.proofs.ControlFollows.{ShowsControl, followed, control_follows, turn}

-- ---- devices begin anew

begun_by : (b : Bool) (d : Device) (addr num : ℕ) (s : Side) → IsAtDevice addr num (Some d) s
    → control_of_device addr num (Some (if b then begun d else d)) ≡ Some s
begun_by true d addr num s at =
    let same : at.device ≡ d = sym (same_Some d at.device at.is) in
    subst (λ (x : Device). control_of_device addr num (Some (begun x)) ≡ Some s) same
    (device_control (begun at.device) addr num at.at.place (endpoint_begun at.at.endpoint) at.address
    (named_begun num Ways.In at.device.endpoints ∙ at.no_in) (named_begun num Ways.Out at.device.endpoints ∙ at.no_out)
    (named_begun num Ways.Ctl at.device.endpoints ∙ at.at.is)
    (slice_map endpoint_begun at.device.endpoints at.at.place ∙ ap (option_map endpoint_begun) at.at.here)
    ∙ ap (λ (p : Role). control_of_part (part_begun p)) at.at.part.is ∙ ap (λ (x : Side). Some x) (sym at.at.part.side))
begun_by false d addr num s at =
    ap (control_of_device addr num) at.is
    ∙ device_control at.device addr num at.at.place at.at.endpoint at.address at.no_in at.no_out at.at.is at.at.here
    ∙ ap control_of_part at.at.part.is ∙ ap (λ (x : Side). Some x) (sym at.at.part.side)

begun_from : (frindex : ℕ) (o : Option Device) (addr num : ℕ) (s : Side) → control_of_device addr num o ≡ Some s
    → control_of_device addr num (option_map (begun_at frindex) o) ≡ Some s
begun_from frindex None addr num s is = absurd cc
begun_from frindex (Some d) addr num s is =
    begun_by (begins_anew d.speed frindex) d addr num s (device_found addr num (Some d) s is)

pub begun_control : (fixed : Fixed) (frindex : ℕ) (devices : List Device) (addr num : ℕ) (s : Side)
    → control_in fixed devices addr num ≡ Some s
    → control_in fixed (map (begun_at frindex) devices) addr num ≡ Some s
begun_control fixed frindex devices addr num s is =
    let h : IsControlSeated fixed devices addr num s = control_seated fixed devices addr num s is in
    control_seated_through fixed devices addr num s (map (begun_at frindex) devices) h
    ∙ ap (control_of_device addr num) (slice_map (begun_at frindex) devices h.n)
    ∙ begun_from frindex (slice_get devices h.n) addr num s h.is

-- a buffer shows its result at once
nothing_shown : (made seen : KeySlot) → Showing Buffered made seen → seen ≡ made
nothing_shown made _ shown_stays = refl
nothing_shown made _ (shown_shows a r piped is) = absurd cc

-- ---- the hubs, one of which has the key

module _ (fixed : Fixed) (e : Endpoint) (dir : Dir) (q : Request) (frindex : ℕ) (u : Wait) (aside : Slot Call Reply) where
  abbrev k : Key
  k = control_key e dir

  abbrev Made : Below → Ask → List ℕ → Reply → Below → Type 0
  Made = Rightly (IsInTurn k) transacts_below

  abbrev On : Floor → Line → Type 0
  On floor l = control_in fixed floor.devices e.addr e.num ≡ Some (device_of e l.window.device)

  shows_at : (h : HubContent) (floor : Floor) (l : Line) → On floor l → ShowsControl fixed e (below_at fixed h floor) l
  shows_at h floor l on = record { same = refl; control = on }

  on_left : (w : Below) (l : Line) → ShowsControl fixed e w l → On w.floor l
  on_left w l shows = sym (ap (λ (f : Fixed). control_in f w.floor.devices e.addr e.num) shows.same) ∙ shows.control

  record HubsTurned (hub place : ℕ) (hs : List HubContent) (floor : Floor) (s : KeySlot) (l : Line) : Type 0 where
    line : Line
    works : IsWorked e s l line
    slot : KeySlot
    on : On (floor_worked fixed hs floor) line
    has : HubsHave Buffered k hub place (hubs_worked fixed frindex hs floor) slot
    are : AreRightHubs (IsInTurn k) (hubs_worked fixed frindex hs floor)
    run : Run (window_halves e q) Buffered (with_slot (window_halves e q) control_call control_answer l u s aside)
        (with_slot (window_halves e q) control_call control_answer line u slot aside)

  turn_hubs : (hub place : ℕ) (hs : List HubContent) (floor : Floor) (s : KeySlot) (l : Line) → On floor l → AnswerFits e s l
      → HubsHave Buffered k hub place hs s → AreRightHubs (IsInTurn k) hs → HubsTurned hub place hs floor s l
  turn_hubs hub place [] floor s l on fits has are = absurd has
  turn_hubs zero place (h ∷ hs) floor s l on fits has are =
      let w : Below = below_at fixed h floor in
      let v : Below = wire_left below_reply below_after h w in
      let all : List Translator = translators_worked below_reply below_after frindex h.translators.all w in
      let follows = control_follows fixed e dir in
      let r = works_rightly (IsInTurn k) transacts_below frindex h.translators.all w v all are.0 (hub_made frindex h w) in
      let z = hub_work Made Buffered k frindex place h.translators.all w v all s has.0 r.work in
      let t = z.work.turns in
      let first = beside followed (λ a. a) (λ r. r) Made Buffered k (ShowsControl fixed e) follows l w t.first t.earlier
      (shows_at h floor l on) in
      let x = turn fixed e dir q s t.first z.work.made t.second l u aside t.turn (asked_at Buffered k place h.translators.all s has.0)
      fits first in
      let last = beside followed (λ a. a) (λ r. r) Made Buffered k (ShowsControl fixed e) follows x.line t.second v t.later x.shown in
      let n = none_hubs followed (λ a. a) (λ r. r) fixed k Buffered frindex (IsInTurn k) (ShowsControl fixed e) follows On shows_at on_left
      hs (floor_left fixed h floor) x.line (on_left v x.line last) has.1 are.1 in
      let seen : z.slot ≡ z.work.made = z.work.leaves ∙ nothing_shown z.work.made z.work.seen z.work.shows in
      record {
        line = x.line;
        works = x.worked_so;
        slot = z.slot;
        on = n.on;
        has = (z.has, n.none);
        are = (r.leaves, n.are);
        run = subst (λ (y : KeySlot). Run (window_halves e q) Buffered
            (with_slot (window_halves e q) control_call control_answer l u s aside)
            (with_slot (window_halves e q) control_call control_answer x.line u y aside)) (sym seen) x.run;
      }
  turn_hubs (suc hub) place (h ∷ hs) floor s l on fits has are =
      let n = none_hub followed (λ a. a) (λ r. r) fixed k Buffered frindex (IsInTurn k) (ShowsControl fixed e) (control_follows fixed e dir)
      On shows_at on_left h floor l on has.0 are.0 in
      let r = turn_hubs hub place hs (floor_left fixed h floor) s l n.on fits has.1 are.1 in
      record { line = r.line; works = r.works; slot = r.slot; on = r.on; has = (n.none, r.has); are = (n.are, r.are); run = r.run }

-- ---- the law

pub control_work_is_events : ControlWorkIsEvents
control_work_is_events e q dir hub place frindex s l u aside w has are fits is =
    let r = turn_hubs w.fixed e dir q frindex u aside hub place w.bus.hubs (floor_of w.bus) s l is fits has are in
    record {
      line = r.line;
      works = r.works;
      slot = r.slot;
      control = begun_control w.fixed frindex (floor_worked w.fixed w.bus.hubs (floor_of w.bus)).devices e.addr e.num
          (device_of e r.line.window.device) r.on;
      has = r.has;
      right = r.are;
      run = r.run;
    }
