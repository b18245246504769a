-- What all other transactions, and the work of the hubs, leave of a request below a hub.
use Rattle.std.proofs.Common.{◌≡◌, ◌⊎◌, ◌≤◌, ℕ, false, List, [], ◌∷◌, ◌++◌, Some, ap, refl, sym, subst, ◌∙◌, inl, inr}
use Rattle.usb_base.specs.declared.packets.Ask.{Ask}
use Rattle.usb_base.specs.declared.packets.DataPart.{DataPart}
use Rattle.usb_base.specs.declared.packets.Dir.{Dir}
use Rattle.usb_base.specs.declared.packets.Reply.{Reply}
use Rattle.usb_base.specs.declared.packets.Split.{Split}
use Rattle.usb_base.specs.declared.packets.Split.TheVariants.{Plain, Start, Complete}
use Rattle.hub_keys.specs.Asks.{classic_of}
use Rattle.hub_keys.specs.Keys.{key_of, is_same_key}
use Rattle.bus_wire.specs.Bus.{Wired, begin_after}
use Rattle.claims_report.specs.Acts.{IsOnce}
use Rattle.claims_report.specs.ControlSides.{Device}
use Rattle.claims_report.specs.Requests.{Request}
use Rattle.law_request.specs.Host.{Endpoint, Host}
use Rattle.law_request.specs.Line.{Line as Window, acts_by}
use Rattle.law_request.specs.Windows.{IsRequest, IsRight}
use Rattle.law_devices.specs.request_calls.Bus.{device_of}
use Rattle.law_devices.specs.scripted_requests.Controls.{transacts_by}
use Rattle.law_translated.specs.Lift.{Buffered, Wait}
use Rattle.law_translated.specs.KeySlots.{KeySlot}
use Rattle.law_translated.specs.KeyEvents.{mapped}
use Rattle.law_translated.specs.Windows.{Line, window_halves, window_claims}
use Rattle.law_translated.proofs.Lifting.{holds_gone}
use Rattle.law_translated.proofs.Settling.{window_keeps}
use Rattle.law_below_hubs.specs.Kept.{IfStart}
use Rattle.law_below_hubs.specs.SeatedControls.{control_at}
use Rattle.law_below_hubs.specs.HubsKeys.{HubsHave, AreRightHubs}
use Rattle.law_below_hubs.specs.ControlAsks.{IsRequestAsk}
use Rattle.law_below_hubs.specs.ControlWork.{control_call, control_answer, control_key, IsWorked, rests, makes}
use Rattle.law_below_hubs.specs.ControlTurns.{turned}
use Rattle.law_below_hubs.specs.ControlStands.{RequestHolds, RequestGoesOnAs}
use Rattle.law_below_hubs.specs.Splits.{LeavesKey}
use Rattle.law_below_hubs.specs.HostIns.{IsWait}
use Rattle.law_below_hubs.specs.HostRequests.{IsLineOf, goes_on, ended, RequestBelow, IsOfOtherEndpoint}
use Rattle.law_below_hubs.specs.HostRequests.{SparesEndpoint, OthersLeaveRequest, DeviceWorks, RequestBegins, BeginLeavesRequest}
use Rattle.law_below_hubs.specs.HostRequests.DeviceWorks.{rests as device_rests, makes as device_makes}
use Rattle.law_below_hubs.proofs.ControlBuses.{controls_at}
use Rattle.law_below_hubs.proofs.ControlStands.{request_goes_on}
use Rattle.law_below_hubs.proofs.HostBeside.{other_key}
use Rattle.law_below_hubs.proofs.HostInBeside.{then_waits}
use Rattle.law_below_hubs.proofs.RequestLines.{events, runs, aside_leaves}
use Rattle.law_below_hubs.proofs.Kept.{transactions_keep_right}
use Rattle.law_below_hubs.proofs.SplitsBeside.{splits_by_key}

-- ---- another endpoint is asked

module _ (e : Endpoint) (i place : ℕ) (w : Wired) (ask : Ask) (out : List ℕ) (reply : Reply) (v : Wired) (other : IsOfOtherEndpoint e ask)
    (spares : SparesEndpoint e i place w ask v) (made : transacts_by w ask out reply v) where
  apart : (dir : Dir) → is_same_key (key_of ask) (control_key e dir) ≡ false
  apart dir = other_key (control_key e dir) ask (λ same addr ep. other addr ep)

  if_start : (r : Request) (split : Split) → IfStart split (IsRequestAsk r e.addr e.num (classic_of ask))
  if_start r Plain = tt
  if_start r (Start hub port part) = λ addr ep. absurd (other addr ep)
  if_start r (Complete hub port) = tt

  pub right_beside : (r : Request) → AreRightHubs (IsRequestAsk r e.addr e.num) w.bus.hubs → AreRightHubs
      (IsRequestAsk r e.addr e.num) v.bus.hubs
  right_beside r old = transactions_keep_right (IsRequestAsk r e.addr e.num) w ask out reply v made (if_start r ask.split) old

  pub device_beside : (d : Device) → control_at w e.addr e.num ≡ Some d → control_at v e.addr e.num ≡ Some d
  device_beside d is =
      controls_at.others w ask out reply v e.addr e.num d made is (λ for. other (sym for.address) (sym for.number))

  pub start_beside : (hub port : ℕ) (part : DataPart) → ask.split ≡ Start hub port part → (dir : Dir) (s : KeySlot)
      → HubsHave Buffered (control_key e dir) i place w.bus.hubs s → LeavesKey Buffered (control_key e dir) i place s v
  start_beside hub port part is dir s has =
      splits_by_key.starts_other Buffered (control_key e dir) i place hub port part w ask out reply v s is refl (apart dir) has made

  pub complete_beside : (hub port : ℕ) → ask.split ≡ Complete hub port → (dir : Dir) (s : KeySlot)
      → HubsHave Buffered (control_key e dir) i place w.bus.hubs s → HubsHave Buffered (control_key e dir) i place v.bus.hubs s
  complete_beside hub port is dir s has =
      splits_by_key.completes_other Buffered (control_key e dir) i place hub port w ask out reply v s is refl (apart dir) has made

  module _ (r : Request) (l : Window) (acts : List (List ℕ)) (request : IsRequest r) (o : RequestBelow e r i place w l acts) where
    side_with : (u : Wait) (slot aside : KeySlot) → IsWait l.host.side.waiting u
        → HubsHave Buffered (control_key e o.side.dir) i place v.bus.hubs slot
        → HubsHave Buffered (control_key e (turned o.side.dir)) i place v.bus.hubs aside
        → RequestHolds e r o.side.line u slot aside → RequestBelow e r i place v l acts
    side_with u slot aside wait has beside holds = record {
      side = record {
        line = o.side.line;
        wait = u;
        dir = o.side.dir;
        slot = slot;
        aside = aside;
        is_line = o.side.is_line;
        is_wait = wait;
        faces = o.side.faces;
        idle = o.side.idle;
        acted = o.side.acted;
        has = has;
        other = beside;
        right = right_beside r o.side.right;
        device = device_beside (device_of e o.side.line.window.device) o.side.device;
        holds = holds;
      };
      stands = o.stands;
      within = o.within;
    }

    by_split : (split : Split) → ask.split ≡ split → RequestBelow e r i place v l acts
    by_split Plain is =
        side_with o.side.wait o.side.slot o.side.aside o.side.is_wait (spares o.side.dir is o.side.slot o.side.has)
        (spares (turned o.side.dir) is o.side.aside o.side.other) o.side.holds
    by_split (Start hub port part) is =
        let here = start_beside hub port part is o.side.dir o.side.slot o.side.has in
        let beside = start_beside hub port part is (turned o.side.dir) o.side.aside o.side.other in
        let k = (events e r request).starts.other Buffered o.side.slot here.slot o.side.line o.side.wait
        (mapped control_call control_answer o.side.aside) here.step in
        side_with k.0 here.slot beside.slot (then_waits l.host.side.waiting o.side.wait k.0 o.side.is_wait k.2) here.has beside.has
        (aside_leaves e r request o.side.line k.0 here.slot o.side.aside beside.slot beside.step
        (runs e r request o.side.line o.side.line o.side.wait k.0 o.side.slot here.slot o.side.aside k.1 o.side.holds))
    by_split (Complete hub port) is =
        side_with o.side.wait o.side.slot o.side.aside o.side.is_wait
        (complete_beside hub port is o.side.dir o.side.slot o.side.has)
        (complete_beside hub port is (turned o.side.dir) o.side.aside o.side.other) o.side.holds

pub others_leave_request : OthersLeaveRequest
others_leave_request e r i place w ask out reply v l acts request other spares made o =
    by_split e i place w ask out reply v other spares made r l acts request o ask.split refl

-- ---- where a microframe begins

pub worked_device : (e : Endpoint) (s : KeySlot) (l m : Line) → IsWorked e s l m
    → (acted : List (List ℕ)) × DeviceWorks e l.window.device m.window.device acted × (m.window.acts ≡ acted ++ l.window.acts)
    × (m.window.host ≡ l.window.host)
worked_device e s l _ rests = ([], device_rests, refl, refl)
worked_device e s l _ (makes a row is) = (
  acts_by e row (control_call a).ask (control_call a).out l.window.device,
  device_makes row (control_call a).ask (control_call a).out,
  refl,
  refl,
)

line_as : (h : Host) (l m : Line) → m.window.host ≡ l.window.host → IsLineOf h l → IsLineOf h m
line_as h l m same (goes_on is) = goes_on (same ∙ is)
line_as h l m same (ended is) = ended is

-- what was acted on stays so
grown : {setup : List ℕ} (acted acts : List (List ℕ)) → IsOnce setup (acted ++ acts) → acts ≡ setup ∷ [] → acted ++ acts ≡ setup ∷ []
grown acted acts (inr one) is = one
grown [] acts (inl none) is = is
grown (x ∷ xs) acts (inl none) is = absurd cc

module _ (e : Endpoint) (r : Request) (i place frindex : ℕ) (w : Wired) (l : Window) (acts : List (List ℕ)) (request : IsRequest r)
    (room : e.max ≤ 1024) (o : RequestBelow e r i place w l acts) where
  k : RequestGoesOnAs e r o.side.dir i place o.side.slot o.side.aside o.side.line o.side.wait
      (record w { bus = begin_after w.fixed frindex w.bus })
  k = request_goes_on e r o.side.dir i place frindex o.side.slot o.side.aside o.side.line o.side.wait w request room o.side.has o.side.other
      o.side.right o.side.device o.side.holds

  d : (acted : List (List ℕ)) × DeviceWorks e o.side.line.window.device k.work.line.window.device acted
      × (k.work.line.window.acts ≡ acted ++ o.side.line.window.acts) × (k.work.line.window.host ≡ o.side.line.window.host)
  d = worked_device e o.side.slot o.side.line k.work.line k.work.works

  acted_is : k.work.line.window.acts ≡ d.0 ++ acts
  acted_is = d.2 ∙ ap (λ (xs : List (List ℕ)). d.0 ++ xs) o.side.acted

  right_now : IsRight e r k.work.line.window
  right_now = holds_gone (window_halves e r) (window_claims e r) (window_keeps e r request) Buffered _ k.holds

  begin_law : RequestBegins e r i place w (record w { bus = begin_after w.fixed frindex w.bus }) l acts
  begin_law = record {
    before = o.side.line.window.device;
    after = k.work.line.window.device;
    acted = d.0;
    was = o.side.device;
    is = k.work.control;
    works = d.1;
    stands = record {
      side = record {
        line = k.work.line;
        wait = o.side.wait;
        dir = o.side.dir;
        slot = k.work.slot;
        aside = o.side.aside;
        is_line = line_as l.host o.side.line k.work.line d.3 o.side.is_line;
        is_wait = o.side.is_wait;
        faces = o.side.faces;
        idle = o.side.idle;
        acted = acted_is;
        has = k.work.has;
        other = k.work.other;
        right = k.work.right;
        device = k.work.control;
        holds = k.holds;
      };
      stands = o.stands;
      within = within_now o.within;
    };
  }
    where
      within_now : (l.acts ≡ []) ⊎ (acts ≡ r.setup ∷ []) → (l.acts ≡ []) ⊎ (d.0 ++ acts ≡ r.setup ∷ [])
      within_now (inl none) = inl none
      within_now (inr one) = inr (grown d.0 acts (subst (IsOnce r.setup) acted_is right_now.once) one)

pub begin_leaves_request : BeginLeavesRequest
begin_leaves_request e r i place frindex w l acts request room o = begin_law e r i place frindex w l acts request room o
