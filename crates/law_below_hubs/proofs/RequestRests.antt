-- Between two requests nothing is asked of a control endpoint below a hub.
use Rattle.std.proofs.Common.{◌≡◌, ℕ, Bool, true, false, List, [], Some, ap, refl, sym, subst, ◌∙◌, inl}
use Rattle.std.proofs.lemmas.Bool.{false≢true}
use Rattle.usb_base.specs.declared.endpoints.EndCause.TheVariants as Causes
use Rattle.usb_base.specs.declared.packets.Ask.{Ask}
use Rattle.usb_base.specs.declared.packets.Dir.{Dir}
use Rattle.usb_base.specs.declared.packets.Dir.TheVariants as Directions
use Rattle.usb_base.specs.declared.packets.Reply.{Reply}
use Rattle.usb_base.specs.declared.packets.Split.{Split}
use Rattle.usb_base.specs.declared.packets.Split.TheVariants.{Plain, Start, Complete}
use Rattle.dev_control.specs.Stages.{Stages}
use Rattle.hub_keys.specs.Asks.{classic_of}
use Rattle.hub_keys.specs.Keys.{key_of}
use Rattle.hub_class.specs.HubContent.{HubContent}
use Rattle.bus_wire.specs.Bus.{Wired, begin_after, floor_of}
use Rattle.claims_report.specs.Requests.{Request}
use Rattle.law_request.specs.Host.{Endpoint, Host, Halted, is_over}
use Rattle.law_request.specs.Line.{Line as Window, line_at}
use Rattle.law_request.specs.Standing.{Stands}
use Rattle.law_request.proofs.Steps.{window_opens}
use Rattle.law_devices.specs.request_calls.Bus.{device_of}
use Rattle.law_devices.specs.scripted_requests.Controls.{transacts_by}
use Rattle.law_translated.specs.Lift.{Buffered, Wait, Idle, Empty, Asked, Hidden, There, Told, IsQuiet, At}
use Rattle.law_translated.specs.KeySlots.{KeySlot}
use Rattle.law_translated.specs.KeySteps.{OtherStart}
use Rattle.law_translated.specs.KeySteps.OtherStart.{stays as other_stays, forgets as other_forgets}
use Rattle.law_translated.specs.KeyEvents.{mapped}
use Rattle.law_translated.specs.Windows.{Line, goes_on as goes_on_line, window_halves, window_claims}
use Rattle.law_below_hubs.specs.HubsKeys.{HubsHave, AreRightHubs}
use Rattle.law_below_hubs.specs.ControlAsks.{IsRequestAsk}
use Rattle.law_below_hubs.specs.ControlWork.{control_call, control_answer, control_key, IsInTurn, AnswerFits, IsWorked, rests}
use Rattle.law_below_hubs.specs.ControlWork.{makes, ControlWorkOf}
use Rattle.law_below_hubs.specs.ControlTurns.{turned}
use Rattle.law_below_hubs.specs.ControlStands.{RequestHolds}
use Rattle.law_below_hubs.specs.HostIns.{IsWait, starts}
use Rattle.law_below_hubs.specs.HostRequests.{unpinged, IsLineOf, goes_on, ended, RequestBelow, IsOfOtherEndpoint}
use Rattle.law_below_hubs.specs.HostRequests.{SparesEndpoint, HubRests, RequestOpens, RestsAgain, RequestRests, OthersLeaveRest}
use Rattle.law_below_hubs.specs.HostRequests.{BeginLeavesRest}
use Rattle.law_below_hubs.proofs.ControlBegin.{control_work_is_events}
use Rattle.law_below_hubs.proofs.ControlTurns.{hubs_turn, quiet_stays, rights_stay, quiet_is_in_turn}
use Rattle.law_below_hubs.proofs.ControlStands.{quiet_before}
use Rattle.law_below_hubs.proofs.InFollows.{key_is}
use Rattle.law_below_hubs.proofs.HostIns.{starts_idle}
use Rattle.law_below_hubs.proofs.RequestBeside.{right_beside, device_beside, start_beside, complete_beside}

-- ---- slots of which nothing is to come

quiet_too : (s : KeySlot) → IsQuiet s → IsQuiet (mapped control_call control_answer s)
quiet_too Empty quiet = tt
quiet_too (Asked a) quiet = quiet
quiet_too (Hidden a x) quiet = quiet
quiet_too (There a x) quiet = quiet
quiet_too (Told a x) quiet = tt

rests_by : (e : Endpoint) (r : Request) (s : KeySlot) (l : Line) → IsQuiet s → Stands e r l.window
    → At (window_halves e r) (window_claims e r) Buffered (mapped control_call control_answer s) Idle l
rests_by e r Empty l quiet stands = stands
rests_by e r (Asked a) l quiet stands = absurd quiet
rests_by e r (Hidden a x) l quiet stands = absurd quiet
rests_by e r (There a x) l quiet stands = absurd quiet
rests_by e r (Told a x) l quiet stands = stands

other_quiet : (s new : KeySlot) → OtherStart Buffered s new → IsQuiet s → IsQuiet new
other_quiet s _ other_stays quiet = quiet
other_quiet s _ (other_forgets a x buffered is) quiet = tt

fits_quiet : (e : Endpoint) (s : KeySlot) (l : Line) → IsQuiet s → AnswerFits e s l
fits_quiet e Empty l quiet = tt
fits_quiet e (Asked a) l quiet = absurd quiet
fits_quiet e (Hidden a x) l quiet = tt
fits_quiet e (There a x) l quiet = tt
fits_quiet e (Told a x) l quiet = tt

-- that of one direction, or of the other
abbrev picked : Dir → Dir → KeySlot → KeySlot → KeySlot
picked Directions.In Directions.In s aside = s
picked Directions.Out Directions.Out s aside = s
picked Directions.In Directions.Out s aside = aside
picked Directions.Out Directions.In s aside = aside

picked_by : (P : Dir → KeySlot → Type 0) (d f : Dir) (s aside : KeySlot) → P d s → P (turned d) aside → P f (picked d f s aside)
picked_by P Directions.In Directions.In s aside here other = here
picked_by P Directions.Out Directions.Out s aside here other = here
picked_by P Directions.In Directions.Out s aside here other = other
picked_by P Directions.Out Directions.In s aside here other = other

-- where nothing is asked of the endpoint, all that is asked of it is of any request
module _ (e : Endpoint) (r next : Request) (dir : Dir) (i place : ℕ) (hubs : List HubContent) (s aside : KeySlot)
    (has : HubsHave Buffered (control_key e dir) i place hubs s) (quiet : IsQuiet s)
    (other : HubsHave Buffered (control_key e (turned dir)) i place hubs aside) (quiet_aside : IsQuiet aside) where
  none_asks : (ask : Ask) → IsInTurn (control_key e dir) (classic_of ask) → (key_of ask ≡ control_key e dir → ⊥)
      → IsRequestAsk next e.addr e.num (classic_of ask)
  none_asks ask in_turn not_own addr ep =
      let by = in_turn addr ep in
      absurd (not_own (key_is ask (control_key e dir) addr ep by.dir by.kind))

  any_right : AreRightHubs (IsRequestAsk r e.addr e.num) hubs → AreRightHubs (IsRequestAsk next e.addr e.num) hubs
  any_right right =
      hubs_turn (control_key e dir) (IsInTurn (control_key e dir)) (IsRequestAsk next e.addr e.num) none_asks i place hubs s has quiet
      (quiet_is_in_turn e r dir i place aside hubs other quiet_aside right)

-- ---- a window opens

-- its SETUP goes out
pub request_opens : RequestOpens
request_opens e r i place w ping c o = record {
  side = record {
    line = goes_on_line (line_at e r false c);
    wait = Idle;
    dir = Directions.Out;
    slot = o.slots Directions.Out;
    aside = o.slots Directions.In;
    is_line = goes_on refl;
    is_wait = starts;
    faces = λ on. refl;
    idle = λ over no_error. absurd (false≢true over);
    acted = refl;
    has = o.has Directions.Out;
    other = o.has Directions.In;
    right = o.right r;
    device = o.device;
    holds = record {
      at = rests_by e r (o.slots Directions.Out) (goes_on_line (line_at e r false c)) (o.quiet Directions.Out)
          (window_opens e r false c o.max);
      aside = quiet_too (o.slots Directions.In) (o.quiet Directions.In);
    };
  };
  stands = window_opens e r ping c o.max;
  within = inl refl;
}

-- ---- it is over

module _ (e : Endpoint) (r : Request) (i place : ℕ) (w : Wired) (l : Window) (acts : List (List ℕ)) (over : is_over l.host.stage ≡ true)
    (no_error : l.host.stage ≡ Halted Causes.Error → ⊥) (o : RequestBelow e r i place w l acts) where
  abbrev m : Line
  m = o.side.line

  own_line : IsLineOf l.host o.side.line → o.side.line.window.host ≡ unpinged l.host
  own_line (goes_on is) = is
  own_line (ended is) = absurd (no_error is)

  is_over_too : is_over o.side.line.window.host.stage ≡ true
  is_over_too = ap (λ (h : Host). is_over h.stage) (own_line o.side.is_line) ∙ over

  idle : o.side.wait ≡ Idle
  idle = starts_idle o.side.wait (subst (λ (b : Bool). IsWait b o.side.wait) (o.side.idle over no_error) o.side.is_wait)

  holds : RequestHolds e r o.side.line Idle o.side.slot o.side.aside
  holds = subst (λ (u : Wait). RequestHolds e r m u o.side.slot o.side.aside) idle o.side.holds

  record IsQuietNow (s : KeySlot) : Type 0 where
    quiet : IsQuiet s
    stands : Stands e r o.side.line.window

  quiet_by : (s : KeySlot)
      → At (window_halves e r) (window_claims e r) Buffered (mapped control_call control_answer s) Idle o.side.line → IsQuietNow s
  quiet_by Empty at = record { quiet = tt; stands = at }
  quiet_by (Asked a) at = absurd (false≢true (sym at.0.on ∙ is_over_too))
  quiet_by (Hidden a x) at = absurd at
  quiet_by (There a x) at = absurd (false≢true (sym at.is.on ∙ is_over_too))
  quiet_by (Told a x) at = record { quiet = tt; stands = at }

  now : IsQuietNow o.side.slot
  now = quiet_by o.side.slot holds.at

  quiet_aside : IsQuiet o.side.aside
  quiet_aside = quiet_before o.side.aside o.side.holds.aside

  rests_law : RestsAgain e i place w
  rests_law = record {
    stages = m.window.device;
    rests = record {
      slots = λ dir. picked o.side.dir dir o.side.slot o.side.aside;
      has = λ dir. picked_by
          (λ (d : Dir) (s : KeySlot). HubsHave Buffered (control_key e d) i place w.bus.hubs s) o.side.dir dir o.side.slot
          o.side.aside o.side.has o.side.other;
      quiet = λ dir. picked_by (λ (d : Dir) (s : KeySlot). IsQuiet s) o.side.dir dir o.side.slot o.side.aside now.quiet quiet_aside;
      right = λ next. any_right e r next o.side.dir i place w.bus.hubs o.side.slot o.side.aside o.side.has now.quiet o.side.other
          quiet_aside
          o.side.right;
      max = now.stands.device_max;
      device = o.side.device;
    };
  }

pub request_rests : RequestRests
request_rests e r i place w l acts over no_error o = rests_law e r i place w l acts over no_error o

-- ---- while none asks

module _ (e : Endpoint) (i place : ℕ) (w : Wired) (ask : Ask) (out : List ℕ) (reply : Reply) (v : Wired) (c : Stages)
    (other : IsOfOtherEndpoint e ask) (spares : SparesEndpoint e i place w ask v) (made : transacts_by w ask out reply v)
    (o : HubRests e i place w c) where
  with_slots : (slots : Dir → KeySlot) → ((dir : Dir) → HubsHave Buffered (control_key e dir) i place v.bus.hubs (slots dir))
      → ((dir : Dir) → IsQuiet (slots dir)) → HubRests e i place v c
  with_slots slots has quiet = record {
    slots = slots;
    has = has;
    quiet = quiet;
    right = λ r. right_beside e i place w ask out reply v other spares made r (o.right r);
    max = o.max;
    device = device_beside e i place w ask out reply v other spares made (device_of e c) o.device;
  }

  rest_by : (split : Split) → ask.split ≡ split → HubRests e i place v c
  rest_by Plain is = with_slots o.slots (λ dir. spares dir is (o.slots dir) (o.has dir)) o.quiet
  rest_by (Start hub port part) is =
      with_slots (λ dir. (start_beside e i place w ask out reply v other spares made hub port part is dir (o.slots dir) (o.has dir)).slot)
      (λ dir. (start_beside e i place w ask out reply v other spares made hub port part is dir (o.slots dir) (o.has dir)).has)
      (λ dir. other_quiet (o.slots dir) _
      (start_beside e i place w ask out reply v other spares made hub port part is dir (o.slots dir) (o.has dir)).step (o.quiet dir))
  rest_by (Complete hub port) is =
      with_slots o.slots (λ dir. complete_beside e i place w ask out reply v other spares made hub port is dir (o.slots dir)
      (o.has dir)) o.quiet

pub others_leave_rest : OthersLeaveRest
others_leave_rest e i place w ask out reply v c other spares made o =
    rest_by e i place w ask out reply v c other spares made o ask.split refl

nothing : Request
nothing = record { setup = []; bytes = [] }

module _ (e : Endpoint) (i place frindex : ℕ) (w : Wired) (c : Stages) (o : HubRests e i place w c) where
  abbrev line_now : Line
  line_now = goes_on_line (line_at e nothing false c)

  worked : ControlWorkOf e nothing Directions.Out i place (o.slots Directions.Out) (goes_on_line (line_at e nothing false c)) Idle Empty
      (record w { bus = begin_after w.fixed frindex w.bus })
  worked =
      control_work_is_events e nothing Directions.Out i place frindex (o.slots Directions.Out) line_now Idle Empty w (o.has Directions.Out)
      (quiet_is_in_turn e nothing Directions.Out i place (o.slots Directions.In) w.bus.hubs (o.has Directions.In) (o.quiet Directions.In)
      (o.right nothing))
      (fits_quiet e (o.slots Directions.Out) line_now (o.quiet Directions.Out)) o.device

  device_by : (s : KeySlot) (m : Line) → IsQuiet s → IsWorked e s (goes_on_line (line_at e nothing false c)) m → m.window.device ≡ c
  device_by s _ quiet rests = refl
  device_by s _ quiet (makes a row is) = absurd (subst (λ (x : KeySlot). IsQuiet x) is quiet)

  begin_rests : HubRests e i place (record w { bus = begin_after w.fixed frindex w.bus }) c
  begin_rests = record {
    slots = o.slots;
    has = λ dir. quiet_stays w.fixed frindex (control_key e dir) i place w.bus.hubs (floor_of w.bus) (o.slots dir) (o.quiet dir)
        (o.has dir);
    quiet = o.quiet;
    right = λ r. rights_stay (IsRequestAsk r e.addr e.num) w.fixed frindex w.bus.hubs (floor_of w.bus) (o.right r);
    max = o.max;
    device = worked.control
        ∙ ap (λ (x : Stages). Some (device_of e x)) (device_by (o.slots Directions.Out) worked.line (o.quiet Directions.Out) worked.works);
  }

pub begin_leaves_rest : BeginLeavesRest
begin_leaves_rest e i place frindex w c o = begin_rests e i place frindex w c o
