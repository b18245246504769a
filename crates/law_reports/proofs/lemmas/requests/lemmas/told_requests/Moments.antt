-- Each moment of a run has lines that were taken, whose requests are those of its driver.
use Rattle.std.proofs.Common.{◌≡◌, ℕ, zero, suc, ◌<◌, true, false, List, [], ◌∷◌, ◌++◌, length, filter_map, slice_get, Some, ap, sym, subst, refl, ◌∙◌, inl, inr}
use Rattle.std.proofs.lemmas.List.{append_assoc}
use Rattle.std.proofs.lemmas.List.Elements.{filter_map-append}
use Rattle.law_queues.proofs.Common.{no_endpoint}
use Rattle.law_world.proofs.Common2.{no_transfer}
use Rattle.law_reports.proofs.Common.{asked_before}
use Rattle.usb_base.specs.declared.endpoints.EpName.{EpName}
use Rattle.script_types.specs.declared.scripts.Event.TheVariants as events
use Rattle.script_types.specs.declared.scripts.Line.{Line}
use Rattle.script_types.specs.declared.scripts.Line.TheVariants as lines
use Rattle.script_types.specs.declared.scripts.Script.{Script}
use Rattle.bus_wire.specs.Bus.{fixed_of}
use Rattle.drv_table.specs.declared.content.Endpoint.{Endpoint}
use Rattle.drv_table.specs.Words.{is_control}
use Rattle.claims_report.specs.Reports.{WholeReport}
use Rattle.claims_report.specs.Streams.{accepted_in}
use Rattle.claims_report.specs.Requests.{Request, request_in, requests}
use Rattle.bus_world.specs.World.{World, kind_next}
use Rattle.bus_world.specs.Opening.{opening_world}
use Rattle.bus_world.specs.Orders.{Left, Events, Microframes, Answer, Command, Plugs, OrderedWorld, at_place, left_of, orders_of, fewer, is_end, tick_by, tick_at, ticks}
use Rattle.bus_world.specs.Budgets.{moment}
use Rattle.claims_world.specs.Streams.{report_of}
use Rattle.law_world.specs.streams.put_laws.TakenLines.{RiseFrom, NumbersRise, IsPart, AreLeft}
use Rattle.law_world.specs.streams.put_laws.TakenPuts.{PutsAreTaken, no_puts, puts_by, puts_next, puts_tick, puts_at}
use Rattle.law_world.proofs.lemmas.streams.lemmas.put_laws.Steps.{event_keeps_puts, silent_puts, command_takes_puts}
use Rattle.law_world.proofs.lemmas.streams.lemmas.put_laws.Moments.{rise_before, next_moment}
use Rattle.law_world.proofs.lemmas.streams.lemmas.put_laws.Ends.{all_are_taken}
use Rattle.claims_world.specs.Requests.{no_asks, asks_by, asks_next, asks_at}
use Rattle.law_reports.specs.requests.told_requests.Asked.{requests_of, requests_to, RequestsAreTaken, HasAsked, RequestsAreAsked}
use Rattle.law_reports.specs.requests.told_requests.AskedLaws.{TickTakesRequests, MomentsTakeRequests, MomentsAsk, AsksStay}
use Rattle.law_reports.proofs.lemmas.requests.lemmas.told_requests.Asking.{event_keeps_requests, silent_requests, command_takes_requests}

-- ---- one event or command

module _ (s : Script) (puts : ℕ → List ℕ) (asks : ℕ → Request) where
  -- a part of a line goes on, or ends; nothing of the next line is begun
  part_asked : (w : World) (x : Left) (taken left : List (ℕ × Line)) → IsPart x → s.lines ≡ taken ++ left → PutsAreTaken w.driver (report_of (fixed_of s) w) taken puts → RequestsAreTaken w.driver (report_of (fixed_of s) w) taken asks
      → HasAsked s (tick_by (fixed_of s) w x (orders_of left)) (puts_by w x puts) (asks_by w x asks)
  part_asked w (Events event zero) taken left part is h k = record { taken = taken; left = left; lines = record { lines = is; orders = inl refl }; sent = h; asked = k }
  part_asked w (Events event (suc n)) taken left part is h k = record {
    taken = taken;
    left = left;
    lines = record { lines = is; orders = inr (Events event n, tt, refl) };
    sent = event_keeps_puts (fixed_of s) w event taken puts h;
    asked = event_keeps_requests (fixed_of s) w event taken asks k;
  }
  part_asked w (Microframes zero) taken left part is h k = record { taken = taken; left = left; lines = record { lines = is; orders = inl refl }; sent = h; asked = k }
  part_asked w (Microframes (suc n)) taken left part is h k = record {
    taken = taken;
    left = left;
    lines = record { lines = is; orders = inr (Answer (is_end (kind_next w)) (suc n), tt, refl) };
    sent = event_keeps_puts (fixed_of s) w events.C taken puts h;
    asked = event_keeps_requests (fixed_of s) w events.C taken asks k;
  }
  part_asked w (Answer ended n) taken left part is h k = record {
    taken = taken;
    left = left;
    lines = record { lines = is; orders = inr (Microframes (fewer ended n), tt, refl) };
    sent = event_keeps_puts (fixed_of s) w events.D taken puts h;
    asked = event_keeps_requests (fixed_of s) w events.D taken asks k;
  }
  part_asked w (Command n cmd) taken left part is h k = absurd part
  part_asked w (Plugs there port) taken left part is h k = record { taken = taken; left = left; lines = record { lines = is; orders = inl refl }; sent = h; asked = k }

  one_more : (taken left : List (ℕ × Line)) (l : ℕ × Line) → s.lines ≡ taken ++ l ∷ left → s.lines ≡ (taken ++ l ∷ []) ++ left
  one_more taken left l is = is ∙ sym (append_assoc taken (l ∷ []) left)

  line_asked : (w : World) (n : ℕ) (line : Line) (taken left : List (ℕ × Line)) → NumbersRise s → s.lines ≡ taken ++ (n, line) ∷ left → PutsAreTaken w.driver (report_of (fixed_of s) w) taken puts
      → RequestsAreTaken w.driver (report_of (fixed_of s) w) taken asks
      → HasAsked s (tick_by (fixed_of s) w (left_of line n) (orders_of left)) (puts_by w (left_of line n) puts) (asks_by w (left_of line n) asks)
  line_asked w n (lines.Order event i) taken left rise is h k =
      part_asked w (Events event i) (taken ++ (n, lines.Order event i) ∷ []) left tt (one_more taken left (n, lines.Order event i) is)
      (silent_puts w.driver (report_of (fixed_of s) w) taken (n, lines.Order event i) puts refl h)
      (silent_requests w.driver (report_of (fixed_of s) w) taken (n, lines.Order event i) asks refl k)
  line_asked w n (lines.Micro i) taken left rise is h k =
      part_asked w (Microframes i) (taken ++ (n, lines.Micro i) ∷ []) left tt (one_more taken left (n, lines.Micro i) is)
      (silent_puts w.driver (report_of (fixed_of s) w) taken (n, lines.Micro i) puts refl h)
      (silent_requests w.driver (report_of (fixed_of s) w) taken (n, lines.Micro i) asks refl k)
  line_asked w n (lines.Command cmd) taken left rise is h k =
      let before = (rise_before 0 taken (n, lines.Command cmd) left (subst (RiseFrom 0) is rise)).1 in
      record {
        taken = taken ++ (n, lines.Command cmd) ∷ [];
        left = left;
        lines = record { lines = one_more taken left (n, lines.Command cmd) is; orders = inl refl };
        sent = command_takes_puts (fixed_of s) w n cmd taken puts before h;
        asked = command_takes_requests (fixed_of s) w n cmd taken puts asks before h k;
      }
  line_asked w n (lines.Plug i) taken left rise is h k =
      part_asked w (Plugs true i) (taken ++ (n, lines.Plug i) ∷ []) left tt (one_more taken left (n, lines.Plug i) is)
      (silent_puts w.driver (report_of (fixed_of s) w) taken (n, lines.Plug i) puts refl h)
      (silent_requests w.driver (report_of (fixed_of s) w) taken (n, lines.Plug i) asks refl k)
  line_asked w n (lines.Unplug i) taken left rise is h k =
      part_asked w (Plugs false i) (taken ++ (n, lines.Unplug i) ∷ []) left tt (one_more taken left (n, lines.Unplug i) is)
      (silent_puts w.driver (report_of (fixed_of s) w) taken (n, lines.Unplug i) puts refl h)
      (silent_requests w.driver (report_of (fixed_of s) w) taken (n, lines.Unplug i) asks refl k)

  next_asked : (w : World) (taken left : List (ℕ × Line)) → NumbersRise s → s.lines ≡ taken ++ left → PutsAreTaken w.driver (report_of (fixed_of s) w) taken puts → RequestsAreTaken w.driver (report_of (fixed_of s) w) taken asks
      → HasAsked s (tick_at (fixed_of s) w (orders_of left)) (puts_next w (orders_of left) puts) (asks_next w (orders_of left) asks)
  next_asked w taken [] rise is h k = record { taken = taken; left = []; lines = record { lines = is; orders = inl refl }; sent = h; asked = k }
  next_asked w taken (l ∷ ls) rise is h k = line_asked w l.0 l.1 taken ls rise is h k

  orders_asked : (w : World) (orders : List Left) (taken left : List (ℕ × Line)) → NumbersRise s → s.lines ≡ taken ++ left → PutsAreTaken w.driver (report_of (fixed_of s) w) taken puts
      → RequestsAreTaken w.driver (report_of (fixed_of s) w) taken asks → AreLeft orders left → HasAsked s (tick_at (fixed_of s) w orders) (puts_next w orders puts) (asks_next w orders asks)
  orders_asked w orders taken left rise is h k (inl e) =
      subst (λ (os : List Left). HasAsked s (tick_at (fixed_of s) w os) (puts_next w os puts) (asks_next w os asks)) (sym e) (next_asked w taken left rise is h k)
  orders_asked w orders taken left rise is h k (inr e) =
      subst (λ (os : List Left). HasAsked s (tick_at (fixed_of s) w os) (puts_next w os puts) (asks_next w os asks)) (sym e.2) (part_asked w e.0 taken left e.1 is h k)

pub tick_takes_requests : TickTakesRequests
tick_takes_requests s p puts asks rise h =
    orders_asked s puts asks p.world p.orders h.taken h.left rise h.lines.lines h.sent h.asked h.lines.orders

-- ---- the requests of transfers stay

stay_by : (w : World) (x : Left) (asks : ℕ → Request) (t : ℕ) → t < length w.driver.transfers → asks_by w x asks t ≡ asks t
stay_by w (Command n cmd) asks t low = asked_before w.driver cmd asks t low
stay_by w _ asks t low = refl

stay_at : (w : World) (orders : List Left) (asks : ℕ → Request) (t : ℕ) → t < length w.driver.transfers → asks_next w orders asks t ≡ asks t
stay_at w [] asks t low = refl
stay_at w (x ∷ rest) asks t low = stay_by w x asks t low

pub asks_stay : AsksStay
asks_stay p asks t low = stay_at p.world p.orders asks t low

-- ---- each moment

opening_asked : (s : Script) → HasAsked s (at_place (opening_world s) (orders_of s.lines)) no_puts no_asks
opening_asked s = record {
  taken = [];
  left = s.lines;
  lines = record { lines = refl; orders = inl refl };
  sent = record {
    each = λ e x here on out. absurd (no_endpoint e x here);
    others = λ name none. refl;
    opened = tt;
    refused = λ n on. absurd (cc);
    apart = λ e k x y here there same. absurd (no_endpoint e x here);
    within = λ t y here. absurd (no_transfer t y here);
  };
  asked = record { each = λ e x here on. absurd (no_endpoint e x here); others = λ name none. refl };
}

pub moments_take_requests : MomentsTakeRequests
unfolding ticks puts_at asks_at
moments_take_requests s rise zero = opening_asked s
moments_take_requests s rise (suc k) =
    subst (λ (p : OrderedWorld). HasAsked s p (puts_tick (moment s k) (puts_at s k)) (asks_next (moment s k).world (moment s k).orders (asks_at s k))) (sym (next_moment s k))
    (tick_takes_requests s (moment s k) (puts_at s k) (asks_at s k) rise (moments_take_requests s rise k))

-- ---- the requests of the script

requests_join : (r : WholeReport) (taken left : List (ℕ × Line)) (name : EpName) → requests_to r (taken ++ left) name ≡ requests_to r taken name ++ requests_to r left name
requests_join r taken left name =
    ap (filter_map (request_in name)) (filter_map-append (accepted_in r) taken left)
    ∙ filter_map-append (request_in name) (filter_map (accepted_in r) taken) (filter_map (accepted_in r) left)

module _ (s : Script) (p : OrderedWorld) (puts : ℕ → List ℕ) (asks : ℕ → Request) (h : HasAsked s p puts asks) where
  abbrev r : WholeReport
  r = report_of (fixed_of s) p.world

  all_lines : p.orders ≡ [] → h.taken ≡ s.lines
  all_lines none = (all_are_taken s p h.taken h.left h.lines none).1

  are_begun : (e : ℕ) (x : Endpoint) → slice_get p.world.driver.endpoints e ≡ Some x → is_control x.desc.kind ≡ true
      → (rest : List Request) × (requests_of p.world.driver asks e ++ rest ≡ requests s r x.desc.name)
  are_begun e x here on = (
    requests_to r h.left x.desc.name,
    ap (λ (rs : List Request). rs ++ requests_to r h.left x.desc.name) (h.asked.each e x here on)
        ∙ sym (requests_join r h.taken h.left x.desc.name) ∙ ap (λ (ls : List (ℕ × Line)). requests_to r ls x.desc.name) (sym h.lines.lines),
  )

  pub are_asked : RequestsAreAsked s p asks
  are_asked = record {
    begin = are_begun;
    all = λ none e x here on. h.asked.each e x here on ∙ ap (λ (ls : List (ℕ × Line)). requests_to r ls x.desc.name) (all_lines none);
    unopened = λ none name unnamed. ap (λ (ls : List (ℕ × Line)). requests_to r ls name) (sym (all_lines none)) ∙ h.asked.others name unnamed;
  }

pub moments_ask : MomentsAsk
moments_ask s rise k = are_asked s (moment s k) (puts_at s k) (asks_at s k) (moments_take_requests s rise k)
