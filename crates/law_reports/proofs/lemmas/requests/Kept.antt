-- What holds of the requests of control endpoints at high speed at each moment, where their queues, records and lines stand as they must.
use Rattle.std.proofs.Common.{◌≡◌, ℕ, ◌≤◌, ◌*◌, cond, Bool, true, false, List, [], length, map, filter, slice_get, Option, Some, None, is_some, ap, refl, sym, subst, ◌∙◌, arith}
use Rattle.std.specs.Prelude.{◌==◌, ◌&&◌, ◌≢◌, not}
use Rattle.std.specs.List.{AllByRecursion, position_or_len}
use Rattle.std.proofs.lemmas.Bool.{and_parts, eqb-true, eq-eqb, true≢false, false≢true, and_from}
use Rattle.std.proofs.lemmas.Option.{get_or_from_slice_get}
use Rattle.std.proofs.lemmas.List.{length-map, length-append}
use Rattle.std.proofs.lemmas.List.Quantifiers.{position-Some}
use Rattle.law_common.proofs.Booleans.{left_or}
use Rattle.law_common.proofs.Numbers.{is_less}
use Rattle.law_queues.proofs.Common.{has_place, name_is}
use Rattle.law_reports.proofs.Common.{windows_once}
use Rattle.usb_base.specs.declared.endpoints.EpDesc.{EpDesc}
use Rattle.usb_base.specs.declared.endpoints.EpName.{EpName}
use Rattle.usb_base.specs.declared.packets.Speed.{Speed}
use Rattle.usb_base.specs.declared.packets.Way.{Way}
use Rattle.script_types.specs.declared.scripts.Script.{Script}
use Rattle.script_text.specs.Faults.{Spells}
use Rattle.bus_wire.specs.declared.seats.Seat.{Seat}
use Rattle.bus_wire.specs.declared.seats.TokenKind.TheVariants.{Setup}
use Rattle.bus_wire.specs.Bus.{Fixed, fixed_of}
use Rattle.bus_wire.specs.Seats.{suits, takes_token}
use Rattle.drv_table.specs.declared.content.Endpoint.{Endpoint}
use Rattle.drv_table.specs.declared.content.Command.{Command}
use Rattle.drv_table.specs.DriverContent.{DriverContent, is_same_name as is_driver_name, opened}
use Rattle.drv_table.specs.Words.{is_control, is_high}
use Rattle.law_driver.specs.endpoint_lives.Lives.{may_meet}
use Rattle.law_devices.specs.ring_requests.Windows.{Queue, Lines, IsQueue}
use Rattle.claims_report.specs.Reports.{acted, lines_of}
use Rattle.claims_report.specs.Requests.{data_of, requests, Request, Window, has_acted, AreTold, AreRightRequests}
use Rattle.claims_report.specs.ControlSides.{Device}
use Rattle.claims_report.specs.Controls.{is_of_hub}
use Rattle.law_devices.specs.Controls.{control_of}
use Rattle.law_devices.proofs.lemmas.scripted_requests.Finding.{HasControl, control_found}
use Rattle.bus_world.specs.World.{World}
use Rattle.bus_world.specs.Budgets.{moment}
use Rattle.claims_world.specs.Streams.{report_of}
use Rattle.law_world.specs.streams.taken_reports.Seats.{AreApart}
use Rattle.law_world.proofs.lemmas.streams.lemmas.taken_reports.Seating.{moment_is_seated}
use Rattle.law_queues.proofs.lemmas.leaving_drivers.Unmet.{gone_are_unmet}
use Rattle.law_world.proofs.lemmas.streams.lemmas.put_laws.Rising.{texts_rise}
use Rattle.law_queues.proofs.lemmas.told_endpoints.Names.{name_is_same, driver_name}
use Rattle.claims_world.specs.Requests.{wired, Windows, windows_at, asks_at, numbers_of, window_at, windows_of, AreOnce, opens, is_opening, IsOpenControl, report_at, windows_then}
use Rattle.claims_world.specs.Requests.{RequestsAreKept, IsOfDevice}
use Rattle.law_reports.proofs.lemmas.requests.lemmas.told_requests.Claims.{report_numbers, report_tells, report_counts}
use Rattle.law_reports.proofs.lemmas.requests.lemmas.told_requests.Moments.{moments_ask}
use Rattle.law_reports.specs.requests.Courses.{Asks, IsCourse}
use Rattle.law_reports.specs.requests.Records.{IsOnceAt}
use Rattle.law_reports.proofs.lemmas.requests.TransferChanging.{once_by}
use Rattle.law_reports.proofs.lemmas.requests.Counts.{counts_are_acts}
use Rattle.law_reports.proofs.lemmas.requests.Telling.{telling_is_told}
use Rattle.law_reports.specs.requests.Asking.{Sides, has_left, left_with, IsCounted as IsCountedNow, IsMetControl}
use Rattle.law_driver.proofs.Common.{get_queued}
use Rattle.law_driver.specs.queued_drivers.Queued.{queued_kind, queued_desc, with_queue, queued_endpoint, queued}
use Rattle.law_driver.proofs.lemmas.queued_drivers.CommandFields.{name_same}
use Rattle.law_reports.specs.pipes.Declared.{Sides as Pipes, sides_of as pipes_of}
use Rattle.law_reports.specs.requests.Counts.{counted_all}
use Rattle.law_reports.specs.requests.Footing.{IsFooting}
use Rattle.law_reports.specs.requests.Given.{is_of_device}
use Rattle.law_reports.specs.requests.HighAsking.{told_world, told_standing, told_streams, IsSuited, HasHighAsks}
use Rattle.law_reports.specs.requests.HighGiven.{high_sides_of}
use Rattle.law_reports.specs.requests.Kept.{TextsKeepRequests}
use Rattle.law_reports.specs.requests.told_requests.Told.{RequestsAreToldTo}
use Rattle.law_reports.proofs.lemmas.requests.Footing.{control_zero}
use Rattle.law_reports.proofs.lemmas.requests.LeftWhole.{texts_tell_cancels}
use Rattle.law_reports.proofs.lemmas.requests.HighFooting.{high_footing}
use Rattle.law_reports.proofs.lemmas.requests.HighMoments.{texts_have_high_asks}
use Rattle.law_reports.proofs.lemmas.requests.HighOpened.{told_as, opened_told}
use Rattle.law_reports.proofs.lemmas.requests.HighWindows.{numbers_told}
use Rattle.law_reports.proofs.lemmas.requests.Given.{requests_few}
use Rattle.usb_base.specs.declared.packets.Way.TheVariants as ways
use Rattle.drv_table.specs.declared.content.Command.TheVariants as unfinished

-- ---- an endpoint by its name

setup_way : (way : Way) → takes_token way Setup ≡ true → way ≡ ways.Ctl
setup_way ways.Ctl on = refl
setup_way _ on = absurd (false≢true on)

is_opened : (d : DriverContent) (e : ℕ) (x : Endpoint) → slice_get d.endpoints e ≡ Some x → opened d x.desc.name ≡ true
is_opened d e x here =
    let test : Endpoint → Bool = λ y. is_driver_name y.desc.name x.desc.name in
    ap (λ (b : Bool). is_some (cond b (Some (position_or_len test d.endpoints)) None))
    (is_less (position_or_len test d.endpoints) (length d.endpoints) (has_place test d.endpoints e x here (driver_name x.desc.name x.desc.name ∙ name_is_same x.desc.name)))

-- ---- one endpoint of a world

module _ (g : Sides) (fixed : Fixed) (p : Pipes) (v : Windows) (asks : ℕ → Request) (w : World) (h : HasHighAsks g fixed p v asks w) (e : ℕ)
    (x : Endpoint) (k : IsOpenControl w.driver e x) (on : g.asks (queued_desc x.desc) ≡ true) where
  pub its_way : x.desc.name.way ≡ ways.Ctl
  its_way = (control_zero x.desc.kind x.desc.name k.control (h.suited e x k.here).name).1

  -- as the queues tell it
  abbrev d : DriverContent
  d = queued w.driver

  abbrev y : Endpoint
  y = queued_endpoint x

  f : IsFooting h.standing.near (told_streams h.standing) (told_standing h.standing h.lines) (told_world w)
  f = high_footing g fixed p h.standing h.lines h.heads w h.piped h.head h.suited

  here : slice_get (queued w.driver).endpoints e ≡ Some (queued_endpoint x)
  here = get_queued w.driver.endpoints e x k.here

  told : queued_endpoint x ≡ with_queue x
  told = told_as h.standing w h.piped.mixed e x k.here k.control

  asked_so : g.asks (queued_endpoint x).desc ≡ true
  asked_so = ap (λ (z : Endpoint). g.asks z.desc) told ∙ on

  opened_so : is_opening (queued w.driver) (queued_endpoint x) ≡ false
  opened_so = opened_told h.standing w h.piped.mixed e x k.here k.control k.opened

  name : (queued_endpoint x).desc.name ≡ x.desc.name
  name = name_same x

  not_opening : y.gone ≡ false → d.command ≢ Some (unfinished.Open y.queue)
  not_opening kept is =
      false≢true (sym opened_so ∙ ap (λ (c : Option Command). opens c y.queue && not y.gone) is
      ∙ ap (λ (b : Bool). b && not y.gone) (eq-eqb y.queue y.queue refl) ∙ ap not kept)

  held : may_meet d e y ≡ true → (b : Bool) → y.gone ≡ b → y.gone ≡ false
  held near true is = absurd (true≢false (sym near ∙ gone_are_unmet d e y f.owners here is))
  held near false is = is

  met : may_meet d e y ≡ true → IsMetControl g d e y
  met near =
      let kept = held near y.gone refl in
      record {
        is = record { here = here; control = asked_so };
        met = record { there = record { linked = not_opening kept; kept = kept }; near = near };
      }

  going : x.cancelled ≡ false → y.cancelled ≡ false
  going stays = ap (λ (z : Endpoint). z.cancelled) told ∙ stays

  -- one that isn't cancelled is in the ring
  linked : y.cancelled ≡ false → (b : Bool) → y.linked ≡ b → y.linked ≡ true
  linked stays true is = is
  linked stays false is = absurd (true≢false (sym ((f.turns.asynchronous.endpoints e y here).unlinked is) ∙ stays))

  -- ---- each window has at most one act

  asked : (q : Queue) (b : ℕ) (l : Lines) → h.asking.courses (32 * y.queue) ≡ Asks q b l
      → (o : Option Device) × IsQueue q l h.standing.hand h.standing.parts (32 * y.queue) o
  asked q b l is = (
    control_of (wired fixed w) q.endpoint.addr q.endpoint.num,
    (subst (IsCourse control_of h.standing.parts h.standing.hand (wired fixed w) (32 * y.queue)) is
        (h.world.stand.each (32 * y.queue))).queue,
  )

  met_once : IsMetControl g d e y → AllByRecursion (IsOnceAt asks v) (numbers_of d e)
  met_once m =
      let c = h.world.each e y m in
      subst (λ (i : ℕ). AllByRecursion (IsOnceAt asks v) (numbers_of d i)) c.number
      (once_by d asks h.asking.courses h.asking.numbers (has_left g d) v (32 * y.queue) h.standing.hand h.standing.parts asked
      h.world.records (h.asking.courses (32 * y.queue)) refl c.queue (h.world.records.each (32 * y.queue) c.queue))

  by_walk : (near : Bool) → may_meet d e y ≡ near → AllByRecursion (IsOnceAt asks v) (numbers_of d e)
  by_walk true near = met_once (met near)
  by_walk false near =
      h.world.records.left e
      (ap (left_with g d e) here ∙ ap (λ (b : Bool). b && not (may_meet d e y)) asked_so ∙ ap not near)

  transfers_once : AllByRecursion (IsOnceAt asks v) (numbers_of w.driver e)
  transfers_once = subst (AllByRecursion (IsOnceAt asks v)) (numbers_told w.driver e) (by_walk (may_meet d e y) refl)

  pub all_once : AreOnce asks v w.driver e
  all_once = windows_once asks v (numbers_of w.driver e) transfers_once

  -- ---- the lines tell of them

  told_so : (left : List Window) → RequestsAreToldTo d y.desc.name (g.whole y.desc.name) (windows_of d asks v e) left
      → RequestsAreToldTo w.driver x.desc.name (g.whole x.desc.name) (windows_of w.driver asks v e) left
  told_so left tells =
      subst (λ (z : EpName). RequestsAreToldTo w.driver z (g.whole z) (windows_of w.driver asks v e) left) name
      (subst (λ (ts : List ℕ). RequestsAreToldTo w.driver y.desc.name (g.whole y.desc.name) (map (window_at asks v) ts) left)
      (numbers_told w.driver e) tells)

  pub lines_tell : x.cancelled ≡ false
      → AreTold (g.whole x.desc.name) (report_of fixed w).store (windows_of w.driver asks v e) (lines_of (report_of fixed w) x.desc.name)
  lines_tell stays =
      let t = h.world.telling e y (met (left_or y.linked _ (linked (going stays) y.linked refl))) in
      report_tells fixed w x.desc.name (g.whole x.desc.name) (windows_of w.driver asks v e) _
      (told_so _ (telling_is_told d asks e y.desc.name (g.whole y.desc.name) v t.reported _ t.telling))

  -- ---- the device counts them

  module _ (apart : AreApart w.bus.devices) (few : length (windows_of w.driver asks v e) ≤ 4294967295) where
    counted : IsCountedNow fixed w v e x
    counted =
        let c = h.world.counts e y (record { here = here; control = asked_so }) opened_so in
        record {
          device = c.device;
          is = ap (λ (z : EpName). control_of (wired fixed w) z.addr z.num) (sym name) ∙ c.is;
          acted = c.acted ∙ ap (λ (ts : List ℕ). counted_all v ts 0) (numbers_told w.driver e);
        }

    found : HasControl (wired fixed w) x.desc.name.addr x.desc.name.num counted.device
    found = control_found (wired fixed w) x.desc.name.addr x.desc.name.num counted.device counted.is

    abbrev test : Seat → Bool
    test s = suits s.name x.desc.name.addr x.desc.name.num Setup

    seat_suits : test found.seat ≡ true
    seat_suits =
        subst (λ (s : Seat). test s ≡ true) (get_or_from_slice_get fixed.seats found.place found.seat found.seat found.there)
        (position-Some test fixed.seats found.place found.seat found.found).1

    seat_name : found.seat.name ≡ x.desc.name
    seat_name =
        let first = and_parts (found.seat.name.addr == x.desc.name.addr) (found.seat.name.num == x.desc.name.num && takes_token found.seat.name.way Setup) seat_suits in
        let second = and_parts (found.seat.name.num == x.desc.name.num) (takes_token found.seat.name.way Setup) first.1 in
        name_is found.seat.name x.desc.name (eqb-true found.seat.name.addr x.desc.name.addr first.0)
        (eqb-true found.seat.name.num x.desc.name.num second.0) (setup_way found.seat.name.way second.1 ∙ sym its_way)

    abbrev seated : EpDesc
    seated = record x.desc { kind = found.seat.kind }

    pub closing_counts : acted (report_of fixed w) x.desc.name ≡ Some (length (filter has_acted (windows_of w.driver asks v e)))
    closing_counts =
        report_counts fixed w seated (windows_of w.driver asks v e)
        (record {
          way = its_way;
          seat = record { place = found.place; seat = found.seat; here = found.there; name = seat_name; kind = refl };
          apart = apart;
          is_open = is_opened w.driver e x k.here;
          device = counted.device;
          is = counted.is;
          counts = counted.acted ∙ counts_are_acts asks v (numbers_of w.driver e) transfers_once;
          few = few;
        })

-- ---- each moment of a script

module _ (text : List ℕ) (s : Script) (spelled : Spells text s) where
  world_at : (n : ℕ) → HasHighAsks (high_sides_of s) (fixed_of s) (pipes_of s) (windows_at s n) (asks_at s n) (moment s n).world
  world_at n = texts_have_high_asks text s spelled n

  windows_few : (n e : ℕ) (x : Endpoint) → IsOpenControl (moment s n).world.driver e x → length (windows_then s n e) ≤ 4294967295
  windows_few n e x k =
      let ts : List ℕ = numbers_of (moment s n).world.driver e in
      let begun = (moments_ask s (texts_rise text s spelled) n).begin e x k.here k.control in
      let windows = length-map ts (window_at (asks_at s n) (windows_at s n)) in
      let asked_all = length-map ts (asks_at s n) in
      let joined = length-append (map (asks_at s n) ts) begun.0 in
      let same = ap (λ (rs : List Request). length rs) begun.1 in
      let most = requests_few text s (report_at s n) x.desc.name spelled in
      omega (arith, windows, asked_all, joined, same, most)

  is_asked : (n e : ℕ) (x : Endpoint) → IsOfDevice s n e x → (high_sides_of s).asks (queued_desc x.desc) ≡ true
  is_asked n e x k =
      let z : IsSuited (high_sides_of s) x.desc = (world_at n).suited e x k.opened.here in
      let way : x.desc.name.way ≡ ways.Ctl = (control_zero x.desc.kind x.desc.name k.opened.control z.name).1 in
      let none : is_some x.desc.hub ≡ false = z.below ∙ ap (λ (speed : Speed). not (is_high speed)) k.high in
      and_from (is_of_device s (queued_desc x.desc)) (not (is_some x.desc.hub))
      (and_from (is_control (queued_kind x.desc.name.way)) (not (is_of_hub s x.desc.name.addr))
      (ap (λ (w : Way). is_control (queued_kind w)) way) (ap not k.device))
      (ap not none)

  whole_told : (n e : ℕ) (x : Endpoint) → IsOfDevice s n e x
      → AreTold (data_of s x.desc.name) (report_at s n).store (windows_then s n e) (lines_of (report_at s n) x.desc.name)
  whole_told n e x k = by x.cancelled refl
    where
      by : (b : Bool) → x.cancelled ≡ b
          → AreTold (data_of s x.desc.name) (report_at s n).store (windows_then s n e) (lines_of (report_at s n) x.desc.name)
      by true off = texts_tell_cancels text s spelled n e x k.opened.here k.opened.control (is_asked n e x k) off
      by false going =
          lines_tell (high_sides_of s) (fixed_of s) (pipes_of s) (windows_at s n) (asks_at s n) (moment s n).world (world_at n) e x
          k.opened (is_asked n e x k) going

  kept_at : (n e : ℕ) (x : Endpoint) → IsOfDevice s n e x → RequestsAreKept s n e x
  kept_at n e x k =
      let g : Sides = high_sides_of s in
      let w : World = (moment s n).world in
      let h = world_at n in
      let on = is_asked n e x k in
      record {
        once = all_once g (fixed_of s) (pipes_of s) (windows_at s n) (asks_at s n) w h e x k.opened on;
        told = whole_told n e x k;
        counted = closing_counts g (fixed_of s) (pipes_of s) (windows_at s n) (asks_at s n) w h e x k.opened on
            (moment_is_seated text s n spelled).apart (windows_few n e x k.opened);
      }

  all_at_the_end : (n e : ℕ) (x : Endpoint) → (moment s n).orders ≡ [] → IsOfDevice s n e x
      → map (λ u. u.request) (windows_then s n e) ≡ requests s (report_at s n) x.desc.name
  all_at_the_end n e x over k =
      report_numbers s n e x (windows_at s n) (texts_rise text s spelled) over k.opened.here k.opened.control

  right_at_the_end : (n e : ℕ) (x : Endpoint) → (moment s n).orders ≡ [] → IsOfDevice s n e x
      → AreRightRequests s (report_at s n) x.desc.name (windows_then s n e)
  right_at_the_end n e x over k =
      let now = kept_at n e x k in
      record { numbered = all_at_the_end n e x over k; once = now.once; lines_told = whole_told n e x k; counted = now.counted }

pub texts_keep_requests : TextsKeepRequests
texts_keep_requests text s spelled = record { throughout = kept_at text s spelled; at_the_end = right_at_the_end text s spelled }
