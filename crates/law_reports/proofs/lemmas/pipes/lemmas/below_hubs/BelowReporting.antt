-- The report of a world tells the streams of bulk OUT endpoints below hubs.
use Rattle.std.proofs.Common.{◌≡◌, ◌≢◌, ℕ, ◌*◌, true, false, List, [], ◌++◌, slice_get, Option, Some, None, ap, refl, sym}
use Rattle.std.proofs.Common.{subst, ◌∙◌, ⊎_elim}
use Rattle.std.specs.List.{concat}
use Rattle.std.specs.Option.{option_and_then}
use Rattle.std.proofs.lemmas.Bool.{and_parts, cases_Bool}
use Rattle.std.proofs.lemmas.List.{append-nil}
use Rattle.law_common.proofs.Lists.{all_two}
use Rattle.law_driver.proofs.Common.{of_queue}
use Rattle.law_reports.proofs.Common.{no_iso}
use Rattle.law_world.proofs.Common2.{told_first}
use Rattle.law_world.proofs.Common.{begins_both, device_found, met_or_not}
use Rattle.usb_base.specs.declared.endpoints.EpDesc.{EpDesc}
use Rattle.usb_base.specs.declared.endpoints.EpName.{EpName}
use Rattle.usb_base.specs.declared.packets.Way.{Way}
use Rattle.usb_base.specs.declared.packets.Way.TheVariants as ways
use Rattle.script_types.specs.declared.scripts.Script.{Script}
use Rattle.claims_base.specs.Prefix.{IsPrefix}
use Rattle.bus_wire.specs.declared.seats.Seat.{Seat}
use Rattle.bus_wire.specs.declared.seats.TokenKind.TheVariants as Tokens
use Rattle.bus_wire.specs.Seats.{place_for}
use Rattle.bus_wire.specs.Bus.{Wired, Fixed, fixed_of}
use Rattle.claims_report.specs.Reports.{WholeReport, taken}
use Rattle.claims_report.specs.Streams.{opened, stream, told, told_in, has_stream, IsRightOut, AreBytesRight, IsRightStream}
use Rattle.claims_driver.specs.Scripts.{receives}
use Rattle.claims_world.specs.Ends.{IsEndedOnce}
use Rattle.claims_world.specs.Streams.{report_of, IsToldTaken, IsTakenStream, IsTakenSent}
use Rattle.claims_world.specs.BelowStreams.{is_out_below, has_hub, is_claimed_below}
use Rattle.claims_world.specs.BelowStreams.{AreBelowTakenStreams, AreBelowSentStreams, AreBelowStreams}
use Rattle.drv_table.specs.declared.content.Command.TheVariants as unfinished
use Rattle.drv_table.specs.declared.content.Endpoint.{Endpoint}
use Rattle.drv_table.specs.DriverContent.{opened as opened_by}
use Rattle.drv_table.specs.Kinds.{is_iso}
use Rattle.law_driver.specs.chained_transfers.Bulk.{IsDataWay}
use Rattle.law_driver.specs.queued_drivers.Queued.{queued_endpoint, queued}
use Rattle.law_driver_ring.specs.fed_queues.Places.{IsThere}
use Rattle.law_queues.specs.told_endpoints.Telling.{lines_in}
use Rattle.law_ring.specs.OutBus.{Taker}
use Rattle.law_devices.specs.scripted_takers.Takers.{taker_of_device}
use Rattle.law_devices.proofs.lemmas.scripted_takers.Asking.{IsAtDevice, device_found as taker_device}
use Rattle.law_below_hubs.specs.HostOuts.{listed, IsTakenBetween}
use Rattle.law_below_hubs.specs.Seated.{device_place, end_seated, end_placed, taker_at}
use Rattle.law_below_hubs.proofs.HostBegins.{out_is_taken}
use Rattle.law_world.specs.steps.Streaming.{wired}
use Rattle.law_world.specs.streams.put_laws.TakenLaws.{StreamsArePuts}
use Rattle.law_world.specs.streams.put_laws.TakenPuts.{puts_of, IsOpen}
use Rattle.law_world.specs.streams.taken_reports.Seats.{HasSeat, AreApart, IsSeatedBus}
use Rattle.law_world.proofs.lemmas.streams.lemmas.right_reports.Named.{HasNamed, NoneNamed, search}
use Rattle.law_world.proofs.lemmas.streams.lemmas.sending_worlds.Named.{named_opened, named_or_not}
use Rattle.law_world.proofs.lemmas.streams.lemmas.sending_worlds.Untold.{untold}
use Rattle.law_world.proofs.lemmas.streams.lemmas.taken_reports.Closing.{taken_there, first_at}
use Rattle.law_world.proofs.lemmas.streams.lemmas.taken_reports.Telling.{no_bytes}
use Rattle.bus_world.specs.Orders.{OrderedWorld}
use Rattle.bus_world.specs.World.{World}
use Rattle.law_reports.specs.lines.TellingLaws.{IsToldWorld}
use Rattle.law_reports.proofs.lemmas.lines.Ended.{ended_once}
use Rattle.law_reports.specs.pipes.Declared.{sides_of}
use Rattle.law_reports.specs.pipes.high_streams.Names.{HasItsNames}
use Rattle.law_reports.specs.pipes.high_streams.Opened.{AreOpened}
use Rattle.law_reports.specs.pipes.below_hubs.Behind.{Spots, sent_in, Within, HasLeft, HasBehind}
use Rattle.law_reports.specs.pipes.below_hubs.BehindLaws.{spots_of}
use Rattle.law_reports.proofs.lemmas.pipes.Names.{queue_same}
use Rattle.law_reports.proofs.lemmas.pipes.lemmas.below_hubs.BehindControlled.{claimed_stream}
use Rattle.law_reports.proofs.lemmas.pipes.lemmas.below_hubs.BehindDriven.{begun, new_begins, left_less}
use Rattle.law_reports.proofs.lemmas.pipes.lemmas.below_hubs.BelowTexts.{opens_found, claimed_out}
use Rattle.law_reports.proofs.lemmas.pipes.lemmas.high_streams.Lives.{IsTold, lines_told, is_told, nothing_told}
use Rattle.law_reports.proofs.lemmas.pipes.lemmas.high_streams.Lives.IsTold.{told_then, told_none, told_there}
use Rattle.law_reports.proofs.lemmas.pipes.lemmas.high_streams.Reporting.{all_kept, IsSeated, opened_seated, not_control}
use Rattle.law_reports.proofs.lemmas.pipes.lemmas.puts.Driving.{puts_real}

-- ---- what its device took

pub record HasDevice (w : Wired) (addr ep : ℕ) (t : Taker) : Type 0 where
  place : ℕ
  at : IsAtDevice addr ep (slice_get w.bus.devices place) t

module _ (w : Wired) (addr ep : ℕ) (t : Taker) where
  of_place : (o : Option ℕ) → taker_of_device addr ep (option_and_then (λ i. slice_get w.bus.devices i) o) ≡ Some t → HasDevice w addr ep t
  of_place None e = absurd cc
  of_place (Some i) e = record { place = i; at = taker_device addr ep (slice_get w.bus.devices i) t e }

  of_seat : (o : Option Seat) → end_seated taker_of_device w.bus.devices addr ep o ≡ Some t → HasDevice w addr ep t
  of_seat None e = absurd cc
  of_seat (Some seat) e = of_place (device_place seat.owner) e

  of_found : (o : Option ℕ) → end_placed taker_of_device w.fixed w.bus.devices addr ep o ≡ Some t → HasDevice w addr ep t
  of_found None e = absurd cc
  of_found (Some i) e = of_seat (slice_get w.fixed.seats i) e

  pub has_device : taker_at w addr ep ≡ Some t → HasDevice w addr ep t
  has_device e = of_found (place_for w.fixed.seats addr ep Tokens.Out) e

-- the closing line tells it
closes : (fixed : Fixed) (w : World) (x : EpDesc) (t : Taker) → x.name.way ≡ ways.Out → has_stream x.kind ≡ true → HasSeat fixed.seats x
    → AreApart w.bus.devices → opened_by w.driver x.name ≡ true → taker_at (wired fixed w) x.name.addr x.name.num ≡ Some t
    → taken (report_of fixed w) x.name ≡ Some t.taken
closes fixed w x t way streams k apart on is =
    let h : HasDevice (wired fixed w) x.name.addr x.name.num t = has_device (wired fixed w) x.name.addr x.name.num t is in
    first_at w x.name way on h.at.device
    (device_found w.bus.devices h.place x.name.addr h.at.device apart h.at.is h.at.address) t.taken
    (taken_there h.at.device x.name t way (record { device = h.at.device; is = refl; address = h.at.address; at = h.at.at })) fixed.seats
    k.place k.seat k.here k.name (ap has_stream k.kind ∙ streams)

-- ---- what was sent

sent_listed : (known : List ℕ) (next : Option (List ℕ)) → known ++ concat (listed next) ≡ sent_in known next
sent_listed known None = append-nil known
sent_listed known (Some x) = ap (λ (bs : List ℕ). known ++ bs) (append-nil x)

-- ---- a moment of a run

module _ (s : Script) (p : OrderedWorld) (puts : ℕ → List ℕ)
    (a : HasBehind (fixed_of s) (sides_of s) (spots_of s) puts p.world) (opens : AreOpened s p.world.driver) (names : HasItsNames s)
    (seated : IsSeatedBus s (fixed_of s) p.world.bus) (are : StreamsArePuts s p puts) where
  abbrev w : World
  w = p.world

  abbrev r : WholeReport
  r = report_of (fixed_of s) p.world

  abbrev o : Spots
  o = spots_of s

  abbrev wire : Wired
  wire = wired (fixed_of s) p.world

  h : IsToldWorld p.world
  h = record {
    standing = a.standing;
    lines = a.lines;
    mixed = a.piped.mixed;
    telling = a.piped.telling;
    going = a.piped.going;
  }

  abbrev Left : ℕ → ℕ → List ℕ → Type 0
  Left = HasLeft (spots_of s) (wired (fixed_of s) p.world) (Within puts p.world.driver)

  module _ (x : EpDesc) (claims : is_claimed_below s x ≡ true) (seat : IsSeated s x) where
    bulk : is_out_below x ≡ true
    bulk = (and_parts (is_out_below x) (has_hub s x.hub x.port) claims).0

    streams : has_stream x.kind ≡ true
    streams = claimed_stream x bulk

    way : x.name.way ≡ ways.Out
    way = claimed_out x bulk

    other : x.name.way ≢ ways.Ctl
    other = not_control x streams (names.ways x seat.0)

    end : IsEndedOnce r x.name
    end = ended_once (fixed_of s) w h x.name other

    module _ (k : HasNamed p.world.driver.endpoints x.name) where
      same : k.endpoint.desc ≡ x
      same = names.once k.endpoint.desc x (opens k.number k.endpoint k.here) seat.0 k.same
          (λ is. other (ap (λ (n : EpName). n.way) (sym k.same) ∙ is))

      abbrev y : Endpoint
      y = k.endpoint

      its_way : k.endpoint.desc.name.way ≡ ways.Out
      its_way = ap (λ (n : EpName). n.way) k.same ∙ way

      its_streams : has_stream k.endpoint.desc.kind ≡ true
      its_streams = ap (λ (d : EpDesc). has_stream d.kind) same ∙ streams

      its_other : k.endpoint.desc.name.way ≢ ways.Ctl
      its_other is = other (ap (λ (n : EpName). n.way) (sym k.same) ∙ is)

      on : (spots_of s).has k.endpoint.desc.name.addr k.endpoint.desc.name.num ≡ true
      on = ap (λ (n : EpName). o.has n.addr n.num) k.same ∙ opens_found s x seat.0 claims

      -- what it told is known to be taken
      there_left : IsThere (queued p.world.driver) (queued_endpoint k.endpoint)
          → Left k.endpoint.desc.name.addr k.endpoint.desc.name.num (concat (a.lines.acc (32 * k.endpoint.queue)))
      there_left there =
          begun (fixed_of s) (sides_of s) o a.standing a.lines a.heads puts w a.piped a.pays a.behind k.number y k.here its_way on there

      abbrev Lesser : (addr ep : ℕ) (bytes more : List ℕ) → IsPrefix bytes more → Left addr ep more → Left addr ep bytes
      Lesser = left_less (spots_of s) (wired (fixed_of s) p.world) (Within puts p.world.driver)

      no_left : Left k.endpoint.desc.name.addr k.endpoint.desc.name.num []
      no_left =
          let addr : ℕ = y.desc.name.addr in
          let num : ℕ = y.desc.name.num in
          ⊎_elim
          (λ (gone : y.gone ≡ true).
          Lesser addr num [] (told_in w.driver.store (lines_in y.desc.name w.driver.reports))
          (told_in w.driver.store (lines_in y.desc.name w.driver.reports), refl) (a.behind.left.gone k.number y k.here its_way on gone))
          (λ (kept : y.gone ≡ false).
          let iso : is_iso y.desc.kind ≡ false = no_iso y.desc.kind its_streams in
          ⊎_elim
          (λ (opening : (queued w.driver).command ≡ Some (unfinished.Open (queued_endpoint y).queue)).
          new_begins (fixed_of s) (sides_of s) o a.standing a.lines a.heads puts w a.piped a.pays a.behind k.number y k.here its_way on
          (record { kept = kept; queue = iso; command = opening ∙ ap (λ (q : ℕ). Some (unfinished.Open q)) (queue_same y) }))
          (λ (linked : (queued w.driver).command ≢ Some (unfinished.Open (queued_endpoint y).queue)).
          Lesser addr num [] (concat (a.lines.acc (32 * y.queue))) (concat (a.lines.acc (32 * y.queue)), refl)
          (there_left (record { linked = linked; kept = ap (λ (v : Endpoint). v.gone) (of_queue y iso) ∙ kept })))
          (met_or_not (queued w.driver).command (queued_endpoint y).queue))
          (cases_Bool y.gone)

      abbrev told_each : List ℕ
      told_each = h.telling.told.told k.number

      by_told : IsTold p.world h k.number k.endpoint
          → Left k.endpoint.desc.name.addr k.endpoint.desc.name.num (h.telling.told.told k.number)
      unfolding h
      by_told (told_then gone is) =
          subst (Left y.desc.name.addr y.desc.name.num) (sym is) (a.behind.left.gone k.number y k.here its_way on gone)
      by_told (told_none is) = subst (Left y.desc.name.addr y.desc.name.num) (sym is) no_left
      by_told (told_there there front) =
          Lesser y.desc.name.addr y.desc.name.num told_each (concat (a.lines.acc (32 * y.queue))) front (there_left there)

      l : Left k.endpoint.desc.name.addr k.endpoint.desc.name.num (h.telling.told.told k.number)
      l = by_told (is_told w h k.number y k.here its_streams its_other)

      t : IsTakenBetween (taker_at (wired (fixed_of s) p.world) k.endpoint.desc.name.addr k.endpoint.desc.name.num) l.known
          (l.known ++ concat (listed l.next))
      t = out_is_taken _ (o.hub y.desc.name.addr y.desc.name.num) (o.place y.desc.name.addr y.desc.name.num) wire l.toggle l.waiting l.known
          l.next l.side

      closing : taken (report_of (fixed_of s) p.world) x.name ≡ Some t.taker.taken
      closing =
          closes (fixed_of s) w x t.taker way streams (seat.1 (subst IsDataWay (sym way) tt)) seated.apart (named_opened w.driver x.name k)
          (ap (λ (n : EpName). taker_at wire n.addr n.num) (sym k.same) ∙ t.is)

      sum : told r x.name ++ h.telling.told.held k.number ≡ h.telling.told.told k.number
      sum =
          ap (λ (n : EpName). told r n ++ h.telling.told.held k.number) (sym k.same)
          ∙ lines_told w h k.number y k.here its_streams its_other

      told_begins : IsPrefix (told r x.name) t.taker.taken
      told_begins =
          told_first (told r x.name) (h.telling.told.held k.number) told_each t.taker.taken sum
          (begins_both told_each l.known t.taker.taken l.begins t.all_known)

      sent_begins : IsPrefix t.taker.taken (stream s r x.name)
      sent_begins =
          let all : List ℕ = concat (puts_of w.driver puts k.number) in
          let within : IsPrefix (sent_in l.known l.next) (concat (puts_of w.driver puts k.number)) =
          subst (IsPrefix (sent_in l.known l.next)) (ap concat (puts_real w.driver puts k.number))
          (l.within k.number y k.here its_way refl refl) in
          let sent : IsPrefix t.taker.taken (sent_in l.known l.next) =
          subst (IsPrefix t.taker.taken) (sent_listed l.known l.next) t.all_sent in
          subst (λ (n : EpName). IsPrefix t.taker.taken (stream s r n)) k.same
          (begins_both t.taker.taken all (stream s r y.desc.name) (begins_both t.taker.taken (sent_in l.known l.next) all sent within)
          (are.begin k.number y k.here its_streams (ap receives its_way)))

      pub taken_there_so : IsToldTaken (told r x.name) (taken r x.name)
      taken_there_so = subst (IsToldTaken (told r x.name)) (sym closing) told_begins

      pub sent_there : IsTakenSent (taken r x.name) (stream s r x.name)
      sent_there = subst (λ (b : Option (List ℕ)). IsTakenSent b (stream s r x.name)) (sym closing) sent_begins

      pub right_there : IsRightStream s (report_of (fixed_of s) p.world) x.name
      right_there = record {
        bytes = subst (λ (z : Way). AreBytesRight z s r x.name) (sym way)
            (subst (λ (b : Option (List ℕ)). IsRightOut (told r x.name) b (stream s r x.name)) (sym closing) (told_begins, sent_begins));
        once = end.once;
        whole = end.whole;
      }

    pub taken_so : IsTakenStream (report_of (fixed_of s) p.world) x.name
    taken_so = record {
      bytes = ⊎_elim (λ (k : HasNamed w.driver.endpoints x.name). taken_there_so k)
          (λ (none : NoneNamed w.driver.endpoints x.name).
          subst (λ (xs : List ℕ). IsToldTaken xs (taken r x.name)) (sym (ap (told_in w.driver.store) (nothing_told w h x.name none)))
          (no_bytes (taken r x.name)))
          (search w.driver.endpoints x.name);
      once = end.once;
      whole = end.whole;
    }

    pub sent_so : IsTakenSent (taken (report_of (fixed_of s) p.world) x.name) (stream s (report_of (fixed_of s) p.world) x.name)
    sent_so =
        ⊎_elim (λ (k : HasNamed w.driver.endpoints x.name). sent_there k)
        (λ (off : opened_by w.driver x.name ≡ false).
        subst (λ (b : Option (List ℕ)). IsTakenSent b (stream s r x.name)) (sym (untold w x.name off (fixed_of s))) tt)
        (named_or_not w.driver x.name)

  -- ---- each that is claimed

  pub below_taken : AreBelowTakenStreams s (report_of (fixed_of s) p.world)
  below_taken =
      all_kept (IsSeated s) (λ x. IsTakenStream (report_of (fixed_of s) p.world) x.name) (is_claimed_below s) (opened s r)
      (λ x seat is. taken_so x is seat) (opened_seated s r seated.seats)

  pub below_sent : AreBelowSentStreams s (report_of (fixed_of s) p.world)
  below_sent =
      all_kept (IsSeated s)
      (λ x. IsTakenSent (taken (report_of (fixed_of s) p.world) x.name) (stream s (report_of (fixed_of s) p.world) x.name))
      (is_claimed_below s) (opened s r) (λ x seat is. sent_so x is seat) (opened_seated s r seated.seats)

  pub below_right : p.orders ≡ [] → AreBelowStreams s (report_of (fixed_of s) p.world)
  below_right none =
      all_kept (λ x. IsSeated s x × IsOpen p.world.driver x) (λ x. IsRightStream s (report_of (fixed_of s) p.world) x.name)
      (is_claimed_below s) (opened s r)
      (λ x both is.
      right_there x is both.0
      (record {
        number = both.1.number;
        endpoint = both.1.endpoint;
        here = both.1.here;
        same = ap (λ (z : EpDesc). z.name) both.1.same;
      }))
      (all_two (IsSeated s) (IsOpen p.world.driver) (opened s r) (opened_seated s r seated.seats) (are.opened none))
