-- What is told of each OUT endpoint begins what the closing line tells.
use Rattle.std.proofs.Common.{◌≡◌, ℕ, Bool, true, false, not, ◌&&◌, if◌then◌else◌, List, [], ◌∷◌, ◌++◌, filter, filter_map, slice_get, Option, Some, None, ap, refl, sym, subst, ◌∙◌, ⊎_elim}
use Rattle.std.specs.Prelude.{is_none, is_some}
use Rattle.std.specs.Option.{option_map, option_and_then}
use Rattle.std.specs.List.{AllByRecursion, list_any}
use Rattle.std.proofs.lemmas.Bool.{false≢true}
use Rattle.std.proofs.lemmas.Option.{same_Some}
use Rattle.law_common.proofs.Booleans.{not_on, and_right, first_of_both}
use Rattle.law_driver.proofs.Common.{out_way}
use Rattle.law_world.proofs.Common2.{told_first}
use Rattle.usb_base.specs.declared.commands.Cmd.{Cmd}
use Rattle.usb_base.specs.declared.commands.Cmd.TheVariants as commands
use Rattle.usb_base.specs.declared.endpoints.EndCause.{EndCause}
use Rattle.usb_base.specs.declared.endpoints.EpDesc.{EpDesc}
use Rattle.usb_base.specs.declared.endpoints.EpName.{EpName}
use Rattle.usb_base.specs.declared.packets.Way.{Way}
use Rattle.usb_base.specs.declared.packets.Way.TheVariants as Ways
use Rattle.usb_base.specs.declared.reports.Report.{Report}
use Rattle.script_types.specs.declared.scripts.Line.{Line}
use Rattle.script_types.specs.declared.scripts.Line.TheVariants as lines
use Rattle.script_types.specs.declared.scripts.Script.{Script}
use Rattle.bus_wire.specs.declared.seats.Seat.{Seat}
use Rattle.bus_wire.specs.Fates.{is_same_name}
use Rattle.bus_wire.specs.Bus.{Fixed}
use Rattle.law_ring.specs.OutBus.{Taker}
use Rattle.law_devices.specs.scripted_takers.Takers.{taker_of}
use Rattle.claims_report.specs.Reports.{WholeReport, is_end, is_pending, taken}
use Rattle.claims_report.specs.Streams.{is_refused, command_in, accepted_in, open_in, opened as opened_by, has_stream, told, told_in, ends_once, ends_whole}
use Rattle.drv_table.specs.declared.content.Endpoint.{Endpoint}
use Rattle.drv_table.specs.DriverContent.{DriverContent, endpoint_of, endpoint_named, opened, ended}
use Rattle.law_driver.specs.endpoint_lives.Lives.{told_end}
use Rattle.law_driver.proofs.lemmas.endpoint_lives.Lives.{told_some}
use Rattle.law_queues.specs.told_endpoints.Telling.{named_of, named_in, lines_in, IsToldTo, TellsEach}
use Rattle.law_queues.proofs.lemmas.told_endpoints.Lines.{once_without}
use Rattle.bus_world.specs.World.{World}
use Rattle.law_world.specs.steps.Streaming.{wired}
use Rattle.claims_driver.specs.Scripts.{receives}
use Rattle.law_driver.specs.AsynchronousScripts.{IsKindOf}
use Rattle.law_driver.specs.chained_transfers.Asynchronous.{OnlyAsynchronous}
use Rattle.law_driver.specs.chained_transfers.Bulk.{IsDataWay}
use Rattle.claims_world.specs.Streams.{closings_of, report_of, IsToldTaken, IsTakenStream}
use Rattle.law_world.specs.streams.Asynchronous.{AreTakenStreams}
use Rattle.law_world.proofs.lemmas.streams.lemmas.right_reports.Named.{HasNamed, NoneNamed, search, named_is, none_pending}
use Rattle.law_world.proofs.lemmas.streams.lemmas.right_reports.Right.{all_mapped}
use Rattle.law_world.specs.streams.taken_reports.Seats.{HasSeat, OpensItsSeat, OpensSeats, IsSeatedBus}
use Rattle.law_world.specs.streams.taken_reports.Laws.{bytes_taken, TakesEach}
use Rattle.law_world.proofs.lemmas.streams.lemmas.taken_reports.Closing.{closing_tells_taker}

-- ---- lists

all_kept : {X : Type 0} (Q P : X → Type 0) (p : X → Bool) (xs : List X) → ((x : X) → Q x → p x ≡ true → P x) → AllByRecursion Q xs → AllByRecursion P (filter p xs)
all_kept Q P p [] gives k = tt
all_kept Q P p (x ∷ xs) gives k = kept (p x) refl (all_kept Q P p xs gives k.1)
  where
    kept : (b : Bool) → p x ≡ b → AllByRecursion P (filter p xs) → AllByRecursion P (if b then x ∷ filter p xs else filter p xs)
    kept true is rest = (gives x k.0 is, rest)
    kept false is rest = rest

-- ---- what is opened

-- it has its seat, if its data go one way
abbrev IsSeated : List Seat → EpDesc → Type 0
IsSeated seats x = IsDataWay x.name.way → HasSeat seats x

accepted_by : (seats : List Seat) (b : Bool) (l : Line) (cmd : Cmd) → OpensItsSeat seats l → (if b then None else command_in l) ≡ Some cmd → OpensItsSeat seats (lines.Command cmd)
accepted_by seats true l cmd k is = absurd cc
accepted_by seats false (lines.Command c) cmd k is = subst (λ (z : Cmd). OpensItsSeat seats (lines.Command z)) (same_Some c cmd is) k
accepted_by seats false (lines.Order event n) cmd k is = absurd cc
accepted_by seats false (lines.Micro n) cmd k is = absurd cc
accepted_by seats false (lines.Plug n) cmd k is = absurd cc
accepted_by seats false (lines.Unplug n) cmd k is = absurd cc

opens_by : (seats : List Seat) (cmd : Cmd) (desc : EpDesc) → OpensItsSeat seats (lines.Command cmd) → open_in cmd ≡ Some desc → IsSeated seats desc
opens_by seats (commands.OpenEp x) desc k is = subst (IsSeated seats) (same_Some x desc is) k
opens_by seats _ desc k is = absurd cc

opened_seated : (s : Script) (seats : List Seat) (r : WholeReport) → OpensSeats s seats → AllByRecursion (IsSeated seats) (opened_by s r)
opened_seated s seats r has =
    all_mapped (λ cmd. OpensItsSeat seats (lines.Command cmd)) (IsSeated seats) open_in (filter_map (accepted_in r) s.lines) (opens_by seats)
    (all_mapped (λ line. OpensItsSeat seats line.1) (λ cmd. OpensItsSeat seats (lines.Command cmd)) (accepted_in r) s.lines (λ line cmd seat is. accepted_by seats (is_refused r line.0) line.1 cmd seat is) has)

all_taken : (s : Script) (seats : List Seat) (r : WholeReport) → OpensSeats s seats → ((x : EpDesc) → has_stream x.kind ≡ true → HasSeat seats x → x.name.way ≡ Ways.Out → IsTakenStream r x.name)
    → AreTakenStreams s r
all_taken s seats r has each =
    all_kept (IsSeated seats) (λ desc. IsTakenStream r desc.name) (λ desc. has_stream desc.kind && not (receives desc.name.way)) (opened_by s r)
    (λ x k is.
    let way = out_way x.name.way (not_on (receives x.name.way) (and_right (has_stream x.kind) (not (receives x.name.way)) is)) in
    each x (first_of_both (has_stream x.kind) (not (receives x.name.way)) is) (k (subst IsDataWay (sym way) tt)) way)
    (opened_seated s seats r has)

-- ---- bytes

pub no_bytes : (o : Option (List ℕ)) → IsToldTaken [] o
no_bytes None = refl
no_bytes (Some taken) = (taken, refl)

pub first_none : (xs ys : List ℕ) → xs ++ ys ≡ [] → xs ≡ []
first_none [] ys is = refl
first_none (x ∷ xs) ys is = absurd cc

-- ---- one endpoint

-- it has a stream
pub out_stream : (d : DriverContent) (e : ℕ) (x : Endpoint) → OnlyAsynchronous d → slice_get d.endpoints e ≡ Some x → receives x.desc.name.way ≡ false → has_stream x.desc.kind ≡ true
out_stream d e x only here sends = by x.desc.name.way (only.endpoints e x here).asynchronous.kind sends
  where
    by : (way : Way) → IsKindOf way x.desc.kind → receives way ≡ false → has_stream x.desc.kind ≡ true
    by Ways.Out kind is = ap has_stream kind
    by Ways.In kind is = absurd (false≢true (sym is))
    by Ways.Ctl kind is = absurd (false≢true (sym is))

module _ (fixed : Fixed) (w : World) (held told_each : ℕ → List ℕ) (tells : TellsEach w.driver.reports w.driver.store (named_in w.driver.endpoints) held told_each) (only : OnlyAsynchronous w.driver) where
  abbrev r : WholeReport
  r = report_of fixed w

  -- nothing is told of an endpoint that the driver hasn't
  nothing_told : (name : EpName) → lines_in name w.driver.reports ≡ [] → IsTakenStream r name
  nothing_told name none = record {
    bytes = subst (λ (xs : List ℕ). IsToldTaken xs (taken r name)) (sym (ap (told_in w.driver.store) none)) (no_bytes (taken r name));
    once = ap ends_once none;
    whole = ap (λ (ls : List Report). not (list_any (λ line. is_end line.what) ls && list_any (is_pending name) (closings_of fixed w))) none;
  }

  not_both : (b : Bool) → not (b && false) ≡ true
  not_both true = refl
  not_both false = refl

  module _ (name : EpName) (sends : receives name.way ≡ false) (k : HasNamed w.driver.endpoints name) where
    to : IsToldTo w.driver.reports w.driver.store (named_of k.endpoint) (held k.number) (told_each k.number)
    to = tells.each k.number (named_of k.endpoint) (ap (option_map named_of) k.here) (out_stream w.driver k.number k.endpoint only k.here (ap (λ (n : EpName). receives n.way) k.same ∙ sends))

    is_named : endpoint_named w.driver name ≡ Some k.endpoint
    is_named =
        named_is w.driver name k
        (λ i y at alike.
        tells.apart i k.number (named_of y) (named_of k.endpoint) (ap (option_map named_of) at) (ap (option_map named_of) k.here) (ap (λ (n : EpName). is_same_name y.desc.name n) k.same ∙ alike))

    is_opened : opened w.driver name ≡ true
    is_opened = by_place (endpoint_of w.driver name) is_named
      where
        by_place : (o : Option ℕ) → option_and_then (λ e. slice_get w.driver.endpoints e) o ≡ Some k.endpoint → is_some o ≡ true
        by_place None none = absurd cc
        by_place (Some e) some = refl

    sum : told r name ++ held k.number ≡ told_each k.number
    sum = ap (λ (n : EpName). told r n ++ held k.number) (sym k.same) ∙ to.sum

    once_by : (end : Option EndCause) → told_end k.endpoint ≡ end → ends_once (lines_in k.endpoint.desc.name w.driver.reports) ≡ true
    once_by None still = once_without (lines_in k.endpoint.desc.name w.driver.reports) (to.going still)
    once_by (Some cause) over = (to.over cause over).1

    ended_is : (end : Option EndCause) → k.endpoint.ended ≡ end → ended w.driver name ≡ end
    ended_is end same = ap (λ (e : Option Endpoint). option_and_then (λ y. y.ended) e) is_named ∙ same

    whole_by : (end : Option EndCause) → told_end k.endpoint ≡ end → ends_whole r name ≡ true
    whole_by None still =
        ap (λ (b : Bool). not (b && list_any (is_pending name) (closings_of fixed w)))
        (ap (λ (n : EpName). list_any (λ line. is_end line.what) (lines_in n w.driver.reports)) (sym k.same) ∙ to.going still)
    whole_by (Some cause) over =
        ap (λ (b : Bool). not (list_any (λ line. is_end line.what) (lines_in name w.driver.reports) && b)) (none_pending w name (ap is_none (ended_is (Some cause) (told_some k.endpoint cause over).ended)) fixed)
        ∙ not_both (list_any (λ line. is_end line.what) (lines_in name w.driver.reports))

    pub is_told : IsToldTaken (told r name) (taken r name) → IsTakenStream r name
    is_told bytes = record {
      bytes = bytes;
      once = ap (λ (n : EpName). ends_once (lines_in n w.driver.reports)) (sym k.same) ∙ once_by (told_end k.endpoint) refl;
      whole = whole_by (told_end k.endpoint) refl;
    }

  -- ---- and its taker

  module _ (s : Script) (seated : IsSeatedBus s fixed w.bus) (takes : TakesEach fixed w told_each) (x : EpDesc) (stream : has_stream x.kind ≡ true) (has : HasSeat fixed.seats x) (way : x.name.way ≡ Ways.Out) where
    sends : receives x.name.way ≡ false
    sends = ap receives way

    bytes_by : (k : HasNamed w.driver.endpoints x.name) (o : Option Taker) → taker_of (wired fixed w) x.name.addr x.name.num ≡ o → IsToldTaken (told_each k.number) (bytes_taken o) → IsToldTaken (told r x.name) (taken r x.name)
    bytes_by k None none nothing =
        subst (λ (xs : List ℕ). IsToldTaken xs (taken r x.name)) (sym (first_none (told r x.name) (held k.number) (sum x.name sends k ∙ nothing))) (no_bytes (taken r x.name))
    bytes_by k (Some t) is begins =
        subst (IsToldTaken (told r x.name)) (sym (closing_tells_taker fixed w x t way stream has seated.apart (is_opened x.name sends k)
        is))
        (told_first (told r x.name) (held k.number) (told_each k.number) t.taken (sum x.name sends k) begins)

    named_taken : (k : HasNamed w.driver.endpoints x.name) → IsToldTaken (told_each k.number) (bytes_taken (taker_of (wired fixed w) x.name.addr x.name.num))
    named_taken k =
        subst (λ (n : EpName). IsToldTaken (told_each k.number) (bytes_taken (taker_of (wired fixed w) n.addr n.num))) k.same
        (takes k.number k.endpoint k.here (ap (λ (n : EpName). receives n.way) k.same ∙ sends))

    pub one_taken : IsTakenStream r x.name
    one_taken =
        ⊎_elim (λ (k : HasNamed w.driver.endpoints x.name). is_told x.name sends k (bytes_by k (taker_of (wired fixed w) x.name.addr x.name.num) refl (named_taken k)))
        (λ (none : NoneNamed w.driver.endpoints x.name). nothing_told x.name (tells.only x.name none)) (search w.driver.endpoints x.name)

pub report_is_taken : (s : Script) (fixed : Fixed) (w : World) (held told : ℕ → List ℕ) → IsSeatedBus s fixed w.bus → OnlyAsynchronous w.driver → TellsEach w.driver.reports w.driver.store (named_in w.driver.endpoints) held told → TakesEach fixed w told
    → AreTakenStreams s (report_of fixed w)
report_is_taken s fixed w held told seated asynchronous tells takes = all_taken s fixed.seats (report_of fixed w) seated.seats (λ x stream has way. one_taken fixed w held told tells asynchronous s seated takes x stream has way)
