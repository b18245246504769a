-- The report of a world tells the streams of bulk and interrupt endpoints at high speed.
use Rattle.std.proofs.Common.{◌≡◌, ◌≢◌, ℕ, ◌*◌, Bool, true, false, if◌then◌else◌, ◌&&◌, not, List, [], ◌∷◌, ◌++◌, filter, filter_map}
use Rattle.std.proofs.Common.{Option, Some, None, ap, refl, sym, subst, ◌∙◌, ⊎_elim}
use Rattle.std.specs.List.{AllByRecursion, concat}
use Rattle.std.proofs.lemmas.Bool.{and_parts, false≢true}
use Rattle.std.proofs.lemmas.Option.{same_Some}
use Rattle.law_driver.proofs.Common.{in_way}
use Rattle.law_common.proofs.Lists.{all_two}
use Rattle.law_world.proofs.Common2.{told_first}
use Rattle.law_world.proofs.Common.{begins_both}
use Rattle.usb_base.specs.declared.commands.Cmd.{Cmd}
use Rattle.usb_base.specs.declared.commands.Cmd.TheVariants as commands
use Rattle.usb_base.specs.declared.endpoints.EpDesc.{EpDesc}
use Rattle.usb_base.specs.declared.endpoints.EpName.{EpName}
use Rattle.usb_base.specs.declared.packets.EpKind.TheVariants as kinds
use Rattle.usb_base.specs.declared.packets.Speed.{Speed}
use Rattle.usb_base.specs.declared.packets.Speed.TheVariants as speeds
use Rattle.usb_base.specs.declared.packets.Way.{Way}
use Rattle.usb_base.specs.declared.packets.Way.TheVariants as ways
use Rattle.script_types.specs.declared.scripts.Line.{Line}
use Rattle.script_types.specs.declared.scripts.Line.TheVariants as lines
use Rattle.script_types.specs.declared.scripts.Script.{Script}
use Rattle.endpoint_script.specs.Items.{packets_of}
use Rattle.claims_base.specs.Prefix.{IsPrefix}
use Rattle.bus_wire.specs.Bus.{fixed_of}
use Rattle.claims_report.specs.Reports.{WholeReport, taken}
use Rattle.claims_report.specs.Streams.{is_refused, command_in, accepted_in, open_in, opened, stream, stream_by, items_of, told, told_in}
use Rattle.claims_report.specs.Streams.{has_stream, IsRightOut, AreBytesRight, IsRightStream}
use Rattle.claims_driver.specs.Scripts.{receives, comes_in}
use Rattle.claims_world.specs.Ends.{IsEndedOnce}
use Rattle.claims_world.specs.Streams.{report_of, IsToldTaken, IsTakenStream, IsTakenSent}
use Rattle.drv_table.specs.Words.{is_high}
use Rattle.law_ring.specs.OutBus.{Taker}
use Rattle.law_devices.specs.scripted_takers.Takers.{taker_of}
use Rattle.law_driver.specs.chained_transfers.Bulk.{IsDataWay}
use Rattle.law_driver.specs.queued_drivers.Queued.{IsOfWay, FitsKind}
use Rattle.drv_table.specs.DriverContent.{opened as opened_by}
use Rattle.law_world.specs.steps.Streaming.{wired}
use Rattle.law_world.specs.streams.put_laws.TakenLaws.{StreamsArePuts}
use Rattle.law_world.specs.streams.put_laws.TakenPuts.{puts_of, IsOpen}
use Rattle.law_world.specs.streams.sending_worlds.ReportLaws.{HasNamedTaker}
use Rattle.law_world.specs.streams.taken_reports.Laws.{bytes_taken}
use Rattle.law_world.specs.streams.taken_reports.Seats.{HasSeat, OpensItsSeat}
use Rattle.law_world.proofs.lemmas.streams.lemmas.right_reports.Named.{HasNamed, NoneNamed, search}
use Rattle.law_world.proofs.lemmas.streams.lemmas.right_reports.Right.{all_mapped}
use Rattle.law_world.proofs.lemmas.streams.lemmas.sending_worlds.Named.{named_opened, named_or_not}
use Rattle.law_world.proofs.lemmas.streams.lemmas.sending_worlds.Untold.{untold}
use Rattle.law_world.proofs.lemmas.streams.lemmas.taken_reports.Closing.{closing_tells_taker}
use Rattle.law_world.proofs.lemmas.streams.lemmas.taken_reports.Telling.{no_bytes, first_none}
use Rattle.law_reports.proofs.lemmas.lines.Ended.{ended_once}
use Rattle.bus_world.specs.Orders.{OrderedWorld}
use Rattle.bus_world.specs.World.{World}
use Rattle.claims_world.specs.HighStreams.{claimed}
use Rattle.law_opened.specs.Opened.{IsOpened}
use Rattle.law_reports.specs.pipes.high_streams.Opened.{OpensOf}
use Rattle.law_reports.specs.pipes.high_streams.Reports.{IsHigh, InsBegin, OutsBegin, TakersBegin, HasHighReport, HighReportsAreRight}
use Rattle.law_reports.specs.pipes.high_streams.Reports.{HighReportsAreTaken}
use Rattle.law_reports.specs.pipes.high_streams.Reports.{HighReportsAreSent, HighReportsEndRight}
use Rattle.law_reports.proofs.lemmas.pipes.lemmas.high_streams.Lives.{IsTold, lines_told, is_told, nothing_told}
use Rattle.law_reports.proofs.lemmas.pipes.lemmas.high_streams.Lives.IsTold.{told_then, told_none, told_there}
use Rattle.law_reports.proofs.lemmas.pipes.lemmas.high_streams.Opened.{lines_open}

-- ---- lists

pub all_kept : {X : Type 0} (Q P : X → Type 0) (p : X → Bool) (xs : List X) → ((x : X) → Q x → p x ≡ true → P x) → AllByRecursion Q xs
    → AllByRecursion P (filter p xs)
all_kept Q P p [] gives k = tt
all_kept Q P p (x ∷ xs) gives k = kept (p x) refl (all_kept Q P p xs gives k.1)
  where
    kept : (b : Bool) → p x ≡ b → AllByRecursion P (filter p xs) → AllByRecursion P (if b then x ∷ filter p xs else filter p xs)
    kept true is rest = (gives x k.0 is, rest)
    kept false is rest = rest

-- ---- what is opened

-- it is opened by a line, and where its data go one way it has its seat
abbrev Opens : Script → Cmd → Type 0
Opens s cmd = OpensOf s cmd × OpensItsSeat (fixed_of s).seats (lines.Command cmd)

abbrev pub IsSeated : Script → EpDesc → Type 0
IsSeated s x = IsOpened s x × (IsDataWay x.name.way → HasSeat (fixed_of s).seats x)

abbrev LineOpens : Script → Line → Type 0
LineOpens s (lines.Command cmd) = OpensOf s cmd
LineOpens s _ = Unit {0}

accepted_by : (s : Script) (b : Bool) (l : Line) (cmd : Cmd) → LineOpens s l × OpensItsSeat (fixed_of s).seats l
    → (if b then None else command_in l) ≡ Some cmd → Opens s cmd
accepted_by s true l cmd k is = absurd cc
accepted_by s false (lines.Command c) cmd k is = subst (Opens s) (same_Some c cmd is) k
accepted_by s false (lines.Order event n) cmd k is = absurd cc
accepted_by s false (lines.Micro n) cmd k is = absurd cc
accepted_by s false (lines.Plug n) cmd k is = absurd cc
accepted_by s false (lines.Unplug n) cmd k is = absurd cc

opens_by : (s : Script) (cmd : Cmd) (desc : EpDesc) → Opens s cmd → open_in cmd ≡ Some desc → IsSeated s desc
opens_by s (commands.OpenEp x) desc k is = subst (IsSeated s) (same_Some x desc is) (k.0, k.1)
opens_by s _ desc k is = absurd cc

pub opened_seated : (s : Script) (r : WholeReport) → AllByRecursion (λ line. OpensItsSeat (fixed_of s).seats line.1) s.lines
    → AllByRecursion (IsSeated s) (opened s r)
opened_seated s r has =
    all_mapped (Opens s) (IsSeated s) open_in (filter_map (accepted_in r) s.lines) (opens_by s)
    (all_mapped (λ line. LineOpens s line.1 × OpensItsSeat (fixed_of s).seats line.1) (Opens s) (accepted_in r) s.lines
    (λ line cmd both is. accepted_by s (is_refused r line.0) line.1 cmd both is)
    (all_two (λ line. LineOpens s line.1) (λ line. OpensItsSeat (fixed_of s).seats line.1) s.lines (lines_open s) has))

high_speed : (v : Speed) → is_high v ≡ true → v ≡ speeds.High
high_speed speeds.High is = refl
high_speed _ is = absurd (false≢true is)

claimed_high : (s : Script) (x : EpDesc) → claimed s x ≡ true → IsHigh s x
claimed_high s x is =
    let both = and_parts (has_stream x.kind) (is_high x.speed) is in
    record { on = is; stream = both.0; speed = high_speed x.speed both.1 }

-- a control endpoint has no stream
pub not_control : (x : EpDesc) → has_stream x.kind ≡ true → FitsKind x → x.name.way ≢ ways.Ctl
not_control x stream fits is =
    let control : x.kind ≡ kinds.Control = subst (λ (v : Way). IsOfWay v x.kind) is fits in
    false≢true (sym (ap has_stream control) ∙ stream)

out_sends : (way : Way) → way ≡ ways.Out → receives way ≡ false
out_sends way is = ap receives is

-- ---- prefixes

-- what begins what was moved begins what was taken
moved_first : (told moved : List ℕ) (o : Option (List ℕ)) → IsPrefix told moved → IsToldTaken moved o → IsToldTaken told o
moved_first told moved None front none = first_none told front.0 (front.1 ∙ none)
moved_first told moved (Some taken) front begins = begins_both told moved taken front begins

-- ---- a world

module _ (s : Script) (w : World) (h : HasHighReport s w) where
  abbrev r : WholeReport
  r = report_of (fixed_of s) w

  abbrev told_each : ℕ → List ℕ
  told_each = h.told.telling.told.told

  module _ (x : EpDesc) (high : IsHigh s x) (seat : IsSeated s x) where
    pub other : x.name.way ≢ ways.Ctl
    other = not_control x high.stream (h.fits x seat.0)

    pub end : IsEndedOnce r x.name
    end = ended_once (fixed_of s) w h.told x.name other

    -- no endpoint of the driver has its name yet
    not_told : NoneNamed w.driver.endpoints x.name → told r x.name ≡ []
    not_told none = ap (told_in w.driver.store) (nothing_told w h.told x.name none)

    -- ---- the driver has it

    module _ (k : HasNamed w.driver.endpoints x.name) where
      same : k.endpoint.desc ≡ x
      same = h.once k.endpoint.desc x (h.opened k.number k.endpoint k.here) seat.0 k.same
          (λ is. other (ap (λ (n : EpName). n.way) (sym k.same) ∙ is))

      its_high : IsHigh s k.endpoint.desc
      its_high = subst (IsHigh s) (sym same) high

      its_way : k.endpoint.desc.name.way ≢ ways.Ctl
      its_way is = other (ap (λ (n : EpName). n.way) (sym k.same) ∙ is)

      sum : told r x.name ++ h.told.telling.told.held k.number ≡ told_each k.number
      sum =
          ap (λ (n : EpName). told r n ++ h.told.telling.told.held k.number) (sym k.same)
          ∙ lines_told w h.told k.number k.endpoint k.here its_high.stream its_way

      it_told : IsTold w h.told k.number k.endpoint
      it_told = is_told w h.told k.number k.endpoint k.here its_high.stream its_way

      -- ---- data come in

      module _ (ins : InsBegin s h.told.lines w) (way : x.name.way ≡ ways.In) where
        comes : comes_in k.endpoint.desc.name.way ≡ true
        comes = ap (λ (n : EpName). comes_in n.way) k.same ∙ ap comes_in way

        all_begin : IsTold w h.told k.number k.endpoint
            → IsPrefix (told_each k.number) (concat (packets_of (items_of s k.endpoint.desc.name)))
        all_begin (told_then gone is) =
            subst (λ (xs : List ℕ). IsPrefix xs (concat (packets_of (items_of s k.endpoint.desc.name)))) (sym is)
            (ins.gone k.number k.endpoint k.here its_high comes gone)
        all_begin (told_none is) =
            subst (λ (xs : List ℕ). IsPrefix xs (concat (packets_of (items_of s k.endpoint.desc.name)))) (sym is)
            (concat (packets_of (items_of s k.endpoint.desc.name)), refl)
        all_begin (told_there there front) =
            begins_both (told_each k.number) (concat (h.told.lines.acc (32 * k.endpoint.queue)))
            (concat (packets_of (items_of s k.endpoint.desc.name))) front (ins.there k.number k.endpoint k.here its_high comes there)

        pub in_begins : IsPrefix (told r x.name) (concat (packets_of (items_of s x.name)))
        in_begins =
            subst (λ (n : EpName). IsPrefix (told r x.name) (concat (packets_of (items_of s n)))) k.same
            (told_first (told r x.name) (h.told.telling.told.held k.number) (told_each k.number)
            (concat (packets_of (items_of s k.endpoint.desc.name))) sum (all_begin it_told))

      -- ---- data leave the host

      module _ (way : x.name.way ≡ ways.Out) where
        sends : receives k.endpoint.desc.name.way ≡ false
        sends = ap (λ (n : EpName). receives n.way) k.same ∙ ap receives way

        -- its closing line tells what its taker took
        closes : (t : Taker) → taker_of (wired (fixed_of s) w) k.endpoint.desc.name.addr k.endpoint.desc.name.num ≡ Some t
            → taken r x.name ≡ Some t.taken
        closes t is =
            closing_tells_taker (fixed_of s) w x t way high.stream (seat.1 (subst IsDataWay (sym way) tt)) h.seated.apart
            (named_opened w.driver x.name k)
            (subst (λ (n : EpName). taker_of (wired (fixed_of s) w) n.addr n.num ≡ Some t) k.same is)

        module _ (outs : OutsBegin s h.told.lines w) where
          abbrev o : Option Taker
          o = taker_of (wired (fixed_of s) w) k.endpoint.desc.name.addr k.endpoint.desc.name.num

          all_taken : IsTold w h.told k.number k.endpoint → IsToldTaken (told_each k.number) (bytes_taken o)
          all_taken (told_then gone is) =
              subst (λ (xs : List ℕ). IsToldTaken xs (bytes_taken o)) (sym is) (outs.gone k.number k.endpoint k.here its_high sends gone)
          all_taken (told_none is) = subst (λ (xs : List ℕ). IsToldTaken xs (bytes_taken o)) (sym is) (no_bytes (bytes_taken o))
          all_taken (told_there there front) =
              moved_first (told_each k.number) (concat (h.told.lines.acc (32 * k.endpoint.queue))) (bytes_taken o) front
              (outs.there k.number k.endpoint k.here its_high sends there)

          by_taker : (b : Option Taker) → taker_of (wired (fixed_of s) w) k.endpoint.desc.name.addr k.endpoint.desc.name.num ≡ b
              → IsToldTaken (told_each k.number) (bytes_taken b) → IsToldTaken (told r x.name) (taken r x.name)
          by_taker None is none =
              subst (λ (xs : List ℕ). IsToldTaken xs (taken r x.name))
              (sym (first_none (told r x.name) (h.told.telling.told.held k.number) (sum ∙ none))) (no_bytes (taken r x.name))
          by_taker (Some t) is begins =
              subst (IsToldTaken (told r x.name)) (sym (closes t is))
              (told_first (told r x.name) (h.told.telling.told.held k.number) (told_each k.number) t.taken sum begins)

          pub out_taken : IsToldTaken (told r x.name) (taken r x.name)
          out_taken =
              by_taker (taker_of (wired (fixed_of s) w) k.endpoint.desc.name.addr k.endpoint.desc.name.num) refl (all_taken it_told)

    -- ---- each way

    pub in_bytes : InsBegin s h.told.lines w → x.name.way ≡ ways.In → IsPrefix (told r x.name) (concat (packets_of (items_of s x.name)))
    in_bytes ins way =
        ⊎_elim (λ (k : HasNamed w.driver.endpoints x.name). in_begins k ins way)
        (λ (none : NoneNamed w.driver.endpoints x.name).
        subst (λ (xs : List ℕ). IsPrefix xs (concat (packets_of (items_of s x.name)))) (sym (not_told none))
        (concat (packets_of (items_of s x.name)), refl)) (search w.driver.endpoints x.name)

    pub right_in : InsBegin s h.told.lines w → x.name.way ≡ ways.In → IsRightStream s r x.name
    right_in ins way = record {
      bytes = subst (λ (v : Way). AreBytesRight v s r x.name) (sym way)
          (subst (λ (v : Way). IsPrefix (told r x.name) (stream_by v s r x.name)) (sym way) (in_bytes ins way));
      once = end.once;
      whole = end.whole;
    }

    pub taken_bytes : OutsBegin s h.told.lines w → x.name.way ≡ ways.Out → IsToldTaken (told r x.name) (taken r x.name)
    taken_bytes outs way =
        ⊎_elim (λ (k : HasNamed w.driver.endpoints x.name). out_taken k way outs)
        (λ (none : NoneNamed w.driver.endpoints x.name).
        subst (λ (xs : List ℕ). IsToldTaken xs (taken r x.name)) (sym (not_told none)) (no_bytes (taken r x.name)))
        (search w.driver.endpoints x.name)

    pub taken_out : OutsBegin s h.told.lines w → x.name.way ≡ ways.Out → IsTakenStream r x.name
    taken_out outs way = record { bytes = taken_bytes outs way; once = end.once; whole = end.whole }

-- ---- and what was put

module _ (s : Script) (p : OrderedWorld) (puts : ℕ → List ℕ) (h : HasHighReport s p.world) (takers : TakersBegin s puts p.world)
    (are : StreamsArePuts s p puts) (x : EpDesc) (high : IsHigh s x) (seat : IsSeated s x) (way : x.name.way ≡ ways.Out) where
  abbrev v : World
  v = p.world

  abbrev q : WholeReport
  q = report_of (fixed_of s) p.world

  module _ (k : HasNamed p.world.driver.endpoints x.name) where
    leaves : receives k.endpoint.desc.name.way ≡ false
    leaves = sends s p.world h x high seat k way

    named : IsHigh s k.endpoint.desc
    named = its_high s p.world h x high seat k

    its : HasNamedTaker (fixed_of s) p.world k.endpoint.desc.name
    its = takers.takers k.number k.endpoint k.here named leaves

    closing : taken q x.name ≡ Some its.taker.taken
    closing = closes s p.world h x high seat k way its.taker its.is

    front : IsPrefix its.taker.taken (stream s q x.name)
    front =
        subst (λ (n : EpName). IsPrefix its.taker.taken (stream s q n)) k.same
        (begins_both its.taker.taken (concat (puts_of p.world.driver puts k.number)) (stream s q k.endpoint.desc.name)
        (takers.begin k.number k.endpoint its.taker k.here named leaves its.is)
        (are.begin k.number k.endpoint k.here named.stream leaves))

    pub sent_there : IsTakenSent (taken q x.name) (stream s q x.name)
    sent_there = subst (λ (b : Option (List ℕ)). IsTakenSent b (stream s q x.name)) (sym closing) front

    pub right_there : IsTakenStream q x.name → IsRightStream s q x.name
    right_there t = record {
      bytes = subst (λ (z : Way). AreBytesRight z s q x.name) (sym way)
          (subst (λ (b : Option (List ℕ)). IsRightOut (told q x.name) b (stream s q x.name)) (sym closing)
          (subst (IsToldTaken (told q x.name)) closing t.bytes, front));
      once = t.once;
      whole = t.whole;
    }

  pub sent_bytes : IsTakenSent (taken q x.name) (stream s q x.name)
  sent_bytes =
      ⊎_elim (λ (k : HasNamed p.world.driver.endpoints x.name). sent_there k)
      (λ (off : opened_by p.world.driver x.name ≡ false).
      subst (λ (b : Option (List ℕ)). IsTakenSent b (stream s q x.name)) (sym (untold p.world x.name off (fixed_of s))) tt)
      (named_or_not p.world.driver x.name)

-- ---- each that is claimed

out_way : (way : Way) → not (receives way) ≡ true → way ≡ ways.Out
out_way ways.Out is = refl
out_way _ is = absurd (false≢true is)

pub high_reports_are_right : HighReportsAreRight
high_reports_are_right s w h ins =
    all_kept (IsSeated s) (λ x. IsRightStream s (report_of (fixed_of s) w) x.name) (λ x. claimed s x && comes_in x.name.way)
    (opened s (report_of (fixed_of s) w))
    (λ x seat is.
    let both = and_parts (claimed s x) (comes_in x.name.way) is in
    right_in s w h x (claimed_high s x both.0) seat ins (in_way x.name.way both.1))
    (opened_seated s (report_of (fixed_of s) w) h.seated.seats)

pub high_reports_are_taken : HighReportsAreTaken
high_reports_are_taken s w h outs =
    all_kept (IsSeated s) (λ x. IsTakenStream (report_of (fixed_of s) w) x.name) (λ x. claimed s x && not (receives x.name.way))
    (opened s (report_of (fixed_of s) w))
    (λ x seat is.
    let both = and_parts (claimed s x) (not (receives x.name.way)) is in
    taken_out s w h x (claimed_high s x both.0) seat outs (out_way x.name.way both.1))
    (opened_seated s (report_of (fixed_of s) w) h.seated.seats)

pub high_reports_are_sent : HighReportsAreSent
high_reports_are_sent s p puts h takers are =
    let r : WholeReport = report_of (fixed_of s) p.world in
    all_kept (IsSeated s)
    (λ x. IsTakenSent (taken (report_of (fixed_of s) p.world) x.name) (stream s (report_of (fixed_of s) p.world) x.name))
    (λ x. claimed s x && not (receives x.name.way)) (opened s (report_of (fixed_of s) p.world))
    (λ x seat is.
    let both = and_parts (claimed s x) (not (receives x.name.way)) is in
    sent_bytes s p puts h takers are x (claimed_high s x both.0) seat (out_way x.name.way both.1)) (opened_seated s r h.seated.seats)

pub high_reports_end_right : HighReportsEndRight
high_reports_end_right s p puts h ins outs takers are none =
    all_kept (λ x. IsSeated s x × IsOpen p.world.driver x) (λ x. IsRightStream s (report_of (fixed_of s) p.world) x.name) (claimed s)
    (opened s (report_of (fixed_of s) p.world)) (λ x both is. by x both (claimed_high s x is) x.name.way refl)
    (all_two (IsSeated s) (IsOpen p.world.driver) (opened s (report_of (fixed_of s) p.world))
    (opened_seated s (report_of (fixed_of s) p.world) h.seated.seats) (are.opened none))
  where
    by : (x : EpDesc) → IsSeated s x × IsOpen p.world.driver x → IsHigh s x → (way : Way) → x.name.way ≡ way
        → IsRightStream s (report_of (fixed_of s) p.world) x.name
    by x both high ways.In way = right_in s p.world h x high both.0 ins way
    by x both high ways.Ctl way = absurd (other s p.world h x high both.0 way)
    by x both high ways.Out way =
        right_there s p puts h takers are x high both.0 way
        (record {
          number = both.1.number;
          endpoint = both.1.endpoint;
          here = both.1.here;
          same = ap (λ (z : EpDesc). z.name) both.1.same;
        }) (taken_out s p.world h x high both.0 outs way)
