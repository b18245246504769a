-- The report of a world tells the streams of bulk and interrupt IN endpoints below hubs, at each moment before which their hubs were
-- spared.
use Rattle.std.proofs.Common.{◌≡◌, ◌≢◌, ℕ, ◌*◌, ◌<◌, ◌==◌, Bool, true, false, not, List, [], ◌∷◌, ◌++◌, length, filter, slice_get}
use Rattle.std.proofs.Common.{Option, Some, None, cond, ap, refl, sym, subst, ◌∙◌, ⊎_elim, if◌then◌else◌}
use Rattle.std.specs.Prelude.{◌&&◌, nat_lt, unwrap_or}
use Rattle.std.specs.List.{AllByRecursion, concat, position, position_or_len}
use Rattle.std.proofs.lemmas.Bool.{and_parts, and_from, eqb-true, eq-eqb, true≢false}
use Rattle.std.proofs.lemmas.Option.{same_Some}
use Rattle.law_common.proofs.Lists.{nth_all}
use Rattle.std.proofs.lemmas.List.Folds.{find_at}
use Rattle.law_devices.proofs.Lists.{found_passes}
use Rattle.law_world.proofs.Common2.{told_first}
use Rattle.law_world.proofs.Common.{begins_both}
use Rattle.usb_base.specs.declared.endpoints.EpDesc.{EpDesc}
use Rattle.usb_base.specs.declared.endpoints.EpName.{EpName}
use Rattle.usb_base.specs.declared.packets.EpKind.TheVariants as kinds
use Rattle.usb_base.specs.declared.packets.Way.{Way}
use Rattle.usb_base.specs.declared.packets.Way.TheVariants as ways
use Rattle.script_types.specs.declared.scripts.Script.{Script}
use Rattle.script_text.specs.Faults.{Spells}
use Rattle.claims_base.specs.Prefix.{IsPrefix}
use Rattle.hub_class.specs.HubContent.{HubContent}
use Rattle.bus_wire.specs.Bus.{fixed_of}
use Rattle.claims_report.specs.Reports.{WholeReport}
use Rattle.claims_report.specs.Streams.{opened, stream_by, told, told_in, has_stream, AreBytesRight, IsRightStream}
use Rattle.claims_world.specs.Ends.{IsEndedOnce}
use Rattle.claims_world.specs.Streams.{report_of}
use Rattle.claims_world.specs.BelowStreams.{has_hub, is_claimed_in, heard_clear, IsSparedAt, IsSparedBefore}
use Rattle.claims_world.specs.BelowStreams.{AreBelowInStreams, BelowInsAreRight}
use Rattle.claims_driver.specs.Scripts.{comes_in}
use Rattle.drv_table.specs.declared.content.Endpoint.{Endpoint}
use Rattle.drv_table.specs.Words.{is_high}
use Rattle.law_driver.specs.queued_drivers.Queued.{queued_endpoint, queued}
use Rattle.law_driver_ring.specs.fed_queues.Places.{IsThere}
use Rattle.law_below_hubs.specs.Splits.{IsAtHub}
use Rattle.law_world.specs.steps.Streaming.{wired}
use Rattle.law_world.specs.streams.put_laws.TakenPuts.{puts_at}
use Rattle.law_world.specs.streams.taken_reports.Seats.{IsSeatedBus}
use Rattle.law_world.proofs.lemmas.streams.lemmas.right_reports.Named.{HasNamed, NoneNamed, search}
use Rattle.law_world.proofs.lemmas.streams.lemmas.taken_reports.Turning.{run_keeps_seats}
use Rattle.bus_world.specs.Budgets.{moment}
use Rattle.bus_world.specs.Opening.{opening_world}
use Rattle.bus_world.specs.Orders.{at_place, orders_of}
use Rattle.bus_world.specs.World.{World}
use Rattle.law_reports.specs.lines.TellingLaws.{IsToldWorld}
use Rattle.law_reports.proofs.lemmas.lines.Ended.{ended_once}
use Rattle.law_reports.specs.pipes.Declared.{sides_of}
use Rattle.law_reports.specs.pipes.Piped.{asked_as}
use Rattle.law_reports.specs.pipes.high_streams.Names.{HasItsNames}
use Rattle.law_reports.specs.pipes.high_streams.Opened.{AreOpened}
use Rattle.law_reports.specs.pipes.below_hubs.BehindLaws.{spots_of}
use Rattle.claims_world.specs.BelowStreams.{is_in_below}
use Rattle.law_reports.specs.pipes.below_hubs.Inward.{is_inlet, Begins, IsSpared, HasInward}
use Rattle.law_reports.specs.pipes.below_hubs.InwardLaws.{inlet_of, takes_in, IsInletOf, HasItsInlet, CompletesInTime, IsInwardAt, TextsKeepInsBelow, TextsKeepTimelyIns, TextsKeepIns}
use Rattle.law_reports.proofs.lemmas.pipes.lemmas.below_hubs.BehindMoments.{texts_are_behind}
use Rattle.law_reports.proofs.lemmas.pipes.lemmas.below_hubs.InwardControlled.{in_stream}
use Rattle.law_reports.proofs.lemmas.pipes.lemmas.below_hubs.InwardDriven.{in_begun}
use Rattle.law_reports.proofs.lemmas.pipes.lemmas.below_hubs.InwardRuns.{texts_are_inward}
use Rattle.law_reports.proofs.lemmas.pipes.lemmas.below_hubs.LateRuns.{in_time}
use Rattle.law_reports.proofs.lemmas.pipes.lemmas.below_hubs.InwardTexts.{claimed_in_way, in_slow, texts_open_inlets}
use Rattle.law_reports.proofs.lemmas.pipes.lemmas.high_streams.Lives.{IsTold, lines_told, is_told, nothing_told}
use Rattle.law_reports.proofs.lemmas.pipes.lemmas.high_streams.Lives.IsTold.{told_then, told_none, told_there}
use Rattle.law_reports.proofs.lemmas.pipes.lemmas.high_streams.Names.{texts_have_names}
use Rattle.law_reports.proofs.lemmas.pipes.lemmas.high_streams.Opened.{moments_are_opened}
use Rattle.law_reports.proofs.lemmas.pipes.lemmas.high_streams.Reporting.{all_kept, IsSeated, opened_seated, not_control}

-- ---- a hub at its place has its address

pub position_passes : {X : Type 0} (p : X → Bool) (xs : List X) (i : ℕ) (x : X) → position p xs ≡ Some i → slice_get xs i ≡ Some x → p x ≡ true
position_passes p xs i x at here =
    found_passes p xs x (find_at p xs ∙ ap (slice_get xs) (by (nat_lt (position_or_len p xs) (length xs)) at) ∙ here)
  where
    by : (b : Bool) → cond b (Some (position_or_len p xs)) None ≡ Some i → position_or_len p xs ≡ i
    by true is = same_Some (position_or_len p xs) i is
    by false is = absurd cc

hub_number : (s : Script) (x : EpDesc) → takes_in s x ≡ true → Some (asked_as x).hub ≡ x.hub
hub_number s x claims = by x.hub refl
  where
    both : (is_in_below x ≡ true) × (has_hub s x.hub x.port ≡ true)
    both = and_parts (is_in_below x) (has_hub s x.hub x.port) claims

    by : (o : Option ℕ) → x.hub ≡ o → Some (asked_as x).hub ≡ x.hub
    by None is = absurd (true≢false (sym both.1 ∙ ap (λ (o : Option ℕ). has_hub s o x.port) is))
    by (Some hub) is =
        ap (λ (i : ℕ). Some i) (ap (λ (b : Bool). if b then 0 else unwrap_or x.hub 0) (in_slow x both.0)
        ∙ ap (λ (o : Option ℕ). unwrap_or o 0) is) ∙ sym is

-- ---- a moment of a run

module _ (s : Script) (w : World) (puts : ℕ → List ℕ) (x : EpDesc) (is : IsInletOf s x)
    (timely : ℕ → Bool)
    (a : HasInward (fixed_of s) (sides_of s) (spots_of s) (inlet_of s x) timely puts w) (opens : AreOpened s w.driver)
    (names : HasItsNames s) where
  abbrev r : WholeReport
  r = report_of (fixed_of s) w

  h : IsToldWorld w
  h = record {
    standing = a.standing;
    lines = a.lines;
    mixed = a.piped.mixed;
    telling = a.piped.telling;
    going = a.piped.going;
  }

  bulk : is_in_below x ≡ true
  bulk = (and_parts (is_in_below x) (has_hub s x.hub x.port) is.claims).0

  streams : has_stream x.kind ≡ true
  streams = in_stream x bulk

  way : x.name.way ≡ ways.In
  way = claimed_in_way x bulk

  other : x.name.way ≢ ways.Ctl
  other = not_control x streams (names.ways x is.opened)

  end : IsEndedOnce r x.name
  end = ended_once (fixed_of s) w h x.name other

  module _ (k : HasNamed w.driver.endpoints x.name) where
    same : k.endpoint.desc ≡ x
    same = names.once k.endpoint.desc x (opens k.number k.endpoint k.here) is.opened k.same
        (λ ctl. other (ap (λ (n : EpName). n.way) (sym k.same) ∙ ctl))

    abbrev y : Endpoint
    y = k.endpoint

    its_way : k.endpoint.desc.name.way ≡ ways.In
    its_way = ap (λ (n : EpName). n.way) k.same ∙ way

    its_streams : has_stream k.endpoint.desc.kind ≡ true
    its_streams = ap (λ (d : EpDesc). has_stream d.kind) same ∙ streams

    its_other : k.endpoint.desc.name.way ≢ ways.Ctl
    its_other ctl = other (ap (λ (n : EpName). n.way) (sym k.same) ∙ ctl)

    on : is_inlet (inlet_of s x) k.endpoint.desc.name.addr k.endpoint.desc.name.num ≡ true
    on = ap (λ (n : EpName). is_inlet (inlet_of s x) n.addr n.num) k.same
        ∙ and_from (x.name.addr == x.name.addr) (x.name.num == x.name.num) (eq-eqb x.name.addr x.name.addr refl)
        (eq-eqb x.name.num x.name.num refl)

    there_begins : IsThere (queued w.driver) (queued_endpoint k.endpoint)
        → Begins (inlet_of s x) (concat (a.lines.acc (32 * k.endpoint.queue)))
    there_begins there =
        in_begun (fixed_of s) (sides_of s) (spots_of s) (inlet_of s x) timely a.standing a.lines a.heads puts w a.piped a.pays a.behind
        a.inward k.number y k.here its_way on there

    by_told : IsTold w h k.number k.endpoint → Begins (inlet_of s x) (h.telling.told.told k.number)
    unfolding h
    by_told (told_then gone told_is) =
        subst (Begins (inlet_of s x)) (sym told_is) (a.inward.left.gone k.number y k.here its_way on gone)
    by_told (told_none told_is) = subst (Begins (inlet_of s x)) (sym told_is) (concat (inlet_of s x).packets, refl)
    by_told (told_there there front) =
        begins_both (h.telling.told.told k.number) (concat (a.lines.acc (32 * y.queue))) (concat (inlet_of s x).packets) front
        (there_begins there)

    sum : told r x.name ++ h.telling.told.held k.number ≡ h.telling.told.told k.number
    sum =
        ap (λ (n : EpName). told r n ++ h.telling.told.held k.number) (sym k.same) ∙ lines_told w h k.number y k.here its_streams its_other

    pub in_begins : Begins (inlet_of s x) (told r x.name)
    in_begins =
        told_first (told r x.name) (h.telling.told.held k.number) (h.telling.told.told k.number) (concat (inlet_of s x).packets) sum
        (by_told (is_told w h k.number y k.here its_streams its_other))

  begins : Begins (inlet_of s x) (told r x.name)
  begins =
      ⊎_elim (λ (k : HasNamed w.driver.endpoints x.name). in_begins k)
      (λ (none : NoneNamed w.driver.endpoints x.name).
      subst (Begins (inlet_of s x)) (sym (ap (told_in w.driver.store) (nothing_told w h x.name none)))
      (concat (inlet_of s x).packets, refl))
      (search w.driver.endpoints x.name)

  pub right_in : IsRightStream s (report_of (fixed_of s) w) x.name
  right_in = record {
    bytes = subst (λ (u : Way). AreBytesRight u s r x.name) (sym way)
        (subst (λ (u : Way). IsPrefix (told r x.name) (stream_by u s r x.name)) (sym way) begins);
    once = end.once;
    whole = end.whole;
  }

-- ---- each moment

module _ (text : List ℕ) (s : Script) (spelled : Spells text s) where
  names : HasItsNames s
  names = texts_have_names text s spelled

  seated : (k : ℕ) → IsSeatedBus s (fixed_of s) (moment s k).world.bus
  seated k = run_keeps_seats s (fixed_of s) (at_place (opening_world s) (orders_of s.lines)) k names.seated

  module _ (x : EpDesc) (is : IsInletOf s x) where
    its : HasItsInlet s (inlet_of s x)
    its = texts_open_inlets text s x spelled is

    -- a hub keeps its place
    spared_at : (j : ℕ) → IsSparedAt s x j → IsSpared (inlet_of s x) (wired (fixed_of s) (moment s j).world)
    spared_at j spared h here =
        let at : IsAtHub (wired (fixed_of s) (moment s j).world).bus.hubs (asked_as x).hub (asked_as x).port (inlet_of s x).hub
        (inlet_of s x).place =
        (texts_are_behind text s spelled j).behind.hubs (asked_as x).hub (asked_as x).port (inlet_of s x).hub (inlet_of s x).place
        its.hub in
        let address : (h.address == (asked_as x).hub) ≡ true =
        position_passes (λ (c : HubContent). c.address == (asked_as x).hub) (moment s j).world.bus.hubs (inlet_of s x).hub h at.found
        here in
        nth_all (λ (c : HubContent). Some c.address ≡ x.hub → heard_clear c ≡ false) (moment s j).world.bus.hubs (inlet_of s x).hub h spared
        here (ap (λ (a : ℕ). Some a) (eqb-true h.address (asked_as x).hub address) ∙ hub_number s x is.claims)

    inward : (k : ℕ) → IsSparedBefore s x k → ((j : ℕ) → j < k → CompletesInTime s (inlet_of s x) j) → IsInwardAt s (inlet_of s x) k
    inward k spared completes = texts_are_inward text s x spelled is k (λ j low. spared_at j (spared j low)) completes

    pub right_at : (k : ℕ) → IsSparedBefore s x k → ((j : ℕ) → j < k → CompletesInTime s (inlet_of s x) j)
        → IsRightStream s (report_of (fixed_of s) (moment s k).world) x.name
    right_at k spared completes =
        let a : IsInwardAt s (inlet_of s x) k = inward k spared completes in
        right_in s (moment s k).world (puts_at s k) x is a.timely a.inward (moments_are_opened s names.fit k) names

  ins_right : BelowInsAreRight s
  ins_right k =
      all_kept (IsSeated s) (λ x. IsSparedBefore s x k → IsRightStream s (report_of (fixed_of s) (moment s k).world) x.name)
      (is_claimed_in s) (opened s (report_of (fixed_of s) (moment s k).world))
      (λ x seat claims spared.
      right_at x (record { claims = claims; opened = seat.0 }) k spared
      (λ j low periodic h last key late. in_time text s spelled j h last late))
      (opened_seated s (report_of (fixed_of s) (moment s k).world) (seated k).seats)

pub texts_keep_timely_ins : TextsKeepTimelyIns
texts_keep_timely_ins text s x spelled is k spared completes = right_at text s spelled x is k spared completes

pub texts_keep_ins : TextsKeepIns
texts_keep_ins text s x spelled is k spared =
    right_at text s spelled x is k spared (λ j low periodic h last key late. in_time text s spelled j h last late)

pub texts_keep_ins_below : TextsKeepInsBelow
texts_keep_ins_below text s spelled = ins_right text s spelled

-- .. as where more is asked of the endpoint
pub asking_more : (s : Script) (so asked : EpDesc → Type 0) (r : WholeReport) → ((x : EpDesc) → asked x → so x) → AreBelowInStreams s so r
    → AreBelowInStreams s asked r
asking_more s so asked r fits all = by (filter (is_claimed_in s) (opened s r)) all
  where
    by : (xs : List EpDesc) → AllByRecursion (λ x. so x → IsRightStream s r x.name) xs
        → AllByRecursion (λ x. asked x → IsRightStream s r x.name) xs
    by [] each = tt
    by (x ∷ xs) each = ((λ is. each.0 (fits x is)), by xs each.1)
