-- So in the periodic part of a microframe that isn't held a fifth of it is left, and no transaction of a packet of up to 1,024 bytes, the largest of a script, costs more.
use Rattle.std.proofs.Common.{◌≡◌, ℕ, ◌+◌, ◌≤◌, ◌&&◌, Bool, true, false, not, List, [], ◌∷◌, slice_get, Option, Some, None, Result, Ok, Err, ap, refl, sym, subst, ◌∙◌, ⊎_elim, arith}
use Rattle.std.specs.Prelude.{nat_lt, if◌then◌else◌}
use Rattle.std.specs.List.{AllByRecursion}
use Rattle.std.proofs.lemmas.Bool.{true≢false}
use Rattle.law_common.proofs.Numbers.{not_below}
use Rattle.usb_base.specs.declared.commands.Cmd.{Cmd}
use Rattle.usb_base.specs.declared.commands.Cmd.TheVariants as commands
use Rattle.usb_base.specs.declared.endpoints.EpDesc.{EpDesc}
use Rattle.usb_base.specs.declared.packets.Speed.TheVariants.{High}
use Rattle.usb_base.specs.declared.reports.OfferError.{OfferError}
use Rattle.script_types.specs.declared.scripts.Line.{Line}
use Rattle.script_types.specs.declared.scripts.Line.TheVariants as lines
use Rattle.script_types.specs.declared.scripts.Script.{Script}
use Rattle.script_text.specs.Faults.{Spells}
use Rattle.script_fits.specs.Fits.{IsFit}
use Rattle.script_fits.proofs.Texts.{spelled_fits}
use Rattle.law_scripts.proofs.lemmas.script_bytes.Texts.{a_text_spells_bytes}
use Rattle.bandwidth.specs.declared.placements.Placed.{Placed}
use Rattle.bandwidth.specs.declared.placements.Placement.{Placement}
use Rattle.bandwidth.specs.Placements.{is_classic}
use Rattle.drv_periodic_table.specs.Periodic.{is_periodic}
use Rattle.usb_base.specs.declared.packets.DataPart.TheVariants.{All}
use Rattle.usb_base.specs.declared.packets.Dir.TheVariants as ways
use Rattle.usb_base.specs.declared.packets.EpKind.TheVariants as kinds
use Rattle.usb_base.specs.declared.packets.Pid.TheVariants.{In}
use Rattle.usb_base.specs.declared.packets.Split.TheVariants.{Start, Complete}
use Rattle.itd_sitd.specs.declared.sitd.Sitd.{Sitd}
use Rattle.hc_interrupt.specs.Turns.{microframe_of}
use Rattle.hc_iso.specs.declared.held.HeldItd.{HeldItd}
use Rattle.hc_iso.specs.declared.held.SplitOutcome.{SplitOutcome}
use Rattle.hc_iso.specs.declared.held.SitdTurn.{SitdTurn}
use Rattle.hc_iso.specs.declared.held.SitdTurn.TheVariants as sitd_turns
use Rattle.hc_iso.specs.Itd.{itd_transaction}
use Rattle.hc_iso.specs.Sitd.{sitd_missed, comes, turn_at, sitd_turn, part_bytes, sitd_ask, sitd_with, sitd_out, sitd_transaction}
use Rattle.periodic_walk.specs.declared.state.Hand.{Hand}
use Rattle.periodic_walk.specs.declared.state.Hand.TheVariants as hands
use Rattle.periodic_walk.specs.Place.{FramePlace}
use Rattle.hc_core.specs.declared.controller.MicroframePart.TheVariants.{Periodic}
use Rattle.hc_core.specs.declared.controller.ControllerRow.{ControllerRow}
use Rattle.hc_core.specs.declared.controller.ControllerRow.TheVariants as rows
use Rattle.hc_core.specs.declared.controller.HcStep.{HcStep}
use Rattle.hc_core.specs.Controller.{time_of, frame_place}
use Rattle.drv_table.specs.declared.content.Endpoint.{Endpoint}
use Rattle.drv_table.specs.DriverContent.{DriverContent}
use Rattle.drv_table.specs.Accepting.{Offered}
use Rattle.drv_table.specs.Offers.{offered, IsOffered}
use Rattle.drv_table.specs.Rows.{driver_row}
use Rattle.law_world.specs.steps.receiving_runs.Runs.{KindOfLine, IsKeptBy}
use Rattle.law_world.proofs.lemmas.steps.lemmas.receiving_runs.Runs.{holds_throughout}
use Rattle.claims_world.specs.InTime.{is_late, is_late_at, is_late_itd, is_late_split, is_late_sitd, IsInTime}
use Rattle.bus_wire.specs.Bus.{Fixed, fixed_of}
use Rattle.bus_world.specs.World.{World, driver_parts, controller_parts, controller_row, kind_next, name_in, commanded, commanded_by}
use Rattle.bus_world.specs.Budgets.{moment}
use Rattle.law_world.proofs.lemmas.memory.Texts.{texts_fit}
use Rattle.law_world.proofs.lemmas.memory.FittingTexts.{texts_open_fitting}
use Rattle.law_world.proofs.lemmas.memory.lemmas.framed_memory.EndpointFacts.{after_row, IsOfOpened, after_command}
use Rattle.claims_world.specs.Visits.{frame_in, is_held_now}
use Rattle.law_microframes.specs.visits.Began.{began}
use Rattle.law_microframes.proofs.lemmas.visits.BelongMoments.{scripts_keep_fields}
use Rattle.law_world.proofs.lemmas.memory.Carrying.{KeepsCarried, carrying}
use Rattle.law_microframes.proofs.lemmas.visits.ReasonHeld.{texts_keep_held_time}
use Rattle.law_microframes.proofs.lemmas.visits.ReasonParts.{InPart, row_in}
use Rattle.law_microframes.proofs.lemmas.visits.VisitControlling.{frame_periodic}
use Rattle.law_microframes.proofs.lemmas.visits.VisitTexts.{lines_fit}
use Rattle.law_microframes.specs.time.SplitCharges.{IsPaidFor, at_high, at_split, at_sitd}
use Rattle.claims_world.specs.Prices.{cost_of}
use Rattle.claims_world.specs.WithinLoad.{is_again, payments, repeats_at, repeats_after, repeats_next, repeats, paid_by_all, IsWithinLoad, LeavesTheRest}
use Rattle.claims_world.specs.FrameHeads.{FrameHeadsStand}
use Rattle.claims_world.specs.Scripts.{OpensHighPeriodics, HighPeriodicsLine, HighPeriodicsOnly}
use Rattle.law_microframes.specs.time.PaymentLaws.{TextsPayWithinLoad, IsOwnedBy, by_queue, by_descriptor, IsHandPaid, IsIdle, IsPassing, ArePaidByHand}
use Rattle.law_microframes.specs.time.PaymentTimes.{TextsLeaveTheRest, TextsAreInTime}
use Rattle.law_microframes.proofs.lemmas.time.ChargeEvents.{enough_time_skips_nothing}
use Rattle.law_microframes.proofs.lemmas.time.ChargeLoads.{bus_short, transactions_are_short}
use Rattle.law_microframes.proofs.lemmas.time.PaymentMoments.{ArePaidIn, scripts_are_paid}
use Rattle.law_microframes.proofs.lemmas.time.PaymentTexts.{texts_load}
use Rattle.law_microframes.proofs.lemmas.time.PaymentTimesRest.{rest_along}
use Rattle.law_microframes.proofs.lemmas.time.PaymentWalking.{in_hand_once, idle_once}
use Rattle.law_microframes.proofs.lemmas.time.SlotTexts.{texts_fit_slots}
use Rattle.law_microframes.proofs.lemmas.time.SplitCharged.{split_in_time}
use Rattle.law_microframes.proofs.lemmas.time.SplitMasked.{scripts_keep_allowed}

-- ---- no endpoint has larger packets

abbrev IsShort : EpDesc → Option Placement → Type 0
IsShort x o = x.max ≤ 1024

abbrev AreShort : DriverContent → Type 0
AreShort d = (e : ℕ) (x : Endpoint) → slice_get d.endpoints e ≡ Some x → x.desc.max ≤ 1024

abbrev AnyCommand : Cmd → Type 0
AnyCommand cmd = Unit {0}

any_line : (l : Line) → KindOfLine AnyCommand l
any_line (lines.Order event count) = tt
any_line _ = tt

any_lines : (xs : List (ℕ × Line)) → AllByRecursion (λ x. KindOfLine AnyCommand x.1) xs
any_lines [] = tt
any_lines (x ∷ xs) = (any_line x.1, any_lines xs)

opened : (w : World) (cmd : Cmd) → IsOffered w.driver.room cmd → IsOfOpened IsShort cmd
opened w (commands.OpenEp x) room = λ o. room.1
opened w _ room = tt

command_short : (w : World) (n : ℕ) (cmd : Cmd) → IsOffered w.driver.room cmd → AreShort w.driver → AreShort (commanded w n cmd).driver
command_short w n cmd room k = by (offered w.driver w.memory cmd) refl
  where
    by : (r : Result Offered OfferError) → offered w.driver w.memory cmd ≡ r → AreShort (commanded_by w n (name_in cmd) r).driver
    by (Err why) is = k
    by (Ok o) is = after_command IsShort w.driver w.memory cmd o (opened w cmd room) k is

is_kept : (s : Script) → IsKeptBy (fixed_of s) AnyCommand (λ w. AreShort w.driver)
is_kept s = record {
  driver = λ w k. after_row IsShort (driver_row (driver_parts w)) (driver_parts w) k;
  controller = λ w k. k;
  command = λ w line cmd can room k. command_short w line cmd room k;
}

scripts_are_short : (s : Script) → IsFit s → (k : ℕ) → AreShort (moment s k).world.driver
scripts_are_short s fit k = holds_throughout AnyCommand (λ w. AreShort w.driver) s fit (any_lines s.lines) (λ e x there. absurd (cc)) (is_kept s) k

owner_short : (b : World) (d : DriverContent) (now f a : ℕ) (x : Placed) → AreShort d → IsOwnedBy b d now f a x → x.want.max ≤ 1024
owner_short b d now f a x short (by_queue q is) = subst (λ (z : Placed). z.want.max ≤ 1024) is (short q.belongs.number q.belongs.endpoint q.belongs.here)
owner_short b d now f a x short (by_descriptor e i is active) = subst (λ (z : Placed). z.want.max ≤ 1024) is (short e i.endpoint i.here)

-- ---- the walk's next event

fits_in : (price left : ℕ) → price ≤ 21000000 → 21000000 ≤ left → price ≤ left
fits_in price left few enough = omega (arith, few, enough)

passing_time : (left : ℕ) (h : HeldItd) → h.ended ≡ None → h.slot.active ≡ false → is_late_itd left h h.ended ≡ false
passing_time left h goes_on off = ap (is_late_itd left h) goes_on ∙ ap (λ (b : Bool). b && nat_lt left (itd_transaction h).price.0) off

idle_time : (p : FramePlace) (hand : Hand) → IsIdle hand → is_late_at p (Some hand) ≡ false
idle_time p (hands.Queue h) idle = absurd idle
idle_time p (hands.Itd h) idle = passing_time p.walk.left h idle.0 idle.1
idle_time p (hands.Sitd h) idle =
    ap (is_late_sitd p.walk.left (microframe_of p.walk.index) h.sitd) idle.0
    ∙ ap (λ (b : Bool). is_late_split p.walk.left h.sitd
    (turn_at b (sitd_missed (microframe_of p.walk.index) h.sitd) (comes (microframe_of p.walk.index) h.sitd))) idle.1

-- a part of at most 188 bytes
sitd_short : (v : Sitd) → (sitd_transaction v).price.0 ≤ 21000000
sitd_short v = by v.dir_in v.split_state
  where
    part : part_bytes v ≤ 1024
    part = omega arith

    by : (way split : Bool)
        → (if way then (if split then sitd_with (sitd_ask v (Complete v.hub v.port) In) ways.In 0 (part_bytes v) else sitd_with
        (sitd_ask v (Start v.hub v.port All) In) ways.In 0 0)
        else sitd_out v).price.0 ≤ 21000000
    by true true = bus_short kinds.Iso ways.In (part_bytes v) part
    by true false = bus_short kinds.Iso ways.In 0 (omega arith)
    by false split = bus_short kinds.Iso ways.Out (part_bytes v) part

sitd_time : (left u : ℕ) (v : Sitd) (o : Option SplitOutcome) → 21000000 ≤ left → is_late_sitd left u v o ≡ false
sitd_time left u v (Some outcome) enough = refl
sitd_time left u v None enough = by (sitd_turn u v)
  where
    by : (turn : SitdTurn) → is_late_split left v turn ≡ false
    by sitd_turns.Rest = refl
    by sitd_turns.Miss = refl
    by sitd_turns.Work = let few = sitd_short v in not_below left (sitd_transaction v).price.0 (omega (arith, few, enough))

module _ (b : World) (d : DriverContent) (now index : ℕ) (p : FramePlace) (same : p.walk.index ≡ index) (ps : List (ℕ × ℕ)) (short : AreShort d) (enough : 21000000 ≤ p.walk.left) where
  paid_time : (x : Placed) (paid : ℕ) (hand : Hand) → x.want.max ≤ 1024 → p.walk.hand ≡ Some hand → IsPaidFor x p.walk.index hand paid
      → is_late p ≡ false
  paid_time x paid hand few is (at_high held) =
      enough_time_skips_nothing x p hand is held.of (fits_in _ p.walk.left (transactions_are_short x.want few) enough)
  paid_time x paid hand few is (at_split h own held) = ap (is_late_at p) (is ∙ ap Some own) ∙ split_in_time x p h paid held few enough
  paid_time x paid hand few is (at_sitd h own held) =
      ap (is_late_at p) (is ∙ ap Some own) ∙ sitd_time p.walk.left (microframe_of p.walk.index) h.sitd h.settled enough

  held_time : (hand : Hand) → p.walk.hand ≡ Some hand → IsHandPaid b d now index hand ps → is_late p ≡ false
  held_time hand is k =
      paid_time k.of k.paid hand (owner_short b d now _ k.address k.of short k.owned) is
      (subst (λ (i : ℕ). IsPaidFor k.of i hand k.paid) (sym same) k.held)

  passed_time : (hand : Hand) → p.walk.hand ≡ Some hand → IsPassing hand ps → is_late p ≡ false
  passed_time hand is k = ap (is_late_at p) is ∙ idle_time p hand k.idle

  hand_time : (o : Option Hand) → p.walk.hand ≡ o → ArePaidByHand b d now index o ps → is_late p ≡ false
  hand_time None is k = ap (is_late_at p) is
  hand_time (Some hand) is k = ⊎_elim (held_time hand is) (passed_time hand is) k

-- ---- nothing is made again at high speed

abbrev IsHigh : EpDesc → Option Placement → Type 0
IsHigh x o = is_periodic x.kind ≡ true → x.speed ≡ High

abbrev AreHigh : DriverContent → Type 0
AreHigh d = (e : ℕ) (x : Endpoint) → slice_get d.endpoints e ≡ Some x → is_periodic x.desc.kind ≡ true → x.desc.speed ≡ High

high_opened : (w : World) (cmd : Cmd) → OpensHighPeriodics cmd → IsOfOpened IsHigh cmd
high_opened w (commands.OpenEp x) only = λ o on. only on
high_opened w _ only = tt

command_high : (w : World) (n : ℕ) (cmd : Cmd) → OpensHighPeriodics cmd → AreHigh w.driver → AreHigh (commanded w n cmd).driver
command_high w n cmd only k = by (offered w.driver w.memory cmd) refl
  where
    by : (r : Result Offered OfferError) → offered w.driver w.memory cmd ≡ r → AreHigh (commanded_by w n (name_in cmd) r).driver
    by (Err why) is = k
    by (Ok o) is = after_command IsHigh w.driver w.memory cmd o (high_opened w cmd only) k is

high_line : (l : Line) → HighPeriodicsLine l → KindOfLine OpensHighPeriodics l
high_line (lines.Command cmd) only = only
high_line _ only = tt

high_lines : (xs : List (ℕ × Line)) → AllByRecursion (λ x. HighPeriodicsLine x.1) xs
    → AllByRecursion (λ x. KindOfLine OpensHighPeriodics x.1) xs
high_lines [] only = tt
high_lines (x ∷ xs) only = (high_line x.1 only.0, high_lines xs only.1)

stays_high : (s : Script) → IsKeptBy (fixed_of s) OpensHighPeriodics (λ w. AreHigh w.driver)
stays_high s = record {
  driver = λ w k. after_row IsHigh (driver_row (driver_parts w)) (driver_parts w) k;
  controller = λ w k. k;
  command = λ w line cmd only room k. command_high w line cmd only k;
}

scripts_are_high : (s : Script) → IsFit s → HighPeriodicsOnly s → (k : ℕ) → AreHigh (moment s k).world.driver
scripts_are_high s fit only k = holds_throughout OpensHighPeriodics (λ w. AreHigh w.driver) s fit (high_lines s.lines only)
    (λ e x there. absurd (cc)) (stays_high s) k

owner_high : (b : World) (d : DriverContent) (now f a : ℕ) (x : Placed) → AreHigh d → IsOwnedBy b d now f a x → x.want.speed ≡ High
owner_high b d now f a x high (by_queue q is) =
    subst (λ (z : Placed). z.want.speed ≡ High) is (high q.belongs.number q.belongs.endpoint q.belongs.here (ap is_periodic q.kind))
owner_high b d now f a x high (by_descriptor e i is active) =
    subst (λ (z : Placed). z.want.speed ≡ High) is (high e i.endpoint i.here (ap is_periodic i.kind))

paid_once : (x : Placed) (u : ℕ) (hand : Hand) (paid : ℕ) → x.want.speed ≡ High → IsPaidFor x u hand paid → is_again hand ≡ false
paid_once x u hand paid high (at_high held) = in_hand_once x u hand held.of
paid_once x u hand paid high (at_split h is held) = absurd (true≢false (sym held.head.classic ∙ ap is_classic high))
paid_once x u hand paid high (at_sitd h is held) = ap is_again is

hand_once : (b : World) (d : DriverContent) (now index : ℕ) (hand : Hand) (ps : List (ℕ × ℕ)) → AreHigh d
    → ArePaidByHand b d now index (Some hand) ps → is_again hand ≡ false
hand_once b d now index hand ps high k =
    ⊎_elim {C = is_again hand ≡ false}
    (λ (h : IsHandPaid b d now index hand ps). paid_once h.of index hand h.paid
    (owner_high b d now (frame_in index) h.address h.of high h.owned) h.held)
    (λ (h : IsPassing hand ps). idle_once hand h.idle) k

none_at : (b : World) (d : DriverContent) (now index : ℕ) (o : Option Hand) (ps : List (ℕ × ℕ)) (step : HcStep) (n : ℕ) → AreHigh d
    → ArePaidByHand b d now index o ps → n ≡ 0
    → repeats_at o step n ≡ 0
none_at b d now index None ps step n high k none = none
none_at b d now index (Some hand) ps step n high k none =
    ap (λ (c : Bool). if c then n + cost_of step hand else n) (hand_once b d now index hand ps high k) ∙ none

-- what was paid so far is
record IsPaidHigh (w : World) : Type 0 where
  began : World
  paid : List (ℕ × ℕ)
  are : ArePaidIn began w paid
  high : AreHigh w.driver

none_after : (w : World) (row : ControllerRow) (step : HcStep) (n : ℕ) → IsPaidHigh w → InPart row w.control.part → n ≡ 0
    → repeats_after row step (controller_parts w) n ≡ 0
none_after w rows.Begin step n k at none = refl
none_after w rows.Frame step n k at none =
    none_at k.began w.driver w.registers.frame_index w.control.frame.index w.control.frame.hand k.paid step n k.high (k.are.hand at) none
none_after w _ step n k at none = none

none_kept : (fixed : Fixed) → KeepsCarried repeats_next fixed (λ w orders n. IsPaidHigh w) (λ w n. n ≡ 0)
none_kept fixed = record {
  controller = λ w orders n k none. none_after w (controller_row w) (kind_next w) n k (row_in w) none;
  driver = λ w orders n k none. none;
  command = λ w i cmd rest n k none. none;
}

-- ---- a moment

fifth_left : (left paid again whole : ℕ) → left + (paid + again) ≡ whole → whole ≡ 125000000 → paid ≤ 100000000
    → 25000000 ≤ left + again
fifth_left left paid again whole is all few = omega (arith, is, all, few)

enough_for_one : (left again : ℕ) → 25000000 ≤ left + again → again ≤ 4000000 → 21000000 ≤ left
enough_for_one left again fifth few = omega (arith, fifth, few)

module _ (fixed : Fixed) (b w : World) (ps : List (ℕ × ℕ)) (again : ℕ) (short : AreShort w.driver) (paid : ArePaidIn b w ps)
    (load : IsWithinLoad w ps)
    (rest : LeavesTheRest fixed w ps again) where
  enough_left : w.control.part ≡ Periodic → is_held_now fixed w ≡ false → 25000000 ≤ w.control.frame.left + again
  enough_left on free =
      fifth_left w.control.frame.left (paid_by_all ps) again (time_of (not (is_held_now fixed w))) (rest on)
      (ap (λ (h : Bool). time_of (not h)) free) load.fifth

  is_in_time : IsInTime fixed again w
  is_in_time = record {
    fifth = enough_left;
    in_time = λ is free few.
        let on : w.control.part ≡ Periodic = frame_periodic w.registers.run w.registers w.control.frame w.control.part is in
        hand_time b w.driver w.registers.frame_index w.control.frame.index (frame_place (controller_parts w)) refl ps short
        (enough_for_one w.control.frame.left again (enough_left on free) few) w.control.frame.hand refl (paid.hand on);
  }

-- ---- a run

texts_are_paid : (text : List ℕ) (s : Script) → Spells text s → (k : ℕ)
    → ArePaidIn (began s k) (moment s k).world (payments s k)
texts_are_paid text s spelled k =
    scripts_are_paid s (spelled_fits text s spelled) (a_text_spells_bytes text s spelled)
    (lines_fit s.lines (texts_fit text s spelled) (texts_open_fitting text s spelled))
    (texts_fit_slots text s spelled) k

texts_make_none_again : (text : List ℕ) (s : Script) → Spells text s → HighPeriodicsOnly s → (k : ℕ) → repeats s k ≡ 0
texts_make_none_again text s spelled only k =
    carrying repeats_next (λ w orders n. IsPaidHigh w) (λ w n. n ≡ 0) s 0 (none_kept (fixed_of s))
    (λ j.
    record {
      began = began s j;
      paid = payments s j;
      are = texts_are_paid text s spelled j;
      high = scripts_are_high s (spelled_fits text s spelled) only j;
    }) refl k

pub texts_leave_the_rest : TextsLeaveTheRest
texts_leave_the_rest text s spelled k = rest_along s (λ j. (texts_keep_held_time text s spelled j).tells) k

pub texts_are_in_time : TextsAreInTime
texts_are_in_time text s spelled = record {
  each = λ k.
      is_in_time (fixed_of s) (began s k) (moment s k).world (payments s k) (repeats s k)
      (scripts_are_short s (spelled_fits text s spelled) k) (texts_are_paid text s spelled k)
      (texts_load text s spelled k) (texts_leave_the_rest text s spelled k);
  once = texts_make_none_again text s spelled;
}

-- ---- what the queue heads in the frames are

texts_heads : (text : List ℕ) (s : Script) → Spells text s → (k : ℕ) → FrameHeadsStand (moment s k).world.memory (moment s k).world.driver
texts_heads text s spelled k =
    let fit = spelled_fits text s spelled in
    let have = scripts_keep_fields s fit (a_text_spells_bytes text s spelled)
    (lines_fit s.lines (texts_fit text s spelled) (texts_open_fitting text s spelled)) k in
    record {
      fixed = λ e x p here queue kept placed. let h = have e x p here queue kept placed in
          record { characteristics = h.characteristics; capabilities = h.capabilities };
      allowed = scripts_keep_allowed s fit k;
    }

-- ---- all of it

pub texts_pay_within_load : TextsPayWithinLoad
texts_pay_within_load text s spelled = record
    { heads = texts_heads text s spelled; taken = texts_leave_the_rest text s spelled; load = texts_load text s spelled }
