-- The recorded windows go on as those of the law do.
use Rattle.std.proofs.Common.{◌≡◌, ◌≢◌, ℕ, suc, ◌<◌, ◌&&◌, Bool, true, false, if◌then◌else◌, List, Option, Some, None, ap, refl, sym, subst, ◌∙◌, ⊎_elim}
use Rattle.std.proofs.lemmas.Bool.{cases_eq, eq-eqb, false≢true}
use Rattle.std.proofs.lemmas.Option.{same_Some}
use Rattle.law_common.proofs.Numbers.{other_number}
use Rattle.qh_qtd.specs.declared.queue_head.Qh.{Qh}
use Rattle.toggle_error.specs.declared.host.HostSide.{HostSide}
use Rattle.hc_copy.specs.Planning.{host_in}
use Rattle.async_walk.specs.declared.state.WalkStep.{WalkStep}
use Rattle.law_structures.specs.lent_structures.Structures.{Structures, StructureSets}
use Rattle.law_structures.proofs.lemmas.lent_structures.Altering.{found_queue}
use Rattle.hc_core.specs.declared.controller.MicroframePart.TheVariants.{Asynchronous}
use Rattle.bus_wire.specs.declared.asked.Losses.{Losses}
use Rattle.bus_wire.specs.Bus.{Fixed}
use Rattle.drv_table.specs.DriverContent.{DriverContent}
use Rattle.claims_report.specs.Requests.{Request}
use Rattle.law_request.specs.Host.{Endpoint, Host, Stage, Setup, Data, Status, is_over}
use Rattle.law_request.specs.Line.{Line, transacted}
use Rattle.dev_control.specs.Stages.{Stages}
use Rattle.law_devices.specs.request_calls.Bus.{device_of}
use Rattle.law_ring.specs.Hand.{Hand, Copied, held_of}
use Rattle.claims_base.specs.Controller.{Base}
use Rattle.law_ring.specs.Ring.{IsCopied, IsInHand}
use Rattle.law_ring.specs.Effects.{Makes, Effect}
use Rattle.law_ring.specs.Effects.Effect.{reads, passes, takes, makes, writes_back}
use Rattle.law_controller.specs.controlled_streams.Control.{ControlEffect, a_microframe, a_step}
use Rattle.law_devices.specs.ring_requests.Laid.{Places, place_at}
use Rattle.law_devices.specs.ring_requests.Shown.{hand_side, Works, Shows}
use Rattle.law_devices.specs.ring_requests.Shown.Shows.{works, waits, halts}
use Rattle.law_devices.specs.ring_requests.Windows.{Queue, Lines, IsQueue, AreHigh, Progress, Transaction, Advance, Step, opened, progressed, stepped, stage_of, is_done, IsStepOf}
use Rattle.law_devices.specs.control_requests.Events.{IsControlStepOf, ControlWindowsGoOn}
use Rattle.law_devices.proofs.lemmas.control_requests.Keeping.{an_event_keeps_the_windows}
use Rattle.law_devices.specs.Controls.{control_of}
use Rattle.law_devices.specs.scripted_requests.Controls.{transacts_by, begins_by}
use Rattle.law_devices.proofs.lemmas.scripted_requests.Asking.{a_scripted_bus_answers_by_stages}
use Rattle.law_devices.proofs.lemmas.scripted_requests.Beginning.{keeps_devices}
use Rattle.bus_world.specs.World.{World, controller_parts, controller_next}
use Rattle.claims_world.specs.Requests.{wired, setup_at, endpoint_of, Windows, acted_between, opened_by, begun_by, stages_at, side_of, acted_with, acted_by, after_event}
use Rattle.law_reports.specs.requests.world_requests.Requesting.{IsRequesting, HearsBytesNow, WindowsGoOn, AreAsked}
use Rattle.law_reports.specs.requests.world_requests.Recording.{IsNamed, IsNoSetup, AreTransfers, AreRecorded, IsRecorded, StaysRecorded}
use Rattle.law_reports.proofs.lemmas.requests.lemmas.world_requests.Acting.{none_acted}
use Rattle.law_reports.proofs.lemmas.requests.lemmas.world_requests.Begun.{begun_between, left_begins, same_begins, kind_begins}
use Rattle.law_reports.proofs.lemmas.requests.lemmas.world_requests.Queues.{no_setup_opens, setup_opens, recorded_stays, recorded_advances, recorded_transaction}
use Rattle.law_reports.proofs.lemmas.requests.lemmas.world_requests.Turning.{world_has_row}
use Rattle.law_reports.proofs.lemmas.requests.Seats.{stages_as}

pub works_only : (e : Endpoint) (r : Request) (x : Places) (part : Structures) (side : HostSide) (q : Qh) (h : Host) → side.active ≡ true → Shows e r x part side q h → Works e r x part side q h
works_only e r x part side q h on (works w) = w
works_only e r x part side q h on (waits w) = absurd (false≢true (sym w.idle ∙ on))
works_only e r x part side q h on (Shows.ends w) = absurd (false≢true (sym w.idle ∙ on))
works_only e r x part side q h on (halts w) = absurd (false≢true (sym w.idle ∙ on))

none_found : (d : DriverContent) (e a : ℕ) → setup_at d a ≡ None → IsNoSetup d e a
none_found d e a none t found of = let both : None ≡ Some t = sym none ∙ found in cc

data_no_setup : Data ≡ Setup → ⊥
data_no_setup same = cc

status_no_setup : Status ≡ Setup → ⊥
status_no_setup same = cc

module _ (fixed : Fixed) (base : Base) (member windows : ℕ → Bool) (sent : ℕ → Queue) (parts : StructureSets) (hand : Hand) (lines : ℕ → Lines) (endpoint : ℕ → ℕ) (number : ℕ → ℕ → ℕ) (w : World) (v : Windows) (k : AreAsked fixed base member windows sent parts hand lines w) (t : AreTransfers w.driver windows sent lines parts endpoint number) (r : IsRecorded windows sent endpoint number lines v) (g : WindowsGoOn begins_by transacts_by control_of base member windows sent lines parts hand (wired fixed w) (wired fixed (controller_next fixed w)) (controller_parts (controller_next fixed w))) where
  abbrev d : DriverContent
  d = w.driver

  abbrev new : World
  new = controller_next fixed w

  abbrev latest : ℕ → Option ℕ
  latest = opened_by w.driver (begun_by w) v.opened

  abbrev acted : ℕ → List (List ℕ)
  acted = acted_by fixed w (controller_next fixed w)

  abbrev line_of : Lines → Line
  line_of l = l.line l.under

  -- ---- the device of each queue head

  pub acted_is : (n : ℕ) → windows n ≡ true → acted_by fixed w (controller_next fixed w) (endpoint n) ≡ acted_between ((lines n).line (lines n).under).device ((stepped sent g.step lines n).line (stepped sent g.step lines n).under).device
  acted_is n on =
      let x : IsNamed w.driver (endpoint n) (sent n).endpoint = t.named n on in
      let before : control_of (wired fixed w) (sent n).endpoint.addr (sent n).endpoint.num ≡ Some (device_of (sent n).endpoint ((lines n).line (lines n).under).device) = (k.all.each n on).window.device in
      let after : control_of (wired fixed new) (sent n).endpoint.addr (sent n).endpoint.num ≡ Some (device_of (sent n).endpoint ((stepped sent g.step lines n).line (stepped sent g.step lines n).under).device) = (g.all.each n on).window.device in
      ap (λ o. acted_with (side_of fixed w o) (side_of fixed new o)) x.here
      ∙ ap (λ (a : ℕ). acted_with (stages_at (wired fixed w) a x.own.desc.name.num) (stages_at (wired fixed new) a x.own.desc.name.num)) x.address
      ∙ ap (λ (m : ℕ). acted_with (stages_at (wired fixed w) (sent n).endpoint.addr m) (stages_at (wired fixed new) (sent n).endpoint.addr m)) x.number
      ∙ ap (λ (o : Option Stages). acted_with o (stages_at (wired fixed new) (sent n).endpoint.addr (sent n).endpoint.num))
      (stages_as (wired fixed w) (sent n).endpoint.addr (sent n).endpoint.num
      (device_of (sent n).endpoint ((lines n).line (lines n).under).device) before)
      ∙ ap (acted_with (Some ((lines n).line (lines n).under).device))
      (stages_as (wired fixed new) (sent n).endpoint.addr (sent n).endpoint.num
      (device_of (sent n).endpoint ((stepped sent g.step lines n).line (stepped sent g.step lines n).under).device) after)

  acted_so : (n : ℕ) → windows n ≡ true → (l : Lines) → stepped sent g.step lines n ≡ l → acted_by fixed w (controller_next fixed w) (endpoint n) ≡ acted_between ((lines n).line (lines n).under).device (l.line l.under).device
  acted_so n on l is = acted_is n on ∙ ap (λ (x : Lines). acted_between ((lines n).line (lines n).under).device (x.line x.under).device) is

  -- ---- what the step is to a queue head

  abbrev Goal : ℕ → Lines → Type 0
  Goal n l = AreRecorded (sent n) (number n) ((after_event fixed w v).opened (endpoint n)) (after_event fixed w v).acts l

  stays_at : (n : ℕ) → windows n ≡ true → stepped sent g.step lines n ≡ lines n → latest (endpoint n) ≡ v.opened (endpoint n) → Goal n (stepped sent g.step lines n)
  stays_at n on is same =
      subst (Goal n) (sym is)
      (recorded_stays d (sent n) (endpoint n) (number n) latest acted v.acts (λ i few. t.are n i on few) (v.opened (endpoint n)) (lines n) (k.all.each n on).within same
      (acted_so n on (lines n) is ∙ none_acted ((lines n).line (lines n).under).device) (r n on))

  advances_at : (n : ℕ) → windows n ≡ true → stepped sent g.step lines n ≡ progressed (sent n) Advance (lines n) → latest (endpoint n) ≡ v.opened (endpoint n) → Goal n (stepped sent g.step lines n)
  advances_at n on is same =
      subst (Goal n) (sym is)
      (recorded_advances d (sent n) (endpoint n) (number n) latest acted v.acts (λ i few. t.are n i on few) (v.opened (endpoint n)) (lines n)
      (subst (λ (l : Lines). l.under < (sent n).count) is (g.all.each n on).within) same
      (acted_so n on (progressed (sent n) Advance (lines n)) is
      ∙ ap (λ (b : Bool). acted_between ((lines n).line (lines n).under).device (if b then opened (sent n) (suc (lines n).under) ((lines n).line (lines n).under) else (lines n).line (suc (lines n).under)).device)
      (eq-eqb (suc (lines n).under) (suc (lines n).under) refl)
      ∙ none_acted ((lines n).line (lines n).under).device) (r n on))

  transaction_at : (n : ℕ) → windows n ≡ true → (losses : Losses) → stepped sent g.step lines n ≡ progressed (sent n) (Transaction losses) (lines n) → latest (endpoint n) ≡ Some (number n (lines n).under) → Goal n (stepped sent g.step lines n)
  transaction_at n on losses is opens =
      subst (Goal n) (sym is)
      (recorded_transaction d (sent n) (endpoint n) (number n) latest acted v.acts (λ i few. t.are n i on few) losses (v.opened (endpoint n)) (lines n) (k.all.each n on).within (λ i j few less same. t.own n i j on few less same) opens
      (acted_so n on (progressed (sent n) (Transaction losses) (lines n)) is
      ∙ ap (λ (b : Bool). acted_between ((lines n).line (lines n).under).device (if b then transacted (sent n).endpoint ((sent n).requests (lines n).under) losses ((lines n).line (lines n).under) else (lines n).line (lines n).under).device)
      (eq-eqb (lines n).under (lines n).under refl)) (r n on))

  no_step : (n : ℕ) → g.step ≡ None → stepped sent g.step lines n ≡ lines n
  no_step n is = ap (λ (s : Option Step). stepped sent s lines n) is

  step_beside : (n at : ℕ) (p : Progress) → g.step ≡ Some (record { at = at; is = p }) → n ≢ at → stepped sent g.step lines n ≡ lines n
  step_beside n at p is differs = ap (λ (s : Option Step). stepped sent s lines n) is ∙ ap (λ (b : Bool). if b then progressed (sent n) p (lines n) else lines n) (other_number n at differs)

  step_here : (n at : ℕ) (p : Progress) → g.step ≡ Some (record { at = at; is = p }) → n ≡ at → stepped sent g.step lines n ≡ progressed (sent n) p (lines n)
  step_here n at p is same = ap (λ (s : Option Step). stepped sent s lines n) is ∙ ap (λ (b : Bool). if b then progressed (sent n) p (lines n) else lines n) (eq-eqb n at same)

  -- ---- what the event begins

  between : (w.control.part ≡ Asynchronous → ⊥) → w.control.walk.held ≡ None
  between other = k.walked.ring.held ∙ ap held_of (k.walked.between other)

  begun_is : begun_by w ≡ begun_between w.driver (held_of hand) (held_of g.event.later)
  begun_is =
      kind_begins fixed w between ∙ ap (λ o. begun_between w.driver o (controller_next fixed w).control.walk.held) k.walked.ring.held
      ∙ ap (λ o. begun_between w.driver (held_of hand) o) g.event.ring.held

  none_opens : (e : ℕ) → begun_by w ≡ None → opened_by w.driver (begun_by w) v.opened e ≡ v.opened e
  none_opens e is = ap (λ (o : Option ℕ). opened_by w.driver o v.opened e) is

  left : (h : Hand) → g.event.later ≡ h → held_of h ≡ None → begun_by w ≡ None
  left h is nothing = begun_is ∙ ap (λ (x : Hand). begun_between w.driver (held_of hand) (held_of x)) is ∙ ap (begun_between w.driver (held_of hand)) nothing ∙ left_begins w.driver (held_of hand)

  -- ---- a transaction

  module _ (m : Makes transacts_by parts hand (wired fixed w) (wired fixed (controller_next fixed w)) g.event.later) where
    begun_now : begun_by w ≡ setup_at w.driver m.copy.queue.current
    begun_now =
        begun_is ∙ ap (λ (x : Hand). begun_between w.driver (held_of x) (held_of g.event.later)) m.in_hand
        ∙ ap (λ (x : Hand). begun_between w.driver (held_of (Copied m.copy)) (held_of x)) m.later_is

    latest_is : (e : ℕ) → opened_by w.driver (begun_by w) v.opened e ≡ opened_by w.driver (setup_at w.driver m.copy.queue.current) v.opened e
    latest_is e = ap (λ (o : Option ℕ). opened_by w.driver o v.opened e) begun_now

    -- of a queue head with no requests
    module _ (off : windows m.copy.at ≡ false) (none : g.step ≡ None) where
      other_kept : (n : ℕ) → windows n ≡ true → Goal n (stepped sent g.step lines n)
      other_kept n on =
          stays_at n on (no_step n none)
          (latest_is (endpoint n) ∙ no_setup_opens d (endpoint n) m.copy.queue.current v.opened (t.others n m.copy.at m.copy.queue.current m.sent.element on off m.sent.here))

    -- of one of the requests
    module _ (asked : windows m.copy.at ≡ true) (losses : Losses) (is : g.step ≡ Some (record { at = m.copy.at; is = Transaction losses })) where
      abbrev at : ℕ
      at = m.copy.at

      requests : IsQueue (sent m.copy.at) (lines m.copy.at) hand parts m.copy.at (control_of (wired fixed w) (sent m.copy.at).endpoint.addr (sent m.copy.at).endpoint.num)
      requests = k.all.each m.copy.at asked

      copied : IsCopied member parts m.copy
      copied = subst (IsInHand member parts w.control.walk.reply) m.in_hand k.walked.ring.in_hand

      same_queue : requests.window.queue ≡ m.copy.queue
      same_queue = found_queue (parts m.copy.at m.copy.at) requests.window.queue m.copy.queue requests.window.head copied.here

      unmade : hand_side hand m.copy.at requests.window.queue ≡ host_in requests.window.queue
      unmade = ap (λ (h : Hand). hand_side h m.copy.at requests.window.queue) m.in_hand

      work : Works (sent m.copy.at).endpoint ((sent m.copy.at).requests (lines m.copy.at).under) ((sent m.copy.at).places (lines m.copy.at).under) (parts m.copy.at) (host_in m.copy.queue) m.copy.queue ((lines m.copy.at).line (lines m.copy.at).under).host
      work =
          let e : Endpoint = (sent m.copy.at).endpoint in
          let q : Request = (sent m.copy.at).requests (lines m.copy.at).under in
          let x : Places = (sent m.copy.at).places (lines m.copy.at).under in
          let h : Host = ((lines m.copy.at).line (lines m.copy.at).under).host in
          works_only e q x (parts at) (host_in m.copy.queue) m.copy.queue h m.works
          (subst (λ (z : Qh). Shows e q x (parts at) (host_in z) z h) same_queue (subst (λ (s : HostSide). Shows e q x (parts at) s requests.window.queue h) unmade requests.window.shown))

      place : (s : Stage) → ((lines m.copy.at).line (lines m.copy.at).under).host.stage ≡ s → setup_at w.driver m.copy.queue.current ≡ setup_at w.driver (place_at ((sent m.copy.at).places (lines m.copy.at).under) s)
      place s stage = ap (setup_at w.driver) (work.current ∙ ap (place_at ((sent m.copy.at).places (lines m.copy.at).under)) stage)

      -- where it is no SETUP the window is open already
      still_open : (none : setup_at w.driver m.copy.queue.current ≡ None) → (stage_of (lines m.copy.at) ≡ Setup → ⊥) → opened_by w.driver (begun_by w) v.opened (endpoint m.copy.at) ≡ Some (number m.copy.at (lines m.copy.at).under)
      still_open none other =
          none_opens (endpoint at) (begun_now ∙ none)
          ∙ ⊎_elim {C = v.opened (endpoint m.copy.at) ≡ Some (number m.copy.at (lines m.copy.at).under)}
          (λ (open_is : v.opened (endpoint m.copy.at) ≡ Some (number m.copy.at (lines m.copy.at).under)). open_is)
          (λ (setup : stage_of (lines m.copy.at) ≡ Setup). absurd (other setup)) (r at asked).is_open

      opens_here : (s : Stage) → ((lines m.copy.at).line (lines m.copy.at).under).host.stage ≡ s → opened_by w.driver (begun_by w) v.opened (endpoint m.copy.at) ≡ Some (number m.copy.at (lines m.copy.at).under)
      opens_here Setup stage =
          latest_is (endpoint at)
          ∙ setup_opens d (endpoint at) m.copy.queue.current (number at (lines m.copy.at).under) v.opened (place Setup stage ∙ t.setup at asked) (t.are at (lines m.copy.at).under asked requests.within)
      opens_here Data stage = still_open (place Data stage ∙ t.data_at at asked) (λ same. data_no_setup (sym stage ∙ same))
      opens_here Status stage = still_open (place Status stage ∙ t.status at asked) (λ same. status_no_setup (sym stage ∙ same))
      opens_here _ stage = absurd (false≢true (sym work.goes_on ∙ ap is_over stage))

      -- and no window of another queue head opens
      none_beside : (n : ℕ) → windows n ≡ true → n ≢ m.copy.at → (s : Stage) → ((lines m.copy.at).line (lines m.copy.at).under).host.stage ≡ s → IsNoSetup w.driver (endpoint n) m.copy.queue.current
      none_beside n on differs Setup stage = λ found it_is of.
          let same : number m.copy.at (lines m.copy.at).under ≡ found = same_Some (number m.copy.at (lines m.copy.at).under) found (sym (place Setup stage ∙ t.setup at asked) ∙ it_is) in
          differs (t.apart n at on asked
          (same_Some (endpoint n) (endpoint at) (sym of ∙ ap (endpoint_of d) (sym same) ∙ t.are at (lines m.copy.at).under asked requests.within)))
      none_beside n on differs Data stage = none_found d (endpoint n) m.copy.queue.current (place Data stage ∙ t.data_at at asked)
      none_beside n on differs Status stage = none_found d (endpoint n) m.copy.queue.current (place Status stage ∙ t.status at asked)
      none_beside n on differs _ stage = absurd (false≢true (sym work.goes_on ∙ ap is_over stage))

      request_kept : (n : ℕ) → windows n ≡ true → Goal n (stepped sent g.step lines n)
      request_kept n on =
          ⊎_elim {C = Goal n (stepped sent g.step lines n)}
          (λ (same : n ≡ m.copy.at).
          transaction_at n on losses (step_here n m.copy.at (Transaction losses) is same)
          (subst (λ (j : ℕ). latest (endpoint j) ≡ Some (number j (lines j).under)) (sym same) (opens_here ((lines m.copy.at).line (lines m.copy.at).under).host.stage refl)))
          (λ (differs : n ≢ m.copy.at).
          stays_at n on (step_beside n m.copy.at (Transaction losses) is differs)
          (latest_is (endpoint n) ∙ no_setup_opens d (endpoint n) m.copy.queue.current v.opened (none_beside n on differs ((lines m.copy.at).line (lines m.copy.at).under).host.stage refl)))
          (cases_eq n m.copy.at)

  -- ---- an event

  advance_kept : (a : ℕ) (b : Bool) → begun_by w ≡ None → g.step ≡ (if b then Some (record { at = a; is = Advance }) else None) → (n : ℕ) → windows n ≡ true → Goal n (stepped sent g.step lines n)
  advance_kept a false none is n on = stays_at n on (no_step n is) (none_opens (endpoint n) none)
  advance_kept a true none is n on =
      ⊎_elim {C = Goal n (stepped sent g.step lines n)}
      (λ (same : n ≡ a). advances_at n on (step_here n a Advance is same) (none_opens (endpoint n) none))
      (λ (differs : n ≢ a). stays_at n on (step_beside n a Advance is differs) (none_opens (endpoint n) none)) (cases_eq n a)

  makes_kept : (m : Makes transacts_by parts hand (wired fixed w) (wired fixed (controller_next fixed w)) g.event.later) (same : g.event.now ≡ parts) (b : Bool) → windows m.copy.at ≡ b → IsStepOf windows lines g.step (makes m same) → (n : ℕ) → windows n ≡ true → Goal n (stepped sent g.step lines n)
  makes_kept m same true here is n on = request_kept m here (is.0 here).losses (is.0 here).is n on
  makes_kept m same false off is n on = other_kept m off (is.1 off) n on

  effect_kept : (kind : WalkStep) (z : Effect transacts_by parts hand (wired fixed w) (wired fixed (controller_next fixed w)) g.event.now g.event.later kind) → IsStepOf windows lines g.step z → (n : ℕ) → windows n ≡ true → Goal n (stepped sent g.step lines n)
  effect_kept _ (reads x same quiet) is n on =
      stays_at n on (no_step n is) (none_opens (endpoint n) (begun_is ∙ ap (λ (h : Hand). begun_between w.driver (held_of h) (held_of g.event.later)) x.nothing))
  effect_kept _ (passes x same quiet) is n on = stays_at n on (no_step n is) (none_opens (endpoint n) (left _ x.nothing refl))
  effect_kept _ (Effect.ends x same quiet) is n on = stays_at n on (no_step n is) (none_opens (endpoint n) (left _ x.nothing refl))
  effect_kept _ (writes_back x quiet) is n on = stays_at n on (no_step n is) (none_opens (endpoint n) (left _ x.nothing refl))
  effect_kept _ (takes x quiet) is n on =
      advance_kept x.copy.at (windows x.copy.at && is_done (stage_of (lines x.copy.at)))
      (begun_is ∙ ap (λ (h : Hand). begun_between w.driver (held_of h) (held_of g.event.later)) x.in_hand ∙ ap (λ (h : Hand). begun_between w.driver (held_of (Copied x.copy)) (held_of h)) x.later_is) is n on
  effect_kept _ (makes m same) is n on = makes_kept m same (windows m.copy.at) refl is n on

  pub event_kept : (z : ControlEffect begins_by transacts_by parts hand (wired fixed w) (wired fixed (controller_next fixed w)) g.event.now g.event.later) → IsControlStepOf windows lines g.step z → IsRecorded windows sent endpoint number (stepped sent g.step lines) (after_event fixed w v)
  event_kept (a_microframe b) is n on =
      stays_at n on (no_step n is)
      (none_opens (endpoint n) (begun_is ∙ ap (λ (h : Hand). begun_between w.driver (held_of hand) (held_of h)) b.hand_stays ∙ same_begins w.driver (held_of hand)))
  event_kept (a_step s) is n on = effect_kept s.kind s.effect is n on

pub recorder_follows : (fixed : Fixed) (base : Base) (member windows : ℕ → Bool) (sent : ℕ → Queue) (parts : StructureSets) (hand : Hand) (lines : ℕ → Lines) (endpoint : ℕ → ℕ) (number : ℕ → ℕ → ℕ) (w : World) (v : Windows)
    → HearsBytesNow fixed w → IsRequesting fixed base member windows sent parts hand lines w → AreHigh windows parts → AreTransfers w.driver windows sent lines parts endpoint number → IsRecorded windows sent endpoint number lines v
    → StaysRecorded fixed base member windows sent endpoint number lines w v
recorder_follows fixed base member windows sent parts hand lines endpoint number w v heard k high t r =
    let new : World = controller_next fixed w in
    let g : ControlWindowsGoOn begins_by transacts_by control_of base member windows sent lines parts hand (wired fixed w) (wired fixed new) (controller_parts new) =
    an_event_keeps_the_windows begins_by transacts_by control_of base member windows sent lines parts hand (controller_parts w) (wired fixed w) (controller_parts new) (wired fixed new)
    k.are a_scripted_bus_answers_by_stages keeps_devices k.controlled k.on k.all high (heard (wired fixed new)) (world_has_row fixed w) in
    let asked : AreAsked fixed base member windows sent parts hand lines w =
    record { walked = record { ring = k.controlled.ring; between = k.controlled.between }; all = k.all } in
    let goes : WindowsGoOn begins_by transacts_by control_of base member windows sent lines parts hand (wired fixed w) (wired fixed new)
    (controller_parts new) =
    record {
      event = record { now = g.event.now; later = g.event.later; ring = g.event.controlled.ring; effect = g.event.effect };
      step = g.step;
      all = g.all;
      is = g.is;
      halted = g.halted;
    } in
    record {
      stays = record { parts = g.event.now; hand = g.event.later; step = g.step; requesting = record { on = k.on; are = k.are; controlled = g.event.controlled; all = g.all }; halted = g.halted };
      recorded = event_kept fixed base member windows sent parts hand lines endpoint number w v asked t r goes g.event.effect g.is;
    }
