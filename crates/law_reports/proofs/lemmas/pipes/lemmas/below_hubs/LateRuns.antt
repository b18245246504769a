-- A host below a hub that waits while a frame begins comes to no complete-split of a later one, at each moment of each script; so at the
-- last complete-split of a frame each host is in time (EHCI 1.0, 4.12.2.4; USB 2.0, 11.18).
use Rattle.std.proofs.Common.{◌≡◌, ◌≢◌, ℕ, zero, suc, ◌+◌, ◌%◌, Bool, true, false, not}
use Rattle.std.proofs.Common.{if◌then◌else◌, List, [], ◌∷◌, Some, ⊎_elim, ap, refl, sym, subst, ◌∙◌, arith}
use Rattle.std.specs.Prelude.{◌&&◌, ◌==◌}
use Rattle.std.proofs.lemmas.Bool.{true≢false, and_parts, cases_eq}
use Rattle.usb_base.specs.declared.commands.Cmd.{Cmd}
use Rattle.script_types.specs.declared.scripts.Event.TheVariants as events
use Rattle.script_types.specs.declared.scripts.Script.{Script}
use Rattle.script_text.specs.Faults.{Spells}
use Rattle.script_fits.proofs.Texts.{spelled_fits}
use Rattle.op_registers.specs.Events.{next_index}
use Rattle.drv_table.specs.Rows.{driver_row}
use Rattle.qh_qtd.specs.declared.queue_head.Qh.{Qh}
use Rattle.hc_masks.specs.Masks.{has}
use Rattle.hc_interrupt.specs.declared.turns.Turn.{Turn}
use Rattle.hc_interrupt.specs.declared.turns.Turn.TheVariants as turns
use Rattle.hc_interrupt.specs.Turns.{microframe_of, waits, is_missed, complete_turn, start_turn, turn_of}
use Rattle.hc_copy.specs.Visits.{next_pointer, visit_at, visit_of}
use Rattle.link_words.specs.Links.{qtd_link_of}
use Rattle.hc_copy.specs.declared.held.Visit.TheVariants as visits
use Rattle.hc_core.specs.declared.controller.ControllerRow.{ControllerRow}
use Rattle.hc_core.specs.declared.controller.ControllerRow.TheVariants as rows
use Rattle.hc_core.specs.Controller.{Control}
use Rattle.periodic_walk.specs.declared.state.HeldQueue.{HeldQueue}
use Rattle.periodic_walk.specs.Walk.{held_address}
use Rattle.bus_wire.specs.Bus.{fixed_of}
use Rattle.bus_world.specs.Budgets.{moment}
use Rattle.bus_world.specs.Opening.{opening_world}
use Rattle.bus_world.specs.Orders.{Left, Events, Microframes, Answer, Command, Plugs, OrderedWorld, tick_at, ticks}
use Rattle.bus_world.specs.World.{World, driver_parts, controller_parts, controller_row, controller_next, driver_next, commanded}
use Rattle.claims_world.specs.Carried.{carried_in}
use Rattle.claims_world.specs.Visits.{began_at, began_by, began, visits_after, visits_next, visited}
use Rattle.law_scripts.proofs.lemmas.script_bytes.Texts.{a_text_spells_bytes}
use Rattle.law_world.specs.memory.Mixed.{IsMixedWorld}
use Rattle.law_world.proofs.lemmas.memory.Carrying.{NextIsOffered, next_is_offered, carried_then}
use Rattle.law_world.proofs.lemmas.memory.CommandKeeping.{command_keeps_mixed}
use Rattle.law_world.proofs.lemmas.memory.Controller.{controller_keeps_mixed}
use Rattle.law_world.proofs.lemmas.memory.Driving.{driver_keeps_mixed}
use Rattle.law_world.proofs.lemmas.memory.FittingTexts.{texts_open_fitting}
use Rattle.law_world.proofs.lemmas.memory.LetGo.{moment_then}
use Rattle.law_world.proofs.lemmas.memory.Texts.{texts_fit}
use Rattle.law_world.proofs.lemmas.memory.Together.{texts_stay_mixed}
use Rattle.law_microframes.specs.visits.Visited.{LinksNot, IsVisiting, VisitsGoOnAt}
use Rattle.law_microframes.proofs.lemmas.translators.FrameIndex.{HasFrameIndex}
use Rattle.law_microframes.proofs.lemmas.visits.CommandVisits.{command_leaves_visits}
use Rattle.law_microframes.proofs.lemmas.visits.DriverTogether.{each_row_keeps_visiting}
use Rattle.law_microframes.proofs.lemmas.visits.ReasonParts.{command_control}
use Rattle.law_microframes.proofs.lemmas.visits.VisitMeeting.{visits_meet_now}
use Rattle.law_microframes.proofs.lemmas.visits.VisitTexts.{lines_fit}
use Rattle.law_microframes.proofs.lemmas.visits.VisitsKept.{scripts_visit}
use Rattle.law_reports.specs.pipes.Declared.{sides_of}
use Rattle.law_reports.specs.pipes.below_hubs.InwardLaws.{WaitsAt, BeginsFrame, IsLateSince, begins, waits_on, IsCompletingLast}
use Rattle.law_reports.specs.pipes.below_hubs.Late.{IsLeftBehind, MissesFrame, TextsMissLate}
use Rattle.law_reports.proofs.lemmas.due_at_begin.FrameIndex.{shows_index, has_index, begins_index}
use Rattle.law_reports.proofs.lemmas.due_at_begin.FrameMasks.{missed_at_first}
use Rattle.law_reports.proofs.lemmas.pipes.lemmas.below_hubs.LateAside.{aside_misses}
use Rattle.law_reports.proofs.lemmas.pipes.lemmas.below_hubs.LateLinks.{late_links_not}
use Rattle.law_reports.proofs.lemmas.pipes.lemmas.below_hubs.LateSteps.{out, begins_misses, goes_on_misses}

waits_is : (q : Qh) {b : Bool} → (q.eps == 2) ≡ false → q.token.split_state ≡ true → q.token.active ≡ true → q.token.halted ≡ b
    → waits q ≡ not b
waits_is q below split active halted =
    ap (λ (a : Bool). not a && (q.token.split_state && (q.token.active && not q.token.halted))) below
    ∙ ap (λ (a : Bool). a && (q.token.active && not q.token.halted)) split ∙ ap (λ (a : Bool). a && not q.token.halted) active
    ∙ ap not halted

halted_rests : (b : Bool) (q : Qh) → q.token.halted ≡ true → visit_of b q ≡ visits.Rest
halted_rests b q halted = ap (λ (h : Bool). visit_at b h q.token.active (qtd_link_of (next_pointer q))) halted ∙ by b q.token.active
  where
    by : (b active : Bool) → visit_at b true active (qtd_link_of (next_pointer q)) ≡ visits.Rest
    by true true = refl
    by true false = refl
    by false true = refl
    by false false = refl

module _ (text : List ℕ) (s : Script) (spelled : Spells text s) (n : ℕ) where
  abbrev Misses : World → World → List ℕ → Type 0
  Misses b w vs = MissesFrame (fixed_of s) (sides_of s) b w vs n

  -- ---- it has waited up to here

  module _ (k : ℕ) (late : WaitsAt (fixed_of s) (sides_of s) (moment s k).world n)
      (m : MissesFrame (fixed_of s) (sides_of s) (began s k) (moment s k).world (visited s k) n) where
    abbrev w : World
    w = (moment s k).world

    mixed : IsMixedWorld (moment s k).world
    mixed = record { standing = late.standing; mixed = late.piped.mixed }

    off : LinksNot (moment s k).world n
    off = late_links_not text s spelled (sides_of s) k n late

    g : VisitsGoOnAt late.standing (began s k) (moment s k).world (visited s k)
    g =
        visits_meet_now late.standing (began s k) w (visited s k) late.piped.mixed
        (scripts_visit s (spelled_fits text s spelled) (a_text_spells_bytes text s spelled)
        (lines_fit s.lines (texts_fit text s spelled) (texts_open_fitting text s spelled)) k).visits

    driven : Misses (began s k) (driver_next (moment s k).world) (visited s k)
    driven =
        let l : IsMixedWorld (driver_next w) = driver_keeps_mixed w mixed in
        aside_misses (fixed_of s) (sides_of s) (began s k) w (driver_next w) (visited s k) n late.standing l.standing late.piped.mixed l.mixed
        refl (each_row_keeps_visiting (driver_row (driver_parts w)) late.standing (began s k) w (visited s k) late.piped.mixed g refl).back
        late off m

    ordered : (line : ℕ) (cmd : Cmd) (rest : List Left) → NextIsOffered (moment s k).world (Command line cmd ∷ rest)
        → Misses (began s k) (commanded (moment s k).world line cmd) (visited s k)
    ordered line cmd rest known =
        let l : IsMixedWorld (commanded w line cmd) = command_keeps_mixed w line cmd known.0 known.1 mixed in
        aside_misses (fixed_of s) (sides_of s) (began s k) w (commanded w line cmd) (visited s k) n late.standing l.standing
        late.piped.mixed l.mixed (command_control w line cmd)
        (command_leaves_visits late.standing (began s k) w line cmd (visited s k) known.1 late.piped.mixed g).back late off m

    goes : (r : ControllerRow) → controller_row (moment s k).world ≡ r → r ≢ rows.Begin
        → Misses (began s k) (controller_next (fixed_of s) (moment s k).world)
        (visits_after r (controller_parts (moment s k).world) (visited s k))
    goes r is other =
        subst (λ (r : ControllerRow). Misses (began s k) (controller_next (fixed_of s) w) (visits_after r (controller_parts w) (visited s k))) is
        (goes_on_misses text s spelled k n (λ begin. other (sym is ∙ begin)) late m)

    controlled : HasFrameIndex (controller_next (fixed_of s) (moment s k).world) → (r : ControllerRow)
        → controller_row (moment s k).world ≡ r
        → Misses (began_at r (moment s k).world (began s k)) (controller_next (fixed_of s) (moment s k).world)
        (visits_after r (controller_parts (moment s k).world) (visited s k))
    controlled has rows.Begin is = begins_misses text s spelled k n is mixed has (λ some. out text s spelled k n is mixed has late m)
    controlled has rows.Idle is = goes rows.Idle is (λ e. cc e)
    controlled has rows.Frame is = goes rows.Frame is (λ e. cc e)
    controlled has rows.Enter is = goes rows.Enter is (λ e. cc e)
    controlled has rows.Go is = goes rows.Go is (λ e. cc e)
    controlled has rows.End is = goes rows.End is (λ e. cc e)

    by_orders : (orders : List Left) → NextIsOffered (moment s k).world orders
        → HasFrameIndex (tick_at (fixed_of s) (moment s k).world orders).world
        → Misses (carried_in began_by (fixed_of s) (moment s k).world orders (began s k)) (tick_at (fixed_of s) (moment s k).world orders).world
        (carried_in visits_next (fixed_of s) (moment s k).world orders (visited s k))
    by_orders [] known has = m
    by_orders (Events event zero ∷ rest) known has = m
    by_orders (Events events.C (suc i) ∷ rest) known has = controlled has (controller_row w) refl
    by_orders (Events events.D (suc i) ∷ rest) known has = driven
    by_orders (Microframes zero ∷ rest) known has = m
    by_orders (Microframes (suc i) ∷ rest) known has = controlled has (controller_row w) refl
    by_orders (Answer over i ∷ rest) known has = driven
    by_orders (Command line cmd ∷ rest) known has = ordered line cmd rest known
    by_orders (Plugs there port ∷ rest) known has = m

  -- ---- a frame begins

  no_step : (i : ℕ) → i ≡ (i + 1) % 16384 → ⊥
  no_step i is = omega (arith, is)

  module _ (k : ℕ) (frame : BeginsFrame (moment s k).world) (mixed : IsMixedWorld (moment s k).world) where
    shown : (moment s k).world.control.frame.index ≡ (moment s k).world.registers.frame_index
    shown = shows_index text s spelled k

    begun : HasFrameIndex (controller_next (fixed_of s) (moment s k).world)
        → Misses (began_by (fixed_of s) (moment s k).world (began s k)) (controller_next (fixed_of s) (moment s k).world)
        (visits_next (fixed_of s) (moment s k).world (visited s k))
    begun has =
        subst (λ (r : ControllerRow). Misses (began_at r (moment s k).world (began s k)) (controller_next (fixed_of s) (moment s k).world)
        (visits_after r (controller_parts (moment s k).world) (visited s k))) (sym frame.row)
        (begins_misses text s spelled k n frame.row mixed has
        (λ some. absurd (some (ap (λ (i : ℕ). next_index i % 8) shown ∙ frame.first))))

    -- no other event steps FRINDEX
    stands : HasFrameIndex (controller_next (fixed_of s) (moment s k).world) → (v : World)
        → v ≡ controller_next (fixed_of s) (moment s k).world → v.control.frame.index ≡ (moment s k).world.control.frame.index → ⊥
    stands has v same stays =
        no_step (moment s k).world.control.frame.index
        (sym stays ∙ ap (λ (u : World). u.control.frame.index) same
        ∙ begins_index (fixed_of s) (moment s k).world shown frame.row
        (controller_keeps_mixed (fixed_of s) (moment s k).world mixed) has)

    by_begun : (orders : List Left)
        → (tick_at (fixed_of s) (moment s k).world orders).world ≡ controller_next (fixed_of s) (moment s k).world
        → HasFrameIndex (controller_next (fixed_of s) (moment s k).world)
        → Misses (carried_in began_by (fixed_of s) (moment s k).world orders (began s k)) (tick_at (fixed_of s) (moment s k).world orders).world
        (carried_in visits_next (fixed_of s) (moment s k).world orders (visited s k))
    by_begun [] same has = absurd (stands has (moment s k).world same refl)
    by_begun (Events event zero ∷ rest) same has = absurd (stands has (moment s k).world same refl)
    by_begun (Events events.C (suc i) ∷ rest) same has = begun has
    by_begun (Events events.D (suc i) ∷ rest) same has = absurd (stands has (driver_next (moment s k).world) same refl)
    by_begun (Microframes zero ∷ rest) same has = absurd (stands has (moment s k).world same refl)
    by_begun (Microframes (suc i) ∷ rest) same has = begun has
    by_begun (Answer over i ∷ rest) same has = absurd (stands has (driver_next (moment s k).world) same refl)
    by_begun (Command line cmd ∷ rest) same has =
        absurd (stands has (commanded (moment s k).world line cmd) same
        (ap (λ (c : Control). c.frame.index) (command_control (moment s k).world line cmd)))
    by_begun (Plugs there port ∷ rest) same has = absurd (stands has (moment s k).world same refl)

  -- ---- each moment

  at_next : (k : ℕ)
      → Misses (carried_in began_by (fixed_of s) (moment s k).world (moment s k).orders (began s k))
      (tick_at (fixed_of s) (moment s k).world (moment s k).orders).world
      (carried_in visits_next (fixed_of s) (moment s k).world (moment s k).orders (visited s k))
      → Misses (began s (suc k)) (moment s (suc k)).world (visited s (suc k))
  at_next k m =
      let f = fixed_of s in
      let w : World = (moment s k).world in
      let orders : List Left = (moment s k).orders in
      subst (λ (b : World). Misses b (moment s (suc k)).world (visited s (suc k))) (sym (carried_then began_by s (opening_world s) k))
      (subst (λ (vs : List ℕ). Misses (carried_in began_by f w orders (began s k)) (moment s (suc k)).world vs)
      (sym (carried_then visits_next s [] k))
      (subst (λ (o : OrderedWorld). Misses (carried_in began_by f w orders (began s k)) o.world (carried_in visits_next f w orders (visited s k)))
      (sym (moment_then s k)) m))

  has_then : (k : ℕ) → HasFrameIndex (tick_at (fixed_of s) (moment s k).world (moment s k).orders).world
  has_then k = subst (λ (o : OrderedWorld). HasFrameIndex o.world) (moment_then s k) (has_index text s spelled (suc k))

  known_at : (k : ℕ) → NextIsOffered (moment s k).world (moment s k).orders
  known_at k =
      next_is_offered s (spelled_fits text s spelled)
      (lines_fit s.lines (texts_fit text s spelled) (texts_open_fitting text s spelled)) k

  pub late_is_missed : (k : ℕ) → IsLateSince s n k → Misses (began s k) (moment s k).world (visited s k)
  late_is_missed _ (begins k same frame) =
      let then_is : (tick_at (fixed_of s) (moment s k).world (moment s k).orders).world ≡ controller_next (fixed_of s) (moment s k).world =
      sym (ap (λ (o : OrderedWorld). o.world) (moment_then s k)) ∙ same in
      at_next k (by_begun k frame (texts_stay_mixed text s spelled k) (moment s k).orders then_is
      (subst HasFrameIndex then_is (has_then k)))
  late_is_missed _ (waits_on k late waits) =
      at_next k (by_orders k waits (late_is_missed k late) (moment s k).orders (known_at k) (has_then k))

pub texts_miss_late : TextsMissLate
texts_miss_late text s spelled k n late = late_is_missed text s spelled n k late

-- ---- at the last complete-split each host is in time

module _ (text : List ℕ) (s : Script) (spelled : Spells text s) (k : ℕ) (h : HeldQueue) (l : IsCompletingLast (moment s k).world h) where
  no_miss : turns.Miss ≡ turns.Work → ⊥
  no_miss e = cc

  no_rest : turns.Rest ≡ turns.Work → ⊥
  no_rest e = cc

  not_first : (moment s k).world.control.frame.index % 8 ≢ 0
  not_first at_first = by h.copy.queue_head.token.halted refl
    where
      f : ℕ
      f = (moment s k).world.control.frame.index

      q : Qh
      q = h.copy.queue_head

      by : (b : Bool) → h.copy.queue_head.token.halted ≡ b → ⊥
      by true halted =
          no_rest (sym (ap (λ (b : Bool). if b then complete_turn (is_missed f q) (has q.cmask (microframe_of f))
          else start_turn (visit_of (has q.smask (microframe_of f)) q)) (waits_is q l.below l.waits l.works halted)
          ∙ ap start_turn (halted_rests (has q.smask (microframe_of f)) q halted)) ∙ l.turn)
      by false unhalted =
          no_miss (sym (ap (λ (b : Bool). if b then complete_turn (is_missed f q) (has q.cmask (microframe_of f))
          else start_turn (visit_of (has q.smask (microframe_of f)) q)) (waits_is q l.below l.waits l.works unhalted)
          ∙ ap (λ (b : Bool). complete_turn b (has q.cmask (microframe_of f))) (missed_at_first f q at_first)) ∙ l.turn)

  pub in_time : IsLateSince s h.copy.at k → ⊥
  in_time late =
      ((late_is_missed text s spelled h.copy.at k late).later not_first).unheld l.part (ap held_address l.held)
