-- At each moment of a script's run the walk of the frames has the FRINDEX of the registers: it rises by one as a microframe begins, and
-- stays from then on (EHCI 1.0, 2.3.4 and 4.4).
use Rattle.std.proofs.Common.{◌≡◌, ◌≢◌, ℕ, zero, suc, ◌+◌, ◌/◌, ◌%◌, ◌<◌, List, [], ◌∷◌, Result, Ok, Err, ap, refl, sym, subst, ◌∙◌, arith}
use Rattle.usb_base.specs.declared.commands.Cmd.{Cmd}
use Rattle.usb_base.specs.declared.endpoints.EpName.{EpName}
use Rattle.usb_base.specs.declared.reports.OfferError.{OfferError}
use Rattle.script_types.specs.declared.scripts.Event.TheVariants as events
use Rattle.script_types.specs.declared.scripts.Script.{Script}
use Rattle.script_text.specs.Faults.{Spells}
use Rattle.script_fits.proofs.Texts.{spelled_fits}
use Rattle.op_registers.specs.Events.{next_index}
use Rattle.drv_table.specs.Accepting.{Offered}
use Rattle.drv_table.specs.Offers.{offered}
use Rattle.hc_core.specs.declared.controller.ControllerRow.{ControllerRow}
use Rattle.hc_core.specs.declared.controller.ControllerRow.TheVariants as rows
use Rattle.hc_core.specs.Controller.{Control}
use Rattle.bus_wire.specs.Bus.{Fixed, fixed_of}
use Rattle.bus_world.specs.Budgets.{moment}
use Rattle.bus_world.specs.Opening.{opening_world}
use Rattle.bus_world.specs.Orders.{Left, Events, Microframes, Answer, Command, Plugs, OrderedWorld, tick_at, ticks}
use Rattle.bus_world.specs.World.{World, controller_parts, controller_row, controller_next, driver_next, name_in, commanded, commanded_by}
use Rattle.claims_world.specs.Carried.{carried_in}
use Rattle.claims_world.specs.DueAtBegin.{begun}
use Rattle.claims_world.specs.Visits.{began_at, began_by, began}
use Rattle.law_world.specs.memory.Mixed.{IsMixedWorld}
use Rattle.law_world.specs.steps.Streaming.{begins_by, transacts_by, wired}
use Rattle.law_world.proofs.lemmas.memory.Carrying.{carried_then}
use Rattle.law_world.proofs.lemmas.memory.LetGo.{moment_then}
use Rattle.law_world.proofs.lemmas.steps.StreamTurning.{world_has_row}
use Rattle.law_microframes.proofs.lemmas.time.PaymentIsochronous.{driver_index}
use Rattle.law_microframes.proofs.lemmas.translators.FrameIndex.{HasFrameIndex, scripts_have_index}
use Rattle.law_microframes.proofs.lemmas.translators.Worlds.{index_by, index_after}
use Rattle.law_microframes.proofs.lemmas.visits.NoneLeftWalking.{index_stays}
use Rattle.law_microframes.proofs.lemmas.visits.ReasonParts.{command_control}
use Rattle.law_reports.proofs.lemmas.due_at_begin.Moments.{mixed_then}
use Rattle.law_reports.proofs.lemmas.due_at_begin.Stages.{begins_walk}

abbrev pub ShowsIndex : World → Type 0
ShowsIndex w = w.control.frame.index ≡ w.registers.frame_index

index_by_offer : (w : World) (line : ℕ) (name : EpName) (r : Result Offered OfferError)
    → (commanded_by w line name r).registers.frame_index ≡ w.registers.frame_index
index_by_offer w line name (Ok o) = refl
index_by_offer w line name (Err why) = refl

by_other : (r : ControllerRow) (n : ℕ) → r ≢ rows.Begin → index_by r n ≡ n
by_other rows.Begin n other = absurd (other refl)
by_other rows.Idle n other = refl
by_other rows.Frame n other = refl
by_other rows.Enter n other = refl
by_other rows.Go n other = refl
by_other rows.End n other = refl

module _ (fixed : Fixed) (w : World) (shows : ShowsIndex w) where
  pub index_on : controller_row w ≢ rows.Begin → (controller_next fixed w).control.frame.index ≡ w.control.frame.index
  index_on other =
      index_stays begins_by transacts_by (controller_parts w) (wired fixed w) (controller_parts (controller_next fixed w))
      (wired fixed (controller_next fixed w)) (controller_row w) other (world_has_row fixed w)

  pub begins_shown : controller_row w ≡ rows.Begin → IsMixedWorld (controller_next fixed w) → HasFrameIndex (controller_next fixed w)
      → ShowsIndex (controller_next fixed w)
  begins_shown row l has = has (begins_walk fixed w row l).periodic

  -- FRINDEX in the microframe that begins
  pub begins_index : controller_row w ≡ rows.Begin → IsMixedWorld (controller_next fixed w) → HasFrameIndex (controller_next fixed w)
      → (controller_next fixed w).control.frame.index ≡ next_index w.control.frame.index
  begins_index row l has =
      begins_shown row l has ∙ index_after fixed w ∙ ap (λ (r : ControllerRow). index_by r w.registers.frame_index) row
      ∙ ap next_index (sym shows)

  stays_shown : controller_row w ≢ rows.Begin → ShowsIndex (controller_next fixed w)
  stays_shown off =
      index_on off ∙ shows ∙ sym (by_other (controller_row w) w.registers.frame_index off) ∙ sym (index_after fixed w)

  by_row : (r : ControllerRow) → controller_row w ≡ r → IsMixedWorld (controller_next fixed w) → HasFrameIndex (controller_next fixed w)
      → ShowsIndex (controller_next fixed w)
  by_row rows.Begin is l has = begins_shown is l has
  by_row rows.Idle is l has = stays_shown (λ begin. let never : rows.Idle ≡ rows.Begin = sym is ∙ begin in cc never)
  by_row rows.Frame is l has = stays_shown (λ begin. let never : rows.Frame ≡ rows.Begin = sym is ∙ begin in cc never)
  by_row rows.Enter is l has = stays_shown (λ begin. let never : rows.Enter ≡ rows.Begin = sym is ∙ begin in cc never)
  by_row rows.Go is l has = stays_shown (λ begin. let never : rows.Go ≡ rows.Begin = sym is ∙ begin in cc never)
  by_row rows.End is l has = stays_shown (λ begin. let never : rows.End ≡ rows.Begin = sym is ∙ begin in cc never)

  by_orders : (orders : List Left) → IsMixedWorld (tick_at fixed w orders).world → HasFrameIndex (tick_at fixed w orders).world
      → ShowsIndex (tick_at fixed w orders).world
  by_orders [] l has = shows
  by_orders (Events event zero ∷ rest) l has = shows
  by_orders (Events events.C (suc n) ∷ rest) l has = by_row (controller_row w) refl l has
  by_orders (Events events.D (suc n) ∷ rest) l has = shows ∙ sym (driver_index w)
  by_orders (Microframes zero ∷ rest) l has = shows
  by_orders (Microframes (suc n) ∷ rest) l has = by_row (controller_row w) refl l has
  by_orders (Answer ended n ∷ rest) l has = shows ∙ sym (driver_index w)
  by_orders (Command n cmd ∷ rest) l has =
      ap (λ (c : Control). c.frame.index) (command_control w n cmd) ∙ shows
      ∙ sym (index_by_offer w n (name_in cmd) (offered w.driver w.memory cmd))
  by_orders (Plugs there port ∷ rest) l has = shows

-- ---- a run

module _ (text : List ℕ) (s : Script) (spelled : Spells text s) where
  pub has_index : (k : ℕ) → HasFrameIndex (moment s k).world
  has_index k = scripts_have_index s (spelled_fits text s spelled) k

  pub shows_index : (k : ℕ) → ShowsIndex (moment s k).world
  unfolding ticks
  shows_index zero = refl
  shows_index (suc k) =
      subst (λ (o : OrderedWorld). ShowsIndex o.world) (sym (moment_then s k))
      (by_orders (fixed_of s) (moment s k).world (shows_index k) (moment s k).orders (mixed_then text s spelled k)
      (subst (λ (o : OrderedWorld). HasFrameIndex o.world) (moment_then s k) (has_index (suc k))))

-- ---- as the microframe began

abbrev pub HasStayed : Script → ℕ → Type 0
HasStayed s k = (moment s k).world.control.frame.index ≡ (begun s k).control.frame.index

module _ (fixed : Fixed) (b w : World) (was : w.control.frame.index ≡ (controller_next fixed b).control.frame.index) where
  abbrev Then : World → World → Type 0
  Then later after = later.control.frame.index ≡ (controller_next fixed after).control.frame.index

  stays_by : controller_row w ≢ rows.Begin → Then (controller_next fixed w) b
  stays_by other =
      index_stays begins_by transacts_by (controller_parts w) (wired fixed w) (controller_parts (controller_next fixed w))
      (wired fixed (controller_next fixed w)) (controller_row w) other (world_has_row fixed w) ∙ was

  since_row : (r : ControllerRow) → controller_row w ≡ r → Then (controller_next fixed w) (began_at r w b)
  since_row rows.Begin is = refl
  since_row rows.Idle is = stays_by (λ begin. let never : rows.Idle ≡ rows.Begin = sym is ∙ begin in cc never)
  since_row rows.Frame is = stays_by (λ begin. let never : rows.Frame ≡ rows.Begin = sym is ∙ begin in cc never)
  since_row rows.Enter is = stays_by (λ begin. let never : rows.Enter ≡ rows.Begin = sym is ∙ begin in cc never)
  since_row rows.Go is = stays_by (λ begin. let never : rows.Go ≡ rows.Begin = sym is ∙ begin in cc never)
  since_row rows.End is = stays_by (λ begin. let never : rows.End ≡ rows.Begin = sym is ∙ begin in cc never)

  since_orders : (orders : List Left) → Then (tick_at fixed w orders).world (carried_in began_by fixed w orders b)
  since_orders [] = was
  since_orders (Events event zero ∷ rest) = was
  since_orders (Events events.C (suc n) ∷ rest) = since_row (controller_row w) refl
  since_orders (Events events.D (suc n) ∷ rest) = was
  since_orders (Microframes zero ∷ rest) = was
  since_orders (Microframes (suc n) ∷ rest) = since_row (controller_row w) refl
  since_orders (Answer ended n ∷ rest) = was
  since_orders (Command n cmd ∷ rest) = ap (λ (c : Control). c.frame.index) (command_control w n cmd) ∙ was
  since_orders (Plugs there port ∷ rest) = was

pub stays_then : (s : Script) (k : ℕ) → HasStayed s k → HasStayed s (suc k)
stays_then s k was =
    subst (λ (o : OrderedWorld). o.world.control.frame.index ≡ (begun s (suc k)).control.frame.index) (sym (moment_then s k))
    (subst (λ (b : World). (tick_at (fixed_of s) (moment s k).world (moment s k).orders).world.control.frame.index
    ≡ (controller_next (fixed_of s) b).control.frame.index)
    (sym (carried_then began_by s (opening_world s) k))
    (since_orders (fixed_of s) (began s k) (moment s k).world was (moment s k).orders))

-- ---- the next microframe of a frame

-- FRINDEX has 14 bits
pub next_in_frame : (f g : ℕ) → g ≡ next_index f → g / 8 ≡ f / 8 → (f % 8 < 8) × (g % 8 ≡ suc (f % 8))
next_in_frame f g is same = (omega arith, by g is same)
  where
    by : (h : ℕ) → h ≡ (f + 1) % 16384 → h / 8 ≡ f / 8 → h % 8 ≡ suc (f % 8)
    by h is same = omega (arith, is, same)
