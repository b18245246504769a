-- At each moment of a script's run what was due as the microframe began is ahead of the walk of the frames, or the walk came to it; so it
-- is done once the walk is over.
use Rattle.std.proofs.Common.{◌≡◌, ◌≢◌, ℕ, zero, suc, ◌*◌, ◌≤◌, true, List, [], ◌∷◌, ap, refl, sym, subst, ◌∙◌}
use Rattle.law_microframes.proofs.Common.{in_list}
use Rattle.usb_base.specs.declared.commands.Cmd.{Cmd}
use Rattle.script_types.specs.declared.scripts.Event.TheVariants as events
use Rattle.script_types.specs.declared.scripts.Script.{Script}
use Rattle.script_text.specs.Faults.{Spells}
use Rattle.script_fits.proofs.Texts.{spelled_fits}
use Rattle.bandwidth.specs.declared.placements.Placement.{Placement}
use Rattle.bandwidth.specs.Sums.{is_active}
use Rattle.hc_core.specs.declared.controller.ControllerRow.{ControllerRow}
use Rattle.hc_core.specs.declared.controller.ControllerRow.TheVariants as rows
use Rattle.hc_core.specs.Controller.{Control}
use Rattle.bus_wire.specs.Bus.{Fixed, fixed_of}
use Rattle.bus_world.specs.Budgets.{moment}
use Rattle.bus_world.specs.Opening.{opening_world}
use Rattle.bus_world.specs.Orders.{Left, Events, Microframes, Answer, Command, Plugs, OrderedWorld, tick_at, ticks}
use Rattle.bus_world.specs.World.{World, controller_parts, controller_row, controller_next, driver_next, commanded}
use Rattle.claims_world.specs.Carried.{carried_from, carried_in}
use Rattle.claims_world.specs.Coming.{IsInItsFrames}
use Rattle.claims_world.specs.Due.{bytes_moved}
use Rattle.claims_world.specs.DueAtBegin.{begun, IsDueAtBegin, IsUncancelled, DueAtBeginIsDone}
use Rattle.claims_world.specs.Owners.{LeavesControllers, is_controllers, KeepsToOwners}
use Rattle.claims_world.specs.SoFar.{SoFar, nothing_yet, so_far_after, so_far_next, so_far, HasFound, HasMoved}
use Rattle.claims_world.specs.Visits.{IsPastFrames, began_at, began_by, began, frame_in}
use Rattle.claims_world.specs.WithinLoad.{repeats}
use Rattle.law_scripts.proofs.lemmas.script_bytes.Texts.{a_text_spells_bytes}
use Rattle.law_world.specs.steps.Streaming.{begins_by, transacts_by, wired}
use Rattle.law_world.specs.memory.Mixed.{IsMixedWorld}
use Rattle.law_world.proofs.lemmas.memory.Carrying.{carried_then}
use Rattle.law_world.proofs.lemmas.memory.FittingTexts.{texts_open_fitting}
use Rattle.law_world.proofs.lemmas.memory.LetGo.{moment_then}
use Rattle.law_world.proofs.lemmas.memory.OwnMoments.{texts_keep_to_owners}
use Rattle.law_world.proofs.lemmas.memory.Texts.{texts_fit}
use Rattle.law_world.proofs.lemmas.memory.Together.{texts_stay_mixed}
use Rattle.law_world.proofs.lemmas.steps.StreamTurning.{world_has_row}
use Rattle.law_microframes.specs.time.DataQueues.{QueuesSendData}
use Rattle.law_microframes.specs.visits.Belonging.{HeadsHaveFields}
use Rattle.law_microframes.proofs.lemmas.due.Aside.{IsAside}
use Rattle.law_microframes.proofs.lemmas.due.Coming.{texts_come_to_each}
use Rattle.law_microframes.proofs.lemmas.due.Moments.{texts_do_what_is_due}
use Rattle.law_microframes.proofs.lemmas.time.DataMoments.{scripts_send_data}
use Rattle.law_microframes.proofs.lemmas.visits.BelongMoments.{scripts_keep_fields}
use Rattle.law_microframes.proofs.lemmas.visits.NoneLeftWalking.{index_stays}
use Rattle.law_microframes.proofs.lemmas.visits.ReasonHeld.{texts_keep_held_time}
use Rattle.law_microframes.proofs.lemmas.visits.ReasonParts.{command_control, command_bus}
use Rattle.law_microframes.proofs.lemmas.visits.VisitTexts.{lines_fit}
use Rattle.law_reports.specs.pipes.Declared.{Sides, sides_of}
use Rattle.law_reports.specs.pipes.Piped.{HasFollowed}
use Rattle.law_reports.specs.due_at_begin.Laws.{TextsDoWhatIsDueAtBegin}
use Rattle.law_reports.proofs.lemmas.pipes.FollowedMoments.{texts_are_followed}
use Rattle.law_reports.proofs.lemmas.due_at_begin.InFrames.{IsStillIn, driver_uncancelled, driver_in_frames, command_uncancelled}
use Rattle.law_reports.proofs.lemmas.due_at_begin.InFrames.{command_in_frames}
use Rattle.law_reports.proofs.lemmas.due_at_begin.Stages.{Waits, is_ahead, was_found, frame_waits, past_frames, begins_ahead, aside_waits}

-- ---- what is carried

-- what was due as the microframe of the world b began, in the world w of the same microframe
pub record IsWaiting (fixed : Fixed) (b w : World) (t : SoFar) (e q : ℕ) (d : IsDueAtBegin fixed b e q) : Type 0 where
  pub frames : IsInItsFrames w.driver e q d.due.placement
  pub index : w.control.frame.index ≡ b.control.frame.index
  pub waits : Waits fixed w t e q d.due.there.endpoint.desc b.control.frame.index (bytes_moved d.due.transfer.ready.answers)

abbrev pub AreWaiting : Fixed → World → World → SoFar → Type 0
AreWaiting fixed b w t = (e q : ℕ) (d : IsDueAtBegin fixed (controller_next fixed b) e q) → IsUncancelled w.driver e
    → IsWaiting fixed (controller_next fixed b) w t e q d

-- what is known of a moment
pub record IsKnown (fixed : Fixed) (x : Sides) (b w : World) (t : SoFar) : Type 0 where
  pub followed : HasFollowed fixed x w
  pub mixed : IsMixedWorld w
  pub heads : HeadsHaveFields w.driver w.memory
  pub sends : QueuesSendData w.driver w.memory
  pub tells : controller_row w ≢ rows.Begin → (controller_next fixed w).bus.microframe ≡ w.bus.microframe
  pub comes : (e q : ℕ) (p : Placement) → IsPastFrames w → IsInItsFrames b.driver e q p → IsInItsFrames w.driver e q p
      → is_active p (frame_in w.control.frame.index) ≡ true → (o : World) × HasFound (32 * q) o t.found

module _ (fixed : Fixed) (x : Sides) (b w : World) (t : SoFar) (k : IsKnown fixed x b w t) (all : AreWaiting fixed b w t) where
  abbrev new : World
  new = controller_next fixed w

  -- ---- the controller

  index_on : controller_row w ≢ rows.Begin → (controller_next fixed w).control.frame.index ≡ w.control.frame.index
  index_on other =
      index_stays begins_by transacts_by (controller_parts w) (wired fixed w) (controller_parts new) (wired fixed new) (controller_row w)
      other
      (world_has_row fixed w)

  frame_goes : controller_row w ≡ rows.Frame → AreWaiting fixed b (controller_next fixed w) (so_far_after rows.Frame w t)
  frame_goes row e q d off =
      let old = all e q d off in
      let f = k.followed in
      let other : controller_row w ≢ rows.Begin = λ is. not_begin (sym row ∙ is) in
      record {
        frames = old.frames;
        index = index_on other ∙ old.index;
        waits = frame_waits fixed x f.standing f.lines f.heads w f.followed.piped k.heads k.sends row (k.tells other) e q d.due.placement
            old.frames d.due.there.endpoint.desc d.due.high (controller_next fixed b).control.frame.index
            (bytes_moved d.due.transfer.ready.answers) d.due.bit t old.waits;
      }
    where
      not_begin : rows.Frame ≡ rows.Begin → ⊥
      not_begin is = cc

  -- once the walk of the frames is over it came to each
  past_goes : controller_row w ≢ rows.Frame → controller_row w ≢ rows.Begin → AreWaiting fixed b (controller_next fixed w) t
  past_goes off_frames off_begin e q d off =
      let old = all e q d off in
      record { frames = old.frames; index = index_on off_begin ∙ old.index; waits = over old.waits old.frames old.index }
    where
      over : Waits fixed w t e q d.due.there.endpoint.desc (controller_next fixed b).control.frame.index
          (bytes_moved d.due.transfer.ready.answers) → IsInItsFrames w.driver e q d.due.placement
          → w.control.frame.index ≡ (controller_next fixed b).control.frame.index
          → Waits fixed (controller_next fixed w) t e q d.due.there.endpoint.desc (controller_next fixed b).control.frame.index
          (bytes_moved d.due.transfer.ready.answers)
      over (was_found f) frames index = was_found f
      over (is_ahead a) frames index =
          let c = k.comes e q d.due.placement (past_frames w k.mixed off_frames) d.due.there frames
          (ap (λ (i : ℕ). is_active d.due.placement (frame_in i)) index ∙ d.active) in
          absurd (a.unfound c.0 c.1)

  begin_goes : controller_row w ≡ rows.Begin → IsMixedWorld (controller_next fixed w)
      → AreWaiting fixed w (controller_next fixed w) nothing_yet
  begin_goes row l e q d off = record {
    frames = d.due.there;
    index = refl;
    waits = is_ahead (begins_ahead fixed w row l e q d);
  }

  by_row : (r : ControllerRow) → controller_row w ≡ r → IsMixedWorld (controller_next fixed w)
      → AreWaiting fixed (began_at r w b) (controller_next fixed w) (so_far_after r w t)
  by_row rows.Begin is l = begin_goes is l
  by_row rows.Frame is l = frame_goes is
  by_row rows.Idle is l = past_goes (λ row. let never : rows.Idle ≡ rows.Frame = sym is ∙ row in cc never)
      (λ row. let never : rows.Idle ≡ rows.Begin = sym is ∙ row in cc never)
  by_row rows.Enter is l = past_goes (λ row. let never : rows.Enter ≡ rows.Frame = sym is ∙ row in cc never)
      (λ row. let never : rows.Enter ≡ rows.Begin = sym is ∙ row in cc never)
  by_row rows.Go is l = past_goes (λ row. let never : rows.Go ≡ rows.Frame = sym is ∙ row in cc never)
      (λ row. let never : rows.Go ≡ rows.Begin = sym is ∙ row in cc never)
  by_row rows.End is l = past_goes (λ row. let never : rows.End ≡ rows.Frame = sym is ∙ row in cc never)
      (λ row. let never : rows.End ≡ rows.Begin = sym is ∙ row in cc never)

  by_controller : IsMixedWorld (controller_next fixed w)
      → AreWaiting fixed (began_by fixed w b) (controller_next fixed w) (so_far_next fixed w t)
  by_controller l = by_row (controller_row w) refl l

  -- ---- the driver

  module _ (later : World) (l : IsMixedWorld later) (heads_then : HeadsHaveFields later.driver later.memory) (aside : IsAside w later)
      (back : (e : ℕ) → IsUncancelled later.driver e → IsUncancelled w.driver e)
      (still : (e q : ℕ) (p : Placement) (i : IsInItsFrames w.driver e q p) → IsUncancelled later.driver e
      → IsStillIn later e q p i.endpoint.desc) where
    aside_goes : AreWaiting fixed b later t
    aside_goes e q d off =
        let old = all e q d (back e off) in
        let s = still e q d.due.placement old.frames off in
        record {
          frames = s.frames;
          index = ap (λ (c : Control). c.frame.index) aside.control ∙ old.index;
          waits = aside_waits fixed w later k.mixed l aside k.heads heads_then e q d.due.placement old.frames s.frames s.same
              (frame_in (controller_next fixed b).control.frame.index) (in_list (controller_next fixed b).control.frame.index) d.active
              d.due.there.endpoint.desc (controller_next fixed b).control.frame.index (bytes_moved d.due.transfer.ready.answers) t
              old.waits;
        }

  by_driver : IsMixedWorld (driver_next w) → HeadsHaveFields (driver_next w).driver (driver_next w).memory
      → LeavesControllers (controller_parts w) (driver_next w).memory → AreWaiting fixed b (driver_next w) t
  by_driver l heads_then leaves =
      aside_goes (driver_next w) l heads_then (record { control = refl; bus = refl; leaves = leaves })
      (λ e off. driver_uncancelled w e off)
      (λ e q p i off. driver_in_frames w k.mixed e q p l i off)

  by_command : (n : ℕ) (cmd : Cmd) → IsMixedWorld (commanded w n cmd)
      → HeadsHaveFields (commanded w n cmd).driver (commanded w n cmd).memory
      → LeavesControllers (controller_parts w) (commanded w n cmd).memory → AreWaiting fixed b (commanded w n cmd) t
  by_command n cmd l heads_then leaves =
      aside_goes (commanded w n cmd) l heads_then
      (record { control = command_control w n cmd; bus = command_bus w n cmd; leaves = leaves })
      (λ e off. command_uncancelled w n cmd e off)
      (λ e q p i off. command_in_frames w k.mixed n cmd e q p l i off)

  -- ---- one more

  by_orders : (orders : List Left) → IsMixedWorld (tick_at fixed w orders).world
      → HeadsHaveFields (tick_at fixed w orders).world.driver (tick_at fixed w orders).world.memory
      → KeepsToOwners (is_controllers orders) (controller_parts w) (tick_at fixed w orders).world.memory
      → AreWaiting fixed (carried_in began_by fixed w orders b) (tick_at fixed w orders).world (carried_in so_far_next fixed w orders t)
  by_orders [] l heads_then owns = all
  by_orders (Events event zero ∷ rest) l heads_then owns = all
  by_orders (Events events.C (suc n) ∷ rest) l heads_then owns = by_controller l
  by_orders (Events events.D (suc n) ∷ rest) l heads_then owns = by_driver l heads_then owns
  by_orders (Microframes zero ∷ rest) l heads_then owns = all
  by_orders (Microframes (suc n) ∷ rest) l heads_then owns = by_controller l
  by_orders (Answer ended n ∷ rest) l heads_then owns = by_driver l heads_then owns
  by_orders (Command n cmd ∷ rest) l heads_then owns = by_command n cmd l heads_then owns
  by_orders (Plugs there port ∷ rest) l heads_then owns = all

-- ---- a run

module _ (text : List ℕ) (s : Script) (spelled : Spells text s) where
  abbrev fixed : Fixed
  fixed = fixed_of s

  pub heads_at : (k : ℕ) → HeadsHaveFields (moment s k).world.driver (moment s k).world.memory
  heads_at k =
      scripts_keep_fields s (spelled_fits text s spelled) (a_text_spells_bytes text s spelled)
      (lines_fit s.lines (texts_fit text s spelled) (texts_open_fitting text s spelled)) k

  pub known_at : (k : ℕ) → IsKnown (fixed_of s) (sides_of s) (began s k) (moment s k).world (so_far s k)
  known_at k = record {
    followed = texts_are_followed text s spelled k;
    mixed = texts_stay_mixed text s spelled k;
    heads = heads_at k;
    sends = scripts_send_data s (spelled_fits text s spelled) (a_text_spells_bytes text s spelled)
        (lines_fit s.lines (texts_fit text s spelled) (texts_open_fitting text s spelled)) k;
    tells = (texts_keep_held_time text s spelled k).tells.goes_on;
    comes = λ e q p past was is active. texts_come_to_each text s spelled k e q p past was is active;
  }

  pub mixed_then : (k : ℕ) → IsMixedWorld (tick_at (fixed_of s) (moment s k).world (moment s k).orders).world
  mixed_then k = subst (λ (o : OrderedWorld). IsMixedWorld o.world) (moment_then s k) (texts_stay_mixed text s spelled (suc k))

  pub heads_then_at : (k : ℕ) → HeadsHaveFields (tick_at (fixed_of s) (moment s k).world (moment s k).orders).world.driver
      (tick_at (fixed_of s) (moment s k).world (moment s k).orders).world.memory
  heads_then_at k = subst (λ (o : OrderedWorld). HeadsHaveFields o.world.driver o.world.memory) (moment_then s k) (heads_at (suc k))

  pub owned_at : (k : ℕ) → KeepsToOwners (is_controllers (moment s k).orders) (controller_parts (moment s k).world)
      (tick_at (fixed_of s) (moment s k).world (moment s k).orders).world.memory
  owned_at k =
      subst (λ (o : OrderedWorld). KeepsToOwners (is_controllers (moment s k).orders) (controller_parts (moment s k).world) o.world.memory)
      (moment_then s k) (texts_keep_to_owners text s spelled k)

  waiting_at : (k : ℕ) → AreWaiting (fixed_of s) (began s k) (moment s k).world (so_far s k)
  unfolding ticks carried_from
  waiting_at zero = λ e q d off. absurd (cc d.due.there.here)
  waiting_at (suc k) =
      subst (λ (o : OrderedWorld). AreWaiting (fixed_of s) (began s (suc k)) o.world (so_far s (suc k))) (sym (moment_then s k))
      (subst (λ (t : SoFar). AreWaiting (fixed_of s) (began s (suc k))
      (tick_at (fixed_of s) (moment s k).world (moment s k).orders).world t)
      (sym (carried_then so_far_next s nothing_yet k))
      (subst (λ (b : World). AreWaiting (fixed_of s) b (tick_at (fixed_of s) (moment s k).world (moment s k).orders).world
      (carried_in so_far_next (fixed_of s) (moment s k).world (moment s k).orders (so_far s k)))
      (sym (carried_then began_by s (opening_world s) k))
      (by_orders (fixed_of s) (sides_of s) (began s k) (moment s k).world (so_far s k) (known_at k) (waiting_at k) (moment s k).orders
      (mixed_then k) (heads_then_at k) (owned_at k))))

  -- ---- the law

  done_by : (k e q : ℕ) (d : IsDueAtBegin (fixed_of s) (begun s k) e q) → IsPastFrames (moment s k).world → repeats s k ≤ 4000000
      → IsWaiting (fixed_of s) (begun s k) (moment s k).world (so_far s k) e q d
      → Waits (fixed_of s) (moment s k).world (so_far s k) e q d.due.there.endpoint.desc (begun s k).control.frame.index
      (bytes_moved d.due.transfer.ready.answers) → HasMoved (32 * q) (bytes_moved d.due.transfer.ready.answers) (so_far s k).moved
  done_by k e q d past few i (was_found f) =
      subst (λ (n : ℕ). HasMoved (32 * q) n (so_far s k).moved) f.moves
      (texts_do_what_is_due text s spelled k e q f.world past few f.due f.there)
  done_by k e q d past few i (is_ahead a) =
      let c = texts_come_to_each text s spelled k e q d.due.placement past d.due.there i.frames
      (ap (λ (j : ℕ). is_active d.due.placement (frame_in j)) i.index ∙ d.active) in
      absurd (a.unfound c.0 c.1)

  due_at_begin_is_done : DueAtBeginIsDone s
  due_at_begin_is_done k e q past few d off =
      let i = waiting_at k e q d off in done_by k e q d past few i i.waits

pub texts_do_what_is_due_at_begin : TextsDoWhatIsDueAtBegin
texts_do_what_is_due_at_begin = λ text s spelled. due_at_begin_is_done text s spelled
