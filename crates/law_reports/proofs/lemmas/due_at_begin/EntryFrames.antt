-- Along a frame the entry of an interrupt endpoint stays in the pipeline of its translator once its start-split came, and ages as each
-- microframe begins, where its hub hasn't heard last to clear a buffer or to reset a translator (USB 2.0, 11.14, 11.18 and 11.24.2).
use Rattle.std.proofs.Common.{◌≡◌, ◌≢◌, ℕ, zero, suc, ◌+◌, ◌*◌, ◌/◌, ◌%◌, ◌≤◌, ◌<◌, Bool, true, false, not, if◌then◌else◌, List}
use Rattle.std.proofs.Common.{slice_get, Some}
use Rattle.std.proofs.Common.{ap, refl, sym, subst, ◌∙◌, arith}
use Rattle.std.specs.Prelude.{◌==◌, ◌&&◌}
use Rattle.std.proofs.lemmas.Bool.{eqb-true}
use Rattle.law_controller.proofs.Common.{over_not_periodic, asynchronous_not_periodic}
use Rattle.usb_base.specs.declared.commands.Cmd.{Cmd}
use Rattle.usb_base.specs.declared.endpoints.EpDesc.{EpDesc}
use Rattle.script_types.specs.declared.scripts.Script.{Script}
use Rattle.script_text.specs.Faults.{Spells}
use Rattle.op_registers.specs.Events.{next_index}
use Rattle.op_registers.specs.RegisterFile.{RegisterFile}
use Rattle.bandwidth.specs.declared.placements.Placement.{Placement}
use Rattle.bandwidth.specs.Placements.{has}
use Rattle.drv_table.specs.declared.content.Endpoint.{Endpoint}
use Rattle.hc_interrupt.specs.Turns.{microframe_of}
use Rattle.periodic_walk.specs.Walk.{Walk, is_over}
use Rattle.hc_core.specs.declared.controller.ControllerRow.{ControllerRow}
use Rattle.hc_core.specs.declared.controller.ControllerRow.TheVariants as rows
use Rattle.hc_core.specs.declared.controller.MicroframePart.{MicroframePart}
use Rattle.hc_core.specs.declared.controller.MicroframePart.TheVariants.{Over, Periodic, Asynchronous}
use Rattle.hc_core.specs.Controller.{Control, enter_row, part_row}
use Rattle.bus_wire.specs.Bus.{Bus, Fixed, fixed_of, begin_after}
use Rattle.bus_world.specs.Budgets.{moment}
use Rattle.bus_world.specs.World.{World, controller_parts, controller_row, controller_next, driver_next, commanded, turned_by, with_turned}
use Rattle.claims_world.specs.Coming.{IsInItsFrames}
use Rattle.claims_world.specs.DueAtBegin.{begun, IsUncancelled}
use Rattle.claims_world.specs.SoFar.{so_far}
use Rattle.claims_world.specs.Visits.{IsPastFrames, began}
use Rattle.law_world.specs.memory.Mixed.{IsMixedWorld}
use Rattle.law_world.proofs.lemmas.memory.Together.{texts_stay_mixed}
use Rattle.law_world.proofs.lemmas.steps.StreamTurning.{world_has_row}
use Rattle.law_microframes.specs.translators.Results.{key_for, pipeline_for}
use Rattle.law_microframes.proofs.lemmas.due.Turning.{in_periodic}
use Rattle.law_microframes.proofs.lemmas.translators.FrameIndex.{HasFrameIndex}
use Rattle.law_microframes.proofs.lemmas.visits.ReasonParts.{command_control, command_bus}
use Rattle.claims_world.specs.SplitFrames.{IsOneFrame}
use Rattle.law_reports.specs.pipes.Declared.{sides_of}
use Rattle.law_reports.proofs.lemmas.due_at_begin.BegunMoments.{BeginsNow, GoesNow, begins, by_controller, by_driver, by_command, stays}
use Rattle.law_reports.proofs.lemmas.due_at_begin.BegunMoments.{goes_now}
use Rattle.law_reports.proofs.lemmas.due_at_begin.EntryEvents.{past_stage, frame_stage}
use Rattle.law_reports.proofs.lemmas.due_at_begin.EntryKept.{AreSpared, begins_stage}
use Rattle.law_reports.proofs.lemmas.due_at_begin.EntryStages.{HasStaged}
use Rattle.law_reports.proofs.lemmas.due_at_begin.FrameIndex.{ShowsIndex, index_on, begins_shown, begins_index, has_index, shows_index}
use Rattle.law_reports.proofs.lemmas.due_at_begin.FrameIndex.{next_in_frame}
use Rattle.law_reports.proofs.lemmas.due_at_begin.HubSeats.{hubs_are_zero}
use Rattle.law_reports.proofs.lemmas.due_at_begin.InFrames.{IsStillIn, driver_in_frames, command_in_frames}
use Rattle.law_reports.proofs.lemmas.due_at_begin.Moments.{IsKnown, known_at}
use Rattle.law_reports.proofs.lemmas.due_at_begin.SplitRuns.{are_known}
use Rattle.law_reports.proofs.lemmas.due_at_begin.WrittenMoments.{part_then}

-- ---- once the walk of the frames is over

over_frame : (enabled over async : Bool) → over ≡ true → (if enabled && not over then rows.Frame else enter_row async) ≡ rows.Frame → ⊥
over_frame true true true over is = cc
over_frame true true false over is = cc
over_frame false true true over is = cc
over_frame false true false over is = cc
over_frame enabled false async over is = cc

frame_over : (run : Bool) (r : RegisterFile) (f : Walk) (part : MicroframePart) → part ≡ Periodic → is_over f ≡ true
    → (if run then part_row r f part else rows.Idle) ≡ rows.Frame → ⊥
frame_over true r f Periodic on over is = over_frame r.periodic_enable (is_over f) r.async_enable over is
frame_over true r f Over on over is = over_not_periodic on
frame_over true r f Asynchronous on over is = asynchronous_not_periodic on
frame_over false r f part on over is = cc

not_past : (fixed : Fixed) (w : World) → controller_row w ≡ rows.Frame → IsPastFrames w → ⊥
not_past fixed w row past =
    let on : w.control.part ≡ Periodic = in_periodic fixed w row in
    frame_over w.registers.run w.registers w.control.frame w.control.part on (past on) row

-- ---- what is carried, in the world w of the microframe that began with the world b

pub record IsStagedFrom (b : World) (e stage : ℕ) (x : EpDesc) (hub : ℕ) : Type 0 where
  pub staged : HasStaged stage (key_for x) (pipeline_for b.bus.hubs hub x.port)
  pub its : (y : Endpoint) → slice_get b.driver.endpoints e ≡ Some y → y.desc ≡ x
  pub shows : ShowsIndex b

-- so many microframes after that of its start-split
pub record IsStagedIn (w b : World) (e q start : ℕ) (p : Placement) (x : EpDesc) (hub : ℕ) : Type 0 where
  pub frames : IsInItsFrames w.driver e q p
  pub desc : frames.endpoint.desc ≡ x
  pub stage : ℕ
  pub count : stage + start ≡ microframe_of b.control.frame.index
  pub index : w.control.frame.index ≡ b.control.frame.index
  pub over : stage ≡ 0 → IsPastFrames w
  pub staged : HasStaged stage (key_for x) (pipeline_for w.bus.hubs hub x.port)
  pub begun : 1 ≤ stage → IsStagedFrom b e stage x hub

module _ (text : List ℕ) (s : Script) (spelled : Spells text s) (e q start : ℕ) (p : Placement) (x : EpDesc) (hub : ℕ)
    (alone : (u : ℕ) → u < 8 → u ≢ start → has p.smask u ≡ false) where
  abbrev fixed : Fixed
  fixed = fixed_of s

  module _ (k : ℕ) (t : IsStagedIn (moment s k).world (begun s k) e q start p x hub) (spared : AreSpared hub (moment s k).world.bus.hubs) where
    abbrev w : World
    w = (moment s k).world

    abbrev new : World
    new = controller_next (fixed_of s) (moment s k).world

    known : IsKnown (fixed_of s) (sides_of s) (began s k) (moment s k).world (so_far s k)
    known = known_at text s spelled k

    -- a microframe begins
    module _ (row : controller_row (moment s k).world ≡ rows.Begin) (mixed : IsMixedWorld (controller_next (fixed_of s) (moment s k).world))
        (has_index_new : HasFrameIndex (controller_next (fixed_of s) (moment s k).world))
        (frame : (controller_next (fixed_of s) (moment s k).world).control.frame.index / 8 ≡ (moment s k).world.control.frame.index / 8) where
      index_new : (controller_next (fixed_of s) (moment s k).world).control.frame.index ≡ next_index (moment s k).world.control.frame.index
      index_new = begins_index fixed w (shows_index text s spelled k) row mixed has_index_new

      next : (controller_next (fixed_of s) (moment s k).world).control.frame.index % 8 ≡ suc ((moment s k).world.control.frame.index % 8)
      next = (next_in_frame w.control.frame.index new.control.frame.index index_new frame).1

      bus_new : (controller_next (fixed_of s) (moment s k).world).bus
          ≡ begin_after (fixed_of s) (next_index (moment s k).world.registers.frame_index) (moment s k).world.bus
      bus_new = ap (λ (r : ControllerRow). (with_turned w (turned_by fixed r (controller_parts w) w.bus)).bus) row

      within : (next_index (moment s k).world.registers.frame_index % 8 == 0) ≡ false
      within = no_zero (next_index w.registers.frame_index % 8)
          (ap (λ (n : ℕ). next_index n % 8) (sym (shows_index text s spelled k)) ∙ ap (λ (n : ℕ). n % 8) (sym index_new) ∙ next)
        where
          no_zero : (n : ℕ) {m : ℕ} → n ≡ suc m → (n == 0) ≡ false
          no_zero n is = by (n == 0) refl
            where
              by : (b : Bool) → (n == 0) ≡ b → (n == 0) ≡ false
              by true none = let zero_is : n ≡ 0 = eqb-true n 0 none in absurd (omega (arith, zero_is, is))
              by false none = none

      staged_new : HasStaged (suc t.stage) (key_for x) (pipeline_for (controller_next (fixed_of s) (moment s k).world).bus.hubs hub x.port)
      staged_new =
          subst (λ (b : Bus). HasStaged (suc t.stage) (key_for x) (pipeline_for b.hubs hub x.port)) (sym bus_new)
          (begins_stage t.stage (key_for x) fixed (next_index w.registers.frame_index) w.bus hub x.port within t.staged)

      begins_staged : IsStagedIn (controller_next (fixed_of s) (moment s k).world) (controller_next (fixed_of s) (moment s k).world) e q start p
          x hub
      begins_staged =
          let count = t.count in
          let index = t.index in
          let same : w.control.frame.index % 8 ≡ microframe_of (begun s k).control.frame.index = ap (λ (n : ℕ). n % 8) index in
          record {
            frames = t.frames;
            desc = t.desc;
            stage = suc t.stage;
            count = omega (arith, count, same, next);
            index = refl;
            over = λ none. absurd (cc none);
            staged = staged_new;
            begun = λ one. record {
              staged = staged_new;
              its = λ y here. ap (λ (z : Endpoint). z.desc) (same_endpoint y t.frames.endpoint here t.frames.here) ∙ t.desc;
              shows = begins_shown fixed w (shows_index text s spelled k) row mixed has_index_new;
            };
          }
        where
          same_endpoint : (y z : Endpoint) → slice_get (moment s k).world.driver.endpoints e ≡ Some y
              → slice_get (moment s k).world.driver.endpoints e ≡ Some z → y ≡ z
          same_endpoint y z here there = let one : ◌≡◌ {A = _} (Some y) (Some z) = sym here ∙ there in cc one

    -- another event of the controller
    module _ (off : controller_row (moment s k).world ≢ rows.Begin) where
      abbrev Staged : World → Type 0
      Staged u = HasStaged t.stage (key_for x) (pipeline_for u.bus.hubs hub x.port)

      frame_staged : controller_row (moment s k).world ≡ rows.Frame → (n : ℕ) → t.stage ≡ n
          → HasStaged t.stage (key_for x) (pipeline_for (controller_next (fixed_of s) (moment s k).world).bus.hubs hub x.port)
      frame_staged row zero is = absurd (not_past fixed w row (t.over is))
      frame_staged row (suc n) is =
          let g = known.followed in
          let count = t.count in
          let index = t.index in
          let same : microframe_of w.control.frame.index ≡ microframe_of (begun s k).control.frame.index = ap microframe_of index in
          let there : HasStaged t.stage (key_for t.frames.endpoint.desc)
          (pipeline_for (moment s k).world.bus.hubs hub t.frames.endpoint.desc.port) =
          subst (λ (d : EpDesc). HasStaged t.stage (key_for d) (pipeline_for w.bus.hubs hub d.port)) (sym t.desc) t.staged in
          subst (λ (d : EpDesc). HasStaged t.stage (key_for d) (pipeline_for new.bus.hubs hub d.port)) t.desc
          (frame_stage fixed (sides_of s) g.standing g.lines g.heads w g.followed.piped known.heads known.sends row e q p t.frames
          (hubs_are_zero s) (are_known text s spelled k).named
          (alone (microframe_of w.control.frame.index) (omega arith) (λ own. omega (arith, own, count, same, is)))
          t.stage hub t.frames.endpoint.desc.port spared there)

      by_row : (r : ControllerRow) → controller_row (moment s k).world ≡ r
          → HasStaged t.stage (key_for x) (pipeline_for (controller_next (fixed_of s) (moment s k).world).bus.hubs hub x.port)
      by_row rows.Frame row = frame_staged row t.stage refl
      by_row rows.Begin row = absurd (off row)
      by_row rows.Idle row = other (λ frame. let never : rows.Idle ≡ rows.Frame = sym row ∙ frame in cc never)
        where
          other : controller_row (moment s k).world ≢ rows.Frame → Staged (controller_next (fixed_of s) (moment s k).world)
          other apart = past_stage t.stage (key_for x) fixed hub x.port w spared off apart t.staged
      by_row rows.Enter row =
          past_stage t.stage (key_for x) fixed hub x.port w spared off
          (λ frame. let never : rows.Enter ≡ rows.Frame = sym row ∙ frame in cc never) t.staged
      by_row rows.Go row =
          past_stage t.stage (key_for x) fixed hub x.port w spared off
          (λ frame. let never : rows.Go ≡ rows.Frame = sym row ∙ frame in cc never) t.staged
      by_row rows.End row =
          past_stage t.stage (key_for x) fixed hub x.port w spared off
          (λ frame. let never : rows.End ≡ rows.Frame = sym row ∙ frame in cc never) t.staged

      controller_staged : IsStagedIn (controller_next (fixed_of s) (moment s k).world) (begun s k) e q start p x hub
      controller_staged = record {
        frames = t.frames;
        desc = t.desc;
        stage = t.stage;
        count = t.count;
        index = index_on fixed w (shows_index text s spelled k) off ∙ t.index;
        over = λ none on.
            absurd (part_then fixed (sides_of s) (began s k) w (so_far s k) known (controller_row w) refl (world_has_row fixed w)
            (λ row. not_past fixed w row (t.over none)) off on);
        staged = by_row (controller_row w) refl;
        begun = t.begun;
      }

    -- an event of the driver, or a command
    aside_staged : (later : World) → later.control ≡ (moment s k).world.control → later.bus ≡ (moment s k).world.bus
        → IsStillIn later e q p t.frames.endpoint.desc → IsStagedIn later (begun s k) e q start p x hub
    aside_staged later control bus still = record {
      frames = still.frames;
      desc = still.same ∙ t.desc;
      stage = t.stage;
      count = t.count;
      index = ap (λ (c : Control). c.frame.index) control ∙ t.index;
      over = λ none on.
          ap (λ (c : Control). is_over c.frame) control ∙ t.over none (ap (λ (c : Control). c.part) (sym control) ∙ on);
      staged = subst (λ (b : Bus). HasStaged t.stage (key_for x) (pipeline_for b.hubs hub x.port)) (sym bus) t.staged;
      begun = t.begun;
    }

    abbrev Next : World → World → Type 0
    Next later after = IsStagedIn later after e q start p x hub

    by_next : (i : ℕ) → i ≤ k → IsOneFrame s i (suc k) → IsUncancelled (moment s (suc k)).world.driver e → GoesNow s k
        → IsStagedIn (moment s (suc k)).world (begun s (suc k)) e q start p x hub
    by_next i less one off (begins n) =
        subst (λ (u : World). Next (moment s (suc k)).world u) (sym n.begun)
        (subst (λ (u : World). Next u new) (sym n.world)
        (begins_staged n.row (subst IsMixedWorld n.world (texts_stay_mixed text s spelled (suc k)))
        (subst HasFrameIndex n.world (has_index text s spelled (suc k)))
        (ap (λ (u : World). u.control.frame.index / 8) (sym n.world) ∙ one.same (suc k) (omega (arith, less)) (omega arith)
        ∙ sym (one.same k less (omega arith)))))
    by_next i less one off (by_controller other world same) =
        subst (λ (u : World). Next (moment s (suc k)).world u) (sym same)
        (subst (λ (u : World). Next u (begun s k)) (sym world) (controller_staged other))
    by_next i less one off (by_driver world same) =
        subst (λ (u : World). Next (moment s (suc k)).world u) (sym same)
        (subst (λ (u : World). Next u (begun s k)) (sym world)
        (aside_staged (driver_next w) refl refl
        (driver_in_frames w known.mixed e q p (subst IsMixedWorld world (texts_stay_mixed text s spelled (suc k))) t.frames
        (subst (λ (u : World). IsUncancelled u.driver e) world off))))
    by_next i less one off (by_command n cmd world same) =
        subst (λ (u : World). Next (moment s (suc k)).world u) (sym same)
        (subst (λ (u : World). Next u (begun s k)) (sym world)
        (aside_staged (commanded w n cmd) (command_control w n cmd) (command_bus w n cmd)
        (command_in_frames w known.mixed n cmd e q p (subst IsMixedWorld world (texts_stay_mixed text s spelled (suc k))) t.frames
        (subst (λ (u : World). IsUncancelled u.driver e) world off))))
    by_next i less one off (stays world same) =
        subst (λ (u : World). Next (moment s (suc k)).world u) (sym same)
        (subst (λ (u : World). Next u (begun s k)) (sym world) t)

    pub staged_next : (i : ℕ) → i ≤ k → IsOneFrame s i (suc k) → IsUncancelled (moment s (suc k)).world.driver e
        → IsStagedIn (moment s (suc k)).world (begun s (suc k)) e q start p x hub
    staged_next i less one off = by_next i less one off (goes_now s k)
