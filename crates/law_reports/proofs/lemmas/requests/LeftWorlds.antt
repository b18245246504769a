-- Each event and each command leave what is told of control endpoints that left the ring, and of those that were given back.
use Rattle.std.proofs.Common.{ℕ, ◌*◌, refl, sym, subst, inl}
use Rattle.script_types.specs.declared.scripts.Script.{Script}
use Rattle.script_fits.proofs.Texts.{spelled_fits}
use Rattle.bus_wire.specs.Bus.{fixed_of}
use Rattle.bus_world.specs.Opening.{opening_world}
use Rattle.bus_world.specs.World.{World, driver_next, controller_next, commanded}
use Rattle.claims_report.specs.Requests.{Request}
use Rattle.claims_world.specs.Requests.{Windows, no_windows, no_asks}
use Rattle.drv_table.specs.DriverContent.{DriverContent}
use Rattle.drv_table.specs.Offers.{offered}
use Rattle.law_driver.specs.queued_drivers.Queued.{queued}
use Rattle.law_scripts.specs.byte_answers.Bytes.{IsByteScript}
use Rattle.law_scripts.proofs.lemmas.script_bytes.Texts.{a_text_spells_bytes}
use Rattle.law_world.specs.memory.Mixed.{Standing, IsMixedAt}
use Rattle.law_world.specs.memory.Steps.{standing_then}
use Rattle.law_reports.specs.pipes.Declared.{sides_of as pipes_of}
use Rattle.law_reports.proofs.lemmas.lines.ToldGoes.{settled}
use Rattle.law_reports.proofs.lemmas.pipes.Controlled.{c as event_of, z as queues_of}
use Rattle.law_reports.specs.requests.Asking.{Sides}
use Rattle.law_reports.specs.requests.HighAsking.{HasHighAsks}
use Rattle.law_reports.specs.requests.HighGiven.{high_sides_of}
use Rattle.law_reports.specs.requests.LeftTold.{AreLeftToTell, CancelsStand}
use Rattle.law_reports.specs.requests.LeftTold.{DriverKeepsCancels, ControllerKeepsCancels, CommandKeepsCancels, TextsHaveCancels}
use Rattle.law_reports.proofs.lemmas.requests.lemmas.world_requests.Along.{holds_with_windows}
use Rattle.law_reports.proofs.lemmas.requests.HighController.{IsControlledHigh, controller_goes_on_high}
use Rattle.law_reports.proofs.lemmas.requests.HighMoments.{CanHigh, high_lines}
use Rattle.law_reports.proofs.lemmas.requests.HighOpening.{new_world_high_asks}
use Rattle.law_reports.proofs.lemmas.requests.HighWorld.{HasHighStep, driver_steps_high, command_stays_high}
use Rattle.law_reports.proofs.lemmas.requests.LeftCancels.{cancels_then}
use Rattle.law_reports.proofs.lemmas.requests.LeftCommanded.{left_commanded, cancels_commanded}
use Rattle.law_reports.proofs.lemmas.requests.LeftKept.{left_then, still_to_tell}
use Rattle.law_reports.proofs.lemmas.requests.LeftLeaves.{LeavesIt}
use Rattle.law_reports.proofs.lemmas.requests.LeftStays.{event_leaves_told}

-- ---- the driver

pub driver_keeps_cancels : DriverKeepsCancels
driver_keeps_cancels g fixed p v asks w k =
    let n : HasHighStep g fixed p v asks w k.high = driver_steps_high g fixed p v asks w k.high in
    record {
      high = n.after.high;
      left = subst (λ (t : Standing). AreLeftToTell g t asks (driver_next w)) (sym n.after.at)
          (record {
            each = λ i z left on.
                left_then g fixed p v asks w k.high k.left i z left on n.next.standing n.next.step n.next.mixed;
          });
      told = record {
        each = λ e z there control on gone.
            cancels_then g fixed p v asks w k.high k.left k.told e z there control on gone
            (λ x d t back without mixed.
            settled k.high.standing k.high.lines w k.high.piped.mixed k.high.piped.telling e x d t back without mixed) n.next.standing
            n.next.step n.next.mixed;
      };
    }

-- ---- the controller

pub controller_keeps_cancels : ControllerKeepsCancels
controller_keeps_cancels g fixed p v asks w fast k =
    let h : HasHighAsks g fixed p v asks w = k.high in
    let n : IsControlledHigh g fixed p v asks w k.high = controller_goes_on_high g fixed p v asks w fast k.high in
    let d : DriverContent = queued w.driver in
    let event = event_of fixed p h.standing h.lines h.heads w h.piped in
    record {
      high = n.high;
      left = subst (λ (t : Standing). AreLeftToTell g t asks (controller_next fixed w)) (sym n.at)
          (record {
            each = λ i z left on.
                let same : LeavesIt d d i z = record {
                  was = record { endpoint = z; here = left.here; queue = refl; dummy = refl; desc = refl; next = refl; gone = refl; ends = refl };
                  numbers = refl;
                  waiting_same = refl;
                  transfers = λ u y waits. waits.here;
                  notes = λ u b y waits one. refl;
                  mends = λ j o at. inl (j, at);
                } in
                still_to_tell g h.standing (standing_then h.standing w event.event) asks d d i z same refl
                (λ u b y waits one.
                event_leaves_told fixed h.standing w h.piped.mixed event (queues_of fixed p h.standing h.lines h.heads w h.piped) i
                (32 * b) z
                left) (k.left.each i z left on);
          });
      told = record { each = k.told.each };
    }

-- ---- a command

pub command_keeps_cancels : CommandKeepsCancels
command_keeps_cancels g fixed p v asks w line cmd fits declares suits bytes room k =
    let n = command_stays_high g fixed p v asks w line cmd fits declares suits bytes room k.high in
    record {
      high = n.high;
      left = subst (λ (t : Standing). AreLeftToTell g t _ (commanded w line cmd)) (sym n.at)
          (left_commanded g fixed p v asks w k.high line cmd k.left (offered w.driver w.memory cmd) refl
          (subst (λ (t : Standing). IsMixedAt t (commanded w line cmd)) n.at n.high.piped.mixed));
      told = cancels_commanded g fixed p v asks w k.high line cmd k.told (offered w.driver w.memory cmd) refl;
    }

-- ---- each moment of a script

-- before the first line there is no endpoint
none_left : (s : Script) (h : HasHighAsks (high_sides_of s) (fixed_of s) (pipes_of s) no_windows no_asks (opening_world s))
    → CancelsStand (high_sides_of s) (fixed_of s) (pipes_of s) no_windows no_asks (opening_world s)
none_left s h = record {
  high = h;
  left = record { each = λ e x left. absurd (let here = left.here in cc) };
  told = record { each = λ e z here. absurd cc };
}

pub texts_have_cancels : TextsHaveCancels
texts_have_cancels text s spelled n =
    let g : Sides = high_sides_of s in
    let bytes : IsByteScript s = a_text_spells_bytes text s spelled in
    holds_with_windows (CanHigh s)
    (λ (w : World) (v : Windows) (asks : ℕ → Request). CancelsStand (high_sides_of s) (fixed_of s) (pipes_of s) v asks w) s
    (spelled_fits text s spelled) (high_lines text s spelled)
    (none_left s (new_world_high_asks s g (spelled_fits text s spelled) bytes (λ addr num c first. first)))
    (record {
      driver = λ w v asks h. driver_keeps_cancels g (fixed_of s) (pipes_of s) v asks w h;
      controller = λ w v asks h. controller_keeps_cancels g (fixed_of s) (pipes_of s) v asks w (λ speed on. on) h;
      command = λ w line cmd v asks can room h.
          command_keeps_cancels g (fixed_of s) (pipes_of s) v asks w line cmd can.fits can.declares can.suits can.bytes room h;
    }) n
