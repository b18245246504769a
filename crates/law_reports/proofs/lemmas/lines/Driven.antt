-- Each event of the driver tells the same of each queue, but a harvest, which tells more, and an open, which tells of a new one.
use Rattle.std.proofs.Common.{◌≡◌, ◌≢◌, ℕ, Some, None, ap, refl, sym, subst, ◌∙◌}
use Rattle.law_world.proofs.Common.{none_some}
use Rattle.drv_table.specs.declared.content.Command.TheVariants as unfinished
use Rattle.drv_table.specs.Rows.{driver_row}
use Rattle.law_driver.proofs.lemmas.run_owners.Reasons.{each_event_is_due}
use Rattle.law_driver.specs.queued_drivers.Queued.{queued, queued_command}
use Rattle.law_driver.specs.queued_drivers.Rows.{TellsAlike}
use Rattle.law_world.specs.memory.Mixed.{Standing, IsMixedAt}
use Rattle.law_world.specs.memory.Steps.{AreStill, HasNoStep, left_alike, left_by_frames, left_by_bell, left_by_status, left_by_command}
use Rattle.law_world.specs.memory.Steps.{QueueStep, stays, harvests, returns, lends, stores, mends, begins, opens, unlinks, narrows, goes}
use Rattle.bus_world.specs.World.{World, driver_parts, driver_next}
use Rattle.law_reports.specs.lines.Lined.{in_hand, Lines, IsTelling, AreIsoGoing}
use Rattle.law_reports.specs.lines.TellingLaws.{IsTellingNext, DriverKeepsTelling, RowsKeepIsoGoing}
use Rattle.law_reports.proofs.lemmas.lines.Reports.{busy_tells}
use Rattle.law_reports.proofs.lemmas.lines.Commanding.{command_keeps_telling}
use Rattle.law_reports.proofs.lemmas.lines.FrameLines.{frame_tells}
use Rattle.law_reports.proofs.lemmas.lines.IsoGoing.{told_apart, row_goes}
use Rattle.law_reports.proofs.lemmas.lines.ToldGoes.{go_telling}
use Rattle.law_reports.proofs.lemmas.lines.ToldHarvests.{harvest_tells}
use Rattle.law_reports.proofs.lemmas.lines.ToldLends.{lend_telling}
use Rattle.law_reports.proofs.lemmas.lines.ToldMends.{mend_telling}
use Rattle.law_reports.proofs.lemmas.lines.ToldOpens.{begin_telling, open_tells}
use Rattle.law_reports.proofs.lemmas.lines.ToldReturns.{return_telling}
use Rattle.law_reports.proofs.lemmas.lines.ToldStays.{still_telling, still_tells, bell_telling, status_telling, narrow_telling, unlink_telling}
use Rattle.law_reports.proofs.lemmas.lines.ToldStores.{store_tells}

-- the driver tells nothing while a command is unfinished
pub same_report : (w : World) (q : ℕ) → (queued w.driver).command ≡ Some (unfinished.Open q)
    → TellsAlike (queued w.driver) (queued (driver_next w).driver)
same_report w q opening =
    let p = driver_parts w in
    let busy : w.driver.command ≢ None =
    λ idle. none_some (unfinished.Open q) (sym (ap (queued_command w.driver.endpoints) idle) ∙ opening) in
    let tells = busy_tells (driver_row (driver_parts w)) p (each_event_is_due p) busy in
    record { reports = tells.reports; store = tells.store }

module _ (s : Standing) (m : Lines) (w : World) (k : IsMixedAt s w) (g : IsTelling s m w) (going : AreIsoGoing w.driver) where
  -- no queue has a step
  quiet : (t : Standing) → HasNoStep w (driver_next w) → AreStill s t → IsTelling t m (driver_next w)
  quiet t (left_alike alike tells) still = still_tells s t m w (driver_next w) still alike tells g
  quiet t (left_by_frames alike of is) still = frame_tells s t m w k g going still alike of
  quiet t (left_by_bell is) still = bell_telling s m w (driver_next w) k g t still is
  quiet t (left_by_status heard is) still = status_telling s m w (driver_next w) k g t heard still is
  quiet t (left_by_command line cmd fits room is) still =
      let told : IsTelling s m (driver_next w) = subst (IsTelling s m) (sym is) (command_keeps_telling s m w line cmd fits room k g) in
      still_telling s t m (driver_next w) (driver_next w) still told.told (λ n on. on) told

  driven : (t : Standing) (step : QueueStep s w (driver_next w) t) → IsMixedAt t (driver_next w)
      → IsTellingNext s m w (driver_next w) t step
  driven _ (stays t none still) mixed = record { lines = m; after = refl; telling = quiet t none still }
  driven _ (harvests e t found due later is after) mixed =
      let h = harvest_tells s m w (driver_next w) e t found later k g due is after in
      record { lines = h.lines; after = h.more; telling = h.telling }
  driven _ (returns t y x is returning) mixed =
      record { lines = m; after = refl; telling = return_telling s m w (driver_next w) k g t y x returning is }
  driven _ (lends b words get order out is behind) mixed =
      record { lines = m; after = refl; telling = lend_telling s m w (driver_next w) k g b words get order out is behind mixed }
  driven _ (stores b words p is) mixed =
      record { lines = m; after = refl; telling = store_tells s m w (driver_next w) k g b words p is mixed }
  driven _ (mends at is) mixed = record { lines = m; after = refl; telling = mend_telling s m w (driver_next w) k g at is }
  driven _ (begins at next alike) mixed =
      record {
        lines = m;
        after = refl;
        telling = begin_telling s m w (driver_next w) k g at alike
            (same_report w at.endpoint.queue at.command);
      }
  driven _ (opens at t alike opened) mixed =
      let o = open_tells s t m w (driver_next w) k g at alike (same_report w at.endpoint.queue at.command) opened mixed in
      record { lines = o.lines; after = o.newly; telling = o.telling }
  driven _ (unlinks at is) mixed = record { lines = m; after = refl; telling = unlink_telling s m w (driver_next w) k g at is }
  driven _ (narrows member near is reached wider) mixed =
      record { lines = m; after = refl; telling = narrow_telling s m w (driver_next w) k g member near _ is }
  driven _ (goes e x d t gone without) mixed =
      record { lines = m; after = refl; telling = go_telling s m w k g e x d t gone without mixed }

pub driver_keeps_telling : DriverKeepsTelling
driver_keeps_telling s m w t step k mixed g going = driven s m w k g going t step mixed

pub rows_keep_iso_going : RowsKeepIsoGoing
rows_keep_iso_going s m w k g going =
    row_goes (driver_parts w) going (told_apart w.driver (in_hand s) s.parts m.reported g.told) (driver_row (driver_parts w))
    k.now.framed.place.sound.owners k.turns (each_event_is_due (driver_parts w))
