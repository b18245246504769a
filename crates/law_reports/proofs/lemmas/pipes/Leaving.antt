-- Which endpoints a step of a queue gives back, and that one that is being opened stays so until its open ends.
use Rattle.std.proofs.Common.{◌≡◌, ℕ, ◌*◌, true, false, List, slice_get, Some, None, Result, Ok, Err, ap, refl, sym, subst, ◌∙◌}
use Rattle.std.proofs.Common.{zero, suc, [], ◌∷◌, ◌++◌}
use Rattle.std.proofs.lemmas.Option.{same_Some}
use Rattle.law_world.proofs.Common.{unlink_open, none_some}
use Rattle.law_reports.proofs.Common.{publish_open}
use Rattle.law_driver.proofs.Common.{of_queue, get_queued}
use Rattle.law_microframes.proofs.Common.{idle_by}
use Rattle.usb_base.specs.declared.commands.Cmd.{Cmd}
use Rattle.usb_base.specs.declared.reports.OfferError.{OfferError}
use Rattle.drv_periodic_table.specs.declared.content.Removed.TheVariants as removed
use Rattle.drv_table.specs.declared.content.Command.TheVariants as unfinished
use Rattle.drv_table.specs.declared.content.Endpoint.{Endpoint}
use Rattle.drv_table.specs.declared.rows.DriverRow.{DriverRow}
use Rattle.drv_table.specs.declared.rows.DriverRow.TheVariants as rows
use Rattle.drv_table.specs.Accepting.{Offered}
use Rattle.drv_table.specs.DriverContent.{DriverContent}
use Rattle.drv_table.specs.Kinds.{is_iso}
use Rattle.drv_table.specs.Offers.{offered}
use Rattle.drv_table.specs.Parts.{Parts}
use Rattle.drv_table.specs.Rows.{driver_row}
use Rattle.law_driver.specs.queued_drivers.Queued.{queued_endpoint, queued}
use Rattle.law_driver.proofs.lemmas.queued_drivers.CommandReasons.{reason_of}
use Rattle.law_driver.proofs.lemmas.queued_drivers.RowEvents.{idle_told}
use Rattle.law_driver.proofs.lemmas.run_owners.Commands.{each_command_has_its_reason}
use Rattle.law_driver.proofs.lemmas.run_owners.Reasons.{each_event_is_due}
use Rattle.law_driver.specs.run_owners.Due.{IsDue}
use Rattle.law_queues.specs.mended_heads.Owed.{store_due}
use Rattle.law_world.specs.memory.Mixed.{Standing, IsMixedAt}
use Rattle.law_world.specs.memory.Steps.{told_parts, IsToldRow, LeftBy, left_the_ring, left_its_frames, HasNoStep}
use Rattle.law_world.specs.memory.Steps.{left_alike, left_by_frames, left_by_bell, left_by_status, left_by_command}
use Rattle.law_world.specs.memory.Steps.{QueueStep, stays, harvests, returns, lends, stores, mends, begins, opens, unlinks, narrows, goes}
use Rattle.law_world.specs.memory.pipe_steps.Laws.{IsNoOpening}
use Rattle.law_world.proofs.lemmas.memory.RingBasis.{due_is}
use Rattle.bus_world.specs.World.{World, driver_next, name_in, commanded_by}
use Rattle.law_reports.proofs.lemmas.pipes.Accepted.{EndsThen, one_more, one_anew, ends_then}
use Rattle.law_reports.proofs.lemmas.pipes.KeepsGone.{KeepsGone, IsNoRelease, same, one, row_keeps}

-- as the queues tell it, and so of an endpoint with a queue
abbrev pub KeepsQueues : DriverContent → DriverContent → Type 0
KeepsQueues d f = (i : ℕ) (y z : Endpoint) → slice_get d.endpoints i ≡ Some y → slice_get f.endpoints i ≡ Some z
    → is_iso y.desc.kind ≡ false → is_iso z.desc.kind ≡ false → z.gone ≡ true → y.gone ≡ true

of_queues : (d f : DriverContent) → KeepsGone (queued d).endpoints (queued f).endpoints → KeepsQueues d f
of_queues d f k i y z here there queue also gone =
    ap (λ (v : Endpoint). v.gone) (sym (of_queue y queue))
    ∙ k i (queued_endpoint y) (queued_endpoint z) (get_queued d.endpoints i y here) (get_queued f.endpoints i z there)
    (ap (λ (v : Endpoint). v.gone) (of_queue z also) ∙ gone)

of_reals : (d f : DriverContent) → KeepsGone d.endpoints f.endpoints → KeepsQueues d f
of_reals d f k i y z here there queue also gone = k i y z here there gone

pushed_keeps : (xs : List Endpoint) (x : Endpoint) → KeepsGone xs (xs ++ x ∷ [])
pushed_keeps [] x i y z here there gone = absurd cc
pushed_keeps (v ∷ vs) x zero y z here there gone = ap (λ (u : Endpoint). u.gone) (same_Some y z (sym here ∙ there)) ∙ gone
pushed_keeps (v ∷ vs) x (suc i) y z here there gone = pushed_keeps vs x i y z here there gone

pub accepted_keeps : (d f : DriverContent) (cmd : Cmd) → EndsThen d f cmd → KeepsGone d.endpoints f.endpoints
accepted_keeps d f cmd (one_more x asked ends kept newest tells) = subst (KeepsGone d.endpoints) (sym ends) (pushed_keeps d.endpoints x)
accepted_keeps d f cmd (one_anew e y z at ends comes kept never tells) =
    subst (KeepsGone d.endpoints) (sym ends) (one d.endpoints e y z at kept)

-- while a command is unfinished
busy_gives_none : (row : DriverRow) (p : Parts) → IsDue p row → (p.driver.command ≡ None → ⊥) → IsNoRelease row
busy_gives_none (rows.ReleaseEndpoint e) p due busy = absurd (busy due.idle)
busy_gives_none (rows.ReleaseRemoved (removed.Endpoint e)) p due busy = absurd (busy due.idle)
busy_gives_none (rows.ReleaseRemoved (removed.Descriptor t)) p due busy = tt
busy_gives_none _ p due busy = tt

-- ---- a step

abbrev pub IsNoReturn : {s : Standing} {w new : World} {t : Standing} → QueueStep s w new t → Type 0
IsNoReturn (goes e x d t back is) = ⊥
IsNoReturn _ = Unit {0}

module _ (s : Standing) (w : World) (mixed : IsMixedAt s w) where
  told_row : (row : DriverRow) → IsNoRelease row → IsToldRow w (driver_next w) row → KeepsQueues w.driver (driver_next w).driver
  told_row row other is =
      of_queues w.driver (driver_next w).driver
      (subst (λ (f : DriverContent). KeepsGone (queued w.driver).endpoints f.endpoints) (sym is.told) (row_keeps row (told_parts w) other))

  alike_keeps : (queued (driver_next w).driver).endpoints ≡ (queued w.driver).endpoints → KeepsQueues w.driver (driver_next w).driver
  alike_keeps is =
      of_queues w.driver (driver_next w).driver (same (queued w.driver).endpoints (queued (driver_next w).driver).endpoints is)

  offer_keeps : (line : ℕ) (cmd : Cmd) (r : Result Offered OfferError) → offered w.driver w.memory cmd ≡ r
      → driver_next w ≡ commanded_by w line (name_in cmd) r → KeepsQueues w.driver (driver_next w).driver
  offer_keeps line cmd (Ok o) is next =
      of_reals w.driver (driver_next w).driver
      (subst (λ (v : World). KeepsGone w.driver.endpoints v.driver.endpoints) (sym next)
      (accepted_keeps w.driver o.driver cmd (ends_then w.driver w.memory o cmd (reason_of w.driver w.memory cmd o is))))
  offer_keeps line cmd (Err why) is next = alike_keeps (ap (λ (v : World). (queued v.driver).endpoints) next)

  quiet_keeps : HasNoStep w (driver_next w) → KeepsQueues w.driver (driver_next w).driver
  quiet_keeps (left_alike alike tells) = alike_keeps alike.endpoints
  quiet_keeps (left_by_frames alike of is) = alike_keeps alike.endpoints
  quiet_keeps (left_by_bell is) = told_row rows.RingBell tt is
  quiet_keeps (left_by_status heard is) = told_row (rows.ReadStatus heard) tt is
  quiet_keeps (left_by_command line cmd fits room is) = offer_keeps line cmd (offered w.driver w.memory cmd) refl is

  pub step_keeps : (t : Standing) (step : QueueStep s w (driver_next w) t) → IsNoReturn step → KeepsQueues w.driver (driver_next w).driver
  step_keeps _ (stays t none still) other = quiet_keeps none
  step_keeps _ (harvests e t found due later is out) other = told_row (rows.Harvest e t found) tt is
  step_keeps _ (returns t y x is r) other = told_row (rows.ReleaseTransfer t) tt is
  step_keeps _ (lends b words get order out is behind) other = told_row rows.Lend tt is
  step_keeps _ (stores b words g is) other =
      of_queues w.driver (driver_next w).driver
      (subst (λ (f : DriverContent). KeepsGone (queued w.driver).endpoints f.endpoints) (sym is.told)
      (row_keeps (driver_row (told_parts w)) (told_parts w)
      (busy_gives_none (driver_row (told_parts w)) (told_parts w) (each_event_is_due (told_parts w))
      (λ none. none_some (unfinished.Publish b words) (sym none ∙ is.command)))))
  step_keeps _ (mends k is) other = told_row (rows.Mend (store_due k.stalled)) tt is
  step_keeps _ (begins k is alike) other = alike_keeps alike.endpoints
  step_keeps _ (opens k t alike opened) other = alike_keeps alike.endpoints
  step_keeps _ (unlinks k is) other = told_row (rows.Store k.before (32 * k.before) _) tt is
  step_keeps _ (narrows member near is are fewer) other = told_row rows.ClearAdvance tt is
  step_keeps _ (goes e x d t back is) other = absurd other

  -- ---- an open

  idle_never : (queued w.driver).command ≡ None → (q : ℕ) → (queued w.driver).command ≡ Some (unfinished.Open q) → ⊥
  idle_never idle q is = none_some (unfinished.Open q) (sym idle ∙ is)

  abbrev OpensStill : Type 0
  OpensStill = (q : ℕ) → (queued w.driver).command ≡ Some (unfinished.Open q) → (queued (driver_next w).driver).command ≡ Some
      (unfinished.Open q)

  of_idle : (queued w.driver).command ≡ None → OpensStill
  of_idle idle q is = absurd (idle_never idle q is)

  by_offer : (line : ℕ) (cmd : Cmd) (r : Result Offered OfferError) → offered w.driver w.memory cmd ≡ r
      → driver_next w ≡ commanded_by w line (name_in cmd) r → OpensStill
  by_offer line cmd (Ok o) is next =
      of_idle (idle_told w.driver (idle_by w.driver w.memory o (each_command_has_its_reason w.driver w.memory cmd o is)))
  by_offer line cmd (Err why) is next = λ q opening. ap (λ (v : World). (queued v.driver).command) next ∙ opening

  quiet_opens : HasNoStep w (driver_next w) → OpensStill
  quiet_opens (left_alike alike tells) = λ q opening. alike.command ∙ opening
  quiet_opens (left_by_frames alike of is) = λ q opening. alike.command ∙ opening
  quiet_opens (left_by_bell is) = of_idle (idle_told w.driver (due_is s w mixed rows.RingBell is.next).0)
  quiet_opens (left_by_status heard is) = of_idle (idle_told w.driver (due_is s w mixed (rows.ReadStatus heard) is.next).0)
  quiet_opens (left_by_command line cmd fits room is) = by_offer line cmd (offered w.driver w.memory cmd) refl is

  given_opens : (e : ℕ) (d : DriverContent) → LeftBy w e d → OpensStill
  given_opens e _ (left_the_ring is) = of_idle (idle_told w.driver (due_is s w mixed (rows.ReleaseEndpoint e) is).idle)
  given_opens e _ (left_its_frames is) =
      of_idle (idle_told w.driver (due_is s w mixed (rows.ReleaseRemoved (removed.Endpoint e)) is).idle)

  pub step_opens : (t : Standing) (step : QueueStep s w (driver_next w) t) → IsNoOpening step → OpensStill
  step_opens _ (stays t none still) other = quiet_opens none
  step_opens _ (harvests e t found due later is out) other = of_idle due.idle
  step_opens _ (returns t y x is r) other = of_idle r.free
  step_opens _ (lends b words get order out is behind) other = λ q opening. absurd (publish_open b words q (sym get.command ∙ opening))
  step_opens _ (stores b words g next) other = λ q opening. absurd (publish_open b words q (sym next.command ∙ opening))
  step_opens _ (mends k is) other = of_idle (idle_told w.driver k.idle)
  step_opens _ (begins k is alike) other = λ q opening. alike.command ∙ opening
  step_opens _ (opens k t alike opened) other = absurd other
  step_opens _ (unlinks k is) other = λ q opening. absurd (unlink_open _ _ _ q (sym k.command ∙ opening))
  step_opens _ (narrows member near is are fewer) other =
      of_idle (idle_told w.driver (due_is s w mixed rows.ClearAdvance is.next).0)
  step_opens _ (goes e x d t back is) other = given_opens e d back.left
